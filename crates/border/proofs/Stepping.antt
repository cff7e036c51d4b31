-- One step as it is made: which cells it keeps, what it makes, and how many columns it closes.
-- Assumes nothing.
use mathlib.Core.Path.{◌≡◌, refl, sym, ap, ◌∙◌}
use mathlib.Core.List.{List, ◌∷◌, ◌++◌}
use Prim.Native.Nat.{ℕ, ◌+◌, ◌-◌, ◌≤◌, ◌<◌}
use native.Mathlib.Decide.{dec_lt}
use native.Mathlib.Nat.{add-zero}
use native.Mathlib.Omega.{arith}
use lib.ListN.{length, get_or, take, drop, replicate, length-replicate}
use Rattle.std.specs.Prelude.{Option, None, Some}
use Rattle.answers.specs.After.{After}
use Rattle.answers.proofs.Laws.{overwrite-part}
use Rattle.key.specs.Picture.{Px}
use Rattle.window.specs.declared.Window.{Window}
use Rattle.window.specs.Blocks.{exponent, maximal}
use Rattle.window.specs.Keys.{key_of}
use Rattle.map.specs.Records.{pixel_exponent}
use Rattle.map.proofs.Laws.{pixel_tile, tiles}
use Rattle.used.specs.Used.{Usable, spent}
use Rattle.used.proofs.Laws.{spent-is, spent-beyond}
use Rattle.border.specs.declared.Opened.{Opened}
use Rattle.border.specs.Border.{Stated, Covered}
use Rattle.border.specs.Cells.{filled}
use Rattle.border.specs.Step.{reach, step_of, made_by, Corner, Ready, Step}
use Rattle.border.specs.Found.{steps_make, steps_leave, columns_left, Kept}
use Rattle.border.proofs.Filled.{pushed-length, pushed-beyond}
use Rattle.border.proofs.Columns.{left-pushed}
use Rattle.border.proofs.Sweep.{Out}
use Rattle.border.proofs.Stays.{skip-iff, fresh-high}
use Rattle.border.proofs.Making.{low-is, high_is}
use Rattle.border.proofs.Steps.{opened-not-skipped, step-skipped, step-opened}
use Rattle.border.proofs.Earlier.{stated-out}

pub kept-none : {W : Window} {cells : List ℕ} → Kept W cells cells
kept-none = record { same = refl; beyond = refl }

pub kept_more : {W : Window} {a b c : List ℕ} → Kept W a b → Kept W b c → Kept W a c
kept_more k l = record { same = l.same ∙ k.same; beyond = l.beyond ∙ k.beyond }

pub spent-kept : {W : Window} {cells border : List ℕ} → Kept W cells border → spent W border ≡ spent W cells
spent-kept {W} {cells} {border} k = spent-beyond W border cells k.beyond

pub filled-spent : (W : Window) (cells : List ℕ) → W.w ≤ length cells → filled 0 W.w (W.r0 + W.h) cells ≡ spent W cells
unfolding filled
filled-spent W cells l =
    let z : W.w - 0 ≡ W.w = omega arith in
    let y : 0 + (W.w - 0) ≡ W.w = omega arith in
    let e : take 0 cells ++ replicate (W.w - 0) (W.r0 + W.h) ++ drop (0 + (W.w - 0)) cells ≡ replicate W.w (W.r0 + W.h) ++ drop W.w cells = rw (y, z) in
    let n : length (replicate W.w (W.r0 + W.h)) ≡ W.w = length-replicate W.w (W.r0 + W.h) in
    e ∙ rw n at (overwrite-part (replicate W.w (W.r0 + W.h)) cells) ∙ sym (spent-is W cells)

-- ---- one step

same-opened : {o p : Opened} → Some o ≡ Some p → o ≡ p
same-opened e = cc

module _ {m top : ℕ} {keys : List ℕ} {W : Window} {b : Px} {cells border : List ℕ} {answer : Option Opened} (S : Step m top keys W b cells answer border) where
  pub step_kept : Corner W top b → W.w ≤ length cells → Kept W cells border
  step_kept K wide = rw (ap (λ (x : After (Option Opened) (List ℕ)). x.lent) S.is) (go (dec_lt b.0 (get_or cells (b.1 - W.c0) 0)))
    where
      go : Dec (b.0 < get_or cells (b.1 - W.c0) 0) → Kept W cells (step_of m top keys W b cells).lent
      go (yes l) = rw (high_is m top keys W b cells l) kept-none
      go (no h) = rw (low-is m top keys W b cells (omega (arith, h))) (record {
        same = pushed-length (reach W top (pixel_exponent m keys) b) cells K.inside wide;
        beyond = pushed-beyond (reach W top (pixel_exponent m keys) b) cells K.inside wide;
      })

  -- an opened block is opened by its key, and told with its reach
  pub step-key : {o : Opened} → answer ≡ Some o → (o.key ≡ key_of m top W b) × (o.run.reach ≡ reach W top (pixel_exponent m keys) b)
  step-key {o} e = go (dec_lt b.0 (get_or cells (b.1 - W.c0) 0))
    where
      go : Dec (b.0 < get_or cells (b.1 - W.c0) 0) → (o.key ≡ key_of m top W b) × (o.run.reach ≡ reach W top (pixel_exponent m keys) b)
      go (yes l) = absurd (opened-not-skipped (sym e ∙ S.skips.1 l))
      go (no h) =
          let d = ap (λ (x : After (Option Opened) (List ℕ)). x.answer) (S.is ∙ low-is m top keys W b cells (omega (arith, h))) in
          let same = same-opened (sym e ∙ d) in
          (ap (λ (o : Opened). o.key) same, ap (λ (o : Opened). o.run.reach) same)

  pub made-step : (bs : List Px) → steps_make m top keys W cells (b ∷ bs) ≡ made_by answer ++ steps_make m top keys W border bs
  unfolding steps_make
  made-step bs = ap (λ (x : After (Option Opened) (List ℕ)). made_by x.answer ++ steps_make m top keys W x.lent bs) (sym S.is)

  pub left_step : (bs : List Px) → steps_leave m top keys W cells (b ∷ bs) ≡ steps_leave m top keys W border bs
  unfolding steps_leave
  left_step bs = ap (λ (x : After (Option Opened) (List ℕ)). steps_leave m top keys W x.lent bs) (sym S.is)

-- how many columns a step closes
unfoldable pub shut_by : Option Opened → ℕ
shut_by None = 0
shut_by (Some o) = o.closed

-- on cells that are as stated, so many fewer columns are left after it
pub step_left : {m top : ℕ} {keys : List ℕ} {W : Window} {b : Px} {cells border : List ℕ} {answer : Option Opened} (past rest : List Px) → Usable m top keys W (length cells) → Corner W top b
    → maximal W top ≡ past ++ b ∷ rest → Stated W (Covered m top keys W past) cells → Step m top keys W b cells answer border
    → columns_left W border + shut_by answer ≡ columns_left W cells
unfolding shut_by
step_left {m} {top} {keys} {W} {b} {cells} {border} {answer} past rest U K split st S = go (dec_lt b.0 (get_or cells (b.1 - W.c0) 0))
  where
    o : Stated W (Out W top (pixel_tile m keys) b) cells
    o = stated-out U.spaced U.inside U.cap past b rest split st

    go : Dec (b.0 < get_or cells (b.1 - W.c0) 0) → columns_left W border + shut_by answer ≡ columns_left W cells
    go (yes l) = ap (λ (x : After (Option Opened) (List ℕ)). columns_left W x.lent + shut_by x.answer) (S.is ∙ high_is m top keys W b cells l) ∙ add-zero (columns_left W cells)
    go (no h) =
        let fresh : ¬ Out W top (pixel_tile m keys) b b = λ z. h ((skip-iff U.inside (tiles U.spaced) K o).1 z) in
        ap (λ (x : After (Option Opened) (List ℕ)). columns_left W x.lent + shut_by x.answer) (S.is ∙ low-is m top keys W b cells (omega (arith, h)))
        ∙ left-pushed (reach W top (pixel_exponent m keys) b) cells K.inside U.wide (λ c x y e. omega (arith, fresh-high U.inside (tiles U.spaced) K fresh o x y e, K.inside))

-- a step, as it is made
pub stepped-on : {m top : ℕ} {keys : List ℕ} {W : Window} {b : Px} (cells : List ℕ) → Usable m top keys W (length cells) → Corner W top b
    → (answer : Option Opened) × (border : List ℕ) × Step m top keys W b cells answer border
stepped-on {m} {top} {keys} {W} {b} cells U K = go (dec_lt b.0 (get_or cells (b.1 - W.c0) 0))
  where
    ready : Ready m top keys W b (exponent W top b) (length cells)
    ready = record { given = U; corner = K; size = refl }

    go : Dec (b.0 < get_or cells (b.1 - W.c0) 0) → (answer : Option Opened) × (border : List ℕ) × Step m top keys W b cells answer border
    go (yes l) = (None, cells, step-skipped ready cells l)
    go (no h) = (_, _, step-opened ready cells (omega (arith, h)) U.wide refl refl refl refl)
