-- On cells that are as stated, what a step makes is what the fold makes of its block. So what is said of the cells by the step's answer is said by the fold too.
-- Assumes nothing.
use mathlib.Core.Path.{◌≡◌, sym, ap, ◌∙◌}
use mathlib.Core.Logic.{◌↔◌, ◌⊎◌}
use mathlib.Core.Bool.{true}
use mathlib.Core.List.{List, [], ◌∷◌, ◌++◌}
use Prim.Native.Nat.{ℕ, ◌-◌, ◌≤◌, ◌<◌}
use native.Mathlib.Decide.{dec_lt}
use native.Mathlib.Omega.{arith}
use lib.ListN.{get_or}
use borrow.Author.Tests.{lt-ltb, le-ltb}
use Rattle.lists.proofs.Laws.{refuted}
use Rattle.std.specs.Prelude.{Option, None, Some}
use Rattle.answers.specs.After.{After, after}
use Rattle.key.specs.Picture.{Px}
use Rattle.window.specs.declared.Window.{Window}
use Rattle.window.specs.Window.{Inside}
use Rattle.window.specs.Blocks.{maximal}
use Rattle.window.specs.Keys.{key_of}
use Rattle.map.specs.Sound.{Spaced}
use Rattle.map.specs.Records.{pixel_exponent}
use Rattle.map.specs.Runs.{run, run_of}
use Rattle.map.proofs.Laws.{pixel_tile, tiles}
use Rattle.border.specs.declared.Opened.{Opened}
use Rattle.border.specs.Openings.{is_handed, Opening, opening, open_from, all_hands}
use Rattle.border.specs.Border.{Stated, opened_by, CoveredBy, Covered}
use Rattle.border.specs.Cells.{pushed, closed}
use Rattle.border.specs.Step.{reach, opened, step_of, made_by, Step}
use Rattle.border.proofs.Gone.{handed_by, hands_by}
use Rattle.border.proofs.Sweep.{Out, Now}
use Rattle.border.proofs.Stays.{skip-iff}
use Rattle.border.proofs.Fold.{opens-none, skip-opens, take-opens, opened-snoc, handed-opened}
use Rattle.border.proofs.Hands.{hands-append}
use Rattle.border.proofs.Covering.{covered-append}
use Rattle.border.proofs.Earlier.{own-corner, stated-out, stated-now, skip-test}

-- ---- the two ways of a step

module _ (m top : ℕ) (keys : List ℕ) (W : Window) (b : Px) (cells : List ℕ) where
  abbrev size : ℕ
  size = reach W top (pixel_exponent m keys) b

  pub low-is : get_or cells (b.1 - W.c0) 0 ≤ b.0
      → let met = run_of m keys (key_of m top W b) in
      step_of m top keys W b cells ≡ after (Some (opened (key_of m top W b) (run met.first met.count size) (closed W size b))) (pushed W size b cells)
  unfolding step_of
  low-is l = rw (le-ltb b.0 (get_or cells (b.1 - W.c0) 0) l)

  pub high_is : b.0 < get_or cells (b.1 - W.c0) 0 → step_of m top keys W b cells ≡ after None cells
  unfolding step_of
  high_is l = rw (lt-ltb b.0 (get_or cells (b.1 - W.c0) 0) l)

-- ---- a step and the fold

module _ {m top : ℕ} {keys : List ℕ} (F : Spaced m 0 keys) {W : Window} (I : Inside m W) (small : top ≤ m)
    (before : List Px) (b : Px) (later : List Px) (split : maximal W top ≡ before ++ b ∷ later)
    {cells : List ℕ} (st : Stated W (Covered m top keys W before) cells) where
  -- the cells tell whether the block lies in a record handed out
  told : (b.0 < get_or cells (b.1 - W.c0) 0) ↔ (is_handed m keys (handed_by m top keys W before) (key_of m top W b) ≡ true)
  told =
      let a = skip-iff I (tiles F) (own-corner before b later split) (stated-out F I small before b later split st) in
      let z = skip-test F I small before b later split in
      (λ l. z.1 (a.0 l), λ e. a.1 (z.0 e))

  module _ {answer : Option Opened} {border : List ℕ} (is : after answer border ≡ step_of m top keys W b cells) where
    pub made-is : made_by answer ≡ open_from m keys (handed_by m top keys W before) (key_of m top W b ∷ [])
    unfolding made_by opening
    made-is = go (dec_lt b.0 (get_or cells (b.1 - W.c0) 0))
      where
        handed : List ℕ
        handed = handed_by m top keys W before

        key : ℕ
        key = key_of m top W b

        go : Dec (b.0 < get_or cells (b.1 - W.c0) 0) → made_by answer ≡ open_from m keys handed (key ∷ [])
        go (yes l) =
            let e : answer ≡ None = ap (λ (x : After (Option Opened) (List ℕ)). x.answer) (is ∙ high_is m top keys W b cells l) in
            rw (e, skip-opens m keys handed key [] (told.0 l), opens-none)
        go (no h) =
            let e : answer ≡ _ = ap (λ (x : After (Option Opened) (List ℕ)). x.answer) (is ∙ low-is m top keys W b cells (omega (arith, h))) in
            rw (e, take-opens m keys handed key [] (refuted _ (λ t. h (told.1 t))), opens-none)

    -- behind the block the openings made are those made before it and what the step has made
    pub opened-step : opened_by m top keys W (before ++ b ∷ []) ≡ opened_by m top keys W before ++ made_by answer
    opened-step = opened-snoc m top keys W before b ∙ ap (λ (os : List Opening). opened_by m top keys W before ++ os) (sym made-is)

    -- so a pixel is covered behind it exactly when it was before it or is by what the step has made
    pub covered-step : {p : Px} → Covered m top keys W (before ++ b ∷ []) p ↔ (Covered m top keys W before p ⊎ CoveredBy m keys (made_by answer) p)
    covered-step = rw opened-step (covered-append m keys (opened_by m top keys W before) (made_by answer))

    -- and the records handed out are those handed out before it and those that the step hands out
    pub handed-step : handed_by m top keys W (before ++ b ∷ []) ≡ handed_by m top keys W before ++ hands_by answer
    handed-step =
        handed-opened m top keys W (before ++ b ∷ [])
        ∙ ap all_hands opened-step
        ∙ hands-append (opened_by m top keys W before) (made_by answer)
        ∙ ap (λ (ns : List ℕ). ns ++ hands_by answer) (sym (handed-opened m top keys W before))

    -- cells that are stated by what is out behind the block are so by what the step has made
    pub stated-made : Stated W (λ p. Out W top (pixel_tile m keys) b p ⊎ Now W top (pixel_tile m keys) b p) border
        → Stated W (CoveredBy m keys (opened_by m top keys W before ++ made_by answer)) border
    stated-made now = rw (← opened-step) (stated-now F I small before b later split now)

  -- so the cells that a step leaves are stated by what the fold covers behind the block
  pub stated-step : {answer : Option Opened} {border : List ℕ} → Step m top keys W b cells answer border → Stated W (Covered m top keys W (before ++ b ∷ [])) border
  stated-step S = rw (opened-step S.is) (S.stays before later split st)
