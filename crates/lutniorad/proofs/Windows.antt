-- What many windows promise, from the contract of the call alone.
-- Assumes nothing.
use mathlib.Core.Path.{◌≡◌, refl, sym, ap, ◌∙◌}
use mathlib.Core.Logic.{◌↔◌}
use mathlib.Core.List.{List}
use Prim.Native.Nat.{ℕ, ◌*◌, ◌≤◌, ◌<◌}
use native.Mathlib.Omega.{arith}
use lib.ListN.{length, get_or, take, drop, length-drop}
use lib.Seq.{take-take, take-append-le, drop-append-le, get_or-take, get_or-drop}
use Rattle.std.specs.Prelude.{Result, Ok, Err}
use Rattle.answers.specs.declared.Refused.{Refused}
use Rattle.answers.specs.Refusals.{Refusal, answer, verdict, refuse}
use Rattle.answers.specs.Cells.{overwrite}
use Rattle.answers.specs.After.{After, after, unless}
use Rattle.answers.proofs.Laws.{on-passed, on-refused, overwrite-part, take-overwrite, drop-overwrite}
use Rattle.window.specs.declared.Window.{Window}
use Rattle.map.specs.Sound.{SoundMap}
use Rattle.many.specs.Many.{window_at, windows_in, line_of, line_cells, lines_of, left_by, many_refusals}
use Rattle.many.specs.Promises.{InFours, Askable}
use Rattle.many.proofs.Laws.{line_refused, lines-length, lines_at, widest-wider, left-length, left-cell}
use Rattle.many.proofs.Laws.{many-askable, many-25, numbered-many, many_is}
use Rattle.lutniorad.specs.declared.Answer.{Answer}
use Rattle.lutniorad.specs.Numbers.{values, refusing, of_count}
use Rattle.lutniorad.specs.Calls.{Windows}
use Rattle.lutniorad.specs.ManyPromises.{WindowsPromise}
use Rattle.lutniorad.proofs.Crossing.{both-slices, unless-crossed}
use Rattle.lutniorad.proofs.Told.{four, told-most, told-when, told-kept, guarded-says, guarded-kept, guarded-leaves}
use Rattle.lutniorad.proofs.Roomy.{open-line, report-line}

module _ (m : ℕ) (keys classes windows border out : List ℕ) {r : Answer} {border' out' : List ℕ} (call : Windows m keys classes windows border out r border' out') where
  abbrev rs : List Refusal
  rs = many_refusals m keys (length classes) windows (length border) (length out)

  abbrev Ws : List Window
  Ws = windows_in windows

  -- the call in numbers
  counted : ◌≡◌ {A = After Answer (List ℕ × List ℕ)} (after r (border', out'))
      (unless refusing rs (border, out) (after (values (length Ws) 0) (left_by m Ws border, overwrite (lines_of m keys Ws) out)))
  counted = unless-crossed of_count refuse rs (border, out) _ (many_is m keys (length classes) windows border out) call

  -- the first refusal that holds, or the number of windows; of the two lent slices only the lengths count
  pub windows-says : r ≡ answer refusing (many_refusals m keys (length classes) windows (length border) (length out)) (values (length (windows_in windows)) 0)
  windows-says = guarded-says four rs (border, out) _ counted

  pub windows-numbered : r.refusal ≤ 25
  windows-numbered = told-most four _ refl (numbered-many m keys (length classes) windows (length border) (length out)) windows-says

  pub windows-answered : (r.refusal ≡ 0) ↔ Askable m keys (length classes) windows (length border) (length out)
  windows-answered =
      told-when four _ refl (numbered-many m keys (length classes) windows (length border) (length out)) windows-says
      (many-askable m keys (length classes) windows (length border) (length out))

  -- 25 is given exactly when the map is sound and the list not in fours, or of too many windows
  pub windows-25 : (r.refusal ≡ 25) ↔ (SoundMap m keys (length classes) × (¬ InFours windows))
  windows-25 = go (verdict rs) refl
    where
      go : (v : Result Unit Refused) → verdict rs ≡ v → (r.refusal ≡ 25) ↔ (SoundMap m keys (length classes) × (¬ InFours windows))
      go (Ok _) e =
          let zero = ap (λ (x : Answer). x.refusal) (windows-says ∙ on-passed refusing rs _ e) in
          let A = (many-askable m keys (length classes) windows (length border) (length out)).0 e in
          (λ z. absurd (omega (arith, z, zero)), λ t. absurd (t.1 A.list))
      go (Err refusal) e =
          let number = ap (λ (x : Answer). x.refusal) (windows-says ∙ on-refused refusing rs _ e) in
          let exactly = many-25 m keys (length classes) windows (length border) (length out) e in
          (λ z. exactly.0 (sym number ∙ z), λ t. number ∙ exactly.1 t)

  -- a refused call leaves border and slice as they were
  pub windows-kept : (r.refusal ≡ 0 → ⊥) → (border' ≡ border) × (out' ≡ out)
  windows-kept =
      told-kept four _ refl (numbered-many m keys (length classes) windows (length border) (length out)) windows-says
      (λ held. both-slices (guarded-kept four rs (border, out) _ counted held))

  module _ (z : r.refusal ≡ 0) where
    abbrev A : Askable m keys (length classes) windows (length border) (length out)
    A = windows-answered.0 z

    passed : verdict rs ≡ Ok tt
    passed = (many-askable m keys (length classes) windows (length border) (length out)).1 A

    pub windows-number : r ≡ values (length (windows_in windows)) 0
    windows-number = windows-says ∙ on-passed refusing rs _ passed

    count : r.first ≡ length Ws
    count = ap (λ (x : Answer). x.first) windows-number

    left : (border' ≡ left_by m Ws border) × (out' ≡ overwrite (lines_of m keys Ws) out)
    left = both-slices (guarded-leaves four rs (border, out) _ counted passed)

    pub windows-border : border' ≡ left_by m (windows_in windows) border
    windows-border = left.0

    whole : 5 * r.first ≡ length (lines_of m keys Ws)
    whole = ap (λ (n : ℕ). 5 * n) count ∙ sym (lines-length m keys Ws)

    pub windows-lines : take (5 * r.first) out' ≡ lines_of m keys (windows_in windows)
    windows-lines = rw (whole, left.1) (take-overwrite (lines_of m keys Ws) out)

    -- the five cells of a window
    pub line_at : (i : ℕ) → i < r.first → take 5 (drop (5 * i) out') ≡ line_cells (line_of m keys (window_at windows i))
    line_at i l =
        let lines : List ℕ = lines_of m keys Ws in
        let long = lines-length m keys Ws in
        let rest = drop-append-le (5 * i) lines (drop (length lines) out) (omega (arith, l, count, long)) in
        let all = take-append-le 5 (drop (5 * i) lines) (drop (length lines) out) (omega (arith, l, count, long, length-drop (5 * i) lines)) in
        ap (λ (x : List ℕ). take 5 (drop (5 * i) x)) (left.1 ∙ sym (overwrite-part lines out)) ∙ ap (take 5) rest ∙ all ∙ lines_at m keys windows i (omega (arith, l, count))

    pub windows-promise : WindowsPromise m keys classes windows border out r border' out'
    windows-promise = record {
      number = windows-number;
      fours = A.list.fours ∙ ap (λ (n : ℕ). 4 * n) (sym count);
      opened = λ i l b o single R.
          sym (take-take 4 5 (drop (5 * i) out') (omega arith)) ∙ ap (take 4) (line_at i l) ∙ open-line m keys classes (window_at windows i) A.sound b o single R;
      reported = λ i l b o single R.
          sym (get_or-drop (5 * i) out' 4 0)
          ∙ sym (get_or-take 5 (drop (5 * i) out') 4 0 (omega arith))
          ∙ ap (λ (x : List ℕ). get_or x 4 0) (line_at i l)
          ∙ report-line m keys classes (window_at windows i) A.sound b o single R;
      refused-alone = λ i l apart. line_at i l ∙ ap line_cells (line_refused m keys (window_at windows i) apart);
      beyond = rw (whole, left.1) (drop-overwrite (lines_of m keys Ws) out);
      border-after = λ j x. rw windows-border (left-cell m Ws border j x);
      border-long = ap length windows-border ∙ left-length m Ws border ((widest-wider m Ws (length border)).1 A.wide);
    }
