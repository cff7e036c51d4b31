-- Opening, report and select as calls: when they are answered, and what they leave.
-- Assumes nothing.
use mathlib.Core.Path.{◌≡◌, refl, ap, ◌∙◌}
use mathlib.Core.Logic.{◌↔◌}
use mathlib.Core.Bool.{Bool}
use mathlib.Core.List.{List, ◌++◌}
use Prim.Native.Nat.{ℕ, ◌≤◌, ◌<◌}
use native.Mathlib.Decide.{dec_lt}
use native.Mathlib.Omega.{arith}
use lib.ListN.{length}
use Rattle.answers.specs.declared.Cause.{Cause}
use Rattle.answers.specs.Refusals as of
use Rattle.std.specs.Prelude.{Result, Ok, Err}
use Rattle.answers.specs.declared.Refused.{Refused}
use Rattle.answers.specs.Refusals.{refusal, answer, verdict, refuse}
use Rattle.answers.specs.Cells.{overwrite}
use Rattle.answers.specs.After.{After, after, room_refusals}
use Rattle.answers.proofs.Laws.{refused-most}
use Rattle.window.specs.declared.Window.{Window}
use Rattle.used.specs.Used.{use_refusals_in, spent, used_in}
use Rattle.used.specs.Promises.{AnswerableIn}
use Rattle.used.proofs.Laws.{use-answerable, numbered-use, numbered-used, used-answerable, used-said, used-by-lengths, used-refused, used-short, used-done}
use Rattle.lutniorad.specs.declared.Answer.{Answer}
use Rattle.lutniorad.specs.Numbers.{values, refusing}
use Rattle.lutniorad.specs.Calls.{Call}
use Rattle.lutniorad.specs.Promises.{RefusalLeaves}
use Rattle.lutniorad.proofs.Crossing.{crossed}
use Rattle.lutniorad.proofs.Told.{four, told-most, told-when}

-- from the contract of such a call to one outcome in numbers
pub used-crossed : (whole : Bool) {A : Type 0} (say : A → Answer) (refuse : Cause → ℕ
    → A) (done : A) (cells : List ℕ) (m : ℕ) (keys : List ℕ) (classes : ℕ) (W : Window) (border out : List ℕ)
    {o : After A (List ℕ × List ℕ)} {r : Answer} {border' out' : List ℕ} → o ≡ used_in whole refuse done cells m keys classes W border out → Call say o r (border', out')
    → after r (border', out') ≡ used_in whole (λ c p. say (refuse c p)) (say done) cells m keys classes W border out
used-crossed whole {A} say refuse done cells m keys classes W border out is call =
    crossed call ∙ ap (λ (x : After A (List ℕ × List ℕ)). after (say x.answer) x.lent) is ∙ used-said whole refuse done cells m keys classes W border out say

-- a call that answers two values and writes cells
module _ (whole : Bool) (first second : ℕ) (cells : List ℕ) (m : ℕ) (keys : List ℕ) (classes : ℕ) (W : Window) (border out : List ℕ) {r : Answer} {border' out' : List ℕ}
    (call : after r (border', out') ≡ used_in whole refusing (values first second) cells m keys classes W border out) where
  -- the first of refusals 1 to 8, or the values; of the two slices only the lengths count
  pub used-says : r ≡ answer refusing (use_refusals_in whole m keys classes W (length border) ++ room_refusals (length out) (length cells)) (values first second)
  used-says = ap (λ (x : After Answer (List ℕ × List ℕ)). x.answer) call ∙ used-by-lengths whole refusing (values first second) cells m keys classes W border out

  pub used-numbered : r.refusal ≤ 8
  used-numbered = told-most four (values first second) refl (numbered-used whole refusing (values first second) cells m keys classes W border out) used-says

  pub used-answered : (r.refusal ≡ 0) ↔ (AnswerableIn whole m keys classes W (length border) × (length cells ≤ length out))
  used-answered =
      told-when four (values first second) refl (numbered-used whole refusing (values first second) cells m keys classes W border out) used-says
      (used-answerable whole refusing (values first second) cells m keys classes W border out)

  -- an answered call returns the values, spends the border and writes the cells
  pub used-leaves : r.refusal ≡ 0 → (r ≡ values first second) × (border' ≡ spent W border) × (out' ≡ overwrite cells out)
  used-leaves z =
      let t = used-answered.0 z in
      let d = call ∙ used-done whole refusing (values first second) cells m keys classes W border out ((use-answerable whole m keys classes W (length border)).1 t.0) t.1 in
      (ap (λ (x : After Answer (List ℕ × List ℕ)). x.answer) d, ap (λ (x : After Answer (List ℕ × List ℕ)). x.lent.0) d, ap (λ (x : After Answer (List ℕ × List ℕ)). x.lent.1) d)

  -- a refused one leaves the slice as it was, and the border too, but that 8 spends it
  pub used-kept : (r.refusal ≡ 0 → ⊥) → RefusalLeaves W border out r border' out'
  used-kept held = go (verdict (use_refusals_in whole m keys classes W (length border))) refl
    where
      room : verdict (use_refusals_in whole m keys classes W (length border)) ≡ Ok tt → Dec (length out < length cells)
          → RefusalLeaves W border out r border' out'
      room e (yes l) =
          let d = call ∙ used-short whole refusing (values first second) cells m keys classes W border out e l in
          record {
            out-kept = ap (λ (x : After Answer (List ℕ × List ℕ)). x.lent.1) d;
            border-spent = λ h. ap (λ (x : After Answer (List ℕ × List ℕ)). x.lent.0) d;
            border-kept = λ n. absurd (n (ap (λ (x : After Answer (List ℕ × List ℕ)). x.answer.refusal) d));
          }
      room e (no n) = absurd (held (used-answered.1 ((use-answerable whole m keys classes W (length border)).0 e, omega (arith, n))))

      go : (v : Result Unit Refused) → verdict (use_refusals_in whole m keys classes W (length border)) ≡ v
          → RefusalLeaves W border out r border' out'
      go (Ok _) e = room e (dec_lt (length out) (length cells))
      go (Err f) e =
          let d = call ∙ used-refused whole refusing (values first second) cells m keys classes W border out e in
          let number : r.refusal ≡ of.number f.cause = ap (λ (x : After Answer (List ℕ × List ℕ)). x.answer.refusal) d in
          record {
            out-kept = ap (λ (x : After Answer (List ℕ × List ℕ)). x.lent.1) d;
            border-spent = λ h. absurd (omega (arith, refused-most (numbered-use whole m keys classes W (length border) {most = 7} (omega arith)) e, number, h));
            border-kept = λ h. ap (λ (x : After Answer (List ℕ × List ℕ)). x.lent.0) d;
          }
