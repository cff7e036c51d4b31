-- Decomposing and clearing as calls, which are asked of a window alone: when they are answered, and what they leave.
-- Assumes nothing.
use mathlib.Core.Path.{◌≡◌, refl, ap, ◌∙◌}
use mathlib.Core.Logic.{◌↔◌}
use mathlib.Core.List.{List}
use Prim.Native.Nat.{ℕ, ◌≤◌}
use lib.ListN.{length}
use Rattle.answers.specs.declared.Cause.{Cause}
use Rattle.answers.specs.Refusals.{answer, refuse}
use Rattle.answers.specs.Cells.{overwrite}
use Rattle.answers.specs.After.{After, after}
use Rattle.answers.proofs.Laws.{on-passed}
use Rattle.window.specs.declared.Window.{Window}
use Rattle.window.specs.Window.{Inside}
use Rattle.window.specs.Drawn.{drawn_refusals, drawn_for}
use Rattle.window.proofs.Laws.{numbered-drawn, drawn-passed, drawn-said, drawn-by-length, drawn-leaves, drawn-untouched}
use Rattle.lutniorad.specs.declared.Answer.{Answer}
use Rattle.lutniorad.specs.Numbers.{values, refusing}
use Rattle.lutniorad.specs.Calls.{Call}
use Rattle.lutniorad.proofs.Crossing.{crossed}
use Rattle.lutniorad.proofs.Told.{four, told-most, told-when, told-kept}

-- from the contract of such a call to one outcome in numbers
pub drawn-crossed : {A : Type 0} (say : A → Answer) (refuse : Cause → ℕ → A) (done : A) (cells : List ℕ) (m : ℕ) (W : Window) (out : List ℕ)
    {o : After A (List ℕ)} {r : Answer} {out' : List ℕ} → o ≡ drawn_for refuse done cells m W out → Call say o r out'
    → after r out' ≡ drawn_for (λ c p. say (refuse c p)) (say done) cells m W out
drawn-crossed {A} say refuse done cells m W out is call =
    crossed call ∙ ap (λ (x : After A (List ℕ)). after (say x.answer) x.lent) is ∙ drawn-said refuse done cells m W out say

-- a call that answers one value and writes cells
module _ (first : ℕ) (cells : List ℕ) (m : ℕ) (W : Window) (out : List ℕ) {r : Answer} {out' : List ℕ}
    (call : after r out' ≡ drawn_for refusing (values first 0) cells m W out) where
  -- the first of refusals 1, 6 and 8, or the value; of the slice only the length counts
  pub drawn-says : r ≡ answer refusing (drawn_refusals m W (length cells) (length out)) (values first 0)
  drawn-says = ap (λ (x : After Answer (List ℕ)). x.answer) call ∙ drawn-by-length refusing (values first 0) cells m W out

  pub drawn-numbered : r.refusal ≤ 8
  drawn-numbered = told-most four (values first 0) refl (numbered-drawn m W (length cells) (length out)) drawn-says

  pub drawn-answered : (r.refusal ≡ 0) ↔ ((m ≤ 12) × Inside m W × (length cells ≤ length out))
  drawn-answered = told-when four (values first 0) refl (numbered-drawn m W (length cells) (length out)) drawn-says (drawn-passed m W (length cells) (length out))

  -- a refused call leaves the slice as it was
  pub drawn-kept : (r.refusal ≡ 0 → ⊥) → out' ≡ out
  drawn-kept =
      told-kept four (values first 0) refl (numbered-drawn m W (length cells) (length out)) drawn-says
      (λ held. ap (λ (x : After Answer (List ℕ)). x.lent) call ∙ drawn-untouched refusing (values first 0) cells m W out held)

  -- an answered one returns the value and writes the cells
  pub drawn-done : r.refusal ≡ 0 → (r ≡ values first 0) × (out' ≡ overwrite cells out)
  drawn-done z =
      let passed = (drawn-passed m W (length cells) (length out)).1 (drawn-answered.0 z) in
      (drawn-says ∙ on-passed refusing _ _ passed, ap (λ (x : After Answer (List ℕ)). x.lent) call ∙ drawn-leaves refusing (values first 0) cells m W out passed)
