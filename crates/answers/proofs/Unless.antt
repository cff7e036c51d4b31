-- An outcome behind a table of refusals: what is answered, what a refusal leaves, and the same outcome in other words.
-- Assumes nothing.
use mathlib.Core.Path.{◌≡◌, refl, sym, ap, ◌∙◌}
use mathlib.Core.List.{List}
use Prim.Native.Nat.{ℕ}
use Rattle.std.specs.Prelude.{Result, Ok, Err, IsErr, IsErrAnd}
use Rattle.answers.specs.declared.Cause.{Cause}
use Rattle.answers.specs.declared.Refused.{Refused}
use Rattle.answers.specs.Refusals.{Refusal, answer, refused, refuse, verdict}
use Rattle.answers.specs.After.{After, after, unless}
use Rattle.answers.proofs.Tables.{answer-part, answer-kept, handed-on}

module _ {A S : Type 0} (refuse : Cause → ℕ → A) (rs : List Refusal) (lent : S) (o : After A S) where
  -- the answer is the first refusal that holds, or what is answered behind them
  pub unless-answer : (unless refuse rs lent o).answer ≡ answer refuse rs o.answer
  unless-answer = answer-part (λ (x : After A S). x.answer) (λ c p. after (refuse c p) lent) rs o

  pub unless-kept : (verdict rs ≡ Ok tt → ⊥) → (unless refuse rs lent o).lent ≡ lent
  unless-kept held = answer-kept (λ (x : After A S). x.lent) (λ c p. after (refuse c p) lent) rs o (λ c p. refl) held

  pub unless-said : {B : Type 0} (say : A → B) → (let t = unless refuse rs lent o in after (say t.answer) t.lent)
      ≡ unless (λ c p. say (refuse c p)) rs lent (after (say o.answer) o.lent)
  unless-said say = answer-part (λ (x : After A S). after (say x.answer) x.lent) (λ c p. after (refuse c p) lent) rs o

-- as `refusing` and `handed-on`, beside what the lent slices hold
module _ {A S : Type 0} {lent : S} where
  pub refusing-after : {e : Refused} {c : Cause} {p : ℕ} {o : After (Result A Refused) S} → e ≡ refused c p → o ≡ after (refuse c p) lent → after (Err e) lent ≡ o
  refusing-after made says = ap (λ (e : Refused). after {A = Result A Refused} (Err e) lent) made ∙ sym says

  pub handed-after : {E : Type 0} {r : Result A E} {e : E} {o : After (Result A E) S} → IsErr r × IsErrAnd r (λ x. x ≡ e) → o ≡ after (Err e) lent → after r lent ≡ o
  handed-after {E} h says = ap (λ (r : Result A E). after r lent) (handed-on h) ∙ sym says
