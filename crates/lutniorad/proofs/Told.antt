-- Numbers that a table of refusals says: the first that holds, or values. `refusal` is 0 exactly when none holds, and never more than the greatest number in the table.
-- Assumes nothing.
use mathlib.Core.Path.{◌≡◌, refl, ap, ◌∙◌}
use mathlib.Core.Logic.{◌↔◌}
use mathlib.Core.List.{List}
use Prim.Native.Nat.{ℕ, ◌≤◌}
use Rattle.std.specs.Prelude.{Ok}
use Rattle.answers.specs.declared.Cause.{Cause}
use Rattle.answers.specs.Refusals as of
use Rattle.answers.specs.Refusals.{Refusal, answer, verdict, refuse}
use Rattle.answers.specs.After.{After, after, unless}
use Rattle.answers.proofs.Laws.{Without, without-said, Numbered, number-zero, number-most, on-passed, unless-answer, unless-kept}
use Rattle.lutniorad.specs.declared.Answer.{Answer}
use Rattle.lutniorad.specs.declared.Reason.{Reason}
use Rattle.lutniorad.specs.Numbers.{refusing, giving_none}

-- numbers that say a refusal, and tell it
pub record Saying (N : Type 0) : Type 0 where
  pub refuse : Cause → ℕ → N
  pub number : N → ℕ
  pub tells : (c : Cause) (p : ℕ) → number (refuse c p) ≡ of.number c

-- four of them, and five
abbrev pub four : Saying Answer
four = record { refuse = refusing; number = λ (x : Answer). x.refusal; tells = λ c p. refl }

abbrev pub five : Saying Reason
five = record { refuse = giving_none; number = λ (x : Reason). x.refusal; tells = λ c p. refl }

module _ {N : Type 0} (s : Saying N) {most : ℕ} {rs : List Refusal} {r : N} (a : N) (clear : s.number a ≡ 0) (numbered : Numbered most rs) (says : r ≡ answer s.refuse rs a) where
  pub told-most : s.number r ≤ most
  told-most = rw says (number-most s.refuse s.number s.tells numbered clear)

  -- what the table passes, in words
  pub told-when : {Asked : Type 0} → (verdict rs ≡ Ok tt) ↔ Asked → (s.number r ≡ 0) ↔ Asked
  told-when {Asked} passes = rw says (
    λ z. passes.0 (zero.0 z),
    λ t. zero.1 (passes.1 t),
  )
    where
      zero : (s.number (answer s.refuse rs a) ≡ 0) ↔ (verdict rs ≡ Ok tt)
      zero = number-zero s.refuse s.number s.tells numbered clear

  -- where it is refused, what holds whenever the table has not passed
  pub told-kept : {Kept : Type 0} → ((verdict rs ≡ Ok tt → ⊥) → Kept) → (s.number r ≡ 0 → ⊥) → Kept
  told-kept kept held = kept (λ e. held ((told-when (λ d. d, λ d. d)).1 e))

-- a number that no refusal of the table has where it holds is not said
pub told-without : {N : Type 0} (s : Saying N) {k : ℕ} {rs : List Refusal} {r : N} (a : N) → (s.number a ≡ k → ⊥) → Without k rs → r ≡ answer s.refuse rs a
    → s.number r ≡ k → ⊥
told-without s a other without says = rw says (without-said s.refuse s.number s.tells without other)

-- ---- a call behind such a table, whose refusals leave every lent cell as it was

module _ {N S : Type 0} (s : Saying N) (rs : List Refusal) (lent : S) (done : After N S) {r : N} {lent' : S} (call : after r lent' ≡ unless s.refuse rs lent done) where
  pub guarded-says : r ≡ answer s.refuse rs done.answer
  guarded-says = ap (λ (x : After N S). x.answer) call ∙ unless-answer s.refuse rs lent done

  pub guarded-kept : (verdict rs ≡ Ok tt → ⊥) → lent' ≡ lent
  guarded-kept held = ap (λ (x : After N S). x.lent) call ∙ unless-kept s.refuse rs lent done held

  pub guarded-leaves : verdict rs ≡ Ok tt → lent' ≡ done.lent
  guarded-leaves e = ap (λ (x : After N S). x.lent) (call ∙ on-passed _ rs done e)
