-- The greatest number that passes a test: by induction over the numbers up to n.
-- Assumes nothing.
use mathlib.Core.Path.{◌≡◌, refl, sym, ◌∙◌}
use mathlib.Core.Logic.{◌⊎◌, inl, inr}
use mathlib.Core.Bool.{Bool, true, false, cond}
use Prim.Native.Nat.{ℕ, zero, suc, ◌≤◌, ◌<◌}
use native.Mathlib.Nat.{eq-or-lt_of_le}
use native.Mathlib.Omega.{arith}
use Rattle.lists.specs.Lists.{greatest}
use Rattle.lists.proofs.Tests.{never}

module _ (f : ℕ → Bool) where
  pub greatest-le : (n : ℕ) → greatest f n ≤ n
  unfolding greatest
  greatest-le zero = omega arith
  greatest-le (suc n) = go (f (suc n)) (greatest-le n)
    where
      go : (b : Bool) → greatest f n ≤ n → cond b (suc n) (greatest f n) ≤ suc n
      go true h = omega arith
      go false h = omega arith

  pub greatest-holds : (n : ℕ) → f 0 ≡ true → f (greatest f n) ≡ true
  unfolding greatest
  greatest-holds zero t = t
  greatest-holds (suc n) t = go (f (suc n)) refl (greatest-holds n t)
    where
      go : (b : Bool) → f (suc n) ≡ b → f (greatest f n) ≡ true → f (cond b (suc n) (greatest f n)) ≡ true
      go true e h = e
      go false e h = h

  pub greatest-over : (n j : ℕ) → greatest f n < j → j ≤ n → f j ≡ true → ⊥
  unfolding greatest
  greatest-over zero j g l t = omega arith
  greatest-over (suc n) j g l t = go (f (suc n)) refl (greatest-over n j) g (eq-or-lt_of_le l)
    where
      go : (b : Bool) → f (suc n) ≡ b → (greatest f n < j → j ≤ n → f j ≡ true → ⊥) → cond b (suc n) (greatest f n) < j → (j ≡ suc n) ⊎ (j < suc n) → ⊥
      go true e ih g' c = omega arith
      go false e ih g' (inl d) = never (sym (rw d at t) ∙ e)
      go false e ih g' (inr d) = ih g' (omega arith) t
