-- Refusals have numbers from 1 on, so the number 0 tells an answer that is no refusal.
-- Assumes nothing.
use mathlib.Core.Path.{◌≡◌, refl, sym, ap, ◌∙◌}
use mathlib.Core.Logic.{◌↔◌}
use mathlib.Core.Bool.{Bool, true, false, cond}
use mathlib.Core.List.{List, [], ◌∷◌, ◌++◌}
use Prim.Native.Nat.{ℕ, ◌≤◌, ◌<◌}
use native.Mathlib.Omega.{arith}
use Rattle.lists.proofs.Laws.{never}
use Rattle.std.specs.Prelude.{Result, Ok, Err}
use Rattle.answers.specs.declared.Cause.{Cause}
use Rattle.answers.specs.declared.Cause.TheVariants.{BadM, BadCount, ShortRoom}
use Rattle.answers.specs.declared.Refused.{Refused}
use Rattle.answers.specs.Refusals.{Refusal, refusal, answer, refused, number, verdict}
use Rattle.answers.specs.Sizes.{picture_refusals, count_refusals, size_refusals_in}
use Rattle.answers.specs.After.{room_refusals}
use Rattle.answers.proofs.Tables.{answer-none, refusal-held, refusal-clear, append-passed, append-refused, refused-not-passed}

-- each refusal has a number from 1 to `most`
pub data Numbered (most : ℕ) : List Refusal → Type 0 where
  none : Numbered most []
  more : {r : Refusal} {rs : List Refusal} → 1 ≤ number r.cause → number r.cause ≤ most → Numbered most rs → Numbered most (r ∷ rs)

module _ {most : ℕ} where
  pub numbered_next : {b : Bool} (c : Cause) {p : ℕ} {rs : List Refusal} → 1 ≤ number c → number c ≤ most → Numbered most rs → Numbered most (refusal b c p ∷ rs)
  numbered_next c l h N = more l h N

  pub numbered-append : {rs ss : List Refusal} → Numbered most rs → Numbered most ss → Numbered most (rs ++ ss)
  numbered-append none b = b
  numbered-append (more l h a) b = more l h (numbered-append a b)

  pub numbered-picture : (m : ℕ) → 1 ≤ most → Numbered most (picture_refusals m)
  unfolding picture_refusals
  numbered-picture m h = numbered_next BadM (omega arith) h none

  pub numbered-sizes : (whole : Bool) (m keys classes : ℕ) → 2 ≤ most → Numbered most (size_refusals_in whole m keys classes)
  unfolding size_refusals_in count_refusals
  numbered-sizes whole m keys classes h = numbered-append (numbered-picture m (omega arith)) (numbered_next BadCount (omega arith) h none)

  pub numbered-room : (room needed : ℕ) → 8 ≤ most → Numbered most (room_refusals room needed)
  unfolding room_refusals
  numbered-room room needed h = numbered_next ShortRoom (omega arith) h none

-- a refusal that such a table gives has one of these numbers
pub refused-most : {most : ℕ} {rs : List Refusal} → Numbered most rs → {e : Refused} → verdict rs ≡ Err e → number e.cause ≤ most
unfolding answer
refused-most none h = absurd (refused-not-passed (sym h))
refused-most {most} (more {r} {rs} l h N) {e} q = go r.holds q (refused-most N)
  where
    go : (t : Bool) → cond t (Err (refused r.cause r.place)) (verdict rs) ≡ Err e → (verdict rs ≡ Err e → number e.cause ≤ most) → number e.cause ≤ most
    go true d ih = let same : refused r.cause r.place ≡ e = cc in omega (arith, h, ap (λ (e : Refused). number e.cause) same)
    go false d ih = ih d

-- an outcome tells by its number whether it is a refusal
module _ {A : Type 0} (refuse : Cause → ℕ → A) (say : A → ℕ) (tells : (c : Cause) (p : ℕ) → say (refuse c p) ≡ number c) {most : ℕ} where
  pub number-zero : {rs : List Refusal} {a : A} → Numbered most rs → say a ≡ 0 → (say (answer refuse rs a) ≡ 0) ↔ (verdict rs ≡ Ok tt)
  unfolding answer
  number-zero none e = (λ h. refl, λ h. e)
  number-zero {a = a} (more {r} {rs} l h N) e = go r.holds (number-zero N e)
    where
      go : (t : Bool) → (say (answer refuse rs a) ≡ 0) ↔ (verdict rs ≡ Ok tt)
          → (say (cond t (refuse r.cause r.place) (answer refuse rs a)) ≡ 0) ↔ (cond t (Err (refused r.cause r.place)) (verdict rs) ≡ Ok tt)
      go true ih = (λ z. absurd (omega (arith, tells r.cause r.place, l, z)), λ z. absurd (refused-not-passed z))
      go false ih = ih

  pub number-most : {rs : List Refusal} {a : A} → Numbered most rs → say a ≡ 0 → say (answer refuse rs a) ≤ most
  unfolding answer
  number-most none e = omega arith
  number-most {a = a} (more {r} {rs} l h N) e = go r.holds (number-most N e)
    where
      go : (t : Bool) → say (answer refuse rs a) ≤ most → say (cond t (refuse r.cause r.place) (answer refuse rs a)) ≤ most
      go true ih = omega (arith, tells r.cause r.place, h)
      go false ih = ih

  -- a number over all others in the table, given by the last refusal alone: exactly when that holds, and none before it does
  pub number-last : {rs : List Refusal} {a : A} → Numbered most rs → say a ≡ 0 → (b : Bool) (c : Cause) (p : ℕ) → most < number c
      → (say (answer refuse (rs ++ refusal b c p ∷ []) a) ≡ number c) ↔ ((verdict rs ≡ Ok tt) × (b ≡ true))
  number-last {rs} {a} N e b c p l = go b (verdict rs) refl
    where
      go : (b : Bool) (v : Result Unit Refused) → verdict rs ≡ v → (say (answer refuse (rs ++ refusal b c p ∷ []) a) ≡ number c) ↔ ((verdict rs ≡ Ok tt) × (b ≡ true))
      go true (Ok tt) d = (λ z. (d, refl), λ t. ap say (append-passed refuse rs _ a d ∙ refusal-held refuse c p [] a refl) ∙ tells c p)
      go false (Ok tt) d =
          let is = ap say (append-passed refuse rs (refusal false c p ∷ []) a d ∙ refusal-clear refuse c p [] a refl ∙ answer-none refuse a) in
          (λ z. absurd (omega (arith, l, is, e, z)), λ t. never (sym t.1))
      go b (Err r) d =
          let is = ap say (append-refused refuse rs (refusal b c p ∷ []) a d) ∙ tells r.cause r.place in
          (λ z. absurd (omega (arith, l, refused-most N d, is, z)), λ t. absurd (refused-not-passed (sym d ∙ t.0)))
