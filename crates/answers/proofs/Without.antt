-- Tables in which no refusal of a number holds: that number is not given.
-- Assumes nothing.
use mathlib.Core.Path.{◌≡◌, refl, sym, ◌∙◌}
use mathlib.Core.Bool.{Bool, true, false, cond}
use mathlib.Core.List.{List, [], ◌∷◌, ◌++◌}
use Prim.Native.Nat.{ℕ, ◌<◌}
use native.Mathlib.Omega.{arith}
use Rattle.lists.proofs.Laws.{never}
use Rattle.answers.specs.declared.Cause.{Cause}
use Rattle.answers.specs.declared.Cause.TheVariants.{ShortRoom, BadTile}
use Rattle.answers.specs.Refusals.{Refusal, refusal, answer, number}
use Rattle.answers.specs.Sizes.{tile_refusals}
use Rattle.answers.specs.After.{room_refusals}
use Rattle.answers.proofs.Numbered.{Numbered, none, more, numbered-picture}

pub data Without (k : ℕ) : List Refusal → Type 0 where
  without-none : Without k []
  without_more : {r : Refusal} {rs : List Refusal} → (r.holds ≡ true → number r.cause ≡ k → ⊥) → Without k rs → Without k (r ∷ rs)

module _ {k : ℕ} where
  -- a refusal of another number
  pub without_other : {b : Bool} (c : Cause) {p : ℕ} {rs : List Refusal} → (number c ≡ k → ⊥) → Without k rs → Without k (refusal b c p ∷ rs)
  without_other c other W = without_more (λ h e. other e) W

  -- and one that does not hold
  pub without-clear : {b : Bool} (c : Cause) {p : ℕ} {rs : List Refusal} → b ≡ false → Without k rs → Without k (refusal b c p ∷ rs)
  without-clear c clear W = without_more (λ h e. never (sym h ∙ clear)) W

  pub without-append : {rs ss : List Refusal} → Without k rs → Without k ss → Without k (rs ++ ss)
  without-append without-none b = b
  without-append (without_more h a) b = without_more h (without-append a b)

  pub without-over : {most : ℕ} {rs : List Refusal} → Numbered most rs → most < k → Without k rs
  without-over none l = without-none
  without-over (more {r} a b N) l = without_more {r = r} (λ h e. omega (arith, b, l, e)) (without-over N l)

  pub without-room : (room needed : ℕ) → (8 ≡ k → ⊥) → Without k (room_refusals room needed)
  unfolding room_refusals
  without-room room needed other = without_other ShortRoom other without-none

  pub without-tile : (m top : ℕ) → 1 < k → (17 ≡ k → ⊥) → Without k (tile_refusals m top)
  unfolding tile_refusals
  without-tile m top l other = without-append (without-over (numbered-picture {most = 1} m (omega arith)) l) (without_other BadTile other without-none)

-- an answer whose number is not k stays such behind the table
pub without-said : {A : Type 0} (refuse : Cause → ℕ → A) (say : A → ℕ) → ((c : Cause) (p : ℕ) → say (refuse c p) ≡ number c) → {k : ℕ} {rs : List Refusal} {a : A}
    → Without k rs → (say a ≡ k → ⊥) → say (answer refuse rs a) ≡ k → ⊥
unfolding answer
without-said refuse say tells without-none other = other
without-said refuse say tells {k} {a = a} (without_more {r} {rs} h W) other = go r.holds refl (without-said refuse say tells W other)
  where
    go : (t : Bool) → r.holds ≡ t → (say (answer refuse rs a) ≡ k → ⊥) → say (cond t (refuse r.cause r.place) (answer refuse rs a)) ≡ k → ⊥
    go true e ih z = h e (sym (tells r.cause r.place) ∙ z)
    go false e ih z = ih z
