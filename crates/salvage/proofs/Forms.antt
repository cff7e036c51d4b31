-- A number whose digits say a start at which it is no block's key is malformed.
-- Assumes nothing.
use mathlib.Core.Path.{◌≡◌, refl, ◌∙◌}
use Prim.Native.Nat.{ℕ, ◌^◌, ◌≤◌}
use native.Mathlib.Omega.{arith}
use Rattle.std.specs.Prelude.{Option, None, Some}
use Rattle.key.specs.declared.Span.{Span}
use Rattle.key.specs.Form.{form_of}
use Rattle.key.specs.Blocks.{Names}
use Rattle.key.specs.Along.{ToldFit}
use Rattle.key.specs.Reading.{start_up}
use Rattle.key.proofs.Laws.{block-lies, fits-other, pow-least}
use Rattle.key.proofs.Loops.{start-told}

-- what is told of a place, where that is known by another name
pub told-as : {m p q key : ℕ} {f t : Option ℕ} → p ≡ q → f ≡ t → ToldFit m p key f → ToldFit m q key t
told-as e d T = rw (e, d) at T

module _ {m : ℕ} (key : ℕ) {start : ℕ} (small : m ≤ 12) (says : start ≡ start_up 12 key) where
  -- it is malformed if it is no block's key at that start
  malformed-unless : ((i : ℕ) → Names m key i start → ⊥) → form_of m key ≡ None
  malformed-unless none = go (form_of m key) refl
    where
      go : (f : Option Span) → form_of m key ≡ f → f ≡ None
      go None e = refl
      go (Some b) e = let n : Names m key b.exponent b.start = record { is = e } in absurd (none b.exponent (rw (says ∙ start-told small n) n))

  pub far-malformed : 4 ^ m ≤ start → form_of m key ≡ None
  far-malformed l = malformed-unless (λ i n. omega (arith, (block-lies n).span, pow-least 3 i))

  pub other-malformed : ToldFit m start key None → form_of m key ≡ None
  other-malformed t = malformed-unless (fits-other t)
