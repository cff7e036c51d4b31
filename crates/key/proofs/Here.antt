-- A key that is known to be that of a block which starts where a walk stands: the table tells the block's exponent. And a walk that begins where a block starts.
-- Assumes nothing.
use mathlib.Core.Path.{◌≡◌}
use mathlib.Core.Logic.{◌↔◌}
use mathlib.Core.List.{List}
use Prim.Native.Nat.{ℕ, ◌+◌, ◌-◌, ◌/◌, ◌%◌, ◌^◌, ◌≤◌, ◌<◌}
use native.Mathlib.Omega.{arith}
use lib.Count.{count_trailing_zeros}
use lib.ListN.{get_or}
use Rattle.key.specs.declared.Spot.{Spot}
use Rattle.key.specs.Key.{ones}
use Rattle.key.specs.Blocks.{Names}
use Rattle.key.specs.Along.{TellsOnes, pixel_at, Stands, Begins}
use Rattle.key.specs.Alignment.{alignment}
use Rattle.key.proofs.Named.{one_key, block-lies}
use Rattle.key.proofs.Powers.{pow-least}
use Rattle.key.proofs.Ends.{Starts, first-pixel, block-starting}
use Rattle.key.proofs.Along.{half, top-cap, fits-key}

module _ {m : ℕ} {s : Spot} {key : ℕ} (S : Stands m s) (B : Begins m s.place key) where
  -- the walk does not stand behind the last place
  pub begins-before : s.place < 4 ^ m
  begins-before = omega (arith, (block-lies B.names).span, pow-least 3 B.exponent)

  pub begins-over : key + ones B.exponent ≡ pixel_at s
  begins-over = ((fits-key S begins-before).0 B.names).1

  pub begins-told : {digits : List ℕ} → m ≤ 12 → TellsOnes digits → get_or digits ((pixel_at s - key) % 16) 0 ≡ B.exponent
  begins-told few D =
      let e : pixel_at s - key ≡ ones B.exponent = omega (arith, begins-over) in
      rw e (D.finds B.exponent (omega (arith, (block-lies B.names).small)))

-- where a block starts, behind the first place: the largest block there is so many digits 1 below the block's first pixel
module _ {m key i s top : ℕ} (few : m ≤ 12) (n : Names m key i s) (some : 1 ≤ s) (et : top ≡ count_trailing_zeros 32 s / 2) where
  inside : s < 4 ^ m
  inside = omega (arith, (block-lies n).span, pow-least 3 i)

  pub begin-top : top ≤ m
  unfolding alignment
  begin-top = top-cap few some (omega (arith, inside)) et

  fits : (k : ℕ) → k ≤ 16 → (k ≤ top) ↔ (s % 4 ^ k ≡ 0)
  unfolding alignment
  fits = half few some (omega (arith, inside)) et

  largest : Starts m top s
  largest = block-starting m top s begin-top inside ((fits top (omega (arith, begin-top))).0 (omega arith))

  pub begin-first : (k : ℕ) × Names m k top s × (k + ones top ≡ key + ones i)
  begin-first = (largest.key, largest.names, one_key (first-pixel largest.names) (first-pixel n))

  pub begin-stands : {t : Spot} → t.place ≡ s → t.top ≡ top → t.key + ones top ≡ key + ones i → Stands m t
  begin-stands {t} ep ex ek =
      let b = begin-first in
      let e : b.0 ≡ t.key = omega (arith, b.2) in
      record {
        within = omega (arith, inside);
        largest = λ l. rw (ep, ex, ← e) b.1;
        cap = omega (arith, begin-top);
        aligned = λ k l. rw (ep, ex) (fits k (omega arith));
      }
