-- The fewest blocks of a stretch of places.
-- Assumes nothing.
use mathlib.Core.Path.{◌≡◌, ap}
use mathlib.Core.Bool.{Bool, true}
use mathlib.Core.List.{List, Memᴰ}
use Prim.Native.Nat.{ℕ, ◌-◌, ◌^◌, ◌≤◌, ◌<◌}
use native.Mathlib.Omega.{arith}
use lib.ListN.{length}
use Rattle.lists.specs.Lists.{Ordered}
use Rattle.key.specs.Blocks.{Among}
use Rattle.stretch.specs.Promises.{Has, MakesUp}
use Rattle.stretch.specs.Sets.{between}
use Rattle.stretch.specs.Fewest.{fewest, stretch}
use Rattle.stretch.proofs.Around.{between_is}
use Rattle.stretch.proofs.Listed.{fewest-makes, fewest-once, fewest-rising}
use Rattle.stretch.proofs.Least.{fewest-least, fewest-only}

-- two tests that pass alike are one set
pub fewest-same : (m : ℕ) {P Q : ℕ → Bool} (a n : ℕ) → ((q : ℕ) → P q ≡ Q q) → fewest m P a n ≡ fewest m Q a n
fewest-same m a n h = ap (λ (R : ℕ → Bool). fewest m R a n) (λ t q. h q t)

-- ---- a stretch: the places from a up to b, in the picture

module _ (m a b : ℕ) (room : b ≤ 4 ^ m) where
  low : (q : ℕ) → between a b q ≡ true → q < 4 ^ m
  low q e = omega (arith, (between_is a b q).0 e, room)

  here : (q : ℕ) → between a b q ≡ true → Among a (b - a) q
  here q e = omega (arith, (between_is a b q).0 e)

  -- its blocks lie in it and have all its places, each once, in key order
  pub stretch-makes : MakesUp m (between a b) (stretch m a b)
  unfolding stretch
  stretch-makes = fewest-makes m (between a b) low a (b - a) here

  pub stretch-once : (q : ℕ) {k k' : ℕ} → Memᴰ k (stretch m a b) → Memᴰ k' (stretch m a b) → Has m q k → Has m q k' → k ≡ k'
  unfolding stretch
  stretch-once = fewest-once m (between a b) low a (b - a)

  pub stretch-rising : Ordered ◌<◌ (stretch m a b)
  unfolding stretch
  stretch-rising = fewest-rising m (between a b) low a (b - a)

  -- no fewer blocks make it up, and as many in key order only if they are these
  pub stretch-least : {ks : List ℕ} → MakesUp m (between a b) ks → length (stretch m a b) ≤ length ks
  unfolding stretch
  stretch-least M = fewest-least m (between a b) low a (b - a) M

  pub stretch-only : {ks : List ℕ} → MakesUp m (between a b) ks → Ordered ◌<◌ ks → length ks ≤ length (stretch m a b) → ks ≡ stretch m a b
  unfolding stretch
  stretch-only M o l = fewest-only m (between a b) low a (b - a) M l o
