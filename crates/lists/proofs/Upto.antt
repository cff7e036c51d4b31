-- The numbers from one up to another, as a loop goes through them: from each place on it is that number, and then those behind it.
-- Assumes nothing.
use mathlib.Core.Path.{◌≡◌}
use mathlib.Core.List.{[], ◌∷◌}
use Prim.Native.Nat.{ℕ, suc, ◌+◌, ◌-◌, ◌≤◌, ◌<◌}
use native.Mathlib.Omega.{arith}
use Rattle.lists.specs.Lists.{up_from}
use Rattle.lists.proofs.Numbers.{up_none, up_next}

pub upto-whole : (first count : ℕ) → up_from first count ≡ up_from first (first + count - first)
upto-whole first count = let e : first + count - first ≡ count = omega arith in rw e

pub upto_next : {n end : ℕ} → n < end → up_from n (end - n) ≡ n ∷ up_from (n + 1) (end - (n + 1))
upto_next {n} {end} l =
    let e : end - n ≡ suc (end - (n + 1)) = omega arith in
    let d : n + 1 ≡ suc n = omega arith in
    rw (e, d) (up_next n (end - suc n))

pub upto-last : {n end : ℕ} → end ≤ n → up_from n (end - n) ≡ []
upto-last {n} {end} l = let e : end - n ≡ 0 = omega arith in rw e (up_none n)
