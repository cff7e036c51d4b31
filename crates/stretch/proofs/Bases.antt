-- Blocks of places. All that is used of `base i q` later is linear in it and in 4 ^ i.
-- Assumes nothing.
use mathlib.Core.Path.{◌≡◌, ap}
use mathlib.Core.Logic.{◌↔◌}
use Prim.Native.Nat.{ℕ, suc, ◌+◌, ◌*◌, ◌/◌, ◌%◌, ◌^◌, ◌≤◌, ◌<◌}
use native.Mathlib.Nat.{div-div-eq-div-mul, div-add-mod', pow-suc}
use native.Mathlib.Omega.{arith}
use Rattle.lists.proofs.Laws.{down_le, down_lt, down-eq, down-zero, down-up}
use Rattle.stretch.specs.Sets.{base}

pub base-le : (i q : ℕ) → base i q ≤ q
unfolding base
base-le = down_le 3

pub base-lt : (i q : ℕ) → q < base i q + 4 ^ i
unfolding base
base-lt = down_lt 3

-- a place between the ends of a block has that block
pub base-eq : (i x y : ℕ) → base i x ≤ y → y < base i x + 4 ^ i → base i y ≡ base i x
unfolding base
base-eq = down-eq 3

pub base-zero : (q : ℕ) → base 0 q ≡ q
unfolding base
base-zero = down-zero 3

pub base-up : (i j x y : ℕ) → i ≤ j → base i x ≡ base i y → base j x ≡ base j y
unfolding base
base-up = down-up 3

-- q is the first place of its block
pub base-own : (i q : ℕ) → (base i q ≡ q) ↔ (q % 4 ^ i ≡ 0)
unfolding base
base-own i q = (λ e. omega (arith, div-add-mod' q (4 ^ i)), λ e. omega (arith, div-add-mod' q (4 ^ i)))

-- a block among the four of the next larger one
pub base-digit : (i q : ℕ) → base i q ≡ base (suc i) q + q / 4 ^ i % 4 * 4 ^ i
unfolding base
base-digit i q =
    let p : ℕ = 4 ^ i in
    let z : ℕ = q / p in
    rw (pow-suc 4 i, ← div-div-eq-div-mul q p 4) (omega (arith, ap (λ (x : ℕ). x * p) (div-add-mod' z 4)))
