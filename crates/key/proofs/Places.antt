-- Blocks by the first places of their spans: the digits of a place are those of its pixel's key, and the block is so many digits 1 below.
-- Assumes nothing.
use mathlib.Core.Path.{◌≡◌, sym}
use Prim.Native.Nat.{ℕ, zero, suc, ◌/◌, ◌%◌, ◌^◌, ◌≤◌, ◌<◌}
use native.Mathlib.Nat.{pow-suc, div-add-mod', div-lt_iff_lt-mul, mod-lt}
use native.Mathlib.Omega.{arith}
use Rattle.key.specs.Blocks.{Names}
use Rattle.key.specs.Places.{place_key, span_key}
use Rattle.key.proofs.Powers.{pow-least}
use Rattle.key.proofs.Blocks.{At, whole, quad, lies, form-at, one_at}
use Rattle.key.proofs.Corners.{first-at}
use Rattle.key.proofs.Ends.{block-starting}

-- the block of one pixel at a place
place_at : (m q : ℕ) → q < 4 ^ m → At m (place_key m q) 0 q
unfolding place_key
place_at zero q h = let e : q ≡ 0 = omega arith in rw e whole
place_at (suc k) q h =
    let digit : q / 4 ^ k < 4 = (div-lt_iff_lt-mul (pow-least 3 k)).1 (omega (arith, pow-suc 4 k)) in
    let rest = place_at k (q % 4 ^ k) (mod-lt q (pow-least 3 k)) in
    quad {key' = place_key (suc k) q} (q / 4 ^ k) digit rest (omega arith) (sym (div-add-mod' q (4 ^ k)))

-- a block has the key that its exponent and the first place of its span tell
pub span_key_lem : {m key i s : ℕ} → Names m key i s → key ≡ span_key m i s
unfolding span_key
span_key_lem {m} {key} {i} {s} n =
    let a = form-at m key n.is in
    omega (arith, one_at (first-at a) (place_at m s (omega (arith, (lies a).span, pow-least 3 i))))

-- and each multiple of 4 ^ i in the picture is the first place of one
pub span-named : {m i s : ℕ} → i ≤ m → s % 4 ^ i ≡ 0 → s < 4 ^ m → Names m (span_key m i s) i s
span-named {m} {i} {s} l z h = let b = block-starting m i s l h z in rw (← span_key_lem b.names) b.names
