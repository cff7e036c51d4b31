-- Two blocks that are the same: their exponents are, and their first places.
-- Assumes nothing.
use mathlib.Core.Path.{◌≡◌, ap}
use Prim.Native.Nat.{ℕ}
use Rattle.std.specs.Prelude.{Some}
use Rattle.key.specs.declared.Span.{Span}
use Rattle.key.specs.Form.{span}

pub same-span : {b c : Span} → Some b ≡ Some c → b ≡ c
same-span e = cc

pub same-exponent : {i s j t : ℕ} → Some (span i s) ≡ Some (span j t) → i ≡ j
same-exponent e = ap (λ (b : Span). b.exponent) (same-span e)

pub same-start : {i s j t : ℕ} → Some (span i s) ≡ Some (span j t) → s ≡ t
same-start e = ap (λ (b : Span). b.start) (same-span e)
