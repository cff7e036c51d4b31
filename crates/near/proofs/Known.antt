-- Records that are known: each block in one overlaps it alone.
-- Assumes nothing.
use mathlib.Core.Path.{◌≡◌, sym, ap}
use mathlib.Core.Logic.{◌⊎◌, inl, inr}
use mathlib.Core.List.{List}
use Prim.Native.Nat.{ℕ, ◌+◌, ◌^◌, ◌≤◌, ◌<◌}
use native.Mathlib.Nat.{eq-or-lt_of_le}
use native.Mathlib.Omega.{arith}
use lib.ListN.{length, get_or}
use Rattle.key.proofs.Laws.{Covers, Stand, around, after, before, within, one_block, blocks-stand, whole-named, pow-least, size-le}
use Rattle.map.specs.declared.Run.{Run}
use Rattle.map.specs.Sound.{Spaced}
use Rattle.map.specs.Runs.{run, run_of, BlockOf}
use Rattle.map.proofs.Laws.{Record, record-at, found-around}
use Rattle.near.specs.declared.Near.{Near}
use Rattle.near.specs.Near.{LiesIn, Known}

abbrev pub near : ℕ → ℕ → ℕ → Near
near first from end = record { first = first; from = from; end = end }

-- each block in a record is smaller, and overlaps it alone
pub known-record : {m : ℕ} {keys : List ℕ} → Spaced m 0 keys → {n j t from end : ℕ} → Record m keys n j t
    → from ≡ get_or keys n 0 → end ≡ from + 5 ^ j → Known m keys (near n from end)
known-record {m} {keys} F {n} {j} {t} {from} {end} R e f = record {
  first = λ x i c h. ap (λ (r : Run). r.first) (inner c h).0;
  reach = λ x i c h. omega (arith, (inner c h).1, ap (λ (r : Run). r.reach) (inner c h).0);
}
  where
    inner : {x i : ℕ} → BlockOf m x i → LiesIn (near n from end) x → (run_of m keys x ≡ run n 1 j) × (i < j)
    inner {x} {i} c h = (found-around F c.names R (omega (arith, h, e, f)), smaller (blocks-stand R.names c.names))
      where
        -- a block of the record's own size is the record
        less : Covers (get_or keys n 0) (5 ^ j) x (5 ^ i) → (i ≡ j) ⊎ (i < j) → i < j
        less q (inl d) = absurd (omega (arith, q, h, e, ap (λ (z : ℕ). 5 ^ z) d))
        less q (inr k) = k

        smaller : {s : ℕ} → Stand (get_or keys n 0) j t x i s → i < j
        smaller (within p q) = less q (eq-or-lt_of_le ((size-le i j).1 (omega (arith, p))))
        smaller (around k p g q) = absurd (omega (arith, g, h, e))
        smaller (after p q) = absurd (omega (arith, q, h, e, f))
        smaller (before p q) = absurd (omega (arith, q, h, e, pow-least 4 i))

-- where one record is the whole picture, that is known of it
pub known-whole : {m : ℕ} {keys : List ℕ} → Spaced m 0 keys → 1 ≤ length keys → get_or keys 0 0 ≡ 0 → {end : ℕ} → end ≡ 5 ^ m → Known m keys (near 0 0 end)
known-whole {m} {keys} F l e {end} f =
    let R = record-at F 0 (omega arith) in
    let o = one_block (rw e at R.is.names) (whole-named m) in
    known-record F R.is (sym e) (omega (arith, ap (λ (x : ℕ). 5 ^ x) o.0))

-- no block lies in no record
pub known-none : (m : ℕ) (keys : List ℕ) → Known m keys (near 0 0 0)
known-none m keys = record { first = λ key i b h. absurd (omega (arith, h)); reach = λ key i b h. absurd (omega (arith, h)) }
