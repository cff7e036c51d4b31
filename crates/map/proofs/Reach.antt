-- How far the records of a block reach: no further than the block, and then each lies in it; or further, and then the only one contains it.
-- Assumes nothing.
use mathlib.Core.Path.{◌≡◌, sym, ap, ◌∙◌}
use mathlib.Core.List.{List}
use Prim.Native.Nat.{ℕ, max, ◌^◌, ◌≤◌, ◌<◌}
use native.Mathlib.Omega.{arith}
use lib.ListN.{get_or}
use Rattle.key.specs.Blocks.{Names, Among}
use Rattle.key.proofs.Laws.{Covers, one_block, block-lies, pow-least}
use Rattle.map.specs.Sound.{Follow, Spaced}
use Rattle.map.specs.Records.{exponent_of}
use Rattle.map.specs.Runs.{run_of}
use Rattle.map.proofs.Tiles.{Record, Nest, contained, filled}
use Rattle.map.proofs.Order.{spaced, holder}
use Rattle.map.proofs.Tests.{exponent-is, start_is}
use Rattle.map.proofs.Found.{reach-inside, reach-around, block-records}

-- as far as the larger of the block and the record of its first place
pub reach-is : {m : ℕ} (keys : List ℕ) {key i s : ℕ} → Names m key i s → (run_of m keys key).reach ≡ max i (exponent_of m keys s)
unfolding run_of
reach-is keys b = rw (exponent-is b, start_is b)

-- a block, and a record that is alone around it
pub record Alone (m : ℕ) (keys : List ℕ) (key i s : ℕ) : Type 0 where
  pub start : ℕ
  pub one : (run_of m keys key).count ≡ 1
  pub is : Record m keys (run_of m keys key).first (run_of m keys key).reach start
  pub around : Covers start (4 ^ (run_of m keys key).reach) s (4 ^ i)

module _ {m : ℕ} {keys : List ℕ} (F : Spaced m 0 keys) {key i s : ℕ} (b : Names m key i s) where
  pub reach-least : i ≤ (run_of m keys key).reach
  reach-least = omega (arith, reach-is keys b)

  pub reach-within : (run_of m keys key).reach ≡ i → {n j t : ℕ} → Among (run_of m keys key).first (run_of m keys key).count n → Record m keys n j t → Covers s (4 ^ i) t (4 ^ j)
  reach-within e {n} {j} {t} a r = go (block-records F b).nest
    where
      go : Nest m keys i s (run_of m keys key).first (run_of m keys key).count → Covers s (4 ^ i) t (4 ^ j)
      go (filled h) = h n j t a r
      go (contained {j = x} {t = y} c u h) =
          let d : n ≡ (run_of m keys key).first = omega (arith, a) in
          let f : x ≡ i = sym (reach-around F b u h) ∙ sym (reach-is keys b) ∙ e in
          let same : Names m (get_or keys (run_of m keys key).first 0) j t = rw d at r.names in
          let o = one_block same u.names in
          let p = ap (λ (z : ℕ). 4 ^ z) f in
          rw (o.0, o.1) (omega arith)

  pub reach-beyond : i < (run_of m keys key).reach → Alone m keys key i s
  reach-beyond l = go (block-records F b).nest
    where
      go : Nest m keys i s (run_of m keys key).first (run_of m keys key).count → Alone m keys key i s
      go (filled h) = absurd (omega (arith, reach-is keys b, reach-inside F b (block-records F b) h))
      go (contained {j = x} {t = y} c u h) =
          let f : (run_of m keys key).reach ≡ x = reach-is keys b ∙ reach-around F b u h in
          record { start = y; one = c; is = rw f u; around = rw f h }

-- in a whole map there is a record that overlaps the block
pub some-records : {m : ℕ} {keys : List ℕ} → Follow m 0 keys → {key i s : ℕ} → Names m key i s → 1 ≤ (run_of m keys key).count
some-records F {key} {i} {s} b =
    let H = holder F s (omega arith) (omega (arith, (block-lies b).span, pow-least 3 i)) in
    omega (arith, ((block-records (spaced F) b).exactly H.is).0 (omega (arith, H.has, pow-least 3 i)))
