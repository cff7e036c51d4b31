-- The records inside a block, one after another. A block is a picture of its own: there a record's key is what it has over the block's, and the records follow one another.
-- Assumes nothing.
use mathlib.Core.Path.{◌≡◌}
use mathlib.Core.List.{List}
use Prim.Native.Nat.{ℕ, suc, ◌+◌, ◌-◌, ◌^◌, ◌<◌}
use native.Mathlib.Decide.{dec_lt}
use native.Mathlib.Numerals.{add-one}
use native.Mathlib.Omega.{arith}
use lib.ListN.{get_or}
use Rattle.key.specs.Form.{form_of}
use Rattle.key.specs.Blocks.{Names, Among}
use Rattle.key.proofs.Laws.{Covers, one_block, block-lies, nested, sub-key, pow-least}
use Rattle.map.specs.Spans.{form_exponent, start}
use Rattle.map.specs.Sound.{Follow}
use Rattle.map.specs.Runs.{run_of}
use Rattle.map.proofs.Tiles.{Record, SomeRecord, Holder}
use Rattle.map.proofs.Order.{spaced, record-at, apart, follows, holder}
use Rattle.map.proofs.Found.{block-records}
use Rattle.map.proofs.Reach.{reach-within}
use Rattle.map.proofs.Tests.{exponent-is, start_is}

-- record n, if it is one of those before `end`, starts at place p of the block of a key
pub record Inner (m : ℕ) (keys : List ℕ) (key end n p : ℕ) : Type 0 where
  pub here : n < end → start (form_of m (get_or keys n 0)) ≡ start (form_of m key) + p

-- a block of a whole map, beyond which its records do not reach
module _ {m : ℕ} {keys : List ℕ} (F : Follow m 0 keys) {key i s : ℕ} (b : Names m key i s) (short : (run_of m keys key).reach ≡ i) where
  abbrev first : ℕ
  first = (run_of m keys key).first

  abbrev count : ℕ
  count = (run_of m keys key).count

  inside : {n j t : ℕ} → Among first count n → Record m keys n j t → Covers s (4 ^ i) t (4 ^ j)
  inside = reach-within (spaced F) b short

  -- one of them holds the block's first place, and none stands before it
  starts : {j t : ℕ} → Record m keys first j t → t ≡ s
  starts {j} {t} r = go (holder F s (omega arith) (omega (arith, (block-lies b).span, pow-least 3 i)))
    where
      go : Holder m keys s → t ≡ s
      go H =
          let a : Among first count H.index = ((block-records (spaced F) b).exactly H.is).0 (omega (arith, H.has, pow-least 3 i)) in
          let k = inside a H.is in
          elim (dec_lt first H.index) [
            | yes l ↦ absurd (omega (arith, apart (spaced F) first H.index r H.is l, inside (omega arith) r, H.has, pow-least 3 j))
            | no l ↦
                let e : first ≡ H.index = omega arith in
                let u : Names m (get_or keys H.index 0) j t = rw e at r.names in
                omega (arith, (one_block u H.is.names).1, H.has)
          ]

  at : (n : ℕ) → n < first + count → SomeRecord m keys n
  at n l = record-at (spaced F) n (omega (arith, (block-records (spaced F) b).room))

  pub inner_first : Inner m keys key (first + count) first 0
  inner_first = record { here = λ l. let r = at first l in omega (arith, start_is b, start_is r.is.names, starts r.is) }

  -- its keys are among the block's
  pub inner-key : {n : ℕ} → Among first count n → Among key (5 ^ i) (get_or keys n 0)
  inner-key {n} a = let r = at n a.most in (nested b r.is.names).0 (inside a r.is)

  module _ {n p : ℕ} (a : Among first count n) (I : Inner m keys key (first + count) n p) where
    -- what it is in the block, and where it ends the next one starts
    pub inner-names : Names i (get_or keys n 0 - key) (form_exponent (form_of m (get_or keys n 0))) p
    inner-names =
        let r = at n a.most in
        let e : r.start - s ≡ p = omega (arith, start_is b, start_is r.is.names, I.here a.most) in
        rw (exponent-is r.is.names, ← e) (sub-key b r.is.names (inside a r.is))

    pub inner-next : {end : ℕ} → end ≡ p + 4 ^ form_exponent (form_of m (get_or keys n 0)) → Inner m keys key (first + count) (n + 1) end
    inner-next {end} e = rw add-one (record { here = next })
      where
        next : suc n < first + count → start (form_of m (get_or keys (suc n) 0)) ≡ start (form_of m key) + end
        next l =
            let r = at n a.most in
            let u = at (suc n) l in
            let q : end ≡ p + 4 ^ r.exponent = rw (exponent-is r.is.names) at e in
            omega (arith, start_is u.is.names, follows F n r.is u.is, start_is r.is.names, I.here a.most)
