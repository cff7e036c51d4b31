-- A stretch of places in a map that may have gaps: records in their order, a gap before each, and one behind the last. So is a block beyond which its records do not reach.
-- Assumes nothing.
use mathlib.Core.Path.{◌≡◌, refl}
use mathlib.Core.Logic.{◌⊎◌, inl, inr}
use mathlib.Core.List.{List}
use Prim.Native.Nat.{ℕ, zero, suc, ◌+◌, ◌-◌, ◌^◌, ◌≤◌, ◌<◌}
use native.Mathlib.Decide.{ℕ_discrete}
use native.Mathlib.Omega.{arith}
use lib.ListN.{length, get_or}
use Rattle.key.specs.Blocks.{Names, Among}
use Rattle.key.proofs.Laws.{Covers, one_block, pow-least}
use Rattle.map.specs.Sound.{Spaced}
use Rattle.map.specs.Runs.{run_of}
use Rattle.map.proofs.Laws.{Record, SomeRecord, Holder, Free, record-at, apart, find, block-records, reach-within}

-- no record has a place from a up to b
pub record Gap (m : ℕ) (keys : List ℕ) (a b : ℕ) : Type 0 where
  pub order : a ≤ b
  pub free : (q : ℕ) → a ≤ q → q < b → Free m keys q

-- the places from `at` up to `to`, and the `count` records from n on. A gap may have no place
pub data Pieces (m : ℕ) (keys : List ℕ) (to : ℕ) : ℕ → ℕ → ℕ → Type 0 where
  last : {at n : ℕ} → Gap m keys at to → Pieces m keys to at n 0
  next : {at n count i s end : ℕ} → Gap m keys at s → Record m keys n i s → end ≡ s + 4 ^ i → end ≤ to → Pieces m keys to end (suc n) count → Pieces m keys to at n (suc count)

-- the first record of some, the gap before it, and what is behind it
pub record Front (m : ℕ) (keys : List ℕ) (to at n count : ℕ) : Type 0 where
  pub exponent : ℕ
  pub start : ℕ
  pub gap : Gap m keys at start
  pub is : Record m keys n exponent start
  pub within : start + 4 ^ exponent ≤ to
  pub rest : Pieces m keys to (start + 4 ^ exponent) (suc n) (count - 1)

pub front : {m : ℕ} {keys : List ℕ} {to at n count : ℕ} → 1 ≤ count → Pieces m keys to at n count → Front m keys to at n count
front l (last G) = absurd (omega arith)
front {m} {keys} {to} {n = n} l (next {count = c} {i = i} {s = s} {end = e} G R d h P) =
    let x : suc c - 1 ≡ c = omega arith in
    record { exponent = i; start = s; gap = G; is = R; within = omega arith; rest = rw (← d, x) P }

module _ {m : ℕ} {keys : List ℕ} (F : Spaced m 0 keys) where
  -- a place in none of these records, where there are no others, is in none
  not-held : {q : ℕ} → ((H : Holder m keys q) → ⊥) → Free m keys q
  not-held {q} h = go (find F q)
    where
      go : Holder m keys q ⊎ Free m keys q → Free m keys q
      go (inl H) = absurd (h H)
      go (inr f) = f

  -- the records from n on, so many, are all that have a place from `at` up to `to`, and they lie there
  pub record AllThere (at to n count : ℕ) : Type 0 where
    pub order : at ≤ to
    pub room : n + count ≤ length keys
    pub only : {q : ℕ} → at ≤ q → q < to → (H : Holder m keys q) → Among n count H.index
    pub inside : {k j t : ℕ} → Among n count k → Record m keys k j t → Covers at (to - at) t (4 ^ j)

  pub pieces : (to count n at : ℕ) → AllThere at to n count → Pieces m keys to at n count
  pieces to zero n at A = last (record { order = A.order; free = λ q l h. not-held (λ H. omega (arith, A.only l h H)) })
  pieces to (suc count) n at A = go (record-at F n (omega (arith, A.room))) (pieces to count (suc n))
    where
      go : SomeRecord m keys n → ((at : ℕ) → AllThere at to (suc n) count → Pieces m keys to at (suc n) count) → Pieces m keys to at n (suc count)
      go R ih = next {end = R.start + 4 ^ R.exponent} gap R.is refl (omega (arith, lies, A.order)) (ih (R.start + 4 ^ R.exponent) rest)
        where
          lies : Covers at (to - at) R.start (4 ^ R.exponent)
          lies = A.inside (omega arith) R.is

          -- one of them that has a place before the first, or behind it
          behind : {q : ℕ} (H : Holder m keys q) → Among n (suc count) H.index → (n ≡ H.index → ⊥) → R.start + 4 ^ R.exponent ≤ H.start
          behind H a d = apart F n H.index R.is H.is (omega arith)

          first : {q : ℕ} (H : Holder m keys q) → n ≡ H.index → Among R.start (4 ^ R.exponent) q
          first H e = let same : Names m (get_or keys H.index 0) R.exponent R.start = rw e at R.is.names in
              let o = one_block same H.is.names in rw (o.0, o.1) H.has

          gap : Gap m keys at R.start
          gap = record { order = omega (arith, lies); free = λ q l h. not-held (λ H. clash H (A.only l (omega (arith, lies, A.order)) H) h (ℕ_discrete n H.index)) }
            where
              clash : {q : ℕ} (H : Holder m keys q) → Among n (suc count) H.index → q < R.start → Dec (n ≡ H.index) → ⊥
              clash H a h (yes e) = omega (arith, first H e)
              clash H a h (no d) = omega (arith, behind H a d, H.has)

          rest : AllThere (R.start + 4 ^ R.exponent) to (suc n) count
          rest = record {
            order = omega (arith, lies, A.order);
            room = omega (arith, A.room);
            only = λ {q} l h H. held H (A.only (omega (arith, lies, pow-least 3 R.exponent)) h H) l (ℕ_discrete n H.index);
            inside = λ {k} {j} {t} a r. after a r (A.inside (omega arith) r);
          }
            where
              held : {q : ℕ} (H : Holder m keys q) → Among n (suc count) H.index → R.start + 4 ^ R.exponent ≤ q → Dec (n ≡ H.index) → Among (suc n) count H.index
              held H a l (yes e) = absurd (omega (arith, first H e))
              held H a l (no d) = omega arith

              after : {k j t : ℕ} → Among (suc n) count k → Record m keys k j t → Covers at (to - at) t (4 ^ j)
                  → Covers (R.start + 4 ^ R.exponent) (to - (R.start + 4 ^ R.exponent)) t (4 ^ j)
              after {k} a r c = let g = apart F n k R.is r (omega arith) in omega (arith, A.order)

  -- a block beyond which its records do not reach
  pub block-pieces : {key i s : ℕ} → Names m key i s → (run_of m keys key).reach ≡ i → Pieces m keys (s + 4 ^ i) s (run_of m keys key).first (run_of m keys key).count
  block-pieces {key} {i} {s} b e =
      let M = block-records F b in
      pieces (s + 4 ^ i) (run_of m keys key).count (run_of m keys key).first s (record {
        order = omega arith;
        room = M.room;
        only = λ {q} l h H. (M.exactly H.is).0 (omega (arith, H.has));
        inside = λ {k} {j} {t} a r. let c = reach-within F b e a r in omega arith;
      })
