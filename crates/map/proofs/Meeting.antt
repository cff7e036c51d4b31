-- The records that a block meets: where the keys from its own on, as many as it has, begin and end in the list of keys. By `blocks-stand`.
-- Assumes nothing.
use mathlib.Core.Path.{◌≡◌, refl, ap}
use mathlib.Core.List.{List}
use Prim.Native.Nat.{ℕ, suc, max, ◌+◌, ◌-◌, ◌^◌, ◌≤◌, ◌<◌}
use native.Mathlib.Decide.{dec_lt}
use native.Mathlib.Omega.{arith}
use lib.ListN.{get_or}
use Rattle.key.specs.Blocks.{Names, Among}
use Rattle.key.proofs.Laws.{Covers, Stand, around, after, before, within, one_block, blocks-stand, nested, pow-least}
use Rattle.map.specs.Sound.{Spaced}
use Rattle.map.specs.Runs.{Splits}
use Rattle.map.proofs.Tiles.{Record, SomeRecord, Overlap, contained, filled, Meets}
use Rattle.map.proofs.Order.{record-at, keys-apart, one-holder}

-- a record around a block is the only one that meets it
pub meets-around : {m : ℕ} {keys : List ℕ} → Spaced m 0 keys → {i s n j t : ℕ} → Record m keys n j t → Covers t (4 ^ j) s (4 ^ i) → Meets m keys i s n 1
meets-around {m} {keys} F {i} {s} {n} {j} {t} R h = record {
  empty = λ d. absurd (omega arith);
  room = omega (arith, R.within);
  exactly = λ r. (to r, λ l. from r (omega arith));
  nest = contained refl R h;
}
  where
    to : {k x y : ℕ} → Record m keys k x y → Overlap s (4 ^ i) y (4 ^ x) → Among n 1 k
    to {k} {x} {y} r o = let e = one-holder F {q = max s y} r R (omega (arith, pow-least 3 x)) (omega (arith, pow-least 3 i)) in omega arith

    from : {k x y : ℕ} → Record m keys k x y → k ≡ n → Overlap s (4 ^ i) y (4 ^ x)
    from {k} {x} {y} r d =
        let same : Names m (get_or keys n 0) x y = rw d at r.names in
        let o = one_block same R.names in
        rw (o.0, o.1) (omega (arith, pow-least 3 i))

-- a list of records, a block, and where its keys begin and end in the list
module _ {m : ℕ} {keys : List ℕ} (F : Spaced m 0 keys) {key i s : ℕ} (b : Names m key i s) {a z : ℕ} (A : Splits keys key a) (Z : Splits keys (key + 5 ^ i) z) where
  -- a record between the two lies in the block
  pub in-block : {n j t : ℕ} → Record m keys n j t → a ≤ n → n < z → Covers s (4 ^ i) t (4 ^ j)
  in-block {n} r l h = (nested b r.names).1 (record { least = A.over n l r.within; most = Z.below n h })

  -- one before them that meets the block contains it, and then no record stands between
  before-them : {n j t : ℕ} → Record m keys n j t → n < a → a < z → Overlap s (4 ^ i) t (4 ^ j) → ⊥
  before-them {n} {j} {t} r l h o = go (blocks-stand b r.names)
    where
      next : SomeRecord m keys a
      next = record-at F a (omega (arith, Z.room))

      go : Stand key i s (get_or keys n 0) j t → ⊥
      go (within p q) = omega (arith, A.below n l)
      go (around k p g q) = omega (arith, keys-apart F n a r next.is l, Z.below a h)
      go (after p q) = omega (arith, A.below n l)
      go (before p q) = omega arith

  -- none behind them meets it
  behind-them : {n j t : ℕ} → Record m keys n j t → z ≤ n → Overlap s (4 ^ i) t (4 ^ j) → ⊥
  behind-them {n} {j} {t} r l o = go (blocks-stand b r.names)
    where
      past : key + 5 ^ i ≤ get_or keys n 0
      past = Z.over n l r.within

      go : Stand key i s (get_or keys n 0) j t → ⊥
      go (within p q) = omega (arith, past, pow-least 4 j)
      go (around k p g q) = omega (arith, past)
      go (after p q) = omega arith
      go (before p q) = omega (arith, past)

  -- some keys stand there: those records lie in the block, and no other meets it
  pub meets-run : a < z → Meets m keys i s a (z - a)
  meets-run l = record {
    empty = λ e. absurd (omega arith);
    room = omega (arith, Z.room);
    exactly = λ {n} {j} {t} r. (λ o. to r o (dec_lt n a) (dec_lt n z), λ h. let p = in-block r (omega arith) (omega arith) in omega (arith, pow-least 3 j));
    nest = filled (λ n j t h r. in-block r (omega arith) (omega arith));
  }
    where
      to : {n j t : ℕ} → Record m keys n j t → Overlap s (4 ^ i) t (4 ^ j) → Dec (n < a) → Dec (n < z) → Among a (z - a) n
      to r o (yes h) d = absurd (before-them r h l o)
      to r o (no g) (yes h) = omega (arith, g)
      to r o (no g) (no h) = absurd (behind-them r (omega (arith, h)) o)

  -- no key stands there: only the record before them may meet the block, and then it contains it
  module _ (e : a ≡ z) where
    -- a record that meets the block has its key, and is the one before
    last : {n j t : ℕ} → Record m keys n j t → Overlap s (4 ^ i) t (4 ^ j) → (suc n ≡ a) × (key < get_or keys n 0 + 5 ^ j)
    last {n} {j} {t} r o = go (blocks-stand b r.names) (dec_lt n a) (dec_lt (suc n) a)
      where
        go : Stand key i s (get_or keys n 0) j t → Dec (n < a) → Dec (suc n < a) → (suc n ≡ a) × (key < get_or keys n 0 + 5 ^ j)
        go (within p q) (yes h) d = absurd (omega (arith, A.below n h))
        go (within p q) (no h) d = absurd (omega (arith, Z.over n (omega arith) r.within, pow-least 4 j))
        go (around k p g q) (no h) d = absurd (omega (arith, A.over n (omega arith) r.within))
        go (around k p g q) (yes h) (yes u) =
            let w = record-at F (suc n) (omega (arith, A.room)) in
            absurd (omega (arith, A.below (suc n) u, keys-apart F n (suc n) r w.is (omega arith)))
        go (around k p g q) (yes h) (no u) = (omega arith, omega (arith, pow-least 4 i))
        go (after p q) d u = absurd (omega arith)
        go (before p q) d u = absurd (omega arith)

    -- no record before, or one that ends before the block
    pub meets-none : ((j t : ℕ) → 1 ≤ a → Record m keys (a - 1) j t → get_or keys (a - 1) 0 + 5 ^ j ≤ key) → Meets m keys i s 0 0
    meets-none ends = record {
      empty = λ d. refl;
      room = omega arith;
      exactly = λ {n} r. (λ o. absurd (not-one r o), λ h. absurd (omega arith));
      nest = filled (λ n j t h r. absurd (omega arith));
    }
      where
        not-one : {n j t : ℕ} → Record m keys n j t → Overlap s (4 ^ i) t (4 ^ j) → ⊥
        not-one {n} {j} {t} r o =
            let w = last r o in
            let d : n ≡ a - 1 = omega (arith, w.0) in
            omega (arith, ends j t (omega (arith, w.0)) (rw d at r), w.1, ap (λ (x : ℕ). get_or keys x 0) d)
