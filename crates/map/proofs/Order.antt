-- The records of a map in their order: each is a block, they stand apart, and a place is in one of them or in none; in a whole map, in one. By induction over `Spaced` and `Follow`.
-- Assumes nothing.
use mathlib.Core.Path.{◌≡◌}
use mathlib.Core.Logic.{◌⊎◌, inl, inr}
use mathlib.Core.Bool.{Bool, true, false}
use mathlib.Core.List.{List, ◌∷◌}
use Prim.Native.Nat.{ℕ, zero, suc, ◌+◌, ◌^◌, ◌≤◌, ◌<◌}
use native.Mathlib.Decide.{dec_le, dec_lt}
use native.Mathlib.Omega.{arith}
use lib.ListN.{length, get_or}
use Rattle.answers.proofs.Laws.{sized-sparse}
use Rattle.key.specs.Blocks.{Among}
use Rattle.key.proofs.Laws.{one_block, ordered, pow-least}
use Rattle.map.specs.Sound.{Follow, full, next, Spaced, ended, later, Recorded, SoundIn, SoundMap}
use Rattle.map.specs.Runs.{Rising}
use Rattle.map.proofs.Tiles.{Record, SomeRecord, Holder, Free}

module _ {m : ℕ} where
  -- what leaves no gap rises without overlap
  pub spaced : {at : ℕ} {keys : List ℕ} → Follow m at keys → Spaced m at keys
  spaced (full e) = ended
  spaced {at} (next b q F) = later {at = at} {s = at} (omega arith) b q (spaced F)

  pub recorded-spaced : (whole : Bool) {keys : List ℕ} → Recorded whole m keys → Spaced m 0 keys
  recorded-spaced true F = spaced F
  recorded-spaced false F = F

  -- so a whole map is one that may have gaps
  pub whole-sparse : {keys : List ℕ} {classes : ℕ} → SoundMap m keys classes → SoundIn false m keys classes
  whole-sparse S = record { sizes = sized-sparse S.sizes; records = spaced S.records }

  pub record-at : {at : ℕ} {keys : List ℕ} → Spaced m at keys → (n : ℕ) → n < length keys → SomeRecord m keys n
  record-at ended n l = absurd (omega arith)
  record-at (later h b q F) zero l = record { exponent = _; start = _; is = record { within = l; names = b } }
  record-at (later h b q F) (suc n) l =
      let r = record-at F n (omega arith) in
      record { exponent = r.exponent; start = r.start; is = record { within = l; names = r.is.names } }

  -- a record behind the first
  behind : {k : ℕ} {keys : List ℕ} {n i s : ℕ} → Record m (k ∷ keys) (suc n) i s → Record m keys n i s
  behind r = record { within = omega (arith, r.within); names = r.names }

  held-behind : {k : ℕ} {keys : List ℕ} {q : ℕ} → Holder m keys q → Holder m (k ∷ keys) q
  held-behind r =
      record {
        index = suc r.index;
        exponent = r.exponent;
        start = r.start;
        is = record { within = omega (arith, r.is.within); names = r.is.names };
        has = r.has;
      }

  -- no record starts before the first place
  not-before : {at : ℕ} {keys : List ℕ} → Spaced m at keys → (n : ℕ) {i s : ℕ} → Record m keys n i s → at ≤ s
  not-before ended n r = absurd (omega (arith, r.within))
  not-before (later h b q F) zero r = omega (arith, (one_block b r.names).1)
  not-before (later h b q F) (suc n) r = omega (arith, not-before F n (behind r))

  pub apart : {at : ℕ} {keys : List ℕ} → Spaced m at keys → (a b : ℕ) {i s j t : ℕ} → Record m keys a i s → Record m keys b j t → a < b → s + 4 ^ i ≤ t
  apart F a zero r u l = absurd (omega arith)
  apart ended a (suc b) r u l = absurd (omega (arith, u.within))
  apart (later h c q F) zero (suc b) r u l = let o = one_block r.names c in rw (o.0, o.1, ← q) (not-before F b (behind u))
  apart (later h c q F) (suc a) (suc b) r u l = apart F a b (behind r) (behind u) (omega arith)

  -- the first record starts at the first place, and each next one where the last span ended
  heads : {at : ℕ} {keys : List ℕ} → Follow m at keys → {i s : ℕ} → Record m keys 0 i s → s ≡ at
  heads (full e) r = absurd (omega (arith, r.within))
  heads (next b q F) r = (one_block r.names b).1

  pub follows : {at : ℕ} {keys : List ℕ} → Follow m at keys → (n : ℕ) {i s j t : ℕ} → Record m keys n i s → Record m keys (suc n) j t → t ≡ s + 4 ^ i
  follows (full e) n r u = absurd (omega (arith, r.within))
  follows (next b q F) zero r u = let o = one_block r.names b in rw (o.0, o.1, ← q) (heads F (behind u))
  follows (next b q F) (suc n) r u = follows F n (behind r) (behind u)

  pub holder : {at : ℕ} {keys : List ℕ} → Follow m at keys → (q : ℕ) → at ≤ q → q < 4 ^ m → Holder m keys q
  holder (full e) q l u = absurd (omega arith)
  holder {at} (next {k = k} {i = i} {end = end} {ks = ks} b e F) q l u = go (dec_lt q end) (holder F q)
    where
      go : Dec (q < end) → (end ≤ q → q < 4 ^ m → Holder m ks q) → Holder m (k ∷ ks) q
      go (yes h) ih = record { index = 0; exponent = _; start = _; is = record { within = omega arith; names = b }; has = omega arith }
      go (no h) ih = held-behind (ih (omega (arith, h)) u)

  -- a place is in a record, or in none
  pub find : {at : ℕ} {keys : List ℕ} → Spaced m at keys → (q : ℕ) → Holder m keys q ⊎ Free m keys q
  find ended q = inr (record { none = λ r h. omega (arith, r.within) })
  find (later {k = k} {i = i} {s = s} {ks = ks} h b e F) q = go (dec_le s q) (dec_lt q (s + 4 ^ i)) (find F q)
    where
      behind-first : Holder m ks q ⊎ Free m ks q → (Among s (4 ^ i) q → ⊥) → Holder m (k ∷ ks) q ⊎ Free m (k ∷ ks) q
      behind-first (inl r) n = inl (held-behind r)
      behind-first (inr f) n = inr (record { none = λ {n = x} r u. each x r u })
        where
          each : (x : ℕ) {j t : ℕ} → Record m (k ∷ ks) x j t → Among t (4 ^ j) q → ⊥
          each zero r u = let o = one_block r.names b in n (rw (o.0, o.1) at u)
          each (suc x) r u = f.none (behind r) u

      go : Dec (s ≤ q) → Dec (q < s + 4 ^ i) → Holder m ks q ⊎ Free m ks q → Holder m (k ∷ ks) q ⊎ Free m (k ∷ ks) q
      go (yes l) (yes u) ih = inl (record { index = 0; exponent = _; start = _; is = record { within = omega arith; names = b }; has = omega arith })
      go (no l) d ih = behind-first ih (λ z. omega arith)
      go (yes l) (no u) ih = behind-first ih (λ z. omega arith)

  -- keys rise, by as much as the earlier block has keys
  pub keys-apart : {at : ℕ} {keys : List ℕ} → Spaced m at keys → (a b : ℕ) {i s j t : ℕ} → Record m keys a i s → Record m keys b j t
      → a < b → get_or keys a 0 + 5 ^ i ≤ get_or keys b 0
  keys-apart F a b r u l = (ordered r.names u.names).0 (apart F a b r u l)

  pub keys-rise : {at : ℕ} {keys : List ℕ} → Spaced m at keys → Rising keys
  keys-rise {keys = keys} F = record { rise = rise }
    where
      rise : (a b : ℕ) → a < b → b < length keys → get_or keys a 0 < get_or keys b 0
      rise a b l h =
          let r = record-at F a (omega arith) in
          omega (arith, keys-apart F a b r.is (record-at F b h).is l, pow-least 4 r.exponent)

  -- two records that share a place are one
  pub one-holder : {at : ℕ} {keys : List ℕ} → Spaced m at keys → {a b q i s j t : ℕ} → Record m keys a i s → Record m keys b j t
      → Among s (4 ^ i) q → Among t (4 ^ j) q → a ≡ b
  one-holder F {a} {b} r u x y = go (dec_lt a b) (dec_lt b a)
    where
      go : Dec (a < b) → Dec (b < a) → a ≡ b
      go (yes l) d = absurd (omega (arith, apart F a b r u l))
      go (no h) (yes l) = absurd (omega (arith, apart F b a u r l))
      go (no h) (no k) = omega (arith, h, k)
