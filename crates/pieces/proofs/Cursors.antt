-- The first record that ends behind a place: how it is found, for a later place too, and which places are free before it and held by it.
-- Assumes nothing.
use mathlib.Core.Path.{◌≡◌, refl}
use mathlib.Core.Logic.{◌≢◌}
use mathlib.Core.List.{List}
use Prim.Native.Nat.{ℕ, ◌+◌, ◌-◌, ◌^◌, ◌≤◌, ◌<◌}
use native.Mathlib.Decide.{dec_lt}
use native.Mathlib.Omega.{arith}
use lib.ListN.{length, get_or}
use Rattle.key.specs.Blocks.{Names, Among}
use Rattle.key.proofs.Laws.{one_block, block-lies, starts-order, pow-least}
use Rattle.map.specs.Sound.{Follow, Spaced}
use Rattle.map.specs.Runs.{Splits}
use Rattle.map.proofs.Laws.{Record, Holder, Free, spaced, apart, holder}
use Rattle.pieces.specs.declared.Cursor.{Cursor}
use Rattle.pieces.specs.Cursors.{Spans, held, left, Past, At}

pub past-none : (m : ℕ) (keys : List ℕ) (a : ℕ) → Past m keys a 0
past-none m keys a = record { ends = λ l b. absurd (omega arith) }

pub past-later : {m : ℕ} {keys : List ℕ} {a b n : ℕ} → Past m keys a n → a ≤ b → Past m keys b n
past-later P l = record { ends = λ k b. omega (arith, P.ends k b) }

-- the first record of all, at the first place
pub at_first : {m : ℕ} {keys : List ℕ} {c : Cursor} → c.next ≡ 0 → Spans m keys c → At m keys 0 c
at_first {m} {keys} {c} e C = record { past = rw e (past-none m keys 0); spans = C; ahead = go C }
  where
    go : Spans m keys c → 0 < c.end
    go (held {i = i} g d q) = omega (arith, pow-least 3 i)
    go (left g d q) = omega arith

-- it starts where it ends, or before
pub spans-order : {m : ℕ} {keys : List ℕ} {c : Cursor} → Spans m keys c → c.start ≤ c.end
spans-order (held g d e) = omega arith
spans-order (left g d e) = omega arith

module _ {m : ℕ} {keys : List ℕ} (F : Spaced m 0 keys) where
  -- the records before it end where it starts, or before
  before : {c : Cursor} → Spans m keys c → {k i s : ℕ} → k < c.next → Names m (get_or keys k 0) i s → s + 4 ^ i ≤ c.start
  before {c} (held g d e) {k} l b = apart F k c.next (record { within = omega arith; names = b }) (record { within = g; names = d }) l
  before (left g d e) l b = omega (arith, (block-lies b).span)

  -- those up to it end by a place where it does
  pub past_next : {c : Cursor} {a : ℕ} → Spans m keys c → a ≤ 4 ^ m → c.end ≤ a → Past m keys a (c.next + 1)
  past_next (left g d e) h l = absurd (omega arith)
  past_next {c} {a} (held {i = j} g d e) h l = record { ends = λ {k} n b. go n b (dec_lt k c.next) }
    where
      go : {k i s : ℕ} → k < c.next + 1 → Names m (get_or keys k 0) i s → Dec (k < c.next) → s + 4 ^ i ≤ a
      go n b (yes p) = omega (arith, before (held g d e) p b)
      go {k} {i} {s} n b (no p) =
          let q : k ≡ c.next = omega (arith, p) in
          let same : Names m (get_or keys c.next 0) i s = rw q at b in
          let o = one_block same d in
          rw (o.0, o.1) (omega arith)

  -- so do those before number n, where the last of them does
  pub past-last : {key i a n : ℕ} → Names m key i a → {c : Cursor} → Spans m keys c → c.next ≡ n - 1 → n ≢ 0 → c.end ≤ a → Past m keys a n
  past-last {n = n} b {c} C e z l = let q : n ≡ c.next + 1 = omega arith in rw q (past_next C (omega (arith, (block-lies b).span)) l)

  -- ---- the search by the key of a block that starts at the place

  module _ {key i a : ℕ} (b : Names m key i a) {n : ℕ} (S : Splits keys key n) {c : Cursor} (C : Spans m keys c) where
    -- the first record whose key is not below it
    pub seek-here : c.next ≡ n → Past m keys a n → At m keys a c
    seek-here e P = record { past = rw e P; spans = C; ahead = go C }
      where
        go : Spans m keys c → a < c.end
        go (held {i = j} g d q) = omega (arith, starts-order b d (S.over c.next (omega arith) g), pow-least 3 j)
        go (left g d q) = omega (arith, (block-lies b).span)

    -- the last one whose key is
    pub seek-before : c.next ≡ n - 1 → n ≢ 0 → a < c.end → At m keys a c
    seek-before e z l = record { past = record { ends = λ k d. omega (arith, before C k d, starts C) }; spans = C; ahead = l }
      where
        starts : Spans m keys c → c.start ≤ a
        starts (held g d q) = starts-order d b (omega (arith, S.below c.next (omega arith)))
        starts (left g d q) = absurd (omega (arith, S.room))

  -- where the first record that ends behind another place is known: it may be the one
  module _ {b : ℕ} {c : Cursor} (A : At m keys b c) {a : ℕ} (l : a < c.end) where
    pub near-later : b ≤ a → At m keys a c
    near-later h = record { past = past-later A.past h; spans = A.spans; ahead = l }

    pub near-own : c.start ≤ a → At m keys a c
    near-own h = record { past = record { ends = λ k d. omega (arith, before A.spans k d) }; spans = A.spans; ahead = l }

  -- ---- a later place

  module _ {c : Cursor} (C : Spans m keys c) {a : ℕ} (h : a ≤ 4 ^ m) where
    pub advance-room : c.end ≤ a → c.next + 1 ≤ length keys
    advance-room l = go C
      where
        go : Spans m keys c → c.next + 1 ≤ length keys
        go (held g d e) = omega arith
        go (left g d e) = absurd (omega arith)

    pub advance-next : c.end ≤ a → a ≤ c.end → {r : Cursor} → r.next ≡ c.next + 1 → Spans m keys r → At m keys a r
    advance-next l u {r} e R = record { past = rw e (past_next C h l); spans = R; ahead = go C R }
      where
        go : Spans m keys c → Spans m keys r → a < r.end
        go (left g d q) S = absurd (omega arith)
        go (held g d q) (left x y z) = omega arith
        go (held g d q) (held {i = j} x y z) = omega (arith, before R (omega arith) d, pow-least 3 j)

  -- ---- the records from it on end behind the place

  pub at-behind : {a : ℕ} {c : Cursor} → At m keys a c → {n i s : ℕ} → Record m keys n i s → c.next ≤ n → a < s + 4 ^ i
  at-behind {a} {c} A {n} {i} {s} R l = go A.spans (dec_lt c.next n)
    where
      go : Spans m keys c → Dec (c.next < n) → a < s + 4 ^ i
      go (left g x y) d = absurd (omega (arith, R.within))
      go (held g x y) (yes d) = omega (arith, apart F c.next n (record { within = g; names = x }) R d, A.ahead, y, pow-least 3 i)
      go (held {i = j} g x y) (no d) =
          let p : n ≡ c.next = omega (arith, d) in
          let same : Names m (get_or keys c.next 0) i s = rw p at R.names in
          let o = one_block same x in
          rw (o.0, o.1) (omega (arith, A.ahead, y))

  -- ---- the places before it, and its own

  module _ {a : ℕ} {c : Cursor} (A : At m keys a c) where
    pub at_gap : (q : ℕ) → a ≤ q → q < c.start → Free m keys q
    at_gap q l u = record { none = λ {n = x} R h. go R h A.spans (dec_lt x c.next) (dec_lt c.next x) }
      where
        go : {x j t : ℕ} → Record m keys x j t → Among t (4 ^ j) q → Spans m keys c → Dec (x < c.next) → Dec (c.next < x) → ⊥
        go R h S (yes d) e = omega (arith, A.past.ends d R.names, h)
        go R h (left g y z) (no d) e = omega (arith, R.within)
        go {x} R h (held g y z) (no d) (yes e) = omega (arith, apart F c.next x (record { within = g; names = y }) R e, h)
        go {x} {j} {t} R h (held g y z) (no d) (no e) =
            let p : x ≡ c.next = omega (arith, d, e) in
            let same : Names m (get_or keys c.next 0) j t = rw p at R.names in
            omega (arith, (one_block same y).1, h)

    module _ (s : c.start ≤ a) (l : a < 4 ^ m) where
      pub at-within : c.next < length keys
      at-within = go A.spans
        where
          go : Spans m keys c → c.next < length keys
          go (held g d e) = g
          go (left g d e) = absurd (omega arith)

      pub at-holder : (q : ℕ) → a ≤ q → q < c.end → (H : Holder m keys q) × (H.index ≡ c.next)
      at-holder q h u = go A.spans
        where
          go : Spans m keys c → (H : Holder m keys q) × (H.index ≡ c.next)
          go (held {i = j} g d e) = (record { index = c.next; exponent = j; start = c.start; is = record { within = g; names = d }; has = omega arith }, refl)
          go (left g d e) = absurd (omega arith)

-- in a whole map it has the place
pub at-start : {m : ℕ} {keys : List ℕ} → Follow m 0 keys → {a : ℕ} {c : Cursor} → At m keys a c → a < 4 ^ m → c.start ≤ a
at-start F {a} {c} A l = go (dec_lt a c.start)
  where
    go : Dec (a < c.start) → c.start ≤ a
    go (yes d) = let H = holder F a (omega arith) l in absurd ((at_gap (spaced F) A a (omega arith) d).none H.is H.has)
    go (no d) = omega (arith, d)

-- it is one of the map, or none is left
pub at_room : {m : ℕ} {keys : List ℕ} {a : ℕ} {c : Cursor} → At m keys a c → c.next ≤ length keys
at_room {m} {keys} {c = c} A = go A.spans
  where
    go : Spans m keys c → c.next ≤ length keys
    go (held g d e) = omega arith
    go (left g d e) = omega arith
