-- In a map without gaps the next record starts where one ends, and the last one ends with the picture.
-- Assumes nothing.
use mathlib.Core.Path.{◌≡◌}
use mathlib.Core.List.{List}
use Prim.Native.Nat.{ℕ, ◌+◌, ◌^◌, ◌≤◌, ◌<◌}
use native.Mathlib.Decide.{dec_lt}
use native.Mathlib.Omega.{arith}
use lib.ListN.{length, get_or}
use Rattle.key.specs.Reading.{EndsIn}
use Rattle.key.specs.Blocks.{Names}
use Rattle.key.proofs.Laws.{block-lies, one_block, pow-least, ends-exponent}
use Rattle.map.specs.Sound.{Follow}
use Rattle.map.proofs.Laws.{Record, SomeRecord, Holder, spaced, record-at, apart, holder}
use Rattle.pieces.specs.declared.Cursor.{Cursor}
use Rattle.pieces.specs.Cursors.{Spans, held, left, At}
use Rattle.pieces.proofs.Cursors.{advance-next}

module _ {m : ℕ} {keys : List ℕ} (F : Follow m 0 keys) where
  -- the record that has the place where one ends is a later one
  later : {n i s : ℕ} → Record m keys n i s → (H : Holder m keys (s + 4 ^ i)) → n < H.index
  later {n} {i} {s} R H = go (dec_lt H.index n) (dec_lt n H.index)
    where
      go : Dec (H.index < n) → Dec (n < H.index) → n < H.index
      go a (yes l) = l
      go (yes l) (no d) = absurd (omega (arith, apart (spaced F) H.index n H.is R l, H.has, pow-least 3 i))
      go (no e) (no d) =
          let p : H.index ≡ n = omega (arith, d, e) in
          let same : Names m (get_or keys n 0) H.exponent H.start = rw p at H.is.names in
          let o = one_block same R.names in
          let b : H.start ≡ s = o.1 in
          let f : 4 ^ H.exponent ≡ 4 ^ i = rw o.0 in
          absurd (omega (arith, H.has, b, f))

  pub ends_last : {n i s : ℕ} → Record m keys n i s → n + 1 ≡ length keys → s + 4 ^ i ≡ 4 ^ m
  ends_last {n} {i} {s} R e = go (dec_lt (s + 4 ^ i) (4 ^ m))
    where
      go : Dec (s + 4 ^ i < 4 ^ m) → s + 4 ^ i ≡ 4 ^ m
      go (yes l) = let H = holder F (s + 4 ^ i) (omega arith) l in absurd (omega (arith, later R H, H.is.within))
      go (no d) = omega (arith, d, (block-lies R.names).span)

  pub starts-next : {n i s j t : ℕ} → Record m keys n i s → Record m keys (n + 1) j t → t ≡ s + 4 ^ i
  starts-next {n} {i} {s} {j} {t} R T = go (holder F (s + 4 ^ i) (omega arith) inside)
    where
      inside : s + 4 ^ i < 4 ^ m
      inside = omega (arith, apart (spaced F) n (n + 1) R T (omega arith), (block-lies T.names).span, pow-least 3 j)

      low : s + 4 ^ i ≤ t
      low = apart (spaced F) n (n + 1) R T (omega arith)

      go : Holder m keys (s + 4 ^ i) → t ≡ s + 4 ^ i
      go H = beyond (dec_lt (n + 1) H.index)
        where
          beyond : Dec (n + 1 < H.index) → t ≡ s + 4 ^ i
          beyond (yes l) = absurd (omega (arith, apart (spaced F) (n + 1) H.index T H.is l, H.has, low, pow-least 3 j))
          beyond (no d) =
              let p : H.index ≡ n + 1 = omega (arith, d, later R H) in
              let same : Names m (get_or keys (n + 1) 0) H.exponent H.start = rw p at H.is.names in
              omega (arith, (one_block same T.names).1, H.has, low)

  -- ---- from one record to the next

  module _ {c : Cursor} (C : Spans m keys c) {a : ℕ} (h : a ≤ 4 ^ m) (u : c.end ≤ a) (l : a ≤ c.end) {r : Cursor} (n : r.next ≡ c.next + 1) (s : r.start ≡ c.end) where
    pub whole-left : c.next + 1 ≡ length keys → r.end ≡ c.end + 1 → At m keys a r
    whole-left e d = advance-next (spaced F) C h u l n (go C)
      where
        go : Spans m keys c → Spans m keys r
        go (left g x y) = absurd (omega arith)
        go (held g x y) = let z = ends_last (record { within = g; names = x }) e in left (omega arith) (omega arith) (omega arith)

    pub whole-held : c.next + 1 < length keys → {i : ℕ} → EndsIn m (get_or keys (c.next + 1) 0) i → r.end ≡ c.end + 4 ^ i → At m keys a r
    whole-held b {i} E d = advance-next (spaced F) C h u l n (go C (record-at (spaced F) (c.next + 1) b))
      where
        go : Spans m keys c → SomeRecord m keys (c.next + 1) → Spans m keys r
        go (left g x y) R = absurd (omega arith)
        go (held g x y) R =
            let t = starts-next (record { within = g; names = x }) R.is in
            let f : i ≡ R.exponent = ends-exponent R.is.names E in
            let p : r.start ≡ R.start = omega arith in
            held {i = i} (omega arith) (rw (n, p, f) R.is.names) (omega (arith, d, s))

  -- its exponent is that of a block in the picture
  module _ {c : Cursor} (C : Spans m keys c) (b : c.next + 1 < length keys) {i : ℕ} (E : EndsIn m (get_or keys (c.next + 1) 0) i) where
    pub whole_room : c.end ≤ 4 ^ m → c.end + 4 ^ i ≤ 4 ^ m
    whole_room h = go C (record-at (spaced F) (c.next + 1) b)
      where
        go : Spans m keys c → SomeRecord m keys (c.next + 1) → c.end + 4 ^ i ≤ 4 ^ m
        go (left g x y) R = absurd (omega arith)
        go (held g x y) R =
            let t = starts-next (record { within = g; names = x }) R.is in
            rw (ends-exponent R.is.names E) (omega (arith, t, y, (block-lies R.is.names).span))
