-- From the first record that ends behind the first place of a block up to those with keys beyond its own: just those that overlap it.
-- Assumes nothing.
use mathlib.Core.Path.{◌≡◌, ◌∙◌}
use mathlib.Core.Logic.{◌↔◌}
use mathlib.Core.List.{List}
use Prim.Native.Nat.{ℕ, ◌+◌, ◌-◌, ◌^◌, ◌≤◌, ◌<◌}
use native.Mathlib.Decide.{dec_lt}
use native.Mathlib.Omega.{arith}
use lib.ListN.{length, get_or}
use Rattle.key.specs.Blocks.{Names, Among}
use Rattle.key.proofs.Laws.{ordered, pow-least}
use Rattle.map.specs.Sound.{Spaced}
use Rattle.map.specs.Runs.{run_of, Bracket, Splits}
use Rattle.map.proofs.Laws.{Record, Overlap, record-at, block-records}
use Rattle.pieces.specs.declared.Cursor.{Cursor}
use Rattle.pieces.specs.Cursors.{At}
use Rattle.pieces.proofs.Laws.{at-behind, at_room}
use Rattle.overlay.specs.declared.Records.{Records}
use Rattle.overlay.specs.Meeting.{Meeting}

-- runs of numbers below a bound with the same numbers are the same, but where they are empty
same-run : {most a n b k : ℕ} → a + n ≤ most → b + k ≤ most → ((x : ℕ) → x < most → Among a n x ↔ Among b k x) → (n ≡ k) × (¬ (n ≡ 0) → a ≡ b)
same-run {most} {a} {n} {b} {k} l h same = go (dec_lt 0 n) (dec_lt 0 k)
  where
    both : 0 < n → 0 < k → (n ≡ k) × (¬ (n ≡ 0) → a ≡ b)
    both p q =
        let x = (same a (omega arith)).0 (omega arith) in
        let y = (same b (omega arith)).1 (omega arith) in
        let u = (same (a + n - 1) (omega arith)).0 (omega arith) in
        let v = (same (b + k - 1) (omega arith)).1 (omega arith) in
        (omega (arith, x, y, u, v), λ d. omega (arith, x, y))

    go : Dec (0 < n) → Dec (0 < k) → (n ≡ k) × (¬ (n ≡ 0) → a ≡ b)
    go (yes p) (yes q) = both p q
    go (yes p) (no q) = absurd (omega (arith, (same a (omega arith)).0 (omega arith), q))
    go (no p) (yes q) = absurd (omega (arith, (same b (omega arith)).1 (omega arith), p))
    go (no p) (no q) = (omega (arith, p, q), λ d. absurd (d (omega (arith, p))))

module _ {m : ℕ} {keys : List ℕ} (F : Spaced m 0 keys) {key i s : ℕ} (B : Names m key i s) {c : Cursor} (A : At m keys s c) where
  -- the records before it have keys below
  before : (n : ℕ) → n < c.next → c.next ≤ length keys → get_or keys n 0 < key + 5 ^ i
  before n l h =
      let R = record-at F n (omega arith) in
      omega (arith, (ordered R.is.names B).0 (A.past.ends l R.is.names), pow-least 4 R.exponent, pow-least 4 i)

  pub meets-bracket : Bracket keys (key + 5 ^ i) c.next (length keys)
  meets-bracket = record { order = at_room A; room = omega arith; below = λ n l. before n l (at_room A); over = λ n l h. absurd (omega arith) }

  module _ {beyond : ℕ} (S : Splits keys (key + 5 ^ i) beyond) where
    pub meets-order : c.next ≤ beyond
    meets-order = go (dec_lt beyond c.next)
      where
        go : Dec (beyond < c.next) → c.next ≤ beyond
        go (yes l) = absurd (omega (arith, before beyond l (at_room A), S.over beyond (omega arith) (omega (arith, at_room A))))
        go (no l) = omega (arith, l)

    overlaps : {n j t : ℕ} → Record m keys n j t → Overlap s (4 ^ i) t (4 ^ j) ↔ Among c.next (beyond - c.next) n
    overlaps {n} {j} {t} R = (to, from)
      where
        to : Overlap s (4 ^ i) t (4 ^ j) → Among c.next (beyond - c.next) n
        to o = low (dec_lt n c.next) (dec_lt n beyond)
          where
            low : Dec (n < c.next) → Dec (n < beyond) → Among c.next (beyond - c.next) n
            low (yes l) d = absurd (omega (arith, A.past.ends l R.names, o.left))
            low (no l) (yes d) = omega (arith, l, d)
            low (no l) (no d) = absurd (omega (arith, (ordered B R.names).1 (S.over n (omega (arith, d)) R.within), o.right))

        from : Among c.next (beyond - c.next) n → Overlap s (4 ^ i) t (4 ^ j)
        from a = record { left = at-behind F A R a.least; right = right (dec_lt t (s + 4 ^ i)) }
          where
            right : Dec (t < s + 4 ^ i) → t < s + 4 ^ i
            right (yes l) = l
            right (no l) = absurd (omega (arith, (ordered B R.names).0 (omega (arith, l)), S.below n (omega (arith, a, meets-order))))

    pub meets : {r : Records} → r.first ≡ c.next → r.count ≡ beyond - c.next → Meeting m keys key r
    meets e d =
        let M = block-records F B in
        let t = same-run (omega (arith, meets-order, S.room)) M.room same in
        record { count = d ∙ t.0; first = λ z. e ∙ t.1 (λ n. z (d ∙ n)) }
      where
        same : (x : ℕ) → x < length keys → Among c.next (beyond - c.next) x ↔ Among (run_of m keys key).first (run_of m keys key).count x
        same x l =
            let R = record-at F x l in
            let o = overlaps R.is in
            let p = (block-records F B).exactly R.is in
            (λ a. p.0 (o.1 a), λ a. o.0 (p.1 a))
