-- The records of a block: `run_of` gives those that meet it, and they are found by where the block's keys begin and end in the list of keys.
-- Assumes nothing.
use mathlib.Core.Path.{◌≡◌, ap, ◌∙◌}
use mathlib.Core.Logic.{◌↔◌, ◌≢◌, ◌⊎◌, inl, inr}
use mathlib.Core.Bool.{Bool, true, cond}
use mathlib.Core.List.{List}
use Prim.Native.Nat.{ℕ, max, ◌+◌, ◌-◌, ◌^◌, ◌≤◌, ◌<◌}
use native.Mathlib.Decide.{dec_lt, ℕ_discrete}
use native.Mathlib.Nat.{add-zero, add-sub_of_le}
use native.Mathlib.Omega.{arith}
use lib.Dec.{eqb}
use lib.ListN.{length, get_or}
use borrow.Author.Tests.{eq-eqb, ne_eqb}
use Rattle.lists.specs.Lists.{before, how_many}
use Rattle.lists.proofs.Laws.{Stretch, stretch-of, stretch-begins, stretch-counts}
use Rattle.key.specs.Form.{form_of}
use Rattle.key.specs.Blocks.{Names, Among}
use Rattle.key.proofs.Laws.{Covers, one_block, nested, pow-least, size-le}
use Rattle.map.specs.Spans.{overlap}
use Rattle.map.specs.Sound.{Spaced}
use Rattle.map.specs.Records.{exponent_of}
use Rattle.map.specs.Runs.{run, run_of, Bracket, Splits}
use Rattle.map.proofs.Tiles.{Record, SomeRecord, Holder, Free, Meets}
use Rattle.map.proofs.Order.{record-at, keys-apart, keys-rise, find}
use Rattle.map.proofs.Holding.{exponent-of, exponent-none}
use Rattle.map.proofs.Meeting.{meets-run, meets-around, meets-none, in-block}
use Rattle.map.proofs.Halves.{between_first, between-upper, split-on, split-behind, some-split}
use Rattle.map.proofs.Tests.{exponent-is, start_is, overlap-is}

module _ {m : ℕ} {keys : List ℕ} (F : Spaced m 0 keys) {key i s : ℕ} (b : Names m key i s) where
  -- the exponent of the larger of the block and the record of its first place
  abbrev far : ℕ
  far = max i (exponent_of m keys s)

  -- `run_of` gives the records that overlap it
  run-of : {first count reach : ℕ} → Meets m keys i s first count → far ≡ reach → run_of m keys key ≡ run first count reach
  unfolding run_of
  run-of {first} {count} {reach} M e = rw (exponent-is b, start_is b, e) (go (ℕ_discrete count 0))
    where
      test : ℕ → Bool
      test k = overlap (form_of m key) (form_of m k)

      exactly : (n : ℕ) → n < length keys → (test (get_or keys n 0) ≡ true) ↔ ((first ≤ n) × (n < first + count))
      exactly n l =
          let r = record-at F n l in
          let o = overlap-is b r.is.names in
          let x = M.exactly r.is in
          (λ e. let h = x.0 (o.0 e) in omega arith, λ h. o.1 (x.1 (omega arith)))

      stretch : Stretch test keys first (first + count)
      stretch = stretch-of test (omega arith) M.room exactly

      many : how_many test keys ≡ count
      many = stretch-counts test keys first (first + count) stretch ∙ omega arith

      go : Dec (count ≡ 0) → run (cond (eqb (how_many test keys) 0) 0 (before test keys)) (how_many test keys) reach ≡ run first count reach
      go (yes e) = rw (many, eq-eqb count 0 e, M.empty e)
      go (no n) = rw (many, ne_eqb count 0 n, stretch-begins test keys first (first + count) stretch (omega arith))

  -- records that overlap it and lie in it reach no further than it
  pub reach-inside : {first count : ℕ} → Meets m keys i s first count → ((n j t : ℕ) → Among first count n → Record m keys n j t → Covers s (4 ^ i) t (4 ^ j)) → far ≡ i
  reach-inside M h = go (find F s)
    where
      go : Holder m keys s ⊎ Free m keys s → max i (exponent_of m keys s) ≡ i
      go (inl H) =
          let l = (size-le H.exponent i).1 (omega (arith, h _ _ _ ((M.exactly H.is).0 (omega (arith, H.has, pow-least 3 i))) H.is)) in
          rw (exponent-of F H) (omega arith)
      go (inr f) = rw (exponent-none F f) (omega arith)

  -- one around it reaches as far as itself
  pub reach-around : {n j t : ℕ} → Record m keys n j t → Covers t (4 ^ j) s (4 ^ i) → far ≡ j
  reach-around {n} {j} {t} r h =
      let H : Holder m keys s = record { index = n; exponent = j; start = t; is = r; has = omega (arith, pow-least 3 i) } in
      let l = (size-le i j).1 (omega arith) in
      rw (exponent-of F H) (omega arith)

  -- a record that has the block's key among its own contains it, and is the only one
  pub found-around : {n j t : ℕ} → Record m keys n j t → Among (get_or keys n 0) (5 ^ j) key → run_of m keys key ≡ run n 1 j
  found-around r k = let h = (nested r.names b).1 k in run-of (meets-around F r h) (reach-around r h)

  -- it is known where its keys begin in the list of keys: they end there too, where the next key lies beyond it; or behind its own key; or further on
  module _ {a : ℕ} (A : Splits keys key a) where
    pub end-here : (a < length keys → key + 5 ^ i ≤ get_or keys a 0) → Splits keys (key + 5 ^ i) (a + 0)
    end-here h = rw add-zero (split-on (keys-rise F) A (omega arith) h)

    module _ (l : a < length keys) where
      pub end-own : get_or keys a 0 ≡ key → Splits keys (key + 5 ^ i) (a + 1)
      end-own e = split-behind (keys-rise F) l (omega (arith, pow-least 4 i)) next
        where
          own : Record m keys a i s
          own = record { within = l; names = rw e b }

          next : a + 1 < length keys → key + 5 ^ i ≤ get_or keys (a + 1) 0
          next h = omega (arith, keys-apart F a (a + 1) own (record-at F (a + 1) h).is (omega arith))

      pub end_later : get_or keys a 0 < key + 5 ^ i → Bracket keys (key + 5 ^ i) (a + 1) (length keys)
      end_later h = between-upper (keys-rise F) (between_first keys (key + 5 ^ i)) l h

  -- and where they begin and end says which records these are
  module _ {a z : ℕ} (A : Splits keys key a) (Z : Splits keys (key + 5 ^ i) z) where
    found-run : a < z → run_of m keys key ≡ run a (z - a) i
    found-run l = let M = meets-run F b A Z l in run-of M (reach-inside M (λ n j t h r. in-block F b A Z r (omega arith) (omega arith)))

    -- none, where the record before ends before the block
    pub found_none : a ≡ z → ((j t : ℕ) → 1 ≤ a → Record m keys (a - 1) j t → get_or keys (a - 1) 0 + 5 ^ j ≤ key) → run_of m keys key ≡ run 0 0 i
    found_none e h = let M = meets-none F b A Z e h in run-of M (reach-inside M (λ n j t l r. absurd (omega arith)))

    -- the searches are in order
    pub in_order : a ≤ z
    in_order = go (dec_lt z a)
      where
        go : Dec (z < a) → a ≤ z
        go (yes l) = absurd (omega (arith, A.below z l, Z.over z (omega arith) (omega (arith, A.room))))
        go (no h) = omega (arith, h)

    pub counted : Splits keys (key + 5 ^ i) (a + (z - a))
    counted = rw (add-sub_of_le in_order) Z

    abbrev Met : Type 0
    Met = Meets m keys i s (run_of m keys key).first (run_of m keys key).count

    none-met : a ≡ z → ((j t : ℕ) → 1 ≤ a → Record m keys (a - 1) j t → get_or keys (a - 1) 0 + 5 ^ j ≤ key) → Met
    none-met e h = rw (found_none e h) (meets-none F b A Z e h)

    before-it : a ≡ z → 1 ≤ a → SomeRecord m keys (a - 1) → Met
    before-it e l r = go (dec_lt key (get_or keys (a - 1) 0 + 5 ^ r.exponent))
      where
        go : Dec (key < get_or keys (a - 1) 0 + 5 ^ r.exponent) → Met
        go (yes k) =
            let h : Among (get_or keys (a - 1) 0) (5 ^ r.exponent) key = record { least = omega (arith, A.below (a - 1) (omega arith)); most = k } in
            rw (found-around r.is h) (meets-around F r.is ((nested r.is.names b).1 h))
        go (no k) = none-met e (λ j t l u. let o = one_block r.is.names u.names in omega (arith, ap (λ (x : ℕ). 5 ^ x) o.0))

    met : Dec (a < z) → Dec (0 < a) → Met
    met (yes l) d = rw (found-run l) (meets-run F b A Z l)
    met (no h) (no d) = none-met (omega (arith, in_order)) (λ j t l u. absurd (omega arith))
    met (no h) (yes l) = before-it (omega (arith, in_order)) l (record-at F (a - 1) (omega (arith, A.room)))

  -- so many records lie in it, from where its keys begin
  pub found_inside : {a count : ℕ} → Splits keys key a → Splits keys (key + 5 ^ i) (a + count) → count ≢ 0 → run_of m keys key ≡ run a count i
  found_inside {a} {count} A Z n =
      let e : a + count - a ≡ count = omega arith in
      found-run A Z (omega arith) ∙ ap (λ (k : ℕ). run a k i) e

  -- for a block of the picture, one record contains it, or the records that overlap it are a run, each inside it; there may be none
  pub block-records : Meets m keys i s (run_of m keys key).first (run_of m keys key).count
  block-records =
      let A = some-split (keys-rise F) key in
      let Z = some-split (keys-rise F) (key + 5 ^ i) in
      met A.1 Z.1 (dec_lt A.0 Z.0) (dec_lt 0 A.0)
