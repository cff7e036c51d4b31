-- The records that are kept rise without overlap, and the blocks that are filled in are the fewest that make up the places in none of them.
-- Assumes nothing.
use mathlib.Core.Path.{◌≡◌, refl, sym, ◌∙◌}
use mathlib.Core.Logic.{◌↔◌}
use mathlib.Core.Bool.{Bool, true, false}
use mathlib.Core.List.{List, [], ◌∷◌, ◌++◌, map-id, flat_map}
use Prim.Native.Nat.{ℕ, ◌-◌, ◌^◌, ◌≤◌, ◌<◌}
use native.Mathlib.Omega.{arith}
use lib.Dec.{ltb}
use lib.ListN.{length, get_or, length-map}
use borrow.Author.Tests.{ltb-true, lt-ltb}
use Rattle.lists.proofs.Laws.{both, agree}
use Rattle.key.proofs.Laws.{block-lies, pow-least}
use Rattle.map.specs.Sound.{Spaced, ended, later}
use Rattle.map.specs.Promises.{is_free}
use Rattle.map.proofs.Laws.{free-none, free-held, free-past, free-ahead}
use Rattle.stretch.specs.Sets.{between}
use Rattle.stretch.specs.Promises.{Cut, MakesUp}
use Rattle.stretch.specs.Fewest.{fewest, stretch}
use Rattle.stretch.proofs.Laws.{gap-last, gap-next, cut-behind, fewest-makes, fewest-least, stretch-least}
use Rattle.salvage.specs.Salvage.{Mend, kept, filled, fills, mends}
use Rattle.salvage.specs.Promises.{Mends, ends, garbled, early, keeps, key_kept, key_filled, unkept}
use Rattle.salvage.proofs.Mends.{mends-are}
use Rattle.salvage.proofs.Result.{fills-each, fills-nothing, keeps-each}

module _ (m : ℕ) (keys : List ℕ) where
  -- ---- what is kept, and what is filled in

  kept-none : (a b : ℕ) → flat_map (key_kept keys) (fills m a b) ≡ []
  unfolding key_kept
  kept-none a b = fills-nothing (key_kept keys) (λ k. refl) m a b

  kept_next : (a b n : ℕ) (es : List Mend) → flat_map (key_kept keys) (fills m a b ++ kept n ∷ es) ≡ get_or keys n 0 ∷ flat_map (key_kept keys) es
  unfolding key_kept
  kept_next a b n es = keeps-each (key_kept keys) m a b n es ∙ rw (kept-none a b)

  filled-all : (a b : ℕ) → flat_map key_filled (fills m a b) ≡ stretch m a b
  unfolding key_filled
  filled-all a b = fills-each key_filled (λ k. k) (λ k. refl) m a b ∙ map-id (stretch m a b)

  filled_next : (a b n : ℕ) (es : List Mend) → flat_map key_filled (fills m a b ++ kept n ∷ es) ≡ stretch m a b ++ flat_map key_filled es
  unfolding key_filled
  filled_next a b n es = keeps-each key_filled m a b n es ∙ rw (filled-all a b)

  -- ---- the records that are kept

  kept_from : {n at : ℕ} {es : List Mend} → Mends m keys n at es → Spaced m at (flat_map (key_kept keys) es)
  unfolding key_kept flat_map
  kept_from {at = at} (ends e) = rw (kept-none at (4 ^ m)) ended
  kept_from (garbled h e M) = kept_from M
  kept_from (early h b d M) = kept_from M
  kept_from {n} {at} (keeps {s = s} {es = es} h b g e M) = rw (kept_next at s n es) (later g b e (kept_from M))

  -- ---- the blocks that are filled in

  -- a set that has, from `at` on, the places in no record that is kept
  record Agrees (P : ℕ → Bool) (at : ℕ) (es : List Mend) : Type 0 where
    on : (q : ℕ) → at ≤ q → q < 4 ^ m → P q ≡ is_free m (flat_map (key_kept keys) es) q

  filled-from : (P : ℕ → Bool) → Cut P (4 ^ m) → {n at : ℕ} {es : List Mend} → at ≤ 4 ^ m → Mends m keys n at es → Cut P at → Agrees P at es
      → fewest m P at (4 ^ m - at) ≡ flat_map key_filled es
  unfolding key_kept key_filled flat_map
  filled-from P D {at = at} l (ends e) C A =
      gap-last m l (λ q a b. A.on q a b ∙ rw (kept-none at (4 ^ m)) (free-none m q)) C D ∙ sym (filled-all at (4 ^ m))
  filled-from P D l (garbled h e M) C A = filled-from P D l M C (record { on = A.on })
  filled-from P D l (early h b d M) C A = filled-from P D l M C (record { on = A.on })
  filled-from P D {n} {at} l (keeps {i = i} {s = s} {end = end} {es = es} h b g e M) C A =
      gap-next m g along C low high out ∙ rw (filled-from P D high M cut behind) (sym (filled_next at s n es))
    where
      ks : List ℕ
      ks = flat_map (key_kept keys) es

      low : s < end
      low = omega (arith, pow-least 3 i)

      high : end ≤ 4 ^ m
      high = omega (arith, (block-lies b).span)

      is : (q : ℕ) → at ≤ q → q < 4 ^ m → P q ≡ is_free m (get_or keys n 0 ∷ ks) q
      is q x y = A.on q x y ∙ rw (kept_next at s n es)

      along : (q : ℕ) → at ≤ q → q < s → P q ≡ true
      along q x y = is q x (omega (arith, low, high)) ∙ free-past m (get_or keys n 0) ks q b (λ a. omega arith) ∙ free-ahead (kept_from M) (omega (arith, low))

      out : (q : ℕ) → s ≤ q → q < end → P q ≡ false
      out q x y = is q (omega arith) (omega (arith, high)) ∙ free-held m (get_or keys n 0) ks q b (omega arith)

      cut : Cut P end
      cut = cut-behind {x = end - 1} (omega (arith, low)) (out (end - 1) (omega (arith, low)) (omega (arith, low)))

      behind : Agrees P end es
      behind = record { on = λ q x y. is q (omega (arith, low)) y ∙ free-past m (get_or keys n 0) ks q b (λ a. omega arith) }

-- ---- a gap by itself

pub fills-least : (m a b : ℕ) → b ≤ 4 ^ m → {blocks : List ℕ} → MakesUp m (between a b) blocks → length (fills m a b) ≤ length blocks
unfolding fills
fills-least m a b h M = rw (length-map (stretch m a b) filled) (stretch-least m a b h M)

-- ---- of the whole map

-- the records that are kept, as a map that may have gaps
pub kept-spaced : (m : ℕ) (keys : List ℕ) → Spaced m 0 (flat_map (key_kept keys) (mends m keys))
kept-spaced m keys = kept_from m keys (mends-are m keys)

module _ (m : ℕ) (keys : List ℕ) where
  abbrev P : ℕ → Bool
  P = unkept m keys (mends m keys)

  unkept-is : (q : ℕ) → (P q ≡ true) ↔ ((ltb q (4 ^ m) ≡ true) × (is_free m (flat_map (key_kept keys) (mends m keys)) q ≡ true))
  unfolding unkept
  unkept-is q = both (ltb q (4 ^ m)) (is_free m (flat_map (key_kept keys) (mends m keys)) q)

  low : (q : ℕ) → P q ≡ true → q < 4 ^ m
  low q e = ltb-true q (4 ^ m) ((unkept-is q).0 e).0

  first : Cut P 0
  first = record { apart = λ q d u v. omega arith }

  last : Cut P (4 ^ m)
  last = record { apart = λ q d u v. omega (arith, low (4 ^ m) v) }

  agrees : Agrees m keys P 0 (mends m keys)
  agrees = record { on = λ q a b. agree _ _ (λ e. ((unkept-is q).0 e).1, λ e. (unkept-is q).1 (lt-ltb q (4 ^ m) b, e)) }

  filled-are : fewest m P 0 (4 ^ m) ≡ flat_map key_filled (mends m keys)
  filled-are = let z : 4 ^ m - 0 ≡ 4 ^ m = omega arith in rw z at (filled-from m keys P last (omega arith) (mends-are m keys) first agrees)

  pub filled-makes : MakesUp m P (flat_map key_filled (mends m keys))
  filled-makes = rw filled-are at (fewest-makes m P low 0 (4 ^ m) (λ q e. omega (arith, low q e)))

  pub filled-least : {blocks : List ℕ} → MakesUp m P blocks → length (flat_map key_filled (mends m keys)) ≤ length blocks
  filled-least M = rw filled-are at (fewest-least m P low 0 (4 ^ m) M)
