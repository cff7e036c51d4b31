-- Each record of the map is kept or dropped, in its order: for a bad key exactly where its key is malformed, and for an overlap exactly where it starts before the end of a record that is kept.
-- Assumes nothing.
use mathlib.Core.Path.{◌≡◌, refl, sym, ap}
use mathlib.Core.Logic.{◌↔◌, ◌⊎◌, inl, inr, ⊎_elim}
use mathlib.Core.List.{List, [], ◌∷◌, ◌++◌, map, flat_map}
use mathlib.Core.List.Memᴰ
use mathlib.Core.List.{Memᴰ}
use Prim.Native.Nat.{ℕ, suc, ◌+◌, ◌-◌, ◌^◌, ◌≤◌, ◌<◌}
use native.Mathlib.Nat.{eq-or-lt_of_le}
use native.Mathlib.Omega.{arith}
use lib.ListN.{length, get_or}
use Rattle.std.specs.Prelude.{None}
use Rattle.lists.specs.Lists.{up_from}
use Rattle.lists.proofs.Laws.{up_none, up_next, up-length}
use Rattle.answers.specs.declared.Cause.TheVariants.{BadKey, Gap}
use Rattle.answers.specs.Refusals.{number}
use Rattle.key.specs.Form.{form_of}
use Rattle.key.proofs.Laws.{no_names}
use Rattle.stretch.specs.Fewest.{stretch}
use Rattle.salvage.specs.Salvage.{Mend, kept, dropped, filled, fills, mends, salvaged, entries}
use Rattle.salvage.specs.Promises.{Mends, ends, garbled, early, keeps, number_of}
use Rattle.salvage.proofs.Making.{logs-most}
use Rattle.salvage.proofs.Mends.{mends-are}
use Rattle.salvage.proofs.Result.{fills-nothing, keeps-each}

-- ---- in order

module _ (m : ℕ) (keys : List ℕ) where
  numbers-from : {n at : ℕ} {es : List Mend} → n ≤ length keys → Mends m keys n at es → flat_map number_of es ≡ up_from n (length keys - n)
  unfolding number_of flat_map
  numbers-from {n} {at} l (ends e) = let z : length keys - n ≡ 0 = omega arith in rw (fills-nothing number_of (λ k. refl) m at (4 ^ m), z) (sym (up_none n))
  numbers-from {n} l (garbled h e M) = let z : length keys - n ≡ suc (length keys - suc n) = omega arith in rw (z, up_next n (length keys - suc n), numbers-from h M)
  numbers-from {n} l (early h b d M) = let z : length keys - n ≡ suc (length keys - suc n) = omega arith in rw (z, up_next n (length keys - suc n), numbers-from h M)
  numbers-from {n} {at} l (keeps {s = s} {es = es} h b g e M) =
      let z : length keys - n ≡ suc (length keys - suc n) = omega arith in
      rw (z, up_next n (length keys - suc n), keeps-each number_of m at s n es, fills-nothing number_of (λ k. refl) m at s, numbers-from h M)

-- ---- what becomes of one

-- of a mend, the record or the key, and the number in the log
abbrev pub what : Mend → ℕ
what (kept n) = n
what (dropped n cause) = n
what (filled key) = key

abbrev pub why : Mend → ℕ
why (kept n) = 0
why (dropped n cause) = number cause
why (filled key) = number Gap

-- what fills a gap is neither kept nor dropped
pub fill-why : (m a b : ℕ) {e : Mend} → Memᴰ e (fills m a b) → why e ≡ 5
unfolding fills
fill-why m a b l = go (stretch m a b) l
  where
    go : (ks : List ℕ) {e : Mend} → Memᴰ e (map filled ks) → why e ≡ 5
    go [] l = absurd (Memᴰ.not-nil l)
    go (k ∷ ks) (Memᴰ.head e) = ap why e
    go (k ∷ ks) (Memᴰ.tail l) = go ks l

-- so it stands behind the gap that is filled before record n
pub past-fill : (m a b : ℕ) {n : ℕ} {es : List Mend} {e : Mend} → Memᴰ e (fills m a b ++ kept n ∷ es) → ¬ (why e ≡ 5) → (e ≡ kept n) ⊎ Memᴰ e es
past-fill m a b {n} {es} {e} l other = go (Memᴰ.append_cases (fills m a b) l)
  where
    rest : Memᴰ e (kept n ∷ es) → (e ≡ kept n) ⊎ Memᴰ e es
    rest (Memᴰ.head d) = inl d
    rest (Memᴰ.tail t) = inr t

    go : Memᴰ e (fills m a b) ⊎ Memᴰ e (kept n ∷ es) → (e ≡ kept n) ⊎ Memᴰ e es
    go (inl f) = absurd (other (fill-why m a b f))
    go (inr t) = rest t

module _ (m : ℕ) (keys : List ℕ) where
  -- ---- dropped for a bad key

  garbled-malformed : {n at k : ℕ} {es : List Mend} → Mends m keys n at es → Memᴰ (dropped k BadKey) es → (k < length keys) × (form_of m (get_or keys k 0) ≡ None)
  garbled-malformed {at = at} (ends e) i = absurd (let z = fill-why m at (4 ^ m) i in omega arith)
  garbled-malformed {n} {k = k} (garbled h e M) (Memᴰ.head d) = let z : k ≡ n = ap what d in rw z (h, e)
  garbled-malformed (garbled h e M) (Memᴰ.tail i) = garbled-malformed M i
  garbled-malformed (early h b l M) (Memᴰ.head d) = absurd (let z : 3 ≡ 4 = ap why d in omega arith)
  garbled-malformed (early h b l M) (Memᴰ.tail i) = garbled-malformed M i
  garbled-malformed {at = at} (keeps {s = s} h b g e M) i =
      ⊎_elim (λ d. absurd (let z : 3 ≡ 0 = ap why d in omega arith)) (λ t. garbled-malformed M t) (past-fill m at s i (λ z. omega arith))

  malformed-garbled : {n at k : ℕ} {es : List Mend} → Mends m keys n at es → n ≤ k → k < length keys → form_of m (get_or keys k 0) ≡ None → Memᴰ (dropped k BadKey) es
  malformed-garbled (ends e) l u f = absurd (omega arith)
  malformed-garbled (garbled h e M) l u f = ⊎_elim (λ z. rw z (Memᴰ.head refl)) (λ z. Memᴰ.tail (malformed-garbled M z u f)) (eq-or-lt_of_le l)
  malformed-garbled (early h b d M) l u f = ⊎_elim (λ z. absurd (no_names f (rw z at b))) (λ z. Memᴰ.tail (malformed-garbled M z u f)) (eq-or-lt_of_le l)
  malformed-garbled {at = at} (keeps {s = s} h b g e M) l u f =
      ⊎_elim (λ z. absurd (no_names f (rw z at b))) (λ z. Memᴰ.append_right (fills m at s) (Memᴰ.tail (malformed-garbled M z u f))) (eq-or-lt_of_le l)

-- ---- of the whole map

pub all-numbers : (m : ℕ) (keys : List ℕ) → flat_map number_of (mends m keys) ≡ up_from 0 (length keys)
all-numbers m keys = let z : length keys - 0 ≡ length keys = omega arith in rw z at (numbers-from m keys (omega arith) (mends-are m keys))

pub dropped-malformed : (m : ℕ) (keys : List ℕ) (n : ℕ) → Memᴰ (dropped n BadKey) (mends m keys) ↔ ((n < length keys) × (form_of m (get_or keys n 0) ≡ None))
dropped-malformed m keys n = (garbled-malformed m keys (mends-are m keys), λ h. malformed-garbled m keys (mends-are m keys) (omega arith) h.0 h.1)

-- so there are no more entries of the log than records of the result and of the broken map
pub entries-most : (m : ℕ) (keys classes : List ℕ) → length (entries m keys) ≤ length (salvaged m keys classes) + length keys
unfolding entries salvaged
entries-most m keys classes = omega (arith, logs-most keys classes (mends m keys), ap length (all-numbers m keys), up-length 0 (length keys))
