-- The words in which the promises about salvage are said.
-- Assumes nothing.
use Rattle.std.specs.Prelude.{◌≡◌, Bool, false, ◌&&◌, ℕ, suc, ◌+◌, ◌*◌, ◌^◌, ◌≤◌, ◌<◌, ltb, length, get_or, None}
use mathlib.Core.List.{List, [], ◌∷◌, ◌++◌, flat_map, Memᴰ}
use Rattle.answers.specs.declared.Cause.TheVariants.{BadKey, Overlap}
use Rattle.answers.specs.Sizes.{SizedIn}
use Rattle.key.specs.Form.{form_of}
use Rattle.key.specs.Blocks.{Names}
use Rattle.map.specs.Promises.{is_free}
use Rattle.salvage.specs.Salvage.{Mend, kept, dropped, filled, fills, salvaged, entries}

-- in plain words: so the records from n on are mended, where the last span kept ended at `at`
pub data Mends (m : ℕ) (keys : List ℕ) : ℕ → ℕ → List Mend → Type 0 where
  ends : {n at : ℕ} → n ≡ length keys → Mends m keys n at (fills m at (4 ^ m))
  garbled : {n at : ℕ} {es : List Mend} → n < length keys → form_of m (get_or keys n 0) ≡ None → Mends m keys (suc n) at es → Mends m keys n at (dropped n BadKey ∷ es)
  early : {n at i s : ℕ} {es : List Mend} → n < length keys → Names m (get_or keys n 0) i s → s < at → Mends m keys (suc n) at es → Mends m keys n at (dropped n Overlap ∷ es)
  keeps : {n at i s end : ℕ} {es : List Mend} → n < length keys → Names m (get_or keys n 0) i s → at ≤ s → end ≡ s + 4 ^ i → Mends m keys (suc n) end es
      → Mends m keys n at (fills m at s ++ kept n ∷ es)

-- of a record of the map, kept or dropped, its number
unfoldable pub number_of : Mend → List ℕ
number_of (kept n) = n ∷ []
number_of (dropped n cause) = n ∷ []
number_of (filled key) = []

-- of a record that is kept, its key
unfoldable pub key_kept : List ℕ → Mend → List ℕ
key_kept keys (kept n) = get_or keys n 0 ∷ []
key_kept keys (dropped n cause) = []
key_kept keys (filled key) = []

-- of a block that is filled in, its key
unfoldable pub key_filled : Mend → List ℕ
key_filled (kept n) = []
key_filled (dropped n cause) = []
key_filled (filled key) = key ∷ []

-- by these mends a record before record n is kept whose span ends behind place s
pub record Reached (m : ℕ) (keys : List ℕ) (es : List Mend) (n s : ℕ) : Type 0 where
  pub by : ℕ
  pub exponent : ℕ
  pub start : ℕ
  pub earlier : by < n
  pub is-kept : Memᴰ (kept by) es
  pub names : Names m (get_or keys by 0) exponent start
  pub over : s < start + 4 ^ exponent

-- of the picture, the places in no record that is kept
unfoldable pub unkept : ℕ → List ℕ → List Mend → ℕ → Bool
unkept m keys es q = ltb q (4 ^ m) && is_free m (flat_map (key_kept keys) es) q

-- what salvage answers: slices of one length with no more records than a map may have, a result with no more either, and room for its keys, its classes and its log
pub record Salvageable (m : ℕ) (keys classes : List ℕ) (out-keys out-classes log : ℕ) : Type 0 where
  pub sizes : SizedIn false m (length keys) (length classes)
  pub few : length (salvaged m keys classes) ≤ 65536
  pub keys-room : length (salvaged m keys classes) ≤ out-keys
  pub classes-room : length (salvaged m keys classes) ≤ out-classes
  pub log-room : 2 * length (entries m keys) ≤ log
