-- What is promised of salvage that was answered.
-- Assumes nothing.
use Rattle.answers.specs.declared.Cause.TheVariants.{BadKey, Overlap}
use Rattle.std.specs.Prelude.{◌≡◌, ◌↔◌, true, ℕ, ◌^◌, ◌≤◌, ◌<◌, length, get_or, take, None}
use mathlib.Core.List.{List, flat_map, Memᴰ}
use Rattle.lists.specs.Lists.{up_from}
use Rattle.answers.specs.Cells.{overwrite}
use Rattle.key.specs.Form.{form_of}
use Rattle.key.specs.Blocks.{Names, Among}
use Rattle.map.specs.Sound.{Spaced, SoundMap}
use Rattle.map.specs.Classes.{class_in, not_seen}
use Rattle.map.specs.Promises.{is_free}
use Rattle.stretch.specs.Sets.{between}
use Rattle.stretch.specs.Promises.{MakesUp}
use Rattle.salvage.specs.Salvage.{Mend, kept, dropped, fills, brings, logs, firsts, seconds, cells}
use Rattle.salvage.specs.Promises.{Mends, number_of, key_kept, key_filled, unkept, Reached}
use Rattle.lutniorad.specs.declared.Answer.{Answer}
use Rattle.lutniorad.specs.Numbers.{values}

-- by what was done, in its order: records kept and dropped, and blocks filled in
pub record SalvagePromise (m : ℕ) (keys classes mended painted log : List ℕ) (es : List Mend) (r : Answer) (mended' painted' log' : List ℕ) : Type 0 where
  pub done : Mends m keys 0 0 es
  -- `first` is the number of records that this brings, and `second` that of entries of the log; they stand in the first cells, and cells beyond keep their content
  pub numbers : r ≡ values (length (flat_map (brings keys classes) es)) (length (flat_map logs es))
  pub keys-are : mended' ≡ overwrite (firsts (flat_map (brings keys classes) es)) mended
  pub classes-are : painted' ≡ overwrite (seconds (flat_map (brings keys classes) es)) painted
  pub log_is : log' ≡ overwrite (cells (flat_map logs es)) log
  -- they are a sound map
  pub sound : SoundMap m (take r.first mended') (length (take r.first painted'))
  -- each record of the broken map is kept or dropped, in its order
  pub each : flat_map number_of es ≡ up_from 0 (length keys)
  -- it is dropped by 3 exactly if its key is malformed
  pub garbled : (n : ℕ) → Memᴰ (dropped n BadKey) es ↔ ((n < length keys) × (form_of m (get_or keys n 0) ≡ None))
  -- and if not, by 4 exactly if it starts before the end of an earlier one that is kept
  pub early : (n i s : ℕ) → n < length keys → Names m (get_or keys n 0) i s → Memᴰ (dropped n Overlap) es ↔ Reached m keys es n s
  -- those that are kept rise without overlap
  pub apart : Spaced m 0 (flat_map (key_kept keys) es)
  -- the blocks that are filled in make up the places in none of them
  pub gaps : MakesUp m (unkept m keys es) (flat_map key_filled es)
  -- and no fewer blocks do
  pub fewest : (blocks : List ℕ) → MakesUp m (unkept m keys es) blocks → length (flat_map key_filled es) ≤ length blocks
  -- and so it is of each gap by itself: where the places from a up to b are filled, as `done` has it, no fewer blocks make these up
  pub each-gap : (a b : ℕ) → b ≤ 4 ^ m → (blocks : List ℕ) → MakesUp m (between a b) blocks → length (fills m a b) ≤ length blocks
  -- places of a record that is kept keep its class
  pub class-kept : (n i s q : ℕ) → Memᴰ (kept n) es → Names m (get_or keys n 0) i s → Among s (4 ^ i) q
      → class_in m (take r.first mended') (take r.first painted') q ≡ get_or classes n 0
  -- and all others were not seen
  pub class-blank : (q : ℕ) → q < 4 ^ m → is_free m (flat_map (key_kept keys) es) q ≡ true → class_in m (take r.first mended') (take r.first painted') q ≡ not_seen
  -- the log is empty exactly if the map was sound
  pub unlogged : (r.second ≡ 0) ↔ SoundMap m keys (length classes)
