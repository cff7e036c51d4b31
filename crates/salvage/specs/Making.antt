-- How mends are made: what they bring is written behind what was there, as far as there is room, and counted.
-- Assumes nothing.
use Rattle.std.specs.Prelude.{◌≡◌, ℕ, ◌+◌, ◌-◌, ◌*◌, ◌≤◌, ◌<◌, length, get_or, drop, None}
use mathlib.Core.List.{List, ◌++◌, map, flat_map}
use Rattle.lists.specs.Lists.{up_from}
use Rattle.answers.specs.Cells.{Listed}
use Rattle.key.specs.declared.Spot.{Spot}
use Rattle.key.specs.Along.{Stands, ToldFit}
use Rattle.salvage.specs.declared.Mending.{Mending}
use Rattle.salvage.specs.declared.Progress.{Progress}
use Rattle.salvage.specs.Salvage.{Mend, kept, mends_from, mends, brings, logs, firsts, seconds, cells}

-- so many records and so many entries of the log, and what stands in the three lent slices
pub record Sheet : Type 0 where
  pub records : ℕ
  pub entries : ℕ
  pub keys : List ℕ
  pub classes : List ℕ
  pub log : List ℕ

abbrev pub sheet : ℕ → ℕ → List ℕ → List ℕ → List ℕ → Sheet
sheet records entries keys classes log = record { records = records; entries = entries; keys = keys; classes = classes; log = log }

-- with these mends, of a map of these keys and classes, the one becomes the other
pub record Makes (keys classes : List ℕ) (es : List Mend) (a b : Sheet) : Type 0 where
  pub keys-listed : Listed a.records (firsts (flat_map (brings keys classes) es)) a.keys b.records b.keys
  pub classes-listed : Listed a.records (seconds (flat_map (brings keys classes) es)) a.classes b.records b.classes
  pub log-listed : Listed (2 * a.entries) (cells (flat_map logs es)) a.log (2 * b.entries) b.log

-- there are so few that with these mends all can be counted, and the cells of the log too
pub record Countable (records entries : ℕ) (es : List Mend) : Type 0 where
  pub records-few : records + length es ≤ 2147483647
  pub entries-few : entries + length es ≤ 2147483647

-- mends that do so whatever the map: none of them keeps a record
abbrev pub MakesAny : List Mend → Sheet → Sheet → Type 0
MakesAny es a b = (keys classes : List ℕ) → Makes keys classes es a b

-- the records before n are mended, and of record n perhaps the gap before it; the walk stands where the last span kept or filled in has ended
pub record Going (m : ℕ) (keys classes : List ℕ) (a b : Sheet) (s : Spot) (n : ℕ) : Type 0 where
  pub stands : Stands m s
  pub within : n ≤ length keys
  pub past : List Mend
  pub all : mends m keys ≡ past ++ mends_from m n s.place (drop n keys)
  pub makes : Makes keys classes past a b

-- the records from n up to `end` are kept, whatever stands in the log
abbrev pub KeepsRun : List ℕ → List ℕ → ℕ → ℕ → ℕ → List ℕ → List ℕ → List ℕ → List ℕ → Type 0
KeepsRun keys classes n end records K P K' P' =
    (entries : ℕ) (L : List ℕ) → Makes keys classes (map kept (up_from n (end - n))) (sheet records entries K P L) (sheet (records + (end - n)) entries K' P' L)

-- of the records from n on those are kept that follow one another; behind them the walk stands before one that does not start there, or behind all
pub record KeepsAlong (m : ℕ) (keys classes : List ℕ) (n : ℕ) (from : Mending) (K P : List ℕ) (r : Progress) (K' P' : List ℕ) : Type 0 where
  pub onward : n ≤ r.next
  pub within : r.next ≤ length keys
  pub stands : Stands m r.now.spot
  pub forward : from.spot.place ≤ r.now.spot.place
  pub ends : r.next < length keys → ToldFit m r.now.spot.place (get_or keys r.next 0) None
  pub goes : (a : Sheet) (L : List ℕ) → Going m keys classes a (sheet from.records from.entries K P L) from.spot n
      → Going m keys classes a (sheet r.now.records r.now.entries K' P' L) r.now.spot r.next

-- record n is dropped, or the gap before it is filled
pub record MendsNext (m : ℕ) (keys : List ℕ) (n : ℕ) (from : Mending) (K P L : List ℕ) (r : Progress) (K' P' L' : List ℕ) : Type 0 where
  pub forward : from.spot.place ≤ r.now.spot.place
  pub less : n + from.spot.place < r.next + r.now.spot.place
  pub goes : (classes : List ℕ) (a : Sheet) → Going m keys classes a (sheet from.records from.entries K P L) from.spot n
      → Going m keys classes a (sheet r.now.records r.now.entries K' P' L') r.now.spot r.next
