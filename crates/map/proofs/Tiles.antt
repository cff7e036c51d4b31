-- Words of the laws about maps: records and the places that they hold, a map as a tiling, and the records that overlap a block.
-- Assumes nothing.
use mathlib.Core.Path.{◌≡◌}
use mathlib.Core.Logic.{◌↔◌}
use mathlib.Core.Bool.{cond}
use mathlib.Core.List.{List}
use Prim.Native.Nat.{ℕ, ◌+◌, ◌/◌, ◌^◌, ◌≤◌, ◌<◌}
use lib.Dec.{ltb}
use lib.ListN.{length, get_or}
use Rattle.key.specs.Picture.{Pixel, place}
use Rattle.key.specs.Blocks.{Names, Among}
use Rattle.key.proofs.Laws.{Covers}
use Rattle.map.specs.Records.{record_of}

-- record n is the block of exponent i whose span starts at place s
pub record Record (m : ℕ) (keys : List ℕ) (n i s : ℕ) : Type 0 where
  pub within : n < length keys
  pub names : Names m (get_or keys n 0) i s

pub record SomeRecord (m : ℕ) (keys : List ℕ) (n : ℕ) : Type 0 where
  pub exponent : ℕ
  pub start : ℕ
  pub is : Record m keys n exponent start

-- a record whose span has place q
pub record Holder (m : ℕ) (keys : List ℕ) (q : ℕ) : Type 0 where
  pub index : ℕ
  pub exponent : ℕ
  pub start : ℕ
  pub is : Record m keys index exponent start
  pub has : Among start (4 ^ exponent) q

-- no record has place q
pub record Free (m : ℕ) (keys : List ℕ) (q : ℕ) : Type 0 where
  pub none : {n j t : ℕ} → Record m keys n j t → Among t (4 ^ j) q → ⊥

-- the tile of a place: its record, or, where it has none, a number of its own behind those of the records
unfoldable pub tile_of : ℕ → List ℕ → ℕ → ℕ
tile_of m keys q = let n = record_of m keys q in cond (ltb n (length keys)) n (length keys + q)

-- a map as a window sees it: each pixel's record by its number, and the exponent of that record's side. Two pixels have one record exactly when they
-- agree after division by its side
pub record Tiling (m : ℕ) (rec exp : ℕ → ℕ → ℕ) : Type 0 where
  pub small : {r c : ℕ} → Pixel m r c → exp r c ≤ m
  pub law : {r c y x : ℕ} → Pixel m r c → Pixel m y x → (rec r c ≡ rec y x) ↔ ((r / 2 ^ exp r c ≡ y / 2 ^ exp r c) × (c / 2 ^ exp r c ≡ x / 2 ^ exp r c))

abbrev pub pixel_tile : ℕ → List ℕ → ℕ → ℕ → ℕ
pixel_tile m keys r c = tile_of m keys (place r c)

-- two spans share a place
pub record Overlap (s n t k : ℕ) : Type 0 where
  pub left : s < t + k
  pub right : t < s + n

-- of the block of exponent i whose span starts at s, and the count records from `first` on: the only one contains it, or each lies in it
pub data Nest (m : ℕ) (keys : List ℕ) (i s first count : ℕ) : Type 0 where
  contained : {j t : ℕ} → count ≡ 1 → Record m keys first j t → Covers t (4 ^ j) s (4 ^ i) → Nest m keys i s first count
  filled : ((n j t : ℕ) → Among first count n → Record m keys n j t → Covers s (4 ^ i) t (4 ^ j)) → Nest m keys i s first count

-- and these records are exactly those that overlap it
pub record Meets (m : ℕ) (keys : List ℕ) (i s first count : ℕ) : Type 0 where
  pub empty : count ≡ 0 → first ≡ 0
  pub room : first + count ≤ length keys
  pub exactly : {n j t : ℕ} → Record m keys n j t → Overlap s (4 ^ i) t (4 ^ j) ↔ Among first count n
  pub nest : Nest m keys i s first count
