-- Where a place stands among the records of a map: behind those that end by it, before those that end behind it.
-- Assumes nothing.
use Rattle.std.specs.Prelude.{◌≡◌, List, ℕ, ◌+◌, ◌^◌, ◌≤◌, ◌<◌, length, get_or}
use Rattle.key.specs.Blocks.{Names}
use Rattle.pieces.specs.declared.Cursor.{Cursor}
use Rattle.pieces.specs.declared.Stand.{Stand}

-- a record, by its number and its places; or none is left: it starts where the picture ends, so that no place has it, and no place is behind it
pub data Spans (m : ℕ) (keys : List ℕ) (c : Cursor) : Type 0 where
  held : {i : ℕ} → c.next < length keys → Names m (get_or keys c.next 0) i c.start → c.end ≡ c.start + 4 ^ i → Spans m keys c
  left : c.next ≡ length keys → c.start ≡ 4 ^ m → c.end ≡ 4 ^ m + 1 → Spans m keys c

-- the records before number n end by place a
pub record Past (m : ℕ) (keys : List ℕ) (a n : ℕ) : Type 0 where
  pub ends : {k i s : ℕ} → k < n → Names m (get_or keys k 0) i s → s + 4 ^ i ≤ a

-- the first record that ends behind place a
pub record At (m : ℕ) (keys : List ℕ) (a : ℕ) (c : Cursor) : Type 0 where
  pub past : Past m keys a c.next
  pub spans : Spans m keys c
  pub ahead : a < c.end

-- both maps at one place
pub record StandsAt (m : ℕ) (keys base : List ℕ) (s : Stand) : Type 0 where
  pub within : s.place ≤ 4 ^ m
  pub today : At m keys s.place s.today
  pub under : At m base s.place s.under
