-- Pieces, places from one on that have one class; and what is counted and found along a stretch of places and in a window. By any rule that gives places classes.
-- Assumes nothing.
use Rattle.std.specs.Prelude.{◌≡◌, Bool, false, List, ℕ, ◌+◌, ◌-◌, ◌≤◌, ◌<◌, eqb, length, get_or}
use Rattle.lists.specs.Lists.{up_from, any, how_many}
use Rattle.window.specs.declared.Window.{Window}
use Rattle.window.specs.Rules.{exists_by}
use Rattle.map.specs.Classes.{not_seen}
use Rattle.pieces.specs.declared.Piece.{Piece}
use Rattle.pieces.specs.declared.Looked.{Looked}

-- from a on, not empty and not beyond stop, all of one class
pub record Uniform (rule : ℕ → ℕ) (a stop : ℕ) (p : Piece) : Type 0 where
  pub more : a < p.end
  pub most : p.end ≤ stop
  pub alike : (q : ℕ) → a ≤ q → q < p.end → rule q ≡ p.class

-- how many places from a up to b have the class, and whether one has it
unfoldable pub places_of : (ℕ → ℕ) → ℕ → ℕ → ℕ → ℕ
places_of rule a b class = how_many (λ q. eqb (rule q) class) (up_from a (b - a))

unfoldable pub seen_in : (ℕ → ℕ) → ℕ → ℕ → ℕ → Bool
seen_in rule a b class = any (λ q. eqb (rule q) class) (up_from a (b - a))

-- to each class's cell the number of places from a up to b that have it has been added
pub record Tallied (rule : ℕ → ℕ) (a b : ℕ) (before after : List ℕ) : Type 0 where
  pub same : length after ≡ length before
  pub each : (k : ℕ) → k < length before → get_or after k 0 ≡ get_or before k 0 + places_of rule a b k

-- no cell passes 32 bits when n is added
pub record Room (cells : List ℕ) (n : ℕ) : Type 0 where
  pub fits : (k : ℕ) → k < length cells → get_or cells k 0 + n ≤ 4294967295

-- whether a place from a up to b has the class; and where none has it, whether one was not seen
pub record Looks (rule : ℕ → ℕ) (a b class : ℕ) (r : Looked) : Type 0 where
  pub has : r.has ≡ seen_in rule a b class
  pub unseen : r.has ≡ false → r.unseen ≡ seen_in rule a b not_seen

-- the same of the pixels of a window
pub record Finds (rule : ℕ → ℕ) (W : Window) (class : ℕ) (r : Looked) : Type 0 where
  pub has : r.has ≡ exists_by rule W class
  pub unseen : r.has ≡ false → r.unseen ≡ exists_by rule W not_seen
