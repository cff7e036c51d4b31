-- What is promised of a reason that was given.
-- Assumes nothing.
use Rattle.std.specs.Prelude.{◌≡◌, ◌↔◌, ◌⊎◌, List, ℕ, Some}
use Rattle.window.specs.declared.Window.{Window}
use Rattle.border.specs.Openings.{Opening}
use Rattle.border.specs.Promises.{Overlaps, HandedBy, OpenedAs, SkippedFor}
use Rattle.used.specs.Used.{spent}
use Rattle.why.specs.declared.Side.{Side}
use Rattle.why.specs.Promises.{AllNorth, AllSouth, AllWest, AllEast, FirstTrue}
use Rattle.lutniorad.specs.declared.Reason.{Reason}
use Rattle.lutniorad.specs.Numbers.{reason, side_number}

-- why record n is on the list of openings os, or is not
pub record WhyRecordPromise (m : ℕ) (keys : List ℕ) (W : Window) (n : ℕ) (os : List Opening) (border : List ℕ) (r : Reason) (border' : List ℕ) : Type 0 where
  -- it is said to be handed out by opening number k, counted from 0, exactly when that opening hands it out
  pub handed : (k : ℕ) → (r ≡ reason 1 n k) ↔ HandedBy os k n
  -- it is said to lie north, south, west or east of the window exactly when this is the first of them that is true of all its pixels
  pub outside : (side : Side) → (r ≡ reason (side_number side) n 0) ↔ FirstTrue (AllNorth m keys W n) (AllSouth m keys W n) (AllWest m keys W n) (AllEast m keys W n) (Some side)
  -- one of these is said: the first where the record shares a pixel with the window, and one of the others where it shares none
  pub either : ((k : ℕ) × (r ≡ reason 1 n k) × Overlaps m keys W n) ⊎ ((side : Side) × (r ≡ reason (side_number side) n 0) × (¬ Overlaps m keys W n))
  pub border-after : border' ≡ spent W border

-- why the maximal block of a key is on the list of openings os, or is not
pub record WhyBlockPromise (m : ℕ) (keys : List ℕ) (W : Window) (key : ℕ) (os : List Opening) (border : List ℕ) (r : Reason) (border' : List ℕ) : Type 0 where
  -- it is said to be opened as number k exactly when opening number k is at that key
  pub opened : (k : ℕ) → (r ≡ reason 6 0 k) ↔ OpenedAs os key k
  -- it is said to be skipped for record n, handed out by opening number k, exactly when it lies in that record, opening number k hands this out, and comes before the block
  pub skipped : (n k : ℕ) → (r ≡ reason 7 n k) ↔ SkippedFor m m keys W os key n k
  -- one of these is said
  pub either : ((k : ℕ) × (r ≡ reason 6 0 k)) ⊎ ((n : ℕ) × (k : ℕ) × (r ≡ reason 7 n k))
  pub border-after : border' ≡ spent W border
