-- Why a record, or a maximal block, is on the list of a window's openings or is not: the answer and every lent cell, on every input.
-- Assumes nothing.
use Rattle.std.specs.Prelude.{Result, Ok, Option, Some, None, Bool, cond, not, ◌&&◌, List, [], ◌∷◌, ◌++◌, ℕ, ◌+◌, ◌^◌, eqb, leb, ltb, length}
use Rattle.lists.specs.Lists.{any, all, keep, before}
use Rattle.answers.specs.declared.Cause.TheVariants.{NoRecord, NotMaximal}
use Rattle.answers.specs.declared.Refused.{Refused}
use Rattle.answers.specs.Refusals.{Refusal, refusal, refuse}
use Rattle.answers.specs.After.{After, after, unless}
use Rattle.key.specs.Picture.{Px}
use Rattle.window.specs.declared.Window.{Window}
use Rattle.window.specs.Window.{window}
use Rattle.window.specs.Blocks.{pixels}
use Rattle.window.specs.Keys.{keys_of}
use Rattle.map.specs.Records.{pixel_record}
use Rattle.map.specs.Runs.{run_of}
use Rattle.border.specs.Openings.{Opening, openings}
use Rattle.used.specs.Used.{use_refusals, spent}
use Rattle.why.specs.declared.Side.{Side}
use Rattle.why.specs.declared.Side.TheVariants.{North, South, West, East}
use Rattle.why.specs.declared.Why.{Why}
use Rattle.why.specs.declared.Why.TheVariants.{Handed, Outside, Opened, Skipped}

-- ---- a record

-- the pixels of record n
unfoldable pub pixels_of : ℕ → List ℕ → ℕ → List Px
pixels_of m keys n = keep (λ p. eqb (pixel_record m keys p.0 p.1) n) (pixels (window 0 0 (2 ^ m) (2 ^ m)))

-- a pixel lies on a side of the window
abbrev pub is_north : Window → Px → Bool
is_north W p = ltb p.0 W.r0

abbrev pub is_south : Window → Px → Bool
is_south W p = leb (W.r0 + W.h) p.0

abbrev pub is_west : Window → Px → Bool
is_west W p = ltb p.1 W.c0

abbrev pub is_east : Window → Px → Bool
is_east W p = leb (W.c0 + W.w) p.1

-- the first side that is true of north, south, west and east, or none
unfoldable pub first_side : Bool → Bool → Bool → Bool → Option Side
first_side north south west east =
    cond north (Some North) (cond south (Some South) (cond west (Some West) (cond east (Some East) None)))

-- on which side of the window pixels lie, all of them, the first that is true; or on none
unfoldable pub lies_of : Window → List Px → Option Side
lies_of W ps = first_side (all (is_north W) ps) (all (is_south W) ps) (all (is_west W) ps) (all (is_east W) ps)

-- an opening hands out record n
unfoldable pub hands_out : ℕ → Opening → Bool
hands_out n o = leb o.first n && ltb n (o.first + o.count)

-- the number, counted from 0, of the first opening that hands it out, or how many there are where none does
unfoldable pub bringer : List Opening → ℕ → ℕ
bringer os n = before (hands_out n) os

-- of record n, by where it lies and by that number: outside of the window, on which side; or handed out, by which opening
unfoldable pub said_of : ℕ → Option Side → ℕ → Why
said_of n (Some side) k = Outside n side
said_of n None k = Handed n k

unfoldable pub record_said : ℕ → List ℕ → Window → ℕ → Why
record_said m keys W n = said_of n (lies_of W (pixels_of m keys n)) (bringer (openings m m keys W) n)

-- ---- a maximal block, by its key

-- an opening is that of the key's block
unfoldable pub opens_at : ℕ → Opening → Bool
opens_at key o = eqb o.key key

-- opened, as which number; or skipped for the first record that overlaps it, which an opening hands out
unfoldable pub block_said : ℕ → List ℕ → Window → ℕ → Why
block_said m keys W key =
    let os = openings m m keys W in
    let n = (run_of m keys key).first in
    cond (any (opens_at key) os) (Opened (before (opens_at key) os)) (Skipped n (bringer os n))

-- ---- both

-- refusal 19, of the number of records and an index: there is no such record
unfoldable pub index_refusals : ℕ → ℕ → List Refusal
index_refusals q n = refusal (leb q n) NoRecord 0 ∷ []

-- refusal 22: the key is that of no maximal block of the window
unfoldable pub key_refusals : ℕ → Window → ℕ → List Refusal
key_refusals m W key = refusal (not (any (eqb key) (keys_of m m W))) NotMaximal 0 ∷ []

-- what is said, behind refusals 1 to 7 and one more: the border is spent. A refusal leaves it as it was
unfoldable pub why_for : List Refusal → Why → ℕ → List ℕ → ℕ → Window → List ℕ → After (Result Why Refused) (List ℕ)
why_for more said m keys classes W border = unless refuse (use_refusals m keys classes W (length border) ++ more) border (after (Ok said) (spent W border))

abbrev pub why_record_of : ℕ → List ℕ → ℕ → Window → ℕ → List ℕ → After (Result Why Refused) (List ℕ)
why_record_of m keys classes W n = why_for (index_refusals (length keys) n) (record_said m keys W n) m keys classes W

abbrev pub why_block_of : ℕ → List ℕ → ℕ → Window → ℕ → List ℕ → After (Result Why Refused) (List ℕ)
why_block_of m keys classes W key = why_for (key_refusals m W key) (block_said m keys W key) m keys classes W
