-- The classes of a map: of a record, and of a place.
-- Assumes nothing.
use Rattle.std.specs.Prelude.{Bool, List, ℕ, eqb, get_or}
use Rattle.map.specs.Records.{record_of}

-- record n has the class
abbrev pub classed : List ℕ → ℕ → ℕ → Bool
classed classes class n = eqb (get_or classes n 0) class

-- a place has the class of its record, or that of the background where it is in none: `record_of` is then the number of records, and there are no more classes
abbrev pub class_over : ℕ → ℕ → List ℕ → List ℕ → ℕ → ℕ
class_over background m keys classes q = get_or classes (record_of m keys q) background

-- in a whole map no place has that of the background
abbrev pub class_in : ℕ → List ℕ → List ℕ → ℕ → ℕ
class_in = class_over 0

-- the class of what was not seen
abbrev pub not_seen : ℕ
not_seen = 255
