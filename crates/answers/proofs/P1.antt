-- The map of P1, of m = 2, maps that differ from it in a record or two, and old contents of lent cells: what the examples of the crates above go by.
-- Assumes nothing.
use mathlib.Core.List.{List, [], ◌∷◌}
use Prim.Native.Nat.{ℕ}
use lib.ListN.{replicate}

abbrev pub keys : List ℕ
keys = 5 ∷ 11 ∷ 12 ∷ 13 ∷ 14 ∷ 15 ∷ 20 ∷ []

abbrev pub classes : List ℕ
classes = 1 ∷ 2 ∷ 2 ∷ 3 ∷ 1 ∷ 1 ∷ 2 ∷ []

-- its last record, the south-east quarter, was not seen
abbrev pub glare : List ℕ
glare = 1 ∷ 2 ∷ 2 ∷ 3 ∷ 1 ∷ 1 ∷ 255 ∷ []

-- that record cut in four, of its class
abbrev pub keys-cut : List ℕ
keys-cut = 5 ∷ 11 ∷ 12 ∷ 13 ∷ 14 ∷ 15 ∷ 21 ∷ 22 ∷ 23 ∷ 24 ∷ []

abbrev pub classes-cut : List ℕ
classes-cut = 1 ∷ 2 ∷ 2 ∷ 3 ∷ 1 ∷ 1 ∷ 2 ∷ 2 ∷ 2 ∷ 2 ∷ []

-- the eastern half as it is, and in the west other records: the north-west quarter cut in four, and other classes
abbrev pub keys-west : List ℕ
keys-west = 6 ∷ 7 ∷ 8 ∷ 9 ∷ 11 ∷ 12 ∷ 13 ∷ 14 ∷ 15 ∷ 20 ∷ []

abbrev pub classes-west : List ℕ
classes-west = 4 ∷ 1 ∷ 5 ∷ 6 ∷ 2 ∷ 2 ∷ 3 ∷ 1 ∷ 255 ∷ 2 ∷ []

-- the map without its records of class 1
abbrev pub keys-sparse : List ℕ
keys-sparse = 11 ∷ 12 ∷ 13 ∷ 20 ∷ []

abbrev pub classes-sparse : List ℕ
classes-sparse = 2 ∷ 2 ∷ 3 ∷ 2 ∷ []

abbrev pub old : ℕ → List ℕ
old n = replicate n 99
