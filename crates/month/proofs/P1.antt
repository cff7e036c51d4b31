-- The month of P1's window, of no map and of P1's map: what the examples go by.
-- Assumes nothing.
use mathlib.Core.List.{List, ◌∷◌}
use Prim.Native.Nat.{ℕ}
use lib.ListN.{replicate}

abbrev pub empty : List ℕ
empty = 2 ∷ 0 ∷ 1 ∷ 3 ∷ 3 ∷ replicate 1025 0

abbrev pub first-day : List ℕ
first-day = 2 ∷ 0 ∷ 1 ∷ 3 ∷ 3 ∷ 1 ∷ 0 ∷ 0 ∷ 0 ∷ 0 ∷ 4 ∷ 4 ∷ 4 ∷ 1 ∷ 4 ∷ 4 ∷ 4 ∷ 1 ∷ 1 ∷ 1 ∷ 1 ∷ 1 ∷ replicate 1008 0
