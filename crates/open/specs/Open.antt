-- Opening a window on a map: the answer and every lent cell, on every input.
-- Assumes nothing.
use Rattle.std.specs.Prelude.{Bool, true, List, ℕ, length, Result, Ok}
use Rattle.answers.specs.declared.Refused.{Refused}
use Rattle.answers.specs.Refusals.{refuse}
use Rattle.answers.specs.After.{After, tiled_for}
use Rattle.window.specs.declared.Window.{Window}
use Rattle.border.specs.declared.Totals.{Totals}
use Rattle.border.specs.Openings.{openings, handed_count, cells_of}
use Rattle.used.specs.Used.{used_in}

-- so many openings, which hand out so many records
abbrev pub counted : ℕ → ℕ → Totals
counted openings records = record { openings = openings; records = records }

-- opening with blocks of exponent up to `top`: the numbers of openings and of records, and the openings in their cells
unfoldable pub open_in : Bool → ℕ → ℕ → List ℕ → ℕ → Window → List ℕ → List ℕ → After (Result Totals Refused) (List ℕ × List ℕ)
open_in whole m top keys classes W border out =
    let os = openings m top keys W in
    tiled_for refuse m top (border, out) (used_in whole refuse (Ok (counted (length os) (handed_count os))) (cells_of os) m keys classes W border out)

-- on a whole map
abbrev pub open_tiled : ℕ → ℕ → List ℕ → ℕ → Window → List ℕ → List ℕ → After (Result Totals Refused) (List ℕ × List ℕ)
open_tiled = open_in true

-- opening with blocks as large as the picture has
abbrev pub open_of : ℕ → List ℕ → ℕ → Window → List ℕ → List ℕ → After (Result Totals Refused) (List ℕ × List ℕ)
open_of m = open_tiled m m
