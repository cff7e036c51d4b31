-- Three cells for each record of the map are room for every answer.
-- Assumes nothing.
use mathlib.Core.Path.{◌≡◌}
use mathlib.Core.Bool.{true}
use mathlib.Core.List.{List}
use Prim.Native.Nat.{ℕ, ◌*◌, ◌≤◌}
use native.Mathlib.Omega.{arith}
use lib.ListN.{length}
use Rattle.std.specs.Prelude.{Ok}
use Rattle.answers.specs.Refusals.{verdict}
use Rattle.window.specs.declared.Window.{Window}
use Rattle.window.specs.Window.{Inside}
use Rattle.map.specs.Sound.{Follow}
use Rattle.map.proofs.Laws.{spaced}
use Rattle.border.specs.Openings.{openings, cells_of}
use Rattle.border.proofs.Laws.{cells-length, bringing-records, all-bring}
use Rattle.used.specs.Used.{use_refusals}
use Rattle.used.proofs.Laws.{use-known, use-whole}

-- in a whole map each opening brings a record of its own, whatever the cap
pub openings-records : {m top : ℕ} {keys : List ℕ} → Follow m 0 keys → {W : Window} → Inside m W → top ≤ m → length (openings m top keys W) ≤ length keys
openings-records F I small = rw (← all-bring F I small) (bringing-records (spaced F) I small)

-- so three cells for each record hold the openings with a cap
pub capped-fit : (m top : ℕ) (keys : List ℕ) (classes : ℕ) (W : Window) (border : ℕ) → top ≤ m → verdict (use_refusals m keys classes W border) ≡ Ok tt
    → (length (openings m top keys W) ≤ length keys) × (length (cells_of (openings m top keys W)) ≡ 3 * length (openings m top keys W))
capped-fit m top keys classes W border small e =
    (openings-records (use-whole m keys classes W border e) (use-known true m keys classes W border e).inside small, cells-length (openings m top keys W))

-- and without one
pub openings-fit : (m : ℕ) (keys : List ℕ) (classes : ℕ) (W : Window) (border : ℕ) → verdict (use_refusals m keys classes W border) ≡ Ok tt
    → (length (openings m m keys W) ≤ length keys) × (length (cells_of (openings m m keys W)) ≡ 3 * length (openings m m keys W))
openings-fit m keys classes W border = capped-fit m m keys classes W border (omega arith)
