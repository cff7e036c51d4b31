-- What a pass leaves: where there is room for all openings, all are written.
-- Assumes nothing.
use mathlib.Core.Path.{◌≡◌, ◌∙◌}
use mathlib.Core.List.{List}
use Prim.Native.Nat.{ℕ, ◌*◌, ◌/◌, ◌≤◌}
use native.Mathlib.Omega.{arith}
use lib.ListN.{length}
use lib.Seq.{take_all}
use Rattle.answers.specs.Cells.{overwrite}
use Rattle.window.specs.declared.Window.{Window}
use Rattle.border.specs.declared.Totals.{Totals}
use Rattle.border.specs.Openings.{openings, cells_of}
use Rattle.border.specs.Cells.{fitting}
use Rattle.border.specs.Found.{Passed}
use Rattle.border.proofs.Hands.{cells-length}

-- with room for all, all are written
pub passed-written : {m top : ℕ} {keys : List ℕ} {W : Window} {border₀ out₀ border out : List ℕ} {totals : Totals} → Passed m top keys W border₀ out₀ totals border out
    → 3 * length (openings m top keys W) ≤ length out₀ → out ≡ overwrite (cells_of (openings m top keys W)) out₀
unfolding fitting
passed-written {m} {top} {keys} {W} {out₀ = out₀} p l =
    let os = openings m top keys W in
    p.written ∙ rw (take_all (3 * (length out₀ / 3)) (cells_of os) (omega (arith, cells-length os)))
