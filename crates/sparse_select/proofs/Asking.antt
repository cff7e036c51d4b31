-- A block that the walk comes to, and what is asked to list it.
-- Assumes nothing.
use mathlib.Core.Path.{◌≡◌, refl}
use mathlib.Core.List.{List}
use Prim.Native.Nat.{ℕ}
use native.Mathlib.Omega.{arith}
use lib.ListN.{length}
use Rattle.key.specs.Picture.{Px}
use Rattle.std.specs.Prelude.{Some}
use Rattle.key.specs.Key.{block_key}
use Rattle.window.specs.declared.Window.{Window}
use Rattle.window.specs.declared.Block.{Block}
use Rattle.window.specs.Walk.{corner_of, GoesOn}
use Rattle.window.specs.Keys.{key_of}
use Rattle.window.proofs.Laws.{goes-corner, inside-12}
use Rattle.walk.specs.declared.MaximalBlocks.{MaximalBlocks}
use Rattle.walk.specs.Steps.{Steps}
use Rattle.map.specs.Runs.{run_of, BlockOf}
use Rattle.border.specs.Step.{Corner}
use Rattle.border.proofs.Laws.{block-key}
use Rattle.used.specs.Used.{Usable}
use Rattle.sparse_select.specs.Select.{sparse_selected, sparse_selection}
use Rattle.sparse_select.specs.Asked.{Asked}
use Rattle.sparse_select.proofs.Window.{sparse-fits}
use Rattle.sparse_select.proofs.Walking.{Walking, walking-room}

-- the block that comes next
pub asking-block : {m top : ℕ} {keys : List ℕ} {W : Window} → Usable m top keys W W.w → {s t : Px} {b : Block} → GoesOn W top s b t
    → {key : ℕ} → key ≡ key_of m top W (corner_of b) → BlockOf m key b.exponent
asking-block {top = top} {W = W} U {b = b} on e =
    let K : Corner W top (corner_of b) = record { inside = on.inside; own = goes-corner on } in
    rw (e, on.largest) (block-key U.spaced U.inside U.cap K)

-- its keys can be counted with those so far
module _ {m top : ℕ} {keys : List ℕ} (classes : List ℕ) {W : Window} {class : ℕ} (U : Usable m top keys W W.w) (same : length keys ≡ length classes) where
  pub asking : {out₀ out : List ℕ} {s : MaximalBlocks} {n : ℕ} → Walking m top W (sparse_selected m class keys classes class) out₀ out s n
      → {b : Block} {t : MaximalBlocks} → Steps s (Some b) t → {key : ℕ} → key ≡ block_key m b.exponent b.row b.col
      → Asked m keys classes class key (run_of m keys key) n
  unfolding sparse_selection
  asking S g named =
      let fits = sparse-fits U.spaced U.inside U.cap class classes same class (inside-12 U.small U.inside) in
      record { small = U.small; few = U.few; same = same; spaced = U.spaced; is = refl; room = omega (arith, walking-room S g named fits) }
