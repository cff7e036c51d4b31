-- What is listed of a window, by the maximal blocks.
-- Assumes nothing.
use mathlib.Core.Path.{◌≡◌, refl, ◌∙◌}
use mathlib.Core.List.{List, flat_map}
use Prim.Native.Nat.{ℕ, ◌*◌, ◌≤◌}
use lib.ListN.{length}
use Rattle.key.specs.Picture.{Px}
use Rattle.window.specs.declared.Window.{Window}
use Rattle.window.specs.Window.{Inside}
use Rattle.window.specs.Blocks.{maximal}
use Rattle.window.specs.Keys.{key_of, keys_of}
use Rattle.map.specs.Sound.{Spaced}
use Rattle.sparse_select.specs.Select.{sparse_selected, sparse_selection}
use Rattle.sparse_select.proofs.Laid.{Blockwise, laid-is, laid-most, laid-fits}
use Rattle.sparse_select.proofs.Block.{HasClass, sparse-made}

-- of a block by its corner
abbrev pub listed_of : ℕ → ℕ → ℕ → List ℕ → List ℕ → Window → ℕ → Px → List ℕ
listed_of m top background keys classes W class b = sparse_selected m background keys classes class (key_of m top W b)

pub sparse-flat : (m top background : ℕ) (keys classes : List ℕ) (W : Window) (class : ℕ)
    → sparse_selection m top background keys classes W class ≡ flat_map (sparse_selected m background keys classes class) (keys_of m top W)
unfolding sparse_selection
sparse-flat m top background keys classes W class = refl

pub sparse-is : (m top background : ℕ) (keys classes : List ℕ) (W : Window) (class : ℕ)
    → sparse_selection m top background keys classes W class ≡ flat_map (listed_of m top background keys classes W class) (maximal W top)
sparse-is m top background keys classes W class =
    sparse-flat m top background keys classes W class ∙ laid-is m top W (sparse_selected m background keys classes class)

pub sparse-blockwise : {m : ℕ} {keys : List ℕ} → Spaced m 0 keys → (background : ℕ) (classes : List ℕ) → length keys ≡ length classes → (class : ℕ)
    → Blockwise m (HasClass m background keys classes class) (sparse_selected m background keys classes class)
sparse-blockwise F background classes same class = record { makes = sparse-made F background classes same class }

module _ {m top : ℕ} {keys : List ℕ} (F : Spaced m 0 keys) {W : Window} (I : Inside m W) (small : top ≤ m) (background : ℕ) (classes : List ℕ)
    (same : length keys ≡ length classes) (class : ℕ) where
  pub sparse-most : length (sparse_selection m top background keys classes W class) ≤ W.h * W.w
  unfolding sparse_selection
  sparse-most = laid-most F I small (sparse-blockwise F background classes same class)

  pub sparse-fits : Inside 12 W → length (sparse_selection m top background keys classes W class) ≤ 16777216
  unfolding sparse_selection
  sparse-fits J = laid-fits F I small (sparse-blockwise F background classes same class) J
