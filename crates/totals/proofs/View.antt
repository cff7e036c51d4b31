-- Totals on two maps with the same view through the window are the same.
-- Assumes nothing.
use mathlib.Core.Path.{◌≡◌, ap}
use mathlib.Core.List.{List}
use Prim.Native.Nat.{ℕ}
use Rattle.window.specs.declared.Window.{Window}
use Rattle.window.specs.Window.{Inside}
use Rattle.window.proofs.Laws.{total-by-same}
use Rattle.map.specs.Sound.{Follow}
use Rattle.map.specs.Classes.{class_in}
use Rattle.map.proofs.Laws.{spaced}
use Rattle.border.specs.ViewPromises.{SameView}
use Rattle.border.proofs.Laws.{pixel-view}
use Rattle.totals.specs.Totals.{total}

pub total-view : {m : ℕ} {keys keys' : List ℕ} → Follow m 0 keys → Follow m 0 keys' → {W : Window} → Inside m W → {classes classes' : List ℕ}
    → SameView m keys classes keys' classes' W → (class : ℕ) → total m keys classes W class ≡ total m keys' classes' W class
total-view {m} {keys} {keys'} F F' I {classes} {classes'} same =
    total-by-same (class_in m keys classes) (class_in m keys' classes') (λ p v. ap (λ (r : ℕ × ℕ). r.1) (pixel-view F (spaced F') I same v))
