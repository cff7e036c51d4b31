-- Exist on two maps with the same view through the window: the same answer, of all three.
-- Assumes nothing.
use mathlib.Core.Path.{◌≡◌, sym, ap, ◌∙◌}
use mathlib.Core.List.{List}
use Prim.Native.Nat.{ℕ}
use Rattle.window.specs.declared.Window.{Window}
use Rattle.window.specs.Window.{Inside}
use Rattle.window.proofs.Laws.{exists-by-same}
use Rattle.map.specs.Sound.{Follow}
use Rattle.map.specs.Classes.{class_in, not_seen}
use Rattle.map.proofs.Laws.{spaced}
use Rattle.border.specs.ViewPromises.{SameView}
use Rattle.border.proofs.Laws.{pixel-view}
use Rattle.exist.specs.Promises.{exists, presence}
use Rattle.exist.proofs.Tables.{presence-is}

module _ {m : ℕ} {keys keys' : List ℕ} (F : Follow m 0 keys) (F' : Follow m 0 keys') {W : Window} (I : Inside m W) {classes classes' : List ℕ}
    (same : SameView m keys classes keys' classes' W) (class : ℕ) where
  pub exists-view : exists m keys classes W class ≡ exists m keys' classes' W class
  exists-view = exists-by-same (class_in m keys classes) (class_in m keys' classes') (λ p v. ap (λ (r : ℕ × ℕ). r.1) (pixel-view F (spaced F') I same v)) class

pub presence-view : {m : ℕ} {keys keys' : List ℕ} → Follow m 0 keys → Follow m 0 keys' → {W : Window} → Inside m W → {classes classes' : List ℕ}
    → SameView m keys classes keys' classes' W → (class : ℕ) → presence m keys classes W class ≡ presence m keys' classes' W class
presence-view {m} {keys} {keys'} F F' {W} I {classes} {classes'} same class =
    presence-is (class_in m keys classes) W class
    ∙ rw (exists-view F F' I same class, exists-view F F' I same not_seen) (sym (presence-is (class_in m keys' classes') W class))
