-- What was found in a window, as exist says it.
-- Assumes nothing.
use mathlib.Core.Path.{◌≡◌, refl, sym, ◌∙◌}
use mathlib.Core.Bool.{Bool, true, false, cond}
use Prim.Native.Nat.{ℕ}
use Rattle.window.specs.declared.Window.{Window}
use Rattle.window.specs.Rules.{exists_by}
use Rattle.map.specs.Classes.{not_seen}
use Rattle.exist.specs.declared.Existence.TheVariants.{Yes, No, CannotTell}
use Rattle.exist.specs.Exist.{presence_by}
use Rattle.exist.proofs.Laws.{presence-is}
use Rattle.pieces.specs.declared.Looked.{Looked}
use Rattle.pieces.specs.Pieces.{Finds}

pub found-presence : (rule : ℕ → ℕ) (W : Window) (class : ℕ) {r : Looked} → Finds rule W class r
    → cond r.has Yes (cond r.unseen CannotTell No) ≡ presence_by rule W class
found-presence rule W class {r} F = go r.has refl ∙ sym (presence-is rule W class)
  where
    go : (t : Bool) → r.has ≡ t
        → cond r.has Yes (cond r.unseen CannotTell No) ≡ cond (exists_by rule W class) Yes (cond (exists_by rule W not_seen) CannotTell No)
    go true e = rw (← F.has, e)
    go false e = rw (← F.has, e, F.unseen e)
