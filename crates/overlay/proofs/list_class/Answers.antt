-- `overlay::list_class` meets its contract. The pass that counts writes nothing; where keys are written there is room for all.
use mathlib.Core.Path.{refl}
use native.Mathlib.Omega.{arith}
use lib.ListN.{length}
use Prim.Native.Nat.{◌≤◌}
use Rattle.window.proofs.Laws.{inside-12, pixels-most}
use Rattle.select.proofs.Laws.{keys-short, keys-done}
use Rattle.pieces.specs.Pair.{class_over_map}
use Rattle.overlay.specs.Select.{class_selection}
use Rattle.overlay.proofs.Blocks.{class-most}
use Rattle.overlay.proofs.list_class.Goals as goal

pub overflow_mul-most : goal.overflow_mul-most
overflow_mul-most c = omega (arith, pixels-most c.args.window (inside-12 c.requires.0.small c.requires.1))

pub returns-then-out-needed : goal.returns-then-out-needed
returns-then-out-needed c =
    let L = c.put_all-needed.ensures in
    rw c.at.ensures (keys-short _ _ (omega (arith, L.count)) (omega (arith, c.if-out-needed.true)) refl)

pub returns : goal.returns
returns c =
    let a = c.args in
    let few = class-most a.m (class_over_map a.m a.keys.now a.classes.now a.base.now a.beneath.now) a.class c.requires.0.today c.requires.1 in
    let room : length (class_selection a.m (class_over_map a.m a.keys.now a.classes.now a.base.now a.beneath.now) a.window a.class) ≤ length a.out.now =
    elim c.if-out-most.branch [
      | goal.then-out-most+else-out-needed w ↦ omega (arith, w.put_all-needed.ensures.count, w.if-out-needed.false)
      | goal.else-out-most w ↦ omega (arith, few, w.if-out-most.false)
    ] in
    keys-done _ _ c.put_all-count.ensures room
