-- `select::list_keys` meets its contract. The pass that counts writes nothing; where keys are written there is room for all.
use mathlib.Core.Path.{refl}
use native.Mathlib.Omega.{arith}
use lib.ListN.{length}
use Prim.Native.Nat.{◌≤◌}
use Rattle.window.proofs.Laws.{inside-12, blocks-most, most-small}
use Rattle.select.specs.Select.{selection}
use Rattle.select.proofs.Selection.{selection-most}
use Rattle.select.proofs.Tables.{keys-short, keys-done}
use Rattle.select.proofs.list_keys.Goals as goal

pub most_blocks-requires : goal.most_blocks-requires
most_blocks-requires c = let u = c.requires.0 in (omega (arith, u.cap, u.small), inside-12 u.small u.inside)

pub overflow_add-most_blocks : goal.overflow_add-most_blocks
overflow_add-most_blocks c =
    let u = c.requires.0 in
    omega (arith, c.most_blocks.ensures, most-small c.args.window c.args.top (inside-12 u.small u.inside), u.few)

pub returns-then-out-needed : goal.returns-then-out-needed
returns-then-out-needed c =
    let L = c.pick_all-needed.ensures in
    rw c.at.ensures (keys-short _ _ (omega (arith, L.count)) (omega (arith, c.if-out-needed.true)) refl)

pub returns : goal.returns
returns c =
    let a = c.args in
    let u = c.requires.0 in
    let most = selection-most u.spaced u.inside u.cap a.classes.now a.class in
    let blocks = blocks-most a.window a.top u.inside in
    let room : length (selection a.m a.top a.keys.now a.classes.now a.window a.class) ≤ length a.out.now =
    elim c.if-out-most_blocks.branch [
      | goal.then-out-most_blocks+else-out-needed w ↦ omega (arith, w.pick_all-needed.ensures.count, w.if-out-needed.false)
      | goal.else-out-most_blocks w ↦ omega (arith, most, blocks, c.most_blocks.ensures, w.if-out-most_blocks.false)
    ] in
    keys-done _ _ c.pick_all-count.ensures room
