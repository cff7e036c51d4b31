-- `sparse_select::list_sparse` meets its contract.
use Rattle.sparse_select.proofs.Plain.{sparse-plain}
use Rattle.sparse_select.proofs.list_sparse.Goals as goal

pub returns-then-class-background : goal.returns-then-class-background
returns-then-class-background c =
    let u = c.requires.0 in
    rw (sparse-plain u.spaced u.inside u.cap c.args.background c.args.classes.now c.requires.1 c.args.class c.if-class-background.true) c.list_keys.ensures

pub returns : goal.returns
returns c = let same = c.if-class-background.false in rw (← same) c.list_background.ensures
