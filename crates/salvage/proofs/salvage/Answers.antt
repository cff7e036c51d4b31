-- `salvage::salvage` meets its contract: each test decides what its law in `Answered` says. The pass that counts writes nothing.
use mathlib.Core.Path.{sym, ◌∙◌}
use Rattle.answers.proofs.Laws.{sized, handed-on}
use Rattle.salvage.proofs.Going.{all-counted, all-few}
use Rattle.salvage.proofs.Answered.{salvage-sizes, salvage-short, salvage-done}
use Rattle.salvage.proofs.salvage.Goals as goal

pub returns-in_err-sizes : goal.returns-in_err-sizes
returns-in_err-sizes c = rw (handed-on c.from_residual.ensures) (salvage-sizes _ _ _ _ _ _ (sym c.sizes.ensures ∙ c.in_err-sizes.was))

pub pass-counted-requires : goal.pass-counted-requires
pass-counted-requires c = let r = sized.0 (sym c.sizes.ensures ∙ c.in_ok-sizes.was) in (r.small, r.same, r.most)

pub room-requires : goal.room-requires
room-requires c = let r = sized.0 (sym c.sizes.ensures ∙ c.in_ok-sizes.was) in all-few c.args.m c.pass-counted.ensures r.small r.most

pub returns-in_err-room : goal.returns-in_err-room
returns-in_err-room c =
    rw (handed-on c.from_residual-in_err-room.ensures)
    (salvage-short _ _ _ _ _ _ (sym c.sizes.ensures ∙ c.in_ok-sizes.was) (all-counted c.args.m c.pass-counted.ensures) (sym c.room.ensures ∙ c.in_err-room.was))

pub pass-requires : goal.pass-requires
pass-requires c = let r = sized.0 (sym c.sizes.ensures ∙ c.in_ok-sizes.was) in (r.small, r.same, r.most)

pub returns : goal.returns
returns c =
    let counted = all-counted c.args.m c.pass-counted.ensures in
    salvage-done _ _ _ _ _ _ (sym c.sizes.ensures ∙ c.in_ok-sizes.was) counted (sym c.room.ensures ∙ c.in_ok-room.was) c.pass.ensures
