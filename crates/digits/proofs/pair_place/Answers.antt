-- `digits::pair_place` meets its contract, by the entry of the table.
use Rattle.std.proofs.Common.{sym, ◌∙◌}
use Rattle.key.proofs.Loops.{pairs-entry, pixel-told}
use Rattle.digits.proofs.pair_place.Goals as goal

pub returns-then-place-eq16 : goal.returns-then-place-eq16
returns-then-place-eq16 c = sym (pairs-entry c.args.two c.pairs_table.ensures c.requires) ∙ c.if-place-eq16.true

pub returns : goal.returns
returns c = pixel-told c.args.two (pairs-entry c.args.two c.pairs_table.ensures c.requires) c.if-place-eq16.false
