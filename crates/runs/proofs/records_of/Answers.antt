-- `runs::records_of` meets its contract: where the block's keys begin and end in the list of keys.
use Rattle.std.proofs.Common.{sym, ◌∙◌}
use Rattle.map.proofs.Laws.{keys-rise}
use Rattle.map.proofs.Loops.{between_first, found_inside}
use Rattle.runs.proofs.records_of.Goals as goal

pub keys_below-first-requires : goal.keys_below-first-requires
keys_below-first-requires c = (keys-rise c.requires.2, between_first _ _)

pub returns : goal.returns
returns c =
    c.inside.ensures ∙ sym (found_inside c.requires.2 c.requires.3.names c.keys_below-first.ensures c.records_inside-count.ensures c.if-count-eq0.false)
