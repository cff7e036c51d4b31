-- `runs::records_inside` meets its contract: where the block's keys end, by the key found where they may begin.
use Rattle.std.proofs.Common.{◌+◌, ◌^◌, arith}
use Rattle.key.proofs.Laws.{block-lies, pow-most}
use Rattle.map.specs.Runs.{Splits}
use Rattle.map.proofs.Laws.{keys-rise}
use Rattle.map.proofs.Loops.{end-here, end-own, end_later, in_order, counted}
use Rattle.runs.proofs.records_inside.Goals as goal
use Rattle.runs.proofs.records_inside.Goals.{After-keys_below}

pub returns-then-found-key : goal.returns-then-found-key
returns-then-found-key c = end-own c.requires.1 c.requires.2.names c.requires.3 (omega arith) c.if-found-key.true

pub pow5-requires : goal.pow5-requires
pow5-requires c = omega (arith, (block-lies c.requires.2.names).small, c.requires.0)

pub overflow_add-end : goal.overflow_add-end
overflow_add-end c = omega (arith, (block-lies c.requires.2.names).keys, pow-most 4 _ c.requires.0, c.pow5.ensures.is)

pub returns-then-end-found : goal.returns-then-end-found
returns-then-end-found c = end-here c.requires.1 c.requires.2.names c.requires.3 (λ l. omega (arith, c.if-end-found.true, c.pow5.ensures.is))

pub keys_below-requires : goal.keys_below-requires
keys_below-requires c =
    let ahead = end_later c.requires.1 c.requires.2.names c.requires.3 (omega arith) in
    (keys-rise c.requires.1, rw c.pow5.ensures.is (ahead (omega (arith, c.if-end-found.false, c.pow5.ensures.is))))

end : (c : After-keys_below) → Splits c.args.keys.now (c.args.key + 5 ^ c.args.i) c.keys_below.result
end c = rw c.pow5.ensures.is at c.keys_below.ensures

pub overflow_sub-result : goal.overflow_sub-result
overflow_sub-result c = in_order c.requires.1 c.requires.2.names c.requires.3 (end (goal.at.overflow_sub-result c).After-keys_below)

pub returns : goal.returns
returns c = counted c.requires.1 c.requires.2.names c.requires.3 (end (goal.at.returns c).After-keys_below)
