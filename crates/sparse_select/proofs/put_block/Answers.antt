-- `sparse_select::put_block` meets its contract: the records inside the block, or else the one around it, or none.
use mathlib.Core.Path.{sym, ◌∙◌}
use Prim.Native.Nat.{◌+◌, ◌^◌}
use native.Mathlib.Nat.{add-zero}
use native.Mathlib.Omega.{arith}
use Rattle.answers.proofs.Laws.{listed-one}
use Rattle.map.specs.Runs.{Splits}
use Rattle.map.proofs.Laws.{keys-rise}
use Rattle.map.proofs.Loops.{between_first, found_inside}
use Rattle.sparse_select.proofs.Cases.{asked-run, asked-none, asked-within, asked-around, asked-blank}
use Rattle.sparse_select.proofs.put_block.Goals as goal

pub keys_below-first-requires : goal.keys_below-first-requires
keys_below-first-requires c = (keys-rise c.requires.0.spaced, between_first _ _)

-- where no record lies in the block: the one around it, or none
pub pick_around-requires : goal.pick_around-requires
pick_around-requires c =
    let A = asked-run c.requires.0 c.record_around-run.ensures in
    (asked-within A c.requires.1 c.if-exponent-run.true, omega (arith, A.room))

pub returns-then-exponent-run : goal.returns-then-exponent-run
returns-then-exponent-run c = asked-around (asked-run c.requires.0 c.record_around-run.ensures) c.requires.1 c.if-exponent-run.true c.pick_around.ensures

pub returns-then-count-eq0 : goal.returns-then-count-eq0
returns-then-count-eq0 c =
    let A = asked-run c.requires.0 c.record_around-run.ensures in
    let none : Splits c.args.keys.now (c.args.key + 5 ^ c.args.exponent) c.keys_below-first.result = rw (c.if-count-eq0.true, add-zero) at c.records_inside-count.ensures in
    let least = asked-none A c.requires.1 c.keys_below-first.ensures none (omega (arith, c.if-exponent-run.false)) in
    rw (asked-blank A c.requires.1 least, c.put.ensures) (listed-one _ _ _)

pub put_run-requires : goal.put_run-requires
put_run-requires c =
    let p = c.requires in
    let found = c.inside-run.ensures ∙ sym (found_inside p.0.spaced p.1.names c.keys_below-first.ensures c.records_inside-count.ensures c.if-count-eq0.false) in
    (asked-run p.0 found, rw c.inside-run.ensures p.1)
