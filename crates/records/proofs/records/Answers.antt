-- `records::records` meets its contract, by the invariant beside this.
use mathlib.Core.Path.{sym, ◌∙◌}
use native.Mathlib.Omega.{arith}
use Rattle.answers.proofs.Laws.{handed-on}
use Rattle.map.proofs.Loops.{late-never, walked_here, walked_next, walked_end, walked_row, taken-behind, taken_refused}
use Rattle.records.proofs.records.Goals as goal

pub returns-then-next-keys : goal.returns-then-next-keys
returns-then-next-keys c = c.ended.ensures ∙ sym (walked_end (walked_row c.loop-m.invariant.0 c.along-gone.ensures.row) c.if-next-keys.true)

pub returns-in_err-block : goal.returns-in_err-block
returns-in_err-block c =
    let to = walked_row c.loop-m.invariant.0 c.along-gone.ensures.row in
    handed-on c.from_residual.ensures ∙ sym (walked_here to (omega (arith, c.if-next-keys.false, c.along-gone.ensures.within)) ∙ taken_refused c.in_err-block.ensures _)

pub loop-m-preserved : goal.loop-m-preserved
loop-m-preserved c =
    let to = walked_row c.loop-m.invariant.0 c.along-gone.ensures.row in
    let block = taken-behind c.in_ok-block.ensures in (
      walked_next to (omega (arith, c.if-next-keys.false, c.along-gone.ensures.within)) block.2 block.1 (rw block.0 (late-never _ _)) c.advance-spot.ensures.0,
      c.advance-spot.ensures.1,
    )
