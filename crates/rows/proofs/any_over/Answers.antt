-- `rows::any_over` meets its contract, by the invariant beside this.
use Rattle.std.proofs.Common.{length, sym, ◌∙◌}
use Rattle.std.specs.Slice.Iter.{chunks_exact_rest}
use Rattle.std.proofs.lemmas.List.{length-append}
use Rattle.rows.proofs.Over.{Chunk, left-none, chunk-few, chunk-row, chunk-rest, over-sum, over-maps, looking-found, looking-next, looking-last}
use Rattle.rows.proofs.any_over.Goals as goal
use Rattle.rows.proofs.any_over.Goals.{In-Some, then-most-row-via-then-most-row, then-most-row-via-else-most-row+then-maps-row}

chunk : (c : In-Some) → Chunk c.args.table.now (length c.loop-row.yielded) c.in-Some.row.now (chunks_exact_rest c.next.new.self)
chunk c =
    let turn = c.in-Some.ensures.steps in
    record { long = c.requires; is = sym c.loop-row.invariant.rest ∙ turn.1.0; four = turn.1.1 ∙ c.loop-row.invariant.four }

pub returns-then-most-row : goal.returns-then-most-row
returns-then-most-row c =
    let next = chunk (goal.at.returns-then-most-row c).In-Some in
    let row = chunk-row next in
    let found = looking-found c.args.most c.args.maps c.args.table.now (chunk-few next) in
    elim c.then-most-row.branch [
      | then-most-row-via-then-most-row w ↦ sym (found (over-sum _ _ _ (rw row.0 at w.if-most-row.true)))
      | then-most-row-via-else-most-row+then-maps-row w ↦ sym (found (over-maps _ _ _ (rw row.0 at w.if-most-row.false) (rw row.1 at w.if-maps-row.true)))
    ]

pub loop-row-preserved : goal.loop-row-preserved
loop-row-preserved c =
    let next = chunk (goal.at.loop-row-preserved c).In-Some in
    let row = chunk-row next in
    let clear = looking-next _ _ _ c.loop-row.invariant.clear (chunk-few next) (rw row.0 at c.if-most-row.false) (rw row.1 at c.if-maps-row.false) in
    rw length-append (record { clear = clear; four = c.in-Some.ensures.steps.0 ∙ c.loop-row.invariant.four; rest = chunk-rest next })

pub returns : goal.returns
returns c =
    let turn = c.in-None.ensures.steps.1.0 in
    let none = rw (c.loop-row.invariant.rest, c.loop-row.invariant.four) at turn in
    sym (looking-last _ _ _ c.loop-row.invariant.clear (left-none _ _ c.requires none))
