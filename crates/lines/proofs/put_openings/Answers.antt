-- `lines::put_openings` meets its contract, by the invariant beside this.
use Rattle.std.proofs.Common.{rules, arith, ◌≡◌, ◌∙◌}
use Rattle.std.specs.Slice.Iter.{chunks_exact_rest}
use Rattle.text.specs.Text.{line_of}
use Rattle.text.proofs.Laws.{telling-first, telling-length, telling-part, telling-last}
use Rattle.lines.proofs.Turns.{opening-next, opening-last}
use Rattle.lines.proofs.put_openings.Goals as goal

pub loop-opening-init : goal.loop-opening-init
loop-opening-init c =
    let all : chunks_exact_rest c.into_iter-opening-iterator.result ≡ c.args.cells.now = search rules in
    record { put = rw all (telling-first _ _ c.requires); three = search rules }

pub loop-opening-preserved : goal.loop-opening-preserved
loop-opening-preserved c =
    let turn = c.in-Some.ensures.steps in
    let so-far = c.loop-opening.invariant in
    let next = opening-next c.in-Some.opening.now _ turn.1.0 (turn.1.1 ∙ so-far.three) in
    record { put = telling-part so-far.put (line_of 79 c.in-Some.opening.now) _ next c.put_line-at.ensures; three = turn.0 ∙ so-far.three }

pub overflow_add-at : goal.overflow_add-at
overflow_add-at c = let put = (loop-opening-preserved c).put in omega (arith, telling-length put, put.room)

pub returns : goal.returns
returns c =
    let few = rw c.loop-opening.invariant.three at c.in-None.ensures.steps.1.0 in
    telling-last c.loop-opening.invariant.put (opening-last _ few)
