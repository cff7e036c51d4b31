-- `digits::read_digits` meets its contract, by the invariant beside this.
use Rattle.std.proofs.Common.{refl, sym, ◌∙◌, ◌+◌, ◌*◌, ◌/◌, ◌^◌, ◌<◌, arith}
use Rattle.key.proofs.Loops.{Reading, reading-first, reading-few, reading_small, reading-gap, reading-next, reading-room, reading-last, digit-told}
use Rattle.digits.proofs.read_digits.Goals as goal
use Rattle.digits.proofs.read_digits.Goals.{After-pow4, After-pow4-2, After-pow4-then-rest-lt5}

pub loop-rest-init : goal.loop-rest-init
loop-rest-init c = reading-first c.requires.0

pub returns-in_default : goal.returns-in_default
returns-in_default c = sym (reading-gap c.loop-rest.invariant c.args.m refl (omega arith) c.in_default.ensures)

pub pow4-requires : goal.pow4-requires
pow4-requires c = omega (arith, reading-few c.loop-rest.invariant 0 (omega arith) c.requires.1)

-- after the turn
next : (c : After-pow4) → let low = c.args.low in let l = c.loop-rest in
    Reading (low.rest * 5 ^ low.zeros) low.zeros (l.k + 2) (l.rest / 25) (c.in-Some.place * c.pow4.result + l.start)
next c = reading-next c.loop-rest.invariant c.pow4.ensures.is c.in-Some.ensures c.loop-rest-test.true

pub overflow_mul-start : goal.overflow_mul-start
overflow_mul-start c = omega (arith, reading_small (next c) c.requires.1)

pub overflow_add-start : goal.overflow_add-start
overflow_add-start c = omega (arith, reading_small (next c) c.requires.1)

pub overflow_add-k : goal.overflow_add-k
overflow_add-k c = omega (arith, reading-few (next (goal.at.overflow_add-k c).After-pow4) 0 (omega arith) c.requires.1)

pub loop-rest-preserved : goal.loop-rest-preserved
loop-rest-preserved c = next (goal.at.loop-rest-preserved c).After-pow4

-- one digit is left
pub overflow_add-k-then-rest-lt5 : goal.overflow_add-k-then-rest-lt5
overflow_add-k-then-rest-lt5 c = omega (arith, reading-few c.loop-rest.invariant 0 c.loop-rest.invariant.some c.requires.1)

pub pow4-requires-then-rest-lt5 : goal.pow4-requires-then-rest-lt5
pow4-requires-then-rest-lt5 c = omega (arith, reading-few c.loop-rest.invariant 0 c.loop-rest.invariant.some c.requires.1)

pub overflow_add-rest : goal.overflow_add-rest
overflow_add-rest c =
    let l = c.loop-rest.invariant in
    omega (arith, reading-room l 0 c.pow4-then-rest-lt5.ensures.is l.some c.if-rest-lt5.true (digit-told l.some c.if-rest-lt5.true) c.requires.1)

pub returns-then-rest-lt5 : goal.returns-then-rest-lt5
returns-then-rest-lt5 c =
    let l = c.loop-rest.invariant in
    c.form_of_digits.ensures ∙ reading-last l 0 c.pow4-then-rest-lt5.ensures.is l.some c.if-rest-lt5.true (digit-told l.some c.if-rest-lt5.true) c.args.m

-- two digits are
pub returns-in_err-place : goal.returns-in_err-place
returns-in_err-place c =
    c.from_residual.ensures ∙ sym (reading-gap c.loop-rest.invariant c.args.m (omega arith) (omega arith) c.in_err-place.ensures)

pub overflow_add-k-2 : goal.overflow_add-k-2
overflow_add-k-2 c = omega (arith, reading-few c.loop-rest.invariant 1 (omega arith) c.requires.1)

pub pow4-requires-2 : goal.pow4-requires-2
pow4-requires-2 c = omega (arith, reading-few c.loop-rest.invariant 1 (omega arith) c.requires.1)

room : (c : After-pow4-2) → c.in_ok-place.place * c.pow4-2.result + c.loop-rest.start < 4 ^ 12
room c = reading-room c.loop-rest.invariant 1 c.pow4-2.ensures.is (omega arith) (omega arith) c.in_ok-place.ensures c.requires.1

pub overflow_mul-place : goal.overflow_mul-place
overflow_mul-place c = omega (arith, room c)

pub overflow_add-place : goal.overflow_add-place
overflow_add-place c = omega (arith, room c)

pub returns : goal.returns
returns c =
    c.form_of_digits-2.ensures ∙ reading-last c.loop-rest.invariant 1 c.pow4-2.ensures.is (omega arith) (omega arith) c.in_ok-place.ensures c.args.m
