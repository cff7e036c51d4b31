-- `digits::strip_zeros` meets its contract: at most two zeros are left, and then two more are taken off, or one, or none.
use native.Mathlib.Omega.{arith}
use Rattle.key.specs.Reading.{Strips}
use Rattle.key.proofs.Loops.{strips-few, strips-off}
use Rattle.digits.proofs.strip_zeros.Goals as goal

pub overflow_add-result : goal.overflow_add-result
overflow_add-result c = omega (arith, strips-few 12 c.strip_most-most.ensures c.requires.1)

pub returns-then-two-rest : goal.returns-then-two-rest
returns-then-two-rest c = strips-off 2 1 c.strip_most-most.ensures c.if-two-rest.true

pub overflow_add-result-then-one-rest : goal.overflow_add-result-then-one-rest
overflow_add-result-then-one-rest c = omega (arith, strips-few 12 c.strip_most-most.ensures c.requires.1)

pub returns-then-one-rest : goal.returns-then-one-rest
returns-then-one-rest c =
    let s = c.strip_most-most in
    let two : Strips 2 _ s.result.zeros s.result.rest = record { is = s.ensures.is; fewer = λ z. c.if-two-rest.false (omega arith) } in
    strips-off 1 1 two c.if-one-rest.true
