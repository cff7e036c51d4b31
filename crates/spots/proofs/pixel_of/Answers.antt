-- `spots::pixel_of` meets its contract, by the invariant beside this.
use Rattle.std.proofs.Common.{◌≡◌, ℕ, ◌+◌, ◌-◌, ◌^◌, ap, ◌∙◌, arith}
use Rattle.key.proofs.Loops.{digits-first, digits-next, digits-most, digits_last}
use Rattle.spots.proofs.pixel_of.Goals as goal

pub loop-k-init : goal.loop-k-init
loop-k-init c = let z : c.args.m - c.args.m ≡ 0 = omega arith in rw z (digits-first _ c.requires.1)

pub overflow_mul-key : goal.overflow_mul-key
overflow_mul-key c = omega (arith, digits-most c.loop-k.invariant c.requires.0)

pub overflow_add-key : goal.overflow_add-key
overflow_add-key c = omega (arith, digits-most c.loop-k.invariant c.requires.0)

pub overflow_add-key-in-loop-k : goal.overflow_add-key-in-loop-k
overflow_add-key-in-loop-k c = omega (arith, digits-most c.loop-k.invariant c.requires.0)

pub loop-k-preserved : goal.loop-k-preserved
loop-k-preserved c =
    let k = c.loop-k.k in
    let read : c.args.m - (k - 1) ≡ c.args.m - k + 1 = omega arith in
    let left : k - 1 ≡ c.args.m - (c.args.m - k + 1) = omega arith in
    rw read (digits-next c.loop-k.invariant (omega arith) (c.pow4.ensures.is ∙ ap (λ (n : ℕ). 4 ^ n) left))

pub returns : goal.returns
returns c = digits_last c.loop-k.invariant (omega arith)
