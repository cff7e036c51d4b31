-- `input::announced` meets its contract.
use mathlib.Core.Path.{sym}
use native.Mathlib.Omega.{arith}
use Rattle.input.proofs.Sizes.{announced-short, announced-long, announced-fits}
use Rattle.input.proofs.announced.Goals as goal
use Rattle.input.proofs.announced.Goals.{then-size-lt4-via-then-size-lt4, then-size-lt4-via-else-size-lt4+then-file-size}

pub returns-then-size-lt4 : goal.returns-then-size-lt4
returns-then-size-lt4 c =
    let g = c.get-size.ensures in
    elim c.then-size-lt4.branch [
      | then-size-lt4-via-then-size-lt4 w ↦ sym (announced-short _ (omega (arith, g, w.if-size-lt4.true)))
      | then-size-lt4-via-else-size-lt4+then-file-size w ↦ sym (announced-long _ (omega (arith, g, w.if-size-lt4.false)) (omega (arith, g, w.if-file-size.true)))
    ]

pub returns : goal.returns
returns c =
    let g = c.get-size.ensures in
    rw g (sym (announced-fits _ (omega (arith, g, c.if-size-lt4.false)) (omega (arith, g, c.if-file-size.false))))
