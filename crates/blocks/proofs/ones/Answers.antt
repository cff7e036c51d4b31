-- `blocks::ones` meets its contract: E of k bits 1 is k digits 1.
use mathlib.Core.Path.{ap, ◌∙◌}
use Prim.Native.Nat.{ℕ, ◌-◌}
use native.Mathlib.Omega.{arith}
use Rattle.key.specs.Spread.{spread}
use Rattle.key.proofs.Loops.{bit, spread-is-ones}
use Rattle.blocks.proofs.ones.Goals as goal

pub spread-requires : goal.spread-requires
spread-requires c = omega (arith, bit c.args.k c.requires)

pub returns : goal.returns
returns c =
    let k = c.args.k in
    c.spread.ensures ∙ ap (λ (x : ℕ). spread 5 (x - 1)) (bit k c.requires).is ∙ spread-is-ones k
