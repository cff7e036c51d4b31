-- `pieces::block_ahead` meets its contract.
use mathlib.Core.Path.{ap₂, ◌∙◌}
use Prim.Native.Nat.{ℕ, ◌+◌}
use native.Mathlib.Omega.{arith}
use Rattle.key.proofs.Laws.{block-lies, pow-most}
use Rattle.key.proofs.Loops.{larger}
use Rattle.pieces.proofs.block_ahead.Goals as goal

pub place-start-requires : goal.place-start-requires
place-start-requires c = larger c.requires.0 c.requires.5

pub overflow_add-end : goal.overflow_add-end
overflow_add-end c = omega (arith, c.place-start.ensures, c.pow4.ensures.is, (block-lies c.requires.6).span, pow-most 3 _ c.requires.0)

-- where the block ends
pub returns : goal.returns
returns c =
    let ends = ap₂ (λ (a b : ℕ). a + b) c.place-start.ensures c.pow4.ensures.is in
    (c.stand_at-stand.ensures.0 ∙ c.place-start.ensures, ends, omega (arith, ends, (block-lies c.requires.6).span), c.stand_at-stand.ensures.1)
