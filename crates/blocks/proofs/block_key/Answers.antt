-- `blocks::block_key` meets its contract: i digits 1 are between the key of a block and that of its corner.
use mathlib.Core.Path.{◌≡◌, sym, ap₂, ◌∙◌}
use Prim.Native.Nat.{ℕ, ◌+◌, ◌*◌, ◌/◌, ◌%◌, ◌^◌, ◌<◌}
use native.Mathlib.Nat.{mod-eq_of_lt, div-mul-le_self}
use native.Mathlib.Omega.{arith}
use Rattle.key.specs.Key.{pixel_key, block_key, ones}
use Rattle.key.proofs.Loops.{corner-key}
use Rattle.blocks.proofs.block_key.Goals as goal
use Rattle.blocks.proofs.block_key.Goals.{After-pixel_key, Start}

-- in 16 bits nothing of a row or a column is lost
kept : (i x : ℕ) → x < 65536 → x / 2 ^ i * 2 ^ i % 65536 ≡ x / 2 ^ i * 2 ^ i
kept i x h = mod-eq_of_lt (omega (arith, div-mul-le_self x (2 ^ i)))

module _ (c : Start) where
  row : c.args.row / 2 ^ c.args.i * 2 ^ c.args.i % 65536 ≡ c.args.row / 2 ^ c.args.i * 2 ^ c.args.i
  row = kept c.args.i c.args.row (omega arith)

  col : c.args.col / 2 ^ c.args.i * 2 ^ c.args.i % 65536 ≡ c.args.col / 2 ^ c.args.i * 2 ^ c.args.i
  col = kept c.args.i c.args.col (omega arith)

-- the corner's key
corner : (c : After-pixel_key) → block_key c.args.m c.args.i c.args.row c.args.col + ones c.args.i ≡ c.pixel_key.result
corner c =
    let s = c.before in
    corner-key s.args.i s.requires.1 s.requires.2 ∙ ap₂ (pixel_key s.args.m) (sym (row s)) (sym (col s)) ∙ sym c.pixel_key.ensures

pub overflow_sub-result : goal.overflow_sub-result
overflow_sub-result c = omega (arith, corner c.before, c.ones.ensures)

pub returns : goal.returns
returns c = omega (arith, corner c.before, c.ones.ensures)
