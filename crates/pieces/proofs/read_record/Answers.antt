-- `pieces::read_record` meets its contract: the key of a record is that of a block.
use mathlib.Core.Path.{refl, ap}
use Prim.Native.Nat.{ℕ, ◌+◌}
use native.Mathlib.Omega.{arith}
use Rattle.key.proofs.Laws.{block-lies, pow-most}
use Rattle.map.proofs.Laws.{record-at}
use Rattle.pieces.specs.Cursors.{held}
use Rattle.pieces.proofs.read_record.Goals as goal

pub span_of-block-requires : goal.span_of-block-requires
span_of-block-requires c =
    let p = c.requires in
    let r = record-at p.1 c.args.n (omega (arith, p.2, c.if-n-keys.false)) in
    (p.0, record { exponent = r.exponent; start = r.start; names = r.is.names })

pub pow4-requires : goal.pow4-requires
pow4-requires c = omega (arith, (block-lies c.span_of-block.ensures).small, c.requires.0)

pub overflow_add-end : goal.overflow_add-end
overflow_add-end c = omega (arith, (block-lies c.span_of-block.ensures).span, pow-most 3 _ c.requires.0, c.pow4.ensures.is)

pub returns : goal.returns
returns c =
    (refl, held (omega (arith, c.requires.2, c.if-n-keys.false)) c.span_of-block.ensures (ap (λ (x : ℕ). c.span_of-block.result.start + x) c.pow4.ensures.is))
