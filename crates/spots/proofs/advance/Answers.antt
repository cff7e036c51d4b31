-- `spots::advance` meets its contract: where a block's keys end, those of the largest block begin that starts where its span ends.
use Rattle.std.proofs.Common.{◌≡◌, ◌+◌, ◌*◌, ◌^◌, ◌≤◌, refl, arith}
use Rattle.key.proofs.Laws.{pow-most}
use Rattle.key.proofs.Loops.{ones-pow, next-room, next-stands}
use Rattle.spots.proofs.advance.Goals as goal

pub pow4-requires : goal.pow4-requires
pow4-requires c = omega (arith, (next-room c.requires.0 c.requires.1).small)

pub overflow_add-place : goal.overflow_add-place
overflow_add-place c = omega (arith, (next-room c.requires.0 c.requires.1).span, pow-most 3 c.args.m c.requires.0)

pub pow5-requires : goal.pow5-requires
pow5-requires c = omega (arith, (next-room c.requires.0 c.requires.1).small)

pub overflow_add-end : goal.overflow_add-end
overflow_add-end c = omega (arith, c.pow5.ensures.is, (next-room c.requires.0 c.requires.1).keys, pow-most 4 c.args.m c.requires.0)

pub returns : goal.returns
returns c =
    let reached : c.args.start + c.pow4.result ≡ c.args.start + 4 ^ c.args.i = omega (arith, c.pow4.ensures.is) in
    (reached, next-stands c.requires.0 c.requires.1 reached refl (omega (arith, c.pow5.ensures.is, ones-pow c.args.i)))
