-- `spots::begin` meets its contract: the first pixel of a block is that of the largest block there too.
use Rattle.std.proofs.Common.{ℕ, ◌+◌, ◌/◌, ◌≤◌, refl, arith}
use lib.Count.{count_trailing_zeros}
use Rattle.key.specs.Key.{ones}
use Rattle.key.proofs.Laws.{pow-most, block-lies}
use Rattle.key.proofs.Loops.{ones-pow, begin-top, begin-first, begin-stands}
use Rattle.spots.proofs.begin.Goals as goal
use Rattle.spots.proofs.begin.Goals.{Else-start-eq0}

-- where the block does not start at the first place
module _ (c : Else-start-eq0) where
  abbrev top : ℕ
  top = count_trailing_zeros 32 c.args.start / 2

  some : 1 ≤ c.args.start
  some = omega (arith, c.if-start-eq0.false)

  small : top ≤ 12
  small = omega (arith, begin-top {top = top} c.requires.0 c.requires.1 some refl, c.requires.0)

  room : ones top ≤ c.args.key + ones c.args.i
  room = omega (arith, (begin-first {top = top} c.requires.0 c.requires.1 some refl).2)

pub ones-requires : goal.ones-requires
ones-requires c = omega (arith, (block-lies c.requires.1).small)

pub overflow_add-first : goal.overflow_add-first
overflow_add-first c = omega (arith, c.ones.ensures, (block-lies c.requires.1).keys, ones-pow c.args.i, pow-most 4 c.args.m c.requires.0)

pub ones-requires-2 : goal.ones-requires-2
ones-requires-2 c = small (goal.at.ones-requires-2 c).Else-start-eq0

pub overflow_sub-largest : goal.overflow_sub-largest
overflow_sub-largest c = omega (arith, c.ones.ensures, c.ones-2.ensures, room (goal.at.overflow_sub-largest c).Else-start-eq0)

pub returns : goal.returns
returns c =
    let e = (goal.at.returns c).Else-start-eq0 in
    (refl, begin-stands {top = top e} c.requires.0 c.requires.1 (some e) refl refl refl (omega (arith, c.ones.ensures, c.ones-2.ensures, room e)))
