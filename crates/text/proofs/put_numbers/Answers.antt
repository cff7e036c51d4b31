-- `text::put_numbers` meets its contract, by the invariant beside this.
use mathlib.Core.Path.{refl}
use Prim.Native.Nat.{◌+◌, ◌≤◌}
use native.Mathlib.Omega.{arith}
use lib.ListN.{length, get_or, length-set}
use Rattle.text.specs.Text.{digits_of}
use Rattle.text.proofs.Digits.{spaced-none, spaced-next, span-next}
use Rattle.text.proofs.Telling.{telling-first, telling-length, telling-room, telling-byte, telling-part, telling-last}
use Rattle.text.proofs.put_numbers.Goals as goal
use Rattle.text.proofs.put_numbers.Goals.{In-loop-x}

-- in a turn: all numbers, which one is next, and that it fits
module _ (c : In-loop-x) where
  room : c.loop-x.at + 1 + length (digits_of (get_or c.args.numbers.now c.loop-x.x-index 0)) ≤ length c.loop-x.out
  room = omega (arith, telling-room c.loop-x.invariant, span-next c.args.numbers.now c.loop-x.x-index c.loop-x-test.true)

pub loop-x-init : goal.loop-x-init
loop-x-init c = telling-first _ _ c.requires

pub bounds-out-at : goal.bounds-out-at
bounds-out-at c = omega (arith, room (goal.at.bounds-out-at c).In-loop-x)

pub slice_bounds-put_number-count : goal.slice_bounds-put_number-count
slice_bounds-put_number-count c = rw length-set (omega (arith, room (goal.at.slice_bounds-put_number-count c).In-loop-x))

pub slice_bounds-put_number-start : goal.slice_bounds-put_number-start
slice_bounds-put_number-start c = rw length-set (omega (arith, room (goal.at.slice_bounds-put_number-start c).In-loop-x))

pub loop-x-preserved : goal.loop-x-preserved
loop-x-preserved c =
    let numbers = c.args.numbers.now in
    let i = c.loop-x.x-index in
    let space = telling-byte c.loop-x.invariant 32 _ (spaced-next numbers i c.loop-x-test.true) in
    telling-part space (digits_of (get_or numbers i 0)) _ refl c.put_number-at.ensures

pub overflow_add-at-in-loop-x : goal.overflow_add-at-in-loop-x
overflow_add-at-in-loop-x c = let next = loop-x-preserved c in omega (arith, telling-length next, next.room)

pub returns : goal.returns
returns c = telling-last c.loop-x.invariant (spaced-none _ c.loop-x.x-index c.loop-x-test.false)
