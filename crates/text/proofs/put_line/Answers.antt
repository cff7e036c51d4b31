-- `text::put_line` meets its contract: a line that fits is put piece by piece.
use mathlib.Core.Path.{refl, sym}
use mathlib.Core.List.{List, [], ◌∷◌, ◌++◌}
use Prim.Native.Nat.{ℕ, ◌+◌, ◌≤◌}
use native.Mathlib.Omega.{arith}
use lib.ListN.{length, set}
use Rattle.answers.proofs.Laws.{back}
use Rattle.text.specs.Text.{spaced, line_of}
use Rattle.text.proofs.Digits.{put-none, line-length}
use Rattle.text.proofs.Telling.{Telling, telling-first, telling-length, telling-room, telling-part, telling-byte, telling-last}
use Rattle.text.proofs.put_line.Goals as goal
use Rattle.text.proofs.put_line.Goals.{Else-span-most, After-put_numbers-at}

-- where the line fits
module _ (c : Else-span-most) where
  abbrev line : List ℕ
  line = line_of c.args.letter c.args.numbers.now

  room : length line ≤ length c.args.out.now
  room = omega (arith, line-length c.args.letter c.args.numbers.now, c.span.ensures, c.if-span-most.false, c.if-out-lt2.false)

  lettered : Telling line (spaced c.args.numbers.now ++ (10 ∷ [])) 1 c.args.out.now (set c.args.out.now 0 c.args.letter)
  unfolding line_of
  lettered = telling-byte (telling-first _ c.args.out.now room) c.args.letter _ refl

-- and the numbers are put
module _ (c : After-put_numbers-at) where
  abbrev fits : Else-span-most
  fits = (goal.at.After-put_numbers-at c).Else-span-most

  numbered : Telling (line fits) (10 ∷ []) (1 + c.put_numbers-at.result) c.args.out.now (back 1 (set c.args.out.now 0 c.args.letter) c.put_numbers-at.new.out)
  numbered = telling-part (lettered fits) (spaced c.args.numbers.now) (10 ∷ []) refl c.put_numbers-at.ensures

pub returns-then-out-lt2 : goal.returns-then-out-lt2
returns-then-out-lt2 c = sym (put-none _ _ (omega (arith, line-length c.args.letter c.args.numbers.now, c.if-out-lt2.true)))

pub returns-then-span-most : goal.returns-then-span-most
returns-then-span-most c =
    sym (put-none _ _ (omega (arith, line-length c.args.letter c.args.numbers.now, c.span.ensures, c.if-span-most.true, c.if-out-lt2.false)))

pub overflow_add-at : goal.overflow_add-at
overflow_add-at c = let n = numbered (goal.at.overflow_add-at c).After-put_numbers-at in omega (arith, telling-length n, n.room)

pub bounds-out-at : goal.bounds-out-at
bounds-out-at c = omega (arith, telling-room (numbered (goal.at.bounds-out-at c).After-put_numbers-at))

pub overflow_add-result : goal.overflow_add-result
overflow_add-result c = let n = numbered (goal.at.overflow_add-result c).After-put_numbers-at in omega (arith, telling-length n, n.room)

pub returns : goal.returns
returns c = telling-last (telling-byte (numbered (goal.at.returns c).After-put_numbers-at) 10 [] refl) refl
