-- `lines::put_found` meets its contract: the lines are put one part behind the other.
use mathlib.Core.Path.{refl, sym}
use mathlib.Core.List.{List, [], ◌∷◌, ◌++◌, append-nil}
use Prim.Native.Nat.{ℕ, ◌+◌}
use native.Mathlib.Omega.{arith}
use lib.ListN.{length-append}
use Rattle.answers.proofs.Laws.{back}
use Rattle.text.specs.Text.{line_of}
use Rattle.text.proofs.Laws.{Telling, telling-begin, telling-length, telling-room, telling-lent, telling-part, telling-last}
use Rattle.lines.specs.Lines.{opening_lines, class_lines, found_lines}
use Rattle.lines.proofs.put_found.Goals as goal
use Rattle.lines.proofs.put_found.Goals.{Start, After-put_openings-at, After-put_classes-at, After-put_line-at}

module _ (c : Start) where
  abbrev classes : List ℕ
  classes = class_lines 0 c.args.totals.now

  abbrev sums : List ℕ
  sums = line_of 84 (c.args.openings ∷ c.args.records ∷ c.args.pixels ∷ [])

  abbrev all : List ℕ
  all = found_lines c.args.cells.now c.args.totals.now c.args.openings c.args.records c.args.pixels

-- with the openings put
module _ (c : After-put_openings-at) where
  abbrev start : Start
  start = (goal.at.After-put_openings-at c).Start

  opened : Telling (all start) (classes start ++ sums start) c.put_openings-at.result c.args.out.now c.put_openings-at.new.out
  unfolding found_lines
  opened = telling-begin (all start) (opening_lines c.args.cells.now) (classes start ++ sums start) c.args.out.now refl c.requires.1 c.put_openings-at.ensures

-- and with the classes behind them
module _ (c : After-put_classes-at) where
  abbrev first : After-put_openings-at
  first = (goal.at.After-put_classes-at c).After-put_openings-at

  listed : Telling (all (start first)) (sums (start first)) (c.put_openings-at.result + c.put_classes-at.result) c.args.out.now
      (back c.put_openings-at.result c.put_openings-at.new.out c.put_classes-at.new.out)
  listed = telling-part (opened first) (classes (start first)) (sums (start first)) refl c.put_classes-at.ensures

pub put_openings-at-requires : goal.put_openings-at-requires
unfolding found_lines
put_openings-at-requires c =
    let start = (goal.at.put_openings-at-requires c).Start in
    omega (arith, c.requires.1, length-append (opening_lines c.args.cells.now) (classes start ++ sums start))

pub slice_bounds-put_classes-count : goal.slice_bounds-put_classes-count
slice_bounds-put_classes-count c = omega (arith, telling-room (opened (goal.at.slice_bounds-put_classes-count c).After-put_openings-at))

pub slice_bounds-put_classes-start : goal.slice_bounds-put_classes-start
slice_bounds-put_classes-start c = omega (arith, telling-room (opened (goal.at.slice_bounds-put_classes-start c).After-put_openings-at))

pub put_classes-at-requires : goal.put_classes-at-requires
put_classes-at-requires c =
    let o = (goal.at.put_classes-at-requires c).After-put_openings-at in
    (c.requires.0, telling-lent (opened o) (classes (start o)) (sums (start o)) refl)

pub overflow_add-at : goal.overflow_add-at
overflow_add-at c = let two = listed (goal.at.overflow_add-at c).After-put_classes-at in omega (arith, telling-length two, two.room)

pub slice_bounds-put_line-count : goal.slice_bounds-put_line-count
slice_bounds-put_line-count c = omega (arith, telling-room (listed (goal.at.slice_bounds-put_line-count c).After-put_classes-at))

pub slice_bounds-put_line-start : goal.slice_bounds-put_line-start
slice_bounds-put_line-start c = omega (arith, telling-room (listed (goal.at.slice_bounds-put_line-start c).After-put_classes-at))

-- and with the sums behind these
module _ (c : After-put_line-at) where
  abbrev second : After-put_classes-at
  second = (goal.at.After-put_line-at c).After-put_classes-at

  abbrev asked : Start
  asked = start (first second)

  summed : Telling (all asked) [] (c.put_openings-at.result + c.put_classes-at.result + c.put_line-at.result) c.args.out.now
      (back (c.put_openings-at.result + c.put_classes-at.result) (back c.put_openings-at.result c.put_openings-at.new.out c.put_classes-at.new.out) c.put_line-at.new.out)
  summed = telling-part (listed second) (sums asked) [] (sym (append-nil (sums asked))) c.put_line-at.ensures

pub overflow_add-at-2 : goal.overflow_add-at-2
overflow_add-at-2 c = let three = summed (goal.at.overflow_add-at-2 c).After-put_line-at in omega (arith, telling-length three, three.room)

pub returns : goal.returns
returns c = telling-last (summed (goal.at.returns c).After-put_line-at) refl
