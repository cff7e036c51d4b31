-- P1's map in two windows at a time: side by side, one above the other, overlapping, one inside the other; and in two whose union is no rectangle, for which the reports do not add up.
-- Assumes nothing.
use mathlib.Core.Path.{◌≡◌, refl, sym}
use mathlib.Core.List.{List}
use Prim.Native.Nat.{ℕ, ◌+◌, ◌<◌}
use native.Mathlib.Omega.{arith}
use lib.ListN.{get_or}
use Rattle.std.specs.Prelude.{Ok}
use Rattle.answers.specs.After.{after}
use Rattle.answers.proofs.P1.{keys, classes, old}
use Rattle.window.specs.declared.Window.{Window}
use Rattle.window.specs.SharingPromises.{Union, hull, meet}
use Rattle.window.proofs.P1.{W, column, columns, row, lower, first_two, middle, pixel, north-west, south-east}
use Rattle.window.proofs.Examples.{pairs}
use Rattle.report.specs.Report.{report_of}
use Rattle.report.proofs.Examples.{counts, examples}
use Rattle.lutniorad.specs.Numbers.{values}
use Rattle.lutniorad.specs.SharingPromises.{ReportLeaves, AddUp}
use Rattle.lutniorad.proofs.Crossing.{crossing-known}
use Rattle.lutniorad.proofs.Sharing.{reports-shared, reports-touching}

-- a call that was answered
told : {X : Window} {n : ℕ} {border cells : List ℕ} → report_of 2 keys classes X (old 3) (old 256) ≡ after (Ok n) (border, cells) → ReportLeaves 2 keys classes X cells
told {n = n} {border = border} e = record { border = old 3; border' = border; old = old 256; r = values n 0; call = crossing-known refl (sym e); answered = refl }

record Reports : Type 0 where
  whole : ReportLeaves 2 keys classes W (counts 4 4 1)
  in-column : ReportLeaves 2 keys classes column (counts 3 0 0)
  in-columns : ReportLeaves 2 keys classes columns (counts 1 4 1)
  in_row : ReportLeaves 2 keys classes row (counts 1 2 0)
  in-lower : ReportLeaves 2 keys classes lower (counts 3 2 1)
  in-first-two : ReportLeaves 2 keys classes first_two (counts 3 2 1)
  in-middle : ReportLeaves 2 keys classes middle (counts 0 2 1)
  in-pixel : ReportLeaves 2 keys classes pixel (counts 0 0 1)
  in-north-west : ReportLeaves 2 keys classes north-west (counts 2 1 1)
  in-south-east : ReportLeaves 2 keys classes south-east (counts 1 2 1)
  -- by edges, of the two corners
  around : ReportLeaves 2 keys classes (hull north-west south-east) (counts 4 4 1)
  shared : ReportLeaves 2 keys classes (meet north-west south-east) (counts 0 0 1)

reports : Reports
reports = record {
  whole = told examples.whole;
  in-column = told examples.in-column;
  in-columns = told examples.in-columns;
  in_row = told examples.in_row;
  in-lower = told examples.in-lower;
  in-first-two = told examples.in-first-two;
  in-middle = told examples.in-middle;
  in-pixel = told examples.in-pixel;
  in-north-west = told examples.in-north-west;
  in-south-east = told examples.in-south-east;
  around = rw pairs.corners-around (told examples.whole);
  shared = rw pairs.corners-shared (told examples.in-pixel);
}

record Planned : Type 0 where
  side_by_side : (k : ℕ) → k < 256 → get_or (counts 3 0 0) k 0 + get_or (counts 1 4 1) k 0 ≡ get_or (counts 4 4 1) k 0
  one-above-the-other : (k : ℕ) → k < 256 → get_or (counts 1 2 0) k 0 + get_or (counts 3 2 1) k 0 ≡ get_or (counts 4 4 1) k 0
  overlapping : AddUp (counts 3 2 1) (counts 1 4 1) (counts 4 4 1) (counts 0 2 1)
  one-inside-the-other : AddUp (counts 4 4 1) (counts 0 0 1) (counts 4 4 1) (counts 0 0 1)
  -- class 1 has 2 + 1 pixels in the two corners, but 4 + 0 in the window around them and in the pixel that they share
  no-rectangle : (U : Window) → Union north-west south-east U → ⊥
  no-sum : AddUp (counts 2 1 1) (counts 1 2 1) (counts 4 4 1) (counts 0 0 1) → ⊥

planned : Planned
planned = record {
  side_by_side = reports-touching reports.in-column reports.in-columns reports.whole pairs.beside pairs.beside-union;
  one-above-the-other = reports-touching reports.in_row reports.in-lower reports.whole pairs.above pairs.above-union;
  overlapping = reports-shared reports.in-first-two reports.in-columns reports.whole reports.in-middle pairs.over-union pairs.over-shared;
  one-inside-the-other = reports-shared reports.whole reports.in-pixel reports.whole reports.in-pixel pairs.inner-union pairs.inner-shared;
  no-rectangle = pairs.corners-none;
  no-sum = λ e. omega (arith, e 1 (omega arith));
}
