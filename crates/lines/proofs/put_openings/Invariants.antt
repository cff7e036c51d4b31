-- `lines::put_openings` meets its contract. The invariant: the lines of the openings so far are put, and the other cells are left.
use mathlib.Core.Path.{◌≡◌}
use Rattle.std.specs.Slice.Iter.{chunks_exact_rest, chunks_exact_size}
use Rattle.text.proofs.Laws.{Telling}
use Rattle.lines.specs.Lines.{opening_lines}
use Rattle.lines.proofs.put_openings.Given as goal

abbrev pub invariant-loop-opening : goal.invariant-loop-opening
invariant-loop-opening l = record {
  put : Telling (opening_lines l.cells) (opening_lines (chunks_exact_rest l.opening-iterator)) l.at l.initial.out l.out;
  three : chunks_exact_size l.opening-iterator ≡ 3;
}
