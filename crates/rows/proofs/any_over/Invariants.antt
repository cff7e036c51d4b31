-- `rows::any_over` meets its contract. The invariant: no row so far is over, and those of the other classes are left.
use mathlib.Core.Path.{◌≡◌}
use lib.ListN.{length}
use Rattle.std.specs.Slice.Iter.{chunks_exact_rest, chunks_exact_size}
use Rattle.rows.proofs.Over.{Looking, left}
use Rattle.rows.proofs.any_over.Given as goal

abbrev pub invariant-loop-row : goal.invariant-loop-row
invariant-loop-row l = record {
  clear : Looking l.most l.maps l.table (length l.yielded);
  four : chunks_exact_size l.row-iterator ≡ 4;
  rest : chunks_exact_rest l.row-iterator ≡ left l.table (length l.yielded);
}
