-- `rows::add_rows` meets its contract. The invariant is `Growing`.
use Rattle.rows.proofs.Rows.{Growing}
use Rattle.rows.proofs.add_rows.Given as goal

abbrev pub invariant-loop-k : goal.invariant-loop-k
invariant-loop-k l = Growing l.first l.counts l.initial.table l.table l.k
