-- `sparse_select::put_run` meets its contract. The invariant is `Merging`.
use Rattle.sparse_select.proofs.Merging.{Merging}
use Rattle.sparse_select.proofs.put_run.Given as goal

abbrev pub invariant-loop-i : goal.invariant-loop-i
invariant-loop-i l = Merging l.m l.keys l.classes l.class l.key l.end l.i-end l.n l.initial.out l.out l.spot l.i l.k
