-- `pick::pick_run` meets its contract. The invariant is `Picking`.
use Rattle.pick.proofs.Picking.{Picking}
use Rattle.pick.proofs.pick_run.Given as goal

abbrev pub invariant-loop-i : goal.invariant-loop-i
invariant-loop-i l = Picking l.keys l.classes l.class l.first l.n l.initial.out l.out l.i l.k
