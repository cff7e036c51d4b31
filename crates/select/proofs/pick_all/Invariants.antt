-- `select::pick_all` meets its contract. The invariant is `Selecting`.
use Rattle.select.proofs.Selects.{Selecting}
use Rattle.select.proofs.pick_all.Given as goal

abbrev pub invariant-loop-block : goal.invariant-loop-block
invariant-loop-block l = Selecting l.m l.top l.keys l.classes l.fn.window l.class l.initial.out l.out l.block-iterator l.n l.seen
