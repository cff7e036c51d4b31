-- `sparse_select::put_all` meets its contract. The invariant is `Walking`.
use Rattle.sparse_select.specs.Select.{sparse_selected}
use Rattle.sparse_select.proofs.Walking.{Walking}
use Rattle.sparse_select.proofs.put_all.Given as goal

abbrev pub invariant-loop-block : goal.invariant-loop-block
invariant-loop-block l = Walking l.m l.top l.fn.window (sparse_selected l.m l.class l.keys l.classes l.class) l.initial.out l.out l.block-iterator l.n
