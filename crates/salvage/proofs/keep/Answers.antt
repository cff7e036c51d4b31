-- `salvage::keep` meets its contract, by the invariant beside this.
use native.Mathlib.Omega.{arith}
use borrow.Author.Tests.{leb-true}
use Rattle.lists.proofs.Laws.{both}
use Rattle.salvage.proofs.Along.{run-first, run-next, run-last, run-beyond}
use Rattle.salvage.proofs.keep.Goals as goal

pub returns-then-mended-records : goal.returns-then-mended-records
returns-then-mended-records c = let t = (both _ _).0 c.if-mended-records.true in run-beyond _ _ _ _ _ _ _ (leb-true _ _ t.0) (leb-true _ _ t.1)

pub loop-i-init : goal.loop-i-init
loop-i-init c = (omega arith, run-first _ _ _ _ _ _)

pub loop-i-preserved : goal.loop-i-preserved
loop-i-preserved c =
    let v = c.loop-i.invariant in
    let e = c.put_record.ensures in
    (omega (arith, v.0), run-next _ _ _ _ _ _ (omega arith) v.1 (rw v.0 at e.key_put, rw v.0 at e.class_put))

pub returns : goal.returns
returns c = run-last _ _ _ _ _ _ (omega arith) c.loop-i.invariant.1
