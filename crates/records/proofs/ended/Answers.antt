-- `records::ended` meets its contract.
use mathlib.Core.Path.{◌≡◌, sym}
use mathlib.Core.Bool.{false}
use Prim.Native.Nat.{◌^◌}
use native.Mathlib.Omega.{arith}
use Rattle.answers.proofs.Laws.{refusing}
use Rattle.map.specs.Check.{late}
use Rattle.map.proofs.Loops.{step-short, step-full, late_is, late-not, late-never}
use Rattle.records.proofs.ended.Goals as goal
use Rattle.records.proofs.ended.Goals.{else-whole-via-then-whole+else-at-pow4, else-whole-via-else-whole}

pub returns-then-at-pow4 : goal.returns-then-at-pow4
returns-then-at-pow4 c = refusing c.at.ensures (step-short _ _ _ _ (rw c.if-whole.true ((late_is _ _).1 (omega (arith, c.if-at-pow4.true, c.pow4.ensures.is)))))

pub returns : goal.returns
returns c =
    let full : late c.args.whole c.args.at (4 ^ c.args.m) ≡ false = elim c.else-whole.branch [
      | else-whole-via-then-whole+else-at-pow4 w ↦ late-not _ (omega (arith, w.if-at-pow4.false, w.pow4.ensures.is))
      | else-whole-via-else-whole w ↦ rw w.if-whole.false (late-never _ _)
    ] in
    sym (step-full _ _ _ _ full)
