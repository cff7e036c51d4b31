-- `salvage::keep` meets its contract. The invariant is `KeepsRun`, up to the record that is next.
use mathlib.Core.Path.{◌≡◌}
use Prim.Native.Nat.{◌+◌, ◌-◌}
use Rattle.salvage.specs.Making.{KeepsRun}
use Rattle.salvage.proofs.keep.Given as goal

abbrev pub invariant-loop-i : goal.invariant-loop-i
invariant-loop-i l = (l.count ≡ l.records + (l.i - l.n)) × KeepsRun l.keys l.classes l.n l.i l.records l.initial.mended l.initial.painted l.mended l.painted
