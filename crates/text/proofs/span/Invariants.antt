-- `text::span` meets its contract. The invariant: `total` is what the numbers so far take, and no more than `most`.
use mathlib.Core.Path.{◌≡◌}
use Prim.Native.Nat.{◌+◌, ◌≤◌}
use lib.ListN.{length, drop}
use Rattle.text.specs.Text.{spaced}
use Rattle.text.proofs.span.Given as goal

abbrev pub invariant-loop-x : goal.invariant-loop-x
invariant-loop-x l = (l.total + length (spaced (drop l.x-index l.numbers)) ≡ length (spaced l.numbers)) × (l.total ≤ l.most)
