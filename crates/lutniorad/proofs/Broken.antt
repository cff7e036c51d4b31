-- A broken map, as a call: what salvage promises holds of these very cells.
-- Assumes nothing.
use mathlib.Core.Path.{refl, sym}
use mathlib.Core.List.{List, Memᴰ}
use Prim.Native.Nat.{ℕ, ◌≤◌}
use native.Mathlib.Omega.{arith}
use lib.ListN.{length}
use Rattle.answers.specs.declared.Cause.TheVariants.{Overlap}
use Rattle.answers.proofs.P1.{old}
use Rattle.stretch.specs.Promises.{MakesUp}
use Rattle.salvage.specs.Salvage.{dropped, mends}
use Rattle.salvage.specs.Promises.{unkept, Reached}
use Rattle.salvage.proofs.Examples.{keys, classes, mended, painted, logged, examples}
use Rattle.lutniorad.specs.Numbers.{values}
use Rattle.lutniorad.specs.Calls.{Salvage}
use Rattle.lutniorad.specs.SalvagePromises.{SalvagePromise}
use Rattle.lutniorad.proofs.Crossing.{crossing-known}
use Rattle.lutniorad.proofs.Salvaging.{salvage-promise}

broken-call : Salvage 2 keys classes (old 8) (old 8) (old 11) (values 7 5) mended painted logged
broken-call = crossing-known refl (sym examples.done)

broken-promise : SalvagePromise 2 keys classes (old 8) (old 8) (old 11) (mends 2 keys) (values 7 5) mended painted logged
broken-promise = salvage-promise 2 keys classes (old 8) (old 8) (old 11) broken-call refl

-- record 3 is dropped, for one before it that is kept ends behind its start
broken-3 : Reached 2 keys (mends 2 keys) 3 4
broken-3 =
    let there : Memᴰ (dropped 3 Overlap) (mends 2 keys) = rw examples.order (Memᴰ.tail (Memᴰ.tail (Memᴰ.tail (Memᴰ.head refl)))) in
    (broken-promise.early 3 0 4 (omega arith) (record { is = examples.eleven })).0 there

-- no two blocks make up the holes
broken-holes : (blocks : List ℕ) → MakesUp 2 (unkept 2 keys (mends 2 keys)) blocks → 3 ≤ length blocks
broken-holes blocks M = rw examples.holes at (broken-promise.fewest blocks M)
