-- `pieces::advance_whole` meets its contract: behind a record that ends by the place another one comes, or the picture ends.
use mathlib.Core.Path.{◌≡◌, refl, ap}
use mathlib.Core.List.{List}
use Prim.Native.Nat.{ℕ, ◌+◌, ◌^◌, ◌≤◌, ◌<◌}
use native.Mathlib.Omega.{arith}
use lib.ListN.{length}
use Rattle.key.proofs.Laws.{pow-most}
use Rattle.map.proofs.Laws.{spaced}
use Rattle.map.specs.Sound.{Follow}
use Rattle.pieces.specs.declared.Cursor.{Cursor}
use Rattle.pieces.specs.Cursors.{Spans}
use Rattle.pieces.proofs.Cursors.{advance-room}
use Rattle.pieces.proofs.Whole.{whole-left, whole-held, whole_room}
use Rattle.pieces.proofs.advance_whole.Goals as goal

-- another record comes behind the one that ends by the place
more : {m a : ℕ} {keys : List ℕ} {cursor : Cursor} → Follow m 0 keys → Spans m keys cursor → a ≤ 4 ^ m → cursor.end ≤ a
    → (cursor.next + 1 ≡ length keys → ⊥) → cursor.next + 1 < length keys
more F C h e d = omega (arith, advance-room (spaced F) C h e)

pub overflow_add-result : goal.overflow_add-result
overflow_add-result c = omega (arith, c.if-a-cursor.false, c.requires.3, pow-most 3 _ c.requires.0)

pub returns-then-next-keys : goal.returns-then-next-keys
returns-then-next-keys c = let p = c.requires in whole-left p.2 p.5 p.3 (omega (arith, c.if-a-cursor.false)) p.6 refl refl c.if-next-keys.true refl

pub overflow_add-end : goal.overflow_add-end
overflow_add-end c =
    let p = c.requires in
    let another = more p.2 p.5 p.3 (omega (arith, c.if-a-cursor.false)) c.if-next-keys.false in
    omega (arith, whole_room p.2 p.5 another c.zeros_of.ensures (omega (arith, p.3, c.if-a-cursor.false)), c.pow4.ensures.is, pow-most 3 _ p.0)

pub returns : goal.returns
returns c =
    let p = c.requires in
    let another = more p.2 p.5 p.3 (omega (arith, c.if-a-cursor.false)) c.if-next-keys.false in
    whole-held p.2 p.5 p.3 (omega (arith, c.if-a-cursor.false)) p.6 refl refl another c.zeros_of.ensures (ap (λ (x : ℕ). c.args.cursor.end + x) c.pow4.ensures.is)
