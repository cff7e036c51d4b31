-- `house_read::read` meets its contract: each test decides what its law in `Tables` says.
use mathlib.Core.Path.{sym, ◌∙◌}
use Rattle.std.proofs.Common.{rules}
use native.Mathlib.Omega.{arith}
use Rattle.answers.proofs.Laws.{refusing-after, handed-after}
use Rattle.house.proofs.Loops.{laid, read_short, read-refused, read-no-room, read_done}
use Rattle.house_read.proofs.read.Goals as goal

pub returns-then-file-lt20 : goal.returns-then-file-lt20
returns-then-file-lt20 c = refusing-after c.at.ensures (read_short _ _ _ _ (omega (arith, c.if-file-lt20.true)))

pub returns-in_err-layout : goal.returns-in_err-layout
returns-in_err-layout c = handed-after c.from_residual.ensures (read-refused _ _ _ _ c.get_all.ensures (omega (arith, c.if-file-lt20.false)) (sym c.layout.ensures ∙ c.in_err-layout.was))

pub returns-then-keys-q : goal.returns-then-keys-q
returns-then-keys-q c =
    refusing-after c.at-then-keys-q.ensures
    (read-no-room _ _ _ _ c.get_all.ensures (omega (arith, c.if-file-lt20.false)) (sym c.layout.ensures ∙ c.in_ok-layout.was) (λ k l. search rules))

pub get_parts-requires : goal.get_parts-requires
get_parts-requires c = (((laid _ _ _).0 (sym c.layout.ensures ∙ c.in_ok-layout.was)).full, omega (arith, c.if-keys-q.false), omega (arith, c.if-classes-q.false))

pub returns : goal.returns
returns c =
    read_done _ _ _ _ c.get_all.ensures (omega (arith, c.if-file-lt20.false)) (sym c.layout.ensures ∙ c.in_ok-layout.was) (omega (arith, c.if-keys-q.false))
    (omega (arith, c.if-classes-q.false)) c.get_parts.ensures.keys_after c.get_parts.ensures.classes_after
