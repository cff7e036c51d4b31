-- `why::record_lies` meets its contract: a record is the square that its key names.
use mathlib.Core.Path.{sym, ◌∙◌}
use native.Mathlib.Omega.{arith}
use Rattle.key.proofs.Loops.{larger}
use Rattle.window.proofs.Laws.{inside-12}
use Rattle.why.proofs.Squares.{record-lies}
use Rattle.why.proofs.record_lies.Goals as goal

pub square_lies-requires : goal.square_lies-requires
square_lies-requires c =
    let p = c.requires in
    let s = c.square_of.ensures in
    (omega (arith, p.0, s.small), inside-12 p.0 p.2, larger p.0 s.pixel)

pub returns : goal.returns
returns c =
    let p = c.requires in
    c.square_lies.ensures ∙ sym (record-lies p.1 p.3 c.square_of.ensures _)
