-- `exist::seek` meets its contract, by the invariant beside this.
use mathlib.Core.Path.{sym, ◌∙◌}
use native.Mathlib.Omega.{arith}
use Rattle.border.proofs.Laws.{fresh-usable, fresh-spent, finding-first, finding-spent, finding-last, finds-opens}
use Rattle.exist.proofs.Seeking.{seeking-first, seeking-next, seeking-found, seeking-last}
use Rattle.exist.proofs.Tables.{existing-yes, existing-none}
use Rattle.exist.proofs.seek.Goals as goal

pub loop-opening-init : goal.loop-opening-init
loop-opening-init c = rw c.start-at.ensures (seeking-first _ _ (finding-first _ c.requires.0 c.fill.ensures))

pub look-looked-requires : goal.look-looked-requires
look-looked-requires c = (omega (arith, (finds-opens c.requires.0 c.loop-opening.invariant.finding c.in-Some.ensures).room, c.requires.1), omega (arith, c.requires.0.few, c.requires.1))

pub returns-then-looked : goal.returns-then-looked
returns-then-looked c =
    let O = finds-opens c.requires.0 c.loop-opening.invariant.finding c.in-Some.ensures in
    existing-yes _ _ _ _
    (seeking-found _ _ c.requires.0 c.requires.2 c.loop-opening.invariant O (sym c.look-looked.ensures.0 ∙ c.if-looked.true))
    ((finding-spent O.next (fresh-usable _ c.requires.0 c.fill.ensures) c.fill-then-looked.ensures).0 ∙ fresh-spent _ c.requires.0 c.fill.ensures)

pub loop-opening-preserved : goal.loop-opening-preserved
loop-opening-preserved c =
    let O = finds-opens c.requires.0 c.loop-opening.invariant.finding c.in-Some.ensures in
    seeking-next _ _ c.requires.0 c.requires.2 c.loop-opening.invariant O (sym c.look-looked.ensures.0 ∙ c.if-looked.false) c.look-looked.ensures.1

pub returns-then-unseen : goal.returns-then-unseen
returns-then-unseen c =
    let S = c.loop-opening.invariant in
    let known = seeking-last _ _ c.requires.0 c.requires.2 S c.in_default.ensures in
    existing-none _ _ _ _ known.0 (known.1 ∙ c.if-unseen.true) ((finding-last S.finding c.in_default.ensures).1 ∙ fresh-spent _ c.requires.0 c.fill.ensures)

pub returns-else-unseen : goal.returns-else-unseen
returns-else-unseen c =
    let S = c.loop-opening.invariant in
    let known = seeking-last _ _ c.requires.0 c.requires.2 S c.in_default.ensures in
    existing-none _ _ _ _ known.0 (known.1 ∙ c.if-unseen.false) ((finding-last S.finding c.in_default.ensures).1 ∙ fresh-spent _ c.requires.0 c.fill.ensures)
