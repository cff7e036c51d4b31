-- `why::bring` meets its contract, by the invariant beside this.
use mathlib.Core.Path.{◌∙◌}
use native.Mathlib.Omega.{arith}
use Rattle.border.proofs.Laws.{fresh-usable, fresh-spent, finding-first, finding-usable, finding-spent, finding-last, finds-opens}
use Rattle.why.proofs.Bringing.{bringing-first, bringing-few, bringing-next, bringing-found, bringing-last}
use Rattle.why.proofs.bring.Goals as goal

pub fill-requires : goal.fill-requires
fill-requires c = (omega arith, omega (arith, c.requires.wide))

pub loop-opening-init : goal.loop-opening-init
loop-opening-init c = rw c.start-at.ensures (bringing-first _ (finding-first _ c.requires c.fill.ensures))

pub next_opening-requires : goal.next_opening-requires
next_opening-requires c =
    let F = c.loop-opening.invariant.finding in
    (finding-usable F (fresh-usable _ c.requires c.fill.ensures), F.reached)

pub overflow_add-run : goal.overflow_add-run
overflow_add-run c = omega (arith, (finds-opens c.requires c.loop-opening.invariant.finding c.in-Some.ensures).room, c.requires.few)

pub returns-then-index-run : goal.returns-then-index-run
returns-then-index-run c =
    let opens = finds-opens c.requires c.loop-opening.invariant.finding c.in-Some.ensures in (
      bringing-found _ c.loop-opening.invariant opens (c.if-run-index.true, c.if-index-run.true),
      (finding-spent opens.next (fresh-usable _ c.requires c.fill.ensures) c.fill-then-index-run.ensures).0 ∙ fresh-spent _ c.requires c.fill.ensures,
    )

pub overflow_add-number : goal.overflow_add-number
overflow_add-number c =
    let opens = finds-opens c.requires c.loop-opening.invariant.finding c.in-Some.ensures in
    omega (arith, bringing-few _ c.loop-opening.invariant opens c.requires)

pub loop-opening-preserved : goal.loop-opening-preserved
loop-opening-preserved c =
    bringing-next
    _ c.loop-opening.invariant (finds-opens c.requires c.loop-opening.invariant.finding c.in-Some.ensures)
    (λ h. elim c.else-run-index.branch [
      | goal.else-run-index-via-then-run-index+else-index-run w ↦ omega (arith, h, w.if-index-run.false)
      | goal.else-run-index-via-else-run-index w ↦ omega (arith, h, w.if-run-index.false)
    ])

pub returns : goal.returns
returns c = (
  bringing-last _ c.loop-opening.invariant c.in_default.ensures,
  (finding-last c.loop-opening.invariant.finding c.in_default.ensures).1 ∙ fresh-spent _ c.requires c.fill.ensures,
)
