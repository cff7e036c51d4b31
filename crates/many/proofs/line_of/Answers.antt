-- `many::line_of` meets its contract: where 6 does not refuse the window, a pass over its border counts its openings and their records.
use mathlib.Core.Path.{sym, ◌∙◌}
use mathlib.Core.Bool.{true}
use native.Mathlib.Omega.{arith}
use Rattle.window.proofs.Laws.{inside, inside-12, pixels-most}
use Rattle.used.proofs.Laws.{use-answerable, use-known}
use Rattle.many.proofs.Lines.{line-outside, line-inside}
use Rattle.many.proofs.Border.{columns-inside, left-outside, left-inside}
use Rattle.many.proofs.line_of.Goals as goal

pub returns-then-outside : goal.returns-then-outside
returns-then-outside c =
    let e = sym c.outside.ensures ∙ c.if-outside.true in
    (rw c.number.ensures (sym (line-outside _ _ _ e)), sym (left-outside _ _ _ e))

pub pass-totals-requires : goal.pass-totals-requires
pass-totals-requires c =
    let lies = sym c.outside.ensures ∙ c.if-outside.false in
    use-known true _ _ _ _ _
    ((use-answerable true _ _ _ _ _).1 (record { sound = c.requires.0; inside = inside _ _ lies; wide = rw (columns-inside _ _ lies) at c.requires.1 }))

pub overflow_mul-result : goal.overflow_mul-result
overflow_mul-result c =
    let drawn = inside _ _ (sym c.outside.ensures ∙ c.if-outside.false) in
    omega (arith, pixels-most c.args.window (inside-12 c.requires.0.sizes.small drawn))

pub returns : goal.returns
returns c =
    let lies = sym c.outside.ensures ∙ c.if-outside.false in
    (rw (c.pass-totals.ensures.many, c.pass-totals.ensures.records) (sym (line-inside _ _ _ lies)), c.pass-totals.ensures.ends ∙ sym (left-inside _ _ _ lies))
