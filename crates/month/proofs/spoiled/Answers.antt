-- `month::spoiled` meets its contract. Behind each test the numbers are small enough for the next product.
use mathlib.Core.Path.{sym, ◌∙◌}
use native.Mathlib.Nat.{mul-le-mul}
use native.Mathlib.Omega.{arith}
use Rattle.window.proofs.Laws.{pixels-most}
use Rattle.month.proofs.Sanity.{narrowed-told, narrowed-known, spoiled-outside, spoiled-many, spoiled-rows}
use Rattle.month.proofs.spoiled.Goals as goal

pub returns-then-outside : goal.returns-then-outside
returns-then-outside c = sym (spoiled-outside _ _ (narrowed-told _ c.requires.0 c.window_in-window.ensures ∙ sym c.outside.ensures ∙ c.if-outside.true))

pub returns-then-maps-gt1000 : goal.returns-then-maps-gt1000
returns-then-maps-gt1000 c =
    let o = sym c.outside.ensures ∙ c.if-outside.false in
    sym (spoiled-many _ _ (narrowed-told _ c.requires.0 c.window_in-window.ensures ∙ o) c.if-maps-gt1000.true)

pub overflow_mul-pixels : goal.overflow_mul-pixels
overflow_mul-pixels c = omega (arith, pixels-most _ (narrowed-known _ c.requires.0 c.window_in-window.ensures (sym c.outside.ensures ∙ c.if-outside.false)).1)

pub overflow_mul-maps : goal.overflow_mul-maps
overflow_mul-maps c =
    let most = pixels-most _ (narrowed-known _ c.requires.0 c.window_in-window.ensures (sym c.outside.ensures ∙ c.if-outside.false)).1 in
    omega (arith, mul-le-mul c.if-maps-gt1000.false most)

pub returns : goal.returns
returns c =
    let o = sym c.outside.ensures ∙ c.if-outside.false in
    let same = (narrowed-known _ c.requires.0 c.window_in-window.ensures o).0 in
    c.any_over.ensures ∙ rw same (sym (spoiled-rows _ _ (narrowed-told _ c.requires.0 c.window_in-window.ensures ∙ o) c.if-maps-gt1000.false))
