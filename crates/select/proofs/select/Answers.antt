-- `select::select` meets its contract. Each test decides what its law in `Tables` says.
use mathlib.Core.Path.{sym, ◌∙◌}
use mathlib.Core.Bool.{true}
use native.Mathlib.Omega.{arith}
use lib.ListN.{length-take}
use Rattle.std.proofs.Common.{rules}
use Rattle.answers.proofs.Laws.{handed-on}
use Rattle.window.proofs.Laws.{inside-12}
use Rattle.used.proofs.Laws.{use-same, tiled-usable, tiled-known}
use Rattle.select.proofs.Tables.{part-spent, select-refused, select-listed}
use Rattle.select.proofs.select.Goals as goal

pub returns-in_err-usable_tiled : goal.returns-in_err-usable_tiled
returns-in_err-usable_tiled c =
    rw (handed-on c.from_residual.ensures) (sym (select-refused _ _ _ _ _ _ _ _ _ (sym c.usable_tiled.ensures ∙ c.in_err-usable_tiled.was)))

-- where refusals 1 to 7 and 17 do not hold
pub overflow_add-window : goal.overflow_add-window
overflow_add-window c =
    let u = tiled-known true _ _ _ _ _ _ (sym c.usable_tiled.ensures ∙ c.in_ok-usable_tiled.was) in
    omega (arith, inside-12 u.small u.inside)

pub slice_bounds-fill-end : goal.slice_bounds-fill-end
slice_bounds-fill-end c = (tiled-known true _ _ _ _ _ _ (sym c.usable_tiled.ensures ∙ c.in_ok-usable_tiled.was)).wide

pub slice_bounds-fill-end-2 : goal.slice_bounds-fill-end-2
slice_bounds-fill-end-2 c =
    let wide = (tiled-known true _ _ _ _ _ _ (sym c.usable_tiled.ensures ∙ c.in_ok-usable_tiled.was)).wide in
    simp length-take (omega arith)

pub list_keys-requires : goal.list_keys-requires
list_keys-requires c =
    let passed = sym c.usable_tiled.ensures ∙ c.in_ok-usable_tiled.was in
    let u = tiled-known true _ _ _ _ _ _ passed in (
      record { small = u.small; cap = u.cap; few = u.few; spaced = u.spaced; inside = u.inside; wide = omega arith },
      use-same true _ _ _ _ _ (tiled-usable true _ _ _ _ _ _ passed),
    )

pub returns : goal.returns
returns c =
    let passed = sym c.usable_tiled.ensures ∙ c.in_ok-usable_tiled.was in
    let u = tiled-known true _ _ _ _ _ _ passed in
    select-listed _ _ _ _ _ _ _ _ _ passed (part-spent _ _ _ u.wide (c.fill.ensures.after (λ y e. search rules))) c.list_keys.ensures
