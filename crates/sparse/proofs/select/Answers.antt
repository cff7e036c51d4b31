-- `sparse::select` meets its contract: the keys, behind refusals 1 to 7 and 17.
use mathlib.Core.Path.{sym, ◌∙◌}
use mathlib.Core.Bool.{false}
use native.Mathlib.Omega.{arith}
use Rattle.answers.proofs.Laws.{handed-on}
use Rattle.window.proofs.Laws.{inside-12}
use Rattle.used.proofs.Laws.{use-same, tiled-usable, tiled-known}
use Rattle.select.proofs.Laws.{select-refused, select-listed}
use Rattle.sparse.proofs.select.Goals as goal

pub returns-in_err-usable_tiled : goal.returns-in_err-usable_tiled
returns-in_err-usable_tiled c =
    rw (handed-on c.from_residual.ensures) (sym (select-refused _ _ _ _ _ _ _ _ _ (sym c.usable_tiled.ensures ∙ c.in_err-usable_tiled.was)))

-- where refusals 1 to 7 and 17 do not hold
pub spend-requires : goal.spend-requires
spend-requires c =
    let u = tiled-known false _ _ _ _ _ _ (sym c.usable_tiled.ensures ∙ c.in_ok-usable_tiled.was) in
    (inside-12 u.small u.inside, u.wide)

pub list_sparse-requires : goal.list_sparse-requires
list_sparse-requires c =
    let passed = sym c.usable_tiled.ensures ∙ c.in_ok-usable_tiled.was in
    let u = tiled-known false _ _ _ _ _ _ passed in (
      record { small = u.small; cap = u.cap; few = u.few; spaced = u.spaced; inside = u.inside; wide = omega arith },
      use-same false _ _ _ _ _ (tiled-usable false _ _ _ _ _ _ passed),
    )

pub returns : goal.returns
returns c =
    let passed = sym c.usable_tiled.ensures ∙ c.in_ok-usable_tiled.was in
    select-listed _ _ _ _ _ _ _ _ _ passed c.spend.ensures c.list_sparse.ensures
