-- `overlay::select_pair` meets its contract: the keys, behind refusals 6 and 7.
use mathlib.Core.Path.{sym}
use Rattle.answers.proofs.Laws.{handed-on}
use Rattle.window.proofs.Laws.{inside-12}
use Rattle.select.proofs.Laws.{select-refused, select-listed}
use Rattle.sparse.proofs.Laws.{pair-known, pair-tiled}
use Rattle.overlay.proofs.select_pair.Goals as goal

pub in_view-requires : goal.in_view-requires
in_view-requires c = c.requires.small

pub returns-in_err-in_view : goal.returns-in_err-in_view
returns-in_err-in_view c =
    rw (handed-on c.from_residual.ensures) (sym (select-refused _ _ _ _ _ _ _ _ _ (pair-tiled c.requires _ _ c.in_view.ensures c.in_err-in_view.was)))

-- where they do not hold
pub spend-requires : goal.spend-requires
spend-requires c = let u = pair-known c.requires _ _ c.in_view.ensures c.in_ok-in_view.was in (inside-12 u.small u.inside, u.wide)

pub list_class-requires : goal.list_class-requires
list_class-requires c = let u = pair-known c.requires _ _ c.in_view.ensures c.in_ok-in_view.was in (c.requires, u.inside)

pub returns : goal.returns
returns c =
    select-listed _ _ _ _ _ _ _ _ _ (pair-tiled c.requires _ _ c.in_view.ensures c.in_ok-in_view.was) c.spend.ensures c.list_class.ensures
