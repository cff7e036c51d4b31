-- `sparse::exist_over` meets its contract: what was found, behind refusals 6 and 7.
use mathlib.Core.Path.{sym, ap, ap₂, ◌∙◌}
use Rattle.std.specs.Prelude.{Ok}
use Rattle.answers.specs.After.{after}
use Rattle.answers.proofs.Laws.{handed-on}
use Rattle.window.proofs.Laws.{inside-12}
use Rattle.exist.proofs.Laws.{exist-refused, exist-done, existing-is}
use Rattle.sparse.proofs.Found.{found-presence}
use Rattle.sparse.proofs.Over.{pair-view, pair-known}
use Rattle.sparse.proofs.exist_over.Goals as goal

pub in_view-requires : goal.in_view-requires
in_view-requires c = c.requires.small

pub returns-in_err-in_view : goal.returns-in_err-in_view
returns-in_err-in_view c =
    rw (handed-on c.from_residual.ensures) (sym (exist-refused _ _ _ _ _ _ _ _ (pair-view c.requires _ _ c.in_view.ensures c.in_err-in_view.was)))

-- where refusals 6 and 7 do not hold
pub spend-requires : goal.spend-requires
spend-requires c = let u = pair-known c.requires _ _ c.in_view.ensures c.in_ok-in_view.was in (inside-12 u.small u.inside, u.wide)

pub find-looked-requires : goal.find-looked-requires
find-looked-requires c = let u = pair-known c.requires _ _ c.in_view.ensures c.in_ok-in_view.was in (c.requires, u.inside)

pub returns : goal.returns
returns c =
    ap₂ after (ap Ok (c.say.ensures ∙ found-presence _ _ _ c.find-looked.ensures)) c.spend.ensures
    ∙ sym (existing-is _ _ _ _)
    ∙ sym (exist-done _ _ _ _ _ _ _ _ (pair-view c.requires _ _ c.in_view.ensures c.in_ok-in_view.was))
