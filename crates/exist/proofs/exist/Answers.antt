-- `exist::exist` meets its contract. Each test decides what its law in `Tables` says.
use mathlib.Core.Path.{sym, ◌∙◌}
use mathlib.Core.Bool.{true}
use Rattle.answers.proofs.Laws.{handed-on}
use Rattle.used.proofs.Laws.{use-known, use-same, use-whole}
use Rattle.exist.proofs.Tables.{exist-refused, exist-done}
use Rattle.exist.proofs.exist.Goals as goal

pub returns-in_err-usable : goal.returns-in_err-usable
returns-in_err-usable c = rw (handed-on c.from_residual.ensures) (sym (exist-refused _ _ _ _ _ _ _ _ (sym c.usable.ensures ∙ c.in_err-usable.was)))

pub seek-requires : goal.seek-requires
seek-requires c =
    let ok = sym c.usable.ensures ∙ c.in_ok-usable.was in
    (use-known true _ _ _ _ _ ok, use-same true _ _ _ _ _ ok, use-whole _ _ _ _ _ ok)

pub returns : goal.returns
returns c = c.seek.ensures ∙ sym (exist-done _ _ _ _ _ _ _ _ (sym c.usable.ensures ∙ c.in_ok-usable.was))
