-- `checks::sound` meets its contract: the tables of sizes and of records, one after the other.
use mathlib.Core.Path.{sym, ◌∙◌}
use Rattle.answers.proofs.Laws.{sized, handed-on}
use Rattle.map.proofs.Loops.{sizes-refused, sizes-passed}
use Rattle.checks.proofs.sound.Goals as goal

pub returns-in_err-sizes : goal.returns-in_err-sizes
returns-in_err-sizes c = handed-on c.from_residual.ensures ∙ sym (sizes-refused _ _ _ _ (sym c.sizes.ensures ∙ c.in_err-sizes.was))

pub records-requires : goal.records-requires
records-requires c = let s = sized.0 (sym c.sizes.ensures ∙ c.in_ok-sizes.was) in (s.small, s.most)

pub returns : goal.returns
returns c = c.records.ensures ∙ sym (sizes-passed _ _ _ _ (sym c.sizes.ensures ∙ c.in_ok-sizes.was))
