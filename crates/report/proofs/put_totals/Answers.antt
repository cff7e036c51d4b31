-- `report::put_totals` meets its contract: the totals stand in the first 256 cells.
use mathlib.Core.Path.{sym, ◌∙◌}
use lib.Seq.{length-take-le}
use Rattle.answers.proofs.Laws.{overwrite-part}
use Rattle.report.proofs.put_totals.Goals as goal

pub copy_from_slice-requires : goal.copy_from_slice-requires
copy_from_slice-requires c = length-take-le 256 _ c.requires.1 ∙ sym c.requires.0

pub returns : goal.returns
returns c = rw (← overwrite-part _ _, c.copy_from_slice.ensures.after, c.requires.0)
