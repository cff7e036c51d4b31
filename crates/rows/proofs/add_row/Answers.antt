-- `rows::add_row` meets its contract: four stores are `put_row`.
use Rattle.std.proofs.Common.{arith}
use Rattle.std.proofs.lemmas.Grind.{common_steps}
use Rattle.rows.specs.Rows.{with_map}
use Rattle.rows.specs.Growing.{put_row}
use Rattle.rows.proofs.add_row.Goals as goal

pub returns : goal.returns
unfolding put_row with_map
returns c = grind (arith, common_steps)
