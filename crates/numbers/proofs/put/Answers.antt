-- `numbers::put` meets its contract: the library's bytes of a number are `bytes 4`, and they stand first.
use Rattle.std.proofs.Common.{rules}
use Rattle.answers.proofs.Laws.{overwrite-part}
use Rattle.numbers.proofs.Steps.{four-bytes}
use Rattle.numbers.proofs.put.Goals as goal

pub returns : goal.returns
returns c = rw (← overwrite-part, four-bytes) (search rules)
