-- `reply::put_result` meets its contract: where nothing was put there is a refusal, and its line is.
use Rattle.reply.proofs.put_result.Goals as goal

pub returns-in-Err : goal.returns-in-Err
returns-in-Err c = let found = c.in-Err.ensures in rw found.0 (rw (found.1, c.number.ensures) at c.put_refusal.ensures)
