-- `window_program::run` is safe: no more bytes are written than were put, and where there is no refusal, windows are answered on a sound map.
use Rattle.std.proofs.Common.{arith, sym, length-take, length-take-le}
use Rattle.text.proofs.Laws.{put-within}
use Rattle.beginning.proofs.Laws.{begun-sound}
use Rattle.window_program.proofs.run.Goals as goal

pub answer_all-requires : goal.answer_all-requires
answer_all-requires c = (simp length-take (omega (arith, c.in-Ok.ensures.held.few)), begun-sound c.in-Ok.ensures)

pub slice_bounds-line-end : goal.slice_bounds-line-end
slice_bounds-line-end c = put-within _ _ c.in-Err.ensures.text

pub slice_bounds-print-end-in-Err : goal.slice_bounds-print-end-in-Err
slice_bounds-print-end-in-Err c = sym (length-take-le _ _ (put-within _ _ c.in-Err.ensures.text))
