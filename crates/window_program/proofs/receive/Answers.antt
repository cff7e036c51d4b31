-- `window_program::receive` meets its contract: the bytes behind the first four are read into the slice where these announce them.
use Rattle.std.proofs.Common.{◌∙◌, sym}
use Rattle.input.proofs.Laws.{announced-bounds}
use Rattle.window_program.proofs.Arrived.{received}
use Rattle.window_program.proofs.receive.Goals as goal

pub slice_bounds-take-count : goal.slice_bounds-take-count
slice_bounds-take-count g c = (announced-bounds _ (sym c.announced.ensures ∙ c.in-Some.is)).0

pub slice_bounds-take-start : goal.slice_bounds-take-start
slice_bounds-take-start g c = (announced-bounds _ (sym c.announced.ensures ∙ c.in-Some.is)).0

pub slice_bounds-take-end-3 : goal.slice_bounds-take-end-3
slice_bounds-take-end-3 g c = (announced-bounds _ (sym c.announced.ensures ∙ c.in-Some.is)).1

pub returns : goal.returns
returns g c = received _ (sym c.announced.ensures ∙ c.in-Some.is) c.take-more.new.buf c.take-more.auto.buf c.take-more.ensures.count.0
