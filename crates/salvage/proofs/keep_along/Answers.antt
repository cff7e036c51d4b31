-- `salvage::keep_along` meets its contract.
use Rattle.salvage.proofs.Along.{row-onward, going-row}
use Rattle.salvage.proofs.keep_along.Goals as goal

pub returns : goal.returns
returns c =
    let e = c.along-gone.ensures in
    record {
      onward = e.onward;
      within = e.within;
      stands = e.stands;
      forward = (row-onward e.row).1;
      ends = e.ends;
      goes = λ a L G. going-row G e.row e.within e.stands c.keep.ensures;
    }
