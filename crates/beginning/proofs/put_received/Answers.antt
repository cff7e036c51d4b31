-- `beginning::put_received` meets its contract: a file is read, and then its map is looked at.
use Rattle.std.proofs.Common.{◌≤◌, ◌∙◌, sym, arith, length, length-take-le}
use Rattle.answers.proofs.Laws.{handed-on}
use Rattle.beginning.proofs.Starts.{Got, start-said, read-held, start-begun, start-told}
use Rattle.beginning.proofs.put_received.Goals as goal
use Rattle.beginning.proofs.put_received.Goals.{After-read, In-Ok}

got : (c : After-read) → Got c.whole.result.now c.args.keys.now c.args.classes.now c.read.result c.read.new.keys c.read.new.classes
got c = record { is = c.read.ensures; keys = c.requires.1; classes = c.requires.2 }

pub returns-in-Err : goal.returns-in-Err
returns-in-Err c =
    let g = got (goal.at.returns-in-Err c).After-read in
    rw (← c.whole.ensures) (start-said g c.in-Err.is (rw c.number.ensures at c.put_refusal-said.ensures))

-- where reading did not refuse: the records fit in the two slices
module _ (c : In-Ok) where
  in-keys : c.in-Ok.header.count ≤ length c.read.new.keys
  in-keys = omega (arith, (read-held (got (goal.at.In-Ok c).After-read) c.in-Ok.is).few, c.read.auto.keys, c.requires.1)

  in-classes : c.in-Ok.header.count ≤ length c.read.new.classes
  in-classes = omega (arith, (read-held (got (goal.at.In-Ok c).After-read) c.in-Ok.is).few, c.read.auto.classes, c.requires.2)

pub slice_bounds-put_map-end : goal.slice_bounds-put_map-end
slice_bounds-put_map-end c = in-keys (goal.at.slice_bounds-put_map-end c).In-Ok

pub slice_bounds-put_map-end-2 : goal.slice_bounds-put_map-end-2
slice_bounds-put_map-end-2 c = sym (length-take-le _ _ (in-keys (goal.at.slice_bounds-put_map-end-2 c).In-Ok))

pub slice_bounds-put_map-end-3 : goal.slice_bounds-put_map-end-3
slice_bounds-put_map-end-3 c = in-classes (goal.at.slice_bounds-put_map-end-3 c).In-Ok

pub slice_bounds-put_map-end-4 : goal.slice_bounds-put_map-end-4
slice_bounds-put_map-end-4 c = sym (length-take-le _ _ (in-classes (goal.at.slice_bounds-put_map-end-4 c).In-Ok))

pub returns-in_err-put_map : goal.returns-in_err-put_map
returns-in_err-put_map c =
    let g = got (goal.at.returns-in_err-put_map c).After-read in
    rw (handed-on c.from_residual.ensures, ← c.whole.ensures) (start-told g c.in-Ok.is (rw c.in_err-put_map.was at c.put_map.ensures))

pub returns : goal.returns
returns c =
    let g = got (goal.at.returns c).After-read in
    rw (← c.whole.ensures) (start-begun g c.in-Ok.is (rw c.in_ok-put_map.was at c.put_map.ensures))
