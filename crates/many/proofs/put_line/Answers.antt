-- `many::put_line` meets its contract: a part of the slice that is written over is `sets`.
use mathlib.Core.Path.{refl, sym, ◌∙◌}
use Prim.Native.Nat.{◌*◌}
use native.Mathlib.Omega.{arith}
use Rattle.std.proofs.lemmas.List.Edits.{sets-eq}
use Rattle.std.proofs.lemmas.Slice.{put_mid-paste}
use Rattle.many.specs.Many.{line_cells}
use Rattle.many.proofs.put_line.Goals as goal

pub returns : goal.returns
returns c =
    put_mid-paste _ _ _ _ (line_cells c.args.line) 5 c.copy_from_slice.ensures.after (omega arith) refl
    ∙ sym (sets-eq (line_cells c.args.line) c.args.out.now (5 * c.args.i) (omega (arith, c.requires)))
