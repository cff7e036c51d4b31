-- `overlay::part` meets its contract: the part that `view` names is within its slice.
use mathlib.Core.Path.{sym, ap, ◌∙◌}
use Prim.Native.Nat.{ℕ}
use native.Mathlib.Nat.{add-sub_cancel_left}
use lib.ListN.{take, drop}
use Rattle.std.specs.Prelude.{Ok}
use Rattle.overlay.proofs.Views.{view-within, view-under, part-today, part-baseline, part-refused}
use Rattle.overlay.proofs.part.Goals as goal

-- today's part
pub slice_bounds-result-end : goal.slice_bounds-result-end
slice_bounds-result-end c = view-within _ _ _ _ _ _ _ (sym c.in-Ok-Today.ensures ∙ ap Ok c.in-Ok-Today.field-0-is)

pub returns-in-Ok-Today : goal.returns-in-Ok-Today
returns-in-Ok-Today c =
    let a = c.in-Ok-Today in
    ap (λ (n : ℕ). take n (drop a.first c.args.classes.now)) (add-sub_cancel_left a.first a.count)
    ∙ sym (part-today _ _ (sym a.ensures ∙ ap Ok a.field-0-is))

-- the baseline's part
pub slice_bounds-result-end-in-Ok-Baseline : goal.slice_bounds-result-end-in-Ok-Baseline
slice_bounds-result-end-in-Ok-Baseline c = view-under _ _ _ _ _ _ _ (sym c.in-Ok-Baseline.ensures ∙ ap Ok c.in-Ok-Baseline.field-0-is)

pub returns-in-Ok-Baseline : goal.returns-in-Ok-Baseline
returns-in-Ok-Baseline c =
    let a = c.in-Ok-Baseline in
    ap (λ (n : ℕ). take n (drop a.first c.args.beneath.now)) (add-sub_cancel_left a.first a.count)
    ∙ sym (part-baseline _ _ (sym a.ensures ∙ ap Ok a.field-0-is))

pub returns-in-Err : goal.returns-in-Err
returns-in-Err c = sym (part-refused _ _ (sym c.in-Err.ensures))
