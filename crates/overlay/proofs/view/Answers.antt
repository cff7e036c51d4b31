-- `overlay::view` meets its contract, case by case.
use mathlib.Core.Path.{sym, ap, ap₂, ◌∙◌}
use native.Mathlib.Omega.{arith}
use Rattle.std.specs.Prelude.{Ok}
use Rattle.answers.proofs.Laws.{handed-on}
use Rattle.map.proofs.Laws.{spaced, some-records}
use Rattle.overlay.specs.declared.Viewed.TheVariants.{Today, Baseline}
use Rattle.overlay.proofs.Pairs.{paired}
use Rattle.overlay.proofs.Views.{alone-block, alone-malformed, view-refused, view-none, view-today, view-baseline}
use Rattle.overlay.proofs.view.Goals as goal

pub returns-in_err-check_pair : goal.returns-in_err-check_pair
returns-in_err-check_pair c = handed-on c.from_residual.ensures ∙ sym (view-refused _ _ _ _ _ _ _ (sym c.check_pair.ensures ∙ c.in_err-check_pair.was))

-- both maps are sound
pub returns-then-is_err : goal.returns-then-is_err
returns-then-is_err c =
    let p = paired _ _ _ _ _ _ (sym c.check_pair.ensures ∙ c.in_ok-check_pair.was) in
    let none = alone-malformed _ _ p.small c.sound.ensures (sym c.if-is_err.ensures.value) in
    rw (c.refuses.ensures, c.at.ensures) (sym (view-none _ _ _ _ _ _ _ (sym c.check_pair.ensures ∙ c.in_ok-check_pair.was) none))

-- and the key is that of a block
pub overlapping-today-requires : goal.overlapping-today-requires
overlapping-today-requires c =
    let p = paired _ _ _ _ _ _ (sym c.check_pair.ensures ∙ c.in_ok-check_pair.was) in
    (p.small, p.few, p.today, alone-block _ _ c.sound.ensures (sym c.if-is_err.ensures.value))

pub overlapping-under-requires : goal.overlapping-under-requires
overlapping-under-requires c =
    let p = paired _ _ _ _ _ _ (sym c.check_pair.ensures ∙ c.in_ok-check_pair.was) in
    (p.small, p.under_few, spaced p.under, alone-block _ _ c.sound.ensures (sym c.if-is_err.ensures.value))

pub returns-then-today-eq0 : goal.returns-then-today-eq0
returns-then-today-eq0 c =
    let passed = sym c.check_pair.ensures ∙ c.in_ok-check_pair.was in
    let block = alone-block _ _ c.sound.ensures (sym c.if-is_err.ensures.value) in
    let u = c.overlapping-under.ensures in
    let some = some-records (paired _ _ _ _ _ _ passed).under block.names in
    ap Ok (ap₂ Baseline (u.first (λ e. omega (arith, some, u.count, e))) u.count)
    ∙ sym (view-baseline _ _ _ _ _ _ _ passed block (sym c.overlapping-today.ensures.count ∙ c.if-today-eq0.true))

pub returns : goal.returns
returns c =
    let passed = sym c.check_pair.ensures ∙ c.in_ok-check_pair.was in
    let block = alone-block _ _ c.sound.ensures (sym c.if-is_err.ensures.value) in
    let u = c.overlapping-today.ensures in
    ap Ok (ap₂ Today (u.first c.if-today-eq0.false) u.count) ∙ sym (view-today _ _ _ _ _ _ _ passed block (λ e. c.if-today-eq0.false (u.count ∙ e)))
