-- `why::of_record` meets its contract. Each test decides what its law in `Tables` and `Records` says.
use mathlib.Core.Path.{sym, ap, ◌∙◌}
use mathlib.Core.Bool.{true}
use native.Mathlib.Omega.{arith}
use Rattle.std.specs.Prelude.{Err}
use Rattle.answers.specs.After.{after}
use Rattle.answers.proofs.Laws.{handed-on}
use Rattle.window.proofs.Laws.{inside-12}
use Rattle.border.proofs.Laws.{filled-spent}
use Rattle.used.proofs.Laws.{use-known}
use Rattle.why.proofs.Records.{said-outside, said-handed}
use Rattle.why.proofs.Tables.{why-refused, why-more, why-done, index-refused, index-passed}
use Rattle.why.proofs.of_record.Goals as goal

pub returns-in_err-usable : goal.returns-in_err-usable
returns-in_err-usable c =
    ap (λ r. after r c.args.border.now) (handed-on c.from_residual.ensures) ∙ sym (why-refused _ _ _ _ _ _ _ (sym c.usable.ensures ∙ c.in_err-usable.was))

pub returns-then-keys-index : goal.returns-then-keys-index
returns-then-keys-index c =
    ap (λ e. after (Err e) c.args.border.now) c.at.ensures
    ∙ sym (why-more _ _ _ _ _ _ _ (sym c.usable.ensures ∙ c.in_ok-usable.was) (index-refused _ _ c.if-keys-index.true))

pub record_lies-requires : goal.record_lies-requires
record_lies-requires c =
    let U = use-known true _ _ _ _ _ (sym c.usable.ensures ∙ c.in_ok-usable.was) in
    (U.small, U.spaced, U.inside, c.if-keys-index.false)

pub overflow_add-window : goal.overflow_add-window
overflow_add-window c =
    let U = use-known true _ _ _ _ _ (sym c.usable.ensures ∙ c.in_ok-usable.was) in
    omega (arith, inside-12 U.small U.inside)

pub fill-requires : goal.fill-requires
fill-requires c = (omega arith, (use-known true _ _ _ _ _ (sym c.usable.ensures ∙ c.in_ok-usable.was)).wide)

pub returns-in-Some : goal.returns-in-Some
returns-in-Some c =
    let passed = sym c.usable.ensures ∙ c.in_ok-usable.was in
    why-done _ _ _ _ _ _ _ passed ((index-passed _ _).1 c.if-keys-index.false)
    (said-outside _ _ _ _ (sym c.record_lies.ensures ∙ c.in-Some.is))
    (c.fill.ensures ∙ filled-spent _ _ (use-known true _ _ _ _ _ passed).wide)

pub bring-brought-requires : goal.bring-brought-requires
bring-brought-requires c = use-known true _ _ _ _ _ (sym c.usable.ensures ∙ c.in_ok-usable.was)

pub returns : goal.returns
returns c =
    why-done _ _ _ _ _ _ _ (sym c.usable.ensures ∙ c.in_ok-usable.was) ((index-passed _ _).1 c.if-keys-index.false)
    (said-handed _ _ _ _ (sym c.record_lies.ensures ∙ c.in_default.is) c.bring-brought.ensures.0.number)
    c.bring-brought.ensures.1
