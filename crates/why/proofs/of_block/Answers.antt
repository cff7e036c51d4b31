-- `why::of_block` meets its contract. Each test decides what its law in `Tables` and `Blocks` says.
use mathlib.Core.Path.{sym, ap, ◌∙◌}
use mathlib.Core.Bool.{true}
use Rattle.std.specs.Prelude.{Err}
use Rattle.lists.proofs.Laws.{never}
use Rattle.answers.specs.After.{after}
use Rattle.answers.proofs.Laws.{handed-on}
use Rattle.used.proofs.Laws.{use-known, use-whole}
use Rattle.why.proofs.Listed.{corner-first}
use Rattle.why.proofs.Blocks.{said-opened, said-skipped}
use Rattle.why.proofs.Tables.{why-refused, why-more, why-done, key-refused, key-passed}
use Rattle.why.proofs.of_block.Goals as goal

pub returns-in_err-usable : goal.returns-in_err-usable
returns-in_err-usable c =
    ap (λ r. after r c.args.border.now) (handed-on c.from_residual.ensures) ∙ sym (why-refused _ _ _ _ _ _ _ (sym c.usable.ensures ∙ c.in_err-usable.was))

pub square_of-square-requires : goal.square_of-square-requires
square_of-square-requires c = (use-known true _ _ _ _ _ (sym c.usable.ensures ∙ c.in_ok-usable.was)).small

pub maximal-requires : goal.maximal-requires
maximal-requires c =
    let U = use-known true _ _ _ _ _ (sym c.usable.ensures ∙ c.in_ok-usable.was) in
    (U.small, U.inside, c.square_of-square.ensures)

pub returns-then-not-maximal : goal.returns-then-not-maximal
returns-then-not-maximal c =
    ap (λ e. after (Err e) c.args.border.now) c.at.ensures
    ∙ sym (why-more _ _ _ _ _ _ _ (sym c.usable.ensures ∙ c.in_ok-usable.was) (key-refused _ _ _ (λ n. never (sym (c.maximal.ensures.1 n) ∙ c.if-not-maximal.true))))

pub record_at-index-requires : goal.record_at-index-requires
record_at-index-requires c =
    let passed = sym c.usable.ensures ∙ c.in_ok-usable.was in
    let U = use-known true _ _ _ _ _ passed in
    (U.small, U.few, use-whole _ _ _ _ _ passed, c.square_of-square.ensures.pixel)

pub bring-brought-requires : goal.bring-brought-requires
bring-brought-requires c = use-known true _ _ _ _ _ (sym c.usable.ensures ∙ c.in_ok-usable.was)

pub returns-then-brought-key : goal.returns-then-brought-key
returns-then-brought-key c =
    let passed = sym c.usable.ensures ∙ c.in_ok-usable.was in
    let F = use-whole _ _ _ _ _ passed in
    let I = (use-known true _ _ _ _ _ passed).inside in
    let l = c.maximal.ensures.0 c.if-not-maximal.false in
    let first = corner-first I c.square_of-square.ensures F l c.record_at-index.ensures in
    why-done _ _ _ _ _ _ _ passed ((key-passed _ _ _).1 l) (said-opened F I l first c.bring-brought.ensures.0 c.if-brought-key.true) c.bring-brought.ensures.1

pub returns : goal.returns
returns c =
    let passed = sym c.usable.ensures ∙ c.in_ok-usable.was in
    let F = use-whole _ _ _ _ _ passed in
    let I = (use-known true _ _ _ _ _ passed).inside in
    let l = c.maximal.ensures.0 c.if-not-maximal.false in
    let first = corner-first I c.square_of-square.ensures F l c.record_at-index.ensures in
    why-done _ _ _ _ _ _ _ passed ((key-passed _ _ _).1 l) (said-skipped F I l first c.bring-brought.ensures.0 c.if-brought-key.false) c.bring-brought.ensures.1
