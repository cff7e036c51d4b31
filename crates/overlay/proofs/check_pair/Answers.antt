-- `overlay::check_pair` meets its contract, test by test.
use mathlib.Core.Path.{sym, ap, ◌∙◌}
use Rattle.std.specs.Prelude.{Err}
use Rattle.std.proofs.Common.{rules}
use Rattle.answers.proofs.Laws.{handed-on}
use Rattle.overlay.specs.declared.Layer.TheVariants.{Today, Baseline}
use Rattle.overlay.proofs.Pairs.{blamed, cleared, today-refused, base-refused, m-refused, pair-passed}
use Rattle.overlay.proofs.check_pair.Goals as goal

pub returns-in_err-map_err : goal.returns-in_err-map_err
returns-in_err-map_err c =
    let a = blamed {r = c.sound.result} Today c.map_err.ensures.cases (λ e u h. search rules) c.in_err-map_err.was in
    handed-on c.from_residual.ensures ∙ ap Err a.2 ∙ sym (today-refused _ _ _ _ _ _ (sym c.sound.ensures ∙ a.1))

-- today's map is sound
pub returns-in_err-map_err-2 : goal.returns-in_err-map_err-2
returns-in_err-map_err-2 c =
    let a = cleared {r = c.sound.result} Today c.map_err.ensures.cases (λ e u h. search rules) c.in_ok-map_err.was in
    let b = blamed {r = c.sound-2.result} Baseline c.map_err-2.ensures.cases (λ e u h. search rules) c.in_err-map_err-2.was in
    handed-on c.from_residual-in_err-map_err-2.ensures ∙ ap Err b.2 ∙ sym (base-refused _ _ _ _ _ _ (sym c.sound.ensures ∙ a) (sym c.sound-2.ensures ∙ b.1))

-- and so is the baseline
pub returns-then-m-depth : goal.returns-then-m-depth
returns-then-m-depth c =
    let a = cleared {r = c.sound.result} Today c.map_err.ensures.cases (λ e u h. search rules) c.in_ok-map_err.was in
    let b = cleared {r = c.sound-2.result} Baseline c.map_err-2.ensures.cases (λ e u h. search rules) c.in_ok-map_err-2.was in
    rw (c.refuses.ensures, c.at.ensures) (sym (m-refused _ _ _ _ _ _ (sym c.sound.ensures ∙ a) (sym c.sound-2.ensures ∙ b) c.if-m-depth.true))

pub returns : goal.returns
returns c =
    let a = cleared {r = c.sound.result} Today c.map_err.ensures.cases (λ e u h. search rules) c.in_ok-map_err.was in
    let b = cleared {r = c.sound-2.result} Baseline c.map_err-2.ensures.cases (λ e u h. search rules) c.in_ok-map_err-2.was in
    sym (pair-passed _ _ _ _ _ _ (sym c.sound.ensures ∙ a) (sym c.sound-2.ensures ∙ b) c.if-m-depth.false)
