-- `why::maximal` meets its contract: the key is listed exactly when the block that the walk comes to first, from the square's corner on, has it.
use mathlib.Core.Path.{sym, ◌∙◌}
use native.Mathlib.Omega.{arith}
use borrow.Author.Tests.{eqb-true, eq-eqb}
use Rattle.lists.proofs.Laws.{never}
use Rattle.window.proofs.Laws.{inside-12}
use Rattle.why.proofs.Listed.{unlisted-outside, unlisted-ended, listed_next}
use Rattle.why.proofs.maximal.Goals as goal

pub has_pixel-requires : goal.has_pixel-requires
has_pixel-requires c = inside-12 c.requires.0 c.requires.1

pub returns-then-not-has_pixel : goal.returns-then-not-has_pixel
returns-then-not-has_pixel c =
    (λ e. never (sym e), λ n. absurd (unlisted-outside c.requires.1 c.requires.2 (λ v. never (sym (c.has_pixel.ensures.1 v) ∙ c.if-not-has_pixel.true)) n))

pub blocks_from-requires : goal.blocks_from-requires
blocks_from-requires c =
    let v = c.has_pixel.ensures.0 c.if-not-has_pixel.false in
    (c.requires.0, inside-12 c.requires.0 c.requires.1, omega (arith, v))

pub returns-in-Some : goal.returns-in-Some
returns-in-Some c =
    let from = c.blocks_from.ensures in
    let t = listed_next c.requires.1 c.requires.2 (rw (from.0, from.1, from.2, from.3) at c.in-Some.ensures.steps.goes) in
    let key = c.block_key.ensures in
    (λ e. t.0 (sym key ∙ eqb-true _ _ e), λ n. eq-eqb _ _ (key ∙ t.1 n))

pub returns-in-None : goal.returns-in-None
returns-in-None c =
    let from = c.blocks_from.ensures in
    (λ e. never (sym e), λ n. absurd (unlisted-ended c.requires.1 c.requires.2 (rw (from.0, from.1, from.2, from.3) at c.in-None.ensures.steps.goes) n))
