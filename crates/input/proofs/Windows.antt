-- What is printed for bytes left over, which is nothing exactly where none are.
-- Assumes nothing.
use mathlib.Core.Path.{◌≡◌, ◌∙◌}
use mathlib.Core.Logic.{◌↔◌}
use mathlib.Core.List.{[]}
use Prim.Native.Nat.{ℕ, ◌≤◌, ◌<◌}
use native.Mathlib.Omega.{arith}
use lib.Dec.{ltb}
use lib.ListN.{length}
use borrow.Author.Tests.{lt-ltb, le-ltb, ltb-false}
use Rattle.answers.specs.declared.Cause.TheVariants.{LeftOver}
use Rattle.answers.proofs.Laws.{answer-none, refusal-clear, refusal-held, passed-next}
use Rattle.lines.specs.Lines.{cause_line}
use Rattle.lines.proofs.Laws.{silent, refused-most}
use Rattle.input.specs.Input.{left_text}

pub left-silent : (got : ℕ) → (left_text got ≡ []) ↔ (got ≡ 0)
unfolding left_text
left-silent got = (
  λ e. omega (arith, ltb-false 0 got ((passed-next (ltb 0 got) LeftOver got []).0 ((silent _).0 e)).0),
  λ e. refusal-clear cause_line LeftOver got [] [] (le-ltb 0 got (omega arith)) ∙ answer-none cause_line [],
)

pub left-some : (got : ℕ) → 0 < got → left_text got ≡ cause_line LeftOver got
unfolding left_text
left-some got l = refusal-held cause_line LeftOver got [] [] (lt-ltb 0 got l)

pub left-most : (got : ℕ) → length (left_text got) ≤ 24
unfolding left_text
left-most got = refused-most _
