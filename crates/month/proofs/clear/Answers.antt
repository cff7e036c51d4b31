-- `month::clear` meets its contract. Each test decides what its law in `Clearing` says.
use mathlib.Core.Path.{◌≡◌, refl, ap, sym, ◌∙◌}
use Prim.Native.Nat.{ℕ}
use native.Mathlib.Omega.{arith}
use lib.ListN.{replicate, length-take, length-drop, length-set}
use Rattle.month.proofs.Clearing.{clear-over, clear-outside, clear-short, clear-done}
use Rattle.month.proofs.clear.Goals as goal

pub returns-then-m-gt12 : goal.returns-then-m-gt12
returns-then-m-gt12 c = rw c.at.ensures (sym (clear-over _ _ _ (omega (arith, c.if-m-gt12.true))))

pub returns-then-outside : goal.returns-then-outside
returns-then-outside c = rw c.at-then-outside.ensures (sym (clear-outside _ _ _ (omega (arith, c.if-m-gt12.false)) (sym c.outside.ensures ∙ c.if-outside.true)))

pub returns-then-table-lt1030 : goal.returns-then-table-lt1030
returns-then-table-lt1030 c =
    rw c.at-then-table-lt1030.ensures
    (sym (clear-short _ _ _ (omega (arith, c.if-m-gt12.false)) (sym c.outside.ensures ∙ c.if-outside.false) c.if-table-lt1030.true))

pub returns : goal.returns
returns c =
    let filled = simp (length-take, length-drop, length-set) at (c.fill.ensures.after (λ y e. e)) in
    let zeros : c.fill.new.self ≡ replicate 1025 0 = filled ∙ ap (λ (n : ℕ). replicate n 0) {y = 1025} (omega (arith, c.if-table-lt1030.false)) in
    sym (clear-done _ _ _ (omega (arith, c.if-m-gt12.false)) (sym c.outside.ensures ∙ c.if-outside.false) c.if-table-lt1030.false refl zeros)
