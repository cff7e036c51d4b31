-- A reason in numbers is that reason and no other.
-- Assumes nothing.
use mathlib.Core.Path.{◌≡◌, refl, sym, ap, ◌∙◌}
use mathlib.Core.Logic.{◌↔◌}
use mathlib.Core.Bool.{cond}
use Prim.Native.Nat.{ℕ}
use lib.Dec.{eqb}
use Rattle.why.specs.declared.Side.{Side}
use Rattle.why.specs.declared.Side.TheVariants.{North, South, West, East}
use Rattle.why.specs.declared.Why.{Why}
use Rattle.why.specs.declared.Why.TheVariants as why
use Rattle.lutniorad.specs.declared.Reason.{Reason}
use Rattle.lutniorad.specs.Numbers.{of_reason}

-- a reason, from its numbers
why_of : Reason → Why
why_of r =
    cond (eqb r.said 1) (why.Handed r.index r.opening)
    (cond (eqb r.said 6) (why.Opened r.opening)
    (cond (eqb r.said 7) (why.Skipped r.index r.opening) (why.Outside r.index (cond (eqb r.said 2) North (cond (eqb r.said 3) South (cond (eqb r.said 4) West East))))))

-- it is had back from them
pub Back : Why → Type 0
Back a = why_of (of_reason a) ≡ a

pub outside-back : (n : ℕ) (s : Side) → Back (why.Outside n s)
unfolding Back why_of
outside-back n North = refl
outside-back n South = refl
outside-back n West = refl
outside-back n East = refl

pub handed-back : (n k : ℕ) → Back (why.Handed n k)
unfolding Back why_of
handed-back n k = refl

pub opened-back : (k : ℕ) → Back (why.Opened k)
unfolding Back why_of
opened-back k = refl

pub skipped-back : (n k : ℕ) → Back (why.Skipped n k)
unfolding Back why_of
skipped-back n k = refl

-- so numbers are those of a reason exactly when it is that reason
pub said-exactly : {a b : Why} {r : Reason} → r ≡ of_reason a → Back a → Back b → {P : Type 0} → (a ≡ b) ↔ P → (r ≡ of_reason b) ↔ P
unfolding Back
said-exactly e x y h = (λ d. h.0 (sym x ∙ ap why_of (sym e ∙ d) ∙ y), λ p. e ∙ ap of_reason (h.1 p))
