-- The text of refusals: one line, or nothing exactly where nothing is refused.
-- Assumes nothing.
use mathlib.Core.Path.{◌≡◌, refl, ap}
use mathlib.Core.Logic.{◌↔◌}
use mathlib.Core.List.{List, [], ◌∷◌}
use Prim.Native.Nat.{ℕ, ◌≤◌}
use native.Mathlib.Omega.{arith}
use lib.ListN.{length}
use Rattle.std.specs.Prelude.{Result, Ok, Err}
use Rattle.answers.specs.declared.Refused.{Refused}
use Rattle.answers.specs.Refusals.{Refusal, number, verdict}
use Rattle.answers.proofs.Laws.{on-passed, on-refused, accepted}
use Rattle.text.proofs.Laws.{line-length}
use Rattle.lines.specs.Lines.{refusal_line, cause_line, refused_text}
use Rattle.lines.proofs.Lengths.{refusal-most}

pub line-some : (n p : ℕ) → refusal_line n p ≡ [] → ⊥
line-some n p e = omega (arith, ap length e, line-length 82 (n ∷ p ∷ []))

pub refused-most : (refusals : List Refusal) → length (refused_text refusals) ≤ 24
refused-most refusals = go (verdict refusals) refl
  where
    go : (v : Result Unit Refused) → verdict refusals ≡ v → length (refused_text refusals) ≤ 24
    go (Ok tt) e = rw (on-passed cause_line refusals [] e) (omega arith)
    go (Err r) e = rw (on-refused cause_line refusals [] e) (refusal-most (number r.cause) r.place)

pub silent : (refusals : List Refusal) → (refused_text refusals ≡ []) ↔ (verdict refusals ≡ Ok tt)
silent refusals = (λ e. (accepted cause_line refusals [] (λ c. line-some (number c)) e).0, on-passed cause_line refusals [])
