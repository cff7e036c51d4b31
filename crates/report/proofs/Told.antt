-- What an answer of report tells.
-- Assumes nothing.
use mathlib.Core.Path.{◌≡◌, ◌∙◌}
use mathlib.Core.Bool.{true}
use mathlib.Core.List.{List}
use Prim.Native.Nat.{ℕ, ◌*◌, ◌≤◌}
use native.Mathlib.Omega.{arith}
use lib.ListN.{length, take}
use Rattle.std.specs.Prelude.{Result, Ok, Err}
use Rattle.answers.specs.declared.Cause.{Cause}
use Rattle.answers.specs.declared.Refused.{Refused}
use Rattle.answers.specs.Refusals.{refuse, verdict}
use Rattle.answers.specs.After.{after}
use Rattle.answers.proofs.Laws.{take-overwrite}
use Rattle.window.specs.declared.Window.{Window}
use Rattle.used.specs.Used.{use_refusals}
use Rattle.used.proofs.Laws.{used-told, used-roomy}
use Rattle.totals.specs.Totals.{totals}
use Rattle.totals.proofs.Laws.{totals-length}
use Rattle.report.specs.Report.{report_in, report_of}

-- what was counted, and into which cells
pub record Counted (m : ℕ) (keys classes : List ℕ) (W : Window) (border value : ℕ) (out : List ℕ) : Type 0 where
  pub passed : verdict (use_refusals m keys (length classes) W border) ≡ Ok tt
  pub pixels : value ≡ W.h * W.w
  pub list : take 256 out ≡ totals m keys classes W

-- a refusal is no answer
reported-apart : (c : Cause) (p : ℕ) {value : ℕ} → refuse c p ≡ Ok value → ⊥
reported-apart c p e = cc

module _ (m : ℕ) (keys classes : List ℕ) (W : Window) (border out : List ℕ) where
  pub counted : {value : ℕ} {border' out' : List ℕ} → report_of m keys classes W border out ≡ after (Ok value) (border', out')
      → Counted m keys classes W (length border) value out'
  unfolding report_in
  counted e =
      let t = used-told true refuse (Ok (W.h * W.w)) (totals m keys classes W) m keys (length classes) W border out (λ c p. reported-apart c p) e in
      let d = t.says in
      record { passed = t.passed; pixels = cc; list = rw (← t.writes, ← totals-length m keys classes W) (take-overwrite (totals m keys classes W) out) }

  pub uncounted : {r : Refused} {border' out' : List ℕ} → 256 ≤ length out → report_of m keys classes W border out ≡ after (Err r) (border', out')
      → verdict (use_refusals m keys (length classes) W (length border)) ≡ Err r
  unfolding report_in
  uncounted {r} room e =
      let fits : length (totals m keys classes W) ≤ length out = omega (arith, totals-length m keys classes W) in
      go (used-roomy true refuse (Ok (W.h * W.w)) (totals m keys classes W) m keys (length classes) W border out (λ c p. reported-apart c p) fits e)
    where
      go : (q : Refused) × (verdict (use_refusals m keys (length classes) W (length border)) ≡ Err q) × (◌≡◌ {A = Result ℕ Refused} (Err q) (Err r))
          → verdict (use_refusals m keys (length classes) W (length border)) ≡ Err r
      go (q, v, same) = let f : q ≡ r = cc in v ∙ rw f
