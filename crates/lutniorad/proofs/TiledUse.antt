-- Opening and select as calls with a cap on the exponent of blocks: when they are answered, and what they leave. Each law is that of a use without a cap, behind refusals 1 and 17.
-- Assumes nothing.
use mathlib.Core.Path.{◌≡◌, ap, ◌∙◌}
use mathlib.Core.Logic.{◌↔◌}
use mathlib.Core.Bool.{Bool}
use mathlib.Core.List.{List, ◌++◌}
use Prim.Native.Nat.{ℕ, ◌≤◌, ◌<◌}
use native.Mathlib.Decide.{dec_le}
use native.Mathlib.Omega.{arith}
use lib.ListN.{length}
use Rattle.answers.specs.declared.Cause.{Cause}
use Rattle.answers.specs.Refusals.{answer, refuse}
use Rattle.answers.specs.Sizes.{tile_refusals}
use Rattle.answers.specs.Cells.{overwrite}
use Rattle.answers.specs.After.{After, after, room_refusals, tiled_for}
use Rattle.window.specs.declared.Window.{Window}
use Rattle.used.specs.Used.{use_refusals_in, spent, used_in}
use Rattle.used.specs.Promises.{AnswerableIn}
use Rattle.used.proofs.Laws.{used-said, used-by-lengths, used-within}
use Rattle.lutniorad.specs.declared.Answer.{Answer}
use Rattle.lutniorad.specs.Numbers.{values, refusing}
use Rattle.lutniorad.specs.Calls.{Call}
use Rattle.lutniorad.specs.Promises.{RefusalLeaves}
use Rattle.lutniorad.proofs.Crossing.{both-slices, unless-crossed}
use Rattle.lutniorad.proofs.Using.{used-numbered, used-answered, used-leaves, used-kept}
use Rattle.lutniorad.proofs.Capped.{capped-says, capped-kept, capped-within, capped-answered, capped-17}

-- from the contract of such a call to one outcome in numbers
pub tiled-use-crossed : (whole : Bool) {A : Type 0} (say : A → Answer) (refuse : Cause → ℕ → A) (done : A) (cells : List ℕ) (m top : ℕ) (keys : List ℕ) (classes : ℕ) (W : Window)
    (border out : List ℕ) {o : After A (List ℕ × List ℕ)} {r : Answer} {border' out' : List ℕ}
    → o ≡ tiled_for refuse m top (border, out) (used_in whole refuse done cells m keys classes W border out) → Call say o r (border', out')
    → after r (border', out')
    ≡ tiled_for (λ c p. say (refuse c p)) m top (border, out) (used_in whole (λ c p. say (refuse c p)) (say done) cells m keys classes W border out)
tiled-use-crossed whole say refuse done cells m top keys classes W border out is call =
    unless-crossed say refuse (tile_refusals m top) (border, out) _ is call
    ∙ ap (tiled_for (λ c p. say (refuse c p)) m top (border, out)) (used-said whole refuse done cells m keys classes W border out say)

module _ (whole : Bool) (first second : ℕ) (cells : List ℕ) (m top : ℕ) (keys : List ℕ) (classes : ℕ) (W : Window) (border out : List ℕ) {r : Answer} {border' out' : List ℕ}
    (call : after r (border', out') ≡ tiled_for refusing m top (border, out) (used_in whole refusing (values first second) cells m keys classes W border out)) where
  -- the first of refusals 1 and 17, and of 1 to 8, or the values; of the two slices only the lengths count
  pub tiled-says : r
      ≡ answer refusing (tile_refusals m top ++ (use_refusals_in whole m keys classes W (length border) ++ room_refusals (length out) (length cells))) (values first second)
  tiled-says = capped-says m top (border, out) _ call _ _ (used-by-lengths whole refusing (values first second) cells m keys classes W border out)

  -- with a cap up to m
  untiled : top ≤ m → after r (border', out') ≡ used_in whole refusing (values first second) cells m keys classes W border out
  untiled cap = call ∙ used-within whole refusing (values first second) cells m top keys classes W border out cap

  pub tiled-numbered : top ≤ m → r.refusal ≤ 8
  tiled-numbered cap = used-numbered whole first second cells m keys classes W border out (untiled cap)

  pub tiled-17 : (r.refusal ≡ 17) ↔ ((m ≤ 12) × (m < top))
  tiled-17 = capped-17 m top (border, out) _ call tiled-numbered

  pub tiled-answered : (r.refusal ≡ 0) ↔ ((top ≤ m) × (AnswerableIn whole m keys classes W (length border) × (length cells ≤ length out)))
  tiled-answered = capped-answered m top (border, out) _ call (λ cap. used-answered whole first second cells m keys classes W border out (untiled cap))

  -- an answered call returns the values, spends the border and writes the cells
  pub tiled-leaves : r.refusal ≡ 0 → (r ≡ values first second) × (border' ≡ spent W border) × (out' ≡ overwrite cells out)
  tiled-leaves z = used-leaves whole first second cells m keys classes W border out (untiled (tiled-answered.0 z).0) z

  -- a refused one leaves the slice as it was, and the border too, but that 8 spends it
  pub tiled-kept : (r.refusal ≡ 0 → ⊥) → RefusalLeaves W border out r border' out'
  tiled-kept held = go (dec_le top m)
    where
      go : Dec (top ≤ m) → RefusalLeaves W border out r border' out'
      go (yes cap) = used-kept whole first second cells m keys classes W border out (untiled cap) held
      go (no over) =
          let same = both-slices (capped-kept m top (border, out) _ call (omega arith)) in
          let not-8 : r.refusal ≡ 8 → top ≤ m = λ e. capped-within m top (border, out) _ call (λ z. omega (arith, e, z)) (λ z. omega (arith, e, z)) in
          record {
            out-kept = same.1;
            border-spent = λ e. absurd (over (not-8 e));
            border-kept = λ e. same.0;
          }
