-- A call with a cap on the exponent of blocks: which four numbers it returns, and what it leaves where the cap is over m.
-- Assumes nothing.
use mathlib.Core.Path.{◌≡◌, sym, ap, ◌∙◌}
use mathlib.Core.Logic.{◌↔◌}
use mathlib.Core.List.{List, ◌++◌}
use Prim.Native.Nat.{ℕ, ◌≤◌, ◌<◌}
use native.Mathlib.Decide.{dec_le, dec_lt}
use native.Mathlib.Omega.{arith}
use Rattle.answers.specs.Refusals as of
use Rattle.std.specs.Prelude.{Err}
use Rattle.answers.specs.declared.Refused.{Refused}
use Rattle.answers.specs.Refusals.{Refusal, answer, verdict}
use Rattle.answers.specs.Sizes.{tile_refusals}
use Rattle.answers.specs.After.{After, after, tiled_for}
use Rattle.answers.proofs.Laws.{answer-append, on-refused, tile-large, tile-over}
use Rattle.lutniorad.specs.declared.Answer.{Answer}
use Rattle.lutniorad.specs.Numbers.{refusing}
use Rattle.lutniorad.proofs.Told.{four, guarded-says}

module _ {S : Type 0} (m top : ℕ) (lent : S) (o : After Answer S) {r : Answer} {lent' : S} (call : after r lent' ≡ tiled_for refusing m top lent o) where
  -- the four numbers: the first of refusals 1 and 17 that holds, or what is said without them
  pub capped-says : (rs : List Refusal) (v : Answer) → o.answer ≡ answer refusing rs v → r ≡ answer refusing (tile_refusals m top ++ rs) v
  capped-says rs v said =
      guarded-says four (tile_refusals m top) lent o call
      ∙ ap (λ (x : Answer). answer refusing (tile_refusals m top) x) said
      ∙ sym (answer-append refusing (tile_refusals m top) rs v)

  given : {e : Refused} → verdict (tile_refusals m top) ≡ Err e → (r.refusal ≡ of.number e.cause) × (lent' ≡ lent)
  given e =
      let d = call ∙ on-refused _ (tile_refusals m top) o e in
      (ap (λ (x : After Answer S). x.answer.refusal) d, ap (λ (x : After Answer S). x.lent) d)

  -- where the cap is over m: refusal 1 or 17
  data Over : Type 0 where
    large : 12 < m → r.refusal ≡ 1 → Over
    over : m ≤ 12 → r.refusal ≡ 17 → Over

  capped-over : m < top → Over × (lent' ≡ lent)
  capped-over h = go (dec_lt 12 m)
    where
      go : Dec (12 < m) → Over × (lent' ≡ lent)
      go (yes l) = let g = given (tile-large m top l) in (large l g.0, g.1)
      go (no l) = let g = given (tile-over m top (omega arith) h) in (over (omega arith) g.0, g.1)

  -- all cells are then as they were
  pub capped-kept : m < top → lent' ≡ lent
  capped-kept h = (capped-over h).1

  -- an answer, and any other refusal, tells that it is not
  pub capped-within : (r.refusal ≡ 1 → ⊥) → (r.refusal ≡ 17 → ⊥) → top ≤ m
  capped-within one other = go (dec_le top m)
    where
      not : Over → ⊥
      not (large l e) = one e
      not (over l e) = other e

      go : Dec (top ≤ m) → top ≤ m
      go (yes l) = l
      go (no l) = absurd (not (capped-over (omega arith)).0)

  -- so an answer that is none of the two is one without them
  pub capped-answered : {Asked : Type 0} → (top ≤ m → (r.refusal ≡ 0) ↔ Asked) → (r.refusal ≡ 0) ↔ ((top ≤ m) × Asked)
  capped-answered within =
      let cap : r.refusal ≡ 0 → top ≤ m = λ z. capped-within (λ e. omega (arith, e, z)) (λ e. omega (arith, e, z)) in
      (λ z. (cap z, (within (cap z)).0 z), λ t. (within t.0).1 t.1)

  -- 17 is given exactly where m is not over 12 and the cap over m
  pub capped-17 : (top ≤ m → r.refusal ≤ 8) → (r.refusal ≡ 17) ↔ ((m ≤ 12) × (m < top))
  capped-17 most = (λ z. to z (dec_le top m), λ t. from t.0 (capped-over t.1).0)
    where
      to : r.refusal ≡ 17 → Dec (top ≤ m) → (m ≤ 12) × (m < top)
      to z (yes l) = absurd (omega (arith, most l, z))
      to z (no l) = go (capped-over (omega arith)).0
        where
          go : Over → (m ≤ 12) × (m < top)
          go (large h e) = absurd (omega (arith, e, z))
          go (over h e) = (h, omega arith)

      from : m ≤ 12 → Over → r.refusal ≡ 17
      from h (large l e) = absurd (omega arith)
      from h (over l e) = e
