-- The largest block around a place that lies in a set: its exponent, its first place, and that it is the same in any part of the set that has it.
-- Assumes nothing.
use mathlib.Core.Path.{◌≡◌, refl, sym}
use mathlib.Core.Logic.{◌↔◌, ◌⊎◌, inl, inr}
use mathlib.Core.Bool.{Bool, true}
use Prim.Native.Nat.{ℕ, zero, suc, ◌+◌, ◌-◌, ◌^◌, ◌≤◌, ◌<◌}
use native.Mathlib.Nat.{eq-or-lt_of_le}
use native.Mathlib.Omega.{arith}
use lib.Dec.{eqb}
use borrow.Author.Tests.{eqb-true, eq-eqb}
use Rattle.lists.specs.Lists.{greatest}
use Rattle.lists.proofs.Laws.{both, in-range, greatest-le, greatest-holds, greatest-over}
use Rattle.key.specs.Blocks.{Among}
use Rattle.key.proofs.Laws.{pow-least}
use Rattle.stretch.specs.Sets.{base, full, fits_in, exponent_in, starts, between}
use Rattle.stretch.proofs.Fitting.{FitsIn}
use Rattle.stretch.proofs.Bases.{base-le, base-lt, base-zero, base-up, base-eq}

-- ---- a block that lies in a set

full_is : (P : ℕ → Bool) (a n : ℕ) → (full P a n ≡ true) ↔ ((q : ℕ) → Among a n q → P q ≡ true)
unfolding full
full_is P a zero = (λ e q h. absurd (omega arith), λ h. refl)
full_is P a (suc n) =
    let t = both (P a) (full P (suc a) n) in
    let ih = full_is P (suc a) n in
    (λ e q h. go (t.0 e).0 (ih.0 (t.0 e).1) q h (eq-or-lt_of_le h.least), λ h. t.1 (h a (omega arith), ih.1 (λ q k. h q (omega arith))))
  where
    go : P a ≡ true → ((q : ℕ) → Among (suc a) n q → P q ≡ true) → (q : ℕ) → Among a (suc n) q → (a ≡ q) ⊎ (a < q) → P q ≡ true
    go e ih q h (inl d) = rw (← d) e
    go e ih q h (inr d) = ih q (omega arith)

module _ {P : ℕ → Bool} where
  fits-is : (i q : ℕ) → (fits_in P i q ≡ true) ↔ FitsIn P i q
  unfolding fits_in
  fits-is i q = let h = full_is P (base i q) (4 ^ i) in (λ e. record { all = h.0 e }, λ f. h.1 f.all)

  pub fits-own : {i q : ℕ} → FitsIn P i q → P q ≡ true
  fits-own {i} {q} f = f.all q (omega (arith, base-le i q, base-lt i q))

  fits-zero : {q : ℕ} → P q ≡ true → FitsIn P 0 q
  fits-zero {q} e = record { all = λ x h. let d : x ≡ q = omega (arith, base-zero q) in rw d e }

  fits-same : {i x y : ℕ} → base i x ≡ base i y → FitsIn P i x → FitsIn P i y
  fits-same e f = record { all = λ q h. f.all q (rw e h) }

-- a larger set
fits_more : {P Q : ℕ → Bool} → ((q : ℕ) → Q q ≡ true → P q ≡ true) → {i q : ℕ} → FitsIn Q i q → FitsIn P i q
fits_more k f = record { all = λ x h. k x (f.all x h) }

-- ---- the largest one around a place

module _ (m : ℕ) (P : ℕ → Bool) where
  pub exponent-le : (q : ℕ) → exponent_in m P q ≤ m
  unfolding exponent_in
  exponent-le q = greatest-le (λ i. fits_in P i q) m

  pub exponent-fits : {q : ℕ} → P q ≡ true → FitsIn P (exponent_in m P q) q
  unfolding exponent_in
  exponent-fits {q} e = (fits-is _ q).0 (greatest-holds (λ i. fits_in P i q) m ((fits-is 0 q).1 (fits-zero e)))

  pub exponent-max : {j q : ℕ} → j ≤ m → FitsIn P j q → j ≤ exponent_in m P q
  unfolding exponent_in
  exponent-max {j} {q} l f =
      let n : ¬ (greatest (λ i. fits_in P i q) m < j) = λ g. greatest-over (λ i. fits_in P i q) m j g l ((fits-is j q).1 f) in
      omega arith

  -- the first place of q's block
  abbrev pub first : ℕ → ℕ
  first q = base (exponent_in m P q) q

  -- two places of one block have it in common
  pub exponent_same : {x : ℕ} (y : ℕ) → P x ≡ true → base (exponent_in m P x) x ≡ base (exponent_in m P x) y → exponent_in m P x ≡ exponent_in m P y
  exponent_same {x} y v e =
      let i : ℕ = exponent_in m P x in
      let fx : FitsIn P i x = exponent-fits v in
      let fy : FitsIn P i y = fits-same e fx in
      let h : i ≤ exponent_in m P y = exponent-max (exponent-le x) fy in
      let up : base (exponent_in m P y) x ≡ base (exponent_in m P y) y = base-up i (exponent_in m P y) x y h e in
      let k = exponent-max (exponent-le y) (fits-same (sym up) (exponent-fits (fits-own fy))) in
      omega arith

  -- q is one of the places of x's block
  pub lies-first : {x q : ℕ} → P x ≡ true → Among (first x) (4 ^ exponent_in m P x) q → (P q ≡ true) × (exponent_in m P q ≡ exponent_in m P x) × (first q ≡ first x)
  lies-first {x} {q} v h =
      let b = base-eq (exponent_in m P x) x q h.least h.most in
      let e = exponent_same q v (sym b) in
      ((exponent-fits v).all q h, sym e, rw (← e) b)

  pub first-among : (q : ℕ) → Among (first q) (4 ^ exponent_in m P q) q
  first-among q = omega (arith, base-le (exponent_in m P q) q, base-lt (exponent_in m P q) q)

  pub first-in : {q : ℕ} → P q ≡ true → (P (first q) ≡ true) × (exponent_in m P (first q) ≡ exponent_in m P q) × (first (first q) ≡ first q)
  first-in {q} v = lies-first v (omega (arith, pow-least 3 (exponent_in m P q)))

  pub starts_is : (q : ℕ) → (starts m P q ≡ true) ↔ ((P q ≡ true) × (first q ≡ q))
  unfolding starts
  starts_is q = let t = both (P q) (eqb (first q) q) in (λ e. ((t.0 e).0, eqb-true _ _ (t.0 e).1), λ e. t.1 (e.0, eq-eqb _ _ e.1))

-- in a part of the set that has q's block, it is q's block too
pub exponent-part : (m : ℕ) {P Q : ℕ → Bool} {q : ℕ} → ((x : ℕ) → Q x ≡ true → P x ≡ true) → FitsIn Q (exponent_in m P q) q → exponent_in m Q q ≡ exponent_in m P q
exponent-part m {P} {Q} {q} k f =
    let h = exponent-max m Q (exponent-le m P q) f in
    let l = exponent-max m P (exponent-le m Q q) (fits_more k (exponent-fits m Q (fits-own f))) in
    omega arith

-- ---- the places from a up to b

module _ (a b : ℕ) where
  pub between_is : (q : ℕ) → (between a b q ≡ true) ↔ ((a ≤ q) × (q < b))
  unfolding between
  between_is = in-range a b

  pub between-fits : {i q : ℕ} → FitsIn (between a b) i q ↔ ((a ≤ base i q) × (base i q + 4 ^ i ≤ b))
  between-fits {i} {q} = (to, λ h. record { all = λ x k. (between_is x).1 (omega arith) })
    where
      to : FitsIn (between a b) i q → (a ≤ base i q) × (base i q + 4 ^ i ≤ b)
      to f =
          let p = pow-least 3 i in
          let l = (between_is (base i q)).0 (f.all (base i q) (omega arith)) in
          let h = (between_is (base i q + (4 ^ i - 1))).0 (f.all (base i q + (4 ^ i - 1)) (omega arith)) in
          omega arith
