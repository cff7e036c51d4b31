-- Run by run: the fewest blocks of a set are those of its maximal runs, one after another.
-- Assumes nothing.
use mathlib.Core.Path.{◌≡◌, refl, ◌∙◌}
use mathlib.Core.Logic.{◌⊎◌, inl, inr}
use mathlib.Core.Bool.{Bool, true, false, cond}
use mathlib.Core.List.{List, [], ◌∷◌, ◌++◌}
use Prim.Native.Nat.{ℕ, zero, suc, ◌+◌, ◌-◌, ◌≤◌, ◌<◌}
use native.Mathlib.Decide.{ℕ_discrete}
use native.Mathlib.Nat.{eq-or-lt_of_le}
use native.Mathlib.Omega.{arith}
use lib.Dec.{eqb}
use borrow.Author.Tests.{eq-eqb, ne_eqb}
use Rattle.key.specs.Blocks.{Among}
use Rattle.stretch.specs.Promises.{joined, runs, stretches, Cut, NextRun, Runs, last, next}
use Rattle.stretch.specs.Fewest.{fewest, stretch}
use Rattle.stretch.proofs.Parts.{fewest-append, fewest-empty, not_start, part-stretch, cut_out, cut-behind, run-part}

-- ---- run by run

module _ (m : ℕ) {P : ℕ → Bool} {at end x y : ℕ} (R : NextRun P at end x y) (C : Cut P at) (D : Cut P end) where
  run-cut : Cut P x
  run-cut = go (eq-or-lt_of_le R.low)
    where
      go : (at ≡ x) ⊎ (at < x) → Cut P x
      go (inl e) = rw e at C
      go (inr l) = cut-behind {x = x - 1} (omega arith) (R.ahead (x - 1) (omega arith) (omega arith))

  pub run_end : Cut P y
  run_end = go (eq-or-lt_of_le R.high)
    where
      go : (y ≡ end) ⊎ (y < end) → Cut P y
      go (inl e) = rw e D
      go (inr l) = cut_out (R.past l)

  -- the blocks of the run, and then those behind it
  pub run-next : fewest m P at (end - at) ≡ stretch m x y ++ fewest m P y (end - y)
  run-next =
      let e : end - at ≡ x - at + (y - x + (end - y)) = omega (arith, R) in
      let d : at + (x - at) ≡ x = omega (arith, R) in
      let g : x + (y - x) ≡ y = omega (arith, R) in
      let none = fewest-empty m P at (x - at) (λ q l h. not_start m P (R.ahead q l (omega (arith, R)))) in
      let own = part-stretch m (omega (arith, R)) (run-part m R.along run-cut run_end) in
      rw (e, fewest-append m P at (x - at) (y - x + (end - y)), d, fewest-append m P x (y - x) (end - y), g, none, own)

-- ---- gaps: the places from `at` up to t are in the set, those from t up to u are not

module _ (m : ℕ) {P : ℕ → Bool} {at t : ℕ} (l : at ≤ t) (along : (q : ℕ) → at ≤ q → q < t → P q ≡ true) (C : Cut P at) where
  -- the last gap
  pub gap-last : Cut P t → fewest m P at (t - at) ≡ stretch m at t
  gap-last D = part-stretch m l (run-part m along C D)

  -- the blocks of a gap, and then those behind u
  pub gap-next : {u end : ℕ} → t < u → u ≤ end → ((q : ℕ) → t ≤ q → q < u → P q ≡ false) → fewest m P at (end - at) ≡ stretch m at t ++ fewest m P u (end - u)
  gap-next {u} {end} h k out =
      let e : end - at ≡ t - at + (u - t + (end - u)) = omega arith in
      let d : at + (t - at) ≡ t = omega arith in
      let g : t + (u - t) ≡ u = omega arith in
      let none = fewest-empty m P t (u - t) (λ q y z. not_start m P (out q y (omega arith))) in
      rw (e, fewest-append m P at (t - at) (u - t + (end - u)), d, fewest-append m P t (u - t) (end - u), g, gap-last (cut_out (out t (omega arith) h)), none)

pub stretches-none : (m : ℕ) → stretches m [] ≡ []
unfolding stretches
stretches-none m = refl

pub stretches-next : (m : ℕ) (r : ℕ × ℕ) (rs : List (ℕ × ℕ)) → stretches m (r ∷ rs) ≡ stretch m r.0 r.1 ++ stretches m rs
unfolding stretches
stretches-next m r rs = refl

-- the fewest blocks of a set are those of its runs, one after another
pub runs-fewest : (m : ℕ) {P : ℕ → Bool} {end at : ℕ} {rs : List (ℕ × ℕ)} → Runs P end at rs → Cut P at → Cut P end → fewest m P at (end - at) ≡ stretches m rs
unfolding stretches
runs-fewest m {P} {end} {at} (last h) C D = fewest-empty m P at (end - at) (λ q l k. not_start m P (h q l (omega arith)))
runs-fewest m (next {y = y} R N) C D = run-next m R C D ∙ rw (runs-fewest m N (run_end m R C D) D)

-- ---- the runs, as they are computed

-- a place that is not in the set
more-out : {P : ℕ → Bool} {a end : ℕ} {rs : List (ℕ × ℕ)} → P a ≡ false → Runs P end (suc a) rs → Runs P end a rs
more-out {P} {a} {end} e (last h) = last (λ q l k. go q l k (eq-or-lt_of_le l))
  where
    go : (q : ℕ) → a ≤ q → q < end → (a ≡ q) ⊎ (a < q) → P q ≡ false
    go q l k (inl d) = rw (← d) e
    go q l k (inr d) = h q d k
more-out {P} {a} {end} e (next {x = x} {y = y} R N) = next {at = a} {x = x} {y = y} (record {
  low = omega (arith, R);
  some = R.some;
  high = R.high;
  ahead = λ q l k. go q l k (eq-or-lt_of_le l);
  along = R.along;
  past = R.past;
}) N
  where
    go : (q : ℕ) → a ≤ q → q < x → (a ≡ q) ⊎ (a < q) → P q ≡ false
    go q l k (inl d) = rw (← d) e
    go q l k (inr d) = R.ahead q d k

-- and one that is
module _ {P : ℕ → Bool} {a end : ℕ} (e : P a ≡ true) (l : a < end) where
  -- alone
  lone : {rs : List (ℕ × ℕ)} → (suc a < end → P (suc a) ≡ false) → Runs P end (suc a) rs → Runs P end a ((a, suc a) ∷ rs)
  lone past N = next {at = a} {x = a} {y = suc a} (record {
    low = omega arith;
    some = omega arith;
    high = l;
    ahead = λ q h k. absurd (omega arith);
    along = λ q h k. let d : q ≡ a = omega arith in rw d e;
    past = past;
  }) N

  more-in : {rs : List (ℕ × ℕ)} → Runs P end (suc a) rs → Runs P end a (joined a rs)
  unfolding joined
  more-in (last h) = lone (λ k. h (suc a) (omega arith) k) (last h)
  more-in (next {x = x} {y = y} {rs = rs} R N) = go (ℕ_discrete x (suc a))
    where
      longer : x ≡ suc a → (q : ℕ) → a ≤ q → q < y → (a ≡ q) ⊎ (a < q) → P q ≡ true
      longer d q h k (inl g) = rw (← g) e
      longer d q h k (inr g) = R.along q (omega arith) k

      go : Dec (x ≡ suc a) → Runs P end a (cond (eqb x (suc a)) ((a, y) ∷ rs) ((a, suc a) ∷ (x, y) ∷ rs))
      go (yes d) = rw (eq-eqb x (suc a) d) (next {at = a} {x = a} {y = y} (record {
        low = omega arith;
        some = omega (arith, R);
        high = R.high;
        ahead = λ q h k. absurd (omega arith);
        along = λ q h k. longer d q h k (eq-or-lt_of_le h);
        past = R.past;
      }) N)
      go (no d) = rw (ne_eqb x (suc a) d) (lone (λ k. R.ahead (suc a) (omega arith) (omega (arith, R))) (next R N))

pub runs-are : (P : ℕ → Bool) (a n : ℕ) → Runs P (a + n) a (runs P a n)
unfolding runs
runs-are P a zero = last (λ q (l : a ≤ q) (h : q < a + 0). absurd (omega arith))
runs-are P a (suc n) = let d : suc a + n ≡ a + suc n = omega arith in go (P a) refl (rw d at (runs-are P (suc a) n))
  where
    go : (t : Bool) → P a ≡ t → Runs P (a + suc n) (suc a) (runs P (suc a) n) → Runs P (a + suc n) a (cond t (joined a (runs P (suc a) n)) (runs P (suc a) n))
    go true e N = more-in e (omega arith) N
    go false e N = more-out e N

-- so a set that has places only there is made up, with the fewest blocks, run by run
pub fewest-runs : (m : ℕ) (P : ℕ → Bool) (a n : ℕ) → ((q : ℕ) → P q ≡ true → Among a n q) → fewest m P a n ≡ stretches m (runs P a n)
fewest-runs m P a n here =
    let e : a + n - a ≡ n = omega arith in
    let first : Cut P a = record { apart = λ q d u v. omega (arith, here q u) } in
    let end : Cut P (a + n) = record { apart = λ q d u v. omega (arith, here (a + n) v) } in
    rw e at (runs-fewest m (runs-are P a n) first end)
