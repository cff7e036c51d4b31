-- A part of a set in which no maximal block of the set is cut has the same blocks there. No block crosses a cut, a place where one of two neighbours is not in the set.
-- Assumes nothing.
use mathlib.Core.Path.{◌≡◌, sym, ap, ◌∙◌, subst}
use mathlib.Core.Bool.{Bool, true, false}
use mathlib.Core.List.{[], ◌∷◌, ◌++◌, map, map-append}
use Prim.Native.Nat.{ℕ, suc, ◌+◌, ◌-◌, ◌^◌, ◌≤◌, ◌<◌}
use native.Mathlib.Decide.{dec_lt}
use native.Mathlib.Omega.{arith}
use Rattle.lists.specs.Lists.{up_from, keep}
use Rattle.lists.proofs.Laws.{never, refuted, agree, up_next, up_in, up-append, map_same, keep_taken, keep_append, keep-none, keep_same}
use Rattle.key.specs.Places.{span_key}
use Rattle.stretch.specs.Promises.{Cut}
use Rattle.stretch.specs.Sets.{base, exponent_in, starts, between}
use Rattle.stretch.specs.Fewest.{maximal_in, key_from, fewest, stretch}
use Rattle.stretch.proofs.Fitting.{FitsIn}
use Rattle.stretch.proofs.Bases.{base-le, base-lt}
use Rattle.stretch.proofs.Around.{exponent-fits, exponent-part, first, starts_is, between_is}
use Rattle.stretch.proofs.Listed.{listed}

-- ---- places in two parts, and places that are not in the set

module _ (m : ℕ) (P : ℕ → Bool) where
  pub fewest-append : (a n k : ℕ) → fewest m P a (n + k) ≡ fewest m P a n ++ fewest m P (a + n) k
  unfolding fewest maximal_in
  fewest-append a n k =
      rw (up-append a n k, keep_append (starts m P) (up_from a n) (up_from (a + n) k))
      (map-append (key_from m P) (keep (starts m P) (up_from a n)) (keep (starts m P) (up_from (a + n) k)))

  pub fewest-empty : (a n : ℕ) → ((q : ℕ) → a ≤ q → q < a + n → starts m P q ≡ false) → fewest m P a n ≡ []
  unfolding fewest maximal_in
  fewest-empty a n h = rw (keep-none (starts m P) (up_from a n) (λ q l. let u = (up_in a n q).0 l in h q u.0 u.1))

  pub fewest-head : (a n : ℕ) → starts m P a ≡ true → fewest m P a (suc n) ≡ key_from m P a ∷ fewest m P (suc a) n
  unfolding fewest maximal_in
  fewest-head a n e = rw (up_next a n, keep_taken (starts m P) (up_from (suc a) n) e)

  pub not_start : {q : ℕ} → P q ≡ false → starts m P q ≡ false
  not_start {q} e = refuted _ (λ s. never (sym ((starts_is m P q).0 s).0 ∙ e))

-- ---- a part of a set in which no maximal block of the set is cut

pub record Part (m : ℕ) (P Q : ℕ → Bool) (x y : ℕ) : Type 0 where
  pub less : (q : ℕ) → Q q ≡ true → P q ≡ true
  pub same : (q : ℕ) → x ≤ q → q < y → P q ≡ true → Q q ≡ true
  pub stay : (q : ℕ) → x ≤ q → q < y → P q ≡ true → (x ≤ first m P q) × (first m P q + 4 ^ exponent_in m P q ≤ y)

module _ {m : ℕ} {P Q : ℕ → Bool} {x y : ℕ} (K : Part m P Q x y) where
  -- each place there has the same block in both
  part-exponent : (q : ℕ) → x ≤ q → q < y → P q ≡ true → exponent_in m Q q ≡ exponent_in m P q
  part-exponent q l h v =
      let s = K.stay q l h v in
      exponent-part m K.less (record { all = λ z k. K.same z (omega arith) (omega arith) ((exponent-fits m P v).all z k) })

  part-starts : (q : ℕ) → x ≤ q → q < y → starts m P q ≡ starts m Q q
  part-starts q l h = agree _ _ (to, from)
    where
      to : starts m P q ≡ true → starts m Q q ≡ true
      to e = let t = (starts_is m P q).0 e in (starts_is m Q q).1 (K.same q l h t.0, rw (part-exponent q l h t.0) t.1)

      from : starts m Q q ≡ true → starts m P q ≡ true
      from e = let t = (starts_is m Q q).0 e in let v = K.less q t.0 in (starts_is m P q).1 (v, rw (part-exponent q l h v) at t.1)

part-keys : {m : ℕ} {P Q : ℕ → Bool} {x : ℕ} (n : ℕ) → Part m P Q x (x + n) → map (key_from m P) (maximal_in m P x n) ≡ map (key_from m Q) (maximal_in m P x n)
unfolding key_from
part-keys {m} {P} {Q} {x} n K = map_same (maximal_in m P x n) (λ s l. let h = (listed m P x n s).0 l in sym (ap (key s) (part-exponent K s h.0.least h.0.most h.1)))
  where
    key : ℕ → ℕ → ℕ
    key s i = span_key m i s

part-fewest : {m : ℕ} {P Q : ℕ → Bool} {x : ℕ} (n : ℕ) → Part m P Q x (x + n) → fewest m P x n ≡ fewest m Q x n
unfolding fewest maximal_in
part-fewest {m} {P} {Q} {x} n K =
    let same = keep_same (starts m P) (starts m Q) (up_from x n) (λ q l. let u = (up_in x n q).0 l in part-starts K q u.0 u.1) in
    part-keys n K ∙ ap (map (key_from m Q)) same

-- a part that is all the places from x up to y
pub part-stretch : (m : ℕ) {P : ℕ → Bool} {x y : ℕ} → x ≤ y → Part m P (between x y) x y → fewest m P x (y - x) ≡ stretch m x y
unfolding stretch
part-stretch m {P} {x} {y} l K = let g : x + (y - x) ≡ y = omega arith in part-fewest (y - x) (subst (λ (z : ℕ). Part m P (between x y) x z) (sym g) K)

-- ---- where no block crosses

-- no block that lies in the set crosses a cut
module _ {P : ℕ → Bool} {x : ℕ} (C : Cut P x) {i q : ℕ} (f : FitsIn P i q) where
  cut_below : q < x → base i q + 4 ^ i ≤ x
  cut_below l = go (dec_lt x (base i q + 4 ^ i))
    where
      go : Dec (x < base i q + 4 ^ i) → base i q + 4 ^ i ≤ x
      go (yes d) = absurd (C.apart (x - 1) (omega arith) (f.all (x - 1) (omega (arith, base-le i q))) (f.all x (omega (arith, base-le i q))))
      go (no d) = omega arith

  cut-above : x ≤ q → x ≤ base i q
  cut-above l = go (dec_lt (base i q) x)
    where
      go : Dec (base i q < x) → x ≤ base i q
      go (yes d) = absurd (C.apart (x - 1) (omega arith) (f.all (x - 1) (omega (arith, base-lt i q))) (f.all x (omega (arith, base-lt i q))))
      go (no d) = omega arith

pub cut_out : {P : ℕ → Bool} {x : ℕ} → P x ≡ false → Cut P x
cut_out e = record { apart = λ q d a b. never (sym b ∙ e) }

pub cut-behind : {P : ℕ → Bool} {x y : ℕ} → suc x ≡ y → P x ≡ false → Cut P y
cut-behind {x = x} d e = record { apart = λ q g a b. let h : q ≡ x = omega arith in never (sym (rw h at a) ∙ e) }

-- a stretch of places that are all in the set, between two cuts
pub run-part : (m : ℕ) {P : ℕ → Bool} {x y : ℕ} → ((q : ℕ) → x ≤ q → q < y → P q ≡ true) → Cut P x → Cut P y → Part m P (between x y) x y
run-part m {P} {x} {y} along C D = record {
  less = λ q e. let h = (between_is x y q).0 e in along q h.0 h.1;
  same = λ q l h v. (between_is x y q).1 (l, h);
  stay = λ q l h v. let f = exponent-fits m P v in (cut-above C f l, cut_below D f h);
}
