-- A stretch of places from its start on: the largest block there, and then those of the rest.
-- Assumes nothing.
use mathlib.Core.Path.{◌≡◌, sym, ap, ◌∙◌}
use mathlib.Core.Bool.{Bool, true, false}
use mathlib.Core.List.{List, [], ◌∷◌}
use Prim.Native.Nat.{ℕ, suc, ◌+◌, ◌-◌, ◌^◌, ◌≤◌, ◌<◌}
use native.Mathlib.Decide.{dec_lt}
use native.Mathlib.Omega.{arith}
use Rattle.lists.proofs.Laws.{refuted}
use Rattle.key.specs.Blocks.{Names}
use Rattle.key.specs.Places.{span_key}
use Rattle.key.proofs.Laws.{pow-least, size-le, block-lies, aligned-start, span_key_lem, span-named}
use Rattle.stretch.specs.Sets.{base, exponent_in, starts, between}
use Rattle.stretch.specs.Fewest.{key_from, stretch}
use Rattle.stretch.proofs.Bases.{base-le, base-own}
use Rattle.stretch.proofs.Around.{exponent-le, exponent-fits, exponent-max, first, lies-first, first-among, first-in, starts_is, between_is, between-fits}
use Rattle.stretch.proofs.Parts.{fewest-append, fewest-empty, fewest-head, Part, part-stretch}

pub stretch-none : (m : ℕ) {a b : ℕ} → b ≤ a → stretch m a b ≡ []
unfolding stretch
stretch-none m {a} {b} l = fewest-empty m (between a b) a (b - a) (λ q h k. absurd (omega arith))

module _ (m : ℕ) {a b : ℕ} (l : a < b) where
  abbrev P : ℕ → Bool
  P = between a b

  abbrev e : ℕ
  e = exponent_in m P a

  has : P a ≡ true
  has = (between_is a b a).1 (omega arith)

  pub next-aligned : base e a ≡ a
  next-aligned = omega (arith, (between-fits a b).0 (exponent-fits m P has), base-le e a)

  pub next-room : a + 4 ^ e ≤ b
  next-room = omega (arith, (between-fits a b).0 (exponent-fits m P has), next-aligned)

  -- in the first block no other block starts
  quiet : (q : ℕ) → suc a ≤ q → q < suc a + (4 ^ e - 1) → starts m P q ≡ false
  quiet q h k =
      refuted _
      (λ s. let z = lies-first m P {q = q} has (omega (arith, next-aligned)) in omega (arith, z.2, ((starts_is m P q).0 s).1, next-aligned))

  -- behind it no block of the whole reaches back
  behind : Part m P (between (a + 4 ^ e) b) (a + 4 ^ e) b
  behind = record {
    less = λ q t. let h = (between_is (a + 4 ^ e) b q).0 t in (between_is a b q).1 (omega arith);
    same = λ q h k v. (between_is (a + 4 ^ e) b q).1 (h, k);
    stay = λ q h k v. let f = (between-fits a b).0 (exponent-fits m P v) in (clear q h v f.0 (dec_lt (first m P q) (a + 4 ^ e)), f.1);
  }
    where
      clear : (q : ℕ) → a + 4 ^ e ≤ q → P q ≡ true → a ≤ first m P q → Dec (first m P q < a + 4 ^ e) → a + 4 ^ e ≤ first m P q
      clear q h v g (yes d) =
          let f = first-in m P v in
          let z = lies-first m P {q = first m P q} has (omega (arith, next-aligned)) in
          let t : exponent_in m P q ≡ e = sym f.1 ∙ z.1 in
          absurd (omega (arith, ap (λ (i : ℕ). 4 ^ i) t, first-among m P q, f.2, z.2, next-aligned))
      clear q h v g (no d) = omega arith

  pub stretch-next : stretch m a b ≡ span_key m e a ∷ stretch m (a + 4 ^ e) b
  unfolding stretch key_from
  stretch-next =
      let p = pow-least 3 e in
      let c : ℕ = a + 4 ^ e in
      let k : ℕ = 4 ^ e - 1 in
      let all : b - a ≡ suc k + (b - c) = omega (arith, next-room) in
      let d : a + suc k ≡ c = omega arith in
      let none = fewest-empty m P (suc a) k quiet in
      let one = fewest-head m P a k ((starts_is m P a).1 (has, next-aligned)) ∙ ap (λ (ks : List ℕ). key_from m P a ∷ ks) none in
      rw (all, fewest-append m P a (suc k) (b - c), d, one, part-stretch m next-room behind)

  -- it has this key
  pub next-named : b ≤ 4 ^ m → Names m (span_key m e a) e a
  next-named h = span-named (exponent-le m P a) ((base-own e a).0 next-aligned) (omega arith)

-- a whole block is one: itself
pub stretch-whole : {m key i s : ℕ} → Names m key i s → stretch m s (s + 4 ^ i) ≡ key ∷ []
stretch-whole {m} {key} {i} {s} b =
    let p = pow-least 3 i in
    let own : base i s ≡ s = (base-own i s).1 (aligned-start b) in
    let l : s < s + 4 ^ i = omega arith in
    let j : ℕ = exponent_in m (between s (s + 4 ^ i)) s in
    let up : i ≤ j = exponent-max m (between s (s + 4 ^ i)) (block-lies b).small ((between-fits s (s + 4 ^ i)).1 (omega arith)) in
    let down : j ≤ i = (size-le j i).1 (omega (arith, next-room m l)) in
    let e : j ≡ i = omega arith in
    stretch-next m l ∙ rw (e, ← span_key_lem b, stretch-none m {a = s + 4 ^ i} {b = s + 4 ^ i} (omega arith))
