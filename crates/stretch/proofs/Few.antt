-- A stretch of places in one block of exponent i takes at most 6 i + 1 blocks. One of exponent e below i is one of four in a block that sticks out of the stretch, at its start or
-- at its end. There is one such block at each end, and at most three of its four lie in the stretch.
-- Assumes nothing.
use mathlib.Core.Path.{◌≡◌, refl, sym, ap, ap₂, ◌∙◌}
use mathlib.Core.Logic.{◌⊎◌, inl, inr}
use mathlib.Core.Bool.{Bool}
use mathlib.Core.List.{Memᴰ}
use Prim.Native.Nat.{ℕ, suc, ◌+◌, ◌-◌, ◌*◌, ◌/◌, ◌%◌, ◌^◌, ◌≤◌, ◌<◌}
use native.Mathlib.Decide.{dec_le}
use native.Mathlib.Nat.{eq-or-lt_of_le, mod-lt, pow-suc}
use native.Mathlib.Omega.{arith}
use lib.Dec.{lit<}
use lib.ListN.{length, length-map}
use Rattle.lists.specs.Lists.{up_from}
use Rattle.lists.proofs.Laws.{rising-distinct, pigeon, up_in, up-length}
use Rattle.key.proofs.Laws.{size-le}
use Rattle.stretch.specs.Sets.{base, exponent_in, between}
use Rattle.stretch.specs.Fewest.{maximal_in, key_from, fewest, stretch}
use Rattle.stretch.proofs.Bases.{base-le, base-lt, base-eq, base-digit}
use Rattle.stretch.proofs.Around.{exponent-fits, exponent-max, between-fits}
use Rattle.stretch.proofs.Listed.{listed, maximal-rising}

module _ (m a b i : ℕ) (small : i ≤ m) (room : b ≤ base i a + 4 ^ i) where
  abbrev P : ℕ → Bool
  P = between a b

  -- a listed block
  record Known (s : ℕ) : Type 0 where
    own : base (exponent_in m P s) s ≡ s
    low : a ≤ s
    high : s + 4 ^ exponent_in m P s ≤ b

  known : {s : ℕ} → Memᴰ s (maximal_in m P a (b - a)) → Known s
  known {s} l =
      let h = (listed m P a (b - a) s).0 l in
      let f = (between-fits a b).0 (exponent-fits m P h.1) in
      record { own = h.2; low = omega (arith, h.0); high = omega (arith, h.2) }

  -- the whole block, or one of three at the start or at the end
  data Code (s n : ℕ) : Type 0 where
    whole : exponent_in m P s ≡ i → n ≡ 6 * i → Code s n
    left : {d : ℕ} → exponent_in m P s < i → d < 3 → s ≡ base (suc (exponent_in m P s)) a + suc d * 4 ^ exponent_in m P s → n ≡ 6 * exponent_in m P s + d → Code s n
    right : {d : ℕ} → exponent_in m P s < i → d < 3 → s ≡ base (suc (exponent_in m P s)) b + d * 4 ^ exponent_in m P s → n ≡ 6 * exponent_in m P s + 3 + d → Code s n

  code-less : {s n : ℕ} → Code s n → n < 6 * i + 1
  code-less (whole e d) = omega arith
  code-less (left l h e d) = omega arith
  code-less (right l h e d) = omega arith

  code_of : {s : ℕ} → Known s → (n : ℕ) × Memᴰ n (up_from 0 (6 * i + 1)) × Code s n
  code_of {s} K = go (eq-or-lt_of_le ((size-le (exponent_in m P s) i).1 (omega (arith, K, room, base-le i a))))
    where
      e : ℕ
      e = exponent_in m P s

      d : ℕ
      d = s / 4 ^ e % 4

      u : ℕ
      u = base (suc e) s

      is : s ≡ u + d * 4 ^ e
      is = sym K.own ∙ base-digit e s

      digit : d < 4
      digit = mod-lt (s / 4 ^ e) (lit< tt)

      q : 4 ^ suc e ≡ 4 * 4 ^ e
      q = pow-suc 4 e ∙ omega arith

      some : {n : ℕ} → Code s n → (n : ℕ) × Memᴰ n (up_from 0 (6 * i + 1)) × Code s n
      some {n} c = (n, (up_in 0 (6 * i + 1) n).1 (omega (arith, code-less c)), c)

      -- at the start not the first of four lies in the stretch, at the end not the last
      first-not : u < a → d ≡ 0 → ⊥
      first-not h z = omega (arith, K.low, is, ap (λ (x : ℕ). x * 4 ^ e) z)

      last-not : b < u + 4 ^ suc e → d ≡ 3 → ⊥
      last-not h z = omega (arith, K.high, is, q, ap (λ (x : ℕ). x * 4 ^ e) z)

      -- the next larger block sticks out
      out : e < i → Dec (a ≤ u) → Dec (u + 4 ^ suc e ≤ b) → (n : ℕ) × Memᴰ n (up_from 0 (6 * i + 1)) × Code s n
      out l (yes g) (yes h) = absurd (omega (arith, exponent-max m P {j = suc e} {q = s} (omega (arith, small)) ((between-fits a b).1 (g, h))))
      out l (no g) h =
          let at : base (suc e) a ≡ u = base-eq (suc e) s a (omega arith) (omega (arith, K.low, base-lt (suc e) s)) in
          let c : d ≡ suc (d - 1) = omega (arith, first-not (omega arith)) in
          some (left {d = d - 1} l (omega (arith, digit)) (is ∙ rw (at, ← c)) refl)
      out l (yes g) (no h) =
          let at : base (suc e) b ≡ u = base-eq (suc e) s b (omega (arith, K.high, base-le (suc e) s)) (omega arith) in
          some (right {d = d} l (omega (arith, digit, last-not (omega arith))) (is ∙ rw at) refl)

      go : (e ≡ i) ⊎ (e < i) → (n : ℕ) × Memᴰ n (up_from 0 (6 * i + 1)) × Code s n
      go (inl g) = some (whole g refl)
      go (inr l) = out l (dec_le a u) (dec_le (u + 4 ^ suc e) b)

  code_one : {s t n : ℕ} → Known s → Known t → Code s n → Code t n → s ≡ t
  code_one {s} {t} K L (whole e f) (whole e' f') = omega (arith, K, L, room, base-le i a, ap (λ (x : ℕ). 4 ^ x) e, ap (λ (x : ℕ). 4 ^ x) e')
  code_one K L (left {d = d} l h e f) (left {d = d'} l' h' e' f') = e ∙ ap₂ (λ (x c : ℕ). base (suc x) a + suc c * 4 ^ x) (omega arith) (omega arith) ∙ sym e'
  code_one K L (right {d = d} l h e f) (right {d = d'} l' h' e' f') = e ∙ ap₂ (λ (x c : ℕ). base (suc x) b + c * 4 ^ x) (omega arith) (omega arith) ∙ sym e'
  code_one K L (whole e f) (left l h g k) = absurd (omega arith)
  code_one K L (whole e f) (right l h g k) = absurd (omega arith)
  code_one K L (left l h g k) (whole e f) = absurd (omega arith)
  code_one K L (right l h g k) (whole e f) = absurd (omega arith)
  code_one K L (left l h g k) (right l' h' g' k') = absurd (omega arith)
  code_one K L (right l h g k) (left l' h' g' k') = absurd (omega arith)

  pub stretch-few : length (stretch m a b) ≤ 6 * i + 1
  unfolding stretch fewest
  stretch-few =
      omega (
        arith,
        up-length 0 (6 * i + 1),
        length-map (maximal_in m P a (b - a)) (key_from m P),
        pigeon Code (up_from 0 (6 * i + 1)) (rising-distinct (maximal-rising m P a (b - a)))
            (λ s l. code_of (known l)) (λ s t n l l' x y. code_one (known l) (known l') x y),
      )
