-- No fewer blocks make up a set than its maximal blocks, and as many only if they are these. A block that has the first place of a maximal block lies in it; so the blocks of
-- another list are no fewer, and where they are as many, each is all of its maximal block.
-- Assumes nothing.
use mathlib.Core.Path.{◌≡◌, sym, ◌∙◌, subst}
use mathlib.Core.Bool.{Bool, true}
use mathlib.Core.List.{List, Memᴰ}
use Prim.Native.Nat.{ℕ, ◌+◌, ◌-◌, ◌^◌, ◌≤◌, ◌<◌}
use native.Mathlib.Omega.{arith}
use lib.ListN.{length, length-map}
use Rattle.lists.specs.Lists.{Ordered}
use Rattle.lists.proofs.Laws.{rising-distinct, pigeon, pigeon-onto, same-rising}
use Rattle.key.specs.Blocks.{Among}
use Rattle.key.proofs.Laws.{one_block, one_key, pow-least, size-le}
use Rattle.stretch.specs.Promises.{LiesInSet, Has, MakesUp}
use Rattle.stretch.specs.Sets.{exponent_in}
use Rattle.stretch.specs.Fewest.{maximal_in, key_from, fewest}
use Rattle.stretch.proofs.Around.{first, lies-first, first-among}
use Rattle.stretch.proofs.Listed.{listed, maximal-rising, one-first, named, fewest-in, fewest-rising}

module _ (m : ℕ) (P : ℕ → Bool) (low : (q : ℕ) → P q ≡ true → q < 4 ^ m) (a n : ℕ) {ks : List ℕ} (M : MakesUp m P ks) where
  -- a block of the list that has the first place of a maximal block
  Begins : ℕ → ℕ → Type 0
  Begins s k = LiesInSet m P k × Has m s k

  begins : (s : ℕ) → Memᴰ s (maximal_in m P a n) → (k : ℕ) × Memᴰ k ks × Begins s k
  unfolding Begins
  begins s l = let t = M.all s ((listed m P a n s).0 l).1 in (t.0, t.1, (M.inside t.0 t.1, t.2))

  one : (s t k : ℕ) → Memᴰ s (maximal_in m P a n) → Memᴰ t (maximal_in m P a n) → Begins s k → Begins t k → s ≡ t
  unfolding Begins
  one s t k l l' b c = sym ((listed m P a n s).0 l).2 ∙ (one-first m P b.0 b.1 c.1).0 ∙ ((listed m P a n t).0 l').2

  pub fewest-least : length (fewest m P a n) ≤ length ks
  unfolding fewest
  fewest-least = rw (length-map (maximal_in m P a n) (key_from m P)) (pigeon Begins ks (rising-distinct (maximal-rising m P a n)) begins one)

  -- as many, and each is all of a maximal block
  module _ (few : length ks ≤ length (fewest m P a n)) where
    each : (k : ℕ) → Memᴰ k ks → (s : ℕ) × Memᴰ s (maximal_in m P a n) × Begins s k
    unfolding fewest
    each = pigeon-onto Begins ks (rising-distinct (maximal-rising m P a n)) begins one (rw (length-map (maximal_in m P a n) (key_from m P)) at few)

    -- the one that has the last place of a maximal block has its first too
    whole : (s : ℕ) → Memᴰ s (maximal_in m P a n) → (k : ℕ) × Memᴰ k ks × LiesInSet m P k × Has m s k × Has m (s + (4 ^ exponent_in m P s - 1)) k
    unfolding Begins
    whole s l =
        let h = (listed m P a n s).0 l in
        let q : ℕ = s + (4 ^ exponent_in m P s - 1) in
        let here : Among s (4 ^ exponent_in m P s) q = omega (arith, pow-least 3 (exponent_in m P s)) in
        let z = lies-first m P {q = q} h.1 (rw h.2 here) in
        let t = M.all q z.0 in
        let b = each t.0 t.1 in
        let e : b.0 ≡ s = sym ((listed m P a n b.0).0 b.1).2 ∙ (one-first m P b.2.0 b.2.1 t.2).0 ∙ z.2 ∙ h.2 in
        (t.0, t.1, b.2.0, subst (λ (x : ℕ). Has m x t.0) e b.2.1, t.2)

    -- so it is that block
    own : (s : ℕ) → Memᴰ s (maximal_in m P a n) → Memᴰ (key_from m P s) ks
    own s l = subst (λ (k : ℕ). Memᴰ k ks) (one_key (rw (is.0, is.1) at L.names) (named m P low h.1 h.2)) w.1
      where
        h : Among a n s × (P s ≡ true) × (first m P s ≡ s)
        h = (listed m P a n s).0 l

        w : (k : ℕ) × Memᴰ k ks × LiesInSet m P k × Has m s k × Has m (s + (4 ^ exponent_in m P s - 1)) k
        w = whole s l

        L : LiesInSet m P w.0
        L = w.2

        among : {q : ℕ} → Has m q w.0 → Among L.start (4 ^ L.exponent) q
        among k = let o = one_block L.names k.names in rw (o.0, o.1) k.has

        has : (q : ℕ) → Among L.start (4 ^ L.exponent) q → Has m q w.0
        has q k = record { exponent = L.exponent; start = L.start; names = L.names; has = k }

        is : (L.exponent ≡ exponent_in m P s) × (L.start ≡ s)
        is =
            let z : ℕ = L.start + (4 ^ L.exponent - 1) in
            let p = pow-least 3 L.exponent in
            let low_end = one-first m P L (has L.start (omega arith)) w.3 in
            let high_end = one-first m P L (has z (omega arith)) w.3 in
            let x = first-among m P L.start in
            let y : Among s (4 ^ exponent_in m P s) z = rw (high_end.0 ∙ h.2, high_end.1) at (first-among m P z) in
            let e : L.start ≡ s = omega (arith, among w.3, low_end.0, h.2, x) in
            let size : 4 ^ L.exponent ≡ 4 ^ exponent_in m P s = omega (arith, among w.4, y) in
            (omega (arith, (size-le L.exponent (exponent_in m P s)).1 (omega arith), (size-le (exponent_in m P s) L.exponent).1 (omega arith)), e)

    pub fewest-only : Ordered ◌<◌ ks → ks ≡ fewest m P a n
    fewest-only o = same-rising (fewest-rising m P low a n) o listed-there few
      where
        listed-there : (k : ℕ) → Memᴰ k (fewest m P a n) → Memᴰ k ks
        listed-there k l =
            let t = fewest-in m P low a n l in
            subst (λ (x : ℕ). Memᴰ x ks) t.4 (own t.0 ((listed m P a n t.0).1 (t.1, t.2, t.3)))
