-- The maximal blocks of a set: what is listed, in which order, and that the list makes up the set.
-- Assumes nothing.
use mathlib.Core.Path.{◌≡◌, refl, sym, ap, ◌∙◌}
use mathlib.Core.Logic.{◌↔◌}
use mathlib.Core.Bool.{Bool, true}
use mathlib.Core.List.Memᴰ
use mathlib.Core.List.{Memᴰ}
use Prim.Native.Nat.{ℕ, ◌+◌, ◌^◌, ◌≤◌, ◌<◌}
use native.Mathlib.Decide.{dec_lt}
use native.Mathlib.Omega.{arith}
use Rattle.lists.specs.Lists.{up_from, Ordered}
use Rattle.lists.proofs.Laws.{ordered-map, up_in, up-rising, keep-in, keep-true, in-keep, ordered-keep}
use Rattle.key.specs.Blocks.{Names, Among}
use Rattle.key.proofs.Laws.{one_block, ordered, block-lies, aligned-start, span-named, pow-least}
use Rattle.stretch.specs.Promises.{MaximalIn, LiesInSet, Has, MakesUp}
use Rattle.stretch.specs.Sets.{base, exponent_in, starts}
use Rattle.stretch.specs.Fewest.{maximal_in, key_from, fewest}
use Rattle.stretch.proofs.Fitting.{FitsIn}
use Rattle.stretch.proofs.Bases.{base-eq, base-up, base-own}
use Rattle.stretch.proofs.Around.{fits-own, exponent-le, exponent-fits, exponent-max, exponent_same, first, lies-first, first-among, first-in, starts_is}

-- a place of a block has the block's start below it
span-base : {m k i s q : ℕ} → Names m k i s → Among s (4 ^ i) q → base i q ≡ s
span-base {i = i} {s} {q} b h = let a = (base-own i s).1 (aligned-start b) in base-eq i s q (omega arith) (omega arith) ∙ a

-- ---- the list

module _ (m : ℕ) (P : ℕ → Bool) where
  pub listed : (a n s : ℕ) → Memᴰ s (maximal_in m P a n) ↔ (Among a n s × (P s ≡ true) × (first m P s ≡ s))
  unfolding maximal_in
  listed a n s = (to, from)
    where
      to : Memᴰ s (maximal_in m P a n) → Among a n s × (P s ≡ true) × (first m P s ≡ s)
      to l =
          let u = (up_in a n s).0 (keep-in (starts m P) (up_from a n) l) in
          let t = (starts_is m P s).0 (keep-true (starts m P) (up_from a n) l) in
          (omega arith, t.0, t.1)

      from : Among a n s × (P s ≡ true) × (first m P s ≡ s) → Memᴰ s (maximal_in m P a n)
      from h = in-keep (starts m P) ((up_in a n s).1 (omega (arith, h.0))) ((starts_is m P s).1 (h.1, h.2))

  pub maximal-rising : (a n : ℕ) → Ordered ◌<◌ (maximal_in m P a n)
  unfolding maximal_in
  maximal-rising a n = ordered-keep (starts m P) (up-rising a n)

  -- in plain words
  pub maximal-is : {i s : ℕ} → MaximalIn m P i s ↔ ((P s ≡ true) × (first m P s ≡ s) × (i ≡ exponent_in m P s))
  maximal-is {i} {s} = (to, from)
    where
      to : MaximalIn m P i s → (P s ≡ true) × (first m P s ≡ s) × (i ≡ exponent_in m P s)
      to M =
          let f : FitsIn P i s = record { all = λ q h. M.inside q (rw M.aligned at h) } in
          let v = fits-own f in
          let e : i ≡ exponent_in m P s = go v (exponent-max m P M.small f) (dec_lt i (exponent_in m P s)) in
          (v, rw (← e) M.aligned, e)
        where
          go : P s ≡ true → i ≤ exponent_in m P s → Dec (i < exponent_in m P s) → i ≡ exponent_in m P s
          go v h (yes l) = absurd (M.largest (exponent_in m P s) l (exponent-le m P s) (exponent-fits m P v).all)
          go v h (no l) = omega arith

      from : (P s ≡ true) × (first m P s ≡ s) × (i ≡ exponent_in m P s) → MaximalIn m P i s
      from h = rw h.2 (record {
        small = exponent-le m P s;
        aligned = h.1;
        inside = λ q k. (exponent-fits m P h.0).all q (rw h.1 k);
        largest = λ j l k f. omega (arith, exponent-max m P k (record { all = f }));
      })

  -- two places of a block that lies in the set have one maximal block
  pub one-first : {k x y : ℕ} → LiesInSet m P k → Has m x k → Has m y k → (first m P x ≡ first m P y) × (exponent_in m P x ≡ exponent_in m P y)
  one-first {k} {x} {y} L hx hy =
      let j : ℕ = L.exponent in
      let ex = one_block L.names hx.names in
      let ey = one_block L.names hy.names in
      let ax : Among L.start (4 ^ j) x = rw (ex.0, ex.1) hx.has in
      let ay : Among L.start (4 ^ j) y = rw (ey.0, ey.1) hy.has in
      let bx : base j x ≡ L.start = span-base L.names ax in
      let by : base j y ≡ L.start = span-base L.names ay in
      let f : FitsIn P j x = record { all = λ q h. L.inside q (rw bx at h) } in
      let up = base-up j (exponent_in m P x) x y (exponent-max m P (block-lies L.names).small f) (bx ∙ sym by) in
      let e = exponent_same m P y (fits-own f) up in
      (up ∙ ap (λ (i : ℕ). base i y) e, e)

  -- ---- the keys of a set in the picture

  module _ (low : (q : ℕ) → P q ≡ true → q < 4 ^ m) where
    pub named : {s : ℕ} → P s ≡ true → first m P s ≡ s → Names m (key_from m P s) (exponent_in m P s) s
    unfolding key_from
    named {s} v e = span-named (exponent-le m P s) ((base-own (exponent_in m P s) s).0 e) (low s v)

    -- the key's block lies in the set
    key-lies : {s : ℕ} → P s ≡ true → first m P s ≡ s → LiesInSet m P (key_from m P s)
    key-lies {s} v e = record { exponent = exponent_in m P s; start = s; names = named v e; inside = λ q h. (exponent-fits m P v).all q (rw e h) }

    -- it has the places whose maximal block it is
    key_has : {q s : ℕ} → P q ≡ true → first m P q ≡ s → Has m q (key_from m P s)
    key_has {q} {s} v e =
        let f = first-in m P v in
        rw (← e) (record {
          exponent = exponent_in m P (first m P q);
          start = first m P q;
          names = named f.0 f.2;
          has = rw f.1 (first-among m P q);
        })

    has_first : {q s : ℕ} → P s ≡ true → first m P s ≡ s → Has m q (key_from m P s) → (P q ≡ true) × (exponent_in m P q ≡ exponent_in m P s) × (first m P q ≡ s)
    has_first {q} {s} v e h =
        let o = one_block h.names (named v e) in
        let l : Among s (4 ^ exponent_in m P s) q = rw (o.0, o.1) at h.has in
        let t = lies-first m P {q = q} v (rw e l) in
        (t.0, t.1, t.2 ∙ e)

    module _ (a n : ℕ) where
      pub fewest-in : {k : ℕ} → Memᴰ k (fewest m P a n) → (s : ℕ) × (Among a n s) × (P s ≡ true) × (first m P s ≡ s) × (key_from m P s ≡ k)
      unfolding fewest
      fewest-in l = let t = Memᴰ.of_map (key_from m P) (maximal_in m P a n) l in let h = (listed a n t.0).0 t.1 in (t.0, h.0, h.1, h.2, t.2)

      in-fewest : {s : ℕ} → Among a n s → P s ≡ true → first m P s ≡ s → Memᴰ (key_from m P s) (fewest m P a n)
      unfolding fewest
      in-fewest {s} h v e = Memᴰ.map (key_from m P) ((listed a n s).1 (h, v, e))

      -- a set that has places only there is made up of these blocks
      pub fewest-makes : ((q : ℕ) → P q ≡ true → Among a n q) → MakesUp m P (fewest m P a n)
      fewest-makes here = record {
        inside = λ k l. let t = fewest-in l in rw (← t.4) (key-lies t.2 t.3);
        all = λ q v. let f = first-in m P v in (key_from m P (first m P q), in-fewest (here (first m P q) f.0) f.0 f.2, key_has v refl);
      }

      -- each place once
      pub fewest-once : (q : ℕ) {k k' : ℕ} → Memᴰ k (fewest m P a n) → Memᴰ k' (fewest m P a n) → Has m q k → Has m q k' → k ≡ k'
      fewest-once q l l' h h' =
          let t = fewest-in l in
          let t' = fewest-in l' in
          let u = has_first {q = q} t.2 t.3 (rw t.4 h) in
          let u' = has_first {q = q} t'.2 t'.3 (rw t'.4 h') in
          sym t.4 ∙ ap (key_from m P) (sym u.2 ∙ u'.2) ∙ t'.4

      -- in key order
      pub fewest-rising : Ordered ◌<◌ (fewest m P a n)
      unfolding fewest
      fewest-rising = ordered-map (key_from m P) (maximal-rising a n) up
        where
          up : (s t : ℕ) → Memᴰ s (maximal_in m P a n) → Memᴰ t (maximal_in m P a n) → s < t → key_from m P s < key_from m P t
          up s t l l' h =
              let x = (listed a n s).0 l in
              let y = (listed a n t).0 l' in
              let i : ℕ = exponent_in m P s in
              omega (arith, (ordered (named x.1 x.2) (named y.1 y.2)).0 (clear x y h (dec_lt t (s + 4 ^ i))), pow-least 4 i)
            where
              clear : Among a n s × (P s ≡ true) × (first m P s ≡ s) → Among a n t × (P t ≡ true) × (first m P t ≡ t) → s < t
                  → Dec (t < s + 4 ^ exponent_in m P s) → s + 4 ^ exponent_in m P s ≤ t
              clear x y h (yes d) =
                  let l : Among s (4 ^ exponent_in m P s) t = omega arith in
                  let z = lies-first m P {q = t} x.1 (rw x.2 l) in
                  absurd (omega (arith, z.2, x.2, y.2))
              clear x y h (no d) = omega arith
