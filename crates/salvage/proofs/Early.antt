-- A record is dropped for an overlap exactly where it starts before the end of an earlier record that is kept.
-- Assumes nothing.
use mathlib.Core.Path.{◌≡◌, refl, ap}
use mathlib.Core.Logic.{◌↔◌, ◌⊎◌, inl, inr, ⊎_elim}
use mathlib.Core.List.Memᴰ
use mathlib.Core.List.{List, ◌∷◌, ◌++◌, Memᴰ}
use Prim.Native.Nat.{ℕ, ◌^◌, ◌+◌, ◌≤◌, ◌<◌}
use native.Mathlib.Nat.{eq-or-lt_of_le}
use native.Mathlib.Omega.{arith}
use lib.ListN.{length, get_or}
use Rattle.answers.specs.declared.Cause.TheVariants.{Overlap}
use Rattle.key.specs.Blocks.{Names}
use Rattle.key.proofs.Laws.{no_names, one_block, pow-least}
use Rattle.salvage.specs.Salvage.{Mend, kept, dropped, fills, mends}
use Rattle.salvage.specs.Promises.{Mends, ends, garbled, early, keeps, Reached}
use Rattle.salvage.proofs.Mends.{mends-are}
use Rattle.salvage.proofs.Each.{what, why, fill-why, past-fill}

module _ (m : ℕ) (keys : List ℕ) where
  -- ---- what is dropped so starts so

  -- record k starts before place `at`, or before the end of an earlier one that is kept
  record Starts (at : ℕ) (es : List Mend) (k : ℕ) : Type 0 where
    exponent : ℕ
    start : ℕ
    within : k < length keys
    names : Names m (get_or keys k 0) exponent start
    before : (start < at) ⊎ Reached m keys es k start

  -- with more mends before these
  wider : {es es' : List Mend} {k s : ℕ} → ((e : Mend) → Memᴰ e es → Memᴰ e es') → Reached m keys es k s → Reached m keys es' k s
  wider f R = record { by = R.by; exponent = R.exponent; start = R.start; earlier = R.earlier; is-kept = f _ R.is-kept; names = R.names; over = R.over }

  starts_more : {at k : ℕ} {es es' : List Mend} → ((e : Mend) → Memᴰ e es → Memᴰ e es') → Starts at es k → Starts at es' k
  starts_more f S = record {
    exponent = S.exponent;
    start = S.start;
    within = S.within;
    names = S.names;
    before = ⊎_elim (λ l. inl l) (λ R. inr (wider f R)) S.before;
  }

  -- behind one that is kept
  starts-behind : {at k n i s end : ℕ} {es : List Mend} → n < k → Names m (get_or keys n 0) i s → end ≡ s + 4 ^ i → Starts end es k → Starts at (fills m at s ++ kept n ∷ es) k
  starts-behind {at} {k} {n} {i} {s} {end} {es} h b e S = record {
    exponent = S.exponent;
    start = S.start;
    within = S.within;
    names = S.names;
    before = inr (⊎_elim first (wider (λ x l. Memᴰ.append_right (fills m at s) (Memᴰ.tail l))) S.before);
  }
    where
      first : S.start < end → Reached m keys (fills m at s ++ kept n ∷ es) k S.start
      first l = record { by = n; exponent = i; start = s; earlier = h; is-kept = Memᴰ.append_right (fills m at s) (Memᴰ.head refl); names = b; over = omega arith }

  early-starts : {n at k : ℕ} {es : List Mend} → Mends m keys n at es → Memᴰ (dropped k Overlap) es → (n ≤ k) × Starts at es k
  early-starts {at = at} (ends e) i = absurd (let z = fill-why m at (4 ^ m) i in omega arith)
  early-starts (garbled h e M) (Memᴰ.head d) = absurd (let z : 4 ≡ 3 = ap why d in omega arith)
  early-starts (garbled h e M) (Memᴰ.tail i) = let S = early-starts M i in (omega (arith, S.0), starts_more (λ x l. Memᴰ.tail l) S.1)
  early-starts {n} {k = k} (early {i = i} {s = s} h b d M) (Memᴰ.head e) =
      let z : k ≡ n = ap what e in
      (omega arith, record { exponent = i; start = s; within = rw z h; names = rw z b; before = inl d })
  early-starts (early h b d M) (Memᴰ.tail i) = let S = early-starts M i in (omega (arith, S.0), starts_more (λ x l. Memᴰ.tail l) S.1)
  early-starts {n} {at} {k} (keeps {s = s} h b g e M) i =
      ⊎_elim (λ d. absurd (let z : 4 ≡ 0 = ap why d in omega arith))
      (λ t. let S = early-starts M t in (omega (arith, S.0), starts-behind S.0 b e S.1)) (past-fill m at s i (λ z. omega arith))

  -- ---- what starts so is dropped so

  -- before the place reached
  before-early : {n at k i s : ℕ} {es : List Mend} → Mends m keys n at es → n ≤ k → k < length keys → Names m (get_or keys k 0) i s → s < at → Memᴰ (dropped k Overlap) es
  before-early (ends e) l u b a = absurd (omega arith)
  before-early (garbled h e M) l u b a = ⊎_elim (λ z. absurd (no_names (rw z at e) b)) (λ z. Memᴰ.tail (before-early M z u b a)) (eq-or-lt_of_le l)
  before-early (early h c d M) l u b a = ⊎_elim (λ z. rw z (Memᴰ.head refl)) (λ z. Memᴰ.tail (before-early M z u b a)) (eq-or-lt_of_le l)
  before-early {at = at} (keeps {i = j} {s = t} h c g e M) l u b a =
      ⊎_elim (λ z. absurd (omega (arith, (one_block (rw z at c) b).1)))
      (λ z. Memᴰ.append_right (fills m at t) (Memᴰ.tail (before-early M z u b (omega (arith, pow-least 3 j))))) (eq-or-lt_of_le l)

  -- before the end of one that is kept
  over-early : {n at k i s x j t : ℕ} {es : List Mend} → Mends m keys n at es → k < length keys → Names m (get_or keys k 0) i s → x < k → Names m (get_or keys x 0) j t
      → s < t + 4 ^ j → Memᴰ (kept x) es → Memᴰ (dropped k Overlap) es
  over-early {at = at} (ends e) u b l c o q = absurd (let z = fill-why m at (4 ^ m) q in omega arith)
  over-early (garbled h e M) u b l c o (Memᴰ.head d) = absurd (let z : 0 ≡ 3 = ap why d in omega arith)
  over-early (garbled h e M) u b l c o (Memᴰ.tail q) = Memᴰ.tail (over-early M u b l c o q)
  over-early (early h a d M) u b l c o (Memᴰ.head z) = absurd (let y : 0 ≡ 4 = ap why z in omega arith)
  over-early (early h a d M) u b l c o (Memᴰ.tail q) = Memᴰ.tail (over-early M u b l c o q)
  over-early {n} {at} {k} {s = s} {x = x} (keeps {i = i} {s = r} {end = end} {es = es} h a g e M) u b l c o q =
      Memᴰ.append_right (fills m at r) (Memᴰ.tail (⊎_elim first (λ y. over-early M u b l c o y) (past-fill m at r q (λ z. omega arith))))
    where
      first : kept x ≡ kept n → Memᴰ (dropped k Overlap) es
      first d =
          let z : x ≡ n = ap what d in
          let y = one_block (rw z at c) a in
          let w : s < end = rw (e, ← y.0, ← y.1) o in
          before-early M (omega arith) u b w

-- ---- of the whole map

pub dropped-early : (m : ℕ) (keys : List ℕ) {n i s : ℕ} → n < length keys → Names m (get_or keys n 0) i s → Memᴰ (dropped n Overlap) (mends m keys) ↔ Reached m keys (mends m keys) n s
dropped-early m keys {n} {i} {s} h b = (
  λ d. let S = (early-starts m keys (mends-are m keys) d).1 in to S.start (one_block S.names b).1 S.before,
  λ R. over-early m keys (mends-are m keys) h b R.earlier R.names R.over R.is-kept,
)
  where
    to : (t : ℕ) → t ≡ s → (t < 0) ⊎ Reached m keys (mends m keys) n t → Reached m keys (mends m keys) n s
    to t e (inl l) = absurd (omega arith)
    to t e (inr R) = rw e at R
