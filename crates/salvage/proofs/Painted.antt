-- The classes of the result: places of a record that is kept have its class, and all others that of what was not seen.
-- Assumes nothing.
use mathlib.Core.Path.{◌≡◌, refl, sym, ap, ◌∙◌}
use mathlib.Core.Bool.{true, false}
use mathlib.Core.List.Memᴰ
use mathlib.Core.List.{List, [], ◌∷◌, map, flat_map, Memᴰ}
use Prim.Native.Nat.{ℕ, zero, suc, ◌^◌, ◌<◌}
use native.Mathlib.Omega.{arith}
use lib.ListN.{length, get_or}
use Rattle.lists.specs.Promises.{Nth, here, later}
use Rattle.lists.proofs.Laws.{never, flat_in, in-flat, nth_of, nth_in, nth-less, only, nth-get_or}
use Rattle.key.specs.Blocks.{Names, Among}
use Rattle.map.specs.Classes.{class_in, not_seen}
use Rattle.map.specs.Promises.{is_free}
use Rattle.map.proofs.Laws.{Holder, spaced, holder, class-held, unfree}
use Rattle.salvage.specs.Salvage.{Mend, kept, dropped, filled, mends, brings, firsts, seconds, salvaged}
use Rattle.salvage.specs.Promises.{key_kept}
use Rattle.salvage.proofs.Making.{firsts-length, seconds-length}
use Rattle.salvage.proofs.Result.{salvaged-follows}
use Rattle.salvage.proofs.Gaps.{kept-spaced}

-- ---- pairs by their numbers

-- what is made of element j
map_at : {A : Type 0} (f : A → ℕ) {l : List A} {j : ℕ} {x : A} → Nth l j x → get_or (map f l) j 0 ≡ f x
map_at f (here k e) = rw (k, e)
map_at f (later k n) = rw k (map_at f n)

firsts_at : {rs : List (ℕ × ℕ)} {j : ℕ} {p : ℕ × ℕ} → Nth rs j p → get_or (firsts rs) j 0 ≡ p.0
unfolding firsts
firsts_at n = map_at (λ p. p.0) n

seconds-at : {rs : List (ℕ × ℕ)} {j : ℕ} {p : ℕ × ℕ} → Nth rs j p → get_or (seconds rs) j 0 ≡ p.1
unfolding seconds
seconds-at n = map_at (λ p. p.1) n

-- each number below the length has one
nth-there : {A : Type 0} (l : List A) (j : ℕ) → j < length l → (x : A) × Nth l j x
nth-there [] j h = absurd (omega arith)
nth-there (x ∷ l) zero h = (x, here refl refl)
nth-there (x ∷ l) (suc j) h = let n = nth-there l j (omega arith) in (n.0, later refl n.1)

-- ---- the result

module _ (m : ℕ) (keys classes : List ℕ) where
  abbrev rs : List (ℕ × ℕ)
  rs = salvaged m keys classes

  same : length (firsts rs) ≡ length (seconds rs)
  same = firsts-length rs ∙ sym (seconds-length rs)

  -- a record of the result gives its places its class
  painted : {k c i s q : ℕ} → Memᴰ (k, c) rs → Names m k i s → Among s (4 ^ i) q → class_in m (firsts rs) (seconds rs) q ≡ c
  painted {k} {c} {i} {s} {q} l b h =
      let n = nth_of l in
      let H : Holder m (firsts rs) q = record {
        index = n.0;
        exponent = i;
        start = s;
        is = record { within = omega (arith, nth-less n.1, firsts-length rs); names = rw (firsts_at n.1) b };
        has = h;
      } in
      class-held (spaced (salvaged-follows m keys classes)) (seconds rs) same 0 H ∙ seconds-at n.1

  pub kept-class : {n i s q : ℕ} → Memᴰ (kept n) (mends m keys) → Names m (get_or keys n 0) i s → Among s (4 ^ i) q → class_in m (firsts rs) (seconds rs) q ≡ get_or classes n 0
  unfolding salvaged brings
  kept-class {n} l b h = painted (in-flat (brings keys classes) {x = kept n} l (Memᴰ.head refl)) b h

  -- a place of a record that is kept is not free
  kept-unfree : {n i s q : ℕ} → Memᴰ (kept n) (mends m keys) → Names m (get_or keys n 0) i s → Among s (4 ^ i) q → is_free m (flat_map (key_kept keys) (mends m keys)) q ≡ false
  unfolding key_kept
  kept-unfree {n} {i} {s} l b h =
      let x = nth_of (in-flat (key_kept keys) {x = kept n} l (Memᴰ.head refl)) in
      unfree (kept-spaced m keys) (record { within = nth-less x.1; names = rw (nth-get_or x.1) b }) h

  -- so the record of a place that is free is a block that was filled in
  free_seen : {p : ℕ × ℕ} {i s q : ℕ} → is_free m (flat_map (key_kept keys) (mends m keys)) q ≡ true → Names m p.0 i s → Among s (4 ^ i) q
      → (e : Mend) → Memᴰ e (mends m keys) → Memᴰ p (brings keys classes e) → p.1 ≡ not_seen
  unfolding brings
  free_seen f b h (kept n) l t = let e = only t in never (sym f ∙ kept-unfree l (rw (ap (λ (p : ℕ × ℕ). p.0) e) at b) h)
  free_seen f b h (dropped n cause) l t = absurd (Memᴰ.not-nil t)
  free_seen f b h (filled key) l t = ap (λ (p : ℕ × ℕ). p.1) (only t)

  pub blank-class : {q : ℕ} → q < 4 ^ m → is_free m (flat_map (key_kept keys) (mends m keys)) q ≡ true → class_in m (firsts rs) (seconds rs) q ≡ not_seen
  unfolding salvaged
  blank-class {q} l f =
      let F = salvaged-follows m keys classes in
      let H = holder F q (omega arith) l in
      let n = nth-there rs H.index (omega (arith, H.is.within, firsts-length rs)) in
      let t = flat_in (brings keys classes) (mends m keys) (nth_in n.1) in
      class-held (spaced F) (seconds rs) same 0 H ∙ seconds-at n.1 ∙ free_seen f (rw (firsts_at n.1) at H.is.names) H.has t.0 t.1 t.2
