-- Windows that touch along a whole side of both: they are those that share no pixel and whose union is a rectangle.
-- Assumes nothing.
use mathlib.Core.Path.{◌≡◌, refl}
use mathlib.Core.Logic.{◌↔◌, ◌⊎◌, inl, inr, ⊎_elim, ⊎_map, ⊎_swap}
use mathlib.Core.List.Memᴰ
use mathlib.Core.List.{[], ◌∷◌, Memᴰ}
use Prim.Native.Nat.{ℕ, ◌+◌, ◌-◌, ◌≤◌, ◌<◌}
use native.Mathlib.Decide.{dec_le}
use native.Mathlib.Omega.{arith}
use Rattle.lists.specs.Lists.{none, more}
use Rattle.key.specs.Picture.{Px}
use Rattle.window.specs.declared.Window.{Window}
use Rattle.window.specs.Window.{In, Inside}
use Rattle.window.specs.SharingPromises.{Union, Disjoint, Parted, Touching, east, west, south, north, hull}
use Rattle.window.proofs.Pairs.{Within, within, hull-has, hull-inside}

-- x is one of the n numbers from a on
record Of (a n x : ℕ) : Type 0 where
  least : a ≤ x
  most : x < a + n

which-side : (x b : ℕ) → (x < b) ⊎ (b ≤ x)
which-side x b = go (dec_le b x)
  where
    go : Dec (b ≤ x) → (x < b) ⊎ (b ≤ x)
    go (yes h) = inr h
    go (no h) = inl (omega arith)

turned : {A B : Window} → Touching A B → Touching B A
turned (east t) = west t
turned (west t) = east t
turned (south t) = north t
turned (north t) = south t

-- of two windows that share no pixel, and whose union is a rectangle with its north-west corner in the first
module _ {m : ℕ} {A B U : Window} (I : Inside m A) (J : Inside m B) (d : Disjoint A B) (u : Union A B U) where
  a : Within A U
  a = within {q = (A.r0, A.c0)} (omega (arith, I)) (λ p v. (u p).1 (inl v))

  b : Within B U
  b = within {q = (B.r0, B.c0)} (omega (arith, J)) (λ p v. (u p).1 (inr v))

  -- not all of the second lies in the first, nor of the first in the second
  not_first : Within B A → ⊥
  not_first t = d (B.r0, B.c0) (omega (arith, J, t)) (omega (arith, J))

  not-second : Within A B → ⊥
  not-second t = d (A.r0, A.c0) (omega (arith, I)) (omega (arith, I, t))

  -- along a row or a column, of which A has the n pixels from a on, B the k from b on, and the union all from a on to the last of B's: B's follow on A's
  adjoin : (at : ℕ → Px) {a n b k : ℕ} → a ≤ b → 1 ≤ n → 1 ≤ k → ((x : ℕ) → In A (at x) ↔ Of a n x) → ((x : ℕ) → In B (at x) ↔ Of b k x)
      → ((x : ℕ) → a ≤ x → x < b + k → In U (at x)) → a + n ≡ b
  adjoin at {a} {n} {b} {k} l some some' first second all = go (dec_le (a + n) b) (dec_le b (a + n))
    where
      go : Dec (a + n ≤ b) → Dec (b ≤ a + n) → a + n ≡ b
      go (yes h) (yes g) = omega arith
      go (no h) g = absurd (d (at b) ((first b).1 (omega arith)) ((second b).1 (omega arith)))
      go (yes h) (no g) =
          absurd (⊎_elim (λ v. omega (arith, (first (a + n)).0 v)) (λ v. omega (arith, (second (a + n)).0 v)) ((u (at (a + n))).0 (all (a + n) (omega arith) (omega arith))))

  -- the other corners
  abbrev ne : Px
  ne = (U.r0, U.c0 + U.w - 1)

  abbrev sw : Px
  sw = (U.r0 + U.h - 1, U.c0)

  abbrev se : Px
  se = (U.r0 + U.h - 1, U.c0 + U.w - 1)

  touching-first : In A (U.r0, U.c0) → Touching A B
  touching-first nw = go ((u ne).0 (omega (arith, I, a))) ((u sw).0 (omega (arith, I, a))) ((u se).0 (omega (arith, I, a)))
    where
      above : B.c0 ≡ A.c0 → B.w ≡ A.w → A.r0 ≤ B.r0 → Touching A B
      above e f l =
          let at : A.r0 + A.h ≡ B.r0 = adjoin (λ x. (x, A.c0)) l I.tall J.tall (λ x. (λ v. omega (arith, v), λ r. omega (arith, I, r)))
          (λ x. (λ v. omega (arith, v), λ r. omega (arith, I, r, e, f))) (λ x g h. omega (arith, I, a, b, g, h)) in
          south (omega (arith, at, e, f))

      beside : B.r0 ≡ A.r0 → B.h ≡ A.h → A.c0 ≤ B.c0 → Touching A B
      beside e f l =
          let at : A.c0 + A.w ≡ B.c0 = adjoin (λ x. (A.r0, x)) l I.wide J.wide (λ x. (λ v. omega (arith, v), λ r. omega (arith, I, r)))
          (λ x. (λ v. omega (arith, v), λ r. omega (arith, I, r, e, f))) (λ x g h. omega (arith, I, a, b, g, h)) in
          east (omega (arith, at, e, f))

      -- which of them has the other three corners
      go : In A ne ⊎ In B ne → In A sw ⊎ In B sw → In A se ⊎ In B se → Touching A B
      go (inl x) (inl y) z = absurd (not_first (omega (arith, a, b, nw, x, y)))
      go (inr x) (inr y) z = absurd (not-second (omega (arith, a, b, x, y)))
      go (inl x) (inr y) (inl z) = absurd (not_first (omega (arith, a, b, nw, z)))
      go (inr x) (inl y) (inl z) = absurd (not_first (omega (arith, a, b, nw, z)))
      go (inl x) (inr y) (inr z) = above (omega (arith, a, b, nw, x, y, z)) (omega (arith, a, b, nw, x, y, z)) (omega (arith, b, nw))
      go (inr x) (inl y) (inr z) = beside (omega (arith, a, b, nw, x, y, z)) (omega (arith, a, b, nw, x, y, z)) (omega (arith, b, nw))

-- they touch along a whole side of both exactly when they share no pixel and their union is a rectangle
pub touching-is : {m : ℕ} {A B : Window} → Inside m A → Inside m B → Touching A B ↔ (Disjoint A B × Union A B (hull A B))
unfolding hull
touching-is {A = A} {B = B} I J = (λ t. (apart t, λ p. (one t p, hull-has A B p)), λ h. back h.0 h.1)
  where
    apart : Touching A B → Disjoint A B
    apart (east t) p v u = omega (arith, t, v, u)
    apart (west t) p v u = omega (arith, t, v, u)
    apart (south t) p v u = omega (arith, t, v, u)
    apart (north t) p v u = omega (arith, t, v, u)

    one : Touching A B → (p : Px) → In (hull A B) p → In A p ⊎ In B p
    one (east t) p v = ⊎_map (λ l. omega (arith, t, v)) (λ l. omega (arith, t, v)) (which-side p.1 B.c0)
    one (west t) p v = ⊎_swap (⊎_map (λ l. omega (arith, t, v)) (λ l. omega (arith, t, v)) (which-side p.1 A.c0))
    one (south t) p v = ⊎_map (λ l. omega (arith, t, v)) (λ l. omega (arith, t, v)) (which-side p.0 B.r0)
    one (north t) p v = ⊎_swap (⊎_map (λ l. omega (arith, t, v)) (λ l. omega (arith, t, v)) (which-side p.0 A.r0))

    back : Disjoint A B → Union A B (hull A B) → Touching A B
    back d u = ⊎_elim (touching-first I J d u) (λ v. turned (touching-first J I (λ p x y. d p y x) (λ p. (λ x. ⊎_swap ((u p).0 x), λ x. (u p).1 (⊎_swap x))) v))
        ((u ((hull A B).r0, (hull A B).c0)).0 (omega (arith, hull-inside I J)))

-- two such windows part their union
pub parted-two : {A B U : Window} → Union A B U → Disjoint A B → Parted U (A ∷ B ∷ [])
parted-two {A} {B} {U} u d = record {
  all = λ p. (λ v. ⊎_elim (λ x. (A, Memᴰ.head refl, x)) (λ x. (B, Memᴰ.tail (Memᴰ.head refl), x)) ((u p).0 v), λ t. (u p).1 (which t.1 t.2));
  once = more only (more (λ W n. absurd (Memᴰ.not-nil n)) none);
}
  where
    which : {W : Window} {p : Px} → Memᴰ W (A ∷ B ∷ []) → In W p → In A p ⊎ In B p
    which {p = p} (Memᴰ.head e) v = inl (rw (← e) v)
    which {p = p} (Memᴰ.tail (Memᴰ.head e)) v = inr (rw (← e) v)
    which (Memᴰ.tail (Memᴰ.tail n)) v = absurd (Memᴰ.not-nil n)

    only : (W : Window) → Memᴰ W (B ∷ []) → Disjoint A W
    only W (Memᴰ.head e) = rw e d
    only W (Memᴰ.tail n) = absurd (Memᴰ.not-nil n)
