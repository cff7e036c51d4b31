-- Order: parts of an ordered list, two lists in one, the pigeonhole principle, and lists with the same elements. By induction over the list.
-- Assumes nothing.
use mathlib.Core.Path.{◌≡◌, refl, sym, ap, ap₂, ◌∙◌, subst}
use mathlib.Core.Logic.{◌↔◌, ◌⊎◌, inl, inr, ◌≢◌}
use mathlib.Core.List.{List, [], ◌∷◌, ◌++◌, map}
use mathlib.Core.List.Memᴰ
use mathlib.Core.List.{Memᴰ}
use Prim.Native.Nat.{ℕ, suc, ◌≤◌, ◌<◌}
use native.Mathlib.Omega.{arith}
use lib.ListN.{length}
use Rattle.lists.specs.Lists.{Ordered, none, more}

module _ {A : Type 0} where
  pub ordered-imp : {R S : A → A → Type 0} → ((x y : A) → R x y → S x y) → {l : List A} → Ordered R l → Ordered S l
  ordered-imp k none = none
  ordered-imp k (more {x = x} h o) = more (λ y n. k x y (h y n)) (ordered-imp k o)

  -- a part at the front of an ordered list is ordered
  pub ordered-part : {R : A → A → Type 0} (l s : List A) → Ordered R (l ++ s) → Ordered R l
  ordered-part [] s o = none
  ordered-part (x ∷ l) s (more h o) = more (λ y n. h y (Memᴰ.append_left s n)) (ordered-part l s o)

  -- what stands before an element, and behind it
  pub ordered-front : {R : A → A → Type 0} (l r : List A) {b x : A} → Ordered R (l ++ b ∷ r) → Memᴰ x l → R x b
  ordered-front [] r o n = absurd (Memᴰ.not-nil n)
  ordered-front (y ∷ l) r (more h o) (Memᴰ.head e) = rw e (h _ (Memᴰ.append_right l (Memᴰ.head refl)))
  ordered-front (y ∷ l) r (more h o) (Memᴰ.tail n) = ordered-front l r o n

  pub ordered-back : {R : A → A → Type 0} (l r : List A) {b x : A} → Ordered R (l ++ b ∷ r) → Memᴰ x r → R b x
  ordered-back [] r (more h o) n = h _ n
  ordered-back (y ∷ l) r (more h o) n = ordered-back l r o n

  pub ordered-append : {R : A → A → Type 0} {l s : List A} → Ordered R l → Ordered R s
      → ((x y : A) → Memᴰ x l → Memᴰ y s → R x y) → Ordered R (l ++ s)
  ordered-append none p k = p
  ordered-append {R} {s = s} (more {x = x} {l = l} h o) p k =
      more (λ y n. go y (Memᴰ.append_cases l n)) (ordered-append o p (λ x' y a b. k x' y (Memᴰ.tail a) b))
    where
      go : (y : A) → Memᴰ y l ⊎ Memᴰ y s → R x y
      go y (inl n) = h y n
      go y (inr n) = k x y (Memᴰ.head refl) n

-- a function that keeps an order
pub ordered-map : {A B : Type 0} {R : A → A → Type 0} {S : B → B → Type 0} (f : A → B) {l : List A} → Ordered R l
    → ((x y : A) → Memᴰ x l → Memᴰ y l → R x y → S (f x) (f y)) → Ordered S (map f l)
ordered-map f none k = none
ordered-map {B = B} {S = S} f (more {x = x} {l = l} h o) k = more late (ordered-map f o (λ a b m n. k a b (Memᴰ.tail m) (Memᴰ.tail n)))
  where
    late : (y : B) → Memᴰ y (map f l) → S (f x) y
    late y m = let t = Memᴰ.of_map f l m in rw (← t.2) (k x t.0 (Memᴰ.head refl) (Memᴰ.tail t.1) (h t.0 t.1))

-- two elements of an ordered list, neither before the other, are one
pub ordered-one : {A : Type 0} {R : A → A → Type 0} {l : List A} {x y : A} → Ordered R l → Memᴰ x l → Memᴰ y l → (R x y → ⊥) → (R y x → ⊥) → x ≡ y
ordered-one none m _ p q = elim m [ ]
ordered-one (more h o) (Memᴰ.head e) (Memᴰ.head d) p q = e ∙ sym d
ordered-one {y = y} (more h o) (Memᴰ.head e) (Memᴰ.tail n) p q = absurd (p (rw e (h y n)))
ordered-one {x = x} (more h o) (Memᴰ.tail m) (Memᴰ.head d) p q = absurd (q (rw d (h x m)))
ordered-one (more h o) (Memᴰ.tail m) (Memᴰ.tail n) p q = ordered-one o m n p q

-- different elements, and a function that keeps them apart
pub distinct-map : {A B : Type 0} (f : A → B) {l : List A} → Ordered ◌≢◌ l → ((x y : A) → Memᴰ x l → Memᴰ y l → f x ≡ f y → x ≡ y) → Ordered ◌≢◌ (map f l)
distinct-map f o u = ordered-map f o (λ x y m n h e. h (u x y m n e))

pub rising-distinct : {l : List ℕ} → Ordered ◌<◌ l → Ordered ◌≢◌ l
rising-distinct o = ordered-imp (λ x y h e. omega arith) o

-- ---- pigeonhole

module _ {B : Type 0} where
  remove : {b : B} {s : List B} → Memᴰ b s → List B
  remove (Memᴰ.head {xs = s} e) = s
  remove (Memᴰ.tail {x = x} m) = x ∷ remove m

  remove-length : {b : B} {s : List B} (m : Memᴰ b s) → length s ≡ suc (length (remove m))
  unfolding remove
  remove-length (Memᴰ.head e) = refl
  remove-length (Memᴰ.tail m) = ap suc (remove-length m)

  remove-in : {b c : B} {s : List B} (m : Memᴰ b s) → Memᴰ c s → (c ≡ b) ⊎ Memᴰ c (remove m)
  unfolding remove
  remove-in (Memᴰ.head e) (Memᴰ.head d) = inl (d ∙ sym e)
  remove-in (Memᴰ.head e) (Memᴰ.tail n) = inr n
  remove-in (Memᴰ.tail m) (Memᴰ.head d) = inr (Memᴰ.head d)
  remove-in {b} {c} (Memᴰ.tail {x = x} m) (Memᴰ.tail n) = go (remove-in m n)
    where
      go : (c ≡ b) ⊎ Memᴰ c (remove m) → (c ≡ b) ⊎ Memᴰ c (x ∷ remove m)
      go (inl e) = inl e
      go (inr k) = inr (Memᴰ.tail k)

module _ {A B : Type 0} (R : A → B → Type 0) where
  -- when the b of one a is taken away, every other a still has its own
  others : {x : A} {l : List A} (s : List B) → ((y : A) → Memᴰ y l → x ≢ y)
      → ((a : A) → Memᴰ a (x ∷ l) → (b : B) × Memᴰ b s × R a b)
      → ((a a' : A) (b : B) → Memᴰ a (x ∷ l) → Memᴰ a' (x ∷ l) → R a b → R a' b → a ≡ a')
      → (t : (b : B) × Memᴰ b s × R x b) (a : A) → Memᴰ a l → (b : B) × Memᴰ b (remove t.1) × R a b
  others {x} {l} s h f u t a n = pick (f a (Memᴰ.tail n))
    where
      pick : (b : B) × Memᴰ b s × R a b → (b : B) × Memᴰ b (remove t.1) × R a b
      pick k = go (remove-in t.1 k.1)
        where
          go : (k.0 ≡ t.0) ⊎ Memᴰ k.0 (remove t.1) → (b : B) × Memᴰ b (remove t.1) × R a b
          go (inl e) = absurd (h a n (u x a t.0 (Memᴰ.head refl) (Memᴰ.tail n) t.2 (subst (λ (b : B). R a b) e k.2)))
          go (inr m) = (k.0, m, k.2)

  -- Where each of different a's has a b of the list s, and no two have the same, the a's are no more than s.
  pub pigeon : {l : List A} (s : List B) → Ordered ◌≢◌ l
      → ((a : A) → Memᴰ a l → (b : B) × Memᴰ b s × R a b)
      → ((a a' : A) (b : B) → Memᴰ a l → Memᴰ a' l → R a b → R a' b → a ≡ a')
      → length l ≤ length s
  pigeon s none f u = omega arith
  pigeon s (more {x = x} {l = l} h o) f u =
      let t : (b : B) × Memᴰ b s × R x b = f x (Memᴰ.head refl) in
      omega (arith, remove-length t.1, pigeon (remove t.1) o (others s h f u t) (λ a a' b m n. u a a' b (Memᴰ.tail m) (Memᴰ.tail n)))

  -- And where s is no longer, each of its b's is that of an a.
  pub pigeon-onto : {l : List A} (s : List B) → Ordered ◌≢◌ l
      → ((a : A) → Memᴰ a l → (b : B) × Memᴰ b s × R a b)
      → ((a a' : A) (b : B) → Memᴰ a l → Memᴰ a' l → R a b → R a' b → a ≡ a')
      → length s ≤ length l → (b : B) → Memᴰ b s → (a : A) × Memᴰ a l × R a b
  pigeon-onto s none f u k b n = absurd (omega (arith, remove-length n))
  pigeon-onto s (more {x = x} {l = l} h o) f u k b n =
      go t (remove-in t.1 n)
      (pigeon-onto (remove t.1) o (others s h f u t) (λ a a' b m n. u a a' b (Memᴰ.tail m) (Memᴰ.tail n)) (omega (arith, remove-length t.1)) b)
    where
      t : (b : B) × Memᴰ b s × R x b
      t = f x (Memᴰ.head refl)

      go : (t : (b : B) × Memᴰ b s × R x b) → (b ≡ t.0) ⊎ Memᴰ b (remove t.1)
          → (Memᴰ b (remove t.1) → (a : A) × Memᴰ a l × R a b) → (a : A) × Memᴰ a (x ∷ l) × R a b
      go t (inl e) ih = (x, Memᴰ.head refl, subst (λ (b : B). R x b) (sym e) t.2)
      go t (inr m) ih = let z = ih m in (z.0, Memᴰ.tail z.1, z.2)

-- ---- one list

-- lists in one strict order
module _ {A : Type 0} {R : A → A → Type 0} (strict : (x y : A) → R x y → R y x → ⊥) where
  -- the first of one is that of the other
  first-same : {x y : A} {l s : List A} → ((z : A) → Memᴰ z l → R x z) → ((z : A) → Memᴰ z s → R y z) → Memᴰ x (y ∷ s) → Memᴰ y (x ∷ l) → x ≡ y
  first-same {x} {y} {l} {s} h k m n = go (Memᴰ.cases_cons m) (Memᴰ.cases_cons n)
    where
      go : (x ≡ y) ⊎ Memᴰ x s → (y ≡ x) ⊎ Memᴰ y l → x ≡ y
      go (inl e) b = e
      go (inr a) (inl e) = sym e
      go (inr a) (inr b) = absurd (strict x y (h y b) (k x a))

  -- what stands behind it in one stands behind it in the other
  behind-same : {x y z : A} {l s : List A} → x ≡ y → ((z : A) → Memᴰ z l → R x z) → Memᴰ z (y ∷ s) → Memᴰ z l → Memᴰ z s
  behind-same {x} {y} {z} {l} {s} e h m n = go (Memᴰ.cases_cons m)
    where
      go : (z ≡ y) ⊎ Memᴰ z s → Memᴰ z s
      go (inl d) = let r : R x x = subst (λ (a : A). R x a) (d ∙ sym e) (h z n) in absurd (strict x x r r)
      go (inr k) = k

  -- with the same elements they are one
  pub same-ordered : {l s : List A} → Ordered R l → Ordered R s → ((z : A) → Memᴰ z l ↔ Memᴰ z s) → l ≡ s
  same-ordered none none same = refl
  same-ordered none (more {x = y} h o) same = absurd (Memᴰ.not-nil ((same y).1 (Memᴰ.head refl)))
  same-ordered (more {x = x} h o) none same = absurd (Memᴰ.not-nil ((same x).0 (Memᴰ.head refl)))
  same-ordered (more {x = x} {l = l} h o) (more {x = y} {l = s} k p) same =
      let e : x ≡ y = first-same h k ((same x).0 (Memᴰ.head refl)) ((same y).1 (Memᴰ.head refl)) in
      ap₂ ◌∷◌ e
      (same-ordered o p (λ z. (λ n. behind-same e h ((same z).0 (Memᴰ.tail n)) n, λ n. behind-same (sym e) k ((same z).1 (Memᴰ.tail n)) n)))

-- Of two rising lists one has all elements of the other, and is no longer: they are one.
pub same-rising : {l s : List ℕ} → Ordered ◌<◌ l → Ordered ◌<◌ s → ((x : ℕ) → Memᴰ x l → Memᴰ x s) → length s ≤ length l → s ≡ l
same-rising {l} {s} o p k h = sym (same-ordered (λ x y a b. omega arith) o p (λ x. (k x, back x)))
  where
    back : (x : ℕ) → Memᴰ x s → Memᴰ x l
    back x n = let t = pigeon-onto ◌≡◌ s (rising-distinct o) (λ z m. (z, k z m, refl)) (λ z z' b m m' e e'. e ∙ sym e') h x n in rw (← t.2) t.1
