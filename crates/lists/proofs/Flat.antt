-- What each element makes, one after another: `flat_map` of the library, part by part and element by element. By induction over the list.
-- Assumes nothing.
use mathlib.Core.Path.{◌≡◌, refl, sym, ◌∙◌}
use mathlib.Core.Logic.{◌⊎◌, inl, inr}
use mathlib.Core.List.{List, [], ◌∷◌, ◌++◌, append_assoc, append-nil, map, flat_map}
use mathlib.Core.List.Memᴰ
use mathlib.Core.List.{Memᴰ}
use Prim.Native.Nat.{ℕ, ◌+◌, ◌*◌, ◌≤◌}
use native.Mathlib.Omega.{arith}
use lib.ListN.{length, length-append}
use Rattle.lists.specs.Lists.{Ordered, none, more}
use Rattle.lists.proofs.Order.{ordered-append}

module _ {A B : Type 0} (f : A → List B) where
  pub flat-none : flat_map f [] ≡ []
  unfolding flat_map
  flat-none = refl

  pub flat-next : (x : A) (xs : List A) → flat_map f (x ∷ xs) ≡ f x ++ flat_map f xs
  unfolding flat_map
  flat-next x xs = refl

  pub flat_append : (xs ys : List A) → flat_map f (xs ++ ys) ≡ flat_map f xs ++ flat_map f ys
  unfolding flat_map
  flat_append [] ys = refl
  flat_append (x ∷ xs) ys = rw (flat_append xs ys) (sym (append_assoc (f x) (flat_map f xs) (flat_map f ys)))

  -- one element more
  pub flat-last : (xs : List A) (x : A) → flat_map f (xs ++ (x ∷ [])) ≡ flat_map f xs ++ f x
  flat-last xs x = rw (flat_append xs (x ∷ []), flat-next x [], flat-none, append-nil (f x))

  -- what is made before an element and by it is part of the whole
  pub flat-room : (xs : List A) (x : A) (ys : List A) → length (flat_map f xs) + length (f x) ≤ length (flat_map f (xs ++ x ∷ ys))
  flat-room xs x ys = rw (flat_append xs (x ∷ ys), flat-next x ys) (simp length-append (omega arith))

  -- as many times as many, where each makes k, and no more where none makes more
  pub flat-length : (k : ℕ) → ((x : A) → length (f x) ≡ k) → (xs : List A) → length (flat_map f xs) ≡ k * length xs
  unfolding flat_map
  flat-length k h [] = omega arith
  flat-length k h (x ∷ xs) = length-append (f x) (flat_map f xs) ∙ rw (h x, flat-length k h xs) (omega arith)

  pub flat-most : (k : ℕ) → ((x : A) → length (f x) ≤ k) → (xs : List A) → length (flat_map f xs) ≤ k * length xs
  unfolding flat_map
  flat-most k h [] = omega arith
  flat-most k h (x ∷ xs) = omega (arith, length-append (f x) (flat_map f xs), h x, flat-most k h xs)

  -- by which element
  pub flat_in : (xs : List A) {y : B} → Memᴰ y (flat_map f xs) → (x : A) × Memᴰ x xs × Memᴰ y (f x)
  unfolding flat_map
  flat_in [] l = absurd (Memᴰ.not-nil l)
  flat_in (x ∷ xs) {y} l = go (flat_in xs) (Memᴰ.append_cases (f x) l)
    where
      go : (Memᴰ y (flat_map f xs) → (z : A) × Memᴰ z xs × Memᴰ y (f z)) → Memᴰ y (f x) ⊎ Memᴰ y (flat_map f xs)
          → (z : A) × Memᴰ z (x ∷ xs) × Memᴰ y (f z)
      go ih (inl n) = (x, Memᴰ.head refl, n)
      go ih (inr n) = let t = ih n in (t.0, Memᴰ.tail t.1, t.2)

  pub in-flat : {x : A} {y : B} {xs : List A} → Memᴰ x xs → Memᴰ y (f x) → Memᴰ y (flat_map f xs)
  unfolding flat_map
  in-flat (Memᴰ.head {xs = xs} e) n = Memᴰ.append_left (flat_map f xs) (rw e at n)
  in-flat (Memᴰ.tail {x = z} l) n = Memᴰ.append_right (f z) (in-flat l n)

  pub flat-same : (g : A → List B) (xs : List A) → ((x : A) → Memᴰ x xs → f x ≡ g x) → flat_map f xs ≡ flat_map g xs
  unfolding flat_map
  flat-same g [] h = refl
  flat-same g (x ∷ xs) h = rw (h x (Memᴰ.head refl), flat-same g xs (λ y l. h y (Memᴰ.tail l)))

  -- ordered elements that each make an ordered list
  pub flat-ordered : {R : A → A → Type 0} {S : B → B → Type 0} {xs : List A} → Ordered R xs → ((x : A) → Memᴰ x xs → Ordered S (f x))
      → ((x z : A) → Memᴰ x xs → Memᴰ z xs → R x z → (y w : B) → Memᴰ y (f x) → Memᴰ w (f z) → S y w) → Ordered S (flat_map f xs)
  flat-ordered none h k = rw flat-none none
  flat-ordered (more {x = x} {l = xs} r o) h k =
      rw (flat-next x xs)
      (ordered-append (h x (Memᴰ.head refl)) (flat-ordered o (λ z l. h z (Memᴰ.tail l)) (λ a b l n. k a b (Memᴰ.tail l) (Memᴰ.tail n)))
      (λ y w l n. let t = flat_in xs n in k x t.0 (Memᴰ.head refl) (Memᴰ.tail t.1) (r t.0 t.1) y w l t.2))

-- of elements that are named by others
pub flat-map : {A B C : Type 0} (f : B → List C) (g : A → B) (xs : List A) → flat_map f (map g xs) ≡ flat_map (λ x. f (g x)) xs
unfolding flat_map
flat-map f g [] = refl
flat-map f g (x ∷ xs) = rw (flat-map f g xs)
