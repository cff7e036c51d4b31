-- What passes a test: which elements, how many, part by part, and where only a run of numbers passes. By induction over the list.
-- Assumes nothing.
use mathlib.Core.Path.{◌≡◌, refl, sym, ap, ◌∙◌}
use mathlib.Core.Bool.{Bool, true, false, cond}
use mathlib.Core.List.Memᴰ
use mathlib.Core.List.{List, [], ◌∷◌, ◌++◌, map, append-nil, Memᴰ}
use Prim.Native.Nat.{ℕ, suc, ◌+◌, ◌-◌, ◌≤◌, ◌<◌}
use native.Mathlib.Omega.{arith}
use lib.ListN.{length}
use Rattle.lists.specs.Lists.{up_from, keep, Ordered, none, more}
use Rattle.lists.proofs.Tests.{never, refuted}
use Rattle.lists.proofs.Numbers.{up_in, up-append}

module _ {A : Type 0} (f : A → Bool) where
  pub keep-empty : keep f [] ≡ []
  unfolding keep
  keep-empty = refl

  pub keep_taken : {x : A} (l : List A) → f x ≡ true → keep f (x ∷ l) ≡ x ∷ keep f l
  unfolding keep
  keep_taken l e = rw e

  pub keep-passed : {x : A} (l : List A) → f x ≡ false → keep f (x ∷ l) ≡ keep f l
  unfolding keep
  keep-passed l e = rw e

module _ {A : Type 0} where
  pub keep-in : (f : A → Bool) (l : List A) {a : A} → Memᴰ a (keep f l) → Memᴰ a l
  unfolding keep
  keep-in f [] m = m
  keep-in f (x ∷ l) {a} m = go (f x) (λ n. keep-in f l n) m
    where
      go : (b : Bool) → (Memᴰ a (keep f l) → Memᴰ a l) → Memᴰ a (cond b (x ∷ keep f l) (keep f l)) → Memᴰ a (x ∷ l)
      go false ih n = Memᴰ.tail (ih n)
      go true ih (Memᴰ.head e) = Memᴰ.head e
      go true ih (Memᴰ.tail n) = Memᴰ.tail (ih n)

  pub keep-true : (f : A → Bool) (l : List A) {a : A} → Memᴰ a (keep f l) → f a ≡ true
  unfolding keep
  keep-true f [] m = absurd (Memᴰ.not-nil m)
  keep-true f (x ∷ l) {a} m = go (f x) refl (λ n. keep-true f l n) m
    where
      go : (b : Bool) → f x ≡ b → (Memᴰ a (keep f l) → f a ≡ true) → Memᴰ a (cond b (x ∷ keep f l) (keep f l)) → f a ≡ true
      go false e ih n = ih n
      go true e ih (Memᴰ.head d) = rw d e
      go true e ih (Memᴰ.tail n) = ih n

  pub in-keep : (f : A → Bool) {a : A} {l : List A} → Memᴰ a l → f a ≡ true → Memᴰ a (keep f l)
  unfolding keep
  in-keep f {a = a} (Memᴰ.head {x = x} {xs = l} d) t = go (f x) refl
    where
      go : (b : Bool) → f x ≡ b → Memᴰ a (cond b (x ∷ keep f l) (keep f l))
      go true e = Memᴰ.head d
      go false e = never (sym (rw d at t) ∙ e)
  in-keep f {a = a} (Memᴰ.tail {x = x} {xs = l} n) t = go (f x) (in-keep f n t)
    where
      go : (b : Bool) → Memᴰ a (keep f l) → Memᴰ a (cond b (x ∷ keep f l) (keep f l))
      go true ih = Memᴰ.tail ih
      go false ih = ih

  pub ordered-keep : {R : A → A → Type 0} (f : A → Bool) {l : List A} → Ordered R l → Ordered R (keep f l)
  unfolding keep
  ordered-keep f none = none
  ordered-keep {R} f (more {x = x} {l = l} h o) = go (f x) (ordered-keep f o)
    where
      go : (b : Bool) → Ordered R (keep f l) → Ordered R (cond b (x ∷ keep f l) (keep f l))
      go true ih = more (λ y n. h y (keep-in f l n)) ih
      go false ih = ih

pub keep-map : {A B : Type 0} (f : B → Bool) (g : A → B) (l : List A) → keep f (map g l) ≡ map g (keep (λ x. f (g x)) l)
unfolding keep
keep-map f g [] = refl
keep-map {B = B} f g (x ∷ l) = go (f (g x)) (keep-map f g l)
  where
    go : (b : Bool) → keep f (map g l) ≡ map g (keep (λ y. f (g y)) l)
        → cond b (g x ∷ keep f (map g l)) (keep f (map g l)) ≡ map g (cond b (x ∷ keep (λ y. f (g y)) l) (keep (λ y. f (g y)) l))
    go true ih = ap (λ (ys : List B). g x ∷ ys) ih
    go false ih = ih

pub keep-most : {A : Type 0} (f : A → Bool) (l : List A) → length (keep f l) ≤ length l
unfolding keep
keep-most f [] = omega arith
keep-most {A} f (x ∷ l) = go (f x) (keep-most f l)
  where
    go : (b : Bool) → length (keep f l) ≤ length l → length (cond b (x ∷ keep f l) (keep f l)) ≤ suc (length l)
    go true h = omega arith
    go false h = omega arith

module _ {A : Type 0} (f : A → Bool) where
  pub keep_append : (xs ys : List A) → keep f (xs ++ ys) ≡ keep f xs ++ keep f ys
  unfolding keep
  keep_append [] ys = refl
  keep_append (x ∷ xs) ys = go (f x) (keep_append xs ys)
    where
      go : (b : Bool) → keep f (xs ++ ys) ≡ keep f xs ++ keep f ys → cond b (x ∷ keep f (xs ++ ys)) (keep f (xs ++ ys)) ≡ cond b (x ∷ keep f xs) (keep f xs) ++ keep f ys
      go true ih = rw ih
      go false ih = ih

  pub keep-none : (xs : List A) → ((x : A) → Memᴰ x xs → f x ≡ false) → keep f xs ≡ []
  unfolding keep
  keep-none [] h = refl
  keep-none (x ∷ xs) h = rw (h x (Memᴰ.head refl)) (keep-none xs (λ y l. h y (Memᴰ.tail l)))

  pub keep_all : (xs : List A) → ((x : A) → Memᴰ x xs → f x ≡ true) → keep f xs ≡ xs
  unfolding keep
  keep_all [] h = refl
  keep_all (x ∷ xs) h = rw (h x (Memᴰ.head refl), keep_all xs (λ y l. h y (Memᴰ.tail l)))

  pub keep_same : (g : A → Bool) (xs : List A) → ((x : A) → Memᴰ x xs → f x ≡ g x) → keep f xs ≡ keep g xs
  unfolding keep
  keep_same g [] h = refl
  keep_same g (x ∷ xs) h = rw (h x (Memᴰ.head refl), keep_same g xs (λ y l. h y (Memᴰ.tail l)))

  -- a wider test before it takes nothing away
  pub keep-keep : (g : A → Bool) (xs : List A) → ((x : A) → Memᴰ x xs → f x ≡ true → g x ≡ true) → keep f (keep g xs) ≡ keep f xs
  unfolding keep
  keep-keep g [] h = refl
  keep-keep g (x ∷ xs) h = go (g x) refl (keep-keep g xs (λ y l. h y (Memᴰ.tail l)))
    where
      go : (b : Bool) → g x ≡ b → keep f (keep g xs) ≡ keep f xs → keep f (cond b (x ∷ keep g xs) (keep g xs)) ≡ cond (f x) (x ∷ keep f xs) (keep f xs)
      go true e ih = ap (λ (l : List A). cond (f x) (x ∷ l) l) ih
      go false e ih = rw (refuted (f x) (λ t. never (sym (h x (Memᴰ.head refl) t) ∙ e))) ih

-- of the first numbers, only the n from a on pass
keep-middle : (f : ℕ → Bool) (a n d : ℕ) → ((x : ℕ) → x < a + (n + d) → f x ≡ true → (a ≤ x) × (x < a + n)) → keep f (up_from 0 (a + (n + d))) ≡ keep f (up_from a n)
keep-middle f a n d h =
    let z : 0 + a ≡ a = omega arith in
    let rest : List ℕ = up_from (a + n) d in
    rw (up-append 0 a (n + d), z, up-append a n d, keep_append f (up_from 0 a) (up_from a n ++ rest), keep_append f (up_from a n) rest, keep-none f (up_from 0 a) ahead, keep-none f rest past)
    (append-nil (keep f (up_from a n)))
  where
    ahead : (x : ℕ) → Memᴰ x (up_from 0 a) → f x ≡ false
    ahead x l = let k = (up_in 0 a x).0 l in refuted (f x) (λ e. omega (arith, h x (omega arith) e))

    past : (x : ℕ) → Memᴰ x (up_from (a + n) d) → f x ≡ false
    past x l = let k = (up_in (a + n) d x).0 l in refuted (f x) (λ e. omega (arith, h x (omega arith) e))

pub keep_run : (f : ℕ → Bool) (a n k : ℕ) → a + n ≤ k → ((x : ℕ) → x < k → f x ≡ true → (a ≤ x) × (x < a + n)) → keep f (up_from 0 k) ≡ keep f (up_from a n)
keep_run f a n k l h = let e : a + (n + (k - (a + n))) ≡ k = omega arith in rw e at (keep-middle f a n (k - (a + n)) (λ x g. h x (omega arith)))
