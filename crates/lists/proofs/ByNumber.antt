-- Elements of a list by their number, and the first that passes a test. By induction over the list.
-- Assumes nothing.
use mathlib.Core.Path.{◌≡◌, refl, sym, ap, ◌∙◌}
use mathlib.Core.Bool.{Bool, true, false}
use mathlib.Core.List.Memᴰ
use mathlib.Core.List.{List, [], ◌∷◌, ◌++◌, Memᴰ}
use Prim.Native.Nat.{ℕ, suc, ◌+◌, ◌<◌}
use native.Mathlib.Omega.{arith}
use lib.ListN.{length, get_or}
use Rattle.lists.specs.Promises.{Nth, here, later}
use Rattle.lists.specs.Lists.{before}
use Rattle.lists.proofs.Tests.{refuted}

-- a list at one of its elements
pub record Split {A : Type 0} (l : List A) (x : A) : Type 0 where
  pub front : List A
  pub back : List A
  pub is : l ≡ front ++ x ∷ back

module _ {A : Type 0} where
  pub split : {x : A} {l : List A} → Memᴰ x l → Split l x
  split (Memᴰ.head {xs = l} e) = record { front = []; back = l; is = ap (λ (y : A). y ∷ l) (sym e) }
  split (Memᴰ.tail {x = y} n) = let s = split n in record { front = y ∷ s.front; back = s.back; is = ap (λ (t : List A). y ∷ t) s.is }

  -- each element has a number
  pub nth_of : {x : A} {l : List A} → Memᴰ x l → (k : ℕ) × Nth l k x
  nth_of (Memᴰ.head e) = (0, here refl e)
  nth_of (Memᴰ.tail n) = let t = nth_of n in (suc t.0, later refl t.1)

  pub nth_in : {l : List A} {k : ℕ} {x : A} → Nth l k x → Memᴰ x l
  nth_in (here e d) = Memᴰ.head d
  nth_in (later e n) = Memᴰ.tail (nth_in n)

  pub nth-less : {l : List A} {k : ℕ} {x : A} → Nth l k x → k < length l
  nth-less (here e d) = omega arith
  nth-less (later e n) = omega (arith, nth-less n)

  -- at one number stands one element
  pub nth-one : {l : List A} {k : ℕ} {x y : A} → Nth l k x → Nth l k y → x ≡ y
  nth-one (here e d) (here e' d') = d ∙ sym d'
  nth-one (here e d) (later e' n) = absurd (omega arith)
  nth-one (later e n) (here e' d) = absurd (omega arith)
  nth-one (later {j = j} e n) (later {j = i} e' n') = let d : i ≡ j = omega arith in nth-one n (rw d at n')

  -- in two parts
  pub nth-front : {l : List A} (s : List A) {k : ℕ} {x : A} → Nth l k x → Nth (l ++ s) k x
  nth-front s (here e d) = here e d
  nth-front s (later e n) = later e (nth-front s n)

  pub nth-middle : (l : List A) {x : A} (s : List A) → Nth (l ++ x ∷ s) (length l) x
  nth-middle [] s = here refl refl
  nth-middle (y ∷ l) s = later refl (nth-middle l s)

-- the only element
pub only : {A : Type 0} {x y : A} → Memᴰ x (y ∷ []) → x ≡ y
only (Memᴰ.head e) = e
only (Memᴰ.tail l) = absurd (Memᴰ.not-nil l)

pub nth-get_or : {l : List ℕ} {k x : ℕ} → Nth l k x → get_or l k 0 ≡ x
nth-get_or {l = []} n = elim n [ ]
nth-get_or {l = y ∷ l} (here e d) = rw e (sym d)
nth-get_or {l = y ∷ l} (later e n) = rw e (nth-get_or n)

-- ---- the first that passes

module _ {A : Type 0} (test : A → Bool) where
  pub before-taken : {x : A} (l : List A) → test x ≡ true → before test (x ∷ l) ≡ 0
  unfolding before
  before-taken l e = rw e

  before-passed : {x : A} (l : List A) → test x ≡ false → before test (x ∷ l) ≡ suc (before test l)
  unfolding before
  before-passed l e = rw e

  -- the only one that passes
  pub before_at : {l : List A} {k : ℕ} {x : A} → Nth l k x → test x ≡ true → ((j : ℕ) (y : A) → Nth l j y → test y ≡ true → k ≡ j) → before test l ≡ k
  before_at (here {l = l} e d) t one = before-taken l (rw (← d) t) ∙ sym e
  before_at (later {y = y} {l = l} {j = j} e n) t one =
      before-passed l (refuted (test y) (λ h. omega (arith, one 0 y (here refl refl) h)))
      ∙ ap suc (before_at n t (λ i z p h. omega (arith, one (suc i) z (later refl p) h))) ∙ sym e

  -- where none passes, all stand before; and behind those what stands before the first of the others that does
  pub before-none : (l : List A) → ((x : A) → Memᴰ x l → test x ≡ false) → before test l ≡ length l
  unfolding before
  before-none [] h = refl
  before-none (x ∷ l) h = rw (h x (Memᴰ.head refl)) (ap suc (before-none l (λ y n. h y (Memᴰ.tail n))))

  pub before-append : (l s : List A) → ((x : A) → Memᴰ x l → test x ≡ false) → before test (l ++ s) ≡ length l + before test s
  before-append [] s h = omega arith
  before-append (x ∷ l) s h = before-passed (l ++ s) (h x (Memᴰ.head refl)) ∙ omega (arith, before-append l s (λ y n. h y (Memᴰ.tail n)))
