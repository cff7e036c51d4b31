-- The least and the greatest number of a list: each is one of them, none is less or greater, and what they become with one number more. By induction over the list.
-- Assumes nothing.
use mathlib.Core.Path.{◌≡◌, refl, ◌∙◌}
use mathlib.Core.List.Memᴰ
use mathlib.Core.List.{List, [], ◌∷◌, ◌++◌, Memᴰ}
use Prim.Native.Nat.{ℕ, min, max, ◌≤◌, ◌<◌}
use native.Mathlib.Decide.{dec_lt}
use native.Mathlib.Omega.{arith}
use Rattle.lists.specs.Promises.{least_of}
use Rattle.lists.specs.Lists.{greatest_of}

-- ---- least

pub least-none : least_of [] ≡ 0
unfolding least_of
least-none = refl

pub least_first : (n : ℕ) → least_of (n ∷ []) ≡ n
unfolding least_of
least_first n = refl

pub least-in : (n : ℕ) (ns : List ℕ) → Memᴰ (least_of (n ∷ ns)) (n ∷ ns)
unfolding least_of
least-in n [] = Memᴰ.head refl
least-in n (k ∷ ns) = go (least_of (k ∷ ns)) (dec_lt (least_of (k ∷ ns)) n) (least-in k ns)
  where
    go : (a : ℕ) → Dec (a < n) → Memᴰ a (k ∷ ns) → Memᴰ (min n a) (n ∷ k ∷ ns)
    go a (yes h) l = let e : min n a ≡ a = omega arith in rw e (Memᴰ.tail l)
    go a (no h) l = let e : min n a ≡ n = omega (arith, h) in Memᴰ.head e

pub least-all : (n : ℕ) (ns : List ℕ) (x : ℕ) → Memᴰ x (n ∷ ns) → least_of (n ∷ ns) ≤ x
unfolding least_of
least-all n [] x (Memᴰ.head e) = omega (arith, e)
least-all n [] x (Memᴰ.tail l) = absurd (Memᴰ.not-nil l)
least-all n (k ∷ ns) x (Memᴰ.head e) = omega (arith, e)
least-all n (k ∷ ns) x (Memᴰ.tail l) = omega (arith, least-all k ns x l)

pub least-behind : (n : ℕ) (ns : List ℕ) (x : ℕ) → least_of (n ∷ (ns ++ x ∷ [])) ≡ min (least_of (n ∷ ns)) x
unfolding least_of
least-behind n [] x = refl
least-behind n (k ∷ ns) x = omega (arith, least-behind k ns x)

-- ---- greatest

pub greatest-none : greatest_of [] ≡ 0
unfolding greatest_of
greatest-none = refl

pub greatest-next : (n : ℕ) (ns : List ℕ) → greatest_of (n ∷ ns) ≡ max n (greatest_of ns)
unfolding greatest_of
greatest-next n ns = refl

pub greatest-in : (n : ℕ) (ns : List ℕ) → Memᴰ (greatest_of (n ∷ ns)) (n ∷ ns)
unfolding greatest_of
greatest-in n [] = let e : max n 0 ≡ n = omega arith in Memᴰ.head e
greatest-in n (k ∷ ns) = go (greatest_of (k ∷ ns)) (dec_lt n (greatest_of (k ∷ ns))) (greatest-in k ns)
  where
    go : (a : ℕ) → Dec (n < a) → Memᴰ a (k ∷ ns) → Memᴰ (max n a) (n ∷ k ∷ ns)
    go a (yes h) l = let e : max n a ≡ a = omega arith in rw e (Memᴰ.tail l)
    go a (no h) l = let e : max n a ≡ n = omega (arith, h) in Memᴰ.head e

pub greatest-all : (ns : List ℕ) (x : ℕ) → Memᴰ x ns → x ≤ greatest_of ns
unfolding greatest_of
greatest-all [] x l = absurd (Memᴰ.not-nil l)
greatest-all (n ∷ ns) x (Memᴰ.head e) = omega (arith, e)
greatest-all (n ∷ ns) x (Memᴰ.tail l) = omega (arith, greatest-all ns x l)

pub greatest-append : (ns ks : List ℕ) → greatest_of (ns ++ ks) ≡ max (greatest_of ns) (greatest_of ks)
unfolding greatest_of
greatest-append [] ks = omega arith
greatest-append (n ∷ ns) ks = omega (arith, greatest-append ns ks)

pub greatest-behind : (ns : List ℕ) (x : ℕ) → greatest_of (ns ++ x ∷ []) ≡ max (greatest_of ns) x
unfolding greatest_of
greatest-behind ns x = greatest-append ns (x ∷ []) ∙ omega arith
