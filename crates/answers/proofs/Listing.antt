-- Elements that are written one behind another, those for which there is room.
-- Assumes nothing.
use mathlib.Core.Path.{◌≡◌, refl, sym, ap, ◌∙◌}
use mathlib.Core.List.{List, [], ◌∷◌, ◌++◌}
use Prim.Native.Nat.{ℕ, suc, ◌+◌, ◌≤◌}
use native.Mathlib.Decide.{dec_lt}
use native.Mathlib.Omega.{arith}
use lib.ListN.{length, set, length-append, length-set}
use lib.Seq.{sets}
use borrow.Author.Tests.{lt-ltb, le-ltb}
use Rattle.answers.specs.Cells.{overwrite, put, listed, Listed}
use Rattle.answers.proofs.Cells.{overwrite-sets}

-- ---- one element

module _ {A : Type 0} (n : ℕ) (x : A) (out : List A) where
  pub put-there : suc n ≤ length out → put n x out ≡ set out n x
  unfolding put
  put-there l = rw (lt-ltb n (length out) l)

  pub put-late : length out ≤ n → put n x out ≡ out
  unfolding put
  put-late l = rw (le-ltb n (length out) l)

  put-length : length (put n x out) ≡ length out
  put-length = go (dec_lt n (length out))
    where
      go : Dec (suc n ≤ length out) → length (put n x out) ≡ length out
      go (yes l) = rw (put-there l) (length-set out n x)
      go (no h) = rw (put-late (omega (arith, h)))

-- ---- a list of elements

listed-length : {A : Type 0} (n : ℕ) (xs out : List A) → length (listed n xs out) ≡ length out
unfolding listed
listed-length n [] out = refl
listed-length n (x ∷ xs) out = listed-length (suc n) xs (put n x out) ∙ put-length n x out

listed-append : {A : Type 0} (n : ℕ) (xs xs' out : List A) → listed n (xs ++ xs') out ≡ listed (n + length xs) xs' (listed n xs out)
unfolding listed
listed-append n [] xs' out = let e : n + 0 ≡ n = omega arith in rw e
listed-append n (x ∷ xs) xs' out = let e : n + suc (length xs) ≡ suc n + length xs = omega arith in rw e (listed-append (suc n) xs xs' (put n x out))

-- with room for all, each is stored
listed-sets : {A : Type 0} (n : ℕ) (xs out : List A) → n + length xs ≤ length out → listed n xs out ≡ sets out n xs
unfolding listed
listed-sets n [] out l = refl
listed-sets n (x ∷ xs) out l = rw (put-there n x out (omega arith)) (listed-sets (suc n) xs (set out n x) (omega (arith, length-set out n x)))

-- with no room for the first, nothing is
listed-late : {A : Type 0} (n : ℕ) (xs out : List A) → length out ≤ n → listed n xs out ≡ out
unfolding listed
listed-late n [] out l = refl
listed-late n (x ∷ xs) out l = rw (put-late n x out l) (listed-late (suc n) xs out (omega arith))

-- ---- as a function says that it has listed them

pub listed-none : {A : Type 0} (n : ℕ) (out : List A) → Listed n [] out n out
unfolding listed
listed-none n out = record { count = omega arith; cells = refl }

pub listed-one : {A : Type 0} (n : ℕ) (x : A) (out : List A) → Listed n (x ∷ []) out (n + 1) (put n x out)
unfolding listed
listed-one n x out = record { count = omega arith; cells = refl }

pub listed_more : {A : Type 0} {n : ℕ} {xs xs' out out' out'' : List A} {k k' : ℕ} → Listed n xs out k out' → Listed k xs' out' k' out'' → Listed n (xs ++ xs') out k' out''
listed_more {n = n} {xs} {xs'} {out} a b = record {
  count = b.count ∙ simp length-append (omega (arith, a.count));
  cells = b.cells ∙ rw (a.count, a.cells) (sym (listed-append n xs xs' out));
}

pub listed-beyond : {A : Type 0} (n : ℕ) (xs out : List A) → length out ≤ n → Listed n xs out (n + length xs) out
listed-beyond n xs out l = record { count = refl; cells = sym (listed-late n xs out l) }

module _ {A : Type 0} {n : ℕ} {xs out out' : List A} {k : ℕ} (L : Listed n xs out k out') where
  pub listed_same : length out' ≡ length out
  listed_same = ap length L.cells ∙ listed-length n xs out

pub listed-count : {A : Type 0} {xs out out' : List A} {k : ℕ} → Listed 0 xs out k out' → k ≡ length xs
listed-count L = omega (arith, L.count)

-- a part without a cell comes back without one, and the cells behind it are the slice
pub listed-nothing : {A : Type 0} {n : ℕ} {xs out' : List A} {k : ℕ} → Listed n xs [] k out' → (out : List A) → out' ++ out ≡ out
listed-nothing {out' = []} L out = refl
listed-nothing {out' = y ∷ out'} L out = absurd (omega (arith, listed_same L))

pub listed-all : {xs out out' : List ℕ} {k : ℕ} → Listed 0 xs out k out' → length xs ≤ length out → out' ≡ overwrite xs out
listed-all {xs} {out} L l = L.cells ∙ listed-sets 0 xs out (omega arith) ∙ overwrite-sets xs out l
