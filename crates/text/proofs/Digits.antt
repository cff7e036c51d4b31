-- The digits of a number, the length of a line, and what is put into a lent slice.
-- Assumes nothing.
use mathlib.Core.Path.{◌≡◌, refl, sym, ap, ◌∙◌}
use mathlib.Core.Bool.{Bool, true, false, cond}
use mathlib.Core.List.{List, [], ◌∷◌, ◌++◌}
use Prim.Native.Nat.{ℕ, zero, suc, ◌+◌, ◌*◌, ◌/◌, ◌%◌, ◌^◌, ◌≤◌, ◌<◌}
use native.Mathlib.Nat.{one-le-pow}
use native.Mathlib.Numerals.{add-one}
use native.Mathlib.Omega.{arith}
use lib.Dec.{ltb, leb}
use lib.ListN.{length, drop, get_or, length-append, drop_of_length-le}
use lib.Seq.{drop-cons}
use borrow.Author.Tests.{lt-ltb, le-ltb, le-leb, lt-leb, ltb-true, ltb-false, leb-true, leb-false}
use Rattle.answers.specs.Cells.{overwrite}
use Rattle.answers.specs.After.{After, after}
use Rattle.answers.proofs.Laws.{overwrite-length, overwrite-part}
use Rattle.text.specs.Text.{digits, digits_of, spaced, line_of, put_of}

-- ---- digits

-- the last of n + 1 digits, and the n before it
digits-one : (n x : ℕ) → x < 10 → digits (suc n) x ≡ (48 + x) ∷ []
unfolding digits
digits-one n x l = rw (lt-ltb x 10 l)

digits_more : (n x : ℕ) → 10 ≤ x → digits (suc n) x ≡ digits n (x / 10) ++ ((48 + x % 10) ∷ [])
unfolding digits
digits_more n x l = rw (le-ltb x 10 l)

-- a number has no further digits than those that hold it
enough : (n x : ℕ) → x < 10 ^ suc n → digits (suc (suc n)) x ≡ digits (suc n) x
enough zero x l = digits-one 1 x (omega arith) ∙ sym (digits-one 0 x (omega arith))
enough (suc n) x l = go (ltb x 10) refl (enough n (x / 10) (omega arith))
  where
    go : (t : Bool) → ltb x 10 ≡ t → digits (suc (suc n)) (x / 10) ≡ digits (suc n) (x / 10) → digits (suc (suc (suc n))) x ≡ digits (suc (suc n)) x
    go true e ih = digits-one _ x (ltb-true x 10 e) ∙ sym (digits-one _ x (ltb-true x 10 e))
    go false e ih =
        digits_more _ x (ltb-false x 10 e) ∙ ap (λ (ds : List ℕ). ds ++ ((48 + x % 10) ∷ [])) ih ∙ sym (digits_more _ x (ltb-false x 10 e))

pub digits-small : (x : ℕ) → x < 10 → digits_of x ≡ (48 + x) ∷ []
unfolding digits_of
digits-small x l = digits-one 9 x l

pub digits-large : (x : ℕ) → 10 ≤ x → x < 2 ^ 32 → digits_of x ≡ digits_of (x / 10) ++ ((48 + x % 10) ∷ [])
unfolding digits_of
digits-large x l m = digits_more 9 x l ∙ ap (λ (ds : List ℕ). ds ++ ((48 + x % 10) ∷ [])) (sym (enough 8 (x / 10) (omega arith)))

-- one digit, or one more than without the last
pub width_small : (x : ℕ) → x < 10 → length (digits_of x) ≡ 1
width_small x l = ap length (digits-small x l)

pub width-large : (x : ℕ) → 10 ≤ x → x < 2 ^ 32 → length (digits_of x) ≡ length (digits_of (x / 10)) + 1
width-large x l m = ap length (digits-large x l m) ∙ simp length-append

digits-some : (n x : ℕ) → 1 ≤ length (digits (suc n) x)
digits-some n x = go (ltb x 10) refl
  where
    go : (t : Bool) → ltb x 10 ≡ t → 1 ≤ length (digits (suc n) x)
    go true e = omega (arith, ap length (digits-one n x (ltb-true x 10 e)))
    go false e =
        let more : length (digits (suc n) x) ≡ length (digits n (x / 10)) + 1 = ap length (digits_more n x (ltb-false x 10 e)) ∙ simp length-append in
        omega arith

digits-most : (n x : ℕ) → length (digits n x) ≤ n
unfolding digits
digits-most zero x = omega arith
digits-most (suc n) x = go (ltb x 10) (digits-most n (x / 10))
  where
    go : (t : Bool) → length (digits n (x / 10)) ≤ n → length (cond t ((48 + x) ∷ []) (digits n (x / 10) ++ ((48 + x % 10) ∷ []))) ≤ suc n
    go true l = omega arith
    go false l = simp length-append (omega arith)

pub width_some : (x : ℕ) → 1 ≤ length (digits_of x)
unfolding digits_of
width_some x = digits-some 9 x

pub width-most : (x : ℕ) → length (digits_of x) ≤ 10
unfolding digits_of
width-most x = digits-most 10 x

-- by the power of ten that is the last one not above the number
digits-by-power : (n k x : ℕ) → k < n → 10 ^ k ≤ x → x < 10 * 10 ^ k → length (digits n x) ≡ suc k
digits-by-power zero k x l a b = absurd (omega arith)
digits-by-power (suc n) zero x l a b = ap length (digits-one n x (omega arith))
digits-by-power (suc n) (suc k) x l a b =
    ap length (digits_more n x (omega (arith, one-le-pow k 10 (omega arith)))) ∙ simp length-append (omega (arith, digits-by-power n k (x / 10) (omega arith) (omega arith) (omega arith)))

pub width-by-power : (k x : ℕ) → k < 10 → 10 ^ k ≤ x → x < 10 * 10 ^ k → length (digits_of x) ≡ k + 1
unfolding digits_of
width-by-power k x l a b = rw add-one (digits-by-power 10 k x l a b)

-- ---- numbers with spaces

pub spaced-none : (xs : List ℕ) (i : ℕ) → length xs ≤ i → spaced (drop i xs) ≡ []
unfolding spaced
spaced-none xs i l = rw (drop_of_length-le xs l)

-- the next number, and those behind it
pub spaced-next : (xs : List ℕ) (i : ℕ) → i < length xs → spaced (drop i xs) ≡ 32 ∷ digits_of (get_or xs i 0) ++ spaced (drop (i + 1) xs)
unfolding spaced
spaced-next xs i l = rw (drop-cons xs i 0, add-one)

pub span-next : (xs : List ℕ) (i : ℕ) → i < length xs → length (spaced (drop i xs)) ≡ 1 + length (digits_of (get_or xs i 0)) + length (spaced (drop (i + 1) xs))
span-next xs i l = ap length (spaced-next xs i l) ∙ simp length-append (omega arith)

pub line-length : (letter : ℕ) (xs : List ℕ) → length (line_of letter xs) ≡ length (spaced xs) + 2
unfolding line_of
line-length letter xs = simp length-append (omega arith)

-- a line is not long
spaced-most : (xs : List ℕ) → length (spaced xs) ≤ 11 * length xs
unfolding spaced
spaced-most [] = omega arith
spaced-most (x ∷ xs) = simp length-append (omega (arith, width-most x, spaced-most xs))

pub line-most : (letter : ℕ) (xs : List ℕ) → length (line_of letter xs) ≤ 2 + 11 * length xs
line-most letter xs = omega (arith, line-length letter xs, spaced-most xs)

-- ---- what is put

pub put_all : (text out : List ℕ) → length text ≤ length out → put_of text out ≡ after (length text) (overwrite text out)
unfolding put_of
put_all text out l = rw (le-leb (length text) (length out) l)

pub put-none : (text out : List ℕ) → length out < length text → put_of text out ≡ after 0 out
unfolding put_of
put-none text out l = rw (lt-leb (length text) (length out) l)

pub put-empty : (out : List ℕ) → put_of [] out ≡ after 0 out
put-empty out = put_all [] out (omega arith) ∙ rw (← overwrite-part [] out)

-- what was put where there is room
pub put-there : (text out : List ℕ) {r : ℕ} {ys : List ℕ} → after r ys ≡ put_of text out → length text ≤ length out → (r ≡ length text) × (ys ≡ overwrite text out)
put-there text out e l = let p = e ∙ put_all text out l in (ap (λ (a : After ℕ (List ℕ)). a.answer) p, ap (λ (a : After ℕ (List ℕ)). a.lent) p)

-- no more bytes than there are, and no more than the text has
module _ (text out : List ℕ) {r : ℕ} {ys : List ℕ} (p : after r ys ≡ put_of text out) where
  bounds : (r ≤ length ys) × (r ≤ length text)
  bounds = go (leb (length text) (length out)) refl
    where
      go : (t : Bool) → leb (length text) (length out) ≡ t → (r ≤ length ys) × (r ≤ length text)
      go true e =
          let l = leb-true _ _ e in
          let put = put-there text out p l in
          omega (arith, ap length put.1, overwrite-length text out l, put.0)
      go false e =
          let none : r ≡ 0 = ap (λ (a : After ℕ (List ℕ)). a.answer) (p ∙ put-none text out (leb-false _ _ e)) in
          omega arith

  pub put-within : r ≤ length ys
  put-within = bounds.0

  pub put-most : r ≤ length text
  put-most = bounds.1
