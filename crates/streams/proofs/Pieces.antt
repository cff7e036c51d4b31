-- The pieces in which a text goes out.
-- Assumes nothing.
use mathlib.Core.Bool.{Bool, true, false, cond}
use mathlib.Core.Logic.{◌⊎◌, inl, inr}
use mathlib.Core.Path.{◌≡◌, refl, ◌∙◌}
use mathlib.Core.List.{List}
use Prim.Native.Nat.{ℕ, zero, suc, ◌-◌, ◌≤◌, ◌<◌}
use native.Mathlib.Decide.{dec_lt}
use native.Mathlib.Numerals.{sub-one}
use native.Mathlib.Omega.{arith}
use lib.Dec.{eqb, leb}
use lib.ListN.{length, get_or}
use borrow.Author.Tests.{eqb-true, leb-true, leb-false, eq-eqb, ne_eqb, le-leb, lt-leb}
use Rattle.streams.specs.Streams.{lines_in, piece_of}

pub lines_none : (text : List ℕ) (n : ℕ) → n ≤ 0 → lines_in text n ≡ 0
unfolding lines_in
lines_none text zero none = refl
lines_none text (suc n) none = absurd (omega arith)

pub lines-ended : (text : List ℕ) (n : ℕ) → get_or text n 0 ≡ 10 → lines_in text (suc n) ≡ suc n
unfolding lines_in
lines-ended text n e = rw (eq-eqb (get_or text n 0) 10 e)

pub lines-before : (text : List ℕ) (n : ℕ) → (get_or text n 0 ≡ 10 → ⊥) → lines_in text (suc n) ≡ lines_in text n
unfolding lines_in
lines-before text n other = rw (ne_eqb (get_or text n 0) 10 other)

-- the last end of a line among the first n bytes, and none
pub lines-last : (text : List ℕ) (n i : ℕ) → i < n → get_or text i 0 ≡ 10 → ((k : ℕ) → i < k → k < n → get_or text k 0 ≡ 10 → ⊥) → lines_in text n ≡ suc i
lines-last text zero i l e behind = absurd (omega arith)
lines-last text (suc n) i l e behind = go (dec_lt i n) (λ d. lines-last text n i d e (λ k a b. behind k a (omega arith)))
  where
    go : Dec (i < n) → (i < n → lines_in text n ≡ suc i) → lines_in text (suc n) ≡ suc i
    go (yes d) below = lines-before text n (behind n d (omega arith)) ∙ below d
    go (no d) below = let same : n ≡ i = omega (arith, d) in rw same (lines-ended text i e)

pub lines-nowhere : (text : List ℕ) (n : ℕ) → ((k : ℕ) → k < n → get_or text k 0 ≡ 10 → ⊥) → lines_in text n ≡ 0
lines-nowhere text zero none = lines_none text zero (omega arith)
lines-nowhere text (suc n) none = lines-before text n (none n (omega arith)) ∙ lines-nowhere text n (λ k l. none k (omega arith))

-- so many of the first n bytes are whole lines: none, or as many as end with the end of a line
abbrev Ends : List ℕ → ℕ → ℕ → Type 0
Ends text n k = (k ≡ 0) ⊎ ((0 < k) × (k ≤ n) × (get_or text (k - 1) 0 ≡ 10))

ends_next : (text : List ℕ) (n : ℕ) (b : Bool) → eqb (get_or text n 0) 10 ≡ b → Ends text n (lines_in text n) → Ends text (suc n) (lines_in text (suc n))
unfolding lines_in
ends_next text n true e below = rw e (inr (omega arith, omega arith, simp sub-one (eqb-true (get_or text n 0) 10 e)))
ends_next text n false e (inl none) = rw e (inl none)
ends_next text n false e (inr (some, l, end)) = rw e (inr (some, omega (arith, l), end))

pub lines_end : (text : List ℕ) (n : ℕ) → Ends text n (lines_in text n)
lines_end text zero = inl (lines_none text zero (omega arith))
lines_end text (suc n) = ends_next text n (eqb (get_or text n 0) 10) refl (lines_end text n)

lines-within : (text : List ℕ) (n : ℕ) → lines_in text n ≤ n
lines-within text n = within (lines_end text n) where
  within : {k : ℕ} → Ends text n k → k ≤ n
  within (inl none) = omega (arith, none)
  within (inr (some, l, end)) = l

module _ (most : ℕ) (text : List ℕ) where
  pub piece-short : length text ≤ most → piece_of most text ≡ length text
  unfolding piece_of
  piece-short l = rw (le-leb (length text) most l) refl

  pub piece-lines : most < length text → (lines_in text most ≡ 0 → ⊥) → piece_of most text ≡ lines_in text most
  unfolding piece_of
  piece-lines l some = rw (lt-leb (length text) most l, ne_eqb (lines_in text most) 0 some) refl

  pub piece_bytes : most < length text → lines_in text most ≡ 0 → piece_of most text ≡ most
  unfolding piece_of
  piece_bytes l none = rw (lt-leb (length text) most l, none) refl

  within : (short : Bool) → leb (length text) most ≡ short → (none : Bool) → cond short (length text) (cond none most (lines_in text most)) ≤ length text
  within true e none = omega arith
  within false e true = omega (arith, leb-false (length text) most e)
  within false e false = omega (arith, leb-false (length text) most e, lines-within text most)

  pub piece-within : piece_of most text ≤ length text
  unfolding piece_of
  piece-within = within (leb (length text) most) refl (eqb (lines_in text most) 0)

  ends : (short : Bool) → leb (length text) most ≡ short → Ends text most (lines_in text most) → get_or text (length text - 1) 0 ≡ 10 → (lines_in text most ≡ 0 → ⊥)
      → get_or text (piece_of most text - 1) 0 ≡ 10
  ends true e end last some = rw (piece-short (leb-true (length text) most e)) last
  ends false e (inl none) last some = absurd (some none)
  ends false e (inr (more, l, end)) last some = rw (piece-lines (leb-false (length text) most e) some) end

  -- where a text ends with the end of a line, and there is one among the bytes that may be written at once, the piece ends with the end of a line
  pub piece-ends-line : get_or text (length text - 1) 0 ≡ 10 → (lines_in text most ≡ 0 → ⊥) → get_or text (piece_of most text - 1) 0 ≡ 10
  piece-ends-line = ends (leb (length text) most) refl (lines_end text most)
