-- Digits, from the last on: what the loop does in a turn.
-- Assumes nothing.
use mathlib.Core.Path.{◌≡◌, refl, sym, ap, ◌∙◌}
use mathlib.Core.List.{List, [], ◌∷◌, ◌++◌}
use Prim.Native.Nat.{ℕ, zero, suc, ◌+◌, ◌-◌, ◌/◌, ◌%◌, ◌^◌, ◌≤◌, ◌<◌}
use native.Mathlib.Numerals.{add-one}
use native.Mathlib.Decide.{dec_lt}
use native.Mathlib.Omega.{arith}
use lib.ListN.{length, take, drop, set, length-set}
use lib.Seq.{set_split, append_snoc, drop_at, length-take-le}
use Rattle.answers.specs.After.{after}
use Rattle.answers.proofs.Laws.{overwrite-part}
use Rattle.text.specs.Text.{digits_of, put_of}
use Rattle.text.proofs.Digits.{digits-small, digits-large, width_small, width-large, width_some, put_all}

drop-set : (cells : List ℕ) (i y : ℕ) → i < length cells → drop i (set cells i y) ≡ y ∷ drop (i + 1) cells
drop-set cells i y l = ap (drop i) (set_split cells i y l) ∙ drop_at (take i cells) _ i (length-take-le i cells (omega arith)) ∙ rw add-one

-- the digits of `rest` that go before place i: none where there is no place
abbrev pub ahead : ℕ → ℕ → List ℕ
ahead zero rest = []
ahead (suc n) rest = digits_of rest

ahead-some : (i rest : ℕ) → 1 ≤ i → ahead i rest ≡ digits_of rest
ahead-some zero rest l = absurd (omega arith)
ahead-some (suc n) rest l = refl

-- from place i on stand the last digits of x, and `rest` is the number of those before it
pub record Spelling (x i rest : ℕ) (cells : List ℕ) : Type 0 where
  pub is : ahead i rest ++ drop i cells ≡ digits_of x
  pub left : length (ahead i rest) ≡ i
  pub within : i ≤ length cells
  pub small : rest < 2 ^ 32

module _ {x i rest : ℕ} {cells : List ℕ} (s : Spelling x i rest cells) (some : 1 ≤ i) where
  now : ahead i rest ≡ digits_of rest
  now = ahead-some i rest some

  behind : drop (i - 1) (set cells (i - 1) (48 + rest % 10)) ≡ (48 + rest % 10) ∷ drop i cells
  behind =
      let e : i - 1 + 1 ≡ i = omega arith in
      rw (drop-set cells (i - 1) (48 + rest % 10) (omega (arith, s.within)), e)

  -- what goes ahead and this digit are the digits of `rest`
  digit : (ahead (i - 1) (rest / 10) ++ (48 + rest % 10) ∷ [] ≡ digits_of rest) × (length (ahead (i - 1) (rest / 10)) ≡ i - 1)
  digit = go (dec_lt rest 10)
    where
      go : Dec (rest < 10) → (ahead (i - 1) (rest / 10) ++ (48 + rest % 10) ∷ [] ≡ digits_of rest) × (length (ahead (i - 1) (rest / 10)) ≡ i - 1)
      go (yes l) =
          let last : i - 1 ≡ 0 = omega (arith, rw now at s.left, width_small rest l) in
          let whole : rest % 10 ≡ rest = omega arith in
          (rw (last, whole, digits-small rest l), rw last)
      go (no h) =
          let large : 10 ≤ rest = omega (arith, h) in
          let wide = width-large rest large s.small in
          let ahead : ahead (i - 1) (rest / 10) ≡ digits_of (rest / 10) = ahead-some (i - 1) (rest / 10) (omega (arith, rw now at s.left, wide, width_some (rest / 10))) in
          (rw (ahead, digits-large rest large s.small), rw ahead (omega (arith, rw now at s.left, wide)))

  pub spell_next : Spelling x (i - 1) (rest / 10) (set cells (i - 1) (48 + rest % 10))
  spell_next = record {
    is = rw behind (sym (append_snoc (ahead (i - 1) (rest / 10)) (48 + rest % 10) (drop i cells)) ∙ rw (digit.0, ← now) s.is);
    left = digit.1;
    within = rw length-set (omega (arith, s.within));
    small = omega (arith, s.small);
  }

-- the bytes that were put into the front of a slice
pub put_front : (text out : List ℕ) {n : ℕ} {ys : List ℕ} → n ≡ length text → ys ≡ text → n ≤ length out → after n (ys ++ drop n out) ≡ put_of text out
put_front text out {n} {ys} e w l = rw (put_all text out (omega arith), ← overwrite-part text out, w, e)
