-- The sizes of a map, and lent cells: an answer in them, and the cells beyond it.
-- Assumes nothing.
use mathlib.Core.Path.{◌≡◌, refl, sym, ap, subst, ◌∙◌}
use mathlib.Core.Logic.{◌↔◌}
use mathlib.Core.Bool.{Bool, true, false, not, ◌&&◌, ◌||◌}
use mathlib.Core.List.{List, [], ◌∷◌, ◌++◌, append_assoc, append-nil}
use Prim.Native.Nat.{ℕ, ◌+◌, ◌-◌, ◌≤◌, ◌<◌}
use native.Mathlib.Nat.{zero-add}
use native.Mathlib.Numerals.{add-one}
use native.Mathlib.Decide.{dec_lt, ℕ_discrete}
use native.Mathlib.Omega.{arith}
use lib.Dec.{eqb, ltb}
use lib.ListN.{length, take, drop, get_or, set, length-append, length-drop}
use lib.Seq.{get_or-take, get_or-drop, take_at, drop_at, set_at, drop-drop, drop-cons, drop-length, sets, sets-eq}
use borrow.Author.Tests.{ltb-false, eqb-false, eqb-true, lt-ltb, le-ltb, eq-eqb, ne_eqb, not-false}
use Rattle.lists.proofs.Laws.{never, neither}
use Rattle.std.specs.Prelude.{Ok}
use Rattle.answers.specs.declared.Cause.TheVariants.{BadM, BadCount}
use Rattle.answers.specs.Refusals.{refusal, refuse, verdict}
use Rattle.answers.specs.Sizes.{picture_refusals, count_refusals, wrong_count, size_refusals_in, SizedIn}
use Rattle.answers.specs.Cells.{overwrite}
use Rattle.answers.proofs.Tables.{answer-none, refusal-held, refusal-clear, append-refused, passed-one, passed-next}

-- ---- the sizes of a map

module _ (m : ℕ) where
  pub picture-passed : (verdict (picture_refusals m) ≡ Ok tt) ↔ (m ≤ 12)
  unfolding picture_refusals
  picture-passed = (λ e. ltb-false 12 m ((passed-one (ltb 12 m) BadM 0).0 e), λ l. (passed-one (ltb 12 m) BadM 0).1 (le-ltb 12 m l))

  pub picture-refused : 12 < m → verdict (picture_refusals m) ≡ refuse BadM 0
  unfolding picture_refusals
  picture-refused l = refusal-held refuse BadM 0 [] (Ok tt) (lt-ltb 12 m l)

module _ {whole : Bool} {m keys classes : ℕ} where
  pub sized : (verdict (size_refusals_in whole m keys classes) ≡ Ok tt) ↔ SizedIn whole m keys classes
  unfolding size_refusals_in picture_refusals count_refusals wrong_count
  sized = (to, from)
    where
      some : (b : Bool) → (b && eqb keys 0) ≡ false → b ≡ true → 1 ≤ keys
      some true e d = let n = eqb-false keys 0 e in omega (arith, n)
      some false e d = never (sym d)

      none : (b : Bool) → (b ≡ true → 1 ≤ keys) → (b && eqb keys 0) ≡ false
      none true s = ne_eqb keys 0 (λ e. omega (arith, s refl))
      none false s = refl

      to : verdict (refusal (ltb 12 m) BadM 0 ∷ refusal (wrong_count whole keys classes) BadCount 0 ∷ []) ≡ Ok tt → SizedIn whole m keys classes
      to e =
          let one = (passed-next (ltb 12 m) BadM 0 _).0 e in
          let two = (passed-next (wrong_count whole keys classes) BadCount 0 []).0 one.1 in
          let most = neither (not (eqb keys classes) || (whole && eqb keys 0)) (ltb 65536 keys) two.0 in
          let same = neither (not (eqb keys classes)) (whole && eqb keys 0) most.0 in
          record {
            small = ltb-false 12 m one.0;
            same = eqb-true keys classes (not-false _ same.0);
            some = some whole same.1;
            most = ltb-false 65536 keys most.1;
          }

      from : SizedIn whole m keys classes → verdict (refusal (ltb 12 m) BadM 0 ∷ refusal (wrong_count whole keys classes) BadCount 0 ∷ []) ≡ Ok tt
      from s =
          let right : wrong_count whole keys classes ≡ false = rw (eq-eqb keys classes s.same, none whole s.some, le-ltb 65536 keys s.most) in
          (passed-next (ltb 12 m) BadM 0 _).1 (le-ltb 12 m s.small, (passed-next (wrong_count whole keys classes) BadCount 0 []).1 (right, answer-none refuse (Ok tt)))

-- what is asked of a whole map is more
pub sized-sparse : {whole : Bool} {m keys classes : ℕ} → SizedIn whole m keys classes → SizedIn false m keys classes
sized-sparse s = record { small = s.small; same = s.same; some = λ e. never (sym e); most = s.most }

module _ (whole : Bool) (m keys classes : ℕ) where
  pub over-12 : 12 < m → verdict (size_refusals_in whole m keys classes) ≡ refuse BadM 0
  unfolding size_refusals_in
  over-12 l = append-refused refuse (picture_refusals m) _ _ (picture-refused m l)

  pub not-sized : m ≤ 12 → (SizedIn whole m keys classes → ⊥) → verdict (size_refusals_in whole m keys classes) ≡ refuse BadCount 0
  unfolding size_refusals_in picture_refusals count_refusals
  not-sized l wrong = go (wrong_count whole keys classes) refl
    where
      go : (t : Bool) → wrong_count whole keys classes ≡ t → verdict (refusal (ltb 12 m) BadM 0 ∷ refusal (wrong_count whole keys classes) BadCount 0 ∷ []) ≡ refuse BadCount 0
      go true e = refusal-clear refuse BadM 0 _ _ (le-ltb 12 m l) ∙ refusal-held refuse BadCount 0 [] _ e
      go false e = absurd (wrong (sized.0 (refusal-clear refuse BadM 0 _ _ (le-ltb 12 m l) ∙ refusal-clear refuse BadCount 0 [] _ e ∙ answer-none refuse (Ok tt))))

-- of slices that are not both empty the same is asked, whether the map is to be whole or not
sizes-some : (m : ℕ) {keys classes : ℕ} → (keys ≡ 0 → classes ≡ 0 → ⊥) → size_refusals_in false m keys classes ≡ size_refusals_in true m keys classes
unfolding size_refusals_in count_refusals wrong_count
sizes-some m {keys} {classes} some = go (ℕ_discrete keys classes)
  where
    go : Dec (keys ≡ classes) → size_refusals_in false m keys classes ≡ size_refusals_in true m keys classes
    go (yes e) = rw (eq-eqb keys classes e, ne_eqb keys 0 (λ z. some z (sym e ∙ z)))
    go (no n) = rw (ne_eqb keys classes n)

-- and so it is of all, but where a whole map is refused for want of records
pub sizes-same : (m : ℕ) {keys classes : ℕ} → (verdict (size_refusals_in true m keys classes) ≡ refuse BadCount 0 → keys ≡ 0 → classes ≡ 0 → ⊥)
    → verdict (size_refusals_in false m keys classes) ≡ verdict (size_refusals_in true m keys classes)
sizes-same m {keys} {classes} some = go (dec_lt 12 m)
  where
    go : Dec (12 < m) → verdict (size_refusals_in false m keys classes) ≡ verdict (size_refusals_in true m keys classes)
    go (yes l) = over-12 false m keys classes l ∙ sym (over-12 true m keys classes l)
    go (no l) = ap verdict (sizes-some m (λ e d. some (not-sized true m keys classes (omega arith) (λ s. omega (arith, s.some refl, e))) e d))

-- ---- lent cells

module _ (xs zs : List ℕ) where
  pub overwrite-length : length xs ≤ length zs → length (overwrite xs zs) ≡ length zs
  unfolding overwrite
  overwrite-length l = simp (length-append, length-drop) (omega arith)

  pub take-overwrite : take (length xs) (overwrite xs zs) ≡ xs
  unfolding overwrite
  take-overwrite = take_at xs _ _ refl

  pub overwrite-at : (i : ℕ) → i < length xs → get_or (overwrite xs zs) i 0 ≡ get_or xs i 0
  overwrite-at i l = sym (get_or-take (length xs) (overwrite xs zs) i 0 l) ∙ ap (λ (t : List ℕ). get_or t i 0) take-overwrite

  pub drop-overwrite : drop (length xs) (overwrite xs zs) ≡ drop (length xs) zs
  unfolding overwrite
  drop-overwrite = drop_at xs _ _ refl

  pub drop-beyond : (n : ℕ) → length xs ≤ n → drop n (overwrite xs zs) ≡ drop n zs
  drop-beyond n l =
      let e : length xs + (n - length xs) ≡ n = omega arith in
      subst (λ (k : ℕ). drop k (overwrite xs zs) ≡ drop k zs) e
      (sym (drop-drop (n - length xs) (length xs) (overwrite xs zs)) ∙ ap (drop (n - length xs)) drop-overwrite ∙ drop-drop (n - length xs) (length xs) zs)

  pub overwrite-beyond : (i : ℕ) → length xs ≤ i → get_or (overwrite xs zs) i 0 ≡ get_or zs i 0
  overwrite-beyond i l =
      let z : i + 0 ≡ i = omega arith in
      rw z at (sym (get_or-drop i (overwrite xs zs) 0 0) ∙ ap (λ (t : List ℕ). get_or t 0 0) (drop-beyond i l) ∙ get_or-drop i zs 0 0)

  -- what is written behind an answer goes on with it
  pub overwrite-append : (ys : List ℕ) → take (length xs) (overwrite xs zs) ++ overwrite ys (drop (length xs) (overwrite xs zs)) ≡ overwrite (xs ++ ys) zs
  unfolding overwrite
  overwrite-append ys = rw (take-overwrite, drop-overwrite, drop-drop, length-append, append_assoc)

  pub overwrite-set : (y : ℕ) → length xs < length zs → set (overwrite xs zs) (length xs) y ≡ overwrite (xs ++ (y ∷ [])) zs
  unfolding overwrite
  overwrite-set y l = ap (λ (t : List ℕ). set (xs ++ t) (length xs) y) (drop-cons zs (length xs) 0 l) ∙ set_at xs _ _ y _ refl ∙ rw (length-append, append_assoc, add-one)

  -- only the cells beyond the answer matter, so writing it once more changes nothing
  pub overwrite-same : (ys : List ℕ) → drop (length xs) ys ≡ drop (length xs) zs → overwrite xs ys ≡ overwrite xs zs
  unfolding overwrite
  overwrite-same ys e = ap (λ (t : List ℕ). xs ++ t) e

  pub overwrite-again : overwrite xs (overwrite xs zs) ≡ overwrite xs zs
  overwrite-again = overwrite-same _ drop-overwrite

  -- an answer in a part that is lent, and the cells beyond the part
  pub overwrite-part : xs ++ drop (length xs) zs ≡ overwrite xs zs
  unfolding overwrite
  overwrite-part = refl

  pub overwrite-all : length xs ≡ length zs → overwrite xs zs ≡ xs
  unfolding overwrite
  overwrite-all e = rw (e, drop-length, append-nil)

  -- stores one after the other, from the first cell on
  pub overwrite-sets : length xs ≤ length zs → sets zs 0 xs ≡ overwrite xs zs
  unfolding overwrite
  overwrite-sets l = sets-eq xs zs 0 (rw zero-add l) ∙ rw zero-add
