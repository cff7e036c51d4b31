-- What is selected from one block, by cases: its own key, where it lies in a record of the class, or the keys of the records inside it.
-- Assumes nothing.
use mathlib.Core.Path.{◌≡◌, refl, sym, ◌∙◌}
use mathlib.Core.Logic.{◌↔◌}
use mathlib.Core.Bool.{Bool, true, false}
use mathlib.Core.List.{List, [], ◌∷◌, map}
use Prim.Native.Nat.{ℕ, ◌^◌, ◌<◌}
use native.Mathlib.Omega.{arith}
use lib.ListN.{length, get_or}
use borrow.Author.Tests.{eqb-true, eq-eqb}
use Rattle.lists.specs.Lists.{up_from, any, keep}
use Rattle.lists.proofs.Laws.{never, refuted, both, up_in, any-has, has-any}
use Rattle.key.specs.Form.{form_of}
use Rattle.key.specs.Blocks.{Names}
use Rattle.key.proofs.Laws.{Covers}
use Rattle.map.specs.Spans.{within}
use Rattle.map.specs.Classes.{classed}
use Rattle.map.proofs.Laws.{Record, within-is}
use Rattle.select.specs.Select.{around, inside, selected}

-- ---- the tests

module _ {m : ℕ} {keys : List ℕ} (classes : List ℕ) (class : ℕ) {key i s : ℕ} (B : Names m key i s) {n j t : ℕ} (R : Record m keys n j t) where
  pub around-is : (around m keys classes class key n ≡ true) ↔ ((get_or classes n 0 ≡ class) × Covers t (4 ^ j) s (4 ^ i))
  unfolding around
  around-is =
      let w = within-is B R.names in
      let b = both (classed classes class n) (within (form_of m key) (form_of m (get_or keys n 0))) in
      (λ e. (eqb-true _ _ (b.0 e).0, w.0 (b.0 e).1), λ h. b.1 (eq-eqb _ _ h.0, w.1 h.1))

  pub inside_is : (inside m keys classes class key n ≡ true) ↔ ((get_or classes n 0 ≡ class) × Covers s (4 ^ i) t (4 ^ j))
  unfolding inside
  inside_is =
      let w = within-is R.names B in
      let b = both (classed classes class n) (within (form_of m (get_or keys n 0)) (form_of m key)) in
      (λ e. (eqb-true _ _ (b.0 e).0, w.0 (b.0 e).1), λ h. b.1 (eq-eqb _ _ h.0, w.1 h.1))

-- ---- what is selected, by cases

module _ (m : ℕ) (keys classes : List ℕ) (class key : ℕ) where
  -- the block lies in a record of the class, or in none
  pub data Lying : Type 0 where
    lies : {n : ℕ} → n < length keys → around m keys classes class key n ≡ true → Lying
    apart : ((n : ℕ) → n < length keys → ¬ (around m keys classes class key n ≡ true)) → Lying

  pub some-around : {n : ℕ} → n < length keys → around m keys classes class key n ≡ true → any (around m keys classes class key) (up_from 0 (length keys)) ≡ true
  some-around {n} l e = has-any (around m keys classes class key) ((up_in 0 (length keys) n).1 (omega arith)) e

  pub none-around : ((n : ℕ) → n < length keys → ¬ (around m keys classes class key n ≡ true)) → any (around m keys classes class key) (up_from 0 (length keys)) ≡ false
  none-around h = refuted (any (around m keys classes class key) (up_from 0 (length keys))) none
    where
      none : any (around m keys classes class key) (up_from 0 (length keys)) ≡ true → ⊥
      none e = let t = any-has (around m keys classes class key) (up_from 0 (length keys)) e in let a = (up_in 0 (length keys) t.0).0 t.1 in h t.0 (omega arith) t.2

  pub lying : Lying
  lying = go (any (around m keys classes class key) (up_from 0 (length keys))) refl
    where
      go : (b : Bool) → any (around m keys classes class key) (up_from 0 (length keys)) ≡ b → Lying
      go true e = let t = any-has (around m keys classes class key) (up_from 0 (length keys)) e in lies {n = t.0} (omega (arith, (up_in 0 (length keys) t.0).0 t.1)) t.2
      go false e = apart (λ n l h. never (sym (some-around l h) ∙ e))

  -- the block lies in a record of the class
  pub selected-whole : {n : ℕ} → n < length keys → around m keys classes class key n ≡ true → selected m keys classes class key ≡ key ∷ []
  unfolding selected
  selected-whole l e = rw (some-around l e)

  -- it lies in none
  pub selected-parts : ((n : ℕ) → n < length keys → ¬ (around m keys classes class key n ≡ true))
      → selected m keys classes class key ≡ map (λ n. get_or keys n 0) (keep (inside m keys classes class key) (up_from 0 (length keys)))
  unfolding selected
  selected-parts h = rw (none-around h)

  -- one or the other
  pub data Choice : Type 0 where
    whole : {n : ℕ} → n < length keys → around m keys classes class key n ≡ true → selected m keys classes class key ≡ key ∷ [] → Choice
    parts : ((n : ℕ) → n < length keys → ¬ (around m keys classes class key n ≡ true))
        → selected m keys classes class key ≡ map (λ n. get_or keys n 0) (keep (inside m keys classes class key) (up_from 0 (length keys))) → Choice

  pub choice : Choice
  choice = go lying
    where
      go : Lying → Choice
      go (lies l e) = whole l e (selected-whole l e)
      go (apart h) = parts h (selected-parts h)
