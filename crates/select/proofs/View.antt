-- What is selected is found from the view alone: no record outside the window lies in a maximal block of it or around one.
-- Assumes nothing.
use mathlib.Core.Path.{◌≡◌, refl, sym, ap, ap₂, ◌∙◌}
use mathlib.Core.Bool.{Bool, true, cond, ◌&&◌}
use mathlib.Core.List.{List, [], ◌∷◌, ◌++◌, map, map-map, Memᴰ}
use Prim.Native.Nat.{ℕ, ◌≤◌, ◌<◌}
use native.Mathlib.Omega.{arith}
use lib.Dec.{eqb}
use lib.ListN.{length}
use Rattle.lists.specs.Lists.{up_from, any, keep}
use Rattle.lists.proofs.Laws.{keep-map, any-map}
use Rattle.key.specs.Picture.{place, Px}
use Rattle.key.specs.Form.{form_of}
use Rattle.key.specs.Blocks.{Names}
use Rattle.key.proofs.Laws.{pow-least}
use Rattle.window.specs.declared.Window.{Window}
use Rattle.window.specs.Window.{Inside}
use Rattle.window.specs.Blocks.{exponent, maximal}
use Rattle.window.specs.Keys.{key_of}
use Rattle.window.proofs.Laws.{keys-of, key-named}
use Rattle.map.specs.Spans.{within}
use Rattle.map.specs.Sound.{Spaced}
use Rattle.map.proofs.Laws.{record-at}
use Rattle.border.specs.Promises.{Touches}
use Rattle.border.specs.ViewPromises.{record_at, records_of, view, SameView}
use Rattle.border.specs.Step.{Corner}
use Rattle.border.proofs.Laws.{listed-corner, keep-view, any-view, touched}
use Rattle.select.specs.Select.{around, inside, selected, all_selected, selection}
use Rattle.select.proofs.Choices.{around-is, inside_is}

-- `around` and `inside`, of a record by its key and its class
abbrev record_around : ℕ → ℕ → ℕ → ℕ × ℕ → Bool
record_around m class key r = eqb r.1 class && within (form_of m key) (form_of m r.0)

abbrev record_inside : ℕ → ℕ → ℕ → ℕ × ℕ → Bool
record_inside m class key r = eqb r.1 class && within (form_of m r.0) (form_of m key)

-- what is selected from the block of a key, by records
abbrev chosen : ℕ → ℕ → ℕ → List (ℕ × ℕ) → List ℕ
chosen m class key records = cond (any (record_around m class key) records) (key ∷ []) (map (λ r. r.0) (keep (record_inside m class key) records))

module _ {m top : ℕ} {keys : List ℕ} (F : Spaced m 0 keys) {W : Window} (I : Inside m W) (small : top ≤ m) (classes : List ℕ) (class : ℕ) where
  -- by all records of the map
  selected-records : (key : ℕ) → selected m keys classes class key ≡ chosen m class key (records_of keys classes)
  unfolding selected around inside
  selected-records key =
      let inner : List ℕ = keep (λ n. record_inside m class key (record_at keys classes n)) records in
      rw (
        any-map (record_around m class key) (record_at keys classes) records,
        keep-map (record_inside m class key) (record_at keys classes) records,
        map-map (λ (r : ℕ × ℕ). r.0) (record_at keys classes) inner,
      )
    where
      records : List ℕ
      records = up_from 0 (length keys)

  -- by those of the view
  selected-view : {b : Px} → Corner W top b → selected m keys classes class (key_of m top W b) ≡ chosen m class (key_of m top W b) (view m keys classes W)
  unfolding around inside
  selected-view {b} C = selected-records key ∙ sym (rw (any-view F W classes (record_around m class key) round, keep-view F W classes (record_inside m class key) inner))
    where
      key : ℕ
      key = key_of m top W b

      B : Names m key (exponent W top b) (place b.0 b.1)
      B = key-named I small C.inside C.own

      round : (n : ℕ) → n < length keys → around m keys classes class key n ≡ true → Touches m keys W n
      round n l e = let R = record-at F n l in touched F I small C R.is (omega (arith, ((around-is classes class B R.is).0 e).1, pow-least 3 (exponent W top b)))

      inner : (n : ℕ) → n < length keys → inside m keys classes class key n ≡ true → Touches m keys W n
      inner n l e = let R = record-at F n l in touched F I small C R.is (omega (arith, ((inside_is classes class B R.is).0 e).1, pow-least 3 R.exponent))

-- on two maps with the same view the same keys are selected
pub selection-view : {m top : ℕ} {keys keys' : List ℕ} → Spaced m 0 keys → Spaced m 0 keys' → {W : Window} → Inside m W → top ≤ m → {classes classes' : List ℕ}
    → SameView m keys classes keys' classes' W → (class : ℕ) → selection m top keys classes W class ≡ selection m top keys' classes' W class
unfolding selection all_selected
selection-view {m} {top} {keys} {keys'} F F' {W} I small {classes} {classes'} same class = rw (keys-of m top W) (go (maximal W top) (λ b l. listed-corner l))
  where
    one : {b : Px} → Corner W top b → selected m keys classes class (key_of m top W b) ≡ selected m keys' classes' class (key_of m top W b)
    one {b} C = selected-view F I small classes class C ∙ ap (chosen m class (key_of m top W b)) same.one ∙ sym (selected-view F' I small classes' class C)

    go : (bs : List Px) → ((b : Px) → Memᴰ b bs → Corner W top b)
        → all_selected m keys classes class (map (key_of m top W) bs) ≡ all_selected m keys' classes' class (map (key_of m top W) bs)
    go [] C = refl
    go (b ∷ bs) C = ap₂ ◌++◌ (one (C b (Memᴰ.head refl))) (go bs (λ x l. C x (Memᴰ.tail l)))
