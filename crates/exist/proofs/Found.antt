-- Whether some pixel of a window has a class: exactly when some record that the openings hand out has it. They hand out the records of the window's pixels, and no other.
-- Assumes nothing.
use mathlib.Core.Path.{◌≡◌, refl}
use mathlib.Core.Logic.{◌↔◌}
use mathlib.Core.Bool.{Bool, true, false, ◌||◌}
use mathlib.Core.List.Memᴰ
use mathlib.Core.List.{List, [], ◌∷◌, ◌++◌}
use Prim.Native.Nat.{ℕ, ◌≤◌}
use lib.ListN.{get_or}
use borrow.Author.Tests.{eqb-true, eq-eqb}
use Rattle.lists.specs.Lists.{any}
use Rattle.lists.proofs.Laws.{agree, any_none, any-has, has-any, any_append}
use Rattle.key.specs.Picture.{Px}
use Rattle.window.specs.declared.Window.{Window}
use Rattle.window.specs.Window.{In, Inside}
use Rattle.window.proofs.Laws.{exists-by-means}
use Rattle.map.specs.Sound.{Follow}
use Rattle.map.specs.Records.{pixel_record}
use Rattle.map.specs.Classes.{classed, class_in}
use Rattle.border.specs.Openings.{Opening, openings, hands, all_hands}
use Rattle.border.proofs.Laws.{hands_none, hands-one, hands-append, in-hands, hands-whole}
use Rattle.exist.specs.Promises.{exists}

-- ---- what it means

module _ (m : ℕ) (keys classes : List ℕ) (class : ℕ) where
  pub exists-means : (W : Window) → (exists m keys classes W class ≡ true) ↔ ((p : Px) × In W p × (get_or classes (pixel_record m keys p.0 p.1) 0 ≡ class))
  exists-means W = exists-by-means (class_in m keys classes) W class

-- ---- by what the openings hand out

pub exists-hands : {m top : ℕ} {keys : List ℕ} → Follow m 0 keys → {W : Window} → Inside m W → top ≤ m → (classes : List ℕ) (class : ℕ)
    → exists m keys classes W class ≡ any (classed classes class) (all_hands (openings m top keys W))
exists-hands {m} {top} {keys} F {W} I small classes class = agree _ _ (to, from)
  where
    test : ℕ → Bool
    test = classed classes class

    os : List Opening
    os = openings m top keys W

    to : exists m keys classes W class ≡ true → any test (all_hands os) ≡ true
    to e =
        let t = (exists-means m keys classes class W).0 e in
        let h = (hands-whole F I small _).0 (record { at = t.0; inside = t.1; is = refl }) in
        has-any test ((in-hands os _).1 h) (eq-eqb _ _ t.2)

    from : any test (all_hands os) ≡ true → exists m keys classes W class ≡ true
    from e =
        let t = any-has test (all_hands os) e in
        let h = (hands-whole F I small t.0).1 ((in-hands os t.0).0 t.1) in
        (exists-means m keys classes class W).1 (h.at, h.inside, rw h.is (eqb-true _ _ t.2))

-- ---- part by part

module _ (f : ℕ → Bool) where
  -- no opening, and one more
  pub any-no-opening : any f (all_hands []) ≡ false
  any-no-opening = rw (hands_none, any_none f)

  pub any-opening : (os : List Opening) (o : Opening) → any f (all_hands (os ++ (o ∷ []))) ≡ any f (all_hands os) || any f (hands o)
  any-opening os o = rw (hands-append os (o ∷ []), hands-one o, any_append f (all_hands os) (hands o))

  pub opening-any : (os : List Opening) (o : Opening) (os' : List Opening) → any f (hands o) ≡ true → any f (all_hands (os ++ o ∷ os')) ≡ true
  opening-any os o os' e =
      let t = any-has f (hands o) e in
      has-any f ((in-hands (os ++ o ∷ os') t.0).1 (record { by = o; listed = Memᴰ.append_right os (Memᴰ.head refl); hands = t.1 })) t.2
