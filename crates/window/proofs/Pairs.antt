-- Union and intersection of two windows by their edges, and when the union is a rectangle.
-- Assumes nothing.
use mathlib.Core.Path.{◌≡◌}
use mathlib.Core.Logic.{◌↔◌, ◌⊎◌, inl, inr}
use Prim.Native.Nat.{ℕ, ◌+◌, ◌-◌, ◌≤◌}
use native.Mathlib.Omega.{arith}
use Rattle.key.specs.Picture.{Px}
use Rattle.window.specs.declared.Window.{Window}
use Rattle.window.specs.Window.{window, In, Inside}
use Rattle.window.specs.SharingPromises.{Union, Intersection, Overlapping, hull, meet, Filled}
use Rattle.window.proofs.Parts.{sizes-shared, sizes-fill}

-- ---- edges and pixels

-- the edges of A lie between those of U
pub record Within (A U : Window) : Type 0 where
  pub top : U.r0 ≤ A.r0
  pub bottom : A.r0 + A.h ≤ U.r0 + U.h
  pub left : U.c0 ≤ A.c0
  pub right : A.c0 + A.w ≤ U.c0 + U.w

-- so do those of a window that has a pixel, and all of them in U
pub within : {A U : Window} {q : Px} → In A q → ((p : Px) → In A p → In U p) → Within A U
within {A} v inner =
    let nw = inner (A.r0, A.c0) (omega (arith, v)) in
    let se = inner (A.r0 + A.h - 1, A.c0 + A.w - 1) (omega (arith, v)) in
    omega (arith, v, nw, se)

-- windows with the same pixels, of which there is one, are the same
same-window : {W X : Window} {q : Px} → In W q → ((p : Px) → In W p ↔ In X p) → W ≡ X
same-window {W} {X} {q} v same =
    let a = within v (λ p. (same p).0) in
    let b = within ((same q).0 v) (λ p. (same p).1) in
    let r : W.r0 ≡ X.r0 = omega (arith, a, b) in
    let c : W.c0 ≡ X.c0 = omega (arith, a, b) in
    let h : W.h ≡ X.h = omega (arith, a, b) in
    let w : W.w ≡ X.w = omega (arith, a, b) in
    λ i. window (r i) (c i) (h i) (w i)

-- ---- the intersection is from the greatest edges to the least

pub meet-is : (A B : Window) → Intersection A B (meet A B)
unfolding meet
meet-is A B p = (λ v. (omega (arith, v), omega (arith, v)), λ v. omega (arith, v.0, v.1))

-- and where they overlap no other window is
pub intersection-is : {A B I : Window} → Overlapping A B → Intersection A B I ↔ (I ≡ meet A B)
intersection-is {A} {B} {I} o = (
  λ i. same-window ((i o.0).1 (o.1, o.2)) (λ p. (λ v. (meet-is A B p).1 ((i p).0 v), λ v. (i p).1 ((meet-is A B p).0 v))),
  λ e. rw e (meet-is A B),
)

-- it has a row and a column exactly when they overlap
pub overlapping-is : (A B : Window) → Overlapping A B ↔ ((1 ≤ (meet A B).h) × (1 ≤ (meet A B).w))
overlapping-is A B = (
  λ o. let v = (meet-is A B o.0).1 (o.1, o.2) in (omega (arith, v), omega (arith, v)),
  λ t. let v = (meet-is A B ((meet A B).r0, (meet A B).c0)).0 (omega (arith, t)) in (((meet A B).r0, (meet A B).c0), v.0, v.1),
)

pub meet-inside : {m : ℕ} {A B : Window} → Inside m A → Inside m B → Overlapping A B → Inside m (meet A B)
unfolding meet
meet-inside I J o = omega (arith, I, J, o.1, o.2)

-- ---- the union is from the least edges to the greatest

pub hull-has : (A B : Window) (p : Px) → In A p ⊎ In B p → In (hull A B) p
unfolding hull
hull-has A B p (inl v) = omega (arith, v)
hull-has A B p (inr v) = omega (arith, v)

pub hull-inside : {m : ℕ} {A B : Window} → Inside m A → Inside m B → Inside m (hull A B)
unfolding hull
hull-inside I J = omega (arith, I, J)

module _ {m : ℕ} {A B : Window} (I : Inside m A) (J : Inside m B) where
  first : In A (A.r0, A.c0)
  first = omega (arith, I)

  second : In B (B.r0, B.c0)
  second = omega (arith, J)

  -- no window that has both has less
  pub hull-least : {U : Window} → ((p : Px) → In A p → In U p) → ((p : Px) → In B p → In U p) → (p : Px) → In (hull A B) p → In U p
  unfolding hull
  hull-least a b p v = omega (arith, within first a, within second b, v)

  -- the union is a rectangle exactly when they fill the window around both, and then it is that window
  pub union-is : {U : Window} → Union A B U ↔ (Filled A B × (U ≡ hull A B))
  union-is {U} = (
    λ u. let e = only u in (omega (arith, sizes-shared (rw e at u) (meet-is A B)), e),
    λ t. rw t.1 (λ p. (sizes-fill (λ q v. hull-has A B q (inl v)) (λ q v. hull-has A B q (inr v)) (meet-is A B) t.0 p, hull-has A B p)),
  )
    where
      only : Union A B U → U ≡ hull A B
      only u = same-window ((u (A.r0, A.c0)).1 (inl first)) (λ p. (λ v. hull-has A B p ((u p).0 v), hull-least (λ q v. (u q).1 (inl v)) (λ q v. (u q).1 (inr v)) p))
