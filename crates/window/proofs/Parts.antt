-- Pixels counted in a window and in windows inside it, by any test of pixels: two windows and what they share, and windows that part it.
-- Assumes nothing.
use mathlib.Core.Path.{◌≡◌, refl, sym, ap, ◌∙◌}
use mathlib.Core.Logic.{◌↔◌, ◌⊎◌, inl, inr}
use mathlib.Core.Bool.{Bool, true, false, ◌&&◌, ◌||◌}
use mathlib.Core.List.{List, map, Memᴰ}
use Prim.Native.Nat.{◌+◌}
use native.Mathlib.Omega.{arith}
use lib.Dec.{leb, ltb}
use Rattle.lists.specs.Promises.{sum}
use Rattle.lists.specs.Lists.{any, keep, how_many}
use Rattle.lists.proofs.Laws.{never, both, in-range, agree, ordered-imp, same-ordered, map_same, keep-true, in-keep, ordered-keep, any-has, has-any}
use Rattle.lists.proofs.Laws.{many-same, many-all, many-whole, many-or, many-keep, each_part}
use Rattle.key.specs.Picture.{Px}
use Rattle.window.specs.declared.Window.{Window}
use Rattle.window.specs.Window.{In}
use Rattle.window.specs.Blocks.{pixels}
use Rattle.window.specs.SharingPromises.{Union, Intersection, Parted, size}
use Rattle.window.proofs.Listed.{before-irrefl, before-trans, rows-ordered}
use Rattle.window.proofs.Counts.{pixels-length, in-pixels}

-- ---- a window inside another

-- the test of `In`
unfoldable has : Window → Px → Bool
has W p = (leb W.r0 p.0 && ltb p.0 (W.r0 + W.h)) && (leb W.c0 p.1 && ltb p.1 (W.c0 + W.w))

has-is : (W : Window) (p : Px) → (has W p ≡ true) ↔ In W p
unfolding has
has-is W p =
    let rows = in-range W.r0 (W.r0 + W.h) p.0 in
    let columns = in-range W.c0 (W.c0 + W.w) p.1 in
    let t = both (leb W.r0 p.0 && ltb p.0 (W.r0 + W.h)) (leb W.c0 p.1 && ltb p.1 (W.c0 + W.w)) in (
      λ e. let r = rows.0 (t.0 e).0 in let c = columns.0 (t.0 e).1 in record { top = r.0; bottom = r.1; left = c.0; right = c.1 },
      λ v. t.1 (rows.1 (v.top, v.bottom), columns.1 (v.left, v.right)),
    )

-- its pixels are those of the other that it has
module _ {A U : Window} (inner : (p : Px) → In A p → In U p) where
  pixels-inner : pixels A ≡ keep (has A) (pixels U)
  pixels-inner =
      same-ordered (λ p q h k. before-irrefl (before-trans h k) refl) (rows-ordered A.r0 A.c0 A.h A.w)
      (ordered-keep (has A) (rows-ordered U.r0 U.c0 U.h U.w)) same
    where
      same : (p : Px) → Memᴰ p (pixels A) ↔ Memᴰ p (keep (has A) (pixels U))
      same p = (
        λ l. let v = (in-pixels A).0 l in in-keep (has A) ((in-pixels U).1 (inner p v)) ((has-is A p).1 v),
        λ l. (in-pixels A).1 ((has-is A p).0 (keep-true (has A) (pixels U) l)),
      )

  counts-inner : (f : Px → Bool) → how_many f (pixels A) ≡ how_many (λ p. f p && has A p) (pixels U)
  counts-inner f = ap (λ (l : List Px). how_many f l) pixels-inner ∙ many-keep f (has A) (pixels U)

-- ---- two windows inside another

module _ {A B I U : Window} (a : (p : Px) → In A p → In U p) (b : (p : Px) → In B p → In U p) (i : Intersection A B I) (f : Px → Bool) where
  -- what is counted in one or the other, and in both
  counts-either : how_many f (pixels A) + how_many f (pixels B) ≡ how_many (λ p. (f p && has A p) || (f p && has B p)) (pixels U) + how_many f (pixels I)
  counts-either =
      omega (arith, counts-inner a f, counts-inner b f, shared, many-or (λ p. f p && has A p) (λ p. f p && has B p) (pixels U))
    where
      in_both : (p : Px) → has I p ≡ has A p && has B p
      in_both p =
          let t = both (has A p) (has B p) in
          agree _ _ (
            λ e. let v = (i p).0 ((has-is I p).0 e) in t.1 ((has-is A p).1 v.0, (has-is B p).1 v.1),
            λ e. (has-is I p).1 ((i p).1 ((has-is A p).0 (t.0 e).0, (has-is B p).0 (t.0 e).1)),
          )

      twice : (x y z : Bool) → x && (y && z) ≡ (x && y) && (x && z)
      twice true y z = refl
      twice false y z = refl

      shared : how_many f (pixels I) ≡ how_many (λ p. (f p && has A p) && (f p && has B p)) (pixels U)
      shared = counts-inner (λ p v. a p ((i p).0 v).0) f ∙ many-same (pixels U) (λ p l. rw (in_both p) (twice (f p) (has A p) (has B p)))

-- the union is a rectangle: counts in two windows add up to those in the union and in the intersection
pub counts-shared : {A B U I : Window} → Union A B U → Intersection A B I → (f : Px → Bool)
    → how_many f (pixels A) + how_many f (pixels B) ≡ how_many f (pixels U) + how_many f (pixels I)
counts-shared {A} {B} {U} u i f =
    omega (arith, counts-either {U = U} (λ p v. (u p).1 (inl v)) (λ p v. (u p).1 (inr v)) i f, many-same (pixels U) (λ p l. sym (either (f p) ((u p).0 ((in-pixels U).0 l)))))
  where
    either : {p : Px} (x : Bool) → In A p ⊎ In B p → (x && has A p) || (x && has B p) ≡ x
    either false v = refl
    either {p} true (inl v) = rw ((has-is A p).1 v)
    either {p} true (inr v) = rw ((has-is B p).1 v) (go (has A p))
      where
        go : (y : Bool) → y || true ≡ true
        go true = refl
        go false = refl

-- ---- all pixels counted

all-counted : (W : Window) → how_many (λ p. true) (pixels W) ≡ size W
all-counted W = many-all (pixels W) (λ p l. refl) ∙ pixels-length W

pub sizes-shared : {A B U I : Window} → Union A B U → Intersection A B I → size A + size B ≡ size U + size I
sizes-shared {A} {B} {U} {I} u i = omega (arith, counts-shared u i (λ p. true), all-counted A, all-counted B, all-counted U, all-counted I)

-- and where the sizes of two windows inside another add up so, they have all its pixels
pub sizes-fill : {A B U I : Window} → ((p : Px) → In A p → In U p) → ((p : Px) → In B p → In U p) → Intersection A B I → size A + size B ≡ size U + size I
    → (p : Px) → In U p → In A p ⊎ In B p
sizes-fill {A} {B} {U} {I} a b i e p v =
    go (has A p) (has B p) refl refl
    (many-whole (λ q. has A q || has B q) (pixels U) (omega (arith, e, counts-either a b i (λ q. true), all-counted A, all-counted B, all-counted I, pixels-length U)) p ((in-pixels U).1 v))
  where
    go : (y z : Bool) → has A p ≡ y → has B p ≡ z → y || z ≡ true → In A p ⊎ In B p
    go true z d g h = inl ((has-is A p).0 d)
    go false true d g h = inr ((has-is B p).0 g)
    go false false d g h = never (sym h)

-- ---- windows that part another

pub counts-parted : {U : Window} {parts : List Window} → Parted U parts → (f : Px → Bool) → sum (map (λ W. how_many f (pixels W)) parts) ≡ how_many f (pixels U)
counts-parted {U} {parts} t f =
    ap sum (map_same parts (λ W n. counts-inner (λ p v. (t.all p).1 (W, n, v)) f)) ∙ each_part (λ W p. f p && has W p) (pixels U) (ordered-imp apart t.once)
    ∙ many-same (pixels U) (λ p l. agree _ _ (one p, some p ((in-pixels U).0 l)))
  where
    apart : (W X : Window) → ((p : Px) → In W p → In X p → ⊥) → (p : Px) → f p && has W p ≡ true → f p && has X p ≡ true → ⊥
    apart W X d p x y = d p ((has-is W p).0 ((both (f p) (has W p)).0 x).1) ((has-is X p).0 ((both (f p) (has X p)).0 y).1)

    one : (p : Px) → any (λ W. f p && has W p) parts ≡ true → f p ≡ true
    one p e = let x = any-has (λ W. f p && has W p) parts e in ((both (f p) (has x.0 p)).0 x.2).0

    some : (p : Px) → In U p → f p ≡ true → any (λ W. f p && has W p) parts ≡ true
    some p v e = let x = (t.all p).0 v in has-any (λ W. f p && has W p) x.1 ((both (f p) (has x.0 p)).1 (e, (has-is x.0 p).1 x.2))
