-- A list in parts, of which each has different elements and no two share one: what a test finds and counts part by part is what it finds and counts in the list.
-- Assumes nothing.
use mathlib.Core.Path.{◌≡◌, refl, sym, ◌∙◌}
use mathlib.Core.Logic.{◌↔◌, ◌⊎◌, inl, inr, ◌≢◌}
use mathlib.Core.Bool.{Bool, true, false, cond}
use mathlib.Core.List.Memᴰ
use mathlib.Core.List.{List, [], ◌∷◌, ◌++◌, map, Memᴰ}
use Prim.Native.Nat.{suc, ◌≤◌}
use native.Mathlib.Omega.{arith}
use lib.ListN.{length}
use Rattle.lists.specs.Promises.{sum}
use Rattle.lists.specs.Lists.{any, keep, how_many, Ordered, none, more}
use Rattle.lists.proofs.Tests.{agree}
use Rattle.lists.proofs.Order.{ordered-append, pigeon}
use Rattle.lists.proofs.Kept.{keep-in, keep-true, in-keep, ordered-keep}
use Rattle.lists.proofs.Any.{any-has, has-any}
use Rattle.lists.proofs.Counts.{sum-none, sum-next, many-empty, many-append}

-- ---- lists of different elements that have the same elements count alike

module _ {A : Type 0} (f : A → Bool) where
  kept-length : (l : List A) → how_many f l ≡ length (keep f l)
  unfolding how_many keep
  kept-length [] = refl
  kept-length (x ∷ l) = go (f x) (kept-length l)
    where
      go : (b : Bool) → how_many f l ≡ length (keep f l) → cond b (suc (how_many f l)) (how_many f l) ≡ length (cond b (x ∷ keep f l) (keep f l))
      go true e = omega arith
      go false e = e

  kept-most : {l s : List A} → Ordered ◌≢◌ l → ((x : A) → Memᴰ x l → Memᴰ x s) → length (keep f l) ≤ length (keep f s)
  kept-most {l} {s} o h =
      pigeon (λ (a b : A). a ≡ b) (keep f s) (ordered-keep f o) (λ a n. (a, in-keep f (h a (keep-in f l n)) (keep-true f l n), refl)) (λ a a' b m n d e. d ∙ sym e)

  pub many-members : {l s : List A} → Ordered ◌≢◌ l → Ordered ◌≢◌ s → ((x : A) → Memᴰ x l ↔ Memᴰ x s) → how_many f l ≡ how_many f s
  many-members {l} {s} o p h = omega (arith, kept-length l, kept-length s, kept-most o (λ x. (h x).0), kept-most p (λ x. (h x).1))

-- ---- parts, one behind another

module _ {A B : Type 0} (part : B → List A) where
  laid : List B → List A
  laid [] = []
  laid (b ∷ bs) = part b ++ laid bs

  -- an element of one of the parts
  pub record InPart (bs : List B) (x : A) : Type 0 where
    pub at : B
    pub listed : Memᴰ at bs
    pub has : Memᴰ x (part at)

  laid_in : (bs : List B) {x : A} → Memᴰ x (laid bs) → InPart bs x
  unfolding laid
  laid_in [] l = absurd (Memᴰ.not-nil l)
  laid_in (b ∷ bs) {x} l = go (λ k. laid_in bs k) (Memᴰ.append_cases (part b) l)
    where
      go : (Memᴰ x (laid bs) → InPart bs x) → Memᴰ x (part b) ⊎ Memᴰ x (laid bs) → InPart (b ∷ bs) x
      go ih (inl k) = record { at = b; listed = Memᴰ.head refl; has = k }
      go ih (inr k) = let i = ih k in record { at = i.at; listed = Memᴰ.tail i.listed; has = i.has }

  in-laid : {b : B} {x : A} {bs : List B} → Memᴰ b bs → Memᴰ x (part b) → Memᴰ x (laid bs)
  unfolding laid
  in-laid {x = x} (Memᴰ.head {x = c} {xs = bs} e) h = let k : Memᴰ x (part c) = rw e at h in Memᴰ.append_left (laid bs) k
  in-laid (Memᴰ.tail {x = c} n) h = Memᴰ.append_right (part c) (in-laid n h)

  laid-distinct : {bs : List B} → Ordered ◌≢◌ bs → ((b : B) → Memᴰ b bs → Ordered ◌≢◌ (part b))
      → ((b c : B) (x : A) → Memᴰ b bs → Memᴰ c bs → Memᴰ x (part b) → Memᴰ x (part c) → b ≡ c) → Ordered ◌≢◌ (laid bs)
  unfolding laid
  laid-distinct none d u = none
  laid-distinct (more {x = b} {l = bs} h o) d u =
      ordered-append (d b (Memᴰ.head refl))
      (laid-distinct o (λ c n. d c (Memᴰ.tail n)) (λ c e x m n. u c e x (Memᴰ.tail m) (Memᴰ.tail n))) apart
    where
      apart : (x y : A) → Memᴰ x (part b) → Memᴰ y (laid bs) → x ≢ y
      apart x y m n e =
          let i = laid_in bs n in
          let k : Memᴰ y (part b) = rw (← e) m in
          h i.at i.listed (u b i.at y (Memᴰ.head refl) (Memᴰ.tail i.listed) k i.has)

  many-laid : (f : A → Bool) (bs : List B) → how_many f (laid bs) ≡ sum (map (λ b. how_many f (part b)) bs)
  unfolding laid
  many-laid f [] = many-empty f ∙ sym sum-none
  many-laid f (b ∷ bs) = many-append f (part b) (laid bs) ∙ rw (many-laid f bs) (sym (sum-next (how_many f (part b)) (map (λ b. how_many f (part b)) bs)))

  -- the elements of the list are those of the parts
  module _ {l : List A} {bs : List B} (members : (x : A) → Memᴰ x l ↔ InPart bs x) (f : A → Bool) where
    pub any-parts : any f l ≡ any (λ b. any f (part b)) bs
    any-parts = agree _ _ (to, from)
      where
        to : any f l ≡ true → any (λ b. any f (part b)) bs ≡ true
        to e = let t = any-has f l e in let i = (members t.0).0 t.1 in has-any (λ b. any f (part b)) i.listed (has-any f i.has t.2)

        from : any (λ b. any f (part b)) bs ≡ true → any f l ≡ true
        from e =
            let t = any-has (λ b. any f (part b)) bs e in
            let u = any-has f (part t.0) t.2 in
            has-any f ((members u.0).1 (record { at = t.0; listed = t.1; has = u.1 })) u.2

    pub many-parts : Ordered ◌≢◌ l → Ordered ◌≢◌ bs → ((b : B) → Memᴰ b bs → Ordered ◌≢◌ (part b))
        → ((b c : B) (x : A) → Memᴰ b bs → Memᴰ c bs → Memᴰ x (part b) → Memᴰ x (part c) → b ≡ c)
        → how_many f l ≡ sum (map (λ b. how_many f (part b)) bs)
    many-parts o p d u = many-members f o (laid-distinct p d u) same ∙ many-laid f bs
      where
        same : (x : A) → Memᴰ x l ↔ Memᴰ x (laid bs)
        same x = (λ n. let i = (members x).0 n in in-laid i.listed i.has, λ n. (members x).1 (laid_in bs n))
