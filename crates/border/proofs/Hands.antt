-- A list of openings: what it hands out, how many records these are, its cells, and which of the openings bring a record. By induction over the list.
-- Assumes nothing.
use mathlib.Core.Path.{◌≡◌, refl, sym}
use mathlib.Core.Logic.{◌↔◌, ◌⊎◌, inl, inr}
use mathlib.Core.Bool.{Bool}
use mathlib.Core.List.{List, [], ◌∷◌, ◌++◌, append_assoc, append-nil, map, Memᴰ}
use mathlib.Core.List.Memᴰ
use Prim.Native.Nat.{ℕ, ◌+◌, ◌*◌, ◌≤◌, ◌<◌}
use native.Mathlib.Decide.{dec_lt}
use native.Mathlib.Omega.{arith}
use lib.Dec.{ltb}
use lib.ListN.{length, length-append}
use borrow.Author.Tests.{lt-ltb, le-ltb}
use Rattle.lists.specs.Lists.{keep}
use Rattle.lists.proofs.Laws.{up_in, up-length, keep-empty, keep_taken, keep-passed, keep-in, in-keep, keep-map, keep_all}
use Rattle.border.specs.Openings.{Opening, handed_count, cells_of, hands, all_hands}
use Rattle.border.specs.Promises.{openings_in, HandedOut, bringing}

pub hands_none : all_hands [] ≡ []
unfolding all_hands
hands_none = refl

pub hands-one : (o : Opening) → all_hands (o ∷ []) ≡ hands o
unfolding all_hands
hands-one o = append-nil (hands o)

pub hands-append : (os os' : List Opening) → all_hands (os ++ os') ≡ all_hands os ++ all_hands os'
unfolding all_hands
hands-append [] os' = refl
hands-append (o ∷ os) os' = rw (hands-append os os') (sym (append_assoc (hands o) (all_hands os) (all_hands os')))

pub in-hands : (os : List Opening) (n : ℕ) → Memᴰ n (all_hands os) ↔ HandedOut os n
unfolding all_hands
in-hands [] n = (λ l. absurd (Memᴰ.not-nil l), λ h. absurd (Memᴰ.not-nil h.listed))
in-hands (o ∷ os) n = let ih = in-hands os n in (λ l. to ih.0 (Memᴰ.append_cases (hands o) l), λ h. from ih.1 h (Memᴰ.cases_cons h.listed))
  where
    to : (Memᴰ n (all_hands os) → HandedOut os n) → Memᴰ n (hands o) ⊎ Memᴰ n (all_hands os) → HandedOut (o ∷ os) n
    to ih (inl l) = record { by = o; listed = Memᴰ.head refl; hands = l }
    to ih (inr l) = let h = ih l in record { by = h.by; listed = Memᴰ.tail h.listed; hands = h.hands }

    from : (HandedOut os n → Memᴰ n (all_hands os)) → (h : HandedOut (o ∷ os) n) → (h.by ≡ o) ⊎ Memᴰ h.by os → Memᴰ n (hands o ++ all_hands os)
    from ih h (inl e) = Memᴰ.append_left _ (rw e at h.hands)
    from ih h (inr l) = Memᴰ.append_right (hands o) (ih (record { by = h.by; listed = l; hands = h.hands }))

-- their number is that of the records
pub hands-count : (os : List Opening) → handed_count os ≡ length (all_hands os)
unfolding handed_count all_hands
hands-count [] = refl
hands-count (o ∷ os) = omega (arith, length-append (hands o) (all_hands os), up-length o.first o.count, hands-count os)

-- ---- openings in two parts

pub cells-append : (os os' : List Opening) → cells_of (os ++ os') ≡ cells_of os ++ cells_of os'
unfolding cells_of
cells-append [] os' = refl
cells-append (o ∷ os) os' = rw (cells-append os os')

pub cells-length : (os : List Opening) → length (cells_of os) ≡ 3 * length os
unfolding cells_of
cells-length [] = refl
cells-length (o ∷ os) = omega (arith, cells-length os)

-- what stands in them is had back
pub openings-in : (os : List Opening) → openings_in (cells_of os) ≡ os
unfolding openings_in cells_of
openings-in [] = refl
openings-in (o ∷ os) = rw (openings-in os)

pub count-append : (os os' : List Opening) → handed_count (os ++ os') ≡ handed_count os + handed_count os'
unfolding handed_count
count-append [] os' = omega arith
count-append (o ∷ os) os' = omega (arith, count-append os os')

pub count-one : (o : Opening) → handed_count (o ∷ []) ≡ o.count
unfolding handed_count
count-one o = omega arith

-- ---- the openings that bring a record

abbrev some : Opening → Bool
some o = ltb 0 o.count

module _ (os : List Opening) where
  pub bringing-in : {o : Opening} → Memᴰ o (bringing os) → Memᴰ o os
  unfolding bringing
  bringing-in l = keep-in some os l

  -- they hand out all that is handed out
  pub bringing-hands : {n : ℕ} → HandedOut os n → HandedOut (bringing os) n
  unfolding bringing
  bringing-hands {n} h =
      let u = (up_in h.by.first h.by.count n).0 h.hands in
      record { by = h.by; listed = in-keep some h.listed (lt-ltb 0 h.by.count (omega arith)); hands = h.hands }

  pub bringing-all : ((o : Opening) → Memᴰ o os → 1 ≤ o.count) → bringing os ≡ os
  unfolding bringing
  bringing-all h = keep_all some os (λ o l. lt-ltb 0 o.count (h o l))

pub bringing-map : {A : Type 0} (f : A → Opening) (l : List A) → bringing (map f l) ≡ map f (keep (λ x. ltb 0 (f x).count) l)
unfolding bringing
bringing-map f l = keep-map some f l

-- they are no more than the records
pub bringing-most : (os : List Opening) → length (bringing os) ≤ handed_count os
unfolding bringing handed_count
bringing-most [] = rw (keep-empty some) (omega arith)
bringing-most (o ∷ os) = go (dec_lt 0 o.count) (bringing-most os)
  where
    go : Dec (0 < o.count) → length (keep some os) ≤ handed_count os → length (keep some (o ∷ os)) ≤ o.count + handed_count os
    go (yes h) ih = rw (keep_taken some os (lt-ltb 0 o.count h)) (omega arith)
    go (no h) ih = rw (keep-passed some os (le-ltb 0 o.count (omega arith))) (omega arith)
