-- What a partner is told of P1's map through the columns 2 and 3: with other records in the west the same, but for the first indices. Where a record there is another, something else
-- is told: so the view is another too.
-- Assumes nothing.
use mathlib.Core.Path.{◌≡◌, refl, sym, ap}
use mathlib.Core.List.{List, [], ◌∷◌}
use Prim.Native.Nat.{ℕ}
use native.Mathlib.Omega.{arith}
use lib.ListN.{get_or, take}
use Rattle.answers.proofs.P1.{keys, classes, glare, keys-cut, classes-cut, keys-west, classes-west}
use Rattle.answers.proofs.P1 as p1
use Rattle.window.proofs.P1.{W, columns}
use Rattle.border.specs.ViewPromises.{SameView}
use Rattle.border.proofs.Examples.{views}
use Rattle.open.proofs.Examples.{old}
use Rattle.open.proofs.Examples as opens
use Rattle.exist.proofs.Examples as queries
use Rattle.lutniorad.specs.declared.Answer.{Answer}
use Rattle.lutniorad.specs.Numbers.{values}
use Rattle.lutniorad.specs.Calls.{Open, Exist}
use Rattle.lutniorad.specs.ViewPromises.{SameOpened}
use Rattle.lutniorad.proofs.Crossing.{crossing-known}
use Rattle.lutniorad.proofs.View.{open-view, exist-view}

-- what opening leaves: on P1's map, and on the one with other records in the west
abbrev cells : List ℕ
cells = 10 ∷ 1 ∷ 4 ∷ 21 ∷ 6 ∷ 1 ∷ 96 ∷ []

abbrev cells-west : List ℕ
cells-west = 10 ∷ 4 ∷ 4 ∷ 21 ∷ 9 ∷ 1 ∷ []

record Calls : Type 0 where
  east : Open 2 keys classes columns (take 2 old) (take 7 old) (values 2 5) (3 ∷ 3 ∷ []) cells
  west : Open 2 keys-west classes-west columns (take 3 old) (take 6 old) (values 2 5) (3 ∷ 3 ∷ 92 ∷ []) cells-west
  cut : Open 2 keys-cut classes-cut columns (take 2 old) (take 9 old) (values 3 6) (3 ∷ 3 ∷ []) (10 ∷ 1 ∷ 4 ∷ 21 ∷ 6 ∷ 1 ∷ 22 ∷ 7 ∷ 1 ∷ [])
  none : Exist 2 keys classes W 4 (p1.old 3) (values 0 0) (3 ∷ 3 ∷ 3 ∷ [])
  unseen : Exist 2 keys glare W 4 (p1.old 4) (values 2 0) (3 ∷ 3 ∷ 3 ∷ 99 ∷ [])

calls : Calls
calls = record {
  east = crossing-known refl (sym (opens.examples).east);
  west = crossing-known refl (sym (opens.examples).east-of-other);
  cut = crossing-known refl (sym (opens.examples).east-of-cut);
  none = crossing-known refl (sym (queries.examples).no);
  unseen = crossing-known refl (sym (queries.examples).cannot-tell);
}

record Partner : Type 0 where
  -- the same but for the first indices, and these differ
  same : SameOpened keys classes keys-west classes-west (values 2 5) (values 2 5) cells cells-west
  first : (get_or cells 1 0 ≡ 1) × (get_or cells-west 1 0 ≡ 4)
  second : (get_or cells 4 0 ≡ 6) × (get_or cells-west 4 0 ≡ 9)
  -- a record of the window cut in four makes an opening more, and one that was not seen another answer of exist
  cut : SameView 2 keys classes keys-cut classes-cut columns → ⊥
  unseen : SameView 2 keys classes keys glare W → ⊥

partner : Partner
partner = record {
  same = open-view 2 2 keys classes keys-west classes-west columns (take 2 old) (take 7 old) (take 3 old) (take 6 old) calls.east refl calls.west refl views.west;
  first = (refl, refl);
  second = (refl, refl);
  cut = λ v.
      let a = (open-view 2 2 keys classes keys-cut classes-cut columns (take 2 old) (take 7 old) (take 2 old) (take 9 old) calls.east refl calls.cut refl v).numbers in
      omega (arith, ap (λ (r : Answer). r.first) a);
  unseen = λ v. omega (arith, ap (λ (r : Answer). r.first) (exist-view v 4 (p1.old 3) (p1.old 4) calls.none refl calls.unseen refl));
}
