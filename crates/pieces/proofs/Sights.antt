-- Whether a place has a class, piece by piece, up to the first that has it.
-- Assumes nothing.
use mathlib.Core.Path.{◌≡◌, sym, ap, ◌∙◌}
use mathlib.Core.Logic.{◌≢◌}
use mathlib.Core.Bool.{Bool, true, false, ◌||◌}
use mathlib.Core.List.{List}
use Prim.Native.Nat.{ℕ, ◌+◌, ◌-◌, ◌≤◌, ◌<◌}
use native.Mathlib.Omega.{arith}
use lib.Dec.{eqb}
use borrow.Author.Tests.{eq-eqb, ne_eqb}
use Rattle.lists.specs.Lists.{up_from, any}
use Rattle.lists.proofs.Laws.{never, agree, up_none, up_in, up-append, any_none, any_append, any-has, has-any}
use Rattle.map.specs.Classes.{not_seen}
use Rattle.pieces.specs.declared.Stand.{Stand}
use Rattle.pieces.specs.declared.Piece.{Piece}
use Rattle.pieces.specs.declared.Looked.{Looked}
use Rattle.pieces.specs.Cursors.{StandsAt}
use Rattle.pieces.specs.Pieces.{Uniform, seen_in, Looks}

module _ (f : ℕ → ℕ) (k : ℕ) where
  pub seen_none : (a : ℕ) → seen_in f a a k ≡ false
  unfolding seen_in
  seen_none a = let e : a - a ≡ 0 = omega arith in rw (e, up_none a) (any_none (λ q. eqb (f q) k))

  pub seen-append : {a b c : ℕ} → a ≤ b → b ≤ c → seen_in f a c k ≡ seen_in f a b k || seen_in f b c k
  unfolding seen_in
  seen-append {a} {b} {c} l h =
      let e : c - a ≡ (b - a) + (c - b) = omega arith in
      let d : a + (b - a) ≡ b = omega arith in
      rw (e, up-append a (b - a) (c - b), d) (any_append (λ q. eqb (f q) k) (up_from a (b - a)) (up_from b (c - b)))

  -- where all have one class
  pub seen_alike : {a b c : ℕ} → a < b → ((q : ℕ) → a ≤ q → q < b → f q ≡ c) → seen_in f a b k ≡ eqb c k
  unfolding seen_in
  seen_alike {a} {b} {c} l h = agree _ _ (to, from)
    where
      to : any (λ q. eqb (f q) k) (up_from a (b - a)) ≡ true → eqb c k ≡ true
      to e = let t = any-has (λ q. eqb (f q) k) (up_from a (b - a)) e in let i = (up_in a (b - a) t.0).0 t.1 in rw (← h t.0 i.0 (omega (arith, i.1))) t.2

      from : eqb c k ≡ true → any (λ q. eqb (f q) k) (up_from a (b - a)) ≡ true
      from e = has-any (λ q. eqb (f q) k) ((up_in a (b - a) a).1 (omega arith, omega arith)) (rw (h a (omega arith) l) e)

-- ---- the loop: no place up to where both maps stand has the class, and it is known whether one was not seen

pub record Looking (f : ℕ → ℕ) (k m : ℕ) (keys base : List ℕ) (s end : ℕ) (at : Stand) (unseen : Bool) : Type 0 where
  pub low : s ≤ at.place
  pub high : at.place ≤ end
  pub stands : StandsAt m keys base at
  pub none : seen_in f s at.place k ≡ false
  pub known : unseen ≡ seen_in f s at.place not_seen

abbrev looked : Bool → Bool → Looked
looked h u = record { has = h; unseen = u }

module _ {f : ℕ → ℕ} {k m : ℕ} {keys base : List ℕ} {end : ℕ} where
  pub looking-first : {at : Stand} → at.place ≤ end → StandsAt m keys base at → Looking f k m keys base at.place end at false
  looking-first {at} l S = record { low = omega arith; high = l; stands = S; none = seen_none f k at.place; known = sym (seen_none f not_seen at.place) }

  module _ {s : ℕ} {at : Stand} {unseen : Bool} (L : Looking f k m keys base s end at unseen) where
    module _ {p : Piece} (U : Uniform f at.place end p) where
      -- up to the end of the piece
      upto : (j : ℕ) → seen_in f s p.end j ≡ seen_in f s at.place j || eqb p.class j
      upto j = seen-append f j L.low (omega (arith, U.more)) ∙ ap (λ (b : Bool). seen_in f s at.place j || b) (seen_alike f j U.more U.alike)

      pub looking-yes : p.class ≡ k → {u : Bool} → Looks f s end k (looked true u)
      looking-yes e = record { has = sym all; unseen = λ d. never d }
        where
          all : seen_in f s end k ≡ true
          all =
              seen-append f k {b = p.end} (omega (arith, L.low, U.more)) U.most
              ∙ rw (upto k, L.none, eq-eqb p.class k e)

      pub looking-next : p.class ≢ k → {to : Stand} → to.place ≡ p.end → StandsAt m keys base to → Looking f k m keys base s end to (unseen || eqb p.class not_seen)
      looking-next d {to} e S = record {
        low = omega (arith, L.low, U.more);
        high = omega (arith, U.most);
        stands = S;
        none = rw (e, upto k, L.none) (ne_eqb p.class k d);
        known = rw (e, upto not_seen, L.known);
      }
