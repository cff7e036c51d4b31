-- Pieces of one class, joined to runs: what is listed run by run are the fewest blocks of the class.
-- Assumes nothing.
use mathlib.Core.Path.{◌≡◌, refl, sym, ap, ◌∙◌}
use mathlib.Core.Logic.{◌↔◌, ◌≢◌}
use mathlib.Core.Bool.{true, false}
use mathlib.Core.List.{List, [], ◌++◌, append_assoc}
use Prim.Native.Nat.{ℕ, ◌+◌, ◌-◌, ◌≤◌, ◌<◌}
use native.Mathlib.Decide.{dec_lt}
use native.Mathlib.Omega.{arith}
use lib.Dec.{eqb}
use lib.ListN.{length, length-append}
use borrow.Author.Tests.{eq-eqb, eqb-true}
use Rattle.lists.proofs.Laws.{both, refuted}
use Rattle.answers.specs.Cells.{Listed}
use Rattle.answers.proofs.Laws.{listed-none, listed_more}
use Rattle.stretch.specs.Sets.{between}
use Rattle.stretch.specs.Fewest.{fewest, stretch}
use Rattle.stretch.specs.Promises.{Cut}
use Rattle.stretch.proofs.Laws.{between_is, cut-behind, gap-next, gap-last}
use Rattle.pieces.specs.declared.Stand.{Stand}
use Rattle.pieces.specs.declared.Piece.{Piece}
use Rattle.pieces.specs.Cursors.{StandsAt}
use Rattle.pieces.specs.Pieces.{Uniform}
use Rattle.overlay.specs.Select.{of_class, class_blocks}

pub class-is : (m : ℕ) (rule : ℕ → ℕ) (class a b q : ℕ) → (of_class m rule class a b q ≡ true) ↔ ((a ≤ q) × (q < b) × (rule q ≡ class))
unfolding of_class
class-is m rule class a b q =
    let t = both (between a b q) (eqb (rule q) class) in
    let u = between_is a b q in (
      λ e. let h = t.0 e in let i = u.0 h.0 in (i.0, i.1, eqb-true (rule q) class h.1),
      λ h. t.1 (u.1 (h.0, h.1), eq-eqb (rule q) class h.2),
    )

-- the places from s up to where both maps stand have been looked at; those from `from` on are of the class, and the blocks of those before are listed
pub record Joining (rule : ℕ → ℕ) (class m : ℕ) (keys base : List ℕ) (s end n : ℕ) (out₀ out : List ℕ) (at : Stand) (from many : ℕ) : Type 0 where
  pub low : s ≤ from
  pub middle : from ≤ at.place
  pub high : at.place ≤ end
  pub stands : StandsAt m keys base at
  pub along : (q : ℕ) → from ≤ q → q < at.place → rule q ≡ class
  pub cut : Cut (of_class m rule class s end) from
  pub past : List ℕ
  pub all : class_blocks m rule class s end ≡ past ++ fewest m (of_class m rule class s end) from (end - from)
  pub listing : Listed n past out₀ many out

module _ {rule : ℕ → ℕ} {class m : ℕ} {keys base : List ℕ} {end n : ℕ} where
  pub joining-first : {at : Stand} (out : List ℕ) → at.place ≤ end → StandsAt m keys base at → Joining rule class m keys base at.place end n out out at at.place n
  unfolding class_blocks
  joining-first {at} out l S = record {
    low = omega arith;
    middle = omega arith;
    high = l;
    stands = S;
    along = λ q x y. absurd (omega arith);
    cut = record { apart = λ q e u v. omega (arith, ((class-is m rule class at.place end q).0 u).0) };
    past = [];
    all = refl;
    listing = listed-none n out;
  }

  module _ {s : ℕ} {out₀ out : List ℕ} {at : Stand} {from many : ℕ} (J : Joining rule class m keys base s end n out₀ out at from many) where
    alongside : (q : ℕ) → from ≤ q → q < at.place → of_class m rule class s end q ≡ true
    alongside q x y = (class-is m rule class s end q).1 (omega (arith, J.low), omega (arith, J.high), J.along q x y)

    module _ {p : Piece} (U : Uniform rule at.place end p) {to : Stand} (there : to.place ≡ p.end) (T : StandsAt m keys base to) where
      -- a piece of the class
      pub joining-same : p.class ≡ class → Joining rule class m keys base s end n out₀ out to from many
      joining-same e = record {
        low = J.low;
        middle = omega (arith, J.middle, U.more);
        high = omega (arith, U.most);
        stands = T;
        along = λ q x y. go q x (omega arith) (dec_lt q at.place);
        cut = J.cut;
        past = J.past;
        all = J.all;
        listing = J.listing;
      }
        where
          go : (q : ℕ) → from ≤ q → q < p.end → Dec (q < at.place) → rule q ≡ class
          go q x y (yes l) = J.along q x l
          go q x y (no l) = U.alike q (omega arith) y ∙ e

    -- one of another class
    module _ {p : Piece} (U : Uniform rule at.place end p) (d : p.class ≢ class) where
      outside : (q : ℕ) → at.place ≤ q → q < p.end → of_class m rule class s end q ≡ false
      outside q x y = refuted (of_class m rule class s end q) (λ e. d (sym (U.alike q x y) ∙ ((class-is m rule class s end q).0 e).2))

      whole : class_blocks m rule class s end ≡ J.past ++ (stretch m from at.place ++ fewest m (of_class m rule class s end) p.end (end - p.end))
      whole = J.all ∙ rw (gap-next m J.middle alongside J.cut U.more U.most outside)

      pub joining-room : many + length (stretch m from at.place) ≤ n + length (class_blocks m rule class s end)
      joining-room = omega (arith, J.listing.count, simp length-append at (ap length whole))

      pub joining-other : {to : Stand} → to.place ≡ p.end → StandsAt m keys base to → {many' : ℕ} {out' : List ℕ}
          → Listed many (stretch m from at.place) out many' out' → Joining rule class m keys base s end n out₀ out' to p.end many'
      joining-other there T L = record {
        low = omega (arith, J.low, J.middle, U.more);
        middle = omega (arith, there);
        high = omega (arith, U.most, there);
        stands = T;
        along = λ q x y. absurd (omega arith);
        cut = cut-behind {x = p.end - 1} (omega (arith, U.more)) (outside (p.end - 1) (omega (arith, U.more)) (omega (arith, U.more)));
        past = J.past ++ stretch m from at.place;
        all = whole ∙ sym (append_assoc J.past (stretch m from at.place) (fewest m (of_class m rule class s end) p.end (end - p.end)));
        listing = listed_more J.listing L;
      }

    -- at the end
    module _ (l : end ≤ at.place) where
      ended : class_blocks m rule class s end ≡ J.past ++ stretch m from end
      ended =
          let stop : Cut (of_class m rule class s end) end = record { apart = λ q d u v. omega (arith, ((class-is m rule class s end end).0 v).1) } in
          J.all ∙ rw (gap-last m {at = from} {t = end} (omega (arith, J.middle, J.high)) (λ q x y. alongside q x (omega arith)) J.cut stop)

      pub joining-rest : many + length (stretch m from end) ≤ n + length (class_blocks m rule class s end)
      joining-rest = omega (arith, J.listing.count, simp length-append at (ap length ended))

      pub joining-last : {many' : ℕ} {out' : List ℕ} → Listed many (stretch m from end) out many' out' → Listed n (class_blocks m rule class s end) out₀ many' out'
      joining-last L = rw ended (listed_more J.listing L)
