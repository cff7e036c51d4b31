-- Filling a gap block by block.
-- Assumes nothing.
use mathlib.Core.Path.{◌≡◌, refl, sym, ap, ◌∙◌}
use mathlib.Core.List.{List, [], ◌∷◌, ◌++◌, append_assoc, append-nil, map}
use Prim.Native.Nat.{ℕ, ◌+◌, ◌*◌, ◌≤◌, ◌<◌}
use native.Mathlib.Omega.{arith}
use lib.ListN.{length, length-append}
use Rattle.answers.specs.declared.Cause.TheVariants.{Gap}
use Rattle.answers.specs.Refusals.{number}
use Rattle.answers.specs.Cells.{put}
use Rattle.key.specs.declared.Spot.{Spot}
use Rattle.key.specs.Along.{Stands}
use Rattle.map.specs.Classes.{not_seen}
use Rattle.stretch.specs.Walk.{Lays}
use Rattle.stretch.proofs.Laws.{stretch-none}
use Rattle.salvage.specs.Salvage.{Mend, filled, fills}
use Rattle.salvage.specs.Making.{Sheet, sheet, MakesAny, Countable}
use Rattle.salvage.proofs.Making.{makes_none, makes-more, makes-filled, makes-few}

fills-next : {m a b key : ℕ} {t : Spot} → Lays m a b key t → fills m a b ≡ filled key ∷ fills m t.place b
unfolding fills
fills-next L = ap (map filled) L.first

pub fills-none : (m : ℕ) {a b : ℕ} → b ≤ a → fills m a b ≡ []
unfolding fills
fills-none m l = ap (map filled) (stretch-none m l)

-- of the places from a up to b, those before the walk's are filled
pub record Filling (m a b : ℕ) (sheet₀ now : Sheet) (s : Spot) : Type 0 where
  pub stands : Stands m s
  pub within : s.place ≤ b
  pub past : List Mend
  pub all : fills m a b ≡ past ++ fills m s.place b
  pub makes : MakesAny past sheet₀ now

pub filling-first : {m b : ℕ} {s : Spot} (a : Sheet) → Stands m s → s.place ≤ b → Filling m s.place b a a s
filling-first a S l = record { stands = S; within = l; past = []; all = refl; makes = λ keys classes. makes_none keys classes a }

module _ {m a b : ℕ} {sheet₀ now : Sheet} {s : Spot} (F : Filling m a b sheet₀ now s) where
  module _ {key : ℕ} {t : Spot} (L : Lays m s.place b key t) where
    split : fills m a b ≡ F.past ++ filled key ∷ fills m t.place b
    split = F.all ∙ ap (λ (es : List Mend). F.past ++ es) (fills-next L)

    -- one more can be counted
    pub filling-room : Countable sheet₀.records sheet₀.entries (fills m a b) → (now.records < 2147483647) × (now.entries < 2147483647)
    filling-room C =
        let few = makes-few (F.makes [] []) in
        let n = simp length-append at (ap length split) in
        (omega (arith, few.0, C.records-few, n), omega (arith, few.1, C.entries-few, n))

    pub filling-next : {K C L' : List ℕ} → K ≡ put now.records key now.keys → C ≡ put now.records not_seen now.classes
        → L' ≡ put (2 * now.entries + 1) (number Gap) (put (2 * now.entries) key now.log) → Filling m a b sheet₀ (sheet (now.records + 1) (now.entries + 1) K C L') t
    filling-next {K} {C} {L'} k c l = record {
      stands = L.stands;
      within = L.within;
      past = F.past ++ (filled key ∷ []);
      all = split ∙ sym (append_assoc F.past (filled key ∷ []) (fills m t.place b));
      makes = λ keys classes. rw (k, c, l) (makes-more keys classes (F.makes keys classes)
          (makes-filled keys classes now.records now.entries now.keys now.classes now.log key));
    }

  pub filling-last : b ≤ s.place → ((s.place ≡ b) × Stands m s) × MakesAny (fills m a b) sheet₀ now
  filling-last l = ((omega (arith, F.within), F.stands), λ keys classes. rw (F.all, fills-none m l, append-nil F.past) (F.makes keys classes))
