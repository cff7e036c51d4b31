-- What is said of a record is so of the list of openings, and nothing else is: it is handed out by the opening of that number, or it lies on a side of the window.
-- Assumes nothing.
use mathlib.Core.Path.{◌≡◌, refl, sym, ap, ◌∙◌}
use mathlib.Core.Logic.{◌↔◌, ◌⊎◌, inl, inr}
use mathlib.Core.Bool.{true}
use mathlib.Core.List.{List, Memᴰ}
use Prim.Native.Nat.{ℕ, ◌+◌, ◌<◌}
use native.Mathlib.Omega.{arith}
use lib.ListN.{length}
use Rattle.std.specs.Prelude.{Option, Some, None}
use Rattle.lists.proofs.Laws.{in-range, up_in, before_at}
use Rattle.window.specs.declared.Window.{Window}
use Rattle.window.specs.Window.{Inside}
use Rattle.map.specs.Sound.{Follow}
use Rattle.map.proofs.Laws.{spaced}
use Rattle.border.specs.Openings.{Opening, openings, hands}
use Rattle.border.specs.Promises.{Overlaps, HandedBy}
use Rattle.border.proofs.Laws.{hands-all, handed-number, handed_out, handed-one}
use Rattle.why.specs.declared.Side.{Side}
use Rattle.why.specs.declared.Why.{Why}
use Rattle.why.specs.declared.Why.TheVariants.{Handed, Outside}
use Rattle.why.specs.Why.{pixels_of, lies_of, hands_out, bringer, said_of, record_said}
use Rattle.why.specs.Promises.{AllNorth, AllSouth, AllWest, AllEast, FirstTrue}
use Rattle.why.proofs.Sides.{lies-first, first-lies, side-apart}
use Rattle.why.proofs.Squares.{across-touches}

-- ---- by where it lies

module _ (m : ℕ) (keys : List ℕ) (W : Window) (n : ℕ) where
  pub said-outside : {side : Side} → lies_of W (pixels_of m keys n) ≡ Some side → record_said m keys W n ≡ Outside n side
  unfolding record_said said_of
  said-outside e = rw e

  pub said-handed : lies_of W (pixels_of m keys n) ≡ None → {k : ℕ} → k ≡ bringer (openings m m keys W) n → record_said m keys W n ≡ Handed n k
  unfolding record_said said_of
  said-handed e d = rw (e, d)

  -- what both have alike
  pub record-alike : {A : Type 0} (part : Why → A) {x : A} → ((n k : ℕ) → part (Handed n k) ≡ x)
      → ((n : ℕ) (side : Side) → part (Outside n side) ≡ x) → part (record_said m keys W n) ≡ x
  unfolding record_said said_of
  record-alike {A} part {x} a b = go (lies_of W (pixels_of m keys n))
    where
      go : (l : Option Side) → part (said_of n l (bringer (openings m m keys W) n)) ≡ x
      go (Some side) = b n side
      go None = a n _

-- ---- the opening that brings it

hands_out_lem : (n : ℕ) (o : Opening) → (hands_out n o ≡ true) ↔ Memᴰ n (hands o)
unfolding hands_out
hands_out_lem n o =
    let t = in-range o.first (o.first + o.count) n in
    let u = up_in o.first o.count n in
    (λ e. u.1 (t.0 e), λ l. t.1 (u.0 l))

module _ {m : ℕ} {keys : List ℕ} (F : Follow m 0 keys) {W : Window} (I : Inside m W) where
  abbrev os : List Opening
  os = openings m m keys W

  pub bringer-is : {k n : ℕ} → HandedBy (openings m m keys W) k n → bringer (openings m m keys W) n ≡ k
  unfolding bringer
  bringer-is {k} {n} h =
      before_at (hands_out n) h.at ((hands_out_lem n h.by).1 h.hands) (λ j o at t. handed-one F I (omega arith) h (record { by = o; at = at; hands = (hands_out_lem n o).0 t }))

  -- ---- both, of a record of the map

  module _ {n : ℕ} (within : n < length keys) where
    abbrev said : Why
    said = record_said m keys W n

    abbrev where-lies : Option Side
    where-lies = lies_of W (pixels_of m keys n)

    -- on no side: an opening hands it out
    across-handed : where-lies ≡ None → HandedBy os (bringer os n) n
    across-handed e =
        let t = handed-number ((hands-all {top = m} (spaced F) I (omega arith) n).0 (across-touches (spaced F) within I e, within)) in
        rw (bringer-is t.1) t.1

    pub record-handed : (k : ℕ) → (record_said m keys W n ≡ Handed n k) ↔ HandedBy (openings m m keys W) k n
    record-handed k = (to where-lies refl, from where-lies refl)
      where
        to : (l : Option Side) → where-lies ≡ l → said ≡ Handed n k → HandedBy os k n
        to (Some side) e d = absurd (let x = said-outside m keys W n e in let z : ◌≡◌ {A = ℕ} 0 1 = cc in omega arith)
        to None e d = let x = said-handed m keys W n e refl in let z : bringer os n ≡ k = cc in rw z at (across-handed e)

        from : (l : Option Side) → where-lies ≡ l → HandedBy os k n → said ≡ Handed n k
        from (Some side) e h =
            absurd (side-apart m keys W n I (rw e at (lies-first m keys W n)) ((hands-all {top = m} (spaced F) I (omega arith) n).1 (handed_out h)).0)
        from None e h = said-handed m keys W n e (sym (bringer-is h))

    pub record-outside : (side : Side)
        → (record_said m keys W n ≡ Outside n side) ↔ FirstTrue (AllNorth m keys W n) (AllSouth m keys W n) (AllWest m keys W n) (AllEast m keys W n) (Some side)
    record-outside side = (to where-lies refl, λ h. said-outside m keys W n (sym (first-lies m keys W n h)))
      where
        to : (l : Option Side) → where-lies ≡ l → said ≡ Outside n side → FirstTrue (AllNorth m keys W n) (AllSouth m keys W n) (AllWest m keys W n) (AllEast m keys W n) (Some side)
        to (Some other) e d = let x = said-outside m keys W n e in let z : other ≡ side = cc in rw (e ∙ ap Some z) at (lies-first m keys W n)
        to None e d = absurd (let x = said-handed m keys W n e refl in let z : ◌≡◌ {A = ℕ} 0 1 = cc in omega arith)

    -- it is one of the two: the one exactly when the record overlaps the window
    pub record-either : ((k : ℕ) × (record_said m keys W n ≡ Handed n k) × Overlaps m keys W n) ⊎ ((side : Side) × (record_said m keys W n ≡ Outside n side) × (¬ Overlaps m keys W n))
    record-either = go where-lies refl
      where
        go : (l : Option Side) → where-lies ≡ l → ((k : ℕ) × (said ≡ Handed n k) × Overlaps m keys W n) ⊎ ((side : Side) × (said ≡ Outside n side) × (¬ Overlaps m keys W n))
        go (Some side) e = inr (side, said-outside m keys W n e, λ t. side-apart m keys W n I (rw e at (lies-first m keys W n)) t.0)
        go None e = inl (bringer os n, said-handed m keys W n e refl, (across-touches (spaced F) within I e, within))
