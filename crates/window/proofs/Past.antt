-- A loop over the maximal blocks: those that are past, the next one, and what is told of it.
-- Assumes nothing.
use mathlib.Core.Path.{◌≡◌, refl, sym, ap, ◌∙◌}
use mathlib.Core.List.{List, [], ◌∷◌, ◌++◌, append_assoc, append-nil, Memᴰ}
use Prim.Native.Nat.{ℕ, ◌<◌}
use native.Mathlib.Omega.{arith}
use lib.ListN.{length, length-append}
use Rattle.lists.specs.Lists.{keep}
use Rattle.lists.proofs.Laws.{keep-true}
use Rattle.key.specs.Picture.{Px}
use Rattle.window.specs.declared.Window.{Window}
use Rattle.window.specs.declared.Block.{Block}
use Rattle.window.specs.Window.{In, Inside}
use Rattle.window.specs.Blocks.{corner, is_corner, maximal}
use Rattle.window.specs.Walk.{pixels_from, blocks_from, corner_of, Walked, GoesOn, Ends}
use Rattle.window.proofs.Listed.{corner-is}
use Rattle.window.proofs.Onward.{from_all, from-corner}

module _ {W : Window} {top : ℕ} where
  pub walked-first : {m : ℕ} → Inside m W → Walked W top [] (W.r0, W.c0)
  unfolding maximal blocks_from
  walked-first I = record { cursor = omega (arith, I); all = ap (keep (is_corner W top)) (sym (from_all W I.tall)) }

  module _ {past : List Px} {s : Px} (k : Walked W top past s) where
    pub walked_next : {b : Block} {t : Px} → GoesOn W top s b t → Walked W top (past ++ (corner_of b ∷ [])) t
    walked_next g = record { cursor = g.cursor; all = k.all ∙ rw (g.blocks, append_assoc) }

    pub walked-last : {t : Px} → Ends W top s t → maximal W top ≡ past
    walked-last g = k.all ∙ rw (g.none, append-nil)

    -- the block is one of the list, behind those that are past
    pub walked-split : {b : Block} {t : Px} → GoesOn W top s b t → maximal W top ≡ past ++ corner_of b ∷ blocks_from W top t
    walked-split g = k.all ∙ rw g.blocks

    pub walked-room : {b : Block} {t : Px} → GoesOn W top s b t → length past < length (maximal W top)
    walked-room g = rw (walked-split g) (simp length-append (omega arith))

module _ {W : Window} {top : ℕ} {s : Px} {b : Block} {t : Px} (g : GoesOn W top s b t) where
  pub goes-less : length (blocks_from W top t) < length (blocks_from W top s)
  goes-less = rw g.blocks (omega arith)

  pub goes-corner : corner W top (corner_of b) ≡ corner_of b
  unfolding blocks_from
  goes-corner =
      let n : Memᴰ (corner_of b) (blocks_from W top s) = rw g.blocks (Memᴰ.head refl) in
      (corner-is W top (corner_of b)).0 (keep-true (is_corner W top) (pixels_from W s) n)

abbrev first : Px → List Px → Px
first q [] = q
first q (p ∷ l) = p

-- from a corner on, the next block is its own
module _ {W : Window} {top y x : ℕ} (v : In W (y, x)) (e : corner W top (y, x) ≡ (y, x)) where
  pub goes-own : {b : Block} {t : Px} → GoesOn W top (y, x) b t → (b.row ≡ y) × (b.col ≡ x)
  goes-own g =
      let t = ap (first (y, x)) (sym g.blocks ∙ from-corner W top y x v.right e) in
      (ap (λ (p : Px). p.0) t, ap (λ (p : Px). p.1) t)

  pub goes_some : {t : Px} → Ends W top (y, x) t → ⊥
  goes_some g = let t = ap length (sym g.none ∙ from-corner W top y x v.right e) in omega (arith, t)
