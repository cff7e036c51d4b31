-- The blocks that are opened: those maximal blocks whose corner is not out when they come up, in their order. By induction over the blocks that are left.
-- Assumes nothing.
use mathlib.Core.Path.{◌≡◌, refl, sym, ap, ◌∙◌}
use mathlib.Core.Bool.{Bool, true, false}
use mathlib.Core.List.Memᴰ
use mathlib.Core.List.{List, [], ◌∷◌, ◌++◌, append_assoc, map, Memᴰ}
use Prim.Native.Nat.{ℕ, ◌≤◌}
use Rattle.lists.specs.Lists.{Ordered, none, more}
use Rattle.lists.proofs.Laws.{never, ordered-back}
use Rattle.key.specs.Picture.{Px}
use Rattle.window.specs.declared.Window.{Window}
use Rattle.window.specs.Window.{Inside}
use Rattle.window.specs.Blocks.{maximal}
use Rattle.window.specs.Promises.{Before}
use Rattle.window.specs.Keys.{key_of}
use Rattle.window.proofs.Laws.{listed-ordered}
use Rattle.map.specs.Sound.{Spaced}
use Rattle.map.proofs.Laws.{pixel_tile}
use Rattle.border.specs.Openings.{met, is_handed, Opening, opening, open_from, openings}
use Rattle.border.specs.Promises.{opening_at}
use Rattle.border.proofs.Gone.{handed_by}
use Rattle.border.proofs.Sweep.{Out}
use Rattle.border.proofs.Fold.{handed_with, opens-none, skip-opens, take-opens, openings-are, handed-snoc, handed-none}
use Rattle.border.proofs.Earlier.{skip-test}

-- the openings os are those of some of the blocks bs
pub record Chosen (m top : ℕ) (keys : List ℕ) (W : Window) (bs : List Px) (os : List Opening) : Type 0 where
  pub corners : List Px
  pub are : os ≡ map (opening_at m top keys W) corners
  pub order : Ordered Before corners
  pub from : (b : Px) → Memᴰ b corners → Memᴰ b bs
  pub fresh : (b : Px) → Memᴰ b corners → ¬ Out W top (pixel_tile m keys) b b

module _ {m top : ℕ} {keys : List ℕ} (F : Spaced m 0 keys) {W : Window} (I : Inside m W) (small : top ≤ m) where
  chosen-from : (before rest : List Px) → maximal W top ≡ before ++ rest
      → Chosen m top keys W rest (open_from m keys (handed_by m top keys W before) (map (key_of m top W) rest))
  chosen-from before [] e =
      rw (opens-none m keys (handed_by m top keys W before)) (record { corners = []; are = refl; order = none; from = λ b l. l; fresh = λ b l. absurd (Memᴰ.not-nil l) })
  chosen-from before (b ∷ after) e =
      go (is_handed m keys handed k) refl (rw (handed-snoc m top keys W before b) at (chosen-from (before ++ b ∷ []) after (e ∙ sym (append_assoc before (b ∷ []) after))))
    where
      handed : List ℕ
      handed = handed_by m top keys W before

      k : ℕ
      k = key_of m top W b

      ks : List ℕ
      ks = map (key_of m top W) after

      later : (x : Px) → Memᴰ x after → Before b x
      later x l = ordered-back before after (rw e at (listed-ordered W top)) l

      skipped : Chosen m top keys W after (open_from m keys handed ks) → Chosen m top keys W (b ∷ after) (open_from m keys handed ks)
      skipped O = record { corners = O.corners; are = O.are; order = O.order; from = λ x l. Memᴰ.tail (O.from x l); fresh = O.fresh }

      opened : ¬ Out W top (pixel_tile m keys) b b → Chosen m top keys W after (open_from m keys (handed ++ met m keys k) ks)
          → Chosen m top keys W (b ∷ after) (opening m keys k ∷ open_from m keys (handed ++ met m keys k) ks)
      opened f O = record {
        corners = b ∷ O.corners;
        are = ap (λ (os : List Opening). opening m keys k ∷ os) O.are;
        order = more (λ x l. later x (O.from x l)) O.order;
        from = from;
        fresh = fresh;
      }
        where
          from : (x : Px) → Memᴰ x (b ∷ O.corners) → Memᴰ x (b ∷ after)
          from x (Memᴰ.head h) = Memᴰ.head h
          from x (Memᴰ.tail l) = Memᴰ.tail (O.from x l)

          fresh : (x : Px) → Memᴰ x (b ∷ O.corners) → ¬ Out W top (pixel_tile m keys) x x
          fresh x (Memᴰ.head h) = rw h f
          fresh x (Memᴰ.tail l) = O.fresh x l

      go : (t : Bool) → is_handed m keys handed k ≡ t → Chosen m top keys W after (open_from m keys (handed_with m keys handed k) ks)
          → Chosen m top keys W (b ∷ after) (open_from m keys handed (k ∷ ks))
      go true d O = rw (skip-opens m keys handed k ks d) (skipped (rw d at O))
      go false d O = rw (take-opens m keys handed k ks d) (opened (λ o. never (sym ((skip-test F I small before b after e).1 o) ∙ d)) (rw d at O))

  pub chosen : Chosen m top keys W (maximal W top) (openings m top keys W)
  chosen = rw (openings-are m top keys W, ← handed-none m keys []) (chosen-from [] (maximal W top) refl)
