-- The walk, one block on: where it has reached, the blocks that are skipped up to the next opening, and its end where no column is left.
-- Assumes nothing.
use mathlib.Core.Path.{◌≡◌, refl, ◌∙◌}
use mathlib.Core.List.Memᴰ
use mathlib.Core.List.{List, [], ◌∷◌, ◌++◌, Memᴰ}
use Prim.Native.Nat.{ℕ, ◌+◌, ◌≤◌}
use native.Mathlib.Omega.{arith}
use lib.ListN.{length}
use Rattle.std.specs.Prelude.{Option, None, Some}
use Rattle.key.specs.Picture.{Px}
use Rattle.window.specs.declared.Window.{Window}
use Rattle.window.specs.declared.Block.{Block}
use Rattle.window.specs.Window.{In}
use Rattle.window.specs.Walk.{blocks_from, corner_of, GoesOn, Ends}
use Rattle.window.proofs.Laws.{walked_next, walked-split, goes-corner}
use Rattle.used.specs.Used.{Usable}
use Rattle.border.specs.declared.Opened.{Opened}
use Rattle.border.specs.declared.Walk.{Walk}
use Rattle.border.specs.declared.Opening.{Opening}
use Rattle.border.specs.Step.{made_by, Corner, Ready, Step}
use Rattle.border.specs.Found.{steps_make, steps_leave, walk_makes, walk_leaves, columns_left, walk, spot, Reached, Kept, Finds}
use Rattle.border.specs.Found as finds
use Rattle.border.proofs.Columns.{left-none}
use Rattle.border.proofs.Handing.{listed-corner}
use Rattle.border.proofs.Making.{high_is, stated-step}
use Rattle.border.proofs.Stepping.{kept-none, kept_more, step_kept, step-key, made-step, left_step, shut_by, step_left}

-- ---- where no column is left, every block is skipped

module _ (m top : ℕ) (keys : List ℕ) {W : Window} {cells : List ℕ} (none : columns_left W cells ≡ 0) where
  all-skipped : (bs : List Px) → ((b : Px) → Memᴰ b bs → In W b) → (steps_make m top keys W cells bs ≡ []) × (steps_leave m top keys W cells bs ≡ cells)
  unfolding steps_make steps_leave made_by
  all-skipped [] v = (refl, refl)
  all-skipped (b ∷ bs) v =
      let u = v b (Memᴰ.head refl) in
      let e = high_is m top keys W b cells (omega (arith, left-none W cells none u.left u.right, u)) in
      let ih = all-skipped bs (λ c n. v c (Memᴰ.tail n)) in
      (rw e ih.0, rw e ih.1)

-- ---- where the walk has reached

module _ {m top : ℕ} {keys : List ℕ} {W : Window} {at : Walk} {cells : List ℕ} (R : Reached m top keys W at cells) where
  -- where all is out, nothing is found
  pub reached-done : at.left ≡ 0 → Finds m top keys W at cells None at cells
  reached-done e =
      let n : columns_left W cells ≡ 0 = omega (arith, R.left) in
      let t = all-skipped m top keys n (blocks_from W top (spot at)) (λ b h. (listed-corner {top = top} (rw R.walked.all (Memᴰ.append_right R.past h))).inside) in
      finds.end kept-none t.0 t.1

  module _ {b : Block} {t : Px} (g : GoesOn W top (spot at) b t) {border : List ℕ} {answer : Option Opened}
      (U : Usable m top keys W (length cells)) (S : Step m top keys W (corner_of b) cells answer border) where
    fewer : columns_left W border + shut_by answer ≡ columns_left W cells
    fewer = step_left R.past (blocks_from W top t) U (record { inside = g.inside; own = goes-corner g }) (walked-split R.walked g) R.stated S

    pub reached-room : shut_by answer ≤ at.left
    reached-room = omega (arith, fewer, R.left)

    pub reached-next : {left : ℕ} → left + shut_by answer ≡ at.left → Reached m top keys W (walk t.0 t.1 left) border
    reached-next e = record {
      past = R.past ++ (corner_of b ∷ []);
      walked = walked_next R.walked g;
      stated = stated-step U.spaced U.inside U.cap R.past (corner_of b) (blocks_from W top t) (walked-split R.walked g) R.stated S;
      left = omega (arith, fewer, R.left);
    }

-- ---- one block on

module _ (m top : ℕ) (keys : List ℕ) {W : Window} (cells : List ℕ) {s : Px} where
  none-next : {t : Px} → Ends W top s t → (walk_makes m top keys W cells s ≡ []) × (walk_leaves m top keys W cells s ≡ cells)
  unfolding steps_make steps_leave
  none-next g = (rw g.none, rw g.none)

module _ {m top : ℕ} {keys : List ℕ} {W : Window} {cells : List ℕ} {s : Px} where
  module _ {b : Block} {t : Px} {border : List ℕ} {answer : Option Opened} (g : GoesOn W top s b t) (S : Step m top keys W (corner_of b) cells answer border) where
    made-next : walk_makes m top keys W cells s ≡ made_by answer ++ walk_makes m top keys W border t
    made-next = rw g.blocks (made-step S _)

    left-next : walk_leaves m top keys W cells s ≡ walk_leaves m top keys W border t
    left-next = rw g.blocks (left_step S _)

-- the blocks from one place of the walk up to another were skipped
pub record Skipping (m top : ℕ) (keys : List ℕ) (W : Window) (cells border : List ℕ) (at to : Walk) : Type 0 where
  pub reached : Reached m top keys W to border
  pub kept : Kept W cells border
  pub made_as : walk_makes m top keys W cells (spot at) ≡ walk_makes m top keys W border (spot to)
  pub left_as : walk_leaves m top keys W cells (spot at) ≡ walk_leaves m top keys W border (spot to)

module _ {m top : ℕ} {keys : List ℕ} {W : Window} {cells : List ℕ} {at : Walk} where
  pub skipping-first : Reached m top keys W at cells → Skipping m top keys W cells cells at at
  skipping-first R = record { reached = R; kept = kept-none; made_as = refl; left_as = refl }

  module _ {border : List ℕ} {to : Walk} (P : Skipping m top keys W cells border at to) where
    pub skipping-usable : Usable m top keys W (length cells) → Usable m top keys W (length border)
    skipping-usable U = rw P.kept.same U

    pub skipping-end : {t : Px} → Ends W top (spot to) t → Finds m top keys W at cells None at border
    skipping-end g = let n = none-next m top keys border g in finds.end P.kept (P.made_as ∙ n.0) (P.left_as ∙ n.1)

    module _ (U : Usable m top keys W (length cells)) {b : Block} {t : Px} (g : GoesOn W top (spot to) b t) where
      K : Corner W top (corner_of b)
      K = record { inside = g.inside; own = goes-corner g }

      pub skipping-ready : Ready m top keys W (corner_of b) b.exponent (length border)
      skipping-ready = record { given = skipping-usable U; corner = K; size = g.largest }

      module _ {border' : List ℕ} {answer : Option Opened} (S : Step m top keys W (corner_of b) border answer border') where
        pub skipping-kept : Kept W cells border'
        skipping-kept = kept_more P.kept (step_kept S K (omega (arith, U.wide, P.kept.same)))

        on : {left : ℕ} → left + shut_by answer ≡ to.left → Reached m top keys W (walk t.0 t.1 left) border'
        on = reached-next P.reached g (skipping-usable U) S

      pub skipping-next : {border' : List ℕ} → Step m top keys W (corner_of b) border None border' → Skipping m top keys W cells border' at (walk t.0 t.1 to.left)
      unfolding made_by shut_by
      skipping-next S = record {
        reached = on S (omega arith);
        kept = skipping-kept S;
        made_as = P.made_as ∙ made-next g S;
        left_as = P.left_as ∙ left-next g S;
      }

      module _ {border' : List ℕ} {o : Opened} (S : Step m top keys W (corner_of b) border (Some o) border') where
        abbrev found : Opening
        found = record { block = b; key = o.key; run = o.run }

        pub skipping-room : o.closed ≤ to.left
        unfolding shut_by
        skipping-room = reached-room P.reached g (skipping-usable U) S

        pub skipping-found : {left : ℕ} → left + o.closed ≡ to.left → Finds m top keys W at cells (Some found) (walk t.0 t.1 left) border'
        unfolding made_by shut_by
        skipping-found {left} l =
            finds.opening {o = found} {on = walk t.0 t.1 left} K g.largest (step-key S refl).0 (step-key S refl).1 (on S l) (skipping-kept S)
            (P.made_as ∙ made-next g S) (P.left_as ∙ left-next g S)
