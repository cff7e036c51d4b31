-- The loop of `next_opening`: the blocks from where the walk stood up to where the iterator stands were skipped.
-- Assumes nothing.
use mathlib.Core.Path.{◌≡◌, refl, ◌∙◌}
use mathlib.Core.List.{List}
use Prim.Native.Nat.{ℕ, ◌-◌, ◌≤◌}
use native.Mathlib.Omega.{arith}
use lib.ListN.{length}
use Rattle.std.specs.Prelude.{None, Some}
use Rattle.window.specs.declared.Block.{Block}
use Rattle.window.specs.declared.Window.{Window}
use Rattle.window.specs.Walk.{corner_of, GoesOn}
use Rattle.walk.specs.declared.MaximalBlocks.{MaximalBlocks}
use Rattle.walk.specs.Steps.{Steps}
use Rattle.used.specs.Used.{Usable}
use Rattle.border.specs.declared.Opened.{Opened}
use Rattle.border.specs.declared.Walk.{Walk}
use Rattle.border.specs.Found.{walk, Reached, Finds}
use Rattle.border.specs.Step.{Ready, Step}
use Rattle.border.proofs.Loops.{Skipping, skipping-first, skipping-end, skipping-ready, skipping-next, skipping-room, skipping-found}

-- the walk is where it stood, and the iterator stands at s; `border` is what the cells have become
pub record Looking (m top : ℕ) (keys : List ℕ) (W : Window) (stood : Walk) (cells : List ℕ) (at : Walk) (border : List ℕ) (s : MaximalBlocks) : Type 0 where
  pub same_window : s.window ≡ W
  pub same_top : s.top ≡ top
  pub still : at ≡ stood
  pub skipping : Skipping m top keys W cells border stood (walk s.row s.col stood.left)

module _ {m top : ℕ} {keys : List ℕ} {W : Window} {stood : Walk} {cells : List ℕ} where
  pub looking-first : {s : MaximalBlocks} → Reached m top keys W stood cells → (s.window ≡ W) × (s.top ≡ top) × (s.row ≡ stood.row) × (s.col ≡ stood.col)
      → Looking m top keys W stood cells stood cells s
  looking-first {s} R e = record { same_window = e.0; same_top = e.1; still = refl; skipping = rw (e.2, e.3) (skipping-first R) }

  module _ (U : Usable m top keys W (length cells)) {at : Walk} {border : List ℕ} {s : MaximalBlocks} (L : Looking m top keys W stood cells at border s) where
    pub looking-end : {t : MaximalBlocks} → Steps s None t → Finds m top keys W stood cells None at border
    looking-end g = rw L.still (skipping-end L.skipping (rw (L.same_window, L.same_top) at g.goes))

    module _ {b : Block} {t : MaximalBlocks} (g : Steps s (Some b) t) where
      goes : GoesOn W top (s.row, s.col) b (t.row, t.col)
      goes = rw (L.same_window, L.same_top) at g.goes

      pub looking-ready : Ready m top keys W (corner_of b) b.exponent (length border)
      looking-ready = skipping-ready L.skipping U goes

      pub looking-next : {border' : List ℕ} → Step m top keys W (corner_of b) border None border' → Looking m top keys W stood cells at border' t
      looking-next S = record {
        same_window = g.window ∙ L.same_window;
        same_top = g.top ∙ L.same_top;
        still = L.still;
        skipping = skipping-next L.skipping U goes S;
      }

      module _ {o : Opened} {border' : List ℕ} (S : Step m top keys W (corner_of b) border (Some o) border') where
        pub looking-room : o.closed ≤ at.left
        looking-room = rw L.still (skipping-room L.skipping U goes S)

        pub looking-found : Finds m top keys W stood cells (Some (record { block = b; key = o.key; run = o.run })) (walk t.row t.col (at.left - o.closed)) border'
        looking-found = rw L.still (skipping-found L.skipping U goes S (omega (arith, skipping-room L.skipping U goes S)))
