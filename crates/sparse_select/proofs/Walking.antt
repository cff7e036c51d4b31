-- From block to block: the keys so far are those of the blocks that are past, in whatever way they are listed by the block's key.
-- Assumes nothing.
use mathlib.Core.Path.{◌≡◌, ◌∙◌}
use mathlib.Core.List.{List, [], ◌∷◌, ◌++◌, flat_map}
use Prim.Native.Nat.{ℕ, ◌+◌, ◌≤◌}
use native.Mathlib.Omega.{arith}
use lib.ListN.{length}
use Rattle.lists.proofs.Laws.{flat-none, flat-last, flat-room}
use Rattle.std.specs.Prelude.{Some, None}
use Rattle.answers.specs.Cells.{Listed}
use Rattle.answers.proofs.Laws.{listed-none, listed_more}
use Rattle.key.specs.Picture.{Px}
use Rattle.key.specs.Key.{block_key}
use Rattle.window.specs.declared.Window.{Window}
use Rattle.window.specs.declared.Block.{Block}
use Rattle.window.specs.Window.{Inside}
use Rattle.window.specs.Walk.{corner_of, blocks_from, GoesOn}
use Rattle.window.specs.Keys.{key_of, keys_of}
use Rattle.window.proofs.Laws.{walked-split, key-at}
use Rattle.walk.specs.declared.MaximalBlocks.{MaximalBlocks}
use Rattle.walk.specs.Steps.{Steps}
use Rattle.walk.proofs.Laws.{Walks, walks-first, walks-goes, walks-next, walks-last}
use Rattle.sparse_select.proofs.Laid.{laid-is}

pub record Walking (m top : ℕ) (W : Window) (of : ℕ → List ℕ) (out₀ out : List ℕ) (s : MaximalBlocks) (n : ℕ) : Type 0 where
  pub past : List Px
  pub walks : Walks W top past s
  pub listing : Listed 0 (flat_map (λ b. of (key_of m top W b)) past) out₀ n out

pub walking-first : {m k top : ℕ} {W : Window} (of : ℕ → List ℕ) {s : MaximalBlocks} → Inside k W → (s.window ≡ W) × (s.top ≡ top) × (s.row ≡ W.r0) × (s.col ≡ W.c0)
    → (out : List ℕ) → Walking m top W of out out s 0
walking-first {m} {top = top} {W} of I e out =
    record { past = []; walks = walks-first I e; listing = rw (flat-none (λ b. of (key_of m top W b))) (listed-none 0 out) }

module _ {m top : ℕ} {W : Window} {of : ℕ → List ℕ} {out₀ out : List ℕ} {s : MaximalBlocks} {n : ℕ} (S : Walking m top W of out₀ out s n) where
  pub walking-last : {t : MaximalBlocks} → Steps s None t → Listed 0 (flat_map of (keys_of m top W)) out₀ n out
  walking-last g = rw (laid-is m top W of, walks-last S.walks g) S.listing

  -- one block on
  module _ {b : Block} {t : MaximalBlocks} (g : Steps s (Some b) t) where
    pub walking-goes : GoesOn W top (s.row, s.col) b (t.row, t.col)
    walking-goes = walks-goes S.walks g

    module _ {key : ℕ} (named : key ≡ block_key m b.exponent b.row b.col) where
      pub walking-name : key ≡ key_of m top W (corner_of b)
      walking-name = named ∙ key-at m top W (corner_of b) walking-goes.largest

      -- its keys can be counted with the others if all can
      pub walking-room : {most : ℕ} → length (flat_map of (keys_of m top W)) ≤ most → n + length (of key) ≤ most
      walking-room fits =
          let all = flat-room (λ b. of (key_of m top W b)) S.past (corner_of b) (blocks_from W top (t.row, t.col)) in
          rw walking-name (omega (arith, all, rw (laid-is m top W of, walked-split S.walks.walked walking-goes) at fits, S.listing.count))

      pub walking-next : {out' : List ℕ} {n' : ℕ} → Listed n (of key) out n' out' → Walking m top W of out₀ out' t n'
      walking-next L = record {
        past = S.past ++ (corner_of b ∷ []);
        walks = walks-next S.walks g;
        listing = rw (flat-last (λ b. of (key_of m top W b)) S.past (corner_of b)) (listed_more S.listing (rw walking-name at L));
      }
