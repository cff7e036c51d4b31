-- The totals of a window along its maximal blocks: the cells count the places of the blocks that are past.
-- Assumes nothing.
use mathlib.Core.Path.{◌≡◌, sym, ap, ◌∙◌}
use mathlib.Core.List.{List, [], ◌∷◌, ◌++◌, map, map-append}
use Prim.Native.Nat.{ℕ, ◌+◌, ◌-◌, ◌^◌, ◌≤◌, ◌<◌}
use native.Mathlib.Omega.{arith}
use lib.Dec.{eqb}
use Rattle.std.specs.Prelude.{Some, None}
use lib.ListN.{length, get_or, replicate, length-replicate, get_or-replicate}
use Rattle.lists.specs.Promises.{sum}
use Rattle.lists.specs.Lists.{up_from, how_many}
use Rattle.lists.proofs.Laws.{sum-none, sum-next, sum-append}
use Rattle.key.specs.Picture.{place, Px}
use Rattle.window.specs.declared.Window.{Window}
use Rattle.window.specs.declared.Block.{Block}
use Rattle.window.specs.Window.{Inside}
use Rattle.window.specs.Blocks.{exponent, maximal}
use Rattle.window.specs.Walk.{corner_of, GoesOn, blocks_from}
use Rattle.window.specs.Rules.{total_by, totals_by}
use Rattle.window.proofs.Laws.{walked-split, inside-12, pixels-most, total-blocks, total-by-most, totals-by-are}
use Rattle.walk.specs.declared.MaximalBlocks.{MaximalBlocks}
use Rattle.walk.specs.Steps.{Steps}
use Rattle.walk.proofs.Laws.{Walks, walks-first, walks-goes, walks-next, walks-last}
use Rattle.pieces.specs.Pieces.{places_of, Tallied, Room}

module _ (f : ℕ → ℕ) (W : Window) (m k : ℕ) where
  -- how many places of a block have the class, and how many of some blocks
  pub in_block : Px → ℕ
  in_block b = how_many (λ q. eqb (f q) k) (up_from (place b.0 b.1) (4 ^ exponent W m b))

  pub in_blocks : List Px → ℕ
  in_blocks bs = sum (map in_block bs)

  blocks-none : in_blocks [] ≡ 0
  unfolding in_blocks
  blocks-none = sum-none

  blocks-append : (bs cs : List Px) → in_blocks (bs ++ cs) ≡ in_blocks bs + in_blocks cs
  unfolding in_blocks
  blocks-append bs cs = rw (map-append in_block bs cs) (sum-append (map in_block bs) (map in_block cs))

  blocks-next : (b : Px) (bs : List Px) → in_blocks (b ∷ bs) ≡ in_block b + in_blocks bs
  unfolding in_blocks
  blocks-next b bs = sum-next (in_block b) (map in_block bs)

  block-places : (b : Block) {first end : ℕ} → b.exponent ≡ exponent W m (corner_of b) → first ≡ place b.row b.col → end ≡ place b.row b.col + 4 ^ b.exponent
      → in_block (corner_of b) ≡ places_of f first end k
  unfolding in_block places_of
  block-places b {first} {end} e h z = let d : end - first ≡ 4 ^ b.exponent = omega arith in rw (d, h, e)

  blocks-all : Inside m W → in_blocks (maximal W m) ≡ total_by f W k
  unfolding in_blocks in_block
  blocks-all I = sym (total-blocks I {top = m} (omega arith) f k)

pub record Reporting (f : ℕ → ℕ) (W : Window) (m : ℕ) (cells : List ℕ) (s : MaximalBlocks) : Type 0 where
  pub past : List Px
  pub walks : Walks W m past s
  pub size : length cells ≡ 256
  pub each : (k : ℕ) → k < 256 → get_or cells k 0 ≡ in_blocks f W m k past

module _ {f : ℕ → ℕ} {m : ℕ} {W : Window} (I : Inside m W) where
  pub reporting-first : {s : MaximalBlocks} → (s.window ≡ W) × (s.top ≡ m) × (s.row ≡ W.r0) × (s.col ≡ W.c0) → {cells : List ℕ} → cells ≡ replicate 256 0
      → Reporting f W m cells s
  reporting-first start e = rw e (record {
    past = [];
    walks = walks-first I start;
    size = length-replicate {A = ℕ} 256 0;
    each = λ k l. get_or-replicate {A = ℕ} 256 k 0 0 l ∙ sym (blocks-none f W m k);
  })

  module _ {cells : List ℕ} {s : MaximalBlocks} (R : Reporting f W m cells s) where
    module _ {b : Block} {t : MaximalBlocks} (g : Steps s (Some b) t) where
      pub reporting-goes : GoesOn W m (s.row, s.col) b (t.row, t.col)
      reporting-goes = walks-goes R.walks g

      -- no total passes the number of pixels
      pub reporting-room : m ≤ 12 → {n : ℕ} → n ≤ 16777216 → Room cells n
      reporting-room l z = record { fits = λ k n. omega (arith, z, most k (omega (arith, R.size))) }
        where
          most : (k : ℕ) → k < 256 → get_or cells k 0 ≤ 16777216
          most k n =
              let all = ap (in_blocks f W m k) (walked-split R.walks.walked reporting-goes) ∙ blocks-append f W m k R.past (corner_of b ∷ blocks_from W m (t.row, t.col)) in
              omega (arith, R.each k n, all, blocks-all f W m k I, total-by-most f W k, pixels-most W (inside-12 l I))

      pub reporting-next : {first end : ℕ} {cells' : List ℕ} → first ≡ place b.row b.col → end ≡ place b.row b.col + 4 ^ b.exponent → Tallied f first end cells cells'
          → Reporting f W m cells' t
      reporting-next {first} {end} {cells'} h z T = record {
        past = R.past ++ (corner_of b ∷ []);
        walks = walks-next R.walks g;
        size = T.same ∙ R.size;
        each = λ k l. T.each k (omega (arith, R.size)) ∙ more k l;
      }
        where
          more : (k : ℕ) → k < 256 → get_or cells k 0 + places_of f first end k ≡ in_blocks f W m k (R.past ++ (corner_of b ∷ []))
          more k l =
              let one = block-places f W m k b reporting-goes.largest h z in
              omega (arith, one, R.each k l, blocks-append f W m k R.past (corner_of b ∷ []), blocks-next f W m k (corner_of b) [], blocks-none f W m k)

    pub reporting-last : {t : MaximalBlocks} → Steps s None t → cells ≡ totals_by f W
    reporting-last g = totals-by-are f W R.size (λ k l. R.each k l ∙ ap (in_blocks f W m k) (sym (walks-last R.walks g)) ∙ blocks-all f W m k I)
