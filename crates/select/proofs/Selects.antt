-- Selecting from block to block: the keys so far are those of the blocks that are past, and what is known is so.
-- Assumes nothing.
use mathlib.Core.Path.{◌≡◌, refl, sym, ap, ◌∙◌}
use mathlib.Core.List.{List, [], ◌∷◌, ◌++◌}
use Prim.Native.Nat.{ℕ, ◌≤◌, ◌<◌}
use native.Mathlib.Omega.{arith}
use lib.ListN.{length}
use Rattle.std.specs.Prelude.{Some, None}
use Rattle.answers.specs.Cells.{Listed}
use Rattle.answers.proofs.Laws.{listed-none, listed_more}
use Rattle.key.specs.Picture.{Px}
use Rattle.key.specs.Key.{block_key}
use Rattle.window.specs.declared.Window.{Window}
use Rattle.window.specs.declared.Block.{Block}
use Rattle.window.specs.Window.{Inside}
use Rattle.window.specs.Walk.{corner_of, GoesOn}
use Rattle.window.specs.Keys.{key_of}
use Rattle.window.proofs.Laws.{walked-split, goes-corner, key-at, inside-12}
use Rattle.walk.specs.declared.MaximalBlocks.{MaximalBlocks}
use Rattle.walk.specs.Steps.{Steps}
use Rattle.walk.proofs.Laws.{Walks, walks-first, walks-goes, walks-next, walks-last}
use Rattle.map.specs.declared.Run.{Run}
use Rattle.map.specs.Runs.{run_of, BlockOf}
use Rattle.map.proofs.Laws.{Alone, reach-beyond}
use Rattle.pick.specs.Picked.{picked, picked_around, Overlapped}
use Rattle.pick.proofs.Laws.{picked-around}
use Rattle.near.specs.declared.Near.{Near}
use Rattle.near.specs.declared.Seen.{Seen}
use Rattle.near.specs.Near.{seen, LiesIn, Known}
use Rattle.border.specs.Step.{Corner}
use Rattle.border.proofs.Laws.{met-room, block-key}
use Rattle.used.specs.Used.{Usable}
use Rattle.select.specs.Select.{selected, selection}
use Rattle.select.proofs.Picked.{block-selected}
use Rattle.select.proofs.Blockwise.{all_none, selected_by, selection-is, selected-snoc, selected-room}
use Rattle.select.proofs.Selection.{selection-fits}

pub record Selecting (m top : ℕ) (keys classes : List ℕ) (W : Window) (class : ℕ) (out₀ out : List ℕ) (s : MaximalBlocks) (n : ℕ) (before : Seen) : Type 0 where
  pub past : List Px
  pub walks : Walks W top past s
  pub listing : Listed 0 (selected_by m keys classes class top W past) out₀ n out
  pub known : Known m keys before.near × Known m keys before.other

pub selecting-first : {m top : ℕ} {keys classes : List ℕ} {W : Window} {class : ℕ} {s : MaximalBlocks} → Inside m W
    → (s.window ≡ W) × (s.top ≡ top) × (s.row ≡ W.r0) × (s.col ≡ W.c0) → (out : List ℕ) {before : Seen}
    → Known m keys before.near × Known m keys before.other → Selecting m top keys classes W class out out s 0 before
selecting-first {m} {keys = keys} {classes} {class = class} I e out k =
    record { past = []; walks = walks-first I e; listing = rw (all_none m keys classes class) (listed-none 0 out); known = k }

module _ {m top : ℕ} {keys classes : List ℕ} {W : Window} {class : ℕ} {out₀ out : List ℕ} {s : MaximalBlocks} {n : ℕ} {before : Seen}
    (S : Selecting m top keys classes W class out₀ out s n before) where
  pub selecting-last : {t : MaximalBlocks} → Steps s None t → Listed 0 (selection m top keys classes W class) out₀ n out
  selecting-last g = rw (selection-is m keys classes class top W, walks-last S.walks g) S.listing

  -- ---- one block on

  -- what the walk comes to is a block, with this key
  pub record Comes (b : Block) (t : MaximalBlocks) (key : ℕ) : Type 0 where
    pub usable : Usable m top keys W W.w
    pub step : Steps s (Some b) t
    pub named : key ≡ block_key m b.exponent b.row b.col

  pub comes : {b : Block} {t : MaximalBlocks} {key : ℕ} → Usable m top keys W W.w → Steps s (Some b) t → key ≡ block_key m b.exponent b.row b.col → Comes b t key
  comes U g e = record { usable = U; step = g; named = e }

module _ {m top : ℕ} {keys classes : List ℕ} {W : Window} {class : ℕ} {out₀ out : List ℕ} {s : MaximalBlocks} {n : ℕ} {before : Seen}
    {S : Selecting m top keys classes W class out₀ out s n before} {b : Block} {t : MaximalBlocks} {key : ℕ} (B : Comes S b t key) where
  abbrev U : Usable m top keys W W.w
  U = B.usable

  goes : GoesOn W top (s.row, s.col) b (t.row, t.col)
  goes = walks-goes S.walks B.step

  K : Corner W top (corner_of b)
  K = record { inside = goes.inside; own = goes-corner goes }

  name : key ≡ key_of m top W (corner_of b)
  name = B.named ∙ key-at m top W (corner_of b) goes.largest

  pub selecting-most : n ≤ 16842752
  selecting-most =
      let a = selected-room m keys classes class top W S.past (corner_of b) _ (walked-split S.walks.walked goes) in
      let z = selection-fits U.spaced U.inside U.cap classes class (inside-12 U.small U.inside) U.few in
      omega (arith, S.listing.count)

  pub selecting-block : BlockOf m key b.exponent
  selecting-block = rw (name, goes.largest) (block-key U.spaced U.inside U.cap K)

  module _ {own : Run} (f : own ≡ run_of m keys key) where
    found : own ≡ run_of m keys (key_of m top W (corner_of b))
    found = f ∙ ap (run_of m keys) name

    -- where it reaches further, it is a record around the block
    around : b.exponent < own.reach → Alone m keys key b.exponent selecting-block.start
    around l = reach-beyond U.spaced selecting-block.names (rw f at l)

    pub selecting-run : Overlapped keys b.exponent own
    selecting-run = record { some = λ l. omega (arith, ap (λ (x : Run). x.count) f, (around l).one); room = rw found (met-room U.spaced U.inside U.cap K) }

    pub selecting-next : {out' : List ℕ} {n' : ℕ} {after : Seen} → Listed n (picked keys classes class key b.exponent own) out n' out'
        → Known m keys after.near × Known m keys after.other → Selecting m top keys classes W class out₀ out' t n' after
    selecting-next L k =
        let p : picked keys classes class key b.exponent own ≡ selected m keys classes class (key_of m top W (corner_of b)) =
        rw (name, found, goes.largest) (sym (block-selected U.spaced U.inside U.cap K classes class)) in
        record {
          past = S.past ++ (corner_of b ∷ []);
          walks = walks-next S.walks B.step;
          listing = rw (selected-snoc m keys classes class top W S.past (corner_of b)) (listed_more S.listing (rw p at L));
          known = k;
        }

  -- a block in a record that is known
  module _ {near : Near} (k : Known m keys near) (h : LiesIn near key) where
    pub selecting-around : length keys ≡ length classes → (near.first < length classes) × (n < 4294967295)
    selecting-around e =
        let o = selecting-run refl in
        (omega (arith, o.some (k.reach key b.exponent selecting-block h), o.room, k.first key b.exponent selecting-block h), omega (arith, selecting-most))

    pub selecting-near : {out' : List ℕ} {n' : ℕ} {after : Seen} → Listed n (picked_around classes class key near.first) out n' out'
        → Known m keys after.near × Known m keys after.other → Selecting m top keys classes W class out₀ out' t n' after
    selecting-near L =
        selecting-next refl (rw (picked-around keys classes class key b.exponent (run_of m keys key) (k.reach key b.exponent selecting-block h), k.first key b.exponent selecting-block h) L)

-- the two records that are known, exchanged
module _ {two now : Seen} (e : now ≡ seen two.run two.other two.near) where
  pub exchanged-known : {m : ℕ} {keys : List ℕ} → Known m keys two.near × Known m keys two.other → Known m keys now.near × Known m keys now.other
  exchanged-known k = rw e (k.1, k.0)

  pub exchanged-in : {key : ℕ} → LiesIn two.other key → LiesIn now.near key
  exchanged-in h = rw e h
