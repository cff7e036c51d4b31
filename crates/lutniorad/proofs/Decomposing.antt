-- What decomposing promises, from the contract of the call alone. The call without a tile is the one with a cap of m.
-- Assumes nothing.
use mathlib.Core.Path.{◌≡◌, refl, sym, ap, ◌∙◌}
use mathlib.Core.Logic.{◌↔◌}
use mathlib.Core.List.Memᴰ
use mathlib.Core.List.{List, ◌++◌, Memᴰ, map, map-map}
use Prim.Native.Nat.{ℕ, ◌+◌, ◌*◌, ◌/◌, ◌^◌, ◌≤◌, ◌<◌}
use native.Mathlib.Decide.{dec_le}
use native.Mathlib.Omega.{arith}
use lib.ListN.{length, length-map}
use Rattle.std.specs.Prelude.{Ok}
use Rattle.lists.proofs.Laws.{ordered-map, map_same}
use Rattle.answers.specs.Refusals.{answer, refuse}
use Rattle.answers.specs.Sizes.{tile_refusals}
use Rattle.answers.specs.Cells.{overwrite}
use Rattle.answers.specs.After.{after, tiled_for}
use Rattle.key.specs.Picture.{Px}
use Rattle.key.specs.Key.{block_key}
use Rattle.window.specs.declared.Window.{Window}
use Rattle.window.specs.Window.{Inside}
use Rattle.window.specs.Drawn.{drawn_refusals, drawn_for}
use Rattle.window.specs.Blocks.{exponent, maximal}
use Rattle.window.specs.Promises.{Maximal}
use Rattle.window.specs.Keys.{keys_of}
use Rattle.window.proofs.Laws.{maximal-listed, listed-ordered, blocks-capped, blocks-few, keys-of, keys_length, key-at, drawn-said, drawn-by-length}
use Rattle.decompose.proofs.Laws.{decompose-is, decompose-within}
use Rattle.lutniorad.specs.declared.Answer.{Answer}
use Rattle.lutniorad.specs.Numbers.{values, refusing, of_count}
use Rattle.lutniorad.specs.Calls.{Decompose, DecomposeTiled}
use Rattle.lutniorad.specs.Promises.{DecomposePromise}
use Rattle.lutniorad.proofs.Crossing.{call-one, unless-crossed}
use Rattle.lutniorad.proofs.Drawing.{drawn-crossed, drawn-numbered, drawn-answered, drawn-kept, drawn-done}
use Rattle.lutniorad.proofs.Capped.{capped-says, capped-kept, capped-answered, capped-17}

module _ (m top : ℕ) (W : Window) where
  sized : Px → ℕ × Px
  sized p = (exponent W top p, p)

  -- the maximal blocks, each by its exponent and its corner
  listed : List (ℕ × Px)
  listed = map sized (maximal W top)

  exactly : (i : ℕ) (p : Px) → Maximal W top i p ↔ Memᴰ (i, p) listed
  unfolding listed sized
  exactly i p = (to, from)
    where
      to : Maximal W top i p → Memᴰ (i, p) (map sized (maximal W top))
      to M = let l = (maximal-listed W top).0 M in rw l.1 (Memᴰ.map sized l.0)

      from : Memᴰ (i, p) (map sized (maximal W top)) → Maximal W top i p
      from l =
          let t = Memᴰ.of_map sized (maximal W top) l in
          let corner : t.0 ≡ p = ap (λ (x : ℕ × Px). x.1) t.2 in
          (maximal-listed W top).1 (rw (← corner) t.1, sym (ap (λ (x : ℕ × Px). x.0) t.2) ∙ ap (exponent W top) corner)

  their-keys : keys_of m top W ≡ map (λ (b : ℕ × Px). block_key m b.0 b.1.0 b.1.1) listed
  unfolding listed sized
  their-keys =
      keys-of m top W
      ∙ map_same (maximal W top) (λ p l. sym (key-at m top W p refl))
      ∙ sym (map-map (λ (b : ℕ × Px). block_key m b.0 b.1.0 b.1.1) sized (maximal W top))

  blocks-listed : length listed ≡ length (maximal W top)
  unfolding listed
  blocks-listed = length-map (maximal W top) sized

module _ (m top : ℕ) (W : Window) (out : List ℕ) {out' : List ℕ} {r : Answer} (call : DecomposeTiled m top W out r out') where
  abbrev ks : List ℕ
  ks = keys_of m top W

  -- the call in numbers
  decomposed : after r out' ≡ tiled_for refusing m top out (drawn_for refusing (values (length ks) 0) ks m W out)
  decomposed =
      unless-crossed of_count refuse (tile_refusals m top) out _ (decompose-is m top W out) call
      ∙ ap (tiled_for refusing m top out) (drawn-said refuse (Ok (length ks)) ks m W out of_count)

  -- the first of refusals 1 and 17, and of 1, 6 and 8, or the number of blocks; of the slice only the length counts
  pub decompose-says : r ≡ answer refusing (tile_refusals m top ++ drawn_refusals m W (length ks) (length out)) (values (length ks) 0)
  decompose-says = capped-says m top out _ decomposed _ _ (drawn-by-length refusing (values (length ks) 0) ks m W out)

  -- with a tile no larger than the picture
  untiled : top ≤ m → after r out' ≡ drawn_for refusing (values (length ks) 0) ks m W out
  untiled cap = drawn-crossed of_count refuse (Ok (length ks)) ks m W out (decompose-within m top W out cap) call

  pub decompose-numbered : top ≤ m → r.refusal ≤ 8
  decompose-numbered cap = drawn-numbered (length ks) ks m W out (untiled cap)

  pub decompose-17 : (r.refusal ≡ 17) ↔ ((m ≤ 12) × (m < top))
  decompose-17 = capped-17 m top out _ decomposed decompose-numbered

  -- answered exactly when the tile is no larger than the picture, the window inside, and there is room for its blocks
  pub decompose-answered : (r.refusal ≡ 0) ↔ ((top ≤ m) × ((m ≤ 12) × Inside m W × (length ks ≤ length out)))
  decompose-answered = capped-answered m top out _ decomposed (λ cap. drawn-answered (length ks) ks m W out (untiled cap))

  module _ (cap : top ≤ m) (small : m ≤ 12) (I : Inside m W) where
    -- as it is with 4 (w + h) cells and one for each tile that there is room for
    pub decompose-enough : 4 * (W.w + W.h) + W.w * W.h / 4 ^ top ≤ length out → r.refusal ≡ 0
    decompose-enough room = decompose-answered.1 (cap, (small, I, omega (arith, keys_length m top W, blocks-capped W top I)))

    -- without a tile, with 4 (w + h) cells
    pub decompose-enough-whole : top ≡ m → 4 * (W.w + W.h) ≤ length out → r.refusal ≡ 0
    decompose-enough-whole e room = decompose-answered.1 (cap, (small, I, omega (arith, keys_length m top W, blocks-few W top (rw e I))))

  pub decompose-kept : (r.refusal ≡ 0 → ⊥) → out' ≡ out
  decompose-kept held = go (dec_le top m)
    where
      go : Dec (top ≤ m) → out' ≡ out
      go (yes cap) = drawn-kept (length ks) ks m W out (untiled cap) held
      go (no over) = capped-kept m top out _ decomposed (omega arith)

  pub decompose-promise : r.refusal ≡ 0 → DecomposePromise m top W out r out'
  unfolding listed sized
  decompose-promise z =
      let a = decompose-answered.0 z in
      let I = a.1.1 in
      let done = drawn-done (length ks) ks m W out (untiled a.0) z in
      let many : length ks ≡ length (listed m top W) = keys_length m top W ∙ sym (blocks-listed m top W) in
      record {
        blocks = listed m top W;
        exactly = exactly m top W;
        in_order = ordered-map (sized m top W) (listed-ordered W top) (λ p q k l b. b);
        few = omega (arith, blocks-listed m top W, blocks-capped W top I);
        few-whole = λ e. omega (arith, blocks-listed m top W, blocks-few W top (rw e I));
        number = done.0 ∙ ap (λ (n : ℕ). values n 0) many;
        cells = done.1 ∙ ap (λ (ks : List ℕ). overwrite ks out) (their-keys m top W);
      }

-- with a tile as large as the picture the call answers and leaves what the one without a tile does
pub decompose-untiled : (m : ℕ) (W : Window) (out : List ℕ) {out' out'' : List ℕ} {r s : Answer}
    → DecomposeTiled m m W out r out' → Decompose m W out s out'' → (r ≡ s) × (out' ≡ out'')
decompose-untiled m W out a b = call-one a b
