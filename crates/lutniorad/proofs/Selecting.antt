-- What select promises, from the contract of the call alone. The call without a tile is the one with a cap of m.
-- Assumes nothing.
use mathlib.Core.Path.{◌≡◌, refl, ap}
use mathlib.Core.Logic.{◌↔◌}
use mathlib.Core.Bool.{Bool, true}
use mathlib.Core.List.{List, ◌++◌, flat_map}
use Prim.Native.Nat.{ℕ, ◌+◌, ◌*◌, ◌/◌, ◌^◌, ◌≤◌, ◌<◌}
use native.Mathlib.Omega.{arith}
use lib.ListN.{length, take}
use Rattle.std.specs.Prelude.{Ok}
use Rattle.answers.specs.Refusals.{answer, refuse}
use Rattle.answers.specs.Sizes.{tile_refusals}
use Rattle.answers.specs.Cells.{overwrite}
use Rattle.answers.specs.After.{after, room_refusals, tiled_for}
use Rattle.answers.proofs.Laws.{take-overwrite}
use Rattle.window.specs.declared.Window.{Window}
use Rattle.window.specs.Keys.{keys_of}
use Rattle.map.specs.Sound.{Spaced}
use Rattle.map.proofs.Laws.{spaced}
use Rattle.used.specs.Used.{use_refusals_in, spent, used_in}
use Rattle.used.specs.Promises.{AnswerableIn, Answerable}
use Rattle.select.specs.Select.{selection}
use Rattle.select.proofs.Laws.{select-is, selection-pixels, selection-one, selection-once, selection-capped, selection-few}
use Rattle.sparse_select.proofs.Laws.{Blockwise, laid-pixels, laid_one, laid-once}
use Rattle.lutniorad.specs.declared.Answer.{Answer}
use Rattle.lutniorad.specs.Numbers.{values, refusing, of_count}
use Rattle.lutniorad.specs.Calls.{SelectIn, Select, SelectTiled}
use Rattle.lutniorad.specs.Promises.{RefusalLeaves, SelectStates, SelectPromise}
use Rattle.lutniorad.proofs.Crossing.{call-one}
use Rattle.lutniorad.proofs.TiledUse.{tiled-use-crossed, tiled-says, tiled-numbered, tiled-17, tiled-answered, tiled-leaves, tiled-kept}

-- whatever the keys to select are
module _ (whole : Bool) (ks : List ℕ) (m top : ℕ) (keys classes : List ℕ) (W : Window) (border out : List ℕ) {r : Answer} {border' out' : List ℕ}
    (call : SelectIn whole ks m top keys classes W border out r border' out') where
  -- the call in numbers
  selects : after r (border', out') ≡ tiled_for refusing m top (border, out) (used_in whole refusing (values (length ks) 0) ks m keys (length classes) W border out)
  selects =
      let numbers = Ok (length ks) in
      tiled-use-crossed whole of_count refuse numbers ks m top keys (length classes) W border out (select-is whole ks m top keys (length classes) W border out) call

  pub select-says : r
      ≡ answer refusing (tile_refusals m top ++ (use_refusals_in whole m keys (length classes) W (length border) ++ room_refusals (length out) (length ks))) (values (length ks) 0)
  select-says = tiled-says whole (length ks) 0 ks m top keys (length classes) W border out selects

  pub select-numbered : top ≤ m → r.refusal ≤ 8
  select-numbered = tiled-numbered whole (length ks) 0 ks m top keys (length classes) W border out selects

  pub select-17 : (r.refusal ≡ 17) ↔ ((m ≤ 12) × (m < top))
  select-17 = tiled-17 whole (length ks) 0 ks m top keys (length classes) W border out selects

  -- answered exactly when the tile is no larger than the picture, the map sound, the window inside, and there is room in the border and for the keys
  pub select-answered : (r.refusal ≡ 0) ↔ ((top ≤ m) × (AnswerableIn whole m keys (length classes) W (length border) × (length ks ≤ length out)))
  select-answered = tiled-answered whole (length ks) 0 ks m top keys (length classes) W border out selects

  pub select_kept : (r.refusal ≡ 0 → ⊥) → RefusalLeaves W border out r border' out'
  select_kept = tiled-kept whole (length ks) 0 ks m top keys (length classes) W border out selects

  module _ (z : r.refusal ≡ 0) where
    pub select-leaves : (r ≡ values (length ks) 0) × (border' ≡ spent W border) × (out' ≡ overwrite ks out)
    select-leaves = tiled-leaves whole (length ks) 0 ks m top keys (length classes) W border out selects z

    -- the keys stand in the first cells
    pub select-stand : take r.first out' ≡ ks
    select-stand = rw (ap (λ (x : Answer). x.first) select-leaves.0, select-leaves.2) (take-overwrite ks out)

    -- keys that block by block make up the places of a class
    pub select-laid : {rule : ℕ → ℕ} {class : ℕ} {of : ℕ → List ℕ} → Spaced m 0 keys → Blockwise m (λ q. rule q ≡ class) of → ks ≡ flat_map of (keys_of m top W)
        → SelectStates rule m W class border out (flat_map of (keys_of m top W)) r border' out'
    select-laid F B flat =
        let t = select-answered.0 z in
        let I = t.1.0.inside in
        record {
          pixels = λ p v. laid-pixels F I t.0 B v;
          apart = λ q x y k l h j. laid_one F I t.0 B q k l h j;
          once = laid-once F I t.0 B;
          number = rw flat at select-leaves.0;
          cells = rw flat at select-leaves.2;
          border-after = select-leaves.1;
        }

-- on a whole map
module _ (m top : ℕ) (keys classes : List ℕ) (W : Window) (class : ℕ) (border out : List ℕ) {r : Answer} {border' out' : List ℕ}
    (call : SelectTiled m top keys classes W class border out r border' out') where
  abbrev chosen : List ℕ
  chosen = selection m top keys classes W class

  module _ (cap : top ≤ m) (A : Answerable m keys (length classes) W (length border)) where
    -- answered with Q + 4 (w + h) cells and one for each tile that there is room for
    pub select-enough : length keys + 4 * (W.w + W.h) + W.w * W.h / 4 ^ top ≤ length out → r.refusal ≡ 0
    select-enough l =
        (select-answered true chosen m top keys classes W border out call).1 (cap, (A, omega (arith, selection-capped (spaced A.sound.records) A.inside cap classes class)))

    -- without a tile, with Q + 4 (w + h) cells
    pub select-enough-whole : top ≡ m → length keys + 4 * (W.w + W.h) ≤ length out → r.refusal ≡ 0
    select-enough-whole e l =
        (select-answered true chosen m top keys classes W border out call).1 (cap, (A, rw e (omega (arith, selection-few (spaced A.sound.records) A.inside classes class))))

  pub select-promise : r.refusal ≡ 0 → SelectPromise m top keys classes W class border out (take r.first out') r border' out'
  select-promise z =
      let t = (select-answered true chosen m top keys classes W border out call).0 z in
      let cap = t.0 in
      let I = t.1.0.inside in
      let F = t.1.0.sound.records in
      let left = select-leaves true chosen m top keys classes W border out call z in
      rw (select-stand true chosen m top keys classes W border out call z) (record {
        states = record {
          pixels = λ p v. selection-pixels F I cap classes class v;
          apart = λ q x y k l h j. selection-one (spaced F) I cap classes class q k l h j;
          once = selection-once (spaced F) I cap classes class;
          number = left.0;
          cells = left.2;
          border-after = left.1;
        };
        in_order = refl;
        few = selection-capped (spaced F) I cap classes class;
        few-whole = λ e. rw e (selection-few (spaced F) I classes class);
      })

-- with a tile as large as the picture the call answers and leaves what the one without a tile does
pub select-untiled : (m : ℕ) (keys classes : List ℕ) (W : Window) (class : ℕ) (border out : List ℕ) {border' out' border'' out'' : List ℕ} {r s : Answer}
    → SelectTiled m m keys classes W class border out r border' out' → Select m keys classes W class border out s border'' out''
    → (r ≡ s) × (◌≡◌ {A = List ℕ × List ℕ} (border', out') (border'', out''))
select-untiled m keys classes W class border out a b = call-one a b
