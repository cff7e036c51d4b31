-- What opening promises, from the contract of the call alone. The call without a tile is the one with a cap of m.
-- Assumes nothing.
use mathlib.Core.Path.{◌≡◌, refl, sym, ap, ◌∙◌}
use mathlib.Core.Logic.{◌↔◌}
use mathlib.Core.Bool.{Bool, true}
use mathlib.Core.List.{List, ◌++◌}
use Prim.Native.Nat.{ℕ, ◌+◌, ◌*◌, ◌/◌, ◌^◌, ◌≤◌, ◌<◌}
use native.Mathlib.Omega.{arith}
use lib.ListN.{length, take}
use Rattle.std.specs.Prelude.{Ok}
use Rattle.answers.specs.Refusals.{answer, refuse}
use Rattle.answers.specs.Sizes.{tile_refusals}
use Rattle.answers.specs.Cells.{overwrite}
use Rattle.answers.specs.After.{after, room_refusals, tiled_for}
use Rattle.answers.proofs.Laws.{take-overwrite}
use Rattle.window.specs.declared.Window.{Window}
use Rattle.map.proofs.Laws.{recorded-spaced}
use Rattle.border.specs.Openings.{Opening, openings, handed_count, cells_of}
use Rattle.border.specs.Promises.{openings_in}
use Rattle.border.proofs.Laws.{openings-in, cells-length, hands-count, hands-all, hands-once, openings-once, openings-capped, openings-few, hands-some, fewest-whole}
use Rattle.used.specs.Used.{use_refusals_in, spent, used_in}
use Rattle.used.specs.Promises.{AnswerableIn, Answerable}
use Rattle.open.proofs.Laws.{open_is, openings-records}
use Rattle.lutniorad.specs.declared.Answer.{Answer}
use Rattle.lutniorad.specs.Numbers.{values, refusing, of_opened}
use Rattle.lutniorad.specs.Calls.{OpenIn, Open, OpenTiled}
use Rattle.lutniorad.specs.Promises.{RefusalLeaves, OpenStates, OpenPromise}
use Rattle.lutniorad.proofs.Crossing.{call-one}
use Rattle.lutniorad.proofs.TiledUse.{tiled-use-crossed, tiled-says, tiled-numbered, tiled-17, tiled-answered, tiled-leaves, tiled-kept}

module _ (whole : Bool) (m top : ℕ) (keys classes : List ℕ) (W : Window) (border out : List ℕ) {r : Answer} {border' out' : List ℕ}
    (call : OpenIn whole m top keys classes W border out r border' out') where
  abbrev os : List Opening
  os = openings m top keys W

  -- the call in numbers
  opened : after r (border', out')
      ≡ tiled_for refusing m top (border, out) (used_in whole refusing (values (length os) (handed_count os)) (cells_of os) m keys (length classes) W border out)
  opened =
      let numbers = Ok (record { openings = length os; records = handed_count os }) in
      tiled-use-crossed whole of_opened refuse numbers (cells_of os) m top keys (length classes) W border out (open_is whole m top keys (length classes) W border out) call

  pub open-says : r
      ≡ answer refusing (tile_refusals m top ++ (use_refusals_in whole m keys (length classes) W (length border) ++ room_refusals (length out) (length (cells_of os))))
      (values (length os) (handed_count os))
  open-says = tiled-says whole (length os) (handed_count os) (cells_of os) m top keys (length classes) W border out opened

  pub open-numbered : top ≤ m → r.refusal ≤ 8
  open-numbered = tiled-numbered whole (length os) (handed_count os) (cells_of os) m top keys (length classes) W border out opened

  pub open-17 : (r.refusal ≡ 17) ↔ ((m ≤ 12) × (m < top))
  open-17 = tiled-17 whole (length os) (handed_count os) (cells_of os) m top keys (length classes) W border out opened

  -- answered exactly when the tile is no larger than the picture, the map sound, the window inside, and there is room in the border and for the openings
  pub open-answered : (r.refusal ≡ 0) ↔ ((top ≤ m) × (AnswerableIn whole m keys (length classes) W (length border) × (3 * length os ≤ length out)))
  open-answered = rw (← cells-length os) (tiled-answered whole (length os) (handed_count os) (cells_of os) m top keys (length classes) W border out opened)

  module _ (cap : top ≤ m) (A : AnswerableIn whole m keys (length classes) W (length border)) where
    -- as it is with 12 (w + h) cells and three for each tile that there is room for
    pub open-enough : 3 * (4 * (W.w + W.h) + W.w * W.h / 4 ^ top) ≤ length out → r.refusal ≡ 0
    open-enough l = open-answered.1 (cap, (A, omega (arith, openings-capped (recorded-spaced whole A.sound.records) A.inside cap)))

    -- without a tile, with 12 (w + h) cells
    pub open-enough-whole : top ≡ m → 12 * (W.w + W.h) ≤ length out → r.refusal ≡ 0
    open-enough-whole e l = open-answered.1 (cap, (A, rw e (omega (arith, openings-few (recorded-spaced whole A.sound.records) A.inside))))

  pub open_kept : (r.refusal ≡ 0 → ⊥) → RefusalLeaves W border out r border' out'
  open_kept = tiled-kept whole (length os) (handed_count os) (cells_of os) m top keys (length classes) W border out opened

  module _ (z : r.refusal ≡ 0) where
    pub open-leaves : (r ≡ values (length os) (handed_count os)) × (border' ≡ spent W border) × (out' ≡ overwrite (cells_of os) out)
    open-leaves = tiled-leaves whole (length os) (handed_count os) (cells_of os) m top keys (length classes) W border out opened z

    -- the openings stand in the first cells
    pub open-stand : openings_in (take (3 * r.first) out') ≡ os
    open-stand =
        let n : 3 * r.first ≡ length (cells_of os) = ap (λ (x : Answer). 3 * x.first) open-leaves.0 ∙ sym (cells-length os) in
        rw (n, open-leaves.2, take-overwrite (cells_of os) out) (openings-in os)

    pub open-states : OpenStates m top keys W border out (openings_in (take (3 * r.first) out')) r border' out'
    open-states =
        let cap = (open-answered.0 z).0 in
        let A = (open-answered.0 z).1.0 in
        let F = recorded-spaced whole A.sound.records in
        rw open-stand (record {
          all = hands-all F A.inside cap;
          once = hands-once F A.inside cap;
          opened-once = openings-once m top keys W A.inside cap;
          in_order = refl;
          few = openings-capped F A.inside cap;
          few-whole = λ e. rw e (openings-few F A.inside);
          numbers = open-leaves.0 ∙ ap (values (length os)) (hands-count os);
          cells = open-leaves.2;
          border-after = open-leaves.1;
        })

-- on a whole map
module _ (m top : ℕ) (keys classes : List ℕ) (W : Window) (border out : List ℕ) {r : Answer} {border' out' : List ℕ}
    (call : OpenTiled m top keys classes W border out r border' out') where
  -- three cells for each record are enough in any case
  pub open-enough-records : top ≤ m → Answerable m keys (length classes) W (length border) → 3 * length keys ≤ length out → r.refusal ≡ 0
  open-enough-records cap A l =
      (open-answered true m top keys classes W border out call).1 (cap, (A, omega (arith, openings-records A.sound.records A.inside cap)))

  pub open-promise : r.refusal ≡ 0 → OpenPromise m top keys W border out (openings_in (take (3 * r.first) out')) r border' out'
  open-promise z =
      let t = (open-answered true m top keys classes W border out call).0 z in
      let F = t.1.0.sound.records in
      let I = t.1.0.inside in
      let stand = open-stand true m top keys classes W border out call z in
      record { states = open-states true m top keys classes W border out call z; some = rw stand (hands-some F I t.0); fewest = rw stand (fewest-whole F I t.0) }

-- with a tile as large as the picture the call answers and leaves what the one without a tile does
pub open-untiled : (m : ℕ) (keys classes : List ℕ) (W : Window) (border out : List ℕ) {border' out' border'' out'' : List ℕ} {r s : Answer}
    → OpenTiled m m keys classes W border out r border' out' → Open m keys classes W border out s border'' out''
    → (r ≡ s) × (◌≡◌ {A = List ℕ × List ℕ} (border', out') (border'', out''))
open-untiled m keys classes W border out a b = call-one a b
