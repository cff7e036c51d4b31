-- `decompose::decompose` meets its contract. Each test decides what its law in `Tables` says; where keys are written there is room for all.
use mathlib.Core.Path.{sym, ap, ◌∙◌}
use Prim.Native.Nat.{◌≤◌}
use native.Mathlib.Omega.{arith}
use lib.ListN.{length}
use Rattle.std.specs.Prelude.{Err}
use Rattle.answers.specs.After.{after}
use Rattle.answers.proofs.Laws.{handed-on, listed-count, tile-passed}
use Rattle.window.specs.Keys.{keys_of}
use Rattle.window.proofs.Laws.{inside, inside-12, keys_length, blocks-most}
use Rattle.decompose.proofs.Tables.{decompose-tile, decompose-outside, decompose-short, decompose-done}
use Rattle.decompose.proofs.decompose.Goals as goal

pub returns-in_err-tile : goal.returns-in_err-tile
returns-in_err-tile c = ap (λ r. after r c.args.out.now) (handed-on c.from_residual.ensures) ∙ sym (decompose-tile _ _ _ _ (sym c.tile.ensures ∙ c.in_err-tile.was))

pub outside-requires : goal.outside-requires
outside-requires c = omega (arith, (tile-passed _ _).0 (sym c.tile.ensures ∙ c.in_ok-tile.was))

pub returns-then-outside : goal.returns-then-outside
returns-then-outside c =
    ap (λ e. after (Err e) c.args.out.now) c.at.ensures
    ∙ sym (decompose-outside _ _ _ _ (sym c.tile.ensures ∙ c.in_ok-tile.was) (sym c.outside.ensures ∙ c.if-outside.true))

pub most_blocks-requires : goal.most_blocks-requires
most_blocks-requires c =
    let small = (tile-passed _ _).0 (sym c.tile.ensures ∙ c.in_ok-tile.was) in
    (omega (arith, small), inside-12 small.0 (inside _ _ (sym c.outside.ensures ∙ c.if-outside.false)))

pub list_blocks-needed-requires : goal.list_blocks-needed-requires
list_blocks-needed-requires c =
    let small = (tile-passed _ _).0 (sym c.tile.ensures ∙ c.in_ok-tile.was) in
    (small.0, small.1, inside _ _ (sym c.outside.ensures ∙ c.if-outside.false))

pub returns-then-out-needed : goal.returns-then-out-needed
returns-then-out-needed c =
    ap (λ e. after (Err e) c.args.out.now) c.at-then-out-needed.ensures
    ∙ sym (decompose-short _ _ _ _ (sym c.tile.ensures ∙ c.in_ok-tile.was) (sym c.outside.ensures ∙ c.if-outside.false) (listed-count c.list_blocks-needed.ensures) c.if-out-needed.true)

pub list_blocks-requires : goal.list_blocks-requires
list_blocks-requires c =
    let small = (tile-passed _ _).0 (sym c.tile.ensures ∙ c.in_ok-tile.was) in
    (small.0, small.1, inside _ _ (sym c.outside.ensures ∙ c.if-outside.false))

pub returns : goal.returns
returns c =
    let within = sym c.outside.ensures ∙ c.if-outside.false in
    -- the slice has room for all
    let room : length (keys_of c.args.m c.args.top c.args.window) ≤ length c.args.out.now =
    elim c.if-out-most_blocks.branch [
      | goal.then-out-most_blocks+else-out-needed w ↦ omega (arith, listed-count w.list_blocks-needed.ensures, w.if-out-needed.false)
      | goal.else-out-most_blocks w ↦
          let few = blocks-most c.args.window c.args.top (inside _ _ within) in
          omega (arith, keys_length c.args.m c.args.top c.args.window, few, c.most_blocks.ensures, w.if-out-most_blocks.false)
    ]
    in
    sym (decompose-done _ _ _ _ (sym c.tile.ensures ∙ c.in_ok-tile.was) within c.list_blocks.ensures room)
