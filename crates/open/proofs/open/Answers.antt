-- `open::open` meets its contract. Each test decides what its law in `Opening` says; what the pass that counts leaves is `Passed`.
use mathlib.Core.Path.{refl, sym, ap, ◌∙◌}
use mathlib.Core.List.{List}
use Prim.Native.Nat.{ℕ, ◌*◌, ◌≤◌}
use native.Mathlib.Omega.{arith}
use lib.ListN.{length}
use Rattle.std.specs.Prelude.{Result, Err}
use Rattle.answers.specs.declared.Refused.{Refused}
use Rattle.answers.specs.After.{after}
use Rattle.answers.proofs.Laws.{handed-on}
use Rattle.window.specs.declared.Window.{Window}
use Rattle.window.specs.Walk.{most_blocks}
use Rattle.window.proofs.Laws.{inside-12, blocks-most, most-small}
use Rattle.border.specs.declared.Totals.{Totals}
use Rattle.border.specs.Openings.{openings}
use Rattle.border.proofs.Laws.{openings-most}
use Rattle.used.specs.Used.{Usable}
use Rattle.used.proofs.Laws.{tiled-known}
use Rattle.open.proofs.Opening.{open-refused, open-short, Writable, writable-first, writable-counted, written_all}
use Rattle.open.proofs.open.Goals as goal
use Rattle.open.proofs.open.Goals.{then-out-most_blocks+else-out-needed, else-out-most_blocks}

pub returns-in_err-usable_tiled : goal.returns-in_err-usable_tiled
returns-in_err-usable_tiled c =
    ap (λ (r : Result Totals Refused). after r (c.args.border.now, c.args.out.now)) (handed-on c.from_residual.ensures)
    ∙ sym (open-refused _ _ _ _ _ _ _ _ (sym c.usable_tiled.ensures ∙ c.in_err-usable_tiled.was))

-- of what can be used
module _ {m top cells : ℕ} {keys : List ℕ} {W : Window} (k : Usable m top keys W cells) where
  few : length (openings m top keys W) ≤ most_blocks W top
  few = omega (arith, openings-most k.spaced k.inside k.cap, blocks-most W top k.inside)

  small : most_blocks W top ≤ 16809982
  small = most-small W top (inside-12 k.small k.inside)

pub most_blocks-requires : goal.most_blocks-requires
most_blocks-requires c =
    let k = tiled-known _ _ _ _ _ _ _ (sym c.usable_tiled.ensures ∙ c.in_ok-usable_tiled.was) in
    (omega (arith, k.cap, k.small), inside-12 k.small k.inside)

pub overflow_mul-most_blocks : goal.overflow_mul-most_blocks
overflow_mul-most_blocks c =
    let k = tiled-known _ _ _ _ _ _ _ (sym c.usable_tiled.ensures ∙ c.in_ok-usable_tiled.was) in
    omega (arith, c.most_blocks.ensures, small k)

pub pass-counted-requires : goal.pass-counted-requires
pass-counted-requires c = tiled-known _ _ _ _ _ _ _ (sym c.usable_tiled.ensures ∙ c.in_ok-usable_tiled.was)

pub overflow_mul-needed : goal.overflow_mul-needed
overflow_mul-needed c =
    let k = tiled-known _ _ _ _ _ _ _ (sym c.usable_tiled.ensures ∙ c.in_ok-usable_tiled.was) in
    omega (arith, c.pass-counted.ensures.many, few k, small k)

pub returns-then-out-needed : goal.returns-then-out-needed
returns-then-out-needed c =
    let lent : List ℕ × List ℕ = (c.pass-counted.new.border, c.args.out.now) in
    ap (λ (e : Refused). after {A = Result Totals Refused} (Err e) lent) c.at.ensures
    ∙ open-short _ _ _ _ _ _ _ _ (sym c.usable_tiled.ensures ∙ c.in_ok-usable_tiled.was) (ap (λ (n : ℕ). 3 * n) c.pass-counted.ensures.many) c.if-out-needed.true
    c.pass-counted.ensures.ends refl

pub pass-requires : goal.pass-requires
pass-requires c = rw c.if-out-most_blocks.auto.border (tiled-known _ _ _ _ _ _ _ (sym c.usable_tiled.ensures ∙ c.in_ok-usable_tiled.was))

pub returns : goal.returns
returns c =
    let passed = sym c.usable_tiled.ensures ∙ c.in_ok-usable_tiled.was in
    let k = tiled-known _ _ _ _ _ _ _ passed in
    let ready : Writable c.args.m c.args.top c.args.keys.now c.args.window c.args.border.now c.args.out.now c.if-out-most_blocks.border =
    elim c.if-out-most_blocks.branch [
      | then-out-most_blocks+else-out-needed w ↦ writable-counted w.pass-counted.ensures w.border-is (omega (arith, w.if-out-needed.false))
      | else-out-most_blocks w ↦ writable-first w.border-is (omega (arith, few k, c.most_blocks.ensures, w.if-out-most_blocks.false))
    ] in
    written_all ready c.pass.ensures _ _ passed
