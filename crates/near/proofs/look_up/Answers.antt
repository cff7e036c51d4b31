-- `near::look_up` meets its contract: where a record is found around the block, the same is known of each block in that record.
use Rattle.std.proofs.Common.{◌≡◌, ◌+◌, ◌^◌, ◌<◌, get_or, sym, ap, ◌∙◌, subst, arith}
use Rattle.key.proofs.Laws.{block-lies, pow-most}
use Rattle.map.specs.declared.Run.{Run}
use Rattle.map.specs.Runs.{run_of}
use Rattle.map.proofs.Laws.{keys-rise, Alone, reach-least, reach-beyond}
use Rattle.map.proofs.Loops.{between_first, found_inside}
use Rattle.near.specs.Near.{Known}
use Rattle.near.proofs.Known.{near, known-record}
use Rattle.near.proofs.look_up.Goals as goal
use Rattle.near.proofs.look_up.Goals.{Else-run-i}

pub keys_below-first-requires : goal.keys_below-first-requires
keys_below-first-requires c = (keys-rise c.requires.2, between_first _ _)

pub returns-then-count-gt0 : goal.returns-then-count-gt0
returns-then-count-gt0 c =
    let p = c.requires in
    let found = found_inside p.2 p.3.names c.keys_below-first.ensures c.records_inside-count.ensures (λ e. omega (arith, c.if-count-gt0.true)) in
    record { is = c.inside-run.ensures ∙ sym found; near-known = p.4; other-known = p.5 }

-- a record is around the block
module _ (c : Else-run-i) where
  far : c.args.i < (run_of c.args.m c.args.keys.now c.args.key).reach
  far =
      let least = reach-least c.requires.2 c.requires.3.names in
      rw (← c.record_around-run.ensures) (omega (arith, c.if-run-i.false, rw (← c.record_around-run.ensures) at least))

  alone : Alone c.args.m c.args.keys.now c.args.key c.args.i c.requires.3.start
  alone = reach-beyond c.requires.2 c.requires.3.names far

pub bounds-keys-run : goal.bounds-keys-run
bounds-keys-run c = rw c.record_around-run.ensures (alone (goal.at.bounds-keys-run c).Else-run-i).is.within

pub pow5-requires : goal.pow5-requires
pow5-requires c = rw c.record_around-run.ensures (omega (arith, (block-lies (alone (goal.at.pow5-requires c).Else-run-i).is.names).small, c.requires.0))

pub overflow_add-near : goal.overflow_add-near
overflow_add-near c =
    let l = (block-lies (alone (goal.at.overflow_add-near c).Else-run-i).is.names).keys in
    omega (arith, rw (← c.record_around-run.ensures) at l, c.pow5.ensures.is, pow-most 4 _ c.requires.0)

pub returns : goal.returns
returns c =
    let p = c.requires in
    let f = c.record_around-run.ensures in
    let found = c.record_around-run.result in
    let from = get_or c.args.keys.now found.first 0 in
    let end = from + c.pow5.result in
    let size : end ≡ from + 5 ^ (run_of c.args.m c.args.keys.now c.args.key).reach = omega (arith, c.pow5.ensures.is, ap (λ (r : Run). 5 ^ r.reach) f) in
    let known = known-record p.2 (alone (goal.at.returns c).Else-run-i).is (ap (λ (r : Run). get_or c.args.keys.now r.first 0) f) size in
    record { is = f; near-known = subst (λ (r : Run). Known c.args.m c.args.keys.now (near r.first from end)) (sym f) known; other-known = p.4 }
