-- `select::pick_all` meets its contract, by the invariant beside this.
use native.Mathlib.Omega.{arith}
use Rattle.window.proofs.Laws.{inside-12}
use Rattle.select.proofs.Selects.{selecting-first, selecting-last, comes, selecting-most, selecting-block, selecting-run}
use Rattle.select.proofs.Selects.{selecting-next, selecting-around, selecting-near, exchanged-known, exchanged-in}
use Rattle.select.proofs.pick_all.Goals as goal

pub first_seen-seen-requires : goal.first_seen-seen-requires
first_seen-seen-requires c = (c.requires.0.small, c.requires.0.spaced)

pub blocks-block-items-requires : goal.blocks-block-items-requires
blocks-block-items-requires c = let u = c.requires.0 in (omega (arith, u.cap, u.small), inside-12 u.small u.inside)

pub loop-block-init : goal.loop-block-init
loop-block-init c =
    rw c.into_iter-block-iterator.ensures.into_iter_gives (selecting-first c.requires.0.inside c.blocks-block-items.ensures _ c.first_seen-seen.ensures)

-- a block in the nearer record
pub pick_around-n-requires : goal.pick_around-n-requires
pick_around-n-requires c =
    let S = c.loop-block.invariant in
    let B = comes S c.requires.0 c.in-Some.ensures.steps c.block_key-key.ensures in
    selecting-around B S.known.0 (c.lies_in.ensures.0 c.if-lies_in.true) c.requires.1

pub loop-block-preserved-then-lies_in : goal.loop-block-preserved-then-lies_in
loop-block-preserved-then-lies_in c =
    let S = c.loop-block.invariant in
    let B = comes S c.requires.0 c.in-Some.ensures.steps c.block_key-key.ensures in
    selecting-near B S.known.0 (c.lies_in.ensures.0 c.if-lies_in.true) c.pick_around-n.ensures S.known

-- in the other
pub pick_around-n-requires-then-lies_in-2 : goal.pick_around-n-requires-then-lies_in-2
pick_around-n-requires-then-lies_in-2 c =
    let S = c.loop-block.invariant in
    let B = comes S c.requires.0 c.in-Some.ensures.steps c.block_key-key.ensures in
    let known = exchanged-known c.exchanged-seen.ensures S.known in
    selecting-around B known.0 (exchanged-in c.exchanged-seen.ensures (c.lies_in-in-loop-block.ensures.0 c.if-lies_in-2.true)) c.requires.1

pub loop-block-preserved-then-lies_in-2 : goal.loop-block-preserved-then-lies_in-2
loop-block-preserved-then-lies_in-2 c =
    let S = c.loop-block.invariant in
    let B = comes S c.requires.0 c.in-Some.ensures.steps c.block_key-key.ensures in
    let known = exchanged-known c.exchanged-seen.ensures S.known in
    let within = exchanged-in c.exchanged-seen.ensures (c.lies_in-in-loop-block.ensures.0 c.if-lies_in-2.true) in
    selecting-near B known.0 within c.pick_around-n-then-lies_in-2.ensures known

-- in neither
pub look_up-seen-requires : goal.look_up-seen-requires
look_up-seen-requires c =
    let u = c.requires.0 in
    let S = c.loop-block.invariant in
    let B = comes S u c.in-Some.ensures.steps c.block_key-key.ensures in
    (u.small, u.few, u.spaced, selecting-block B, S.known.0, S.known.1)

pub pick-n-requires : goal.pick-n-requires
pick-n-requires c =
    let u = c.requires.0 in
    let B = comes c.loop-block.invariant u c.in-Some.ensures.steps c.block_key-key.ensures in
    let o = selecting-run B c.look_up-seen.ensures.is in
    (o, u.few, c.requires.1, omega (arith, o.room, u.few, selecting-most B))

pub loop-block-preserved : goal.loop-block-preserved
loop-block-preserved c =
    let B = comes c.loop-block.invariant c.requires.0 c.in-Some.ensures.steps c.block_key-key.ensures in
    let s = c.look_up-seen.ensures in
    selecting-next B s.is c.pick-n.ensures (s.near-known, s.other-known)

pub returns : goal.returns
returns c = selecting-last c.loop-block.invariant c.in-None.ensures.steps
