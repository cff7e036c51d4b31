-- `streams::print` meets its contract, by the invariant beside this.
use Rattle.std.proofs.Common.{rules, ◌≤◌, ◌<◌, ◌++◌, arith, length, take, drop, sym, length-append, length-take, length-drop, length-take-le}
use Rattle.std.proofs.KnownBytes.{Appends-kept}
use Rattle.streams.proofs.Known.{more-put, split_after, split_rest, puts-front, puts-failed}
use Rattle.streams.proofs.Pieces.{piece-within}
use Rattle.streams.proofs.print.Goals as goal

pub slice_bounds-write-end : goal.slice_bounds-write-end
slice_bounds-write-end g c =
    let within : c.piece-n.result ≤ length c.loop-rest.rest.now = omega (arith, c.piece-n.ensures, piece-within 4096 c.loop-rest.rest.now) in
    sym (length-take-le _ _ within)

pub returns-in_err-put : goal.returns-in_err-put
returns-in_err-put g c =
    let (done, split, appended) = c.loop-rest.invariant in
    let more : 0 < length c.loop-rest.rest.now = search rules in
    let part = puts-front 0 _ _ _ _ _ split (omega arith) more (Appends-kept _ _ _ _ appended c.in_err-put.ensures.bytes) in
    puts-failed c.from_residual.result c.in_err-put.field-0.0 _ _ _ c.from_residual.ensures.1 part

pub returns-then-put-eq0 : goal.returns-then-put-eq0
returns-then-put-eq0 g c =
    let (done, split, appended) = c.loop-rest.invariant in
    let more : 0 < length c.loop-rest.rest.now = search rules in
    let put = more-put _ _ _ done _ _ _ appended c.in_ok-put.ensures.bound c.in_ok-put.ensures.bytes in
    puts-front 0 _ _ _ _ _ (split_after _ done _ _ split) (omega arith) (rw (c.if-put-eq0.true) more) put

pub returns-then-is_file : goal.returns-then-is_file
returns-then-is_file g c =
    let (done, split, appended) = c.loop-rest.invariant in
    let within = piece-within 4096 c.loop-rest.rest.now in
    let some : 1 ≤ length (done ++ take c.in_ok-put.put c.loop-rest.rest.now) =
    simp (length-append, length-take) (omega (arith, c.if-put-n.true, c.piece-n.ensures)) in
    let more : 0 < length (drop c.in_ok-put.put c.loop-rest.rest.now) = simp length-drop (omega (arith, c.if-put-n.true, c.piece-n.ensures)) in
    puts-front 1 _ _ _ _ _ (split_after _ done _ _ split) some more (more-put _ _ _ done _ _ _ appended c.in_ok-put.ensures.bound c.in_ok-put.ensures.bytes)

pub loop-rest-preserved : goal.loop-rest-preserved
loop-rest-preserved g c =
    let (done, split, appended) = c.loop-rest.invariant in
    (done ++ take c.in_ok-put.put c.loop-rest.rest.now, split_rest _ done _ _ split, more-put _ _ _ done _ _ _ appended c.in_ok-put.ensures.bound c.in_ok-put.ensures.bytes)
