-- `streams::whole_lines` meets its contract: the search from the end stops at the last end of a line.
use Rattle.std.proofs.Common.{rules, ◌≡◌, ◌<◌, arith, length, ap, sym, ◌∙◌, length-take-le}
use Rattle.std.specs.Slice.Iter.{iter_rest}
use Rattle.streams.proofs.Backward.{found, nowhere}
use Rattle.streams.proofs.whole_lines.Goals as goal

pub returns-in-Some : goal.returns-in-Some
returns-in-Some c =
    let run = c.in-Some.ensures.runs in
    let back = c.iter.ensures.runs_back run.0 run.0.seen in
    let hits = run.2.1 (λ a r f h. search rules) in
    let bytes = ap iter_rest run.1 ∙ c.iter.ensures.rest in
    let long : length (iter_rest c.iter.result) ≡ c.args.most = ap length c.iter.ensures.rest ∙ length-take-le _ _ c.requires in
    let last : c.in-Some.last < c.args.most = omega (arith, c.in-Some.ensures.bound) in
    sym (found (λ x. x.now) run.0.at run.0.len c.args.text.now c.args.most c.requires (iter_rest run.0.from) bytes back.2
    c.in-Some.last last (rw long) (omega (arith, run.2.0)) hits.0 hits.1 (λ x h. search rules) (λ x h. search rules))

pub returns-in-None : goal.returns-in-None
returns-in-None c =
    let run = c.in-None.ensures.runs in
    let back = c.iter.ensures.runs_back run.0 run.0.seen in
    let misses = run.2.1 (λ a r f h. search rules) in
    let bytes = ap iter_rest run.1 ∙ c.iter.ensures.rest in
    let all = back.1 run.2.0 ∙ ap length bytes ∙ length-take-le _ _ c.requires in
    sym (nowhere (λ x. x.now) run.0.at run.0.len c.args.text.now c.args.most c.requires (iter_rest run.0.from) bytes back.2
    all misses (λ x h. search rules))
