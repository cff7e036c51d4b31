-- `reply::put_found` meets its contract: report refuses as the window is refused, and behind it opening does not.
use Rattle.std.proofs.Common.{ℕ, ◌*◌, ◌≤◌, ◌∙◌, sym, refl, arith, length, take, length-take-le}
use lib.ListN.{length-take, length-replicate}
use Rattle.answers.proofs.Laws.{handed-on}
use Rattle.lines.proofs.Laws.{found-most}
use Rattle.reply.proofs.Results.{Counting, Opening, report-refused, report-passed, report-counted, open-never, open-fits, open-found}
use Rattle.reply.proofs.put_found.Goals as goal
use Rattle.reply.proofs.put_found.Goals.{After-report, After-open}

-- with the pixels counted: what the call left
counting : (c : After-report) → Counting c.args.m c.args.keys.now c.args.classes.now c.args.window c.report.result c.report.new.border c.report.new.out
counting c = record {
  is = c.report.ensures;
  wide = c.report.auto.border ∙ length-replicate {A = ℕ} 4096 0;
  long = c.report.auto.out ∙ length-replicate {A = ℕ} 256 0;
}

-- and with the window opened
opening : (c : After-open) → Opening c.args.m c.args.keys.now c.args.classes.now c.args.window c.report.new.border c.open.result c.open.new.border c.open.new.out
opening c =
    let counted = counting (goal.at.After-open c).After-report in
    record {
      passed = report-passed counted c.in_ok-pixels.was;
      few = c.requires.0;
      wide = counted.wide;
      is = c.open.ensures;
      long = c.open.auto.out ∙ length-replicate {A = ℕ} 3000 0;
    }

pub returns-in_err-pixels : goal.returns-in_err-pixels
returns-in_err-pixels c =
    rw (handed-on c.from_residual.ensures) (report-refused (counting (goal.at.returns-in_err-pixels c).After-report) c.in_err-pixels.was, refl)

pub returns-in_err-opened : goal.returns-in_err-opened
returns-in_err-opened c = open-never (opening (goal.at.returns-in_err-opened c).After-open) c.in_err-opened.was

pub slice_bounds-cells-end : goal.slice_bounds-cells-end
slice_bounds-cells-end c = let o = opening (goal.at.slice_bounds-cells-end c).After-open in omega (arith, open-fits o c.in_ok-opened.was, o.long)

pub slice_bounds-put_found-end : goal.slice_bounds-put_found-end
slice_bounds-put_found-end c =
    let o = opening (goal.at.slice_bounds-put_found-end c).After-open in
    let within : 3 * c.in_ok-opened.opened.openings ≤ length c.open.new.out = omega (arith, open-fits o c.in_ok-opened.was, o.long) in
    sym (length-take-le _ _ within)

pub put_found-requires : goal.put_found-requires
put_found-requires c =
    let o = opening (goal.at.put_found-requires c).After-open in
    let counted = counting (goal.at.put_found-requires c).After-report in
    let t = c.in_ok-opened.opened in
    let cells = take (3 * t.openings) c.open.new.out in
    let most = found-most cells c.report.new.out t.openings t.records c.in_ok-pixels.pixels in
    (omega (arith, counted.long), omega (arith, open-fits o c.in_ok-opened.was, length-take (3 * t.openings) c.open.new.out, most, counted.long, c.requires.1))

pub returns : goal.returns
returns c =
    let o = opening (goal.at.returns c).After-open in
    let counted = counting (goal.at.returns c).After-report in
    rw (← report-counted counted c.in_ok-pixels.was, ← open-found o c.in_ok-opened.was c.report.new.out c.in_ok-pixels.pixels) c.put_found.ensures
