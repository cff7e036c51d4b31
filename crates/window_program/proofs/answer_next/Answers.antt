-- `window_program::answer_next` meets its contract: what is printed is the text for what was taken.
use Rattle.std.proofs.Common.{rules, ℕ, ◌≡◌, ◌∙◌, arith, sym, refl, length, take, length-take-le}
use Rattle.std.proofs.lemmas.List.{length-replicate}
use Rattle.text.proofs.Laws.{put-within}
use Rattle.reply.specs.Reply.{next_text}
use Rattle.reply.proofs.Laws.{next-put}
use Rattle.window_program.specs.Turns.{Took}
use Rattle.window_program.proofs.Turned.{turn-lost}
use Rattle.window_program.proofs.answer_next.Given.{Over}
use Rattle.window_program.proofs.answer_next.Goals as goal
use Rattle.window_program.proofs.answer_next.Goals.{After-put_next-n}

pub slice_bounds-text-end : goal.slice_bounds-text-end
slice_bounds-text-end g c = put-within _ _ c.put_next-n.ensures

pub slice_bounds-print-end-2 : goal.slice_bounds-print-end-2
slice_bounds-print-end-2 g c = sym (length-take-le _ _ (put-within _ _ c.put_next-n.ensures))

-- what was taken, and the text for it
module _ (g : Over) (c : After-put_next-n g) where
  took : Took c.in_ok-got.got c.take.new.buf (g.R.Read.remaining c.args.from.now) (g.R.Read.remaining c.take.new.from)
  took =
      let counted = c.in_ok-got.ensures in
      let eight : length c.take.new.buf ≡ 8 = c.take.auto.buf ∙ length-replicate {A = ℕ} 8 0 in
      record {
        eight = eight;
        most = omega (arith, counted.0, c.take.ensures.count.0);
        taken = rw counted.0 c.take.ensures.bytes;
        ended = λ l. c.take.ensures.end (search rules) (omega (arith, counted.0));
      }

  text : take c.put_next-n.result c.put_next-n.new.out ≡ next_text c.args.m c.args.keys.now c.args.classes.now c.in_ok-got.got c.take.new.buf
  text = next-put c.args.m c.args.keys.now c.args.classes.now c.in_ok-got.got c.take.new.buf c.requires _ (omega (arith, length-replicate {A = ℕ} 42225 0)) c.put_next-n.ensures

pub returns-in_err-print : goal.returns-in_err-print
returns-in_err-print g c =
    let turn = (goal.at.returns-in_err-print g c).After-put_next-n in
    let lost = c.from_residual-in_err-print.ensures.1 in
    turn-lost _ _ _ c.from_residual-in_err-print.result c.in_err-print.field-0.0 _ _ _ _ _ _ lost (took g turn) (rw (text g turn) at c.in_err-print.ensures)

pub returns : goal.returns
returns g c =
    let turn = (goal.at.returns g c).After-put_next-n in
    (c.in_ok-got.got, c.take.new.buf, took g turn, refl, rw (text g turn) at c.in_ok-print.ensures)
