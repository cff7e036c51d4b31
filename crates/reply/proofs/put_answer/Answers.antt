-- `reply::put_answer` meets its contract: the first line, and the rest behind it.
use mathlib.Core.Path.{refl, sym}
use mathlib.Core.List.{List, [], append-nil}
use Prim.Native.Nat.{ℕ, ◌+◌, ◌≤◌}
use native.Mathlib.Omega.{arith}
use lib.ListN.{length, length-drop}
use Rattle.answers.proofs.Laws.{back, lent_is}
use Rattle.text.proofs.Laws.{put-most, Telling, telling-begin, telling-length, telling-room, telling-part, telling-last}
use Rattle.lines.specs.Lines.{window_line}
use Rattle.lines.proofs.Laws.{window-most}
use Rattle.reply.specs.Reply.{result_of, answer_of}
use Rattle.reply.proofs.Results.{answer-most}
use Rattle.reply.proofs.put_answer.Goals as goal
use Rattle.reply.proofs.put_answer.Goals.{Start, After-put_window-at, After-put_result}

module _ (c : Start) where
  abbrev all : List ℕ
  all = answer_of c.args.m c.args.keys.now c.args.classes.now c.args.window

  abbrev rest : List ℕ
  rest = result_of c.args.m c.args.keys.now c.args.classes.now c.args.window

  room : length all ≤ length c.args.out.now
  room = omega (arith, answer-most c.args.m c.args.keys.now c.args.classes.now c.args.window c.requires.0, c.requires.1)

-- with the first line put
module _ (c : After-put_window-at) where
  abbrev start : Start
  start = (goal.at.After-put_window-at c).Start

  begun : Telling (all start) (rest start) c.put_window-at.result c.args.out.now c.put_window-at.new.out
  unfolding answer_of
  begun = telling-begin (all start) (window_line c.args.window) (rest start) c.args.out.now refl (room start) c.put_window-at.ensures

  short : c.put_window-at.result ≤ 46
  short = let W = c.args.window in omega (arith, put-most (window_line W) _ c.put_window-at.ensures, window-most W)

-- and with the rest behind it
module _ (c : After-put_result) where
  abbrev first : After-put_window-at
  first = (goal.at.After-put_result c).After-put_window-at

  whole : Telling (all (start first)) [] (c.put_window-at.result + c.put_result.result) c.args.out.now (back c.put_window-at.result c.put_window-at.new.out c.put_result.new.out)
  whole = telling-part (begun first) (rest (start first)) [] (sym (append-nil (rest (start first)))) c.put_result.ensures

pub slice_bounds-put_result-count : goal.slice_bounds-put_result-count
slice_bounds-put_result-count c = omega (arith, telling-room (begun (goal.at.slice_bounds-put_result-count c).After-put_window-at))

pub slice_bounds-put_result-start : goal.slice_bounds-put_result-start
slice_bounds-put_result-start c = omega (arith, telling-room (begun (goal.at.slice_bounds-put_result-start c).After-put_window-at))

pub put_result-requires : goal.put_result-requires
put_result-requires c =
    let k = (goal.at.put_result-requires c).After-put_window-at in
    (c.requires.0, rw (lent_is c.put_window-at.result c.put_window-at.new.out, length-drop) (omega (arith, short k, (begun k).filled.same, c.requires.1)))

pub overflow_add-result : goal.overflow_add-result
overflow_add-result c = let w = whole (goal.at.overflow_add-result c).After-put_result in omega (arith, telling-length w, w.room)

pub returns : goal.returns
returns c = telling-last (whole (goal.at.returns c).After-put_result) refl
