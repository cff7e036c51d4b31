-- What is said of a window: how long it can be, and that it is what the calls answer.
-- Assumes nothing.
use mathlib.Core.Path.{◌≡◌, refl, sym, ap, ◌∙◌}
use mathlib.Core.Bool.{true}
use mathlib.Core.List.{List}
use Prim.Native.Nat.{ℕ, ◌*◌, ◌≤◌}
use native.Mathlib.Omega.{arith}
use lib.ListN.{length, take, replicate, length-append, length-replicate}
use lib.Seq.{take_all}
use Rattle.std.specs.Prelude.{Result, Ok, Err}
use Rattle.answers.specs.declared.Refused.{Refused}
use Rattle.answers.specs.Refusals.{Refusal, number, refuse, verdict}
use Rattle.answers.specs.After.{after}
use Rattle.answers.proofs.Laws.{on-passed, on-refused, refused-not-passed}
use Rattle.window.specs.declared.Window.{Window}
use Rattle.border.specs.Openings.{openings, handed_count, cells_of}
use Rattle.used.specs.Used.{use_refusals}
use Rattle.used.proofs.Laws.{used-roomy}
use Rattle.border.specs.declared.Totals.{Totals}
use Rattle.open.specs.Open.{open_of}
use Rattle.open.specs.Promises.{Answered}
use Rattle.open.proofs.Laws.{openings-fit, answered, open-within}
use Rattle.totals.specs.Totals.{totals}
use Rattle.totals.proofs.Laws.{totals-length}
use Rattle.report.specs.Report.{report_of}
use Rattle.report.proofs.Laws.{Counted, uncounted, counted}
use Rattle.lines.specs.Lines.{cause_line, found_lines}
use Rattle.lines.proofs.Laws.{window-most, refusal-most, found-most}
use Rattle.reply.specs.Reply.{found_by, result_of, answer_of}

-- ---- how long

module _ (m : ℕ) (keys classes : List ℕ) (W : Window) where
  abbrev refusals : List Refusal
  refusals = use_refusals m keys (length classes) W 4096

  -- what is said of a window on a map of 1,000 records or fewer
  pub result-most : length keys ≤ 1000 → length (result_of m keys classes W) ≤ 42179
  unfolding result_of found_by
  result-most few = go (verdict refusals) refl
    where
      go : (v : Result Unit Refused) → verdict refusals ≡ v → length (result_of m keys classes W) ≤ 42179
      go (Ok tt) e =
          let os = openings m m keys W in
          let most = found-most (cells_of os) (totals m keys classes W) (length os) (handed_count os) (W.h * W.w) in
          let fit = openings-fit m keys (length classes) W 4096 e in
          rw (on-passed cause_line refusals _ e) (omega (arith, most, fit.0, fit.1, totals-length m keys classes W))
      go (Err r) e = rw (on-refused cause_line refusals _ e) (omega (arith, refusal-most (number r.cause) r.place))

  pub answer-most : length keys ≤ 1000 → length (answer_of m keys classes W) ≤ 42225
  unfolding answer_of
  answer-most few = simp length-append (omega (arith, window-most W, result-most few))

-- ---- what report answers

-- a call of report on a border of 4,096 cells and totals from 0 on, its answer, and the cells then
pub record Counting (m : ℕ) (keys classes : List ℕ) (W : Window) (r : Result ℕ Refused) (border out : List ℕ) : Type 0 where
  pub is : after r (border, out) ≡ report_of m keys classes W (replicate 4096 0) (replicate 256 0)
  pub wide : length border ≡ 4096
  pub long : length out ≡ 256

module _ {m : ℕ} {keys classes : List ℕ} {W : Window} {r : Result ℕ Refused} {border out : List ℕ} (c : Counting m keys classes W r border out) where
  told : {a : Result ℕ Refused} → r ≡ a → report_of m keys classes W (replicate 4096 0) (replicate 256 0) ≡ after a (border, out)
  told d = sym c.is ∙ ap (λ (x : Result ℕ Refused). after x (border, out)) d

  -- it refuses, and the line of that is what is said
  pub report-refused : {e : Refused} → r ≡ Err e → result_of m keys classes W ≡ cause_line e.cause e.place
  unfolding result_of
  report-refused d =
      let room : 256 ≤ length (replicate {A = ℕ} 256 0) = omega (arith, length-replicate {A = ℕ} 256 0) in
      let v = rw (length-replicate {A = ℕ} 4096 0) at (uncounted m keys classes W (replicate 4096 0) (replicate 256 0) room (told d)) in
      on-refused cause_line (refusals m keys classes W) _ v

  module _ {pixels : ℕ} (d : r ≡ Ok pixels) where
    C : Counted m keys classes W (length (replicate {A = ℕ} 4096 0)) pixels out
    C = counted m keys classes W (replicate 4096 0) (replicate 256 0) (told d)

    pub report-passed : verdict (refusals m keys classes W) ≡ Ok tt
    report-passed = rw (length-replicate {A = ℕ} 4096 0) at C.passed

    -- or it counts what is said with the openings
    pub report-counted : found_by m keys W out pixels ≡ result_of m keys classes W
    unfolding result_of
    report-counted =
        let list : out ≡ totals m keys classes W = sym (take_all 256 out (omega (arith, c.long))) ∙ C.list in
        rw (list, C.pixels) (sym (on-passed cause_line (refusals m keys classes W) _ report-passed))

-- ---- what opening answers

-- a call of opening on a border of 4,096 cells, with cells for 1,000 openings, where the use passes; its answer, and the cells then
pub record Opening (m : ℕ) (keys classes : List ℕ) (W : Window) (border : List ℕ) (r : Result Totals Refused) (border' out : List ℕ) : Type 0 where
  pub passed : verdict (use_refusals m keys (length classes) W 4096) ≡ Ok tt
  pub few : length keys ≤ 1000
  pub wide : length border ≡ 4096
  pub is : after r (border', out) ≡ open_of m keys (length classes) W border (replicate 3000 0)
  pub long : length out ≡ 3000

module _ {m : ℕ} {keys classes : List ℕ} {W : Window} {border : List ℕ} {r : Result Totals Refused} {border' out : List ℕ} (c : Opening m keys classes W border r border' out) where
  told-opened : {a : Result Totals Refused} → r ≡ a → open_of m keys (length classes) W border (replicate 3000 0) ≡ after a (border', out)
  told-opened d = sym c.is ∙ ap (λ (x : Result Totals Refused). after x (border', out)) d

  usable : verdict (use_refusals m keys (length classes) W (length border)) ≡ Ok tt
  usable = rw c.wide c.passed

  fit : length (cells_of (openings m m keys W)) ≤ 3000
  fit = omega (arith, openings-fit m keys (length classes) W 4096 c.passed, c.few)

  -- it does not refuse
  pub open-never : {A : Type 0} {e : Refused} → r ≡ Err e → A
  open-never {e = e} d =
      let is = sym (open-within true m m keys (length classes) W border (replicate 3000 0) (omega arith)) ∙ told-opened d in
      let refused = used-roomy true refuse _ _ m keys (length classes) W border (replicate 3000 0) (λ c p f. cc) room {c = e.cause} {p = e.place} is in
      absurd (refused-not-passed (sym refused.1 ∙ usable))
    where
      room : length (cells_of (openings m m keys W)) ≤ length (replicate {A = ℕ} 3000 0)
      room = omega (arith, fit, length-replicate {A = ℕ} 3000 0)

  module _ {t : Totals} (d : r ≡ Ok t) where
    T : Answered m m keys W t.openings t.records out
    T = answered m m keys (length classes) W border (replicate 3000 0) (omega arith) (told-opened d)

    pub open-fits : 3 * t.openings ≤ 3000
    open-fits = omega (arith, T.many, (openings-fit m keys (length classes) W 4096 c.passed).0, c.few)

    pub open-found : (totals : List ℕ) (pixels : ℕ) → found_lines (take (3 * t.openings) out) totals t.openings t.records pixels ≡ found_by m keys W totals pixels
    unfolding found_by
    open-found totals pixels = rw (T.list, T.many, T.records-are)
