-- What report answers and leaves, by the verdict of its refusals.
-- Assumes nothing.
use mathlib.Core.Path.{◌≡◌, refl, sym}
use mathlib.Core.Bool.{Bool, true, false}
use mathlib.Core.List.{List}
use Prim.Native.Nat.{ℕ, ◌*◌, ◌≤◌, ◌<◌}
use lib.ListN.{length}
use Rattle.std.specs.Prelude.{Ok, Err}
use Rattle.answers.specs.declared.Cause.TheVariants.{ShortRoom}
use Rattle.answers.specs.declared.Refused.{Refused}
use Rattle.answers.specs.Refusals.{refuse, verdict}
use Rattle.answers.specs.Cells.{overwrite}
use Rattle.answers.specs.After.{after}
use Rattle.window.specs.declared.Window.{Window}
use Rattle.window.specs.Window.{Inside}
use Rattle.window.specs.Rules.{totals_by}
use Rattle.window.proofs.Laws.{totals-by-length}
use Rattle.map.specs.Sound.{SoundIn, SoundMap}
use Rattle.map.specs.Promises.{Gapless}
use Rattle.used.specs.Used.{use_refusals_in, spent, used_in}
use Rattle.used.proofs.Laws.{used-refused, used-short, used-done, used-maps, used-gapless}
use Rattle.report.specs.Report.{report_in}

module _ (whole : Bool) (rule : ℕ → ℕ) (m : ℕ) (keys : List ℕ) (classes : ℕ) (W : Window) (border out : List ℕ) where
  pub report-is : report_in whole rule m keys classes W border out ≡ used_in whole refuse (Ok (W.h * W.w)) (totals_by rule W) m keys classes W border out
  unfolding report_in
  report-is = refl

  pub report-refused : {r : Refused} → verdict (use_refusals_in whole m keys classes W (length border)) ≡ Err r
      → report_in whole rule m keys classes W border out ≡ after (Err r) (border, out)
  unfolding report_in
  report-refused e = used-refused whole refuse _ _ m keys classes W border out e

  module _ (e : verdict (use_refusals_in whole m keys classes W (length border)) ≡ Ok tt) {left : List ℕ} (d : left ≡ spent W border) where
    pub report-short : length out < 256 → after (refuse ShortRoom 256) (left, out) ≡ report_in whole rule m keys classes W border out
    unfolding report_in
    report-short l =
        let n = totals-by-length rule W in
        rw d (sym (rw n at (used-short whole refuse (Ok (W.h * W.w)) (totals_by rule W) m keys classes W border out e (rw n l))))

    pub report-done : {cells out' : List ℕ} → 256 ≤ length out → cells ≡ totals_by rule W → out' ≡ overwrite cells out
        → after (Ok (W.h * W.w)) (left, out') ≡ report_in whole rule m keys classes W border out
    unfolding report_in
    report-done l t o = rw (d, o, t) (sym (used-done whole refuse (Ok (W.h * W.w)) (totals_by rule W) m keys classes W border out e (rw (totals-by-length rule W) l)))

-- on a map whose gaps are not refused two rules that count the same where it is sound and the window inside answer alike, whether it is to be whole or not
pub report-gapless : {m : ℕ} {keys : List ℕ} {classes : ℕ} → Gapless m keys classes → (rule rule' : ℕ → ℕ) (W : Window) (border out : List ℕ)
    → (SoundMap m keys classes → Inside m W → totals_by rule W ≡ totals_by rule' W)
    → report_in false rule m keys classes W border out ≡ report_in true rule' m keys classes W border out
unfolding report_in
report-gapless G rule rule' W border out h = used-gapless G refuse _ _ _ _ W border out (λ S I. (refl, h S I))

-- on two sound maps, with gaps or without, two rules that count the same in a window inside answer alike
pub report-maps : {whole whole' : Bool} {m : ℕ} {keys keys' : List ℕ} {classes classes' : ℕ} → SoundIn whole m keys classes → SoundIn whole' m keys' classes'
    → (rule rule' : ℕ → ℕ) (W : Window) (border out : List ℕ) → (Inside m W → totals_by rule W ≡ totals_by rule' W)
    → report_in whole rule m keys classes W border out ≡ report_in whole' rule' m keys' classes' W border out
unfolding report_in
report-maps S S' rule rule' W border out h = used-maps S S' refuse _ _ _ _ W border out (λ I. (refl, h I))
