-- What an answer of opening tells: the count is the length of the list that was written, and the laws of openings hold of that list.
-- Assumes nothing.
use mathlib.Core.Path.{◌≡◌, sym, ap, ◌∙◌}
use mathlib.Core.Bool.{true}
use mathlib.Core.List.{List}
use Prim.Native.Nat.{ℕ, ◌*◌, ◌≤◌}
use lib.ListN.{length}
use Rattle.std.specs.Prelude.{Result, Ok}
use Rattle.answers.specs.declared.Refused.{Refused}
use Rattle.answers.specs.Refusals.{refuse}
use Rattle.answers.specs.After.{after}
use Rattle.answers.proofs.Laws.{take-overwrite}
use Rattle.window.specs.declared.Window.{Window}
use Rattle.border.specs.declared.Totals.{Totals}
use Rattle.border.specs.Openings.{openings, handed_count, cells_of}
use Rattle.border.proofs.Laws.{cells-length}
use Rattle.used.proofs.Laws.{use-known, use-whole, used-told}
use Rattle.open.specs.Open.{counted, open_tiled}
use Rattle.open.specs.Promises.{Answered}
use Rattle.open.proofs.Opening.{open-within}

same-totals : {t u : Totals} → ◌≡◌ {A = Result Totals Refused} (Ok t) (Ok u) → t ≡ u
same-totals e = cc

-- the count in the answer is the length of the list that was written, and the laws above hold of that list
pub answered : (m top : ℕ) (keys : List ℕ) (classes : ℕ) (W : Window) (border out : List ℕ) → top ≤ m → {count records : ℕ} {border' out' : List ℕ}
    → open_tiled m top keys classes W border out ≡ after (Ok (counted count records)) (border', out') → Answered m top keys W count records out'
answered m top keys classes W border out cap {count} {records} {border'} {out'} e =
    let os = openings m top keys W in
    let o = sym (open-within true m top keys classes W border out cap) ∙ e in
    let t = used-told true refuse (Ok (counted (length os) (handed_count os))) (cells_of os) m keys classes W border out (λ c p f. cc) o in
    let U = use-known true m keys classes W (length border) t.passed in
    let same = same-totals t.says in
    let n : length os ≡ count = ap (λ (t : Totals). t.openings) same in
    let k : handed_count os ≡ records = ap (λ (t : Totals). t.records) same in
    let full : length (cells_of os) ≡ 3 * count = cells-length os ∙ ap (λ (x : ℕ). 3 * x) n in
    record {
      sound = use-whole m keys classes W (length border) t.passed;
      inside = U.inside;
      many = sym n;
      records-are = sym k;
      list = rw (← full, ← t.writes) (take-overwrite (cells_of os) out);
    }
