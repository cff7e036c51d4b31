-- What clearing and adding promise, each from the contract of the call alone.
-- Assumes nothing.
use mathlib.Core.Path.{◌≡◌, refl, sym, ap, ◌∙◌}
use mathlib.Core.Logic.{◌↔◌}
use mathlib.Core.List.{List, ◌++◌}
use Prim.Native.Nat.{ℕ, ◌+◌, ◌≤◌}
use native.Mathlib.Nat.{mul-le-mul}
use native.Mathlib.Omega.{arith}
use lib.ListN.{length, replicate}
use Rattle.answers.specs.declared.Cause.{Cause}
use Rattle.answers.specs.Refusals as of
use Rattle.std.specs.Prelude.{Ok, Err}
use Rattle.answers.specs.declared.Refused.{Refused}
use Rattle.answers.specs.Refusals.{Refusal, answer, verdict, refuse}
use Rattle.answers.specs.Cells.{overwrite}
use Rattle.answers.specs.After.{After, after, unless}
use Rattle.answers.proofs.Laws.{on-passed, on-refused, drop-overwrite}
use Rattle.window.specs.declared.Window.{Window}
use Rattle.window.specs.Window.{Inside}
use Rattle.window.specs.Drawn.{drawn_refusals, drawn_for}
use Rattle.window.proofs.Laws.{inside-12, pixels-most}
use Rattle.used.specs.Used.{spent}
use Rattle.month.specs.Month.{head_of, window_in, maps_in, add_map, add_refusals}
use Rattle.month.specs.Promises.{Addable}
use Rattle.month.proofs.Laws.{clear-is, empty-length, numbered-add, add-addable, map-length, add_is, add-table}
use Rattle.month.proofs.Laws.{month-none, next-m, next-window, next-maps, next_row, sane-next}
use Rattle.lutniorad.specs.declared.Answer.{Answer}
use Rattle.lutniorad.specs.Numbers.{values, refusing, of_cleared, of_count}
use Rattle.lutniorad.specs.Calls.{MonthClear, MonthAdd}
use Rattle.lutniorad.specs.MonthPromises.{MonthClearPromise, MonthAddPromise}
use Rattle.lutniorad.proofs.Drawing.{drawn-crossed, drawn-says, drawn-numbered, drawn-answered, drawn-kept, drawn-done}
use Rattle.lutniorad.proofs.Crossing.{both-slices, unless-crossed}
use Rattle.lutniorad.proofs.Told.{four, told-most, told-when, told-kept, guarded-says, guarded-kept, guarded-leaves}

-- ---- clearing

module _ (m : ℕ) (W : Window) (table : List ℕ) {table' : List ℕ} {r : Answer} (call : MonthClear m W table r table') where
  abbrev empty : List ℕ
  empty = head_of m W ++ replicate 1025 0

  -- the call in numbers
  clears : after r table' ≡ drawn_for refusing (values 0 0) empty m W table
  clears = drawn-crossed of_cleared refuse (Ok tt) empty m W table (clear-is m W table) call

  pub month-clear-says : r ≡ answer refusing (drawn_refusals m W 1030 (length table)) (values 0 0)
  month-clear-says = rw (empty-length m W) at (drawn-says 0 empty m W table clears)

  pub month-clear-numbered : r.refusal ≤ 8
  month-clear-numbered = drawn-numbered 0 empty m W table clears

  pub month-clear-answered : (r.refusal ≡ 0) ↔ ((m ≤ 12) × Inside m W × (1030 ≤ length table))
  month-clear-answered = rw (empty-length m W) at (drawn-answered 0 empty m W table clears)

  pub month-clear-kept : (r.refusal ≡ 0 → ⊥) → table' ≡ table
  month-clear-kept = drawn-kept 0 empty m W table clears

  pub month-clear-promise : r.refusal ≡ 0 → MonthClearPromise m W table r table'
  month-clear-promise z =
      let done = drawn-done 0 empty m W table clears z in
      record { number = done.0; cells = done.1 ∙ ap (λ (x : List ℕ). overwrite x table) (month-none m W) }

-- ---- adding

module _ (m : ℕ) (keys classes border table : List ℕ) {border' table' : List ℕ} {r : Answer} (call : MonthAdd m keys classes border table r border' table') where
  abbrev rs : List Refusal
  rs = add_refusals m keys (length classes) (length border) table

  -- the call in numbers
  adds : ◌≡◌ {A = After Answer (List ℕ × List ℕ)} (after r (border', table'))
      (unless refusing rs (border, table) (after (values (maps_in table + 1) 0) (spent (window_in table) border, overwrite (add_map m keys classes table) table)))
  adds = unless-crossed of_count refuse rs (border, table) _ (add_is m keys classes border table) call

  -- the first refusal that holds, or the number of maps; of the border only the length counts
  pub month-add-says : r ≡ answer refusing (add_refusals m keys (length classes) (length border) table) (values (maps_in table + 1) 0)
  month-add-says = guarded-says four rs (border, table) _ adds

  pub month-add-numbered : r.refusal ≤ 26
  month-add-numbered = told-most four _ refl (numbered-add m keys (length classes) (length border) table) month-add-says

  pub month-add-answered : (r.refusal ≡ 0) ↔ Addable m keys (length classes) (length border) table
  month-add-answered = told-when four _ refl (numbered-add m keys (length classes) (length border) table) month-add-says (add-addable m keys (length classes) (length border) table)

  -- a refused call leaves border and table as they were
  pub month-add-kept : (r.refusal ≡ 0 → ⊥) → (border' ≡ border) × (table' ≡ table)
  month-add-kept =
      told-kept four _ refl (numbered-add m keys (length classes) (length border) table) month-add-says
      (λ held. both-slices (guarded-kept four rs (border, table) _ adds held))

  -- an answered one writes the table with the map
  module _ (z : r.refusal ≡ 0) where
    passed : verdict rs ≡ Ok tt
    passed = (add-addable m keys (length classes) (length border) table).1 (month-add-answered.0 z)

    left : (border' ≡ spent (window_in table) border) × (table' ≡ overwrite (add_map m keys classes table) table)
    left = both-slices (guarded-leaves four rs (border, table) _ adds passed)

    pub month-add-table : table' ≡ overwrite (add_map m keys classes table) table
    month-add-table = left.1

    pub month-add-promise : MonthAddPromise m keys classes border table r border' table'
    month-add-promise =
        let A = month-add-answered.0 z in
        let s = sane-next m keys classes table table A.ongoing.sane A.ongoing.fewer in
        let cells = overwrite (add_map m keys classes table) table in
        let most = mul-le-mul s.few (pixels-most (window_in cells) (inside-12 A.sound.sizes.small s.inside)) in
        let n = map-length m keys classes table in
        rw month-add-table (record {
          number = month-add-says ∙ on-passed refusing rs _ passed;
          maps = next-maps m keys classes table table;
          same-m = next-m m keys classes table table ∙ sym A.ongoing.same;
          window = next-window m keys classes table table;
          rows = next_row m keys classes table table;
          sane = s;
          small = λ class l. omega (arith, s.sums class l, most);
          beyond = rw n at (drop-overwrite (add_map m keys classes table) table);
          border-after = left.0;
        })

  -- what it says, by the verdict
  pub month-add-number : {e : Refused} → verdict (add_refusals m keys (length classes) (length border) table) ≡ Err e → r.refusal ≡ of.number e.cause
  month-add-number e = ap (λ (x : Answer). x.refusal) (month-add-says ∙ on-refused refusing rs _ e)

-- old contents of the border change nothing: only its length counts for the answer and for the table
pub month-add-blind : (m : ℕ) (keys classes border other table : List ℕ) {border' other' table' table'' : List ℕ} {r s : Answer} → length border ≡ length other
    → MonthAdd m keys classes border table r border' table' → MonthAdd m keys classes other table s other' table'' → (r ≡ s) × (table' ≡ table'')
month-add-blind m keys classes border other table e one two = (
  month-add-says m keys classes border table one ∙ rw e (sym (month-add-says m keys classes other table two)),
  written border one ∙ rw e (sym (written other two)),
)
  where
    written : (lent : List ℕ) {lent' after : List ℕ} {a : Answer} → MonthAdd m keys classes lent table a lent' after
        → after ≡ answer (λ (c : Cause) (p : ℕ). table) (add_refusals m keys (length classes) (length lent) table) (overwrite (add_map m keys classes table) table)
    written lent call = ap (λ (x : List ℕ × List ℕ). x.1) call.cells ∙ add-table m keys classes lent table
