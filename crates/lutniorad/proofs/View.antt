-- Answers tell nothing of the rest of the map: two calls on maps with the same view through the window, from their contracts alone, whatever stood in their slices.
-- Assumes nothing.
use mathlib.Core.Path.{◌≡◌, sym, ap, ap₂, ◌∙◌}
use mathlib.Core.Logic.{◌↔◌}
use mathlib.Core.Bool.{true}
use mathlib.Core.List.{List, [], map}
use Prim.Native.Nat.{ℕ, ◌+◌, ◌*◌, ◌≤◌, ◌<◌}
use native.Mathlib.Omega.{arith}
use lib.ListN.{length, get_or, take, drop}
use Rattle.answers.specs.Cells.{overwrite}
use Rattle.answers.proofs.Laws.{overwrite-at}
use Rattle.window.specs.declared.Window.{Window}
use Rattle.map.specs.Classes.{class_in}
use Rattle.map.proofs.Laws.{spaced}
use Rattle.border.specs.Openings.{Opening, openings, handed_count, cells_of}
use Rattle.border.specs.Promises.{openings_in}
use Rattle.border.specs.ViewPromises.{SameView, opening_in, brought}
use Rattle.border.proofs.Laws.{cells-length, openings-tell, openings-numbers, brought-length, brought-at}
use Rattle.used.specs.Promises.{Answerable}
use Rattle.many.specs.Many.{window_at, line_cells}
use Rattle.many.proofs.Laws.{line_view}
use Rattle.exist.proofs.Laws.{presence-view}
use Rattle.totals.proofs.Laws.{total-view}
use Rattle.select.specs.Select.{selection}
use Rattle.select.proofs.Laws.{selection-view}
use Rattle.month.specs.Month.{window_in}
use Rattle.month.proofs.Laws.{map-totals}
use Rattle.lutniorad.specs.declared.Answer.{Answer}
use Rattle.lutniorad.specs.Numbers.{values, existence_values}
use Rattle.lutniorad.specs.Calls.{OpenTiled, Windows, Exist, Report, SelectTiled, MonthAdd}
use Rattle.lutniorad.specs.ViewPromises.{SameOpened}
use Rattle.lutniorad.proofs.Answered.{exist-answered}
use Rattle.lutniorad.proofs.Opening.{open-answered, open-leaves, open-stand}
use Rattle.lutniorad.proofs.Windows.{windows-answered, windows-number, line_at}
use Rattle.lutniorad.proofs.Asked.{exist-three, report-answered, report-promise}
use Rattle.lutniorad.proofs.Selecting.{select-answered, select-promise}
use Rattle.lutniorad.proofs.Months.{month-add-answered, month-add-promise, month-add-table}

-- ---- opening

-- opening j of the cells that an answered call leaves, by what it brings
left_at : (m top : ℕ) (keys classes : List ℕ) (W : Window) (border out : List ℕ) {r : Answer} {border' out' : List ℕ} → OpenTiled m top keys classes W border out r border' out'
    → r.refusal ≡ 0 → (j : ℕ) → j < length (openings m top keys W)
    → brought keys classes (opening_in out' j) ≡ get_or (map (brought keys classes) (openings m top keys W)) j (0, [])
left_at m top keys classes W border out {out' = out'} call z j l = ap (brought keys classes) same ∙ sym (brought-at keys classes os j l)
  where
    os : List Opening
    os = openings m top keys W

    cell : (i : ℕ) → i < 3 * length os → get_or out' i 0 ≡ get_or (cells_of os) i 0
    cell i h =
        ap (λ (x : List ℕ). get_or x i 0) (open-leaves true m top keys classes W border out call z).2
        ∙ overwrite-at (cells_of os) out i (omega (arith, h, cells-length os))

    same : opening_in out' j ≡ opening_in (cells_of os) j
    same = rw (cell (3 * j) (omega arith), cell (3 * j + 1) (omega arith), cell (3 * j + 2) (omega arith))

module _ (m top : ℕ) (keys classes keys' classes' : List ℕ) (W : Window) (border out other older : List ℕ) {r r' : Answer} {border' out' other' older' : List ℕ}
    (call : OpenTiled m top keys classes W border out r border' out') (z : r.refusal ≡ 0)
    (call' : OpenTiled m top keys' classes' W other older r' other' older') (z' : r'.refusal ≡ 0) where
  abbrev os : List Opening
  os = openings m top keys W

  abbrev os' : List Opening
  os' = openings m top keys' W

  cap : top ≤ m
  cap = ((open-answered true m top keys classes W border out call).0 z).0

  A : Answerable m keys (length classes) W (length border)
  A = ((open-answered true m top keys classes W border out call).0 z).1.0

  A' : Answerable m keys' (length classes') W (length other)
  A' = ((open-answered true m top keys' classes' W other older call').0 z').1.0

  tell : (map (brought keys classes) os ≡ map (brought keys' classes') os') ↔ SameView m keys classes keys' classes' W
  tell = openings-tell (spaced A.sound.records) (spaced A'.sound.records) A.inside cap classes classes'

  -- with the records themselves in place of the first indices, the openings tell the view, and nothing else
  pub open-tells : (map (brought keys classes) (openings_in (take (3 * r.first) out')) ≡ map (brought keys' classes') (openings_in (take (3 * r'.first) older')))
      ↔ SameView m keys classes keys' classes' W
  open-tells = rw (open-stand true m top keys classes W border out call z, open-stand true m top keys' classes' W other older call' z') tell

  pub open-view : SameView m keys classes keys' classes' W → SameOpened keys classes keys' classes' r r' out' older'
  open-view same = record {
    numbers = says ∙ ap₂ values n.0 n.1 ∙ sym (open-leaves true m top keys' classes' W other older call' z').0;
    opened = λ j l. ap (λ (x : ℕ × List (ℕ × ℕ)). x.0) (one j l);
    counts = λ j l.
        sym (brought-length keys classes (opening_in out' j)) ∙ ap (λ (x : ℕ × List (ℕ × ℕ)). length x.1) (one j l) ∙ brought-length keys' classes' (opening_in older' j);
    brings = one;
  }
    where
      says : r ≡ values (length os) (handed_count os)
      says = (open-leaves true m top keys classes W border out call z).0

      n : (length os ≡ length os') × (handed_count os ≡ handed_count os')
      n = openings-numbers (spaced A.sound.records) (spaced A'.sound.records) A.inside cap same

      one : (j : ℕ) → j < r.first → brought keys classes (opening_in out' j) ≡ brought keys' classes' (opening_in older' j)
      one j l =
          let h : j < length os = omega (arith, l, ap (λ (x : Answer). x.first) says) in
          left_at m top keys classes W border out call z j h
          ∙ ap (λ (x : List (ℕ × List (ℕ × ℕ))). get_or x j (0, [])) (tell.1 same)
          ∙ sym (left_at m top keys' classes' W other older call' z' j (omega (arith, h, n.0)))

-- ---- the others

module _ {m : ℕ} {keys classes keys' classes' : List ℕ} {W : Window} (same : SameView m keys classes keys' classes' W) where
  -- the same answer of exist: yes, no or can't tell
  pub exist-view : (class : ℕ) (border other : List ℕ) {r r' : Answer} {border' other' : List ℕ}
      → Exist m keys classes W class border r border' → r.refusal ≡ 0 → Exist m keys' classes' W class other r' other' → r'.refusal ≡ 0 → r ≡ r'
  exist-view class border other call z call' z' =
      let A = (exist-answered true (class_in m keys classes) m keys classes W class border call).0 z in
      let A' = (exist-answered true (class_in m keys' classes') m keys' classes' W class other call').0 z' in
      exist-three true (class_in m keys classes) m keys classes W class border call z
      ∙ ap existence_values (presence-view A.sound.records A'.sound.records A.inside same class)
      ∙ sym (exist-three true (class_in m keys' classes') m keys' classes' W class other call' z')

  -- the same 256 cells of report
  pub report-view : (border out other older : List ℕ) {r r' : Answer} {border' out' other' older' : List ℕ}
      → Report m keys classes W border out r border' out' → r.refusal ≡ 0 → Report m keys' classes' W other older r' other' older' → r'.refusal ≡ 0
      → (r ≡ r') × ((k : ℕ) → k < 256 → get_or out' k 0 ≡ get_or older' k 0)
  report-view border out other older call z call' z' =
      let A = ((report-answered true (class_in m keys classes) m keys classes W border out call).0 z).0 in
      let A' = ((report-answered true (class_in m keys' classes') m keys' classes' W other older call').0 z').0 in
      let P = report-promise true (class_in m keys classes) m keys classes W border out call z in
      let P' = report-promise true (class_in m keys' classes') m keys' classes' W other older call' z' in
      (P.number ∙ sym P'.number, λ k l. P.cells k l ∙ total-view A.sound.records A'.sound.records A.inside same k ∙ sym (P'.cells k l))

  -- the same keys selected, in the same order
  pub select-view : (top class : ℕ) (border out other older : List ℕ) {r r' : Answer} {border' out' other' older' : List ℕ}
      → SelectTiled m top keys classes W class border out r border' out' → r.refusal ≡ 0
      → SelectTiled m top keys' classes' W class other older r' other' older' → r'.refusal ≡ 0 → (r ≡ r') × (take r.first out' ≡ take r'.first older')
  select-view top class border out other older call z call' z' =
      let A = (select-answered true (selection m top keys classes W class) m top keys classes W border out call).0 z in
      let A' = (select-answered true (selection m top keys' classes' W class) m top keys' classes' W other older call').0 z' in
      let P = select-promise m top keys classes W class border out call z in
      let P' = select-promise m top keys' classes' W class other older call' z' in
      let ks = selection-view (spaced A.1.0.sound.records) (spaced A'.1.0.sound.records) A.1.0.inside A.0 same class in
      let all = P.in_order ∙ ks ∙ sym P'.in_order in
      (P.states.number ∙ ap (λ (xs : List ℕ). values (length xs) 0) all ∙ sym P'.states.number, all)

-- of many windows, the same line for each through which the view is the same
pub windows-view : (m : ℕ) (keys classes keys' classes' windows border out other older : List ℕ) {r r' : Answer} {border' out' other' older' : List ℕ}
    → Windows m keys classes windows border out r border' out' → r.refusal ≡ 0 → Windows m keys' classes' windows other older r' other' older' → r'.refusal ≡ 0
    → (r ≡ r') × ((i : ℕ) → i < r.first → SameView m keys classes keys' classes' (window_at windows i) → take 5 (drop (5 * i) out') ≡ take 5 (drop (5 * i) older'))
windows-view m keys classes keys' classes' windows border out other older {r} {r'} call z call' z' =
    let A = (windows-answered m keys classes windows border out call).0 z in
    let A' = (windows-answered m keys' classes' windows other older call').0 z' in
    let e : r ≡ r' = windows-number m keys classes windows border out call z ∙ sym (windows-number m keys' classes' windows other older call' z') in (
      e,
      λ i l same.
          line_at m keys classes windows border out call z i l
          ∙ ap line_cells (line_view (spaced A.sound.records) (spaced A'.sound.records) same)
          ∙ sym (line_at m keys' classes' windows other older call' z' i (omega (arith, l, ap (λ (x : Answer). x.first) e))),
    )

-- and a month's table takes the same from either, where the view through its window is the same
pub month-add-view : (m : ℕ) (keys classes keys' classes' border other table : List ℕ) {r r' : Answer} {border' other' table' table'' : List ℕ}
    → MonthAdd m keys classes border table r border' table' → r.refusal ≡ 0 → MonthAdd m keys' classes' other table r' other' table'' → r'.refusal ≡ 0
    → SameView m keys classes keys' classes' (window_in table) → (r ≡ r') × (table' ≡ table'')
month-add-view m keys classes keys' classes' border other table call z call' z' same =
    let A = (month-add-answered m keys classes border table call).0 z in
    let A' = (month-add-answered m keys' classes' other table call').0 z' in
    let P = month-add-promise m keys classes border table call z in
    let P' = month-add-promise m keys' classes' other table call' z' in
    let one = map-totals m keys classes keys' classes' table (total-view A.sound.records A'.sound.records A.ongoing.sane.inside same) in (
      P.number ∙ sym P'.number,
      month-add-table m keys classes border table call z ∙ ap (λ (cells : List ℕ). overwrite cells table) one ∙ sym (month-add-table m keys' classes' other table call' z'),
    )
