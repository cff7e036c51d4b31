-- A row of calls on one table: after a clearing call that is answered and any adding ones, the table is that of the maps for which they were answered.
-- Assumes nothing.
use mathlib.Core.Path.{◌≡◌, refl, sym, ap, subst, ◌∙◌}
use mathlib.Core.Logic.{◌↔◌}
use mathlib.Core.List.{List, [], ◌∷◌, ◌++◌}
use Prim.Native.Nat.{ℕ, ◌≤◌}
use native.Mathlib.Omega.{arith}
use lib.ListN.{length}
use Rattle.answers.specs.Refusals as of
use Rattle.std.specs.Prelude.{Result, Ok, Err}
use Rattle.answers.specs.declared.Refused.{Refused}
use Rattle.answers.specs.Refusals.{Refusal, verdict}
use Rattle.answers.specs.Cells.{overwrite}
use Rattle.answers.proofs.Laws.{overwrite-length}
use Rattle.window.specs.declared.Window.{Window}
use Rattle.window.specs.Window.{Inside}
use Rattle.map.specs.Sound.{SoundMap}
use Rattle.month.specs.Month.{m_in, maps_in, add_refusals}
use Rattle.month.specs.Promises.{Map, month_of, Sane}
use Rattle.month.proofs.Laws.{add-addable, month-next, month-over, month-length, month-m, month-maps, sane-none, sane-next, Outcome, unsound, other, full, narrow, taken, outcome}
use Rattle.lutniorad.specs.declared.Answer.{Answer}
use Rattle.lutniorad.specs.Calls.{MonthAdd}
use Rattle.lutniorad.specs.MonthPromises.{MonthRow, cleared, added, refused}
use Rattle.lutniorad.proofs.Months.{month-clear-answered, month-clear-promise, month-add-answered, month-add-kept, month-add-table, month-add-number}

-- a map that is taken has the m of the table
own : {m : ℕ} (table : List ℕ) → m_in table ≡ m → (k : ℕ) (keys classes border : List ℕ) {border' table' : List ℕ} {r : Answer}
    → MonthAdd k keys classes border table r border' table' → r.refusal ≡ 0 → k ≡ m
own table size k keys classes border call z = sym ((month-add-answered k keys classes border table call).0 z).ongoing.same ∙ size

module _ {m : ℕ} {W : Window} {old : List ℕ} where
  -- the clearing call was answered
  begun : {maps : List Map} {table : List ℕ} → MonthRow m W old maps table → (m ≤ 12) × Inside m W × (1030 ≤ length old)
  begun (cleared call z) = (month-clear-answered m W old call).0 z
  begun (added row k keys classes border call z) = begun row
  begun (refused row k keys classes border call held) = begun row

  -- the table is that of the maps, and cells beyond it keep their content
  pub month-table : {maps : List Map} {table : List ℕ} → MonthRow m W old maps table → table ≡ overwrite (month_of m W maps) old
  month-table (cleared call z) = (month-clear-promise m W old call z).cells
  month-table (added {maps} {table} row k keys classes border call z) =
      let ih = month-table row in
      let same = own table (ap m_in ih ∙ month-m m W maps old) k keys classes border call z in
      let next = month-next m W maps old keys classes in
      month-add-table k keys classes border table call z
      ∙ rw (same, ih, next) (month-over m W maps old (maps ++ (keys, classes) ∷ []))
  month-table (refused {maps} {table} row k keys classes border call held) = (month-add-kept k keys classes border table call held).1 ∙ month-table row

  -- 26 lets it pass
  pub month-sane : {maps : List Map} {table : List ℕ} → MonthRow m W old maps table → Sane m table
  month-sane (cleared call z) = rw (month-clear-promise m W old call z).cells (sane-none m W old ((month-clear-answered m W old call).0 z).1)
  month-sane (added {maps} {table} row k keys classes border call z) =
      let same = own table (ap m_in (month-table row) ∙ month-m m W maps old) k keys classes border call z in
      let fewer = ((month-add-answered k keys classes border table call).0 z).ongoing.fewer in
      rw (month-add-table k keys classes border table call z, same) (sane-next m keys classes table table (month-sane row) fewer)
  month-sane (refused {maps} {table} row k keys classes border call held) = rw (month-add-kept k keys classes border table call held).1 (month-sane row)

  module _ {maps : List Map} {table : List ℕ} (row : MonthRow m W old maps table) where
    size : m_in table ≡ m
    size = ap m_in (month-table row) ∙ month-m m W maps old

    count : maps_in table ≡ length maps
    count = ap maps_in (month-table row) ∙ month-maps m W maps old

    long : 1030 ≤ length table
    long = let n = month-length m W maps in let b = (begun row).2 in omega (arith, ap length (month-table row), overwrite-length (month_of m W maps) old (omega (arith, n, b)), b)

    pub month-most : length maps ≤ 1000
    month-most = omega (arith, (month-sane row).few, count)

    module _ (k : ℕ) (keys classes border : List ℕ) {border' table' : List ℕ} {r : Answer} (call : MonthAdd k keys classes border table r border' table') where
      abbrev rs : List Refusal
      rs = add_refusals k keys (length classes) (length border) table

      said : Outcome k keys (length classes) (length border) table (verdict rs)
      said = outcome k keys (length classes) (length border) table long (subst (λ (n : ℕ). Sane n table) (sym size) (month-sane row))

      number : {e : Refused} → verdict rs ≡ Err e → r.refusal ≡ of.number e.cause
      number e = month-add-number k keys classes border table call e

      none : verdict rs ≡ Ok tt → r.refusal ≡ 0
      none e = (month-add-answered k keys classes border table call).1 ((add-addable k keys (length classes) (length border) table).0 e)

      -- it is never refused by 26
      pub month-not-26 : r.refusal ≡ 26 → ⊥
      month-not-26 z = go (verdict rs) refl said
        where
          go : (v : Result Unit Refused) → verdict rs ≡ v → Outcome k keys (length classes) (length border) table v → ⊥
          go v e (unsound l h) = omega (arith, number e, l, z)
          go v e (other d) = omega (arith, number e, z)
          go v e (full S own all) = omega (arith, number e, z)
          go v e (narrow few) = omega (arith, number e, z)
          go v e (taken few) = omega (arith, none e, z)

      -- and by 16 exactly where a sound map of its m meets a thousand maps
      pub month-full : (r.refusal ≡ 16) ↔ (SoundMap k keys (length classes) × (k ≡ m) × (length maps ≡ 1000))
      month-full = (λ z. to (verdict rs) refl said z, λ t. from (verdict rs) refl said t)
        where
          to : (v : Result Unit Refused) → verdict rs ≡ v → Outcome k keys (length classes) (length border) table v → r.refusal ≡ 16
              → SoundMap k keys (length classes) × (k ≡ m) × (length maps ≡ 1000)
          to v e (unsound l h) z = absurd (omega (arith, number e, l, z))
          to v e (other d) z = absurd (omega (arith, number e, z))
          to v e (full S own all) z = (S, sym own ∙ size, sym count ∙ all)
          to v e (narrow few) z = absurd (omega (arith, number e, z))
          to v e (taken few) z = absurd (omega (arith, none e, z))

          from : (v : Result Unit Refused) → verdict rs ≡ v → Outcome k keys (length classes) (length border) table v → SoundMap k keys (length classes) × (k ≡ m) × (length maps ≡ 1000)
              → r.refusal ≡ 16
          from v e (unsound l h) (S, own, all) = absurd (h S)
          from v e (other d) (S, own, all) = absurd (d (size ∙ sym own))
          from v e (full S' own' all') t = number e
          from v e (narrow few) (S, own, all) = absurd (omega (arith, few, count, all))
          from v e (taken few) (S, own, all) = absurd (omega (arith, few, count, all))
