-- `month::add` meets its contract: what is counted goes into the rows, and `grown-stored` says that this is the table with the map.
use mathlib.Core.Path.{◌≡◌, refl, sym, ◌∙◌}
use mathlib.Core.Bool.{true}
use mathlib.Core.List.{List}
use Prim.Native.Nat.{ℕ}
use native.Mathlib.Omega.{arith}
use Rattle.std.specs.Prelude.{Ok}
use Rattle.answers.specs.Refusals.{verdict}
use Rattle.answers.proofs.Laws.{on-passed, on-refused, handed-on}
use Rattle.window.specs.declared.Window.{Window}
use Rattle.window.proofs.Laws.{inside-12}
use Rattle.used.specs.Used.{use_refusals}
use Rattle.used.proofs.Laws.{use-answerable, use-known, use-same, use-whole}
use Rattle.month.specs.Month.{window_in}
use Rattle.month.specs.Narrow.{narrowed}
use Rattle.month.specs.Promises.{Addable}
use Rattle.month.proofs.Sanity.{narrowed-inside}
use Rattle.month.proofs.Tables.{add-addable}
use Rattle.month.proofs.Adding.{grown-stored, stored-fits, add_is}
use Rattle.month.proofs.add.Goals as goal

pub returns-in_err-addable : goal.returns-in_err-addable
returns-in_err-addable c = rw (handed-on c.from_residual.ensures) (sym (add_is _ _ _ _ _ ∙ on-refused _ _ _ (sym c.addable.ensures ∙ c.in_err-addable.was)))

-- where nothing is refused, the window is the table's, and map and window can be used
module _ {m : ℕ} {keys : List ℕ} {classes border : ℕ} {table : List ℕ} (A : Addable m keys classes border table) where
  exact : {W : Window} → W ≡ narrowed (window_in table) → W ≡ window_in table
  exact e = e ∙ narrowed-inside (inside-12 A.sound.sizes.small A.ongoing.sane.inside)

  used : verdict (use_refusals m keys classes (window_in table) border) ≡ Ok tt
  used = (use-answerable true _ _ _ _ _).1 (record { sound = A.sound; inside = A.ongoing.sane.inside; wide = A.wide })

pub window_in-requires : goal.window_in-requires
window_in-requires c = ((add-addable _ _ _ _ _).0 (sym c.addable.ensures ∙ c.in_ok-addable.was)).ongoing.long

pub count-requires : goal.count-requires
count-requires c =
    let A = (add-addable _ _ _ _ _).0 (sym c.addable.ensures ∙ c.in_ok-addable.was) in
    (rw (exact A c.window_in.ensures) (use-known true _ _ _ _ _ (used A)), use-same true _ _ _ _ _ (used A), refl, use-whole _ _ _ _ _ (used A))

pub bounds-table-5 : goal.bounds-table-5
bounds-table-5 c = omega (arith, ((add-addable _ _ _ _ _).0 (sym c.addable.ensures ∙ c.in_ok-addable.was)).ongoing.long)

pub overflow_add-table : goal.overflow_add-table
overflow_add-table c = omega (arith, ((add-addable _ _ _ _ _).0 (sym c.addable.ensures ∙ c.in_ok-addable.was)).ongoing.fewer)

pub bounds-table-5-2 : goal.bounds-table-5-2
bounds-table-5-2 c = omega (arith, ((add-addable _ _ _ _ _).0 (sym c.addable.ensures ∙ c.in_ok-addable.was)).ongoing.long)

pub add_rows-requires : goal.add_rows-requires
add_rows-requires c =
    let A = (add-addable _ _ _ _ _).0 (sym c.addable.ensures ∙ c.in_ok-addable.was) in
    stored-fits _ c.args.keys.now c.args.classes.now _ A.ongoing.long A.ongoing.same A.sound.sizes.small A.ongoing.sane (rw (← exact A c.window_in.ensures) c.count.ensures.0)

pub overflow_add-result : goal.overflow_add-result
overflow_add-result c = omega (arith, ((add-addable _ _ _ _ _).0 (sym c.addable.ensures ∙ c.in_ok-addable.was)).ongoing.fewer)

pub overflow_cast-result : goal.overflow_cast-result
overflow_cast-result c = omega (arith, ((add-addable _ _ _ _ _).0 (sym c.addable.ensures ∙ c.in_ok-addable.was)).ongoing.fewer)

pub returns : goal.returns
returns c =
    let ok = sym c.addable.ensures ∙ c.in_ok-addable.was in
    let A = (add-addable _ _ _ _ _).0 ok in
    let W = exact A c.window_in.ensures in
    let grown = c.add_rows.ensures ∙ grown-stored _ _ _ _ A.ongoing.long A.ongoing.same (rw (← W) c.count.ensures.0) in
    rw (c.count.ensures.1, W, grown) (sym (add_is _ _ _ _ _ ∙ on-passed _ _ _ ok))
