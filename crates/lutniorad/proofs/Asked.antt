-- What exist and report promise, from the contract of the call alone.
-- Assumes nothing.
use mathlib.Core.Path.{◌≡◌, refl, sym, ap, ◌∙◌}
use mathlib.Core.Logic.{◌↔◌}
use mathlib.Core.Bool.{Bool, true, false, cond}
use mathlib.Core.List.{List, ◌++◌}
use Prim.Native.Nat.{ℕ, ◌*◌, ◌≤◌}
use native.Mathlib.Omega.{arith}
use lib.ListN.{length, get_or, take}
use lib.Seq.{get_or-take}
use Rattle.std.specs.Prelude.{Ok}
use Rattle.lists.specs.Promises.{sum}
use Rattle.lists.proofs.Laws.{never}
use Rattle.answers.specs.Refusals.{answer, verdict, refuse}
use Rattle.answers.specs.After.{after, room_refusals}
use Rattle.answers.proofs.Laws.{on-passed, take-overwrite, drop-overwrite}
use Rattle.window.specs.declared.Window.{Window}
use Rattle.window.specs.Rules.{exists_by, totals_by}
use Rattle.window.proofs.Laws.{exists-by-means, totals-by-length, totals-by-at, totals-by-sum}
use Rattle.map.specs.Classes.{not_seen}
use Rattle.used.specs.Used.{use_refusals_in, used_in}
use Rattle.used.specs.Promises.{AnswerableIn}
use Rattle.used.proofs.Laws.{use-answerable}
use Rattle.exist.specs.Exist.{presence_by}
use Rattle.exist.specs.declared.Existence.TheVariants as existence
use Rattle.exist.proofs.Laws.{presence-is, exist-leaves}
use Rattle.report.proofs.Laws.{report-is}
use Rattle.lutniorad.specs.declared.Answer.{Answer}
use Rattle.lutniorad.specs.Numbers.{values, refusing, existence_values, of_count}
use Rattle.lutniorad.specs.Calls.{ExistIn, ReportIn}
use Rattle.lutniorad.specs.Promises.{RefusalLeaves, ExistPromiseBy, ReportPromiseBy}
use Rattle.lutniorad.proofs.Answered.{exist-says, exist-answered}
use Rattle.lutniorad.proofs.Using.{used-crossed, used-says, used-numbered, used-answered, used-leaves, used-kept}

-- ---- exist

-- an answer is one number, and no other
module _ {r : Answer} {k : ℕ} (e : r ≡ values k 0) where
  this : {P : Type 0} → P → (r ≡ values k 0) ↔ P
  this p = (λ d. p, λ s. e)

  number : r.first ≡ k
  number = ap (λ (x : Answer). x.first) e

  one_number : k ≤ 2 → (r.first ≤ 2) × (r ≡ values r.first 0)
  one_number small = (omega (arith, number), e ∙ ap (λ (n : ℕ). values n 0) (sym number))

  other : (i : ℕ) {P : Type 0} → (k ≡ i → ⊥) → ¬ P → (r ≡ values i 0) ↔ P
  other i apart none = (λ d. absurd (apart (sym number ∙ ap (λ (x : Answer). x.first) d)), λ s. absurd (none s))

-- the three answers, from what is known of the class and of what was not seen
three : {A B : Type 0} {r : Answer} (a b : Bool) → (a ≡ true) ↔ A → (b ≡ true) ↔ B → r ≡ existence_values (cond a existence.Yes (cond b existence.CannotTell existence.No))
    → ((r ≡ values 1 0) ↔ A) × ((r ≡ values 2 0) ↔ ((¬ A) × B)) × ((r ≡ values 0 0) ↔ ((¬ A) × (¬ B))) × ((r.first ≤ 2) × (r ≡ values r.first 0))
three {A} true b is-a is_b e =
    let has : A = is-a.0 refl in
    (this e has, other e 2 (λ d. omega (arith, d)) (λ s. s.0 has), other e 0 (λ d. omega (arith, d)) (λ s. s.0 has), one_number e (omega arith))
three {A} {B} false true is-a is_b e =
    let none : ¬ A = λ s. never (sym (is-a.1 s)) in
    let unseen : B = is_b.0 refl in
    (other e 1 (λ d. omega (arith, d)) none, this e (none, unseen), other e 0 (λ d. omega (arith, d)) (λ s. s.1 unseen), one_number e (omega arith))
three {A} {B} false false is-a is_b e =
    let none : ¬ A = λ s. never (sym (is-a.1 s)) in
    let seen : ¬ B = λ s. never (sym (is_b.1 s)) in
    (other e 1 (λ d. omega (arith, d)) none, other e 2 (λ d. omega (arith, d)) (λ s. seen s.1), this e (none, seen), one_number e (omega arith))

module _ (whole : Bool) (rule : ℕ → ℕ) (m : ℕ) (keys classes : List ℕ) (W : Window) (class : ℕ) (border : List ℕ) {border' : List ℕ} {r : Answer}
    (call : ExistIn whole rule m keys classes W class border r border') (z : r.refusal ≡ 0) where
  passed : verdict (use_refusals_in whole m keys (length classes) W (length border)) ≡ Ok tt
  passed = (use-answerable whole m keys (length classes) W (length border)).1 ((exist-answered whole rule m keys classes W class border call).0 z)

  -- an answered call says one of the three
  pub exist-three : r ≡ existence_values (presence_by rule W class)
  exist-three = exist-says whole rule m keys classes W class border call ∙ on-passed refusing _ _ passed

  pub exist-promise : ExistPromiseBy rule W class border r border'
  exist-promise =
      let said = exist-three ∙ ap existence_values (presence-is rule W class) in
      let means = exists-by-means rule W in
      let t = three (exists_by rule W class) (exists_by rule W not_seen) (means class) (means not_seen) said in
      record {
        yes = t.0;
        cannot-tell = t.1;
        no = t.2;
        one_of = t.3;
        certain = λ e d. let s = t.1.0 d in s.0 (rw e s.1);
        border-after = call.cells ∙ exist-leaves whole rule m keys (length classes) W class border passed;
      }

-- ---- report

module _ (whole : Bool) (rule : ℕ → ℕ) (m : ℕ) (keys classes : List ℕ) (W : Window) (border out : List ℕ) {r : Answer} {border' out' : List ℕ}
    (call : ReportIn whole rule m keys classes W border out r border' out') where
  abbrev counts : List ℕ
  counts = totals_by rule W

  -- the call in numbers
  reported : after r (border', out') ≡ used_in whole refusing (values (W.h * W.w) 0) counts m keys (length classes) W border out
  reported =
      let done = Ok (W.h * W.w) in
      used-crossed whole of_count refuse done counts m keys (length classes) W border out (report-is whole rule m keys (length classes) W border out) call

  pub report-says : r
      ≡ answer refusing (use_refusals_in whole m keys (length classes) W (length border) ++ room_refusals (length out) (length counts)) (values (W.h * W.w) 0)
  report-says = used-says whole (W.h * W.w) 0 counts m keys (length classes) W border out reported

  -- answered exactly when the map is sound, the window inside, the border has w cells and the slice 256
  pub report-answered : (r.refusal ≡ 0) ↔ (AnswerableIn whole m keys (length classes) W (length border) × (256 ≤ length out))
  report-answered = rw (totals-by-length rule W) at (used-answered whole (W.h * W.w) 0 counts m keys (length classes) W border out reported)

  pub report-numbered : r.refusal ≤ 8
  report-numbered = used-numbered whole (W.h * W.w) 0 counts m keys (length classes) W border out reported

  pub report-kept : (r.refusal ≡ 0 → ⊥) → RefusalLeaves W border out r border' out'
  report-kept = used-kept whole (W.h * W.w) 0 counts m keys (length classes) W border out reported

  pub report-promise : r.refusal ≡ 0 → ReportPromiseBy rule W border out r border' out'
  report-promise z =
      let left = used-leaves whole (W.h * W.w) 0 counts m keys (length classes) W border out reported z in
      let n = totals-by-length rule W in
      let stand : take 256 out' ≡ counts = rw (left.2, ← n) (take-overwrite counts out) in
      record {
        number = left.0;
        cells = λ k l. sym (get_or-take 256 out' k 0 l) ∙ ap (λ (xs : List ℕ). get_or xs k 0) stand ∙ totals-by-at rule W k l;
        together = λ small. ap sum stand ∙ totals-by-sum rule W small;
        beyond = rw (left.2, ← n) (drop-overwrite counts out);
        border-after = left.1;
      }
