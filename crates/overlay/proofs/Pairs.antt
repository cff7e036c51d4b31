-- Both maps, by the verdicts of their checks; and what stands behind that.
-- Assumes nothing.
use mathlib.Core.Path.{◌≡◌, refl, sym, ap, ◌∙◌}
use mathlib.Core.Logic.{◌↔◌}
use mathlib.Core.Bool.{false, not}
use mathlib.Core.List.{List, []}
use Prim.Native.Nat.{ℕ}
use native.Mathlib.Decide.{ℕ_discrete}
use lib.ListN.{length}
use borrow.Author.Tests.{eq-eqb, ne_eqb}
use Rattle.std.specs.Prelude.{Result, Ok, Err, MatchResult, IsErrAnd}
use Rattle.std.proofs.lemmas.Result.{err_from_is_err_and}
use Rattle.answers.specs.declared.Cause.{Cause}
use Rattle.answers.specs.declared.Cause.TheVariants.{OtherM}
use Rattle.answers.specs.declared.Refused.{Refused}
use Rattle.answers.specs.Refusals.{refused, answer, verdict}
use Rattle.answers.specs.After.{After, after}
use Rattle.answers.proofs.Laws.{on-passed, on-refused, refusal-held, refusal-clear, answer-none}
use Rattle.map.specs.Check.{map_refusals_in, map_refusals}
use Rattle.map.specs.Sound.{SoundIn, SoundMap}
use Rattle.map.proofs.Laws.{sound-map}
use Rattle.window.specs.declared.Window.{Window}
use Rattle.exist.specs.Exist.{exist_in}
use Rattle.report.specs.Report.{report_in}
use Rattle.select.specs.Select.{select_keys}
use Rattle.pieces.specs.Pair.{Pair, class_over_map}
use Rattle.pieces.proofs.Laws.{pair-sound}
use Rattle.overlay.specs.declared.Layer.{Layer}
use Rattle.overlay.specs.declared.Layer.TheVariants.{Neither, Today, Baseline}
use Rattle.overlay.specs.declared.Unpaired.{Unpaired}
use Rattle.overlay.specs.Select.{class_selection}
use Rattle.overlay.specs.Overlay.{of_map, refuse_of, same_refusals, pairing, behind, of_both, over_pair, exist_over, report_over, select_over}

-- ---- a check whose refusals are told of a map

module _ {A : Type 0} {r : Result A Refused} {s : Result A Unpaired} {Q : Refused → Unpaired → Type 0} (map : Layer)
    (told : MatchResult r (λ x. s ≡ Ok x) (λ e. IsErrAnd s (Q e))) (says : (e : Refused) (u : Unpaired) → Q e u → u ≡ of_map map e) where
  -- it is refused so
  pub blamed : {u : Unpaired} → s ≡ Err u → (e : Refused) × (r ≡ Err e) × (u ≡ of_map map e)
  blamed {u} is = go r refl told
    where
      go : (t : Result A Refused) → r ≡ t → MatchResult t (λ x. s ≡ Ok x) (λ e. IsErrAnd s (Q e)) → (e : Refused) × (r ≡ Err e) × (u ≡ of_map map e)
      go (Ok x) d h = let z = sym is ∙ h in absurd cc
      go (Err e) d h = let z = err_from_is_err_and s h in let k : Err u ≡ Err z.0 = sym is ∙ z.1 in let q : u ≡ z.0 = cc in (e, d, q ∙ says e z.0 z.2)

  -- and passed
  pub cleared : {x : A} → s ≡ Ok x → r ≡ Ok x
  cleared {x} is = go r refl told
    where
      go : (t : Result A Refused) → r ≡ t → MatchResult t (λ y. s ≡ Ok y) (λ e. IsErrAnd s (Q e)) → r ≡ Ok x
      go (Ok y) d h = let z : ◌≡◌ {A = Result A Unpaired} (Ok y) (Ok x) = sym h ∙ is in cc
      go (Err e) d h = let z = sym is ∙ (err_from_is_err_and s h).1 in absurd cc

-- ---- refusal 15

module _ (m base_m : ℕ) where
  pub same-m : {A : Type 0} (refuse : Cause → ℕ → A) (a : A) → m ≡ base_m → answer refuse (same_refusals m base_m) a ≡ a
  unfolding same_refusals
  same-m refuse a e = refusal-clear refuse OtherM 0 [] a (ap not (eq-eqb m base_m e)) ∙ answer-none refuse a

  pub other-m : {A : Type 0} (refuse : Cause → ℕ → A) (a : A) → ¬ (m ≡ base_m) → answer refuse (same_refusals m base_m) a ≡ refuse OtherM 0
  unfolding same_refusals
  other-m refuse a d = refusal-held refuse OtherM 0 [] a (ap not (ne_eqb m base_m d))

-- ---- the three tables

module _ (m : ℕ) (keys : List ℕ) (classes base_m : ℕ) (base : List ℕ) (base_classes : ℕ) where
  pub today-refused : {e : Refused} → verdict (map_refusals_in false m keys classes) ≡ Err e → pairing m keys classes base_m base base_classes ≡ Err (of_map Today e)
  unfolding pairing
  today-refused e = on-refused (refuse_of Today) (map_refusals_in false m keys classes) _ e

  module _ (e : verdict (map_refusals_in false m keys classes) ≡ Ok tt) where
    pub base-refused : {e : Refused} → verdict (map_refusals base_m base base_classes) ≡ Err e → pairing m keys classes base_m base base_classes ≡ Err (of_map Baseline e)
    unfolding pairing
    base-refused d = on-passed (refuse_of Today) (map_refusals_in false m keys classes) _ e ∙ on-refused (refuse_of Baseline) (map_refusals base_m base base_classes) _ d

    module _ (d : verdict (map_refusals base_m base base_classes) ≡ Ok tt) where
      both : pairing m keys classes base_m base base_classes ≡ answer (refuse_of Neither) (same_refusals m base_m) (Ok tt)
      unfolding pairing
      both = on-passed (refuse_of Today) (map_refusals_in false m keys classes) _ e ∙ on-passed (refuse_of Baseline) (map_refusals base_m base base_classes) _ d

      pub m-refused : ¬ (m ≡ base_m) → pairing m keys classes base_m base base_classes ≡ refuse_of Neither OtherM 0
      m-refused f = both ∙ other-m m base_m (refuse_of Neither) (Ok tt) f

      pub pair-passed : m ≡ base_m → pairing m keys classes base_m base base_classes ≡ Ok tt
      pair-passed f = both ∙ same-m m base_m (refuse_of Neither) (Ok tt) f

  -- it is one of these
  pub data Told : Result Unit Unpaired → Type 0 where
    today : {e : Refused} → verdict (map_refusals_in false m keys classes) ≡ Err e → Told (Err (of_map Today e))
    baseline : {e : Refused} → SoundIn false m keys classes → verdict (map_refusals base_m base base_classes) ≡ Err e → Told (Err (of_map Baseline e))
    other_m : SoundIn false m keys classes → SoundMap base_m base base_classes → ¬ (m ≡ base_m) → Told (Err (of_map Neither (refused OtherM 0)))
    sound : SoundIn false m keys classes → SoundMap base_m base base_classes → m ≡ base_m → Told (Ok tt)

  pub pairing-told : Told (pairing m keys classes base_m base base_classes)
  pairing-told = first (verdict (map_refusals_in false m keys classes)) refl
    where
      third : verdict (map_refusals_in false m keys classes) ≡ Ok tt → verdict (map_refusals base_m base base_classes) ≡ Ok tt → Dec (m ≡ base_m)
          → Told (pairing m keys classes base_m base base_classes)
      third e d (yes f) = rw (pair-passed e d f) (sound ((sound-map m keys classes).0 e) ((sound-map base_m base base_classes).0 d) f)
      third e d (no f) = rw (m-refused e d f) (other_m ((sound-map m keys classes).0 e) ((sound-map base_m base base_classes).0 d) f)

      second : verdict (map_refusals_in false m keys classes) ≡ Ok tt → (v : Result Unit Refused) → verdict (map_refusals base_m base base_classes) ≡ v
          → Told (pairing m keys classes base_m base base_classes)
      second e (Ok u) d = third e d (ℕ_discrete m base_m)
      second e (Err r) d = rw (base-refused e d) (baseline ((sound-map m keys classes).0 e) d)

      first : (v : Result Unit Refused) → verdict (map_refusals_in false m keys classes) ≡ v → Told (pairing m keys classes base_m base base_classes)
      first (Ok u) e = second e (verdict (map_refusals base_m base base_classes)) refl
      first (Err r) e = rw (today-refused e) (today e)

  -- they can be laid over each other exactly when both are sound and of one m
  pub pairing-passed : (pairing m keys classes base_m base base_classes ≡ Ok tt) ↔ (SoundIn false m keys classes × SoundMap base_m base base_classes × (m ≡ base_m))
  pairing-passed = (
    λ e. go (rw e at pairing-told),
    λ t. pair-passed ((sound-map m keys classes).1 t.0) ((sound-map base_m base base_classes).1 t.1) t.2,
  )
    where
      go : Told (Ok tt) → SoundIn false m keys classes × SoundMap base_m base base_classes × (m ≡ base_m)
      go (sound S U f) = (S, U, f)

  pub paired : pairing m keys classes base_m base base_classes ≡ Ok tt → Pair m keys classes base base_classes
  paired e = let t = pairing-passed.0 e in pair-sound t.0 (rw (← t.2) at t.1)

-- ---- behind that

module _ {A : Type 0} (refuse : Unpaired → A) (a : A) {p : Result Unit Unpaired} where
  pub behind-refused : {e : Unpaired} → p ≡ Err e → behind refuse p a ≡ refuse e
  unfolding behind
  behind-refused e = rw e

  pub behind-passed : p ≡ Ok tt → behind refuse p a ≡ a
  unfolding behind
  behind-passed e = rw e

module _ {A B S : Type 0} (tell : A → Result B Unpaired) {p : Result Unit Unpaired} (lent : S) (o : After A S) where
  pub over-refused : {e : Unpaired} → p ≡ Err e → after (Err e) lent ≡ over_pair tell p lent o
  over-refused e = sym (behind-refused _ _ e)

  pub over-told : p ≡ Ok tt → {x : A} {left : S} → after x left ≡ o → after (tell x) left ≡ over_pair tell p lent o
  over-told e h = ap (λ (y : After A S). after (tell y.answer) y.lent) h ∙ sym (behind-passed _ _ e)

-- ---- the operations

module _ (m : ℕ) (keys classes : List ℕ) (base_m : ℕ) (base base_classes : List ℕ) (W : Window) where
  pub exist-over-is : (class : ℕ) (border : List ℕ) → exist_over m keys classes base_m base base_classes W class border
      ≡ over_pair of_both (pairing m keys (length classes) base_m base (length base_classes)) border
      (exist_in false (class_over_map m keys classes base base_classes) m keys (length classes) W class border)
  unfolding exist_over
  exist-over-is class border = refl

  pub report-over-is : (border out : List ℕ) → report_over m keys classes base_m base base_classes W border out
      ≡ over_pair of_both (pairing m keys (length classes) base_m base (length base_classes)) (border, out)
      (report_in false (class_over_map m keys classes base base_classes) m keys (length classes) W border out)
  unfolding report_over
  report-over-is border out = refl

  pub select-over-is : (class : ℕ) (border out : List ℕ) → select_over m keys classes base_m base base_classes W class border out
      ≡ over_pair of_both (pairing m keys (length classes) base_m base (length base_classes)) (border, out)
      (select_keys false (class_selection m (class_over_map m keys classes base base_classes) W class) m m keys (length classes) W border out)
  unfolding select_over
  select-over-is class border out = refl
