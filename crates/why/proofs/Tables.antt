-- What is answered and left behind the refusals, and the refusals 19 and 22.
-- Assumes nothing.
use mathlib.Core.Path.{◌≡◌, refl, sym, ap, ◌∙◌}
use mathlib.Core.Logic.{◌↔◌}
use mathlib.Core.Bool.{Bool, true, not, not-not}
use mathlib.Core.List.{List, ◌++◌, Memᴰ}
use Prim.Native.Nat.{ℕ, ◌≤◌, ◌<◌}
use native.Mathlib.Omega.{arith}
use lib.Dec.{eqb, leb}
use lib.ListN.{length}
use borrow.Author.Tests.{leb-true, leb-false, le-leb, lt-leb, eqb-true, eq-eqb}
use Rattle.lists.specs.Lists.{any}
use Rattle.lists.proofs.Laws.{never, refuted, any-has, has-any}
use Rattle.std.specs.Prelude.{Ok, Err}
use Rattle.answers.specs.declared.Cause.{Cause}
use Rattle.answers.specs.declared.Cause.TheVariants.{NoRecord, NotMaximal}
use Rattle.answers.specs.declared.Refused.{Refused}
use Rattle.answers.specs.Refusals.{Refusal, answer, refuse, number, verdict}
use Rattle.answers.specs.After.{after, unless}
use Rattle.answers.proofs.Laws.{refusal-held, on-passed, append-passed, append-refused, on-refused, passed-one, passed-append, Numbered, none, numbered_next, number-last}
use Rattle.window.specs.declared.Window.{Window}
use Rattle.window.specs.Keys.{keys_of}
use Rattle.used.specs.Used.{use_refusals, spent}
use Rattle.why.specs.declared.Why.{Why}
use Rattle.why.specs.Why.{index_refusals, key_refusals, why_for}

-- ---- behind refusals 1 to 7, and one more

module _ (more : List Refusal) (said : Why) (m : ℕ) (keys : List ℕ) (classes : ℕ) (W : Window) (border : List ℕ) where
  abbrev uses : List Refusal
  uses = use_refusals m keys classes W (length border)

  pub why-is : why_for more said m keys classes W border ≡ unless refuse (use_refusals m keys classes W (length border) ++ more) border (after (Ok said) (spent W border))
  unfolding why_for
  why-is = refl

  pub why-refused : {e : Refused} → verdict (use_refusals m keys classes W (length border)) ≡ Err e → why_for more said m keys classes W border ≡ after (Err e) border
  why-refused e = why-is ∙ append-refused _ uses more _ e

  module _ (passed : verdict (use_refusals m keys classes W (length border)) ≡ Ok tt) where
    pub why-more : {e : Refused} → verdict more ≡ Err e → why_for more said m keys classes W border ≡ after (Err e) border
    why-more e = why-is ∙ append-passed _ uses more _ passed ∙ on-refused _ more _ e

    pub why-done : verdict more ≡ Ok tt → {a : Why} {left : List ℕ} → said ≡ a → left ≡ spent W border → after (Ok a) left ≡ why_for more said m keys classes W border
    why-done e d f = rw (← d, f) (sym (why-is ∙ on-passed _ (uses ++ more) _ ((passed-append uses more).1 (passed, e))))

-- ---- 19, and 22: when each is given, whatever is refused before it by another number

module _ (q n : ℕ) where
  pub index-refused : q ≤ n → verdict (index_refusals q n) ≡ refuse NoRecord 0
  unfolding index_refusals
  index-refused l = refusal-held refuse NoRecord 0 _ _ (le-leb q n l)

  pub index-passed : (verdict (index_refusals q n) ≡ Ok tt) ↔ (n < q)
  unfolding index_refusals
  index-passed = let t = passed-one (leb q n) NoRecord 0 in (λ e. leb-false q n (t.0 e), λ l. t.1 (lt-leb q n l))

  pub numbered-index : Numbered 19 (index_refusals q n)
  unfolding index_refusals
  numbered-index = numbered_next NoRecord (omega arith) (omega arith) none

  module _ {A : Type 0} (refuse : Cause → ℕ → A) (say : A → ℕ) (tells : (c : Cause) (p : ℕ) → say (refuse c p) ≡ number c) {most : ℕ} (l : most < 19) where
    pub index-19 : {rs : List Refusal} {a : A} → Numbered most rs → say a ≡ 0
        → (say (answer refuse (rs ++ index_refusals q n) a) ≡ 19) ↔ ((verdict rs ≡ Ok tt) × (q ≤ n))
    unfolding index_refusals
    index-19 N e = let t = number-last refuse say tells N e (leb q n) NoRecord 0 l in (λ z. ((t.0 z).0, leb-true q n (t.0 z).1), λ h. t.1 (h.0, le-leb q n h.1))

module _ (m : ℕ) (W : Window) (key : ℕ) where
  abbrev test : Bool
  test = any (eqb key) (keys_of m m W)

  listed : (test ≡ true) ↔ Memᴰ key (keys_of m m W)
  listed = (
    λ e. let t = any-has (eqb key) (keys_of m m W) e in rw (eqb-true key t.0 t.2) t.1,
    λ l. has-any (eqb key) l (eq-eqb key key refl),
  )

  unlisted : (not test ≡ true) ↔ (¬ Memᴰ key (keys_of m m W))
  unlisted = (
    λ e l. never (sym e ∙ ap not (listed.1 l)),
    λ h. ap not (refuted _ (λ e. h (listed.0 e))),
  )

  pub key-refused : (Memᴰ key (keys_of m m W) → ⊥) → verdict (key_refusals m W key) ≡ refuse NotMaximal 0
  unfolding key_refusals
  key-refused h = refusal-held refuse NotMaximal 0 _ _ (unlisted.1 h)

  pub key-passed : (verdict (key_refusals m W key) ≡ Ok tt) ↔ Memᴰ key (keys_of m m W)
  unfolding key_refusals
  key-passed = let t = passed-one (not test) NotMaximal 0 in (λ e. listed.0 (sym (not-not test) ∙ ap not (t.0 e)), λ l. t.1 (ap not (listed.1 l)))

  pub numbered-key : Numbered 22 (key_refusals m W key)
  unfolding key_refusals
  numbered-key = numbered_next NotMaximal (omega arith) (omega arith) none

  module _ {A : Type 0} (refuse : Cause → ℕ → A) (say : A → ℕ) (tells : (c : Cause) (p : ℕ) → say (refuse c p) ≡ number c) {most : ℕ} (l : most < 22) where
    pub key-22 : {rs : List Refusal} {a : A} → Numbered most rs → say a ≡ 0
        → (say (answer refuse (rs ++ key_refusals m W key) a) ≡ 22) ↔ ((verdict rs ≡ Ok tt) × (¬ Memᴰ key (keys_of m m W)))
    unfolding key_refusals
    key-22 N e = let t = number-last refuse say tells N e (not test) NotMaximal 0 l in (λ z. ((t.0 z).0, unlisted.0 (t.0 z).1), λ h. t.1 (h.0, unlisted.1 h.1))
