-- The laws of tables of refusals: what a table answers, refusal by refusal and one table after the other, and when it passes.
-- Assumes nothing.
use mathlib.Core.Path.{◌≡◌, refl, sym, ap, ◌∙◌}
use mathlib.Core.Logic.{◌↔◌}
use mathlib.Core.Bool.{Bool, true, false, cond}
use mathlib.Core.List.{List, [], ◌∷◌, ◌++◌}
use Prim.Native.Nat.{ℕ}
use Rattle.lists.proofs.Laws.{never}
use Rattle.std.specs.Prelude.{Result, Ok, Err, IsErr, IsErrAnd}
use Rattle.answers.specs.declared.Cause.{Cause}
use Rattle.answers.specs.declared.Refused.{Refused}
use Rattle.answers.specs.Refusals.{Refusal, refusal, answer, refused, refuse, verdict}

-- ---- a table answers refusal by refusal, and one table after the other

module _ {A : Type 0} (refuse : Cause → ℕ → A) where
  pub answer-none : (a : A) → answer refuse [] a ≡ a
  unfolding answer
  answer-none a = refl

  pub answer-next : (b : Bool) (c : Cause) (p : ℕ) (rs : List Refusal) (a : A) → answer refuse (refusal b c p ∷ rs) a ≡ cond b (refuse c p) (answer refuse rs a)
  unfolding answer
  answer-next b c p rs a = refl

  pub refusal-held : {b : Bool} (c : Cause) (p : ℕ) (rs : List Refusal) (a : A) → b ≡ true → answer refuse (refusal b c p ∷ rs) a ≡ refuse c p
  refusal-held c p rs a e = rw answer-next (rw e)

  pub refusal-clear : {b : Bool} (c : Cause) (p : ℕ) (rs : List Refusal) (a : A) → b ≡ false → answer refuse (refusal b c p ∷ rs) a ≡ answer refuse rs a
  refusal-clear c p rs a e = rw answer-next (rw e)

  pub answer-append : (rs ss : List Refusal) (a : A) → answer refuse (rs ++ ss) a ≡ answer refuse rs (answer refuse ss a)
  unfolding answer
  answer-append [] ss a = refl
  answer-append (r ∷ rs) ss a = ap (cond r.holds (refuse r.cause r.place)) (answer-append rs ss a)

  -- what an answer is, by the verdict
  unfoldable by : Result Unit Refused → A → A
  by (Ok u) a = a
  by (Err e) a = refuse e.cause e.place

  by-verdict : (rs : List Refusal) (a : A) → answer refuse rs a ≡ by (verdict rs) a
  unfolding answer by
  by-verdict [] a = refl
  by-verdict (r ∷ rs) a = go r.holds (by-verdict rs a)
    where
      go : (t : Bool) → answer refuse rs a ≡ by (verdict rs) a
          → cond t (refuse r.cause r.place) (answer refuse rs a) ≡ by (cond t (Err (refused r.cause r.place)) (verdict rs)) a
      go true ih = refl
      go false ih = ih

  pub on-passed : (rs : List Refusal) (a : A) → verdict rs ≡ Ok tt → answer refuse rs a ≡ a
  unfolding by
  on-passed rs a e = by-verdict rs a ∙ ap (λ (v : Result Unit Refused). by v a) e

  pub on-refused : (rs : List Refusal) (a : A) {e : Refused} → verdict rs ≡ Err e → answer refuse rs a ≡ refuse e.cause e.place
  unfolding by
  on-refused rs a e = by-verdict rs a ∙ ap (λ (v : Result Unit Refused). by v a) e

  -- tables of one verdict answer alike
  pub answer-verdict : (rs ss : List Refusal) (a : A) → verdict rs ≡ verdict ss → answer refuse rs a ≡ answer refuse ss a
  answer-verdict rs ss a e = by-verdict rs a ∙ ap (λ (v : Result Unit Refused). by v a) e ∙ sym (by-verdict ss a)

  -- what stands behind refusals counts only where they pass
  pub answer-same : (rs : List Refusal) (a a' : A) → (verdict rs ≡ Ok tt → a ≡ a') → answer refuse rs a ≡ answer refuse rs a'
  answer-same rs a a' h = go (verdict rs) refl
    where
      go : (v : Result Unit Refused) → verdict rs ≡ v → answer refuse rs a ≡ answer refuse rs a'
      go (Ok tt) e = on-passed rs a e ∙ h e ∙ sym (on-passed rs a' e)
      go (Err r) e = on-refused rs a e ∙ sym (on-refused rs a' e)

  pub append-passed : (rs ss : List Refusal) (a : A) → verdict rs ≡ Ok tt → answer refuse (rs ++ ss) a ≡ answer refuse ss a
  append-passed rs ss a e = answer-append rs ss a ∙ on-passed rs (answer refuse ss a) e

  pub append-refused : (rs ss : List Refusal) (a : A) {e : Refused} → verdict rs ≡ Err e → answer refuse (rs ++ ss) a ≡ refuse e.cause e.place
  append-refused rs ss a e = answer-append rs ss a ∙ on-refused rs (answer refuse ss a) e

  -- an answer that is no refusal: the table has passed
  pub accepted : (rs : List Refusal) (a : A) {done : A} → ((c : Cause) (p : ℕ) → refuse c p ≡ done → ⊥) → answer refuse rs a ≡ done → (verdict rs ≡ Ok tt) × (a ≡ done)
  unfolding by
  accepted rs a {done} never e = go (verdict rs) refl (sym (by-verdict rs a) ∙ e)
    where
      go : (v : Result Unit Refused) → verdict rs ≡ v → by v a ≡ done → (verdict rs ≡ Ok tt) × (a ≡ done)
      go (Ok tt) p q = (p, q)
      go (Err r) q h = absurd (never r.cause r.place h)

-- one part of an outcome, by itself
pub answer-part : {A B : Type 0} (part : A → B) (refuse : Cause → ℕ → A) (rs : List Refusal) (a : A)
    → part (answer refuse rs a) ≡ answer (λ c p. part (refuse c p)) rs (part a)
unfolding answer
answer-part part refuse [] a = refl
answer-part {A} {B} part refuse (r ∷ rs) a = go r.holds (answer-part part refuse rs a)
  where
    go : (t : Bool) → part (answer refuse rs a) ≡ answer (λ c p. part (refuse c p)) rs (part a)
        → part (cond t (refuse r.cause r.place) (answer refuse rs a)) ≡ cond t (part (refuse r.cause r.place)) (answer (λ c p. part (refuse c p)) rs (part a))
    go true ih = refl
    go false ih = ih

-- a refusal that is made is what a function answers, where that is what its contract says
pub refusing : {A : Type 0} {e : Refused} {c : Cause} {p : ℕ} {r : Result A Refused} → e ≡ refused c p → r ≡ refuse c p → Err e ≡ r
refusing made says = ap Err made ∙ sym says

-- a `?` answers with the error of the call before it
pub handed-on : {A E : Type 0} {r : Result A E} {e : E} → IsErr r × IsErrAnd r (λ x. x ≡ e) → r ≡ Err e
handed-on {r = Ok a} h = absurd h.1
handed-on {r = Err x} h = ap Err h.1

-- ---- a table that has passed, and one that has not

pub refused-not-passed : {e : Refused} → ◌≡◌ {A = Result Unit Refused} (Err e) (Ok tt) → ⊥
refused-not-passed h = cc

pub passed-next : (b : Bool) (c : Cause) (p : ℕ) (rs : List Refusal) → (verdict (refusal b c p ∷ rs) ≡ Ok tt) ↔ ((b ≡ false) × (verdict rs ≡ Ok tt))
unfolding answer
passed-next true c p rs = (λ e. absurd (refused-not-passed e), λ e. never e.0)
passed-next false c p rs = (λ e. (refl, e), λ e. e.1)

pub passed-one : (b : Bool) (c : Cause) (p : ℕ) → (verdict (refusal b c p ∷ []) ≡ Ok tt) ↔ (b ≡ false)
unfolding answer
passed-one b c p = (λ e. ((passed-next b c p []).0 e).0, λ e. (passed-next b c p []).1 (e, refl))

pub passed-append : (rs ss : List Refusal) → (verdict (rs ++ ss) ≡ Ok tt) ↔ ((verdict rs ≡ Ok tt) × (verdict ss ≡ Ok tt))
passed-append rs ss = (
  λ e. accepted refuse rs (verdict ss) (λ c p q. refused-not-passed q) (sym (answer-append refuse rs ss (Ok tt)) ∙ e),
  λ e. append-passed refuse rs ss (Ok tt) e.0 ∙ e.1,
)

-- what every refusal leaves alike is left where the table has not passed
pub answer-kept : {A B : Type 0} (part : A → B) (refuse : Cause → ℕ → A) (rs : List Refusal) (a : A) {b : B}
    → ((c : Cause) (p : ℕ) → part (refuse c p) ≡ b) → (verdict rs ≡ Ok tt → ⊥) → part (answer refuse rs a) ≡ b
answer-kept {A} {B} part refuse rs a {b} same held = go (verdict rs) refl
  where
    go : (v : Result Unit Refused) → verdict rs ≡ v → part (answer refuse rs a) ≡ b
    go (Ok tt) e = absurd (held e)
    go (Err r) e = ap part (on-refused refuse rs a e) ∙ same r.cause r.place
