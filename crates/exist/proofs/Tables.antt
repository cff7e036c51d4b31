-- What exist answers and leaves, by the verdict of its refusals.
-- Assumes nothing.
use mathlib.Core.Path.{◌≡◌, refl, ap}
use mathlib.Core.Bool.{Bool, true, false, cond}
use mathlib.Core.List.{List}
use Prim.Native.Nat.{ℕ}
use lib.ListN.{length}
use Rattle.std.specs.Prelude.{Result, Ok, Err}
use Rattle.answers.specs.declared.Refused.{Refused}
use Rattle.answers.specs.Refusals.{refuse, verdict, answer}
use Rattle.answers.specs.After.{After, after}
use Rattle.answers.proofs.Laws.{on-passed, on-refused, unless-answer, unless-kept}
use Rattle.window.specs.declared.Window.{Window}
use Rattle.window.specs.Window.{Inside}
use Rattle.window.specs.Rules.{exists_by}
use Rattle.map.specs.Sound.{SoundIn, SoundMap}
use Rattle.map.specs.Promises.{Gapless}
use Rattle.map.specs.Classes.{not_seen}
use Rattle.used.specs.Used.{use_refusals_in, spent}
use Rattle.used.proofs.Laws.{use-alike, use-gapless}
use Rattle.exist.specs.declared.Existence.{Existence}
use Rattle.exist.specs.declared.Existence.TheVariants as existence
use Rattle.exist.specs.Exist.{presence_by, existing_by, exist_in}

pub presence-is : (rule : ℕ → ℕ) (W : Window) (class : ℕ)
    → presence_by rule W class ≡ cond (exists_by rule W class) existence.Yes (cond (exists_by rule W not_seen) existence.CannotTell existence.No)
unfolding presence_by
presence-is rule W class = refl

module _ (whole : Bool) (rule : ℕ → ℕ) (m : ℕ) (keys : List ℕ) (classes : ℕ) (W : Window) (class : ℕ) (border : List ℕ) where
  pub exist-refused : {r : Refused} → verdict (use_refusals_in whole m keys classes W (length border)) ≡ Err r
      → exist_in whole rule m keys classes W class border ≡ after (Err r) border
  unfolding exist_in
  exist-refused e = on-refused _ (use_refusals_in whole m keys classes W (length border)) _ e

  pub exist-done : verdict (use_refusals_in whole m keys classes W (length border)) ≡ Ok tt
      → exist_in whole rule m keys classes W class border ≡ existing_by rule W class border
  unfolding exist_in
  exist-done e = on-passed _ (use_refusals_in whole m keys classes W (length border)) _ e

  -- an accepted call spends the border
  pub exist-leaves : verdict (use_refusals_in whole m keys classes W (length border)) ≡ Ok tt
      → (exist_in whole rule m keys classes W class border).lent ≡ spent W border
  unfolding existing_by
  exist-leaves e = ap (λ (x : After (Result Existence Refused) (List ℕ)). x.lent) (exist-done e)

  -- and a refused one leaves it as it was
  pub exist-untouched : (verdict (use_refusals_in whole m keys classes W (length border)) ≡ Ok tt → ⊥)
      → (exist_in whole rule m keys classes W class border).lent ≡ border
  unfolding exist_in
  exist-untouched held = unless-kept refuse (use_refusals_in whole m keys classes W (length border)) border _ held

  -- of the border only the length counts
  pub exist-by-lengths : (exist_in whole rule m keys classes W class border).answer
      ≡ answer refuse (use_refusals_in whole m keys classes W (length border)) (Ok (presence_by rule W class))
  unfolding exist_in existing_by
  exist-by-lengths = unless-answer refuse (use_refusals_in whole m keys classes W (length border)) border _

pub existing-is : (rule : ℕ → ℕ) (W : Window) (class : ℕ) (border : List ℕ) → existing_by rule W class border ≡ after (Ok (presence_by rule W class)) (spent W border)
unfolding existing_by
existing-is rule W class border = refl

-- each answer, by what is known of the class and of 255
module _ (rule : ℕ → ℕ) (W : Window) (class : ℕ) (border : List ℕ) {left : List ℕ} where
  pub existing-yes : exists_by rule W class ≡ true → left ≡ spent W border → after (Ok existence.Yes) left ≡ existing_by rule W class border
  unfolding presence_by existing_by
  existing-yes e d = rw (e, d)

  pub existing-none : {unseen : Bool} → exists_by rule W class ≡ false → exists_by rule W not_seen ≡ unseen → left ≡ spent W border
      → after (Ok (cond unseen existence.CannotTell existence.No)) left ≡ existing_by rule W class border
  unfolding presence_by existing_by
  existing-none e u d = rw (e, u, d)

-- on a map whose gaps are not refused two rules that say the same where it is sound and the window inside answer alike, whether it is to be whole or not
pub exist-gapless : {m : ℕ} {keys : List ℕ} {classes : ℕ} → Gapless m keys classes → (rule rule' : ℕ → ℕ) (W : Window) (class : ℕ) (border : List ℕ)
    → (SoundMap m keys classes → Inside m W → presence_by rule W class ≡ presence_by rule' W class)
    → exist_in false rule m keys classes W class border ≡ exist_in true rule' m keys classes W class border
unfolding exist_in existing_by
exist-gapless G rule rule' W class border h =
    use-gapless G W (length border) (λ c p. after (refuse c p) border) _ _ (λ S I. ap (λ (x : Existence). after (Ok x) (spent W border)) (h S I))

-- on two sound maps, with gaps or without, two rules that say the same of a window inside answer alike
pub exist-maps : {whole whole' : Bool} {m : ℕ} {keys keys' : List ℕ} {classes classes' : ℕ} → SoundIn whole m keys classes → SoundIn whole' m keys' classes'
    → (rule rule' : ℕ → ℕ) (W : Window) (class : ℕ) (border : List ℕ) → (Inside m W → (k : ℕ) → exists_by rule W k ≡ exists_by rule' W k)
    → exist_in whole rule m keys classes W class border ≡ exist_in whole' rule' m keys' classes' W class border
unfolding exist_in existing_by presence_by
exist-maps S S' rule rule' W class border h =
    use-alike S S' W (length border) (λ c p. after (refuse c p) border) _ _ (λ I. rw (h I class, h I not_seen))
