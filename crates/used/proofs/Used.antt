-- Refusal 8, and what a call that uses a map and a window answers and leaves.
-- Assumes nothing.
use mathlib.Core.Path.{◌≡◌, refl, sym, ap, ◌∙◌}
use mathlib.Core.Logic.{◌↔◌}
use mathlib.Core.Bool.{Bool, true, false}
use mathlib.Core.List.{List, ◌++◌}
use Prim.Native.Nat.{ℕ, ◌≤◌, ◌<◌}
use native.Mathlib.Omega.{arith}
use lib.ListN.{length}
use Rattle.std.specs.Prelude.{Result, Ok, Err}
use Rattle.answers.specs.declared.Cause.{Cause}
use Rattle.answers.specs.declared.Cause.TheVariants.{BadM, ShortRoom}
use Rattle.answers.specs.declared.Refused.{Refused}
use Rattle.answers.specs.Refusals.{answer, verdict}
use Rattle.answers.specs.Cells.{overwrite}
use Rattle.answers.specs.After.{After, after, unless, room_refusals, room_for}
use Rattle.answers.proofs.Laws as Answers
use Rattle.answers.proofs.Laws.{unless-answer, unless-said, answer-append, on-passed, on-refused, passed-append, room-passed, room-short}
use Rattle.answers.proofs.Laws.{room-done, room-by-lengths, room-said, room-told, Numbered, numbered-append, numbered-room}
use Rattle.window.specs.declared.Window.{Window}
use Rattle.window.specs.Window.{Inside}
use Rattle.map.specs.Sound.{SoundIn, SoundMap}
use Rattle.map.specs.Promises.{Gapless}
use Rattle.map.proofs.Laws.{map-over}
use Rattle.used.specs.Used.{use_refusals_in, spent, used_in}
use Rattle.used.specs.Promises.{AnswerableIn}
use Rattle.used.proofs.Use.{use-refused, use-answerable, numbered-use, use-alike, use-gapless}

-- ---- refusal 8, and an accepted call

module _ (whole : Bool) {A : Type 0} (refuse : Cause → ℕ → A) (done : A) (cells : List ℕ) (m : ℕ) (keys : List ℕ) (classes : ℕ) (W : Window) (border out : List ℕ) where
  pub used-refused : {e : Refused} → verdict (use_refusals_in whole m keys classes W (length border)) ≡ Err e
      → used_in whole refuse done cells m keys classes W border out ≡ after (refuse e.cause e.place) (border, out)
  unfolding used_in
  used-refused e = on-refused _ (use_refusals_in whole m keys classes W (length border)) _ e

  pub used_over : 12 < m → used_in whole refuse done cells m keys classes W border out ≡ after (refuse BadM 0) (border, out)
  used_over l = used-refused (use-refused whole m keys classes W (length border) (map-over whole m keys classes l))

  -- behind refusals 1 to 7 the border is spent, and only the room counts
  module _ (e : verdict (use_refusals_in whole m keys classes W (length border)) ≡ Ok tt) where
    pub used-passed : {a : A} {left out' : List ℕ} → left ≡ spent W border → after a out' ≡ room_for refuse done cells out
        → after a (left, out') ≡ used_in whole refuse done cells m keys classes W border out
    unfolding used_in
    used-passed d r = rw d (ap (λ (x : After A (List ℕ)). after x.answer (spent W border, x.lent)) r ∙ sym (on-passed _ (use_refusals_in whole m keys classes W (length border)) _ e))

    pub used-short : length out < length cells → used_in whole refuse done cells m keys classes W border out ≡ after (refuse ShortRoom (length cells)) (spent W border, out)
    used-short l = sym (used-passed refl (sym (room-short refuse done cells out l)))

    pub used-done : length cells ≤ length out → used_in whole refuse done cells m keys classes W border out ≡ after done (spent W border, overwrite cells out)
    used-done l = sym (used-passed refl (sym (room-done refuse done cells out l)))

  -- the same outcome, its answer said in other words
  pub used-said : {B : Type 0} (say : A → B) → (let o = used_in whole refuse done cells m keys classes W border out in after (say o.answer) o.lent)
      ≡ used_in whole (λ c p. say (refuse c p)) (say done) cells m keys classes W border out
  unfolding used_in
  used-said {B} say =
      unless-said refuse (use_refusals_in whole m keys classes W (length border)) (border, out) _ say
      ∙ ap (λ (x : After B (List ℕ)). unless (λ c p. say (refuse c p)) (use_refusals_in whole m keys classes W (length border)) (border, out) (after x.answer (spent W border, x.lent)))
      (room-said refuse done cells out say)

  -- the answer is the first of refusals 1 to 8, or `done`; of the border and of the answer slice only the lengths count
  pub used-by-lengths : (used_in whole refuse done cells m keys classes W border out).answer
      ≡ answer refuse (use_refusals_in whole m keys classes W (length border) ++ room_refusals (length out) (length cells)) done
  unfolding used_in
  used-by-lengths =
      unless-answer refuse (use_refusals_in whole m keys classes W (length border)) (border, out) _
      ∙ ap (λ (a : A). answer refuse (use_refusals_in whole m keys classes W (length border)) a) (room-by-lengths refuse done cells out)
      ∙ sym (answer-append refuse (use_refusals_in whole m keys classes W (length border)) (room_refusals (length out) (length cells)) done)

  pub numbered-used : Numbered 8 (use_refusals_in whole m keys classes W (length border) ++ room_refusals (length out) (length cells))
  numbered-used = numbered-append (numbered-use whole m keys classes W (length border) (omega arith)) (numbered-room (length out) (length cells) (omega arith))

  -- refusals 1 to 8 pass exactly what is answerable and has room for its cells
  pub used-answerable : (verdict (use_refusals_in whole m keys classes W (length border) ++ room_refusals (length out) (length cells)) ≡ Ok tt)
      ↔ (AnswerableIn whole m keys classes W (length border) × (length cells ≤ length out))
  used-answerable =
      let both = passed-append (use_refusals_in whole m keys classes W (length border)) (room_refusals (length out) (length cells)) in
      let eight = room-passed (length out) (length cells) in
      let seven = use-answerable whole m keys classes W (length border) in (
        λ e. let t = both.0 e in (seven.0 t.0, eight.0 t.1),
        λ t. both.1 (seven.1 t.0, eight.1 t.1),
      )

  -- an answer that is no refusal: nothing was refused, and `done` and `cells` are what was answered and written
  pub record Told (a : A) (border' out' : List ℕ) : Type 0 where
    pub passed : verdict (use_refusals_in whole m keys classes W (length border)) ≡ Ok tt
    pub room : length cells ≤ length out
    pub says : done ≡ a
    pub leaves : spent W border ≡ border'
    pub writes : overwrite cells out ≡ out'

  pub used-told : {a : A} {border' out' : List ℕ} → ((c : Cause) (p : ℕ) → refuse c p ≡ a → ⊥)
      → used_in whole refuse done cells m keys classes W border out ≡ after a (border', out') → Told a border' out'
  unfolding used_in
  used-told {a} {border'} {out'} other e =
      let room = room_for refuse done cells out in
      let x = Answers.accepted _ (use_refusals_in whole m keys classes W (length border)) (after room.answer (spent W border, room.lent))
      (λ c p q. other c p (ap (λ (t : After A (List ℕ × List ℕ)). t.answer) q)) e in
      let y = room-told refuse done cells out other (ap (λ (t : After A (List ℕ × List ℕ)). after t.answer t.lent.1) x.1) in
      record { passed = x.0; room = y.room; says = y.says; leaves = ap (λ (t : After A (List ℕ × List ℕ)). t.lent.0) x.1; writes = y.writes }

  -- with room for its cells, a refusal is one of 1 to 7
  pub used-roomy : ((c : Cause) (p : ℕ) → refuse c p ≡ done → ⊥) → length cells ≤ length out → {c : Cause} {p : ℕ} {border' out' : List ℕ}
      → used_in whole refuse done cells m keys classes W border out ≡ after (refuse c p) (border', out')
      → (e : Refused) × (verdict (use_refusals_in whole m keys classes W (length border)) ≡ Err e) × (refuse e.cause e.place ≡ refuse c p)
  used-roomy other room {c} {p} {border'} {out'} e = go (verdict (use_refusals_in whole m keys classes W (length border))) refl
    where
      says : {a : A} {bs os : List ℕ} → used_in whole refuse done cells m keys classes W border out ≡ after a (bs, os) → a ≡ refuse c p
      says d = ap (λ (t : After A (List ℕ × List ℕ)). t.answer) (sym d ∙ e)

      go : (v : Result Unit Refused) → verdict (use_refusals_in whole m keys classes W (length border)) ≡ v
          → (e : Refused) × (verdict (use_refusals_in whole m keys classes W (length border)) ≡ Err e) × (refuse e.cause e.place ≡ refuse c p)
      go (Ok tt) q = absurd (other c p (sym (says (used-done q room))))
      go (Err e) q = (e, q, says (used-refused q))

-- on a map whose gaps are not refused, a use that may have gaps and one of a whole map are the same, if they are so where the map is sound and the window inside
pub used-gapless : {m : ℕ} {keys : List ℕ} {classes : ℕ} → Gapless m keys classes
    → {A : Type 0} (refuse : Cause → ℕ → A) (done done' : A) (cells cells' : List ℕ) (W : Window) (border out : List ℕ)
    → (SoundMap m keys classes → Inside m W → (done ≡ done') × (cells ≡ cells'))
    → used_in false refuse done cells m keys classes W border out ≡ used_in true refuse done' cells' m keys classes W border out
unfolding used_in
used-gapless G refuse done done' cells cells' W border out h =
    use-gapless G W (length border) (λ c p. after (refuse c p) (border, out)) _ _ (λ S I. let t = h S I in rw (t.0, t.1))

-- on two sound maps, with gaps or without, uses are the same if they are so where the window is inside
pub used-maps : {whole whole' : Bool} {m : ℕ} {keys keys' : List ℕ} {classes classes' : ℕ} → SoundIn whole m keys classes → SoundIn whole' m keys' classes'
    → {A : Type 0} (refuse : Cause → ℕ → A) (done done' : A) (cells cells' : List ℕ) (W : Window) (border out : List ℕ) → (Inside m W → (done ≡ done') × (cells ≡ cells'))
    → used_in whole refuse done cells m keys classes W border out ≡ used_in whole' refuse done' cells' m keys' classes' W border out
unfolding used_in
used-maps S S' refuse done done' cells cells' W border out h =
    use-alike S S' W (length border) (λ c p. after (refuse c p) (border, out)) _ _ (λ I. let t = h I in rw (t.0, t.1))
