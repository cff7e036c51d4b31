-- What is asked of a window alone: its refusals, test by test and as a table, and what it answers and leaves.
-- Assumes nothing.
use mathlib.Core.Path.{◌≡◌, ap, ◌∙◌}
use mathlib.Core.Logic.{◌↔◌}
use mathlib.Core.Bool.{true, false}
use mathlib.Core.List.{List}
use Prim.Native.Nat.{ℕ, ◌≤◌, ◌<◌}
use native.Mathlib.Omega.{arith}
use lib.ListN.{length}
use Rattle.std.specs.Prelude.{Ok, Err}
use Rattle.answers.specs.declared.Cause.{Cause}
use Rattle.answers.specs.declared.Cause.TheVariants.{BadM, BadWindow, ShortRoom}
use Rattle.answers.specs.declared.Refused.{Refused}
use Rattle.answers.specs.Refusals.{answer, refuse, verdict}
use Rattle.answers.specs.Sizes.{picture_refusals}
use Rattle.answers.specs.Cells.{overwrite}
use Rattle.answers.specs.After.{After, after, room_refusals}
use Rattle.answers.proofs.Laws.{unless-answer, unless-kept, unless-said, on-passed, on-refused, append-passed, append-refused, passed-append, picture-passed, picture-refused}
use Rattle.answers.proofs.Laws.{room-passed, room-refused, Numbered, numbered-append, numbered-picture, numbered-room}
use Rattle.window.specs.declared.Window.{Window}
use Rattle.window.specs.Window.{Inside, outside, window_refusals}
use Rattle.window.specs.Drawn.{drawn_refusals, drawn_for}
use Rattle.window.proofs.Tests.{window-inside, numbered-window, window-refused, window-passed}

-- ---- the table

module _ (m : ℕ) (W : Window) (needed room : ℕ) where
  table-over : 12 < m → verdict (drawn_refusals m W needed room) ≡ refuse BadM 0
  unfolding drawn_refusals
  table-over l = append-refused refuse (picture_refusals m) _ _ (picture-refused m l)

  module _ (l : m ≤ 12) where
    table-outside : outside m W ≡ true → verdict (drawn_refusals m W needed room) ≡ refuse BadWindow 0
    unfolding drawn_refusals
    table-outside e = append-passed refuse (picture_refusals m) _ _ ((picture-passed m).1 l) ∙ append-refused refuse (window_refusals m W) _ _ (window-refused m W e)

    -- behind 1 and 6 only the room counts
    behind : outside m W ≡ false → verdict (drawn_refusals m W needed room) ≡ verdict (room_refusals room needed)
    unfolding drawn_refusals
    behind e = append-passed refuse (picture_refusals m) _ _ ((picture-passed m).1 l) ∙ append-passed refuse (window_refusals m W) _ _ (window-passed m W e)

  pub numbered-drawn : Numbered 8 (drawn_refusals m W needed room)
  unfolding drawn_refusals
  numbered-drawn =
      numbered-append (numbered-picture m (omega arith)) (numbered-append (numbered-window m W (omega arith)) (numbered-room room needed (omega arith)))

  -- it passes exactly a window inside a picture, with room for what is needed
  pub drawn-passed : (verdict (drawn_refusals m W needed room) ≡ Ok tt) ↔ ((m ≤ 12) × Inside m W × (needed ≤ room))
  unfolding drawn_refusals
  drawn-passed = (to, from)
    where
      to : verdict (drawn_refusals m W needed room) ≡ Ok tt → (m ≤ 12) × Inside m W × (needed ≤ room)
      to e =
          let a = (passed-append (picture_refusals m) _).0 e in
          let b = (passed-append (window_refusals m W) _).0 a.1 in
          ((picture-passed m).0 a.0, (window-inside m W).0 b.0, (room-passed room needed).0 b.1)

      from : (m ≤ 12) × Inside m W × (needed ≤ room) → verdict (drawn_refusals m W needed room) ≡ Ok tt
      from (l, I, h) = (passed-append (picture_refusals m) _).1 ((picture-passed m).1 l, (passed-append (window_refusals m W) _).1 ((window-inside m W).1 I, (room-passed room needed).1 h))

-- ---- the outcome, test by test

module _ {A : Type 0} (refuse : Cause → ℕ → A) (done : A) (cells : List ℕ) (m : ℕ) (W : Window) (out : List ℕ) where
  given : {e : Refused} → verdict (drawn_refusals m W (length cells) (length out)) ≡ Err e → drawn_for refuse done cells m W out ≡ after (refuse e.cause e.place) out
  unfolding drawn_for
  given e = on-refused _ (drawn_refusals m W (length cells) (length out)) _ e

  pub drawn-over : 12 < m → drawn_for refuse done cells m W out ≡ after (refuse BadM 0) out
  drawn-over l = given (table-over m W _ _ l)

  module _ (l : m ≤ 12) where
    pub drawn-outside : outside m W ≡ true → drawn_for refuse done cells m W out ≡ after (refuse BadWindow 0) out
    drawn-outside e = given (table-outside m W _ _ l e)

    module _ (e : outside m W ≡ false) where
      pub drawn-short : length out < length cells → drawn_for refuse done cells m W out ≡ after (refuse ShortRoom (length cells)) out
      drawn-short h = given (behind m W _ _ l e ∙ room-refused (length out) (length cells) h)

      pub drawn-done : length cells ≤ length out → drawn_for refuse done cells m W out ≡ after done (overwrite cells out)
      unfolding drawn_for
      drawn-done h = on-passed _ (drawn_refusals m W (length cells) (length out)) _ (behind m W _ _ l e ∙ (room-passed (length out) (length cells)).1 h)

  -- ---- and as a whole

  -- the same outcome, its answer said in other words
  pub drawn-said : {B : Type 0} (say : A → B) → (let o = drawn_for refuse done cells m W out in after (say o.answer) o.lent)
      ≡ drawn_for (λ c p. say (refuse c p)) (say done) cells m W out
  unfolding drawn_for
  drawn-said say = unless-said refuse (drawn_refusals m W (length cells) (length out)) out _ say

  -- of the slice only the length counts for the answer
  pub drawn-by-length : (drawn_for refuse done cells m W out).answer ≡ answer refuse (drawn_refusals m W (length cells) (length out)) done
  unfolding drawn_for
  drawn-by-length = unless-answer refuse (drawn_refusals m W (length cells) (length out)) out _

  -- what an answered call leaves in it
  pub drawn-leaves : verdict (drawn_refusals m W (length cells) (length out)) ≡ Ok tt → (drawn_for refuse done cells m W out).lent ≡ overwrite cells out
  unfolding drawn_for
  drawn-leaves e = ap (λ (x : After A (List ℕ)). x.lent) (on-passed _ (drawn_refusals m W (length cells) (length out)) _ e)

  -- a refusal leaves it as it was
  pub drawn-untouched : (verdict (drawn_refusals m W (length cells) (length out)) ≡ Ok tt → ⊥) → (drawn_for refuse done cells m W out).lent ≡ out
  unfolding drawn_for
  drawn-untouched held = unless-kept refuse (drawn_refusals m W (length cells) (length out)) out _ held
