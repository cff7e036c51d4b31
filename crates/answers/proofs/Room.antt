-- Refusal 8, and cells in a slice that has room for them.
-- Assumes nothing.
use mathlib.Core.Path.{◌≡◌, refl, ap}
use mathlib.Core.Logic.{◌↔◌}
use mathlib.Core.List.{List, []}
use Prim.Native.Nat.{ℕ, ◌≤◌, ◌<◌}
use lib.Dec.{ltb}
use lib.ListN.{length}
use borrow.Author.Tests.{ltb-false, lt-ltb, le-ltb}
use Rattle.std.specs.Prelude.{Ok}
use Rattle.answers.specs.declared.Cause.{Cause}
use Rattle.answers.specs.declared.Cause.TheVariants.{ShortRoom}
use Rattle.answers.specs.Refusals.{answer, refuse, verdict}
use Rattle.answers.specs.Cells.{overwrite}
use Rattle.answers.specs.After.{After, after, unless, room_refusals, room_for}
use Rattle.answers.proofs.Tables.{refusal-held, passed-one, on-passed, on-refused, accepted}
use Rattle.answers.proofs.Unless.{unless-answer, unless-said}

module _ (room needed : ℕ) where
  pub room-passed : (verdict (room_refusals room needed) ≡ Ok tt) ↔ (needed ≤ room)
  unfolding room_refusals
  room-passed = (λ e. ltb-false room needed ((passed-one (ltb room needed) ShortRoom needed).0 e), λ l. (passed-one (ltb room needed) ShortRoom needed).1 (le-ltb room needed l))

  pub room-refused : room < needed → verdict (room_refusals room needed) ≡ refuse ShortRoom needed
  unfolding room_refusals
  room-refused l = refusal-held refuse ShortRoom needed [] (Ok tt) (lt-ltb room needed l)

module _ {A : Type 0} (refuse : Cause → ℕ → A) (done : A) (cells out : List ℕ) where
  pub room-is : room_for refuse done cells out ≡ unless refuse (room_refusals (length out) (length cells)) out (after done (overwrite cells out))
  unfolding room_for
  room-is = refl

  -- where there is no room
  pub room-short : length out < length cells → room_for refuse done cells out ≡ after (refuse ShortRoom (length cells)) out
  unfolding room_for
  room-short l = on-refused _ (room_refusals (length out) (length cells)) _ (room-refused (length out) (length cells) l)

  -- and where there is
  pub room-done : length cells ≤ length out → room_for refuse done cells out ≡ after done (overwrite cells out)
  unfolding room_for
  room-done l = on-passed _ (room_refusals (length out) (length cells)) _ ((room-passed (length out) (length cells)).1 l)

  -- of the slice only the length counts for the answer
  pub room-by-lengths : (room_for refuse done cells out).answer ≡ answer refuse (room_refusals (length out) (length cells)) done
  unfolding room_for
  room-by-lengths = unless-answer refuse (room_refusals (length out) (length cells)) out _

  -- said in other words
  pub room-said : {B : Type 0} (say : A → B) → (let o = room_for refuse done cells out in after (say o.answer) o.lent) ≡ room_for (λ c p. say (refuse c p)) (say done) cells out
  unfolding room_for
  room-said say = unless-said refuse (room_refusals (length out) (length cells)) out _ say

  -- an answer that is no refusal: there was room
  pub record Told (a : A) (out' : List ℕ) : Type 0 where
    pub room : length cells ≤ length out
    pub says : done ≡ a
    pub writes : overwrite cells out ≡ out'

  pub room-told : {a : A} {out' : List ℕ} → ((c : Cause) (p : ℕ) → refuse c p ≡ a → ⊥) → room_for refuse done cells out ≡ after a out' → Told a out'
  unfolding room_for
  room-told {a} {out'} other e =
      let x = accepted _ (room_refusals (length out) (length cells)) _ (λ c p q. other c p (ap (λ (t : After A (List ℕ)). t.answer) q)) e in
      record {
        room = (room-passed (length out) (length cells)).0 x.0;
        says = ap (λ (t : After A (List ℕ)). t.answer) x.1;
        writes = ap (λ (t : After A (List ℕ)). t.lent) x.1;
      }
