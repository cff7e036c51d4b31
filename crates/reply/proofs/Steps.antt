-- What is printed where a window should begin, by the test that decides it, and how long it can be.
-- Assumes nothing.
use mathlib.Core.Path.{◌≡◌}
use mathlib.Core.List.{List, [], ◌∷◌}
use Prim.Native.Nat.{ℕ, ◌≤◌, ◌<◌}
use native.Mathlib.Decide.{dec_lt}
use native.Mathlib.Omega.{arith}
use lib.Dec.{ltb}
use lib.ListN.{length, take}
use borrow.Author.Tests.{lt-ltb, le-ltb}
use Rattle.answers.specs.After.{after}
use Rattle.answers.proofs.Laws.{take-overwrite}
use Rattle.text.specs.Text.{put_of}
use Rattle.text.proofs.Laws.{put-there}
use Rattle.input.specs.Input.{window_of, left_text}
use Rattle.input.proofs.Laws.{left-most}
use Rattle.reply.specs.Reply.{answer_of, next_text}
use Rattle.reply.proofs.Results.{answer-most}

module _ (m : ℕ) (keys classes : List ℕ) (got : ℕ) (bytes : List ℕ) where
  pub next-left : got < 8 → next_text m keys classes got bytes ≡ left_text got
  unfolding next_text
  next-left l = rw (lt-ltb got 8 l)

  pub next-window : 8 ≤ got → next_text m keys classes got bytes ≡ answer_of m keys classes (window_of bytes)
  unfolding next_text
  next-window l = rw (le-ltb got 8 l)

  -- on a map of 1,000 records or fewer
  next-most : length keys ≤ 1000 → length (next_text m keys classes got bytes) ≤ 42225
  next-most few = go (dec_lt got 8)
    where
      go : Dec (got < 8) → length (next_text m keys classes got bytes) ≤ 42225
      go (yes l) = rw (next-left l) (omega (arith, left-most got))
      go (no h) = rw (next-window (omega (arith, h))) (answer-most m keys classes (window_of bytes) few)

  -- where there is room for the longest, what was put is all of it
  pub next-put : length keys ≤ 1000 → (out : List ℕ) {n : ℕ} {out' : List ℕ} → 42225 ≤ length out → after n out' ≡ put_of (next_text m keys classes got bytes) out
      → take n out' ≡ next_text m keys classes got bytes
  next-put few out l e =
      let put = put-there (next_text m keys classes got bytes) out e (omega (arith, next-most few)) in
      rw (put.0, put.1) (take-overwrite (next_text m keys classes got bytes) out)
