-- Clearing: what is written, and what is answered and left, test by test.
-- Assumes nothing.
use mathlib.Core.Path.{◌≡◌, refl, sym, ap, ◌∙◌}
use mathlib.Core.Bool.{true, false}
use mathlib.Core.List.{List, ◌++◌, append_assoc}
use Prim.Native.Nat.{ℕ, ◌+◌, ◌≤◌, ◌<◌}
use native.Mathlib.Omega.{arith}
use lib.ListN.{length, drop, replicate, length-append, length-replicate}
use lib.Seq.{take_at, drop_at, drop-drop, sets}
use borrow.Rule.Slice.PartMut.{put_mid}
use Rattle.std.specs.Prelude.{Ok}
use Rattle.answers.specs.declared.Cause.TheVariants.{BadM, BadWindow, ShortRoom}
use Rattle.answers.specs.Refusals.{refuse}
use Rattle.answers.specs.Cells.{overwrite}
use Rattle.answers.specs.After.{after}
use Rattle.answers.proofs.Laws.{overwrite-part, overwrite-sets}
use Rattle.window.specs.declared.Window.{Window}
use Rattle.window.specs.Window.{outside}
use Rattle.window.specs.Drawn.{drawn_for}
use Rattle.window.proofs.Laws.{drawn-over, drawn-outside, drawn-short, drawn-done}
use Rattle.month.specs.Month.{head_of, clear_of}

-- ---- what is written

-- the first cells are stored, and then those behind them
stored : (head rest table : List ℕ) (n k : ℕ) → length head ≡ n → length rest ≡ k → put_mid n k (head ++ drop n table) rest ≡ overwrite (head ++ rest) table
stored head rest table n k e d =
    let all : length (head ++ rest) ≡ n + k = length-append head rest ∙ rw (e, d) in
    rw (take_at head (drop n table) n e, drop_at head (drop n table) n e, drop-drop k n table) (sym (append_assoc head rest _) ∙ rw all at (overwrite-part (head ++ rest) table))

-- ---- what is answered and left

module _ (m : ℕ) (W : Window) where
  abbrev empty : List ℕ
  empty = head_of m W ++ replicate 1025 0

  pub empty-length : length (head_of m W ++ replicate 1025 0) ≡ 1030
  empty-length = omega (arith, length-replicate {A = ℕ} 1025 0)

  module _ (table : List ℕ) where
    pub clear-is : clear_of m W table ≡ drawn_for refuse (Ok tt) (head_of m W ++ replicate 1025 0) m W table
    unfolding clear_of
    clear-is = refl

    pub clear-over : 12 < m → clear_of m W table ≡ after (refuse BadM 0) table
    clear-over l = clear-is ∙ drawn-over refuse (Ok tt) empty m W table l

    module _ (l : m ≤ 12) where
      pub clear-outside : outside m W ≡ true → clear_of m W table ≡ after (refuse BadWindow 0) table
      clear-outside e = clear-is ∙ drawn-outside refuse (Ok tt) empty m W table l e

      module _ (e : outside m W ≡ false) where
        pub clear-short : length table < 1030 → clear_of m W table ≡ after (refuse ShortRoom 1030) table
        clear-short h = clear-is ∙ rw empty-length at (drawn-short refuse (Ok (tt {0})) empty m W table l e (rw empty-length h))

        -- the first five cells are stored, and behind them zeros
        pub clear-done : 1030 ≤ length table → {headed zeros : List ℕ} → headed ≡ sets table 0 (head_of m W) → zeros ≡ replicate 1025 0
            → clear_of m W table ≡ after (Ok tt) (put_mid 5 1025 headed zeros)
        clear-done h {headed} d w =
            let head : headed ≡ head_of m W ++ drop 5 table = d ∙ overwrite-sets (head_of m W) table (omega arith) ∙ sym (overwrite-part (head_of m W) table) in
            clear-is
            ∙ drawn-done refuse (Ok tt) empty m W table l e (omega (arith, empty-length))
            ∙ ap (after (Ok tt)) (sym (rw (head, w) (stored (head_of m W) (replicate 1025 0) table 5 1025 refl (length-replicate {A = ℕ} 1025 0))))
