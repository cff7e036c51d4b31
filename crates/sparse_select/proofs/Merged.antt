-- Gaps and records, merged: piece by piece. What is listed of a block, by cases.
-- Assumes nothing.
use mathlib.Core.Path.{◌≡◌, ◌∙◌}
use mathlib.Core.Bool.{true}
use mathlib.Core.List.{List, [], ◌∷◌, ◌++◌}
use Prim.Native.Nat.{ℕ, suc, ◌+◌, ◌^◌, ◌≤◌, ◌<◌}
use native.Mathlib.Decide.{ℕ_discrete}
use lib.ListN.{length, get_or}
use borrow.Author.Tests.{eq-eqb, ne_eqb}
use Rattle.lists.specs.Lists.{up_from}
use Rattle.lists.proofs.Laws.{up_none, up_next}
use Rattle.key.specs.Blocks.{Names}
use Rattle.map.specs.Runs.{run_of}
use Rattle.map.proofs.Laws.{Record, start_is, end_is}
use Rattle.pick.specs.Picked.{picked_around}
use Rattle.stretch.specs.Fewest.{stretch}
use Rattle.stretch.proofs.Laws.{stretch-none}
use Rattle.border.proofs.Laws.{met-run}
use Rattle.select.specs.Select.{around}
use Rattle.select.proofs.Laws.{some-around, none-around}
use Rattle.sparse_select.specs.Select.{blank, merged, sparse_selected}

module _ (m background : ℕ) (keys classes : List ℕ) (class : ℕ) where
  pub blank-own : (a b : ℕ) → class ≡ background → blank m background keys classes class a b ≡ stretch m a b
  unfolding blank
  blank-own a b e = rw (eq-eqb class background e)

  pub blank-other : (a b : ℕ) → ¬ (class ≡ background) → blank m background keys classes class a b ≡ []
  unfolding blank
  blank-other a b n = rw (ne_eqb class background n)

  pub blank_none : {a b : ℕ} → b ≤ a → blank m background keys classes class a b ≡ []
  blank_none {a} {b} l = go (ℕ_discrete class background)
    where
      go : Dec (class ≡ background) → blank m background keys classes class a b ≡ []
      go (yes e) = blank-own a b e ∙ stretch-none m l
      go (no n) = blank-other a b n

  pub merged-last : (to at n : ℕ) → merged m background keys classes class to at (up_from n 0) ≡ blank m background keys classes class at to
  unfolding merged
  merged-last to at n = rw (up_none n)

  pub merged-next : (to at : ℕ) {n i s : ℕ} (count : ℕ) → Record m keys n i s → merged m background keys classes class to at (up_from n (suc count))
      ≡ blank m background keys classes class at s
      ++ (picked_around classes class (get_or keys n 0) n ++ merged m background keys classes class to (s + 4 ^ i) (up_from (suc n) count))
  unfolding merged
  merged-next to at {n} count R = rw (up_next n count, start_is R.names, end_is R.names)

  -- the block lies in a record of the class
  pub sparse-whole-key : (key : ℕ) {n : ℕ} → n < length keys → around m keys classes class key n ≡ true → sparse_selected m background keys classes class key ≡ key ∷ []
  unfolding sparse_selected
  sparse-whole-key key l e = rw (some-around m keys classes class key l e)

  -- it lies in none
  pub sparse-merged : {key i s : ℕ} → Names m key i s → ((n : ℕ) → n < length keys → ¬ (around m keys classes class key n ≡ true))
      → sparse_selected m background keys classes class key
      ≡ merged m background keys classes class (s + 4 ^ i) s (up_from (run_of m keys key).first (run_of m keys key).count)
  unfolding sparse_selected
  sparse-merged {key} b h = rw (none-around m keys classes class key h, start_is b, end_is b, met-run m keys key)
