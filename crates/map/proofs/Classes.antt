-- The class of a place over a background: that of its record, whatever the background; the background's where no record has it; and in a whole map never the background's.
-- Assumes nothing.
use mathlib.Core.Path.{◌≡◌, sym, ◌∙◌}
use mathlib.Core.List.{List}
use Prim.Native.Nat.{ℕ, ◌^◌, ◌<◌}
use native.Mathlib.Omega.{arith}
use lib.ListN.{length, get_or, get_or-eq_default}
use Rattle.lists.proofs.Laws.{get_or-same}
use Rattle.map.specs.Sound.{Follow, Spaced}
use Rattle.map.specs.Records.{record_of}
use Rattle.map.specs.Classes.{class_over, class_in}
use Rattle.map.proofs.Tiles.{Holder, Free}
use Rattle.map.proofs.Order.{spaced, holder}
use Rattle.map.proofs.Holding.{record_of_lem, record-none}

module _ {m : ℕ} {keys : List ℕ} (F : Spaced m 0 keys) (classes : List ℕ) (n : length keys ≡ length classes) (background : ℕ) {q : ℕ} where
  pub class-held : (H : Holder m keys q) → class_over background m keys classes q ≡ get_or classes H.index 0
  class-held H = rw (record_of_lem F H) (get_or-same classes H.index background 0 (omega (arith, H.is.within)))

  pub class-free : Free m keys q → class_over background m keys classes q ≡ background
  class-free f = get_or-eq_default classes background {n = record_of m keys q} (omega (arith, record-none F f))

pub over-whole : {m : ℕ} {keys : List ℕ} → Follow m 0 keys → (classes : List ℕ) → length keys ≡ length classes
    → (background : ℕ) {q : ℕ} → q < 4 ^ m → class_over background m keys classes q ≡ class_in m keys classes q
over-whole F classes n background {q} l = let H = holder F q (omega arith) l in class-held (spaced F) classes n background H ∙ sym (class-held (spaced F) classes n 0 H)
