-- What salvage answers, test by test.
-- Assumes nothing.
use mathlib.Core.Path.{◌≡◌, sym, ◌∙◌}
use mathlib.Core.Bool.{false}
use mathlib.Core.List.{List}
use Prim.Native.Nat.{ℕ}
use lib.ListN.{length}
use Rattle.std.specs.Prelude.{Ok, Err}
use Rattle.answers.specs.declared.Refused.{Refused}
use Rattle.answers.specs.Refusals.{verdict}
use Rattle.answers.specs.Sizes.{size_refusals_in}
use Rattle.answers.specs.After.{after}
use Rattle.answers.proofs.Laws.{on-passed, append-passed, append-refused, on-refused}
use Rattle.salvage.specs.Salvage.{mends, salvaged, entries, result_refusals, salvage_refusals, counted, salvage_of}
use Rattle.salvage.specs.Making.{sheet, Makes}
use Rattle.salvage.proofs.Making.{makes-all}
use Rattle.salvage.proofs.Table.{result-room}

module _ (m : ℕ) (keys classes K P L : List ℕ) where
  pub salvage-sizes : {e : Refused} → verdict (size_refusals_in false m (length keys) (length classes)) ≡ Err e → after (Err e) (K, P, L) ≡ salvage_of m keys classes K P L
  unfolding salvage_of salvage_refusals
  salvage-sizes v = sym (append-refused _ (size_refusals_in false m (length keys) (length classes)) _ _ v)

  module _ (s : verdict (size_refusals_in false m (length keys) (length classes)) ≡ Ok tt) {q n : ℕ} (c : (q ≡ length (salvaged m keys classes)) × (n ≡ length (entries m keys))) where
    pub salvage-short : {e : Refused} → verdict (result_refusals q n (length K) (length P) (length L)) ≡ Err e → after (Err e) (K, P, L) ≡ salvage_of m keys classes K P L
    unfolding salvage_of salvage_refusals
    salvage-short v =
        sym (append-passed _ (size_refusals_in false m (length keys) (length classes)) _ _ s
        ∙ on-refused _ (result_refusals (length (salvaged m keys classes)) (length (entries m keys)) (length K) (length P) (length L)) _ (rw (c.0, c.1) at v))

    pub salvage-done : verdict (result_refusals q n (length K) (length P) (length L)) ≡ Ok tt → {records logged : ℕ} {K' P' L' : List ℕ}
        → Makes keys classes (mends m keys) (sheet 0 0 K P L) (sheet records logged K' P' L') → after (Ok (counted q n)) (K', P', L') ≡ salvage_of m keys classes K P L
    unfolding salvage_of salvage_refusals salvaged entries
    salvage-done v M =
        let t = rw (c.0, c.1) at v in
        let room = result-room _ _ _ _ _ t in
        let w = makes-all M room.1 room.2 room.3 in
        rw (c.0, c.1, w.0, w.1, w.2)
        (sym (append-passed _ (size_refusals_in false m (length keys) (length classes)) _ _ s ∙ on-passed _ (result_refusals _ _ (length K) (length P) (length L)) _ t))
