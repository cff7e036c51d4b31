-- The tables of salvage, refusal by refusal, and what they pass.
-- Assumes nothing.
use mathlib.Core.Path.{◌≡◌, refl, ◌∙◌}
use mathlib.Core.Logic.{◌↔◌}
use mathlib.Core.Bool.{false}
use mathlib.Core.List.{List, ◌++◌, flat_map}
use Prim.Native.Nat.{ℕ, ◌*◌, ◌≤◌, ◌<◌}
use native.Mathlib.Omega.{arith}
use lib.Dec.{ltb}
use lib.ListN.{length}
use borrow.Author.Tests.{ltb-false, lt-ltb, le-ltb}
use Rattle.std.specs.Prelude.{Ok}
use Rattle.answers.specs.declared.Cause.TheVariants.{BadCount, ShortRoom}
use Rattle.answers.specs.Refusals.{refuse, verdict}
use Rattle.answers.specs.Sizes.{size_refusals_in}
use Rattle.answers.specs.Cells.{overwrite}
use Rattle.answers.specs.After.{after, unless, room_refusals}
use Rattle.answers.proofs.Laws.{refusal-held, refusal-clear, append-passed, append-refused, passed-next, passed-append, room-passed, room-refused, sized}
use Rattle.answers.proofs.Laws.{Numbered, numbered_next, numbered-append, numbered-sizes, numbered-room}
use Rattle.salvage.specs.Salvage.{mends, brings, logs, firsts, seconds, cells, salvaged, entries, result_refusals, salvage_refusals, counted, salvage_of}
use Rattle.salvage.specs.Promises.{Salvageable}

-- a result of q records, with n entries
module _ (q n keys classes log : ℕ) where
  pub result-many : 65536 < q → verdict (result_refusals q n keys classes log) ≡ refuse BadCount 0
  unfolding result_refusals
  result-many h = refusal-held refuse BadCount 0 _ (Ok tt) (lt-ltb 65536 q h)

  module _ (few : q ≤ 65536) where
    behind : verdict (result_refusals q n keys classes log) ≡ verdict (room_refusals keys q ++ (room_refusals classes q ++ room_refusals log (2 * n)))
    unfolding result_refusals
    behind = refusal-clear refuse BadCount 0 _ (Ok tt) (le-ltb 65536 q few)

    pub result-keys : keys < q → verdict (result_refusals q n keys classes log) ≡ refuse ShortRoom q
    result-keys h = behind ∙ append-refused refuse (room_refusals keys q) _ (Ok tt) (room-refused keys q h)

    module _ (k : q ≤ keys) where
      keyed : verdict (result_refusals q n keys classes log) ≡ verdict (room_refusals classes q ++ room_refusals log (2 * n))
      keyed = behind ∙ append-passed refuse (room_refusals keys q) _ (Ok tt) ((room-passed keys q).1 k)

      pub result-classes : classes < q → verdict (result_refusals q n keys classes log) ≡ refuse ShortRoom q
      result-classes h = keyed ∙ append-refused refuse (room_refusals classes q) _ (Ok tt) (room-refused classes q h)

      module _ (c : q ≤ classes) where
        classed : verdict (result_refusals q n keys classes log) ≡ verdict (room_refusals log (2 * n))
        classed = keyed ∙ append-passed refuse (room_refusals classes q) _ (Ok tt) ((room-passed classes q).1 c)

        pub result-log : log < 2 * n → verdict (result_refusals q n keys classes log) ≡ refuse ShortRoom (2 * n)
        result-log h = classed ∙ room-refused log (2 * n) h

        pub result-passed : 2 * n ≤ log → verdict (result_refusals q n keys classes log) ≡ Ok tt
        result-passed h = classed ∙ (room-passed log (2 * n)).1 h

  -- where none holds: there are not too many, and there is room for all
  pub result-room : verdict (result_refusals q n keys classes log) ≡ Ok tt → (q ≤ 65536) × (q ≤ keys) × (q ≤ classes) × (2 * n ≤ log)
  unfolding result_refusals
  result-room e =
      let t = (passed-next (ltb 65536 q) BadCount 0 _).0 e in
      let k = (passed-append (room_refusals keys q) _).0 t.1 in
      let c = (passed-append (room_refusals classes q) _).0 k.1 in
      (ltb-false 65536 q t.0, (room-passed keys q).0 k.0, (room-passed classes q).0 c.0, (room-passed log (2 * n)).0 c.1)

-- ---- all refusals

module _ (m : ℕ) (keys classes : List ℕ) (out-keys out-classes log : ℕ) where
  pub numbered-salvage : Numbered 8 (salvage_refusals m keys classes out-keys out-classes log)
  unfolding salvage_refusals result_refusals
  numbered-salvage =
      numbered-append (numbered-sizes false m (length keys) (length classes) (omega arith))
      (numbered_next BadCount (omega arith) (omega arith)
      (numbered-append (numbered-room out-keys _ (omega arith)) (numbered-append (numbered-room out-classes _ (omega arith)) (numbered-room log _ (omega arith)))))

  pub salvage-passed : (verdict (salvage_refusals m keys classes out-keys out-classes log) ≡ Ok tt) ↔ Salvageable m keys classes out-keys out-classes log
  unfolding salvage_refusals
  salvage-passed = (
    λ e.
        let t = (passed-append (size_refusals_in false m (length keys) (length classes)) _).0 e in
        let r = result-room _ _ _ _ _ t.1 in
        record { sizes = sized.0 t.0; few = r.0; keys-room = r.1; classes-room = r.2; log-room = r.3 },
    λ s. (passed-append (size_refusals_in false m (length keys) (length classes)) _).1
        (sized.1 s.sizes, result-passed _ _ _ _ _ s.few s.keys-room s.classes-room s.log-room),
  )

-- an outcome behind them
pub salvage-is : (m : ℕ) (keys classes K P L : List ℕ) → salvage_of m keys classes K P L ≡
    unless refuse (salvage_refusals m keys classes (length K) (length P) (length L)) (K, P, L)
    (after (Ok (counted (length (salvaged m keys classes)) (length (entries m keys))))
    (overwrite (firsts (salvaged m keys classes)) K, overwrite (seconds (salvaged m keys classes)) P, overwrite (cells (entries m keys)) L))
unfolding salvage_of
salvage-is m keys classes K P L = refl

-- the result and the log by what is done
pub salvaged-is : (m : ℕ) (keys classes : List ℕ) → salvaged m keys classes ≡ flat_map (brings keys classes) (mends m keys)
unfolding salvaged
salvaged-is m keys classes = refl

pub entries-are : (m : ℕ) (keys : List ℕ) → entries m keys ≡ flat_map logs (mends m keys)
unfolding entries
entries-are m keys = refl
