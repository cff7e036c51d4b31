-- The loop that lists the gaps and the records of a block: how far it has come, and from record to record.
-- Assumes nothing.
use mathlib.Core.Path.{◌≡◌, refl, sym, ap, ◌∙◌}
use mathlib.Core.List.{List, [], ◌++◌, append_assoc}
use Prim.Native.Nat.{ℕ, suc, ◌+◌, ◌-◌, ◌^◌, ◌≤◌, ◌<◌}
use native.Mathlib.Numerals.{add-one}
use native.Mathlib.Omega.{arith}
use lib.ListN.{length, get_or, length-append}
use Rattle.lists.specs.Lists.{up_from}
use Rattle.answers.specs.Cells.{Listed}
use Rattle.answers.proofs.Laws.{listed-none, listed_more}
use Rattle.key.specs.declared.Spot.{Spot}
use Rattle.key.specs.Blocks.{Names, SomeBlock}
use Rattle.key.specs.Along.{Stands}
use Rattle.key.proofs.Laws.{one_block}
use Rattle.map.specs.declared.Run.{Run}
use Rattle.map.specs.Runs.{run_of}
use Rattle.map.proofs.Laws.{Record, block-records}
use Rattle.pick.specs.Picked.{picked_around}
use Rattle.stretch.specs.Fewest.{stretch}
use Rattle.sparse_select.specs.Select.{merged, sparse_selected}
use Rattle.sparse_select.specs.Asked.{Asked}
use Rattle.sparse_select.proofs.Pieces.{Pieces, Front, front, block-pieces}
use Rattle.sparse_select.proofs.Merged.{blank-own, merged-last, merged-next}
use Rattle.sparse_select.proofs.Cases.{block-merged}

-- of the block of a key, which ends at `to`, the records from i up to `end` are left, and what has been listed stands before what they and the gaps make
pub record Merging (m : ℕ) (keys classes : List ℕ) (class key to end n : ℕ) (out₀ out : List ℕ) (s : Spot) (i k : ℕ) : Type 0 where
  pub stands : Stands m s
  pub high : i ≤ end
  pub pieces : Pieces m keys to s.place i (end - i)
  pub past : List ℕ
  pub all : sparse_selected m class keys classes class key ≡ past ++ merged m class keys classes class to s.place (up_from i (end - i))
  pub listing : Listed n past out₀ k out

-- at first, where the block starts
module _ {m : ℕ} {keys classes : List ℕ} {class key n : ℕ} {run : Run} (A : Asked m keys classes class key run n) {j t : ℕ} (B : Names m key j t) (short : run.reach ≡ j) where
  pub merging-room : run.first + run.count ≤ 65536
  merging-room = rw A.is (omega (arith, (block-records A.spaced B).room, A.few))

  pub merging-first : (out : List ℕ) {s : Spot} {to end : ℕ} → s.place ≡ t → Stands m s → to ≡ t + 4 ^ j → end ≡ run.first + run.count
      → Merging m keys classes class key to end n out out s run.first n
  merging-first out {s} {to} {end} e S d f =
      let c : end - run.first ≡ run.count = omega arith in
      let r : (run_of m keys key).reach ≡ j = rw A.is at short in
      record {
        stands = S;
        high = omega arith;
        pieces = rw (e, d, c, A.is) (block-pieces A.spaced B r);
        past = [];
        all = rw (e, d, c, A.is) (block-merged A.spaced class classes A.same class B r);
        listing = listed-none n out;
      }

module _ {m : ℕ} {keys classes : List ℕ} {class key to end n : ℕ} {out₀ out : List ℕ} {s : Spot} {i k : ℕ} (M : Merging m keys classes class key to end n out₀ out s i k) where
  -- behind the last record
  pub merging-end : end ≤ i → sparse_selected m class keys classes class key ≡ M.past ++ stretch m s.place to
  merging-end l =
      let e : end - i ≡ 0 = omega arith in
      M.all ∙ rw (e, merged-last m class keys classes class to s.place i, blank-own m class keys classes class s.place to refl)

  pub merging-last : {out' : List ℕ} {k' : ℕ} → end ≤ i → Listed k (stretch m s.place to) out k' out'
      → Listed n (sparse_selected m class keys classes class key) out₀ k' out'
  merging-last l L = rw (merging-end l) (listed_more M.listing L)

  pub merging-few : end ≤ i → k + length (stretch m s.place to) ≡ n + length (sparse_selected m class keys classes class key)
  merging-few l = omega (arith, M.listing.count, simp length-append at (ap length (merging-end l)))

  -- at a record
  module _ (l : i < end) where
    ahead : Front m keys to s.place i (end - i)
    ahead = front (omega arith) M.pieces

    pub merging-record : (i < length keys) × SomeBlock m (get_or keys i 0)
    merging-record = (ahead.is.within, record { exponent = ahead.exponent; start = ahead.start; names = ahead.is.names })

    module _ {e t : ℕ} (N : Names m (get_or keys i 0) e t) where
      own : (ahead.exponent ≡ e) × (ahead.start ≡ t)
      own = one_block ahead.is.names N

      abbrev rest : List ℕ
      rest = merged m class keys classes class to (t + 4 ^ e) (up_from (suc i) (end - suc i))

      abbrev gap : List ℕ
      gap = stretch m s.place t

      abbrev picks : List ℕ
      picks = picked_around classes class (get_or keys i 0) i

      split : sparse_selected m class keys classes class key ≡ M.past ++ (gap ++ (picks ++ rest))
      split =
          let c : end - i ≡ suc (end - suc i) = omega arith in
          let R : Record m keys i e t = record { within = ahead.is.within; names = N } in
          M.all ∙ rw (c, merged-next m class keys classes class to s.place (end - suc i) R, blank-own m class keys classes class s.place t refl)

      pub merging-some : k + length (stretch m s.place t) + length (picked_around classes class (get_or keys i 0) i)
          ≤ n + length (sparse_selected m class keys classes class key)
      merging-some = omega (arith, M.listing.count, simp length-append at (ap length split))

      pub merging-next : {k' k'' : ℕ} {out' out'' : List ℕ} {s' : Spot} → Listed k (stretch m s.place t) out k' out'
          → Listed k' (picked_around classes class (get_or keys i 0) i) out' k'' out''
          → s'.place ≡ t + 4 ^ e → Stands m s' → Merging m keys classes class key to end n out₀ out'' s' (i + 1) k''
      merging-next {s' = s'} L K p S =
          let c : end - i - 1 ≡ end - suc i = omega arith in
          rw add-one (record {
            stands = S;
            high = omega arith;
            pieces = rw p (rw (own.0, own.1, c) at ahead.rest);
            past = M.past ++ (gap ++ picks);
            all = split ∙ rw p (ap (λ (x : List ℕ). M.past ++ x) (sym (append_assoc gap picks rest)) ∙ sym (append_assoc M.past (gap ++ picks) rest));
            listing = listed_more M.listing (listed_more L K);
          })
