-- What starts in a record is listed as in a map without gaps. For a class other than that of the background, and on a whole map, that is all.
-- Assumes nothing.
use mathlib.Core.Path.{◌≡◌, refl, sym, ◌∙◌}
use mathlib.Core.Bool.{Bool, true}
use mathlib.Core.List.{List, [], ◌++◌}
use Prim.Native.Nat.{ℕ, suc, ◌^◌, ◌≤◌, ◌<◌}
use native.Mathlib.Decide.{dec_lt, ℕ_discrete}
use native.Mathlib.Omega.{arith}
use lib.ListN.{length, get_or}
use Rattle.lists.specs.Lists.{up_from, keep}
use Rattle.lists.proofs.Laws.{flat-same, keep-empty, keep_taken, keep_all, keep_append}
use Rattle.key.specs.Blocks.{Names}
use Rattle.key.proofs.Laws.{Covers, block-lies, nested, pow-least}
use Rattle.window.specs.declared.Window.{Window}
use Rattle.window.specs.Window.{Inside}
use Rattle.window.specs.Blocks.{maximal}
use Rattle.window.specs.Keys.{key_of}
use Rattle.window.proofs.Laws.{key-named}
use Rattle.map.specs.Runs as runs
use Rattle.map.specs.Runs.{run_of}
use Rattle.map.specs.Sound.{Follow, Spaced}
use Rattle.map.proofs.Laws.{Record, Holder, spaced, holder, found-around}
use Rattle.pick.specs.Picked.{picked_around, picked_run, picked}
use Rattle.pick.proofs.Laws.{around-has, around-not, picks-one, picked_none, picked_next, picked-around, picked-inside}
use Rattle.border.proofs.Laws.{listed-corner}
use Rattle.select.specs.Select.{selected, selection}
use Rattle.select.proofs.Laws.{around-is, selected-whole, selected-met, selection-flat}
use Rattle.sparse_select.specs.Select.{blank, merged, sparse_selected, sparse_selection}
use Rattle.sparse_select.specs.Promises.{held}
use Rattle.sparse_select.proofs.Pieces.{Gap, Pieces, last, next, block-pieces}
use Rattle.sparse_select.proofs.Merged.{blank-own, blank-other, blank_none, merged-last, merged-next}
use Rattle.sparse_select.proofs.Block.{Case, whole, other, parts, case}
use Rattle.sparse_select.proofs.Window.{listed_of, sparse-is}
use Rattle.sparse_select.proofs.Fewest.{starts-held, gap-dropped}

-- by a test that keeps of what is listed no block of a gap, and every block that starts in a record
module _ {m : ℕ} {keys : List ℕ} (F : Spaced m 0 keys) (background : ℕ) (classes : List ℕ) (same : length keys ≡ length classes) (class : ℕ) (test : ℕ → Bool)
    (empty : (a b : ℕ) → b ≤ 4 ^ m → Gap m keys a b → keep test (blank m background keys classes class a b) ≡ [])
    (starts : (x i s : ℕ) → Names m x i s → Holder m keys s → test x ≡ true) where
  -- so it keeps every record
  kept : {n i s : ℕ} → Record m keys n i s → keep test (picked_around classes class (get_or keys n 0) n) ≡ picked_around classes class (get_or keys n 0) n
  kept {n} {i} {s} R = go (ℕ_discrete (get_or classes n 0) class)
    where
      own : test (get_or keys n 0) ≡ true
      own = starts (get_or keys n 0) i s R.names (record { index = n; exponent = i; start = s; is = R; has = omega (arith, pow-least 3 i) })

      go : Dec (get_or classes n 0 ≡ class) → keep test (picked_around classes class (get_or keys n 0) n) ≡ picked_around classes class (get_or keys n 0) n
      go (yes e) = rw (around-has classes class (get_or keys n 0) n e, keep_taken test {x = get_or keys n 0} [] own, keep-empty test)
      go (no d) = rw (around-not classes class (get_or keys n 0) n d, keep-empty test)

  merged-picked : {to at n count : ℕ} → to ≤ 4 ^ m → Pieces m keys to at n count
      → keep test (merged m background keys classes class to at (up_from n count)) ≡ picked_run keys classes class n count
  merged-picked {to} {at} {n} room (last G) = rw (merged-last m background keys classes class to at n, empty at to room G) (sym (picked_none keys classes class n))
  merged-picked {to} {at} {n} room (next {count = count} {i = i} {s = s} {end = end} G R e l P) =
      let p = pow-least 3 i in
      let rest : List ℕ = merged m background keys classes class to end (up_from (suc n) count) in
      rw (
        merged-next m background keys classes class to at count R,
        ← e,
        keep_append test (blank m background keys classes class at s) (picked_around classes class (get_or keys n 0) n ++ rest),
        keep_append test (picked_around classes class (get_or keys n 0) n) rest,
        empty at s (omega arith) G,
        kept R,
        merged-picked room P,
      )
      (sym (picked_next keys classes class n count))

  module _ {key i s : ℕ} (B : Names m key i s) where
    -- a record of another class, around the block
    none-picked : {n j t : ℕ} → Record m keys n j t → Covers t (4 ^ j) s (4 ^ i) → ¬ (get_or classes n 0 ≡ class) → selected m keys classes class key ≡ []
    none-picked {n} {j} R c d = selected-met F classes class B ∙ rw (found-around F B R ((nested R.names B).0 c)) (go (dec_lt i j))
      where
        go : Dec (i < j) → picked keys classes class key i (runs.run n 1 j) ≡ []
        go (yes l) = picked-around keys classes class key i (runs.run n 1 j) l ∙ around-not classes class key n d
        go (no l) = picked-inside keys classes class key i (runs.run n 1 j) (omega arith) ∙ picks-one keys classes class n ∙ around-not classes class (get_or keys n 0) n d

    block-kept : keep test (sparse_selected m background keys classes class key) ≡ selected m keys classes class key
    block-kept = go (case F background classes same class B)
      where
        go : Case F background classes same class key i s → keep test (sparse_selected m background keys classes class key) ≡ selected m keys classes class key
        go (whole {n = n} {j = j} {t = t} R c e d) =
            let H : Holder m keys s = record { index = n; exponent = j; start = t; is = R; has = omega (arith, c.least, c.most, pow-least 3 i) } in
            rw (d, keep_taken test {x = key} [] (starts key i s B H), keep-empty test)
            (sym (selected-whole m keys classes class key R.within ((around-is classes class B R).1 (e, c))))
        go (other R c e d) = rw (d, keep-empty test) (sym (none-picked R c e))
        go (parts e d) =
            rw d (merged-picked (block-lies B).span (block-pieces F B e))
            ∙ sym (selected-met F classes class B ∙ picked-inside keys classes class key i (run_of m keys key) (omega arith))

-- where no gap is listed at all
module _ {m : ℕ} {keys : List ℕ} (F : Spaced m 0 keys) (background : ℕ) (classes : List ℕ) (same : length keys ≡ length classes) (class : ℕ)
    (empty : (a b : ℕ) → b ≤ 4 ^ m → Gap m keys a b → blank m background keys classes class a b ≡ []) where
  block-plain : {key i s : ℕ} → Names m key i s → sparse_selected m background keys classes class key ≡ selected m keys classes class key
  block-plain {key} B =
      sym (keep_all all (sparse_selected m background keys classes class key) (λ x l. refl))
      ∙ block-kept F background classes same class all (λ a b l G. rw (empty a b l G) (keep-empty all)) (λ x i s b H. refl) B
    where
      all : ℕ → Bool
      all x = true

  all_plain : {top : ℕ} {W : Window} → Inside m W → top ≤ m → sparse_selection m top background keys classes W class ≡ selection m top keys classes W class
  all_plain {top} {W} I small =
      rw (sparse-is m top background keys classes W class, selection-flat m keys classes class top W)
      (flat-same (listed_of m top background keys classes W class) (λ b. selected m keys classes class (key_of m top W b)) (maximal W top)
      (λ b l. let C = listed-corner l in block-plain (key-named I small C.inside C.own)))

-- of any class what starts in a record is listed as in a map without gaps
pub sparse-records : {m : ℕ} {keys : List ℕ} → Spaced m 0 keys → (background : ℕ) (classes : List ℕ) → length keys ≡ length classes
    → (class : ℕ) {key i s : ℕ} → Names m key i s
    → keep (held m keys) (sparse_selected m background keys classes class key) ≡ selected m keys classes class key
sparse-records {m} {keys} F background classes same class B =
    block-kept F background classes same class (held m keys) (λ a b l G. go a b l G (ℕ_discrete class background)) (λ x i s b H. starts-held F b H) B
  where
    go : (a b : ℕ) → b ≤ 4 ^ m → Gap m keys a b → Dec (class ≡ background) → keep (held m keys) (blank m background keys classes class a b) ≡ []
    go a b l G (yes e) = rw (blank-own m background keys classes class a b e) (gap-dropped F l G)
    go a b l G (no n) = rw (blank-other m background keys classes class a b n) (keep-empty (held m keys))

-- and for another than the background's that is all
pub sparse-other : {m : ℕ} {keys : List ℕ} → Spaced m 0 keys → (background : ℕ) (classes : List ℕ) → length keys ≡ length classes → (class : ℕ) → ¬ (class ≡ background)
    → {key i s : ℕ} → Names m key i s → sparse_selected m background keys classes class key ≡ selected m keys classes class key
sparse-other {m} {keys} F background classes same class n = block-plain F background classes same class (λ a b l G. blank-other m background keys classes class a b n)

-- a class other than the background's
pub sparse-plain : {m top : ℕ} {keys : List ℕ} → Spaced m 0 keys → {W : Window} → Inside m W → top ≤ m → (background : ℕ) (classes : List ℕ) → length keys ≡ length classes
    → (class : ℕ) → ¬ (class ≡ background) → sparse_selection m top background keys classes W class ≡ selection m top keys classes W class
sparse-plain {m} {keys = keys} F I small background classes same class n =
    all_plain F background classes same class (λ a b l G. blank-other m background keys classes class a b n) I small

-- a whole map, and any class
pub sparse-whole : {m top : ℕ} {keys : List ℕ} → Follow m 0 keys → {W : Window} → Inside m W → top ≤ m → (background : ℕ) (classes : List ℕ) → length keys ≡ length classes
    → (class : ℕ) → sparse_selection m top background keys classes W class ≡ selection m top keys classes W class
sparse-whole {m} {keys = keys} F I small background classes same class = all_plain (spaced F) background classes same class (λ a b l G. go a b l G (dec_lt a b)) I small
  where
    go : (a b : ℕ) → b ≤ 4 ^ m → Gap m keys a b → Dec (a < b) → blank m background keys classes class a b ≡ []
    go a b l G (yes h) = let H = holder F a (omega arith) (omega arith) in absurd ((G.free a (omega arith) h).none H.is H.has)
    go a b l G (no h) = blank_none m background keys classes class (omega arith)
