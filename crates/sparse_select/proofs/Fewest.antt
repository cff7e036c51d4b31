-- Of a block, what is listed of the background that is no record: the fewest blocks that make up the places of the block in no record.
-- Assumes nothing.
use mathlib.Core.Path.{◌≡◌, sym, ◌∙◌}
use mathlib.Core.Logic.{◌↔◌}
use mathlib.Core.Bool.{Bool, true, false}
use mathlib.Core.List.{List, [], ◌++◌, Memᴰ}
use Prim.Native.Nat.{ℕ, suc, ◌+◌, ◌-◌, ◌^◌, ◌≤◌, ◌<◌}
use native.Mathlib.Decide.{ℕ_discrete}
use native.Mathlib.Omega.{arith}
use lib.ListN.{length, get_or}
use Rattle.lists.specs.Lists.{up_from, keep}
use Rattle.lists.proofs.Laws.{never, refuted, both, keep-empty, keep-passed, keep_all, keep-none, keep_append}
use Rattle.key.specs.Blocks.{Names, Among}
use Rattle.key.proofs.Laws.{block-lies, pow-least}
use Rattle.map.specs.Sound.{Spaced}
use Rattle.map.proofs.Laws.{Record, Holder, start_is, is_free_lem, unfree}
use Rattle.pick.specs.Picked.{picked_around}
use Rattle.pick.proofs.Laws.{around-has, around-not}
use Rattle.stretch.specs.Promises.{Cut, MakesUp}
use Rattle.stretch.specs.Sets.{between}
use Rattle.stretch.specs.Fewest.{fewest, stretch}
use Rattle.stretch.proofs.Laws.{between_is, stretch-makes, gap-last, gap-next, cut_out, cut-behind, fewest-empty, not_start, fewest-makes, fewest-least}
use Rattle.sparse_select.specs.Select.{merged, sparse_selected}
use Rattle.map.specs.Promises.{is_free}
use Rattle.sparse_select.specs.Promises.{free_in, bare, held}
use Rattle.sparse_select.proofs.Pieces.{Gap, Pieces, last, next, block-pieces}
use Rattle.sparse_select.proofs.Merged.{blank-own, merged-last, merged-next}
use Rattle.sparse_select.proofs.Block.{Case, whole, other, parts, case}

module _ {m : ℕ} {keys : List ℕ} (F : Spaced m 0 keys) where
  -- ---- places in no record

  in_is : (a b q : ℕ) → (free_in m keys a b q ≡ true) ↔ ((between a b q ≡ true) × (is_free m keys q ≡ true))
  unfolding free_in
  in_is a b q = both (between a b q) (is_free m keys q)

  in-not : (a b : ℕ) {n i s q : ℕ} → Record m keys n i s → Among s (4 ^ i) q → free_in m keys a b q ≡ false
  in-not a b {q = q} R h = refuted _ (λ e. never (sym ((in_is a b q).0 e).1 ∙ unfree F R h))

  -- by a block's first place
  bare-is : {x i s : ℕ} → Names m x i s → bare m keys x ≡ is_free m keys s
  unfolding bare
  bare-is b = rw (start_is b)

  -- ---- of what is listed, what is in no record

  gap-bare : {a b : ℕ} → b ≤ 4 ^ m → Gap m keys a b → (x : ℕ) → Memᴰ x (stretch m a b) → bare m keys x ≡ true
  gap-bare {a} {b} room G x l =
      let L = (stretch-makes m a b room).inside x l in
      let h = (between_is a b L.start).0 (L.inside L.start (omega (arith, pow-least 3 L.exponent))) in
      bare-is L.names ∙ is_free_lem F (G.free L.start h.0 h.1)

  gap-kept : {a b : ℕ} → b ≤ 4 ^ m → Gap m keys a b → keep (bare m keys) (stretch m a b) ≡ stretch m a b
  gap-kept {a} {b} room G = keep_all (bare m keys) (stretch m a b) (gap-bare room G)

  -- and what starts in a record
  pub starts-held : {x i s : ℕ} → Names m x i s → Holder m keys s → held m keys x ≡ true
  unfolding held
  starts-held b H = rw (bare-is b ∙ unfree F H.is H.has)

  pub gap-dropped : {a b : ℕ} → b ≤ 4 ^ m → Gap m keys a b → keep (held m keys) (stretch m a b) ≡ []
  unfolding held
  gap-dropped {a} {b} room G = keep-none (held m keys) (stretch m a b) (λ x l. rw (gap-bare room G x l))

  record-kept : (classes : List ℕ) (class : ℕ) {n i s : ℕ} → Record m keys n i s → keep (bare m keys) (picked_around classes class (get_or keys n 0) n) ≡ []
  record-kept classes class {n} {i} {s} R = go (ℕ_discrete (get_or classes n 0) class)
    where
      out : bare m keys (get_or keys n 0) ≡ false
      out = bare-is R.names ∙ unfree F R (omega (arith, pow-least 3 i))

      go : Dec (get_or classes n 0 ≡ class) → keep (bare m keys) (picked_around classes class (get_or keys n 0) n) ≡ []
      go (yes e) = rw (around-has classes class (get_or keys n 0) n e, keep-passed (bare m keys) {x = get_or keys n 0} [] out, keep-empty (bare m keys))
      go (no d) = rw (around-not classes class (get_or keys n 0) n d, keep-empty (bare m keys))

  module _ (background : ℕ) (classes : List ℕ) (class : ℕ) (own : class ≡ background) (low to : ℕ) (room : to ≤ 4 ^ m) where
    abbrev P : ℕ → Bool
    P = free_in m keys low to

    along : {a b : ℕ} → low ≤ a → b ≤ to → Gap m keys a b → (q : ℕ) → a ≤ q → q < b → free_in m keys low to q ≡ true
    along l h G q u v = (in_is low to q).1 ((between_is low to q).1 (omega arith), is_free_lem F (G.free q u v))

    end-cut : Cut (free_in m keys low to) to
    end-cut = cut_out (refuted _ (λ e. omega (arith, (between_is low to to).0 ((in_is low to to).0 e).0)))

    merged-kept : {at n count : ℕ} → low ≤ at → Cut (free_in m keys low to) at → Pieces m keys to at n count
        → keep (bare m keys) (merged m background keys classes class to at (up_from n count)) ≡ fewest m (free_in m keys low to) at (to - at)
    merged-kept {at} {n} l C (last G) =
        rw (merged-last m background keys classes class to at n, blank-own m background keys classes class at to own)
        (gap-kept room G ∙ sym (gap-last m G.order (along l (omega arith) G) C end-cut))
    merged-kept {at} {n} l C (next {count = count} {i = i} {s = s} {end = end} G R e h N) =
        let p = pow-least 3 i in
        let out : (q : ℕ) → s ≤ q → q < end → free_in m keys low to q ≡ false = λ q u v. in-not low to R (omega arith) in
        let D : Cut (free_in m keys low to) end = cut-behind {x = end - 1} (omega arith) (out (end - 1) (omega arith) (omega arith)) in
        let rest : List ℕ = merged m background keys classes class to end (up_from (suc n) count) in
        let key : List ℕ = picked_around classes class (get_or keys n 0) n in
        rw (
          merged-next m background keys classes class to at count R,
          ← e,
          blank-own m background keys classes class at s own,
          keep_append (bare m keys) (stretch m at s) (key ++ rest),
          keep_append (bare m keys) key rest,
          record-kept classes class R,
          gap-kept (omega arith) G,
          merged-kept (omega (arith, G.order)) D N,
        )
        (sym (gap-next m G.order (along l (omega arith) G) C {u = end} {end = to} (omega arith) h out))

  -- ---- the law

  module _ (background : ℕ) (classes : List ℕ) (same : length keys ≡ length classes) (class : ℕ) (own : class ≡ background) {key i s : ℕ} (B : Names m key i s) where
    abbrev chosen : List ℕ
    chosen = sparse_selected m background keys classes class key

    -- where a record is around the block there is no such place
    none_free : {n j t : ℕ} → Record m keys n j t → t ≤ s → s + 4 ^ i ≤ t + 4 ^ j → fewest m (free_in m keys s (s + 4 ^ i)) s (4 ^ i) ≡ []
    none_free R l h = fewest-empty m (free_in m keys s (s + 4 ^ i)) s (4 ^ i) (λ q u v. not_start m (free_in m keys s (s + 4 ^ i)) (in-not s (s + 4 ^ i) R (omega arith)))

    pub sparse-fewest : keep (bare m keys) (sparse_selected m background keys classes class key) ≡ fewest m (free_in m keys s (s + 4 ^ i)) s (4 ^ i)
    sparse-fewest = go (case F background classes same class B)
      where
        go : Case F background classes same class key i s → keep (bare m keys) (sparse_selected m background keys classes class key) ≡ fewest m (free_in m keys s (s + 4 ^ i)) s (4 ^ i)
        go (whole R c e d) =
            let out : bare m keys key ≡ false = bare-is B ∙ unfree F R (omega (arith, pow-least 3 i)) in
            rw (d, keep-passed (bare m keys) {x = key} [] out, keep-empty (bare m keys)) (sym (none_free R c.least c.most))
        go (other R c e d) = rw (d, keep-empty (bare m keys)) (sym (none_free R c.least c.most))
        go (parts e d) =
            let z : s + 4 ^ i - s ≡ 4 ^ i = omega arith in
            let C : Cut (free_in m keys s (s + 4 ^ i)) s = record { apart = λ q x u v. omega (arith, (between_is s (s + 4 ^ i) q).0 ((in_is s (s + 4 ^ i) q).0 u).0) } in
            rw d (rw z at (merged-kept background classes class own s (s + 4 ^ i) (block-lies B).span (omega arith) C (block-pieces F B e)))

    -- so they make these places up
    there : (q : ℕ) → free_in m keys s (s + 4 ^ i) q ≡ true → Among s (4 ^ i) q
    there q e = let h = (between_is s (s + 4 ^ i) q).0 ((in_is s (s + 4 ^ i) q).0 e).0 in omega arith

    low : (q : ℕ) → free_in m keys s (s + 4 ^ i) q ≡ true → q < 4 ^ m
    low q e = omega (arith, there q e, (block-lies B).span)

    pub sparse-gaps : MakesUp m (free_in m keys s (s + 4 ^ i)) (keep (bare m keys) (sparse_selected m background keys classes class key))
    sparse-gaps = rw sparse-fewest (fewest-makes m (free_in m keys s (s + 4 ^ i)) low s (4 ^ i) there)

    -- and no fewer blocks do
    pub sparse-least : {ks : List ℕ} → MakesUp m (free_in m keys s (s + 4 ^ i)) ks → length (keep (bare m keys) (sparse_selected m background keys classes class key)) ≤ length ks
    sparse-least M = rw sparse-fewest (fewest-least m (free_in m keys s (s + 4 ^ i)) low s (4 ^ i) M)
