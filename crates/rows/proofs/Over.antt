-- A row that is over what its table can have, and the loop that looks for one.
-- Assumes nothing.
use mathlib.Core.Path.{◌≡◌, sym, ap, ◌∙◌}
use mathlib.Core.Logic.{◌↔◌}
use mathlib.Core.Bool.{true, false}
use mathlib.Core.List.{List, ◌++◌}
use Prim.Native.Nat.{ℕ, ◌+◌, ◌-◌, ◌*◌, ◌≤◌, ◌<◌}
use native.Mathlib.Decide.{dec_lt}
use native.Mathlib.Omega.{arith}
use lib.Dec.{ltb}
use lib.ListN.{length, take, drop, get_or, length-append, length-take, length-drop, get_or-append}
use Rattle.std.proofs.lemmas.List.{get_or-take, get_or-drop}
use lib.Seq.{drop_at, drop-drop}
use borrow.Author.Tests.{ltb-false, lt-ltb, le-ltb}
use Rattle.lists.specs.Lists.{up_from}
use Rattle.lists.proofs.Laws.{never, refuted, neither, up_in, any-has, has-any}
use Rattle.rows.specs.Rows.{Row, row_in, over, any_over}

-- ---- one class

module _ (most maps : ℕ) (x : Row) where
  pub over-sum : most < x.sum → over most maps x ≡ true
  unfolding over
  over-sum l = rw (lt-ltb most x.sum l)

  pub over-clear : (over most maps x ≡ false) ↔ ((x.sum ≤ most) × (x.maps ≤ maps))
  unfolding over
  over-clear = (
    λ e. let t = neither (ltb most x.sum) (ltb maps x.maps) e in (ltb-false most x.sum t.0, ltb-false maps x.maps t.1),
    λ h. rw (le-ltb most x.sum h.0, le-ltb maps x.maps h.1),
  )

  pub over-maps : x.sum ≤ most → maps < x.maps → over most maps x ≡ true
  unfolding over
  over-maps l h = rw (le-ltb most x.sum l, lt-ltb maps x.maps h)

-- ---- the cells of the rows, in chunks of four

-- what is left of them behind the first k rows
abbrev pub left : List ℕ → ℕ → List ℕ
left table k = drop (4 * k) (take 1024 (drop 6 table))

left-length : (table : List ℕ) (k : ℕ) → 1030 ≤ length table → length (left table k) ≡ 1024 - 4 * k
left-length table k long = simp (length-drop, length-take) (omega arith)

pub left-none : (table : List ℕ) (k : ℕ) → 1030 ≤ length table → length (left table k) < 4 → 256 ≤ k
left-none table k long l = omega (arith, left-length table k long)

-- the next chunk, and the rest
pub record Chunk (table : List ℕ) (k : ℕ) (chunk rest : List ℕ) : Type 0 where
  pub long : 1030 ≤ length table
  pub is : left table k ≡ chunk ++ rest
  pub four : length chunk ≡ 4

module _ {table : List ℕ} {k : ℕ} {chunk rest : List ℕ} (C : Chunk table k chunk rest) where
  pub chunk-few : k < 256
  chunk-few = omega (arith, left-length table k C.long, C.four, simp length-append at (ap length C.is))

  chunk-cell : (i : ℕ) → i < 4 → get_or chunk i 0 ≡ get_or table (6 + 4 * k + i) 0
  chunk-cell i l =
      let few = chunk-few in
      let within : i < length chunk = omega (arith, C.four) in
      let below : 4 * k + i < 1024 = omega arith in
      let at : 6 + (4 * k + i) ≡ 6 + 4 * k + i = omega arith in
      sym (get_or-append chunk rest 0 i within) ∙ rw (← C.is, get_or-drop, get_or-take, get_or-drop, at)

  -- it is the row of class k
  pub chunk-row : (get_or chunk 2 0 ≡ (row_in table k).sum) × (get_or chunk 3 0 ≡ (row_in table k).maps)
  chunk-row = (chunk-cell 2 (omega arith), chunk-cell 3 (omega arith))

  pub chunk-rest : rest ≡ left table (k + 1)
  chunk-rest =
      let next : 4 * (k + 1) ≡ 4 * k + 4 = omega arith in
      sym (drop_at chunk rest 4 C.four) ∙ rw (← C.is, next, drop-drop)

-- ---- the loop: none of the first k classes is over

pub record Looking (most maps : ℕ) (table : List ℕ) (k : ℕ) : Type 0 where
  pub few : k ≤ 256
  pub clear : (class : ℕ) → class < k → over most maps (row_in table class) ≡ false

module _ (most maps : ℕ) (table : List ℕ) where
  pub looking-first : Looking most maps table 0
  looking-first = record { few = omega arith; clear = λ class l. absurd (omega arith) }

  -- one that is over is found
  pub looking-found : {k : ℕ} → k < 256 → over most maps (row_in table k) ≡ true → any_over most maps table ≡ true
  unfolding any_over
  looking-found {k} l e = has-any (λ class. over most maps (row_in table class)) ((up_in 0 256 k).1 (omega arith)) e

  pub looking-next : {k : ℕ} → Looking most maps table k → k < 256 → (row_in table k).sum ≤ most → (row_in table k).maps ≤ maps → Looking most maps table (k + 1)
  looking-next {k} L l s n = record { few = omega arith; clear = λ class h. go class h (dec_lt class k) }
    where
      go : (class : ℕ) → class < k + 1 → Dec (class < k) → over most maps (row_in table class) ≡ false
      go class h (yes d) = L.clear class d
      go class h (no d) = let e : class ≡ k = omega (arith, d) in rw e ((over-clear most maps (row_in table k)).1 (s, n))

  pub looking-last : {k : ℕ} → Looking most maps table k → 256 ≤ k → any_over most maps table ≡ false
  unfolding any_over
  looking-last L l = refuted _ (λ e. let t = any-has (λ class. over most maps (row_in table class)) (up_from 0 256) e in
      let d = (up_in 0 256 t.0).0 t.1 in
      never (sym t.2 ∙ L.clear t.0 (omega (arith, d))))

  pub any-clear : (any_over most maps table ≡ false) ↔ ((class : ℕ) → class < 256 → ((row_in table class).sum ≤ most) × ((row_in table class).maps ≤ maps))
  unfolding any_over
  any-clear = (
    λ e class l. (over-clear most maps (row_in table class)).0 (refuted _ (λ t. never (sym (looking-found l t) ∙ e))),
    λ h. looking-last (record { few = omega arith; clear = λ class l. (over-clear most maps (row_in table class)).1 (h class l) }) (omega arith),
  )
