-- The columns in which something is not out yet: all at first, fewer by those that an opened block closes; and where none is left, every block is skipped.
-- Assumes nothing.
use mathlib.Core.Path.{◌≡◌, refl, sym, ap, ◌∙◌}
use mathlib.Core.Bool.{Bool, true, false, cond}
use mathlib.Core.List.{List, ◌++◌, Memᴰ}
use Prim.Native.Nat.{ℕ, ◌+◌, ◌-◌, ◌≤◌, ◌<◌}
use native.Mathlib.Decide.{dec_lt}
use native.Mathlib.Omega.{arith}
use lib.Dec.{ltb}
use lib.ListN.{length, get_or}
use borrow.Author.Tests.{lt-ltb, le-ltb}
use Rattle.lists.specs.Lists.{up_from, how_many}
use Rattle.lists.proofs.Laws.{up_in, up-length, up-append, many-same, many-none, many-all, many-some, many-append}
use Rattle.key.specs.Picture.{Px}
use Rattle.window.specs.declared.Window.{Window}
use Rattle.window.specs.Window.{In}
use Rattle.window.specs.Blocks.{floor}
use Rattle.window.proofs.Laws.{floor-le, floor-lt, floor-eq}
use Rattle.border.specs.Cells.{filled, west, east, south, pushed, closed}
use Rattle.border.specs.Found.{columns_left}
use Rattle.border.proofs.Filled.{filled-mid, columns, pushed-there, pushed-elsewhere}

-- the cell of a column is above the row below the window
abbrev low : Window → List ℕ → ℕ → Bool
low W cells c = ltb (get_or cells (c - W.c0) 0) (W.r0 + W.h)

-- the two cases of what is closed
pub shut_none : (W : Window) (n : ℕ) (b : Px) {v : ℕ} → v ≡ south W n b → v < W.r0 + W.h → 0 ≡ closed W n b
unfolding closed
shut_none W n b x h = rw (lt-ltb (south W n b) (W.r0 + W.h) (omega arith)) refl

pub shut-some : (W : Window) (n : ℕ) (b : Px) {f t v : ℕ} → f ≡ west W n b → t ≡ east W n b → v ≡ south W n b → W.r0 + W.h ≤ v → t - f ≡ closed W n b
unfolding closed
shut-some W n b x y z h = rw (le-ltb (south W n b) (W.r0 + W.h) (omega arith), x, y) refl

-- at first all are left
pub left-first : (W : Window) (cells : List ℕ) → 1 ≤ W.h → W.w ≤ length cells → W.w ≡ columns_left W (filled 0 W.w W.r0 cells)
unfolding columns_left
left-first W cells tall l =
    sym (many-all {f = low W (filled 0 W.w W.r0 cells)} (up_from W.c0 W.w) each ∙ up-length W.c0 W.w)
  where
    each : (c : ℕ) → Memᴰ c (up_from W.c0 W.w) → low W (filled 0 W.w W.r0 cells) c ≡ true
    each c n =
        let z = (up_in W.c0 W.w c).0 n in
        rw (filled-mid 0 W.w W.r0 cells (omega arith) l (c - W.c0) (omega arith) (omega arith)) (lt-ltb W.r0 (W.r0 + W.h) (omega arith))

-- where none is left, each column's cell holds the row below the window, or more
pub left-none : (W : Window) (cells : List ℕ) {c : ℕ} → columns_left W cells ≡ 0 → W.c0 ≤ c → c < W.c0 + W.w → W.r0 + W.h ≤ get_or cells (c - W.c0) 0
unfolding columns_left
left-none W cells {c} e x y = go (dec_lt (get_or cells (c - W.c0) 0) (W.r0 + W.h))
  where
    go : Dec (get_or cells (c - W.c0) 0 < W.r0 + W.h) → W.r0 + W.h ≤ get_or cells (c - W.c0) 0
    go (no h) = omega arith
    go (yes h) = absurd (omega (arith, e, many-some (low W cells) ((up_in W.c0 W.w c).1 (x, y)) (lt-ltb (get_or cells (c - W.c0) 0) (W.r0 + W.h) h)))

-- numbers from one on, counted in three parts
thirds : (f : ℕ → Bool) (s a k z : ℕ) → how_many f (up_from s (a + (k + z))) ≡ how_many f (up_from s a) + (how_many f (up_from (s + a) k) + how_many f (up_from (s + a + k) z))
thirds f s a k z =
    ap (how_many f) (up-append s a (k + z) ∙ ap (λ (l : List ℕ). up_from s a ++ l) (up-append (s + a) k z))
    ∙ many-append f (up_from s a) (up_from (s + a) k ++ up_from (s + a + k) z)
    ∙ ap (λ (x : ℕ). how_many f (up_from s a) + x) (many-append f (up_from (s + a) k) (up_from (s + a + k) z))

-- an opened block whose columns were all left closes those that its bottom says
module _ {W : Window} (n : ℕ) {b : Px} (cells : List ℕ) (v : In W b) (l : W.w ≤ length cells)
    (open-there : (c : ℕ) → W.c0 ≤ c → c < W.c0 + W.w → floor n b.1 ≡ floor n c → get_or cells (c - W.c0) 0 < W.r0 + W.h) where
  abbrev a : ℕ
  a = west W n b

  abbrev e : ℕ
  e = east W n b

  -- the window's columns in three parts: west of the block, the block's, east of it
  split : (f : ℕ → Bool) → how_many f (up_from W.c0 W.w) ≡ how_many f (up_from W.c0 a) + (how_many f (up_from (W.c0 + a) (e - a)) + how_many f (up_from (W.c0 + a + (e - a)) (W.w - e)))
  split f =
      let k : W.w ≡ a + ((e - a) + (W.w - e)) = omega (arith, columns n cells v l) in
      ap (λ (x : ℕ). how_many f (up_from W.c0 x)) k ∙ thirds f W.c0 a (e - a) (W.w - e)

  abbrev now : ℕ → Bool
  now = low W (pushed W n b cells)

  -- beside the block nothing changes
  beside : {c : ℕ} → W.c0 ≤ c → c < W.c0 + W.w → ¬ (floor n b.1 ≡ floor n c) → now c ≡ low W cells c
  beside {c} x y d = ap (λ (z : ℕ). ltb z (W.r0 + W.h)) (pushed-elsewhere n cells v l x y d)

  front : how_many now (up_from W.c0 a) ≡ how_many (low W cells) (up_from W.c0 a)
  front = many-same (up_from W.c0 a) (λ c k. let z = (up_in W.c0 a c).0 k in beside (omega arith) (omega (arith, columns n cells v l)) (λ d. omega (arith, floor-le n c)))

  back : how_many now (up_from (W.c0 + a + (e - a)) (W.w - e)) ≡ how_many (low W cells) (up_from (W.c0 + a + (e - a)) (W.w - e))
  back =
      many-same (up_from (W.c0 + a + (e - a)) (W.w - e)) (λ c k.
      let z = (up_in (W.c0 + a + (e - a)) (W.w - e) c).0 k in
      beside (omega arith) (omega (arith, columns n cells v l)) (λ d. omega (arith, floor-lt n c)))

  -- and in it all were left
  there : {c : ℕ} → Memᴰ c (up_from (W.c0 + a) (e - a)) → (W.c0 ≤ c) × (c < W.c0 + W.w) × (floor n b.1 ≡ floor n c)
  there {c} k =
      let z = (up_in (W.c0 + a) (e - a) c).0 k in
      (omega arith, omega arith, sym (floor-eq n b.1 c (omega arith) (omega arith)))

  were : how_many (low W cells) (up_from (W.c0 + a) (e - a)) ≡ e - a
  were =
      many-all (up_from (W.c0 + a) (e - a)) (λ c k. let t = there k in lt-ltb _ _ (open-there c t.0 t.1 t.2))
      ∙ up-length (W.c0 + a) (e - a)

  are : how_many now (up_from (W.c0 + a) (e - a)) + closed W n b ≡ e - a
  unfolding closed
  are = go (dec_lt (south W n b) (W.r0 + W.h))
    where
      test : {c : ℕ} → Memᴰ c (up_from (W.c0 + a) (e - a)) → now c ≡ ltb (south W n b) (W.r0 + W.h)
      test {c} k = let t = there k in ap (λ (z : ℕ). ltb z (W.r0 + W.h)) (pushed-there n cells v l t.0 t.1 t.2)

      go : Dec (south W n b < W.r0 + W.h) → how_many now (up_from (W.c0 + a) (e - a)) + cond (ltb (south W n b) (W.r0 + W.h)) 0 (e - a) ≡ e - a
      go (yes h) =
          let all = many-all {f = now} (up_from (W.c0 + a) (e - a)) (λ c k. test k ∙ lt-ltb _ _ h) in
          rw (lt-ltb (south W n b) (W.r0 + W.h) h) (omega (arith, all, up-length (W.c0 + a) (e - a)))
      go (no h) =
          let all = up_from (W.c0 + a) (e - a) in
          let none = many-same {f = now} {g = λ c. false} all (λ c k. test k ∙ le-ltb (south W n b) (W.r0 + W.h) (omega arith)) ∙ many-none all in
          rw (le-ltb (south W n b) (W.r0 + W.h) (omega arith)) (omega (arith, none))

  pub left-pushed : columns_left W (pushed W n b cells) + closed W n b ≡ columns_left W cells
  unfolding columns_left
  left-pushed = omega (arith, split now, split (low W cells), front, back, were, are)
