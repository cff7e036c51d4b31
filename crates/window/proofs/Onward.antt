-- The list of maximal blocks from a pixel on, as one goes on by a pixel, by a block, by a row.
-- Assumes nothing.
use mathlib.Core.Path.{◌≡◌, refl, sym, ap, ◌∙◌}
use mathlib.Core.List.{List, [], ◌∷◌}
use Prim.Native.Nat.{ℕ, zero, suc, ◌+◌, ◌-◌, ◌^◌, ◌≤◌, ◌<◌}
use native.Mathlib.Nat.{add-zero}
use native.Mathlib.Omega.{arith}
use lib.Pow.{pow_pos}
use Rattle.lists.proofs.Laws.{refuted, keep_taken, keep-passed}
use Rattle.key.specs.Picture.{Px}
use Rattle.window.specs.declared.Window.{Window}
use Rattle.window.specs.Window.{In}
use Rattle.window.specs.Blocks.{floor, exponent, corner, across, rows, is_corner}
use Rattle.window.specs.Promises.{Same}
use Rattle.window.specs.Walk.{pixels_from, blocks_from}
use Rattle.window.proofs.Dyadic.{floor-le, floor-lt, floor-eq}
use Rattle.window.proofs.Blocks.{exponent-fits, same→corner, corner-col}
use Rattle.window.proofs.Listed.{corner-is}
use Rattle.window.proofs.Corners.{by-corner}

-- ---- pixel by pixel

module _ (W : Window) where
  from-pixel : (r c : ℕ) → c < W.c0 + W.w → pixels_from W (r, c) ≡ (r, c) ∷ pixels_from W (r, suc c)
  unfolding pixels_from across
  from-pixel r c l = let e : W.c0 + W.w - c ≡ suc (W.c0 + W.w - suc c) = omega arith in rw e

  pub from-below : (r : ℕ) → suc r < W.r0 + W.h → pixels_from W (r, W.c0 + W.w) ≡ pixels_from W (suc r, W.c0)
  unfolding pixels_from across rows
  from-below r l =
      let z : W.c0 + W.w - (W.c0 + W.w) ≡ 0 = omega arith in
      let a : W.c0 + W.w - W.c0 ≡ W.w = omega arith in
      let e : W.r0 + W.h - suc r ≡ suc (W.r0 + W.h - suc (suc r)) = omega arith in
      rw (z, a, e)

  pub from-none : (r : ℕ) → suc r ≡ W.r0 + W.h → pixels_from W (r, W.c0 + W.w) ≡ []
  unfolding pixels_from across rows
  from-none r l =
      let z : W.c0 + W.w - (W.c0 + W.w) ≡ 0 = omega arith in
      let e : W.r0 + W.h - suc r ≡ 0 = omega arith in
      rw (z, e)

  pub from_all : 1 ≤ W.h → pixels_from W (W.r0, W.c0) ≡ rows W.r0 W.c0 W.h W.w
  unfolding pixels_from rows
  from_all l =
      let a : W.c0 + W.w - W.c0 ≡ W.w = omega arith in
      let e : W.h ≡ suc (W.r0 + W.h - suc W.r0) = omega arith in
      rw a (sym (ap (λ (n : ℕ). rows W.r0 W.c0 n W.w) e))

module _ (W : Window) (top : ℕ) where
  pub from-corner : (r c : ℕ) → c < W.c0 + W.w → corner W top (r, c) ≡ (r, c) → blocks_from W top (r, c) ≡ (r, c) ∷ blocks_from W top (r, suc c)
  unfolding blocks_from
  from-corner r c l e = rw (from-pixel W r c l) (keep_taken (is_corner W top) (pixels_from W (r, suc c)) ((corner-is W top (r, c)).1 e))

  from-other : (r c : ℕ) → c < W.c0 + W.w → ¬ (corner W top (r, c) ≡ (r, c)) → blocks_from W top (r, c) ≡ blocks_from W top (r, suc c)
  unfolding blocks_from
  from-other r c l n = rw (from-pixel W r c l) (keep-passed (is_corner W top) (pixels_from W (r, suc c)) (refuted (is_corner W top (r, c)) (λ t. n ((corner-is W top (r, c)).0 t))))

  -- over n pixels of a row none of which is a corner
  from-over : (r c n : ℕ) → c + n ≤ W.c0 + W.w → ((x : ℕ) → c ≤ x → x < c + n → ¬ (corner W top (r, x) ≡ (r, x))) → blocks_from W top (r, c) ≡ blocks_from W top (r, c + n)
  from-over r c zero l f = rw add-zero
  from-over r c (suc n) l f =
      from-other r c (omega arith) (f c (omega arith) (omega arith))
      ∙ from-over r (suc c) n (omega arith) (λ x h k. f x (omega arith) (omega arith))
      ∙ ap (λ (d : ℕ). blocks_from W top (r, d)) (omega arith)

-- ---- block by block

module _ (W : Window) (top : ℕ) (r c : ℕ) (v : In W (r, c)) where
  -- east of a pixel no pixel of its block is a corner
  pub behind : (x : ℕ) → c < x → x < floor (exponent W top (r, c)) c + 2 ^ exponent W top (r, c) → ¬ (corner W top (r, x) ≡ (r, x))
  behind x l h e =
      let i : ℕ = exponent W top (r, c) in
      let s : Same i (r, c) (r, x) = record { row = refl; col = sym (floor-eq i c x (omega (arith, floor-le i c)) h) } in
      let d : corner W top (r, c) ≡ (r, x) = same→corner W top v s ∙ e in
      let k : (corner W top (r, c)).1 ≡ x = ap (λ (p : Px). p.1) d in
      omega (arith, corner-col W top (r, c))

  pub east-end : (e : ℕ) → e ≡ exponent W top (r, c) → (c < floor e c + 2 ^ e) × (floor e c + 2 ^ e ≤ W.c0 + W.w)
  east-end e d = rw d (floor-lt (exponent W top (r, c)) c, (exponent-fits W top v).right)

  -- at a corner: its block, and on behind it
  pub at-corner : (i : ℕ) → corner W top (r, c) ≡ (r, c) → i ≡ exponent W top (r, c) → blocks_from W top (r, c) ≡ (r, c) ∷ blocks_from W top (r, c + 2 ^ i)
  at-corner i k e =
      let b = east-end i e in
      let q : floor i c ≡ c = rw e (by-corner W top k).1 in
      let d : suc c + (2 ^ i - 1) ≡ c + 2 ^ i = omega (arith, pow_pos i) in
      from-corner W top r c v.right k
      ∙ ap (λ (l : List Px). (r, c) ∷ l) (rw d at (from-over W top r (suc c) (2 ^ i - 1) (omega arith) (λ x h l. behind x (omega arith) (rw (← e) (omega arith)))))

  -- on to a column before which no pixel is a corner
  pub at_other : (d : ℕ) → c ≤ d → d ≤ W.c0 + W.w → ((x : ℕ) → c ≤ x → x < d → ¬ (corner W top (r, x) ≡ (r, x))) → blocks_from W top (r, c) ≡ blocks_from W top (r, d)
  at_other d l h none =
      let z : c + (d - c) ≡ d = omega arith in
      rw z at (from-over W top r c (d - c) (omega arith) (λ x g k. none x g (omega arith)))
