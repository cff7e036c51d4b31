-- The largest block at a pixel: at the corner of a maximal block it is that block, and elsewhere it is not maximal.
-- Assumes nothing.
use mathlib.Core.Path.{◌≡◌}
use mathlib.Core.Logic.{◌↔◌}
use Prim.Native.Nat.{ℕ, ◌+◌, ◌-◌, ◌≤◌, ◌<◌}
use native.Mathlib.Decide.{dec_lt}
use native.Mathlib.Omega.{arith}
use Rattle.key.specs.Picture.{Px}
use Rattle.key.proofs.Laws.{alignment-most}
use Rattle.window.specs.declared.Window.{Window}
use Rattle.window.specs.Window.{In, window}
use Rattle.window.specs.Blocks.{floor, exponent}
use Rattle.window.specs.Promises.{Maximal, BlockAt, Largest}
use Rattle.window.proofs.Fitting.{Fits}
use Rattle.window.proofs.Dyadic.{floor-le, same_refl, fits_all, fits_by}
use Rattle.window.proofs.Blocks.{exponent-le, exponent-fits, exponent-max}
use Rattle.window.proofs.Corners.{alignment-floor}

module _ {W : Window} {top i : ℕ} {p : Px} where
  at_top : BlockAt W top i p → i ≤ top
  at_top a = omega (arith, a.row, alignment-most top p.0)

  -- at a pixel of the window such a block lies in the window
  at-fits : In W p → BlockAt W top i p → Fits W i p
  at-fits v a =
      let l = at_top a in
      omega (arith, (alignment-floor top p.0 i l).0 a.row, (alignment-floor top p.1 i l).0 a.col)

  fits-at : i ≤ top → floor i p.0 ≡ p.0 → floor i p.1 ≡ p.1 → Fits W i p → BlockAt W top i p
  fits-at l r c f =
      record { row = (alignment-floor top p.0 i l).1 r; col = (alignment-floor top p.1 i l).1 c; bottom = omega arith; right = omega arith }

module _ (W : Window) (top : ℕ) {p : Px} where
  -- each pixel of the window has one, and one only
  pub largest-one : {i j : ℕ} → Largest W top i p → Largest W top j p → i ≡ j
  largest-one {i} {j} x y = omega (arith, x.most j y.at, y.most i x.at)

  -- that of the rest of the window, from the pixel on, whose corner the pixel is
  pub largest-some : In W p → (i : ℕ) × Largest W top i p
  largest-some v =
      let rest : Window = window p.0 p.1 (W.r0 + W.h - p.0) (W.c0 + W.w - p.1) in
      let i : ℕ = exponent rest top p in
      let u : In rest p = omega arith in
      let f : Fits rest i p = exponent-fits rest top u in
      let r : floor i p.0 ≡ p.0 = omega (arith, floor-le i p.0) in
      let c : floor i p.1 ≡ p.1 = omega (arith, floor-le i p.1) in
      let a : BlockAt rest top i p = fits-at (exponent-le rest top p) r c f in
      let most : (j : ℕ) → BlockAt W top j p → j ≤ i = λ j b. let b' : BlockAt rest top j p = omega arith in exponent-max rest top j (at_top b) (at-fits u b') in
      (i, record { at = omega arith; most = most })

  -- at the corner of a maximal block it is that block
  pub largest-is : {i j : ℕ} → Largest W top i p → Maximal W top j p → i ≡ j
  largest-is {i} {j} x M = go (dec_lt j i)
    where
      go : Dec (j < i) → i ≡ j
      go (yes l) = absurd (M.largest i l (at_top x.at) (fits_all (at-fits (M.inside p (same_refl p)) x.at)))
      go (no n) = omega (arith, x.most j (fits-at M.small M.row M.col (fits_by M.inside)))

  -- so it is maximal exactly where a maximal block has its corner
  pub largest-corner : {i : ℕ} → Largest W top i p → Maximal W top i p ↔ ((j : ℕ) × Maximal W top j p)
  largest-corner {i} x = (λ M. (i, M), λ (j, M). rw (largest-is x M) M)
