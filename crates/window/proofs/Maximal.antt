-- The list of maximal blocks is what the words say.
-- Assumes nothing.
use mathlib.Core.Path.{◌≡◌, ap}
use mathlib.Core.Logic.{◌↔◌}
use mathlib.Core.List.{Memᴰ}
use Prim.Native.Nat.{ℕ, ◌<◌}
use native.Mathlib.Decide.{dec_lt}
use native.Mathlib.Omega.{arith}
use Rattle.key.specs.Picture.{Px}
use Rattle.window.specs.declared.Window.{Window}
use Rattle.window.specs.Window.{In}
use Rattle.window.specs.Blocks.{floor, exponent, corner, maximal}
use Rattle.window.specs.Promises.{Maximal}
use Rattle.window.proofs.Dyadic.{same_refl, fits_all, fits_by}
use Rattle.window.proofs.Blocks.{exponent-le, exponent-fits, exponent-max}
use Rattle.window.proofs.Listed.{listed→, →listed}

-- The list has the maximal blocks, and no other: each lies in the window, and no larger block that lies in the window contains it. That each is listed once, by row and then by
-- column, is `listed-ordered`.
pub maximal-listed : (W : Window) (top : ℕ) {i : ℕ} {p : Px} → Maximal W top i p ↔ (Memᴰ p (maximal W top) × (i ≡ exponent W top p))
unfolding corner
maximal-listed W top {i} {p} = (to, from)
  where
    to : Maximal W top i p → Memᴰ p (maximal W top) × (i ≡ exponent W top p)
    to M =
        let v : In W p = M.inside p (same_refl p) in
        let e : i ≡ exponent W top p = go v (dec_lt i (exponent W top p)) in
        let r : floor (exponent W top p) p.0 ≡ p.0 = rw (← e) M.row in
        let c : floor (exponent W top p) p.1 ≡ p.1 = rw (← e) M.col in
        (→listed W top v (λ t. (r t, c t)), e)
      where
        go : In W p → Dec (i < exponent W top p) → i ≡ exponent W top p
        go v (yes l) = absurd (M.largest (exponent W top p) l (exponent-le W top p) (fits_all (exponent-fits W top v)))
        go v (no n) = omega (arith, exponent-max W top i M.small (fits_by M.inside))

    from : Memᴰ p (maximal W top) × (i ≡ exponent W top p) → Maximal W top i p
    from (n, e) =
        let k = listed→ W top n in
        rw e (record {
          small = exponent-le W top p;
          row = ap (λ (q : Px). q.0) k.1;
          col = ap (λ (q : Px). q.1) k.1;
          inside = fits_all (exponent-fits W top k.0);
          largest = λ j l h f. omega (arith, exponent-max W top j h (fits_by f));
        })
