-- How many maximal blocks a window of h rows and w columns has. A block below `top` is known by an edge of the window, and for that there are fewer than 4 (w + h) numbers.
-- One of exponent `top` is a tile, known by how many tiles have room before it, and no more than w h / 4 ^ top have room in the window: where `top` does not cut it up, one.
-- Assumes nothing.
use mathlib.Core.Path.{◌≡◌, sym, ap, ◌∙◌}
use mathlib.Core.Logic.{◌⊎◌, inl, inr}
use mathlib.Core.List.{Memᴰ}
use Prim.Native.Nat.{ℕ, suc, ◌+◌, ◌-◌, ◌*◌, ◌/◌, ◌%◌, ◌^◌, ◌≤◌, ◌<◌}
use native.Mathlib.Decide.{dec_le}
use native.Mathlib.Nat.{eq-or-lt_of_le, suc-mul, mul-le-mul, mul-mul-mul_comm, le-div_iff_mul-le, div-mul-le_self, lt-div-mul-add, div-le_of_le-mul}
use native.Mathlib.Omega.{arith}
use lib.Arith.{digits_lt, digits_div, digits_mod}
use lib.ListN.{length}
use lib.Pow.{pow_pos}
use Rattle.lists.specs.Lists.{up_from}
use Rattle.lists.proofs.Laws.{ordered-imp, pigeon, up_in, up-length}
use Rattle.key.specs.Picture.{Px}
use Rattle.key.proofs.Laws.{pow-least}
use Rattle.window.specs.declared.Window.{Window}
use Rattle.window.specs.Window.{Inside}
use Rattle.window.specs.Blocks.{floor, exponent, maximal}
use Rattle.window.specs.Walk.{most_blocks}
use Rattle.window.proofs.Fitting.{Fits}
use Rattle.window.proofs.Dyadic.{side-square}
use Rattle.window.proofs.Blocks.{exponent-le, exponent-fits, exponent-max}
use Rattle.window.proofs.Listed.{before-irrefl, listed→, listed-ordered}
use Rattle.window.proofs.Corners.{by-corner}
use Rattle.window.proofs.Edges.{close, On, Stands, stands-less, stands_one, stands-some}

-- ---- tiles

-- Of the n numbers from a on: before a tile fewer tiles have room than in all,
steps-less : {i a n x : ℕ} → On i a n x → (x - a) / 2 ^ i < n / 2 ^ i
steps-less {i} {a} {n} {x} u = (le-div_iff_mul-le (pow_pos i)).1 (omega (arith, suc-mul ((x - a) / 2 ^ i) (2 ^ i), div-mul-le_self (x - a) (2 ^ i)))

-- and that tells where it stands.
steps-one : {i a n x y : ℕ} → On i a n x → On i a n y → (x - a) / 2 ^ i ≡ (y - a) / 2 ^ i → x ≡ y
steps-one {i} {a} {n} {x} {y} u v e =
    let f = ap (λ (z : ℕ). z * 2 ^ i) e in
    close i u.aligned v.aligned
    (omega (arith, div-mul-le_self (y - a) (2 ^ i), lt-div-mul-add {a = x - a} (pow_pos i)))
    (omega (arith, div-mul-le_self (x - a) (2 ^ i), lt-div-mul-add {a = y - a} (pow_pos i)))

-- the number of the tile at row y and column x: row by row, from row a and column c on, with as many to a row as have room in w columns
abbrev tile_at : ℕ → ℕ → ℕ → ℕ → ℕ → ℕ → ℕ
tile_at a c w i y x = (y - a) / 2 ^ i * (w / 2 ^ i) + (x - c) / 2 ^ i

module _ {a n c w i y x : ℕ} (u : On i a n y) (v : On i c w x) where
  tile-less : tile_at a c w i y x < w * n / 4 ^ i
  tile-less =
      let p : ℕ = 2 ^ i in
      let few : tile_at a c w i y x < n / p * (w / p) = digits_lt (steps-less u) (steps-less v) in
      let all : n / p * (w / p) * 4 ^ i ≤ w * n =
      rw (← side-square i, mul-mul-mul_comm (n / p) (w / p) p p) (omega (arith, mul-le-mul (div-mul-le_self n p) (div-mul-le_self w p))) in
      omega (arith, (le-div_iff_mul-le (pow-least 3 i)).1 all)

  tile-one : {y' x' : ℕ} → On i a n y' → On i c w x' → tile_at a c w i y x ≡ tile_at a c w i y' x' → (x ≡ x') × (y ≡ y')
  tile-one u' v' e =
      let g : ℕ = w / 2 ^ i in (
        steps-one v v' (sym (digits_mod _ (steps-less v)) ∙ ap (λ (z : ℕ). z % g) e ∙ digits_mod _ (steps-less v')),
        steps-one u u' (sym (digits_div _ (steps-less v)) ∙ ap (λ (z : ℕ). z / g) e ∙ digits_div _ (steps-less v')),
      )

-- ---- the code of a block

module _ (W : Window) (top : ℕ) where
  -- at the north or south edge, at the west or east one, or a tile
  data Code (b : Px) (n : ℕ) : Type 0 where
    flat : Stands W.r0 W.h W.c0 W.w (exponent W top b) b.0 b.1 n → Code b n
    tall : {k : ℕ} → suc n ≡ 4 * W.w + k → Stands W.c0 W.w W.r0 W.h (exponent W top b) b.1 b.0 k → Code b n
    tile : On top W.r0 W.h b.0 → On top W.c0 W.w b.1 → n + 2 ≡ 4 * (W.w + W.h) + tile_at W.r0 W.c0 W.w top b.0 b.1 → Code b n

  -- a listed block, by its rows and by its columns
  record Known (b : Px) : Type 0 where
    rows : On (exponent W top b) W.r0 W.h b.0
    cols : On (exponent W top b) W.c0 W.w b.1

  known : {b : Px} → Memᴰ b (maximal W top) → Known b
  known l =
      let k = listed→ W top l in
      let q = by-corner W top k.1 in
      let f = exponent-fits W top k.0 in
      record { rows = omega arith; cols = omega arith }

  code-less : {b : Px} {n : ℕ} → Known b → Code b n → n + 2 < 4 * (W.w + W.h) + W.w * W.h / 4 ^ top
  code-less {b} k (flat s) = omega (arith, stands-less k.rows k.cols s, pow_pos (exponent W top b))
  code-less k (tall e s) = omega (arith, stands-less k.cols k.rows s)
  code-less k (tile u v e) = omega (arith, tile-less u v)

  code_one : {b b' : Px} {n : ℕ} → Known b → Known b' → Code b n → Code b' n → b ≡ b'
  code_one k k' (flat s) (flat s') = let z = stands_one k.rows k.cols k'.rows k'.cols s s' in λ t. (z.1 t, z.0 t)
  code_one k k' (flat s) (tall e s') = absurd (omega (arith, stands-less k.rows k.cols s))
  code_one k k' (flat s) (tile u' v' e') = absurd (omega (arith, stands-less k.rows k.cols s, pow_pos top))
  code_one k k' (tall e s) (flat s') = absurd (omega (arith, stands-less k'.rows k'.cols s'))
  code_one k k' (tall {k = i} e s) (tall {k = j} e' s') =
      let d : i ≡ j = omega arith in
      let z = stands_one k.cols k.rows k'.cols k'.rows (rw d at s) s' in
      λ t. (z.0 t, z.1 t)
  code_one k k' (tall e s) (tile u' v' e') = absurd (omega (arith, stands-less k.cols k.rows s))
  code_one k k' (tile u v e) (flat s') = absurd (omega (arith, stands-less k'.rows k'.cols s', pow_pos top))
  code_one k k' (tile u v e) (tall e' s') = absurd (omega (arith, stands-less k'.cols k'.rows s'))
  code_one k k' (tile u v e) (tile u' v' e') = let z = tile-one u v u' v' (omega arith) in λ t. (z.1 t, z.0 t)

  -- below `top` the next larger block sticks out of the window, by its rows or by its columns
  code_of : {b : Px} → Known b → (n : ℕ) × Code b n
  code_of {b} k = go (eq-or-lt_of_le (exponent-le W top b))
    where
      e : ℕ
      e = exponent W top b

      across : ((W.r0 ≤ floor (suc e) b.0) × (floor (suc e) b.0 + 2 ^ suc e ≤ W.r0 + W.h) → ⊥) → (n : ℕ) × Code b n
      across out = let s = stands-some k.rows k.cols out in (s.0, flat s.1)

      edge : ¬ Fits W (suc e) b → Dec (W.r0 ≤ floor (suc e) b.0) → Dec (floor (suc e) b.0 + 2 ^ suc e ≤ W.r0 + W.h) → (n : ℕ) × Code b n
      edge out (no g) d = across (λ h. g h.0)
      edge out (yes x) (no g) = across (λ h. g h.1)
      edge out (yes x) (yes y) =
          let s = stands-some k.cols k.rows (λ h. out (record { top = x; bottom = y; left = h.0; right = h.1 })) in
          (4 * W.w + s.0 - 1, tall {k = s.0} (omega (arith, pow_pos e)) s.1)

      go : (e ≡ top) ⊎ (e < top) → (n : ℕ) × Code b n
      go (inl d) =
          let some : 1 ≤ W.w = omega (arith, pow_pos e) in
          (4 * (W.w + W.h) + tile_at W.r0 W.c0 W.w top b.0 b.1 - 2, tile (rw d at k.rows) (rw d at k.cols) (omega arith))
      go (inr l) = edge (λ f. omega (arith, exponent-max W top (suc e) l f)) (dec_le _ _) (dec_le _ _)

  -- ---- one count for every cap

  blocks-room : {m : ℕ} → Inside m W → length (maximal W top) + 2 ≤ 4 * (W.w + W.h) + W.w * W.h / 4 ^ top
  blocks-room I =
      let codes : ℕ = 4 * (W.w + W.h) - 2 + W.w * W.h / 4 ^ top in
      omega (
        arith,
        up-length 0 codes,
        pigeon Code (up_from 0 codes) (ordered-imp (λ x y b. before-irrefl b) (listed-ordered W top))
            (λ b l. let t = code_of (known l) in (t.0, (up_in _ _ _).1 (omega (arith, code-less (known l) t.1)), t.1))
            (λ b b' n l l' x y. code_one (known l) (known l') x y),
      )

  pub blocks-most : {m : ℕ} → Inside m W → length (maximal W top) ≤ most_blocks W top
  unfolding most_blocks
  blocks-most I = omega (arith, blocks-room I)

  pub blocks-capped : {m : ℕ} → Inside m W → length (maximal W top) < 4 * (W.w + W.h) + W.w * W.h / 4 ^ top
  blocks-capped I = omega (arith, blocks-room I)

  -- where the window lies in a picture of exponent `top`, there is room for one tile
  pub blocks-few : Inside top W → length (maximal W top) < 4 * (W.w + W.h)
  blocks-few I =
      let area : W.w * W.h ≤ 2 ^ top * 2 ^ top = mul-le-mul (omega arith) (omega arith) in
      let one : W.w * W.h / 4 ^ top ≤ 1 = div-le_of_le-mul (4 ^ top) (rw (← side-square top) (omega arith)) in
      omega (arith, blocks-room I)
