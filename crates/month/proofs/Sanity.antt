-- Refusal 26: the window of a table, and which tables it lets pass.
-- Assumes nothing.
use mathlib.Core.Path.{◌≡◌, refl, sym, ap, ◌∙◌}
use mathlib.Core.Logic.{◌↔◌}
use mathlib.Core.Bool.{Bool, true, false, ◌||◌}
use mathlib.Core.List.{List}
use Prim.Native.Nat.{ℕ, min, ◌*◌, ◌≤◌, ◌<◌}
use native.Mathlib.Omega.{arith}
use lib.Dec.{ltb}
use borrow.Author.Tests.{ltb-false, lt-ltb, le-ltb}
use Rattle.lists.proofs.Laws.{neither}
use Rattle.window.specs.declared.Window.{Window}
use Rattle.window.specs.Window.{Inside, outside}
use Rattle.window.proofs.Laws.{inside, not-outside, inside-12}
use Rattle.rows.specs.Rows.{any_over}
use Rattle.rows.proofs.Laws.{any-clear}
use Rattle.month.specs.Month.{window_in, maps_in, spoiled}
use Rattle.month.specs.Narrow.{narrowed}
use Rattle.month.specs.Promises.{Sane}

-- ---- the window of a table, in numbers of 16 bits

same-small : (x : ℕ) → min x 65535 ≤ 4096 → min x 65535 ≡ x
same-small x l = omega arith

pub narrowed-same : {W : Window} → Inside 12 (narrowed W) → narrowed W ≡ W
narrowed-same {W} I = rw (same-small W.r0 (omega (arith, I)), same-small W.c0 (omega (arith, I)), same-small W.h (omega (arith, I)), same-small W.w (omega (arith, I)))

pub narrowed-inside : {W : Window} → Inside 12 W → narrowed W ≡ W
narrowed-inside {W} I = narrowed-same (record { tall = omega (arith, I); wide = omega (arith, I); bottom = omega (arith, I); right = omega (arith, I) })

-- one that is too great lies outside as well as the greatest does
pub narrowed-outside : (m : ℕ) (W : Window) → m ≤ 12 → outside m (narrowed W) ≡ outside m W
narrowed-outside m W l = go (outside m (narrowed W)) refl (outside m W) refl
  where
    go : (a : Bool) → outside m (narrowed W) ≡ a → (b : Bool) → outside m W ≡ b → outside m (narrowed W) ≡ outside m W
    go false d b e = let same : narrowed W ≡ W = narrowed-same (inside-12 l (inside m (narrowed W) d)) in rw same
    go true d true e = d ∙ sym e
    go true d false e = let same : narrowed W ≡ W = narrowed-inside (inside-12 l (inside m W e)) in rw same

-- of a window that is told so
module _ {m : ℕ} (W : Window) {V : Window} (l : m ≤ 12) (e : V ≡ narrowed W) where
  pub narrowed-told : outside m W ≡ outside m V
  narrowed-told = sym (narrowed-outside m W l) ∙ ap (outside m) (sym e)

  pub narrowed-known : outside m V ≡ false → (V ≡ W) × Inside 12 V
  narrowed-known o = let I = inside-12 l (inside m V o) in (e ∙ narrowed-same (rw e at I), I)

-- ---- 26

module _ (m : ℕ) (table : List ℕ) where
  abbrev most : ℕ
  most = maps_in table * ((window_in table).h * (window_in table).w)

  pub spoiled-outside : outside m (window_in table) ≡ true → spoiled m table ≡ true
  unfolding spoiled
  spoiled-outside o = rw o

  module _ (o : outside m (window_in table) ≡ false) where
    pub spoiled-many : 1000 < maps_in table → spoiled m table ≡ true
    unfolding spoiled
    spoiled-many l = rw (o, lt-ltb 1000 (maps_in table) l)

    pub spoiled-rows : maps_in table ≤ 1000 → spoiled m table ≡ any_over (maps_in table * ((window_in table).h * (window_in table).w)) (maps_in table) table
    unfolding spoiled
    spoiled-rows l = rw (o, le-ltb 1000 (maps_in table) l)

  pub spoiled-sane : (spoiled m table ≡ false) ↔ Sane m table
  unfolding spoiled
  spoiled-sane = (to, from)
    where
      to : spoiled m table ≡ false → Sane m table
      to e =
          let rest = neither (outside m (window_in table) || ltb 1000 (maps_in table)) (any_over most (maps_in table) table) e in
          let two = neither (outside m (window_in table)) (ltb 1000 (maps_in table)) rest.0 in
          let rows = (any-clear most (maps_in table) table).0 rest.1 in
          record {
            inside = inside m (window_in table) two.0;
            few = ltb-false 1000 (maps_in table) two.1;
            sums = λ class l. (rows class l).0;
            counts = λ class l. (rows class l).1;
          }

      from : Sane m table → spoiled m table ≡ false
      from s = spoiled-rows (not-outside m (window_in table) s.inside) s.few ∙ (any-clear most (maps_in table) table).1 (λ class l. (s.sums class l, s.counts class l))
