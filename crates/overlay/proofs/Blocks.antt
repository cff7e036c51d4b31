-- What is listed of one block: the fewest blocks that make up its places of the class.
-- Assumes nothing.
use mathlib.Core.Path.{◌≡◌, refl, sym, ◌∙◌}
use mathlib.Core.Bool.{Bool, true}
use mathlib.Core.List.{List, flat_map}
use Prim.Native.Nat.{ℕ, ◌+◌, ◌-◌, ◌*◌, ◌^◌, ◌≤◌, ◌<◌}
use native.Mathlib.Omega.{arith}
use lib.ListN.{length}
use Rattle.lists.specs.Lists.{Ordered}
use Rattle.lists.proofs.Laws.{never}
use Rattle.key.specs.Blocks.{Names, Among}
use Rattle.key.proofs.Laws.{block-lies}
use Rattle.window.specs.declared.Window.{Window}
use Rattle.window.specs.Window.{Inside}
use Rattle.window.specs.Keys.{keys_of}
use Rattle.window.proofs.Laws.{inside-12}
use Rattle.map.specs.Sound.{Spaced}
use Rattle.map.proofs.Laws.{start_is, end_is}
use Rattle.stretch.specs.Promises.{MakesUp, Runs, last, next, stretches}
use Rattle.stretch.proofs.Laws.{fewest-makes, fewest-least, stretches-none, stretches-next, runs-are, fewest-runs}
use Rattle.sparse_select.proofs.Laws.{Made, made_none, made-skip, made-append, made-stretch, made-rising, Blockwise, laid-most, laid-fits}
use Rattle.overlay.specs.Select.{of_class, class_blocks, class_selected, class_selection}
use Rattle.overlay.proofs.Joins.{class-is}

-- runs of places with a property, one after another
runs-made : (m : ℕ) {P : ℕ → Type 0} {T : ℕ → Bool} {end at : ℕ} {rs : List (ℕ × ℕ)}
    → ((q : ℕ) → T q ≡ true → P q) → ((q : ℕ) → at ≤ q → q < end → P q → T q ≡ true)
    → end ≤ 4 ^ m → at ≤ end → Runs T end at rs → Made m P end at (stretches m rs)
runs-made m {P} {T} {end} {at} to from room l (last h) = rw (stretches-none m) (made_none {a = at} (λ q x y p. never (sym (from q x y p) ∙ h q x y)))
runs-made m {P} {T} {end} {at} to from room l (next {x = x} {y = y} {rs = rs} R N) =
    rw (stretches-next m (x, y) rs)
    (made-skip R.low (λ q u v p. never (sym (from q u (omega (arith, v, R.some, R.high)) p) ∙ R.ahead q u v))
    (made-append {c = y} (omega (arith, R.some)) R.high (made-stretch x y (omega (arith, R.high)) (λ q u v. to q (R.along q u v)))
    (runs-made m to (λ q u v p. from q (omega (arith, u, R.low, R.some)) v p) room R.high N)))

module _ (m : ℕ) (rule : ℕ → ℕ) (class : ℕ) where
  -- ---- the places from a up to b

  module _ {a b : ℕ} (order : a ≤ b) (room : b ≤ 4 ^ m) where
    here : (q : ℕ) → of_class m rule class a b q ≡ true → Among a (b - a) q
    here q e = let h = (class-is m rule class a b q).0 e in record { least = h.0; most = omega (arith, h.0, h.1) }

    low : (q : ℕ) → of_class m rule class a b q ≡ true → q < 4 ^ m
    low q e = omega (arith, ((class-is m rule class a b q).0 e).1, room)

    pub blocks-made : Made m (λ q. rule q ≡ class) b a (class_blocks m rule class a b)
    unfolding class_blocks
    blocks-made =
        let e : a + (b - a) ≡ b = omega arith in
        rw (fewest-runs m (of_class m rule class a b) a (b - a) here)
        (runs-made m (λ q t. ((class-is m rule class a b q).0 t).2) (λ q x y p. (class-is m rule class a b q).1 (x, y, p)) room order (rw e at (runs-are (of_class m rule class a b) a (b - a))))

    pub blocks-makes : MakesUp m (of_class m rule class a b) (class_blocks m rule class a b)
    unfolding class_blocks
    blocks-makes = fewest-makes m (of_class m rule class a b) low a (b - a) here

    pub blocks-least : {ks : List ℕ} → MakesUp m (of_class m rule class a b) ks → length (class_blocks m rule class a b) ≤ length ks
    unfolding class_blocks
    blocks-least M = fewest-least m (of_class m rule class a b) low a (b - a) M

  -- ---- the block of a key

  pub selected-is : {key i s : ℕ} → Names m key i s → class_selected m rule class key ≡ class_blocks m rule class s (s + 4 ^ i)
  unfolding class_selected
  selected-is B = rw (start_is B, end_is B)

  pub block_listed : {key i s first to : ℕ} → Names m key i s → first ≡ s → to ≡ s + 4 ^ i → class_blocks m rule class first to ≡ class_selected m rule class key
  block_listed B e d = rw (e, d) (sym (selected-is B))

  pub class-blockwise : Blockwise m (λ q. rule q ≡ class) (class_selected m rule class)
  class-blockwise = record { makes = λ B. rw (selected-is B) (blocks-made (omega arith) (block-lies B).span) }

  module _ {key i s : ℕ} (B : Names m key i s) where
    pub class-makes : MakesUp m (of_class m rule class s (s + 4 ^ i)) (class_selected m rule class key)
    class-makes = rw (selected-is B) (blocks-makes (omega arith) (block-lies B).span)

    pub class-least : {ks : List ℕ} → MakesUp m (of_class m rule class s (s + 4 ^ i)) ks → length (class_selected m rule class key) ≤ length ks
    class-least M = rw (selected-is B) (blocks-least (omega arith) (block-lies B).span M)

    pub class-rising : Ordered ◌<◌ (class_selected m rule class key)
    class-rising = made-rising (class-blockwise.makes B)

  -- ---- all of a window

  pub selection-flat : (W : Window) → class_selection m rule W class ≡ flat_map (class_selected m rule class) (keys_of m m W)
  unfolding class_selection
  selection-flat W = refl

  -- there are no more than pixels
  module _ {keys : List ℕ} (F : Spaced m 0 keys) {W : Window} (I : Inside m W) where
    pub class-most : length (class_selection m rule W class) ≤ W.h * W.w
    class-most = rw (selection-flat W) (laid-most {top = m} F I (omega arith) class-blockwise)

    pub class-fits : m ≤ 12 → length (class_selection m rule W class) ≤ 16777216
    class-fits l = rw (selection-flat W) (laid-fits {top = m} F I (omega arith) class-blockwise (inside-12 l I))
