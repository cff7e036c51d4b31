-- The border under one window after another: how many cells it must have, and what stands in each afterwards.
-- Assumes nothing.
use mathlib.Core.Path.{◌≡◌, refl, sym, ap, ◌∙◌}
use mathlib.Core.Logic.{◌↔◌}
use mathlib.Core.Bool.{Bool, true, false, cond}
use mathlib.Core.List.Memᴰ
use mathlib.Core.List.{List, [], ◌∷◌, ◌++◌, map, map-append, Memᴰ}
use Prim.Native.Nat.{ℕ, max, ◌+◌, ◌≤◌, ◌<◌}
use native.Mathlib.Decide.{dec_lt}
use native.Mathlib.Omega.{arith}
use lib.ListN.{length, get_or}
use Rattle.lists.proofs.Laws.{greatest-none, greatest-next, greatest-append, greatest-behind, greatest-all, never}
use Rattle.window.specs.declared.Window.{Window}
use Rattle.window.specs.Window.{Inside, outside}
use Rattle.window.proofs.Laws.{inside, not-outside}
use Rattle.used.specs.Used.{spent}
use Rattle.used.proofs.Laws.{spent-at, spent-past, spent-length}
use Rattle.many.specs.Many.{columns, left_by, widest}
use Rattle.many.specs.Promises.{NoneWider, LeftIn, kept, last}

module _ (m : ℕ) where
  -- ---- how many cells

  module _ (W : Window) where
    pub columns-outside : outside m W ≡ true → columns m W ≡ 0
    unfolding columns
    columns-outside e = rw e

    pub columns-inside : outside m W ≡ false → columns m W ≡ W.w
    unfolding columns
    columns-inside e = rw e

  pub widest-none : widest m [] ≡ 0
  unfolding widest
  widest-none = greatest-none

  widest-next : (W : Window) (Ws : List Window) → widest m (W ∷ Ws) ≡ max (columns m W) (widest m Ws)
  unfolding widest
  widest-next W Ws = greatest-next (columns m W) (map (columns m) Ws)

  pub widest-append : (Ws Xs : List Window) → widest m (Ws ++ Xs) ≡ max (widest m Ws) (widest m Xs)
  unfolding widest
  widest-append Ws Xs = rw (map-append (columns m) Ws Xs) (greatest-append (map (columns m) Ws) (map (columns m) Xs))

  pub widest-behind : (Ws : List Window) (W : Window) → widest m (Ws ++ W ∷ []) ≡ max (widest m Ws) (columns m W)
  unfolding widest
  widest-behind Ws W = rw (map-append (columns m) Ws (W ∷ [])) (greatest-behind (map (columns m) Ws) (columns m W))

  pub widest-all : (Ws : List Window) (W : Window) → Memᴰ W Ws → columns m W ≤ widest m Ws
  unfolding widest
  widest-all Ws W l = greatest-all (map (columns m) Ws) (columns m W) (Memᴰ.map (columns m) l)

  none-next : (W : Window) (Ws : List Window) (cells : ℕ) → (Inside m W → W.w ≤ cells) → NoneWider m Ws cells → NoneWider m (W ∷ Ws) cells
  none-next W Ws cells first none X (Memᴰ.head e) = rw e first
  none-next W Ws cells first none X (Memᴰ.tail l) = none X l

  columns-most : (W : Window) (cells : ℕ) → (columns m W ≤ cells) ↔ (Inside m W → W.w ≤ cells)
  columns-most W cells = (λ l I. omega (arith, l, columns-inside W (not-outside m W I)), λ h. go h (outside m W) refl)
    where
      go : (Inside m W → W.w ≤ cells) → (b : Bool) → outside m W ≡ b → columns m W ≤ cells
      go h true e = omega (arith, columns-outside W e)
      go h false e = omega (arith, columns-inside W e, h (inside m W e))

  -- so many cells are enough exactly when none that 6 lets pass is wider
  pub widest-wider : (Ws : List Window) (cells : ℕ) → (widest m Ws ≤ cells) ↔ NoneWider m Ws cells
  widest-wider Ws cells = (λ h W l. (columns-most W cells).0 (omega (arith, h, widest-all Ws W l)), below Ws)
    where
      below : (Xs : List Window) → NoneWider m Xs cells → widest m Xs ≤ cells
      below [] h = omega (arith, widest-none)
      below (X ∷ Xs) h = omega (arith, widest-next X Xs, (columns-most X cells).1 (h X (Memᴰ.head refl)), below Xs (λ W l. h W (Memᴰ.tail l)))

  -- ---- what stands in them

  -- what one window leaves
  abbrev passed_by : Window → List ℕ → List ℕ
  passed_by W border = cond (outside m W) border (spent W border)

  pub left-none : (border : List ℕ) → left_by m [] border ≡ border
  unfolding left_by
  left-none border = refl

  left-next : (W : Window) (Ws : List Window) (border : List ℕ) → left_by m (W ∷ Ws) border ≡ left_by m Ws (passed_by W border)
  unfolding left_by
  left-next W Ws border = refl

  module _ (W : Window) (border : List ℕ) where
    pub left-outside : outside m W ≡ true → left_by m (W ∷ []) border ≡ border
    left-outside e = left-next W [] border ∙ rw (left-none, e)

    pub left-inside : outside m W ≡ false → left_by m (W ∷ []) border ≡ spent W border
    left-inside e = left-next W [] border ∙ rw (left-none, e)

  pub left-append : (Ws Xs : List Window) (border : List ℕ) → left_by m (Ws ++ Xs) border ≡ left_by m Xs (left_by m Ws border)
  left-append [] Xs border = rw left-none
  left-append (W ∷ Ws) Xs border = left-next W (Ws ++ Xs) border ∙ left-append Ws Xs (passed_by W border) ∙ ap (left_by m Xs) (sym (left-next W Ws border))

  passed_length : (W : Window) (border : List ℕ) → columns m W ≤ length border → length (passed_by W border) ≡ length border
  passed_length W border l = go (outside m W) refl
    where
      go : (b : Bool) → outside m W ≡ b → length (passed_by W border) ≡ length border
      go true e = rw e
      go false e = rw e (spent-length W border (omega (arith, l, columns-inside W e)))

  -- as many cells as before
  pub left-length : (Ws : List Window) (border : List ℕ) → widest m Ws ≤ length border → length (left_by m Ws border) ≡ length border
  left-length [] border l = rw left-none
  left-length (W ∷ Ws) border l =
      let n = widest-next W Ws in
      let same = passed_length W border (omega (arith, l, n)) in
      ap length (left-next W Ws border) ∙ left-length Ws (passed_by W border) (omega (arith, l, n, same)) ∙ same

  -- a cell that no window reaches stays as it was
  left-kept : (Ws : List Window) (border : List ℕ) (j : ℕ) → NoneWider m Ws j → get_or (left_by m Ws border) j 0 ≡ get_or border j 0
  left-kept [] border j none = rw left-none
  left-kept (W ∷ Ws) border j none =
      rw (left-next W Ws border) (left-kept Ws (passed_by W border) j (λ X l. none X (Memᴰ.tail l)) ∙ go (outside m W) refl)
    where
      go : (b : Bool) → outside m W ≡ b → get_or (passed_by W border) j 0 ≡ get_or border j 0
      go true e = rw e
      go false e = rw e (spent-past W border j (none W (Memᴰ.head refl) (inside m W e)))

  -- and otherwise the last that reaches it leaves its row there
  left-last : (Ws : List Window) (W : Window) (Xs : List Window) (border : List ℕ) (j : ℕ) → Inside m W → j < W.w → NoneWider m Xs j
      → get_or (left_by m (Ws ++ W ∷ Xs) border) j 0 ≡ W.r0 + W.h
  left-last Ws W Xs border j I l none =
      let behind : left_by m (Ws ++ W ∷ Xs) border ≡ left_by m Xs (spent W (left_by m Ws border)) =
      left-append Ws (W ∷ Xs) border ∙ left-next W Xs (left_by m Ws border) ∙ rw (not-outside m W I) in
      rw behind (left-kept Xs (spent W (left_by m Ws border)) j none ∙ spent-at W (left_by m Ws border) j l)

  -- one of the two is so
  found : (Ws : List Window) (border : List ℕ) (j : ℕ) → LeftIn m Ws border j (get_or (left_by m Ws border) j 0)
  found [] border j = rw left-none (kept (λ W l. absurd (Memᴰ.not-nil l)) refl)
  found (W ∷ Ws) border j = rw (left-next W Ws border) (go (found Ws (passed_by W border) j))
    where
      -- where none of the others reaches it
      first : (x : ℕ) → NoneWider m Ws j → x ≡ get_or (passed_by W border) j 0 → (b : Bool) → outside m W ≡ b → Dec (j < W.w) → LeftIn m (W ∷ Ws) border j x
      first x none e true o d = kept (none-next W Ws j (λ I. never (sym o ∙ not-outside m W I)) none) (e ∙ rw o)
      first x none e false o (yes l) = last [] W Ws refl (inside m W o) l none (e ∙ rw o (spent-at W border j l))
      first x none e false o (no h) = kept (none-next W Ws j (λ I. omega (arith, h)) none) (e ∙ rw o (spent-past W border j (omega (arith, h))))

      go : {x : ℕ} → LeftIn m Ws (passed_by W border) j x → LeftIn m (W ∷ Ws) border j x
      go (kept none e) = first _ none e (outside m W) refl (dec_lt j W.w)
      go (last before X later s I l none e) = last (W ∷ before) X later (ap (λ (t : List Window). W ∷ t) s) I l none e

  -- so each cell holds that and nothing else
  pub left-cell : (Ws : List Window) (border : List ℕ) (j x : ℕ) → (get_or (left_by m Ws border) j 0 ≡ x) ↔ LeftIn m Ws border j x
  left-cell Ws border j x = (λ e. rw e at (found Ws border j), only)
    where
      only : LeftIn m Ws border j x → get_or (left_by m Ws border) j 0 ≡ x
      only (kept none e) = left-kept Ws border j none ∙ sym e
      only (last before W later s I l none e) = ap (λ (t : List Window). get_or (left_by m t border) j 0) s ∙ left-last before W later border j I l none ∙ sym e
