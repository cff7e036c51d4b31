-- The next piece, by where the place stands in both maps.
-- Assumes nothing.
use mathlib.Core.Path.{◌≡◌, sym, ap, ◌∙◌}
use mathlib.Core.List.{List}
use Prim.Native.Nat.{ℕ, min, ◌^◌, ◌≤◌, ◌<◌}
use native.Mathlib.Omega.{arith}
use lib.ListN.{length, get_or}
use Rattle.map.specs.Classes.{class_in}
use Rattle.map.proofs.Laws.{Holder, Free, spaced, class-held, class-free}
use Rattle.pieces.specs.declared.Stand.{Stand}
use Rattle.pieces.specs.declared.Piece.{Piece}
use Rattle.pieces.specs.Pair.{Pair, class_over_map}
use Rattle.pieces.specs.Cursors.{StandsAt}
use Rattle.pieces.specs.Pieces.{Uniform}
use Rattle.pieces.proofs.Cursors.{spans-order, at_gap, at-within, at-holder, at-start}

abbrev piece : ℕ → ℕ → Piece
piece c e = record { class = c; end = e }

module _ {m n k : ℕ} {keys base : List ℕ} (P : Pair m keys n base k) {s : Stand} (S : StandsAt m keys base s) {stop : ℕ} (l : s.place < stop) (h : stop ≤ 4 ^ m) where
  -- the baseline's record has the place
  pub under-start : s.under.start ≤ s.place
  under-start = at-start P.under S.under (omega arith)

  pub under-within : s.under.next < length base
  under-within = at-within (spaced P.under) S.under under-start (omega arith)

module _ {m : ℕ} {keys base : List ℕ} (classes base_classes : List ℕ) (P : Pair m keys (length classes) base (length base_classes)) where
  -- ---- the class of a place that today's map holds, and of one that it does not

  module _ {q : ℕ} where
    pub over-held : (H : Holder m keys q) → class_over_map m keys classes base base_classes q ≡ get_or classes H.index 0
    unfolding class_over_map
    over-held H = class-held P.today classes P.classed (class_in m base base_classes q) H

    pub over-free : Free m keys q → class_over_map m keys classes base base_classes q ≡ class_in m base base_classes q
    unfolding class_over_map
    over-free f = class-free P.today classes P.classed (class_in m base base_classes q) f

  -- ---- the two kinds of pieces

  module _ {s : Stand} (S : StandsAt m keys base s) {stop : ℕ} (l : s.place < stop) (h : stop ≤ 4 ^ m) where
    inside : s.place < 4 ^ m
    inside = omega arith

    -- the piece, and that it ends with neither record's end behind it
    abbrev Next : Piece → Type 0
    Next p = Uniform (class_over_map m keys classes base base_classes) s.place stop p × (p.end ≤ s.today.end) × (p.end ≤ s.under.end)

    module _ {c e near : ℕ} (n : near ≡ min s.under.end stop) where
      -- where no record of today's has the place, it is the baseline's
      pub gap-piece : s.place < s.today.start → e ≡ min s.today.start near → c ≡ get_or base_classes s.under.next 0 → Next (piece c e)
      gap-piece d g k =
          (record { more = omega (arith, S.under.ahead); most = omega arith; alike = alike }, omega (arith, spans-order S.today.spans), omega arith)
        where
          alike : (q : ℕ) → s.place ≤ q → q < e → class_over_map m keys classes base base_classes q ≡ c
          alike q x y =
              let H = at-holder (spaced P.under) S.under (under-start P S l h) inside q x (omega arith) in
              over-free (at_gap P.today S.today q x (omega arith))
              ∙ class-held (spaced P.under) base_classes P.under_classed 0 H.0 ∙ ap (λ (i : ℕ). get_or base_classes i 0) H.1 ∙ sym k

      -- where one has it, it is that record's
      pub held-piece : s.today.start ≤ s.place → e ≡ min s.today.end near → c ≡ get_or classes s.today.next 0 → Next (piece c e)
      held-piece d g k =
          (record { more = omega (arith, S.today.ahead, S.under.ahead); most = omega arith; alike = alike }, omega arith, omega arith)
        where
          alike : (q : ℕ) → s.place ≤ q → q < e → class_over_map m keys classes base base_classes q ≡ c
          alike q x y =
              let H = at-holder P.today S.today d inside q x (omega arith) in
              over-held H.0 ∙ ap (λ (i : ℕ). get_or classes i 0) H.1 ∙ sym k
