-- Refusals 1 and 17, and what is asked behind them.
-- Assumes nothing.
use mathlib.Core.Path.{◌≡◌, sym, ◌∙◌}
use mathlib.Core.Logic.{◌↔◌}
use mathlib.Core.List.{List, [], ◌∷◌}
use Prim.Native.Nat.{ℕ, ◌≤◌, ◌<◌}
use native.Mathlib.Decide.{dec_lt}
use native.Mathlib.Omega.{arith}
use lib.Dec.{ltb}
use borrow.Author.Tests.{ltb-false, lt-ltb, le-ltb}
use Rattle.std.specs.Prelude.{Ok}
use Rattle.answers.specs.declared.Cause.{Cause}
use Rattle.answers.specs.declared.Cause.TheVariants.{BadM, BadTile}
use Rattle.answers.specs.Refusals.{Refusal, refusal, refuse, verdict}
use Rattle.answers.specs.Sizes.{picture_refusals, tile_refusals}
use Rattle.answers.specs.After.{After, after, tiled_for}
use Rattle.answers.proofs.Tables.{refusal-held, passed-one, passed-append, append-passed, append-refused, on-passed, on-refused}
use Rattle.answers.proofs.Cells.{picture-passed, picture-refused}

module _ (m top : ℕ) where
  abbrev over : List Refusal
  over = refusal (ltb m top) BadTile 0 ∷ []

  pub tile-large : 12 < m → verdict (tile_refusals m top) ≡ refuse BadM 0
  unfolding tile_refusals
  tile-large l = append-refused refuse (picture_refusals m) over _ (picture-refused m l)

  pub tile-over : m ≤ 12 → m < top → verdict (tile_refusals m top) ≡ refuse BadTile 0
  unfolding tile_refusals
  tile-over l h = append-passed refuse (picture_refusals m) over _ ((picture-passed m).1 l) ∙ refusal-held refuse BadTile 0 [] _ (lt-ltb m top h)

  pub tile-passed : (verdict (tile_refusals m top) ≡ Ok tt) ↔ ((m ≤ 12) × (top ≤ m))
  unfolding tile_refusals
  tile-passed =
      let both = passed-append (picture_refusals m) over in
      let own = passed-one (ltb m top) BadTile 0 in (
        λ e. let t = both.0 e in ((picture-passed m).0 t.0, ltb-false m top (own.0 t.1)),
        λ t. both.1 ((picture-passed m).1 t.0, own.1 (le-ltb m top t.1)),
      )

  module _ {A S : Type 0} (refuse : Cause → ℕ → A) (lent : S) (o : After A S) where
    -- blocks no larger than the picture change no refusal of what gives 1 by itself
    pub tiled-within : top ≤ m → (12 < m → o ≡ after (refuse BadM 0) lent) → tiled_for refuse m top lent o ≡ o
    tiled-within l one = go (dec_lt 12 m)
      where
        go : Dec (12 < m) → tiled_for refuse m top lent o ≡ o
        go (yes h) = on-refused _ (tile_refusals m top) o (tile-large h) ∙ sym (one h)
        go (no h) = on-passed _ (tile_refusals m top) o (tile-passed.1 (omega arith, l))
