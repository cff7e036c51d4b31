-- A use of a map and a window with a cap on the exponent of blocks: its refusals, and what is known behind them.
-- Assumes nothing.
use mathlib.Core.Path.{◌≡◌, refl, sym, ◌∙◌}
use mathlib.Core.Bool.{Bool, true, false}
use mathlib.Core.List.{List}
use Prim.Native.Nat.{ℕ, ◌≤◌}
use lib.ListN.{length}
use Rattle.std.specs.Prelude.{Result, Ok, Err}
use Rattle.answers.specs.declared.Cause.{Cause}
use Rattle.answers.specs.declared.Refused.{Refused}
use Rattle.answers.specs.Refusals.{refuse, verdict}
use Rattle.answers.specs.Sizes.{tile_refusals}
use Rattle.answers.specs.After.{after, tiled_for}
use Rattle.answers.proofs.Laws.{append-passed, append-refused, passed-append, on-passed, on-refused, answer-same, tile-passed, tiled-within}
use Rattle.window.specs.declared.Window.{Window}
use Rattle.window.specs.Window.{Inside}
use Rattle.map.specs.Sound.{SoundMap}
use Rattle.map.specs.Promises.{Gapless}
use Rattle.used.specs.Used.{Usable, use_refusals_in, tiled_refusals, used_in}
use Rattle.used.proofs.Use.{use-capped}
use Rattle.used.proofs.Used.{used-refused, used_over, used-gapless}

module _ (whole : Bool) (m top : ℕ) (keys : List ℕ) (classes : ℕ) (W : Window) (cells : ℕ) where
  pub tiled-first : {e : Refused} → verdict (tile_refusals m top) ≡ Err e → verdict (tiled_refusals whole m top keys classes W cells) ≡ Err e
  unfolding tiled_refusals
  tiled-first e = append-refused refuse (tile_refusals m top) _ _ e

  pub tiled-next : verdict (tile_refusals m top) ≡ Ok tt → verdict (tiled_refusals whole m top keys classes W cells) ≡ verdict (use_refusals_in whole m keys classes W cells)
  unfolding tiled_refusals
  tiled-next e = append-passed refuse (tile_refusals m top) _ _ e

  -- what a call may take for granted behind them
  module _ (e : verdict (tiled_refusals whole m top keys classes W cells) ≡ Ok tt) where
    both : (verdict (tile_refusals m top) ≡ Ok tt) × (verdict (use_refusals_in whole m keys classes W cells) ≡ Ok tt)
    unfolding tiled_refusals
    both = (passed-append (tile_refusals m top) (use_refusals_in whole m keys classes W cells)).0 e

    pub tiled-cap : top ≤ m
    tiled-cap = ((tile-passed m top).0 both.0).1

    pub tiled-usable : verdict (use_refusals_in whole m keys classes W cells) ≡ Ok tt
    tiled-usable = both.1

    pub tiled-known : Usable m top keys W cells
    tiled-known = use-capped whole m keys classes W cells both.1 tiled-cap

module _ (whole : Bool) {A : Type 0} (refuse : Cause → ℕ → A) (done : A) (cells : List ℕ) (m top : ℕ) (keys : List ℕ) (classes : ℕ) (W : Window) (border out : List ℕ) where
  pub used-tiled : {e : Refused} → verdict (tiled_refusals whole m top keys classes W (length border)) ≡ Err e
      → tiled_for refuse m top (border, out) (used_in whole refuse done cells m keys classes W border out) ≡ after (refuse e.cause e.place) (border, out)
  used-tiled {e} refused = go (verdict (tile_refusals m top)) refl
    where
      go : (v : Result Unit Refused) → verdict (tile_refusals m top) ≡ v
          → tiled_for refuse m top (border, out) (used_in whole refuse done cells m keys classes W border out) ≡ after (refuse e.cause e.place) (border, out)
      go (Ok tt) q =
          on-passed _ (tile_refusals m top) _ q
          ∙ used-refused whole refuse done cells m keys classes W border out (sym (tiled-next whole m top keys classes W (length border) q) ∙ refused)
      go (Err e') q =
          let same = sym (tiled-first whole m top keys classes W (length border) q) ∙ refused in
          on-refused _ (tile_refusals m top) _ (q ∙ same)

  -- a cap that is no larger than m refuses nothing
  pub used-within : top ≤ m → tiled_for refuse m top (border, out) (used_in whole refuse done cells m keys classes W border out) ≡ used_in whole refuse done cells m keys classes W border out
  used-within cap = tiled-within m top refuse (border, out) _ cap (λ l. used_over whole refuse done cells m keys classes W border out l)

-- on a map whose gaps are not refused, a use that may have gaps and one of a whole map are the same, if they are so where the map is sound, the cap no larger than m and the window inside
pub tiled-gapless : {m : ℕ} {keys : List ℕ} {classes : ℕ} → Gapless m keys classes
    → {A : Type 0} (refuse : Cause → ℕ → A) (done done' : A) (cells cells' : List ℕ) (top : ℕ) (W : Window) (border out : List ℕ)
    → (SoundMap m keys classes → top ≤ m → Inside m W → (done ≡ done') × (cells ≡ cells'))
    → tiled_for refuse m top (border, out) (used_in false refuse done cells m keys classes W border out)
    ≡ tiled_for refuse m top (border, out) (used_in true refuse done' cells' m keys classes W border out)
tiled-gapless {m = m} G refuse done done' cells cells' top W border out h =
    answer-same _ (tile_refusals m top) _ _ (λ passed. used-gapless G refuse done done' cells cells' W border out (λ S. h S ((tile-passed m top).0 passed).1))
