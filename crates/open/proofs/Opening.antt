-- Opening as a use of a map and a window, and passes over the maximal blocks with and without room.
-- Assumes nothing.
use mathlib.Core.Path.{◌≡◌, refl, sym, ap, ◌∙◌}
use mathlib.Core.Bool.{Bool, true, false}
use mathlib.Core.List.{List, []}
use Prim.Native.Nat.{ℕ, ◌*◌, ◌≤◌, ◌<◌}
use native.Mathlib.Omega.{arith}
use lib.ListN.{length}
use Rattle.std.specs.Prelude.{Result, Ok, Err}
use Rattle.answers.specs.declared.Cause.TheVariants.{ShortRoom}
use Rattle.answers.specs.declared.Refused.{Refused}
use Rattle.answers.specs.Refusals.{refuse, verdict}
use Rattle.answers.specs.After.{after, tiled_for}
use Rattle.window.specs.declared.Window.{Window}
use Rattle.map.specs.Promises.{Gapless}
use Rattle.border.specs.declared.Totals.{Totals}
use Rattle.border.specs.Openings.{Opening, openings, handed_count, cells_of}
use Rattle.border.specs.Found.{Passed}
use Rattle.border.proofs.Loops.{passed-written}
use Rattle.border.proofs.Laws.{cells-length}
use Rattle.used.specs.Used.{use_refusals_in, tiled_refusals, spent, used_in}
use Rattle.used.proofs.Laws.{used-short, used-done, spent-again, tiled-cap, tiled-usable, used-tiled, used-within, tiled-gapless}
use Rattle.open.specs.Open.{counted, open_in}
use Rattle.open.proofs.Accepted.{accepted}

module _ (whole : Bool) (m top : ℕ) (keys : List ℕ) (classes : ℕ) (W : Window) (border out : List ℕ) where
  abbrev os : List Opening
  os = openings m top keys W

  abbrev done : Result Totals Refused
  done = Ok (counted (length os) (handed_count os))

  -- opening is such a use
  pub open_is : open_in whole m top keys classes W border out
      ≡ (let os = openings m top keys W in
      tiled_for refuse m top (border, out) (used_in whole refuse (Ok (counted (length os) (handed_count os))) (cells_of os) m keys classes W border out))
  unfolding open_in
  open_is = refl

  pub open-refused : {e : Refused} → verdict (tiled_refusals whole m top keys classes W (length border)) ≡ Err e
      → open_in whole m top keys classes W border out ≡ after (Err e) (border, out)
  open-refused e = open_is ∙ used-tiled whole refuse done (cells_of os) m top keys classes W border out e

  -- with blocks no larger than the picture it is as without refusal 17
  pub open-within : top ≤ m → open_in whole m top keys classes W border out
      ≡ (let os = openings m top keys W in used_in whole refuse (Ok (counted (length os) (handed_count os))) (cells_of os) m keys classes W border out)
  open-within cap = open_is ∙ used-within whole refuse done (cells_of os) m top keys classes W border out cap

  module _ (e : verdict (tiled_refusals whole m top keys classes W (length border)) ≡ Ok tt) where
    behind : open_in whole m top keys classes W border out ≡ used_in whole refuse done (cells_of os) m keys classes W border out
    behind = open-within (tiled-cap whole m top keys classes W (length border) e)

    usable : verdict (use_refusals_in whole m keys classes W (length border)) ≡ Ok tt
    usable = tiled-usable whole m top keys classes W (length border) e

    pub open-short : {needed : ℕ} {left out' : List ℕ} → needed ≡ 3 * length (openings m top keys W) → length out < needed → left ≡ spent W border → out' ≡ out
        → after (refuse ShortRoom needed) (left, out') ≡ open_in whole m top keys classes W border out
    open-short d l spends same =
        let n = d ∙ sym (cells-length os) in
        rw (n, spends, same) (sym (behind ∙ used-short whole refuse done (cells_of os) m keys classes W border out usable (omega (arith, n))))

    pub open_done : 3 * length (openings m top keys W) ≤ length out → open_in whole m top keys classes W border out ≡ accepted m top keys W border out
    unfolding accepted
    open_done l = behind ∙ used-done whole refuse done (cells_of os) m keys classes W border out usable (omega (arith, cells-length os))

-- on a map whose gaps are not refused it is the same whether the map is to be whole or not
pub open-gapless : {m : ℕ} {keys : List ℕ} {classes : ℕ} → Gapless m keys classes → (top : ℕ) (W : Window) (border out : List ℕ)
    → open_in false m top keys classes W border out ≡ open_in true m top keys classes W border out
unfolding open_in
open-gapless G top W border out = tiled-gapless G refuse _ _ _ _ top W border out (λ S cap I. (refl, refl))

-- a border that is spent already is spent no further
pub accepted-again : (m top : ℕ) (keys : List ℕ) (W : Window) (border out : List ℕ) → accepted m top keys W (spent W border) out ≡ accepted m top keys W border out
unfolding accepted
accepted-again m top keys W border out = rw (spent-again W border)

-- a pass over a slice with room for all
pub passed-all : {m top : ℕ} {keys : List ℕ} {W : Window} {border₀ out₀ border out : List ℕ} {totals : Totals} → Passed m top keys W border₀ out₀ totals border out
    → 3 * length (openings m top keys W) ≤ length out₀ → after (Ok totals) (border, out) ≡ accepted m top keys W border₀ out₀
unfolding accepted
passed-all {m} {top} {keys} {W} {totals = totals} p l =
    let os = openings m top keys W in
    let same : totals ≡ counted (length os) (handed_count os) = ap (λ (n : ℕ). counted n totals.records) p.many ∙ ap (counted (length os)) p.records in
    rw (same, p.ends, passed-written p l)

-- ---- the pass that writes

-- The border with which it starts, where border₀ is lent and there is room for all openings: it is as it was or spent already, which makes no difference.
pub record Writable (m top : ℕ) (keys : List ℕ) (W : Window) (border₀ out border : List ℕ) : Type 0 where
  pub room : 3 * length (openings m top keys W) ≤ length out
  pub either : accepted m top keys W border out ≡ accepted m top keys W border₀ out

module _ {m top : ℕ} {keys : List ℕ} {W : Window} {border₀ out border : List ℕ} where
  -- where no pass has gone before
  pub writable-first : border ≡ border₀ → 3 * length (openings m top keys W) ≤ length out → Writable m top keys W border₀ out border
  writable-first e l = record { room = l; either = ap (λ (b : List ℕ). accepted m top keys W b out) e }

  -- where a pass has counted them and written none
  pub writable-counted : {left part : List ℕ} {totals : Totals} → Passed m top keys W border₀ [] totals left part → border ≡ left
      → 3 * totals.openings ≤ length out → Writable m top keys W border₀ out border
  writable-counted p e l = record {
    room = omega (arith, p.many);
    either = ap (λ (b : List ℕ). accepted m top keys W b out) (e ∙ p.ends) ∙ accepted-again m top keys W border₀ out;
  }

  pub written_all : Writable m top keys W border₀ out border → {border' out' : List ℕ} {totals : Totals} → Passed m top keys W border out totals border' out'
      → (whole : Bool) (classes : ℕ) → verdict (tiled_refusals whole m top keys classes W (length border₀)) ≡ Ok tt
      → after (Ok totals) (border', out') ≡ open_in whole m top keys classes W border₀ out
  written_all R p whole classes e = passed-all p R.room ∙ R.either ∙ sym (open_done whole m top keys classes W border₀ out e R.room)
