-- From opening to opening: a border that is filled anew, the openings behind the walk and those ahead of it, and the last one.
-- Assumes nothing.
use mathlib.Core.Path.{◌≡◌, refl, sym, ap, ◌∙◌}
use mathlib.Core.List.Memᴰ
use mathlib.Core.List.{List, [], ◌∷◌, ◌++◌, append_assoc, append-nil, Memᴰ}
use Prim.Native.Nat.{ℕ, ◌+◌, ◌≤◌, ◌<◌}
use native.Mathlib.Omega.{arith}
use lib.ListN.{length, replicate, length-replicate, take-append-drop}
use Rattle.answers.proofs.Laws.{overwrite-part}
use Rattle.std.specs.Prelude.{None, Some}
use Rattle.window.specs.declared.Window.{Window}
use Rattle.window.specs.Blocks.{exponent, maximal}
use Rattle.window.specs.Walk.{Walked, corner_of}
use Rattle.window.specs.Keys.{key_of}
use Rattle.window.proofs.Laws.{walked-first}
use Rattle.map.specs.Runs.{run_of}
use Rattle.map.specs.Runs as runs
use Rattle.used.specs.Used.{Usable, spent}
use Rattle.used.proofs.Laws.{spent-is}
use Rattle.border.specs.declared.Walk.{Walk}
use Rattle.border.specs.declared.Opening as found
use Rattle.border.specs.Openings.{Opening, made, opening, openings}
use Rattle.border.specs.Border.{Stated, Covered}
use Rattle.border.specs.Cells.{filled}
use Rattle.border.specs.Step.{Corner}
use Rattle.border.specs.Found.{steps_leave, walk_makes, walk_leaves, walk, spot, Reached, Kept, Finds}
use Rattle.border.specs.Found as finds
use Rattle.border.proofs.Gone.{handed_after}
use Rattle.border.proofs.Filled.{filled-length, filled-beyond}
use Rattle.border.proofs.Columns.{left-first}
use Rattle.border.proofs.Stays.{begins, ends}
use Rattle.border.proofs.Fold.{openings-are, opening-block}
use Rattle.border.proofs.Overlaps.{met-room, far-is}
use Rattle.border.proofs.Covering.{none-covered, all-covered}
use Rattle.border.proofs.Stepping.{kept-none, kept_more, spent-kept}
use Rattle.border.proofs.Rest.{Ahead, ahead-is}
pub use Rattle.border.proofs.Stepping.{filled-spent}

-- the walk stands somewhere, with these openings behind it
pub record Finding (m top : ℕ) (keys : List ℕ) (W : Window) (border₀ border : List ℕ) (at : Walk) (done : List Opening) : Type 0 where
  pub reached : Reached m top keys W at border
  pub kept : Kept W border₀ border
  pub all : openings m top keys W ≡ done ++ walk_makes m top keys W border (spot at)
  pub left : walk_leaves m top keys W border (spot at) ≡ spent W border₀

-- at first, behind a border that is filled anew
module _ {m top : ℕ} {keys : List ℕ} {W : Window} (cells : List ℕ) {border : List ℕ} (U : Usable m top keys W (length cells)) (e : border ≡ filled 0 W.w W.r0 cells) where
  fresh : Kept W cells border
  fresh = rw e (record {
    same = filled-length 0 W.w W.r0 cells (omega arith) U.wide;
    beyond = filled-beyond 0 W.w W.r0 cells (omega arith) U.wide W.w (omega arith);
  })

  pub fresh-same : length border ≡ length cells
  fresh-same = fresh.same

  pub fresh-usable : Usable m top keys W (length border)
  fresh-usable = rw fresh.same U

  pub fresh-spent : spent W border ≡ spent W cells
  fresh-spent = spent-kept fresh

  pub finding-first : Finding m top keys W border border (walk W.r0 W.c0 W.w) []
  unfolding handed_after
  finding-first = record {
    reached = record { past = []; walked = walked; stated = stated; left = rw e (left-first W cells U.inside.tall U.wide) };
    kept = kept-none;
    all = openings-are m top keys W ∙ rw (← walked.all) (sym A.openings);
    left =
        let t = ends (steps_leave m top keys W border (maximal W top)) (λ p v. all-covered U.spaced U.inside U.cap v) (omega (arith, fresh-usable.wide, A.kept.same)) A.stated in
        let l : length (replicate W.w (W.r0 + W.h)) ≡ W.w = length-replicate W.w (W.r0 + W.h) in
        rw (← walked.all) (sym (take-append-drop W.w _) ∙ rw (t, A.kept.beyond) (rw l at (overwrite-part (replicate W.w (W.r0 + W.h)) border)) ∙ sym (spent-is W border));
  }
    where
      walked : Walked W top [] (W.r0, W.c0)
      walked = walked-first U.inside

      stated : Stated W (Covered m top keys W []) border
      stated = rw e (begins cells (λ p. none-covered m top keys W) U.wide)

      A : Ahead m top keys W [] (maximal W top) border
      A = ahead-is [] (maximal W top) border fresh-usable refl stated

-- then from one opening to the next, and to the last
module _ {m top : ℕ} {keys : List ℕ} {W : Window} {border₀ border : List ℕ} {at : Walk} {done : List Opening} (F : Finding m top keys W border₀ border at done) where
  pub finding-usable : Usable m top keys W (length border₀) → Usable m top keys W (length border)
  finding-usable U = rw F.kept.same U

  -- cells that are filled to the end are spent, however far the walk is
  pub finding-spent : {after : List ℕ} → Usable m top keys W (length border₀) → after ≡ filled 0 W.w (W.r0 + W.h) border
      → (after ≡ spent W border₀) × (length after ≡ length border₀)
  finding-spent U e =
      let l = (finding-usable U).wide in
      (e ∙ filled-spent W border l ∙ spent-kept F.kept, rw e (filled-length 0 W.w (W.r0 + W.h) border (omega arith) l) ∙ F.kept.same)

  pub finding-last : {on : Walk} {border' : List ℕ} → Finds m top keys W at border None on border'
      → (openings m top keys W ≡ done) × (border' ≡ spent W border₀) × Kept W border₀ border'
  finding-last (finds.end k e l) = (F.all ∙ rw (e, append-nil), sym l ∙ F.left, kept_more F.kept k)

-- What is found is an opening, and the walk stands behind its block then. The block is a maximal one, its run is that of its key, and with the opening behind it the walk has fewer ahead.
pub record Opens {m top : ℕ} {keys : List ℕ} {W : Window} {border₀ border : List ℕ} {at : Walk} {done : List Opening} (F : Finding m top keys W border₀ border at done)
    (o : found.Opening) (on : Walk) (border' : List ℕ) : Type 0 where
  pub corner : Corner W top (corner_of o.block)
  pub size : o.block.exponent ≡ exponent W top (corner_of o.block)
  pub named : o.key ≡ key_of m top W (corner_of o.block)
  pub run : run_of m keys o.key ≡ o.run
  pub room : o.run.first + o.run.count ≤ length keys
  pub next : Finding m top keys W border₀ border' on (done ++ (made o.key o.run.first o.run.count ∷ []))
  pub fewer : length (walk_makes m top keys W border' (spot on)) < length (walk_makes m top keys W border (spot at))

module _ {m top n : ℕ} {keys : List ℕ} {W : Window} (U : Usable m top keys W n)
    {border₀ border : List ℕ} {at : Walk} {done : List Opening} (F : Finding m top keys W border₀ border at done)
    {o : found.Opening} {on : Walk} {border' : List ℕ} where
  pub finds-opens : Finds m top keys W at border (Some o) on border' → Opens F o on border'
  unfolding opening
  finds-opens (finds.opening K x n f R k e l) =
      let rest = walk_makes m top keys W border' (spot on) in
      let listed : Memᴰ (made o.key o.run.first o.run.count) (openings m top keys W) = rw (F.all, e) (Memᴰ.append_right done (Memᴰ.head {xs = rest} refl)) in
      let t = opening-block m top keys W listed in
      let d : key_of m top W t.0 ≡ key_of m top W (corner_of o.block) = sym (ap (λ (o : Opening). o.key) t.2) ∙ n in
      let far-own = far-is U.spaced U.inside U.cap K in
      let r : run_of m keys (key_of m top W (corner_of o.block)) ≡ o.run =
      rw (f ∙ sym far-own, ← d) (ap (λ (o : Opening). runs.run o.first o.count (run_of m keys (key_of m top W t.0)).reach) (sym t.2)) in
      record {
        corner = K;
        size = x;
        named = n;
        run = rw n r;
        room = rw r at (met-room U.spaced U.inside U.cap K);
        next = record { reached = R; kept = kept_more F.kept k; all = F.all ∙ rw e (sym (append_assoc done _ _)); left = sym l ∙ F.left };
        fewer = rw e (omega arith);
      }
