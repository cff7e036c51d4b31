-- One step: what it finds in the map, and that it keeps its promise whether the block is skipped or opened.
-- Assumes nothing.
use mathlib.Core.Path.{◌≡◌, refl, sym, ap, ◌∙◌}
use mathlib.Core.List.{List}
use Prim.Native.Nat.{ℕ, ◌-◌, ◌≤◌, ◌<◌}
use native.Mathlib.Omega.{arith}
use lib.ListN.{length, get_or}
use Rattle.std.specs.Prelude.{None, Some}
use Rattle.answers.specs.After.{after}
use Rattle.key.specs.Picture.{Pixel, Px}
use Rattle.key.specs.Key.{block_key}
use Rattle.window.specs.declared.Window.{Window}
use Rattle.window.specs.Keys.{key_of}
use Rattle.window.proofs.Laws.{exponent-le, pixel-in, key-at}
use Rattle.map.specs.declared.Run.{Run}
use Rattle.map.specs.Records.{pixel_exponent}
use Rattle.map.specs.Runs.{run_of, BlockOf}
use Rattle.map.specs.Runs as runs
use Rattle.map.proofs.Laws.{pixel_tile, tiles}
use Rattle.border.specs.declared.Opened.{Opened}
use Rattle.border.specs.Cells.{pushed, closed}
use Rattle.border.specs.Step.{reach, opened, step_of, Ready, Step}
use Rattle.border.proofs.Sweep.{Out}
use Rattle.border.proofs.Stays.{skip-iff, skips, pushes}
use Rattle.border.proofs.Overlaps.{block-key, far-is}
use Rattle.border.proofs.Earlier.{stated-out}
use Rattle.border.proofs.Making.{high_is, low-is, stated-made}

pub opened-not-skipped : {o : Opened} → Some o ≡ None → ⊥
opened-not-skipped e = let z : ◌≡◌ {A = ℕ} 0 1 = cc in omega arith

module _ {m top : ℕ} {keys : List ℕ} {W : Window} {b : Px} {i room : ℕ} (K : Ready m top keys W b i room) where
  -- ---- what it finds

  pub step-pixel : (i ≤ m) × Pixel m b.0 b.1
  step-pixel = (omega (arith, K.size, K.given.cap, exponent-le W top b), pixel-in K.given.inside K.corner.inside)

  -- its key
  pub step-name : {key : ℕ} → key ≡ block_key m i b.0 b.1 → key ≡ key_of m top W b
  step-name e = e ∙ key-at m top W b K.size

  pub step_block : {key : ℕ} → key ≡ key_of m top W b → BlockOf m key i
  step_block name = rw (name, K.size) (block-key K.given.spaced K.given.inside K.given.cap K.corner)

  module _ {key : ℕ} {run : Run} (name : key ≡ key_of m top W b) (e : run ≡ run_of m keys key) where
    abbrev own : Run
    own = run_of m keys (key_of m top W b)

    found : run ≡ own
    found = e ∙ ap (run_of m keys) name

    pub step-reach : run.reach ≡ reach W top (pixel_exponent m keys) b
    step-reach = rw found (far-is K.given.spaced K.given.inside K.given.cap K.corner)

  pub step_small : reach W top (pixel_exponent m keys) b ≤ m
  step_small = omega (arith, K.given.cap, exponent-le W top b, (tiles K.given.spaced).small (pixel-in K.given.inside K.corner.inside))

  -- ---- what it does

  module _ (cells : List ℕ) where
    pub step-skipped : b.0 < get_or cells (b.1 - W.c0) 0 → Step m top keys W b cells None cells
    step-skipped l =
        let is : after None cells ≡ step_of m top keys W b cells = sym (high_is m top keys W b cells l) in
        record {
          is = is;
          skips = (λ e. l, λ h. refl);
          stays = λ before later split st.
              let o = stated-out K.given.spaced K.given.inside K.given.cap before b later split st in
              let now = skips K.given.inside (tiles K.given.spaced) K.corner ((skip-iff K.given.inside (tiles K.given.spaced) K.corner o).0 l) o in
              stated-made K.given.spaced K.given.inside K.given.cap before b later split st is now;
        }

    pub step-opened : {key : ℕ} {run : Run} {shut : ℕ} {cells' : List ℕ} → get_or cells (b.1 - W.c0) 0 ≤ b.0 → W.w ≤ length cells
        → key ≡ key_of m top W b → run ≡ run_of m keys key
        → shut ≡ closed W run.reach b → cells' ≡ pushed W run.reach b cells → Step m top keys W b cells (Some (opened key run shut)) cells'
    step-opened {key} {run} {shut} {cells'} l wide name e x f =
        let d = step-reach name e in
        let up : _ ≡ pushed W (reach W top (pixel_exponent m keys) b) b cells = f ∙ ap (λ (x : ℕ). pushed W x b cells) d in
        let shuts : _ ≡ closed W (reach W top (pixel_exponent m keys) b) b = x ∙ ap (λ (y : ℕ). closed W y b) d in
        let own = run_of m keys (key_of m top W b) in
        let met : run ≡ runs.run own.first own.count (reach W top (pixel_exponent m keys) b) =
        found name e ∙ ap (runs.run own.first own.count) (sym (ap (λ (r : Run). r.reach) (found name e)) ∙ d) in
        let is : after (Some (opened key run shut)) cells' ≡ step_of m top keys W b cells = rw (low-is m top keys W b cells l, up, shuts, met, name) in
        record {
          is = is;
          skips = (λ z. absurd (opened-not-skipped z), λ h. absurd (omega arith));
          stays = λ before later split st.
              let o = stated-out K.given.spaced K.given.inside K.given.cap before b later split st in
              let fresh : ¬ Out W top (pixel_tile m keys) b b = λ z. omega (arith, (skip-iff K.given.inside (tiles K.given.spaced) K.corner o).1 z) in
              let now = pushes K.given.inside (tiles K.given.spaced) K.corner fresh wide o in
              stated-made K.given.spaced K.given.inside K.given.cap before b later split st is (rw up now);
        }
