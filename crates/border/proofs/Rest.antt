-- From a place of the walk on: what one step after another makes is the rest of the openings, and the border ends spent. By induction over the blocks that are left.
-- Assumes nothing.
use mathlib.Core.Path.{◌≡◌, sym, ◌∙◌}
use mathlib.Core.List.{List, [], ◌∷◌, ◌++◌, map, map-append, append_assoc, append-nil}
use Prim.Native.Nat.{ℕ}
use lib.ListN.{length}
use Rattle.std.specs.Prelude.{Option}
use Rattle.key.specs.Picture.{Px}
use Rattle.window.specs.declared.Window.{Window}
use Rattle.window.specs.Blocks.{maximal}
use Rattle.window.specs.Keys.{key_of}
use Rattle.used.specs.Used.{Usable}
use Rattle.border.specs.declared.Opened.{Opened}
use Rattle.border.specs.Openings.{open_from}
use Rattle.border.specs.Border.{Stated, Covered}
use Rattle.border.specs.Step.{Corner, Step}
use Rattle.border.specs.Found.{steps_make, steps_leave, Kept}
use Rattle.border.proofs.Gone.{handed_after, handed_by}
use Rattle.border.proofs.Fold.{opens-none, opens-append, handed-append}
use Rattle.border.proofs.Earlier.{own-corner}
use Rattle.border.proofs.Making.{made-is, stated-step}
use Rattle.border.proofs.Stepping.{kept-none, kept_more, step_kept, made-step, left_step, stepped-on}

-- when the blocks of `past` are past, steps over those of `bs`, which are to come, make the rest of the openings and leave a border on which all is out
pub record Ahead (m top : ℕ) (keys : List ℕ) (W : Window) (past bs : List Px) (cells : List ℕ) : Type 0 where
  pub openings : steps_make m top keys W cells bs ≡ open_from m keys (handed_by m top keys W past) (map (key_of m top W) bs)
  pub stated : Stated W (Covered m top keys W (maximal W top)) (steps_leave m top keys W cells bs)
  pub kept : Kept W cells (steps_leave m top keys W cells bs)

pub ahead-is : {m top : ℕ} {keys : List ℕ} {W : Window} (past bs : List Px) (cells : List ℕ) → Usable m top keys W (length cells) → maximal W top ≡ past ++ bs
    → Stated W (Covered m top keys W past) cells → Ahead m top keys W past bs cells
unfolding steps_make steps_leave
ahead-is {m} {top} {keys} {W} past [] cells U split st = record {
  openings = rw opens-none;
  stated = rw (split, append-nil) st;
  kept = kept-none;
}
ahead-is {m} {top} {keys} {W} past (b ∷ bs) cells U split st = go (stepped-on cells U K) (ahead-is (past ++ (b ∷ [])) bs)
  where
    K : Corner W top b
    K = own-corner past b bs split

    go : (answer : Option Opened) × (border : List ℕ) × Step m top keys W b cells answer border
        → ((border : List ℕ) → Usable m top keys W (length border) → maximal W top ≡ (past ++ (b ∷ [])) ++ bs → Stated W (Covered m top keys W (past ++ (b ∷ []))) border
        → Ahead m top keys W (past ++ (b ∷ [])) bs border)
        → Ahead m top keys W past (b ∷ bs) cells
    go (answer, border, S) ih =
        let k = step_kept S K U.wide in
        let A = ih border (rw k.same U) (split ∙ sym (append_assoc past (b ∷ []) bs)) (stated-step U.spaced U.inside U.cap past b bs split st S) in
        let handed = handed_by m top keys W past in
        let e : handed_by m top keys W (past ++ (b ∷ [])) ≡ handed_after m keys handed (key_of m top W b ∷ []) =
        rw (map-append (key_of m top W) past (b ∷ [])) (handed-append m keys [] (map (key_of m top W) past) (key_of m top W b ∷ [])) in
        record {
          openings =
              made-step S bs
              ∙ rw (made-is U.spaced U.inside U.cap past b bs split st S.is, A.openings, e) (sym (opens-append m keys handed (key_of m top W b ∷ []) (map (key_of m top W) bs)));
          stated = rw (left_step S bs) A.stated;
          kept = rw (left_step S bs) (kept_more k A.kept);
        }
