-- Opening and report as calls with room enough, on a sound map: only 6 can refuse them. So what they say is what is said of one of many windows.
-- Assumes nothing.
use mathlib.Core.Path.{◌≡◌, refl, sym, ap, ◌∙◌}
use mathlib.Core.Bool.{true}
use mathlib.Core.List.{List, [], ◌∷◌, ◌++◌}
use Prim.Native.Nat.{ℕ, ◌*◌, ◌≤◌}
use native.Mathlib.Decide.{dec_le}
use native.Mathlib.Omega.{arith}
use lib.ListN.{length, take}
use Rattle.answers.specs.Refusals as of
use Rattle.std.specs.Prelude.{Result, Ok, Err}
use Rattle.answers.specs.declared.Refused.{Refused}
use Rattle.answers.specs.Refusals.{answer, verdict, refuse}
use Rattle.answers.specs.Sizes.{tile_refusals}
use Rattle.answers.specs.After.{room_refusals}
use Rattle.answers.proofs.Laws.{answer-append, answer-part, append-passed, on-passed, on-refused, tile-passed, room-passed, room-refused}
use Rattle.window.specs.declared.Window.{Window}
use Rattle.window.specs.Window.{window_refusals}
use Rattle.map.specs.Check.{map_refusals}
use Rattle.map.specs.Sound.{SoundMap}
use Rattle.map.specs.Classes.{class_in}
use Rattle.map.proofs.Laws.{sound-map}
use Rattle.border.specs.Openings.{Opening, openings, handed_count}
use Rattle.used.specs.Used.{border_refusals, use_refusals}
use Rattle.used.proofs.Laws.{border-passed, border-refused, use-parts}
use Rattle.many.specs.declared.Line.{Line}
use Rattle.many.specs.Many.{line, line_of, line_cells}
use Rattle.many.proofs.Laws.{line-is}
use Rattle.lutniorad.specs.declared.Answer.{Answer}
use Rattle.lutniorad.specs.Numbers.{refused, values, refusing}
use Rattle.lutniorad.specs.Calls.{Open, Report}
use Rattle.lutniorad.specs.ManyPromises.{Roomy}
use Rattle.lutniorad.proofs.Opening.{open-says}
use Rattle.lutniorad.proofs.Asked.{report-says}

-- of refusals 1 to 8 only 6 is left
roomy-says : (m : ℕ) (keys : List ℕ) (classes : ℕ) (W : Window) → SoundMap m keys classes → (border room needed : ℕ) {r : Answer} (v : Answer)
    → r ≡ answer refusing (use_refusals m keys classes W border ++ room_refusals room needed) v → Roomy r → r ≡ answer refusing (window_refusals m W) v
roomy-says m keys classes W sound border room needed {r} v says R = go (verdict (window_refusals m W)) refl
  where
    behind : r ≡ answer refusing (window_refusals m W) (answer refusing (border_refusals W.w border) (answer refusing (room_refusals room needed) v))
    behind =
        says
        ∙ answer-append refusing (use_refusals m keys classes W border) (room_refusals room needed) v
        ∙ use-parts true m keys classes W border refusing _
        ∙ on-passed refusing (map_refusals m keys classes) _ ((sound-map m keys classes).1 sound)

    number : {n p : ℕ} → r ≡ refused n p → r.refusal ≡ n
    number e = ap (λ (x : Answer). x.refusal) e

    by-room : Dec (needed ≤ room) → r ≡ answer refusing (room_refusals room needed) v → r ≡ v
    by-room (yes l) e = e ∙ on-passed refusing (room_refusals room needed) v ((room-passed room needed).1 l)
    by-room (no h) e = absurd (R.1 (number (e ∙ on-refused refusing (room_refusals room needed) v (room-refused room needed (omega (arith, h))))))

    by-border : Dec (W.w ≤ border) → r ≡ answer refusing (border_refusals W.w border) (answer refusing (room_refusals room needed) v) → r ≡ v
    by-border (yes l) e = by-room (dec_le needed room) (e ∙ on-passed refusing (border_refusals W.w border) _ ((border-passed W.w border).1 l))
    by-border (no h) e = absurd (R.0 (number (e ∙ on-refused refusing (border_refusals W.w border) _ (border-refused W.w border (omega (arith, h))))))

    go : (w : Result Unit Refused) → verdict (window_refusals m W) ≡ w → r ≡ answer refusing (window_refusals m W) v
    go (Ok _) e = by-border (dec_le W.w border) (behind ∙ on-passed refusing (window_refusals m W) _ e) ∙ sym (on-passed refusing (window_refusals m W) v e)
    go (Err f) e = behind ∙ on-refused refusing (window_refusals m W) _ e ∙ sym (on-refused refusing (window_refusals m W) v e)

module _ (m : ℕ) (keys classes : List ℕ) (W : Window) (sound : SoundMap m keys (length classes)) (border out : List ℕ) where
  abbrev os : List Opening
  os = openings m m keys W

  -- four numbers
  abbrev four : Answer → List ℕ
  four x = x.refusal ∷ x.place ∷ x.first ∷ x.second ∷ []

  pub open-line : {r : Answer} {border' out' : List ℕ} → Open m keys classes W border out r border' out' → Roomy r
      → take 4 (line_cells (line_of m keys W)) ≡ r.refusal ∷ r.place ∷ r.first ∷ r.second ∷ []
  open-line call R =
      let capped = (tile-passed m m).1 (sound.sizes.small, omega arith) in
      let says = open-says true m m keys classes W border out call ∙ append-passed refusing (tile_refusals m m) _ _ capped in
      let only = roomy-says m keys (length classes) W sound (length border) (length out) _ (values (length os) (handed_count os)) says R in
      ap (λ (x : Line). take 4 (line_cells x)) (line-is m keys W)
      ∙ answer-part (λ (x : Line). take 4 (line_cells x)) (λ c p. line (of.number c) p 0 0 0) (window_refusals m W) _
      ∙ sym (ap four only ∙ answer-part four refusing (window_refusals m W) (values (length os) (handed_count os)))

  pub report-line : {r : Answer} {border' out' : List ℕ} → Report m keys classes W border out r border' out' → Roomy r → (line_of m keys W).pixels ≡ r.first
  report-line call R =
      let only = roomy-says m keys (length classes) W sound (length border) (length out) _ (values (W.h * W.w) 0) (report-says true (class_in m keys classes) m keys classes W border out call) R in
      ap (λ (x : Line). x.pixels) (line-is m keys W)
      ∙ answer-part (λ (x : Line). x.pixels) (λ c p. line (of.number c) p 0 0 0) (window_refusals m W) _
      ∙ sym (ap (λ (x : Answer). x.first) only ∙ answer-part (λ (x : Answer). x.first) refusing (window_refusals m W) (values (W.h * W.w) 0))
