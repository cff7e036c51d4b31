-- Refusals tell nothing of the rest of the map either: on sound maps with the same view through the window, two calls with borders and slices of the same lengths return the same
-- numbers, an answer or a refusal with its place.
-- Assumes nothing.
use mathlib.Core.Path.{◌≡◌, sym, ap, ap₂, ◌∙◌}
use mathlib.Core.Bool.{true}
use mathlib.Core.List.{List, ◌++◌}
use Prim.Native.Nat.{ℕ, ◌*◌, ◌≤◌}
use lib.ListN.{length}
use Rattle.std.specs.Prelude.{Ok}
use Rattle.answers.specs.Refusals.{answer, verdict}
use Rattle.answers.specs.Sizes.{tile_refusals}
use Rattle.answers.specs.After.{room_refusals}
use Rattle.answers.proofs.Laws.{answer-append, answer-same, tile-passed}
use Rattle.window.specs.declared.Window.{Window}
use Rattle.window.specs.Window.{Inside}
use Rattle.map.specs.Sound.{SoundMap}
use Rattle.map.specs.Classes.{class_in}
use Rattle.map.proofs.Laws.{spaced}
use Rattle.border.specs.Openings.{Opening, openings, handed_count, cells_of}
use Rattle.border.specs.ViewPromises.{SameView}
use Rattle.border.proofs.Laws.{cells-length, openings-numbers}
use Rattle.used.specs.Used.{use_refusals}
use Rattle.used.proofs.Laws.{use-alike}
use Rattle.exist.proofs.Laws.{presence-view}
use Rattle.totals.proofs.Laws.{totals-length}
use Rattle.select.specs.Select.{selection}
use Rattle.select.proofs.Laws.{selection-view}
use Rattle.lutniorad.specs.declared.Answer.{Answer}
use Rattle.lutniorad.specs.Numbers.{values, refusing, existence_values}
use Rattle.lutniorad.specs.Calls.{OpenTiled, Exist, Report, SelectTiled}
use Rattle.lutniorad.proofs.Answered.{exist-says}
use Rattle.lutniorad.proofs.Opening.{open-says}
use Rattle.lutniorad.proofs.Asked.{report-says}
use Rattle.lutniorad.proofs.Selecting.{select-says}

module _ {m : ℕ} {keys keys' : List ℕ} {n n' : ℕ} (S : SoundMap m keys n) (S' : SoundMap m keys' n') (W : Window) where
  -- behind refusals 1 to 7
  used : {cells cells' : ℕ} → cells ≡ cells' → (a a' : Answer) → (Inside m W → a ≡ a')
      → answer refusing (use_refusals m keys n W cells) a ≡ answer refusing (use_refusals m keys' n' W cells') a'
  used {cells' = cells'} e a a' h =
      rw e (use-alike S S' W cells' refusing a a' h)

  -- and behind 17, before 8
  tiled : (top : ℕ) {cells cells' room room' : ℕ} → cells ≡ cells' → room ≡ room' → {needed needed' : ℕ} (a a' : Answer)
      → (top ≤ m → Inside m W → (needed ≡ needed') × (a ≡ a'))
      → answer refusing (tile_refusals m top ++ (use_refusals m keys n W cells ++ room_refusals room needed)) a
      ≡ answer refusing (tile_refusals m top ++ (use_refusals m keys' n' W cells' ++ room_refusals room' needed')) a'
  tiled top {cells} {cells'} {room} {room'} e d {needed} {needed'} a a' h =
      answer-append refusing (tile_refusals m top) _ a ∙ answer-same refusing (tile_refusals m top) _ _ behind ∙ sym (answer-append refusing (tile_refusals m top) _ a')
    where
      fits : top ≤ m → Inside m W → answer refusing (room_refusals room needed) a ≡ answer refusing (room_refusals room' needed') a'
      fits cap I = let t = h cap I in rw (d, t.0, t.1)

      behind : verdict (tile_refusals m top) ≡ Ok tt
          → answer refusing (use_refusals m keys n W cells ++ room_refusals room needed) a
          ≡ answer refusing (use_refusals m keys' n' W cells' ++ room_refusals room' needed') a'
      behind passed =
          answer-append refusing (use_refusals m keys n W cells) (room_refusals room needed) a
          ∙ used e _ _ (fits ((tile-passed m top).0 passed).1)
          ∙ sym (answer-append refusing (use_refusals m keys' n' W cells') (room_refusals room' needed') a')

-- report says how many pixels the window has, whatever is in them
pub report-alike : (m : ℕ) (keys classes keys' classes' : List ℕ) (W : Window) (border out other older : List ℕ) {r r' : Answer} {border' out' other' older' : List ℕ}
    → length border ≡ length other → length out ≡ length older → SoundMap m keys (length classes) → SoundMap m keys' (length classes')
    → Report m keys classes W border out r border' out' → Report m keys' classes' W other older r' other' older' → r ≡ r'
report-alike m keys classes keys' classes' W border out other older e d S S' call call' =
    report-says true (class_in m keys classes) m keys classes W border out call
    ∙ answer-append refusing (use_refusals m keys (length classes) W (length border)) _ _
    ∙ used S S' W e _ _ (λ I. rw (d, totals-length m keys classes W, totals-length m keys' classes' W))
    ∙ sym (answer-append refusing (use_refusals m keys' (length classes') W (length other)) _ _)
    ∙ sym (report-says true (class_in m keys' classes') m keys' classes' W other older call')

module _ {m : ℕ} {keys classes keys' classes' : List ℕ} {W : Window} (S : SoundMap m keys (length classes)) (S' : SoundMap m keys' (length classes'))
    (same : SameView m keys classes keys' classes' W) where
  pub open-alike : (top : ℕ) (border out other older : List ℕ) {r r' : Answer} {border' out' other' older' : List ℕ}
      → length border ≡ length other → length out ≡ length older
      → OpenTiled m top keys classes W border out r border' out' → OpenTiled m top keys' classes' W other older r' other' older' → r ≡ r'
  open-alike top border out other older e d call call' =
      open-says true m top keys classes W border out call ∙ tiled S S' W top e d _ _ numbers ∙ sym (open-says true m top keys' classes' W other older call')
    where
      os : List Opening
      os = openings m top keys W

      os' : List Opening
      os' = openings m top keys' W

      numbers : top ≤ m → Inside m W → (length (cells_of os) ≡ length (cells_of os')) × (values (length os) (handed_count os) ≡ values (length os') (handed_count os'))
      numbers cap I =
          let n = openings-numbers (spaced S.records) (spaced S'.records) I cap same in
          (cells-length os ∙ ap (λ (x : ℕ). 3 * x) n.0 ∙ sym (cells-length os'), ap₂ values n.0 n.1)

  pub exist-alike : (class : ℕ) (border other : List ℕ) {r r' : Answer} {border' other' : List ℕ} → length border ≡ length other
      → Exist m keys classes W class border r border' → Exist m keys' classes' W class other r' other' → r ≡ r'
  exist-alike class border other e call call' =
      exist-says true (class_in m keys classes) m keys classes W class border call
      ∙ used S S' W e _ _ (λ I. ap existence_values (presence-view S.records S'.records I same class))
      ∙ sym (exist-says true (class_in m keys' classes') m keys' classes' W class other call')

  pub select-alike : (top class : ℕ) (border out other older : List ℕ) {r r' : Answer} {border' out' other' older' : List ℕ}
      → length border ≡ length other → length out ≡ length older
      → SelectTiled m top keys classes W class border out r border' out' → SelectTiled m top keys' classes' W class other older r' other' older' → r ≡ r'
  select-alike top class border out other older e d call call' =
      select-says true (selection m top keys classes W class) m top keys classes W border out call
      ∙ tiled S S' W top e d _ _ numbers
      ∙ sym (select-says true (selection m top keys' classes' W class) m top keys' classes' W other older call')
    where
      ks : List ℕ
      ks = selection m top keys classes W class

      ks' : List ℕ
      ks' = selection m top keys' classes' W class

      numbers : top ≤ m → Inside m W → (length ks ≡ length ks') × (values (length ks) 0 ≡ values (length ks') 0)
      numbers cap I =
          let n : length ks ≡ length ks' = ap length (selection-view (spaced S.records) (spaced S'.records) I cap same class) in
          (n, ap (λ (x : ℕ). values x 0) n)
