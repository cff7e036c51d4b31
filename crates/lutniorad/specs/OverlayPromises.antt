-- What is promised of calls on today's map over the season's baseline.
-- Assumes nothing.
use Rattle.std.specs.Prelude.{◌≡◌, ◌↔◌, ◌⊎◌, false, true, ℕ, ◌+◌, ◌*◌, ◌^◌, ◌≤◌, ◌<◌, length, get_or, take, drop}
use mathlib.Core.List.{List, Memᴰ, map, flat_map}
use Rattle.lists.specs.Lists.{Ordered}
use Rattle.key.specs.Picture.{place, Pixel, Px}
use Rattle.key.specs.Form.{form_of}
use Rattle.key.specs.Blocks.{Names, Among}
use Rattle.window.specs.declared.Window.{Window}
use Rattle.window.specs.Window.{In}
use Rattle.window.specs.Keys.{keys_of}
use Rattle.map.specs.Spans.{holds, overlap}
use Rattle.map.specs.Sound.{SoundIn, SoundMap}
use Rattle.stretch.specs.Promises.{MakesUp}
use Rattle.border.specs.Openings.{met}
use Rattle.overlay.specs.Select.{of_class, class_selected}
use Rattle.lutniorad.specs.declared.Answer.{Answer}
use Rattle.lutniorad.specs.declared.Part.{Part}
use Rattle.lutniorad.specs.Promises.{SelectStates}

-- two maps that can be laid over each other: today's, which may have gaps, a whole baseline, and one m. Of either m, the keys and the number of classes
pub record Overlayable (m : ℕ) (keys : List ℕ) (classes base_m : ℕ) (base : List ℕ) (base_classes : ℕ) : Type 0 where
  pub today : SoundIn false m keys classes
  pub baseline : SoundMap base_m base base_classes
  pub same-m : m ≡ base_m

-- what the checks of both maps by themselves say, s of today's, as one that may have gaps, and t of the baseline's, decides this much of what any call on both returns, r; `by` are
-- its numbers for a refusal, with the map that is refused
pub record OverlayRefusals {N : Type 0} (by : ℕ → ℕ → ℕ → N) (m base_m : ℕ) (s t : Answer) (r : N) : Type 0 where
  -- a refusal of today's map comes first, and says that it is today's
  pub today : (s.refusal ≡ 0 → ⊥) → r ≡ by 1 s.refusal s.place
  -- then one of the baseline, which says so
  pub baseline : s.refusal ≡ 0 → (t.refusal ≡ 0 → ⊥) → r ≡ by 2 t.refusal t.place
  -- then 15
  pub other-m : s.refusal ≡ 0 → t.refusal ≡ 0 → (m ≡ base_m → ⊥) → r ≡ by 0 15 0

-- select, of the keys that stand in the first cells, by a rule that gives places classes
pub record OverlaySelectPromise (rule : ℕ → ℕ) (m : ℕ) (W : Window) (class : ℕ) (border out ks : List ℕ) (r : Answer) (border' out' : List ℕ) : Type 0 where
  pub states : SelectStates rule m W class border out ks r border' out'
  -- the blocks of the keys lie in the window
  pub inside : (p : Px) (x : ℕ) → Pixel m p.0 p.1 → Memᴰ x ks → holds (place p.0 p.1) (form_of m x) ≡ true → In W p
  -- so there are no more than the window has pixels
  pub most : length ks ≤ W.h * W.w
  -- they come block by block
  pub in_order : ks ≡ flat_map (class_selected m rule class) (keys_of m m W)
  -- those of one block rise
  pub rising : (key : ℕ) → Memᴰ key (keys_of m m W) → Ordered ◌<◌ (class_selected m rule class key)
  -- and make up the places of the class in it
  pub makes : (key i s : ℕ) → Memᴰ key (keys_of m m W) → Names m key i s → MakesUp m (of_class m rule class s (s + 4 ^ i)) (class_selected m rule class key)
  -- no fewer blocks do
  pub fewest : (key i s : ℕ) → Memᴰ key (keys_of m m W) → Names m key i s → (blocks : List ℕ)
      → MakesUp m (of_class m rule class s (s + 4 ^ i)) blocks → length (class_selected m rule class key) ≤ length blocks

-- record n of a map overlaps the block of a key: they share a place
abbrev pub MeetsBlock : ℕ → List ℕ → ℕ → ℕ → Type 0
MeetsBlock m keys key n = (n < length keys) × (overlap (form_of m key) (form_of m (get_or keys n 0)) ≡ true)

-- the numbers of a part are those of the records of one map that overlap the block: these and no others, at least one; and the part is their classes, in their order
pub record PartOf (m : ℕ) (keys classes : List ℕ) (key : ℕ) (r : Part) : Type 0 where
  pub exactly : (n : ℕ) → MeetsBlock m keys key n ↔ Among r.first r.count n
  pub some : 1 ≤ r.count
  pub within : r.first + r.count ≤ length classes
  pub classes-are : take r.count (drop r.first classes) ≡ map (λ n. get_or classes n 0) (met m keys key)

-- the viewer's part
pub record OverlayPartPromise (m : ℕ) (keys classes base base_classes : List ℕ) (key : ℕ) (r : Part) : Type 0 where
  -- it is of today's classes exactly if a record of today's overlaps the block
  pub whose : (r.map ≡ 1) ↔ ((n : ℕ) × MeetsBlock m keys key n)
  pub one_of : (r.map ≡ 1) ⊎ (r.map ≡ 2)
  pub today : r.map ≡ 1 → PartOf m keys classes key r
  pub baseline : r.map ≡ 2 → PartOf m base base_classes key r

-- two lists of keys have the same pixels of a window
pub record SamePixels (m : ℕ) (W : Window) (ks ks' : List ℕ) : Type 0 where
  pub same : (p : Px) → In W p → ((x : ℕ) × Memᴰ x ks × (holds (place p.0 p.1) (form_of m x) ≡ true))
      ↔ ((x : ℕ) × Memᴰ x ks' × (holds (place p.0 p.1) (form_of m x) ≡ true))
