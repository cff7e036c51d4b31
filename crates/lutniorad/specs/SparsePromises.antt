-- What is promised of calls on a map that may have gaps, beyond what is promised of every map.
-- Assumes nothing.
use Rattle.std.specs.Prelude.{◌≡◌, ◌↔◌, ◌⊎◌, true, ℕ, ◌+◌, ◌*◌, ◌^◌, ◌≤◌, ◌<◌, length}
use mathlib.Core.List.{List, [], ◌∷◌, Memᴰ, flat_map}
use Rattle.lists.specs.Lists.{keep, Ordered}
use Rattle.key.specs.Picture.{place, Pixel, Px}
use Rattle.key.specs.Form.{form_of}
use Rattle.key.specs.Blocks.{Names}
use Rattle.window.specs.declared.Window.{Window}
use Rattle.window.specs.Window.{In}
use Rattle.window.specs.Keys.{keys_of}
use Rattle.map.specs.Spans.{holds}
use Rattle.map.specs.Classes.{class_over}
use Rattle.stretch.specs.Promises.{MakesUp}
use Rattle.border.specs.Openings.{Opening, made}
use Rattle.border.specs.Promises.{Unmet, bringing, Enough}
use Rattle.select.specs.Select.{selected}
use Rattle.sparse_select.specs.Select.{sparse_selected}
use Rattle.sparse_select.specs.Promises.{free_in, bare, held}
use Rattle.lutniorad.specs.declared.Answer.{Answer}
use Rattle.lutniorad.specs.Promises.{OpenStates, SelectStates}

-- opening, with blocks of exponent up to `top`, of the openings that stand in the first cells
pub record SparseOpenPromise (m top : ℕ) (keys : List ℕ) (W : Window) (border out : List ℕ) (os : List Opening) (r : Answer) (border' out' : List ℕ) : Type 0 where
  pub states : OpenStates m top keys W border out os r border' out'
  -- the openings with first index 0 and count 0 are exactly the maximal blocks that no record overlaps
  pub empty : (key : ℕ) → Memᴰ (made key 0 0) os ↔ (Memᴰ key (keys_of m top W) × Unmet m keys key)
  -- each of the others brings at least one record
  pub some : (o : Opening) → Memᴰ o os → (o ≡ made o.key 0 0) ⊎ (1 ≤ o.count)
  -- and no list of maximal blocks that is shorter than these others brings all the records
  pub fewest : (blocks : List ℕ) → Enough m top keys W blocks → length (bringing os) ≤ length blocks

-- select, with blocks of exponent up to `top`, of the keys that stand in the first cells
pub record SparseSelectPromise (m top background : ℕ) (keys classes : List ℕ) (W : Window) (class : ℕ) (border out ks : List ℕ) (r : Answer) (border' out' : List ℕ) : Type 0 where
  pub states : SelectStates (class_over background m keys classes) m W class border out ks r border' out'
  -- the blocks of the keys lie in the window, and none is larger than a tile
  pub inside : (p : Px) (x : ℕ) → Pixel m p.0 p.1 → Memᴰ x ks → holds (place p.0 p.1) (form_of m x) ≡ true → In W p
  pub small : (x i s : ℕ) → Memᴰ x ks → Names m x i s → i ≤ top
  -- so there are no more than the window has pixels
  pub most : length ks ≤ W.h * W.w
  -- they come block by block
  pub in_order : ks ≡ flat_map (sparse_selected m background keys classes class) (keys_of m top W)
  -- those of one block rise
  pub rising : (key : ℕ) → Memᴰ key (keys_of m top W) → Ordered ◌<◌ (sparse_selected m background keys classes class key)
  -- those among them that start in a record are what select lists on a map without gaps: the block's own key if it lies in a record of the class, else those of the records of the
  -- class inside it
  pub records : (key : ℕ) → Memᴰ key (keys_of m top W) → keep (held m keys) (sparse_selected m background keys classes class key) ≡ selected m keys classes class key
  -- for a class other than that of the background they are all
  pub other : ¬ (class ≡ background) → (key : ℕ) → Memᴰ key (keys_of m top W) → sparse_selected m background keys classes class key ≡ selected m keys classes class key
  -- for the class of the background the others make up the block's places in no record
  pub gaps : class ≡ background → (key i s : ℕ) → Memᴰ key (keys_of m top W) → Names m key i s
      → MakesUp m (free_in m keys s (s + 4 ^ i)) (keep (bare m keys) (sparse_selected m background keys classes class key))
  -- and no fewer blocks do
  pub fewest : class ≡ background → (key i s : ℕ) → Memᴰ key (keys_of m top W) → Names m key i s → (blocks : List ℕ)
      → MakesUp m (free_in m keys s (s + 4 ^ i)) blocks → length (keep (bare m keys) (sparse_selected m background keys classes class key)) ≤ length blocks
  -- so a block that no record overlaps is listed itself
  pub blank : class ≡ background → (key : ℕ) → Memᴰ key (keys_of m top W) → Unmet m keys key → sparse_selected m background keys classes class key ≡ key ∷ []
