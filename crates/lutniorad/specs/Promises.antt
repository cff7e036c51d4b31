-- What is promised of each call that was answered, in the words of the scope: by the numbers that it returned and the cells that it left. Many windows, reasons, months, windows that
-- share pixels and views have files of their own.
-- Assumes nothing.
use Rattle.std.specs.Prelude.{◌≡◌, ◌↔◌, ◌≢◌, true, ℕ, ◌+◌, ◌*◌, ◌/◌, ◌^◌, ◌≤◌, ◌<◌, length, get_or, take, drop}
use mathlib.Core.List.{List, Memᴰ, map}
use Rattle.lists.specs.Promises.{sum}
use Rattle.lists.specs.Lists.{Ordered}
use Rattle.answers.specs.Cells.{overwrite}
use Rattle.key.specs.Picture.{place, Px}
use Rattle.key.specs.Key.{block_key}
use Rattle.key.specs.Form.{form_of}
use Rattle.window.specs.declared.Window.{Window}
use Rattle.window.specs.Window.{In}
use Rattle.window.specs.Promises.{Maximal, Before}
use Rattle.window.specs.Rules.{total_by}
use Rattle.map.specs.Spans.{holds}
use Rattle.map.specs.Classes.{class_in, not_seen}
use Rattle.border.specs.Openings.{Opening, openings, cells_of, all_hands}
use Rattle.border.specs.Promises.{Overlaps, HandedOut, Apart, Enough}
use Rattle.used.specs.Used.{spent}
use Rattle.house.specs.File.{file_of, file_m, file_q, file_keys, file_classes}
use Rattle.select.specs.Select.{selection}
use Rattle.lutniorad.specs.declared.Answer.{Answer}
use Rattle.lutniorad.specs.Numbers.{values}

-- what opening, report or select leaves where it is refused: the answer slice as it was, and the border too, but that 8 leaves it as an answered call does. Other calls leave all
-- lent cells as they were
pub record RefusalLeaves (W : Window) (border out : List ℕ) (r : Answer) (border' out' : List ℕ) : Type 0 where
  pub out-kept : out' ≡ out
  pub border-spent : r.refusal ≡ 8 → border' ≡ spent W border
  pub border-kept : (r.refusal ≡ 8 → ⊥) → border' ≡ border

-- decomposing, with blocks of exponent up to `top`; without a tile `top` is m
pub record DecomposePromise (m top : ℕ) (W : Window) (out : List ℕ) (r : Answer) (out' : List ℕ) : Type 0 where
  -- blocks, each by its exponent and its corner
  pub blocks : List (ℕ × Px)
  -- they are exactly the maximal blocks of the window
  pub exactly : (i : ℕ) (p : Px) → Maximal W top i p ↔ Memᴰ (i, p) blocks
  -- by the row of the corner, then by its column
  pub in_order : Ordered (λ a b. Before a.1 b.1) blocks
  pub few : length blocks < 4 * (W.w + W.h) + W.w * W.h / 4 ^ top
  pub few-whole : top ≡ m → length blocks < 4 * (W.w + W.h)
  -- `first` is their number, the first cells are their keys, and cells beyond keep their content
  pub number : r ≡ values (length blocks) 0
  pub cells : out' ≡ overwrite (map (λ b. block_key m b.0 b.1.0 b.1.1) blocks) out

-- opening, with blocks of exponent up to `top`, of the openings that stand in the first cells: what is promised whether the map is whole or has gaps
pub record OpenStates (m top : ℕ) (keys : List ℕ) (W : Window) (border out : List ℕ) (os : List Opening) (r : Answer) (border' out' : List ℕ) : Type 0 where
  -- demand 2: every record that overlaps the window stands in an opening, and no other record does
  pub all : (n : ℕ) → Overlaps m keys W n ↔ HandedOut os n
  -- none stands in two of them
  pub once : Ordered Apart os
  -- and no block is opened twice
  pub opened-once : Ordered ◌≢◌ (map (λ (o : Opening). o.key) os)
  -- they are those of the maximal blocks in their order, but for the blocks that are skipped
  pub in_order : os ≡ openings m top keys W
  -- demand 3: there are fewer than 4 (w + h) and as many as there is room for tiles; without a tile, fewer than 4 (w + h)
  pub few : length os < 4 * (W.w + W.h) + W.w * W.h / 4 ^ top
  pub few-whole : top ≡ m → length os < 4 * (W.w + W.h)
  -- `first` is the length of the list, and `second` the number of its records
  pub numbers : r ≡ values (length os) (length (all_hands os))
  -- cells beyond keep their content, and the first w border cells hold r0 + h
  pub cells : out' ≡ overwrite (cells_of os) out
  pub border-after : border' ≡ spent W border

-- and on a whole map
pub record OpenPromise (m top : ℕ) (keys : List ℕ) (W : Window) (border out : List ℕ) (os : List Opening) (r : Answer) (border' out' : List ℕ) : Type 0 where
  pub states : OpenStates m top keys W border out os r border' out'
  -- each has at least one record
  pub some : (o : Opening) → Memᴰ o os → 1 ≤ o.count
  -- no list of fewer maximal blocks brings all the records
  pub fewest : (blocks : List ℕ) → Enough m top keys W blocks → length os ≤ length blocks

-- some pixel of the window has the class, by a rule that gives places classes
abbrev pub SomePixelBy : (ℕ → ℕ) → Window → ℕ → Type 0
SomePixelBy rule W class = (p : Px) × In W p × (rule (place p.0 p.1) ≡ class)

-- in a whole map the class of a pixel is that of its record
abbrev pub SomePixel : ℕ → List ℕ → List ℕ → Window → ℕ → Type 0
SomePixel m keys classes = SomePixelBy (class_in m keys classes)

-- exist
pub record ExistPromiseBy (rule : ℕ → ℕ) (W : Window) (class : ℕ) (border : List ℕ) (r : Answer) (border' : List ℕ) : Type 0 where
  -- `first` is 1 exactly when some pixel of the window has the class
  pub yes : (r ≡ values 1 0) ↔ SomePixelBy rule W class
  -- 2 exactly when none has it and some were not seen
  pub cannot-tell : (r ≡ values 2 0) ↔ ((¬ SomePixelBy rule W class) × SomePixelBy rule W not_seen)
  -- and 0 exactly when none has it and all were seen
  pub no : (r ≡ values 0 0) ↔ ((¬ SomePixelBy rule W class) × (¬ SomePixelBy rule W not_seen))
  -- it is one of these numbers, so one of the three holds, and no two of them do
  pub one_of : (r.first ≤ 2) × (r ≡ values r.first 0)
  -- asked for what was not seen itself, it is never 2
  pub certain : class ≡ not_seen → r ≡ values 2 0 → ⊥
  pub border-after : border' ≡ spent W border

-- report
pub record ReportPromiseBy (rule : ℕ → ℕ) (W : Window) (border out : List ℕ) (r : Answer) (border' out' : List ℕ) : Type 0 where
  pub number : r ≡ values (W.h * W.w) 0
  -- cell k is the number of the window's pixels of class k, for all 256 of them
  pub cells : (k : ℕ) → k < 256 → get_or out' k 0 ≡ total_by rule W k
  -- classes are bytes, so together these are the window's pixels
  pub together : ((q : ℕ) → rule q < 256) → sum (take 256 out') ≡ W.h * W.w
  -- cells beyond keep their content
  pub beyond : drop 256 out' ≡ drop 256 out
  pub border-after : border' ≡ spent W border

-- on a whole map
abbrev pub ReportPromise : ℕ → List ℕ → List ℕ → Window → List ℕ → List ℕ → Answer → List ℕ → List ℕ → Type 0
ReportPromise m keys classes = ReportPromiseBy (class_in m keys classes)

-- select, of the keys that stand in the first cells: what is promised whether the map is whole or has gaps
pub record SelectStates (rule : ℕ → ℕ) (m : ℕ) (W : Window) (class : ℕ) (border out ks : List ℕ) (r : Answer) (border' out' : List ℕ) : Type 0 where
  -- a pixel of the window has the class exactly when it lies in the block of one of the keys
  pub pixels : (p : Px) → In W p → (rule (place p.0 p.1) ≡ class) ↔ ((x : ℕ) × Memᴰ x ks × (holds (place p.0 p.1) (form_of m x) ≡ true))
  -- and then of one only
  pub apart : (q x y : ℕ) → Memᴰ x ks → Memᴰ y ks → holds q (form_of m x) ≡ true → holds q (form_of m y) ≡ true → x ≡ y
  -- no key stands twice
  pub once : Ordered ◌≢◌ ks
  pub number : r ≡ values (length ks) 0
  pub cells : out' ≡ overwrite ks out
  pub border-after : border' ≡ spent W border

-- and on a whole map, with blocks of exponent up to `top`
pub record SelectPromise (m top : ℕ) (keys classes : List ℕ) (W : Window) (class : ℕ) (border out ks : List ℕ) (r : Answer) (border' out' : List ℕ) : Type 0 where
  pub states : SelectStates (class_in m keys classes) m W class border out ks r border' out'
  -- they come block by block: its own key, or those of the records inside it
  pub in_order : ks ≡ selection m top keys classes W class
  pub few : length ks < 4 * (W.w + W.h) + W.w * W.h / 4 ^ top + length keys
  pub few-whole : top ≡ m → length ks < 4 * (W.w + W.h) + length keys

-- reading: m and Q are those of the header, and the first Q cells of both slices are the file's
pub record ReadPromise (file keys classes : List ℕ) (r : Answer) (keys' classes' : List ℕ) : Type 0 where
  pub numbers : r ≡ values (file_m file) (file_q file)
  pub keys-are : keys' ≡ overwrite (file_keys file) keys
  pub classes-are : classes' ≡ overwrite (file_classes file) classes

-- writing: `first` is 20 + 5Q, the length of the file, and the first so many bytes are the file
pub record WritePromise (m : ℕ) (keys classes out : List ℕ) (r : Answer) (out' : List ℕ) : Type 0 where
  pub number : r ≡ values (20 + 5 * length keys) 0
  pub long : length (file_of m keys classes) ≡ 20 + 5 * length keys
  pub cells : out' ≡ overwrite (file_of m keys classes) out
