-- Totals gathered record by record: each record adds its part in the window to the total of its class.
-- Assumes nothing.
use Rattle.std.specs.Prelude.{◌≡◌, ◌≢◌, List, [], ◌∷◌, ◌++◌, ℕ, min, max, ◌+◌, ◌-◌, ◌*◌, ◌^◌, ◌≤◌, eqb, get_or, set, replicate}
use Rattle.lists.specs.Lists.{up_from, Ordered, how_many}
use Rattle.key.specs.Picture.{Px}
use Rattle.window.specs.declared.Window.{Window}
use Rattle.window.specs.Blocks.{floor, exponent, pixels}
use Rattle.window.specs.Walk.{corner_of}
use Rattle.window.specs.Keys.{key_of}
use Rattle.map.specs.Sound.{Follow}
use Rattle.map.specs.Records.{pixel_record}
use Rattle.map.specs.Runs.{run_of}
use Rattle.border.specs.declared.Opening.{Opening}
use Rattle.border.specs.Step.{Corner}
use Rattle.used.specs.Used.{Usable}

-- how many pixels of the window are in record n
unfoldable pub area : ℕ → List ℕ → Window → ℕ → ℕ
area m keys W n = how_many (λ p. eqb (pixel_record m keys p.0 p.1) n) (pixels W)

-- how many numbers the n from a on and the k from b on share
unfoldable pub shared : ℕ → ℕ → ℕ → ℕ → ℕ
shared a n b k = min (a + n) (b + k) - max a b

-- how many pixels the window shares with the block of side 2 ^ e around p
unfoldable pub clipped : Window → ℕ → Px → ℕ
clipped W e p = shared W.r0 W.h (floor e p.0) (2 ^ e) * shared W.c0 W.w (floor e p.1) (2 ^ e)

module _ (m : ℕ) (keys classes : List ℕ) (W : Window) where
  -- record n's part is added to the total of its class
  unfoldable pub added : ℕ → List ℕ → List ℕ
  added n cells = let k = get_or classes n 0 in set cells k (get_or cells k 0 + area m keys W n)

  -- and so is that of each record of a list
  unfoldable pub gathered : List ℕ → List ℕ → List ℕ
  gathered [] cells = cells
  gathered (n ∷ ns) cells = gathered ns (added n cells)

-- in a whole map, this opening is that of a maximal block, with the run of its records, and they all have a class
pub record Hands (m : ℕ) (keys : List ℕ) (classes : ℕ) (W : Window) (o : Opening) : Type 0 where
  pub top : ℕ
  pub cells : ℕ
  pub given : Usable m top keys W cells
  pub whole : Follow m 0 keys
  pub corner : Corner W top (corner_of o.block)
  pub named : o.key ≡ key_of m top W (corner_of o.block)
  pub size : o.block.exponent ≡ exponent W top (corner_of o.block)
  pub found : run_of m keys o.key ≡ o.run
  pub room : o.run.first + o.run.count ≤ classes
  pub few : classes ≤ 65536

-- and they reach no further than the block: they fill it
pub record Fills (m : ℕ) (keys : List ℕ) (classes : ℕ) (W : Window) (o : Opening) : Type 0 where
  pub hands : Hands m keys classes W o
  pub full : o.run.reach ≡ o.block.exponent

-- the totals are those of records that do not come again among the `count` from `first` on
pub record Gathering (m : ℕ) (keys classes : List ℕ) (W : Window) (first count : ℕ) (cells : List ℕ) : Type 0 where
  pub past : List ℕ
  pub is : cells ≡ gathered m keys classes W past (replicate 256 0)
  pub once : Ordered ◌≢◌ (past ++ up_from first count)
