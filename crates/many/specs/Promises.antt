-- The words in which it is said what many windows ask, and what they leave in the border.
-- Assumes nothing.
use Rattle.std.specs.Prelude.{◌≡◌, ℕ, ◌+◌, ◌*◌, ◌≤◌, ◌<◌, length, get_or}
use mathlib.Core.List.{List, ◌∷◌, ◌++◌, Memᴰ}
use Rattle.window.specs.declared.Window.{Window}
use Rattle.window.specs.Window.{Inside}
use Rattle.map.specs.Sound.{SoundMap}
use Rattle.many.specs.Many.{windows_in}

-- none of these windows that lies inside the picture has more than so many columns
abbrev pub NoneWider : ℕ → List Window → ℕ → Type 0
NoneWider m Ws cells = (W : Window) → Memᴰ W Ws → Inside m W → W.w ≤ cells

-- a list that comes in fours, of at most 256 windows
pub record InFours (windows : List ℕ) : Type 0 where
  pub fours : length windows ≡ 4 * length (windows_in windows)
  pub few : length (windows_in windows) ≤ 256

-- what is asked of many windows: a sound map; such a list; and room in the border for those inside the picture, and for five cells for each. Of the classes and of the two slices
-- their numbers count
pub record Askable (m : ℕ) (keys : List ℕ) (classes : ℕ) (windows : List ℕ) (border out : ℕ) : Type 0 where
  pub sound : SoundMap m keys classes
  pub list : InFours windows
  pub wide : NoneWider m (windows_in windows) border
  pub room : 5 * length (windows_in windows) ≤ out

-- x is what windows leave in cell j of a border: what the last one leaves there that lies inside the picture and is wide enough to reach it; or, where there is none, what was there
pub data LeftIn (m : ℕ) (Ws : List Window) (border : List ℕ) (j x : ℕ) : Type 0 where
  kept : NoneWider m Ws j → x ≡ get_or border j 0 → LeftIn m Ws border j x
  last : (before : List Window) (W : Window) (later : List Window) → Ws ≡ before ++ W ∷ later → Inside m W → j < W.w → NoneWider m later j → x ≡ W.r0 + W.h
      → LeftIn m Ws border j x
