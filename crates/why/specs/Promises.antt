-- The words in which it is said where a record lies.
-- Assumes nothing.
use Rattle.std.specs.Prelude.{◌≡◌, Option, Some, None, List, ℕ, ◌+◌, ◌≤◌, ◌<◌}
use Rattle.key.specs.Picture.{Pixel, Px}
use Rattle.window.specs.declared.Window.{Window}
use Rattle.map.specs.Records.{pixel_record}
use Rattle.why.specs.declared.Side.{Side}
use Rattle.why.specs.declared.Side.TheVariants.{North, South, West, East}

-- each pixel of record n is so
abbrev pub EachPixel : ℕ → List ℕ → ℕ → (Px → Type 0) → Type 0
EachPixel m keys n P = (p : Px) → Pixel m p.0 p.1 → pixel_record m keys p.0 p.1 ≡ n → P p

-- all rows of record n are above the window's, or below them; all its columns are before the window's, or behind them
abbrev pub AllNorth : ℕ → List ℕ → Window → ℕ → Type 0
AllNorth m keys W n = EachPixel m keys n (λ p. p.0 < W.r0)

abbrev pub AllSouth : ℕ → List ℕ → Window → ℕ → Type 0
AllSouth m keys W n = EachPixel m keys n (λ p. W.r0 + W.h ≤ p.0)

abbrev pub AllWest : ℕ → List ℕ → Window → ℕ → Type 0
AllWest m keys W n = EachPixel m keys n (λ p. p.1 < W.c0)

abbrev pub AllEast : ℕ → List ℕ → Window → ℕ → Type 0
AllEast m keys W n = EachPixel m keys n (λ p. W.c0 + W.w ≤ p.1)

-- of four statements the first that is true, or none
pub data FirstTrue (north south west east : Type 0) : Option Side → Type 0 where
  north : north → FirstTrue north south west east (Some North)
  south : ¬ north → south → FirstTrue north south west east (Some South)
  west : ¬ north → ¬ south → west → FirstTrue north south west east (Some West)
  east : ¬ north → ¬ south → ¬ west → east → FirstTrue north south west east (Some East)
  none : ¬ north → ¬ south → ¬ west → ¬ east → FirstTrue north south west east None
