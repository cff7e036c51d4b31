-- Words of the laws about blocks: what lies where, and how two blocks stand to one another.
-- Assumes nothing.
use mathlib.Core.Path.{◌≡◌}
use Prim.Native.Nat.{ℕ, ◌+◌, ◌^◌, ◌≤◌, ◌<◌}
use Rattle.key.specs.Picture.{place, Pixel}

-- its keys and its span are among the picture's
pub record Lies (m key i s : ℕ) : Type 0 where
  pub small : i ≤ m
  pub keys : key + 5 ^ i ≤ 5 ^ m
  pub span : s + 4 ^ i ≤ 4 ^ m

-- the k numbers from b on are among the n from a on
pub record Covers (a n b k : ℕ) : Type 0 where
  pub least : a ≤ b
  pub most : b + k ≤ a + n

-- how block B, of key b, exponent j and span from t on, stands to block A: in it, around it, after it or before it, by spans and by keys alike
pub data Stand (a i s b j t : ℕ) : Type 0 where
  within : Covers s (4 ^ i) t (4 ^ j) → Covers a (5 ^ i) b (5 ^ j) → Stand a i s b j t
  around : 4 ^ i < 4 ^ j → Covers t (4 ^ j) s (4 ^ i) → b < a → Covers b (5 ^ j) a (5 ^ i) → Stand a i s b j t
  after : s + 4 ^ i ≤ t → a + 5 ^ i ≤ b → Stand a i s b j t
  before : t + 4 ^ j ≤ s → b + 5 ^ j ≤ a → Stand a i s b j t

-- the pixel at place q
pub record PixelAt (m q : ℕ) : Type 0 where
  pub row : ℕ
  pub col : ℕ
  pub pixel : Pixel m row col
  pub is : place row col ≡ q
