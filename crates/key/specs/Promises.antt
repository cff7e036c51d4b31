-- The words in which the promises about the digits of keys are said: a block's level, and the list of a number's digits; and a number cut in two, and read from the small end.
-- Assumes nothing.
use Rattle.std.specs.Prelude.{cond, Option, None, Some, ◌||◌, ◌≡◌, ℕ, zero, suc, ◌+◌, ◌-◌, ◌*◌, ◌/◌, ◌%◌, ◌^◌, ◌≤◌, ◌<◌, eqb, length, replicate}
use mathlib.Core.List.{List, [], ◌∷◌, ◌++◌, Memᴰ}
use Rattle.key.specs.declared.Span.{Span}
use Rattle.key.specs.Form.{form_of, span}
use Rattle.key.specs.Blocks.{Names}

-- the k low digits of x in base b, most significant first: all of them where x is below b ^ k
unfoldable pub low_digits : ℕ → ℕ → ℕ → List ℕ
low_digits b zero x = []
low_digits b (suc k) x = x / b ^ k % b ∷ low_digits b k x

-- at m, the key is that of a block of level d, whose exponent is m - d
pub record LevelBlock (m d key : ℕ) : Type 0 where
  pub small : d ≤ m
  pub start : ℕ
  pub names : Names m key (m - d) start

-- the number has m digits in base 5: d digits from 1 to 4, and then m - d zeros
pub record LevelDigits (m d key : ℕ) : Type 0 where
  pub small : d ≤ m
  pub below : key < 5 ^ m
  pub front : List ℕ
  pub long : length front ≡ d
  pub nonzero : (c : ℕ) → Memᴰ c front → (1 ≤ c) × (c ≤ 4)
  pub is : low_digits 5 m key ≡ front ++ replicate (m - d) 0

-- a number cut in two: the form of its j low digits, and that of the digits above them, joined. Behind a zero there are only zeros: so above stands a pixel's key, or zeros below
unfoldable pub joined : ℕ → Option Span → Option Span → Option Span
joined j (Some b) (Some above) = cond (eqb above.exponent 0 || eqb b.exponent j) (Some (span (above.exponent + b.exponent) (above.start * 4 ^ j + b.start))) None
joined j (Some b) None = None
joined j None f = None

-- the form of a number, read from the small end: that of the last digit, and that of the digits above it, joined
unfoldable pub form_up : ℕ → ℕ → Option Span
form_up zero key = form_of zero key
form_up (suc k) key = joined 1 (form_of 1 (key % 5)) (form_up k (key / 5))
