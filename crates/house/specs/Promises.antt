-- The words in which the promises about house files are said.
-- Assumes nothing.
use Rattle.std.specs.Prelude.{◌≡◌, Bool, true, List, ℕ, ◌+◌, ◌*◌, ◌≤◌, length, get_or}
use Rattle.answers.specs.Sizes.{SizedIn}
use Rattle.numbers.specs.Numbers.{numbers}
use Rattle.house.specs.File.{file_q}

-- of a file of n bytes and its five header fields: the length is n, and 20 + 5Q; m and Q are those of a map; the offsets are 20 and 20 + 4Q
pub record Laid (whole : Bool) (n : ℕ) (fields : List ℕ) : Type 0 where
  pub total : get_or fields 0 0 ≡ n
  pub size : SizedIn whole (get_or fields 1 0) (get_or fields 2 0) (get_or fields 2 0)
  pub full : n ≡ 20 + 5 * get_or fields 2 0
  pub keys : get_or fields 3 0 ≡ 20
  pub classes : get_or fields 4 0 ≡ 20 + 4 * get_or fields 2 0

-- what reading passes: a file that is laid out as it should be, and room for its keys and its classes
pub record ReadableIn (whole : Bool) (file : List ℕ) (keys classes : ℕ) : Type 0 where
  pub laid_out : Laid whole (length file) (numbers 5 file)
  pub keys-room : file_q file ≤ keys
  pub classes-room : file_q file ≤ classes

-- with a whole map
abbrev pub Readable : List ℕ → ℕ → ℕ → Type 0
Readable = ReadableIn true
