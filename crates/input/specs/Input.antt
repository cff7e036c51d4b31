-- What the bytes that came say: how long a file is, a window, and what is printed for bytes left over.
-- Assumes nothing.
use Rattle.std.specs.Prelude.{cond, ◌||◌, List, [], ◌∷◌, ℕ, ◌+◌, ◌*◌, ltb, length, get_or, take, Option, Some, None}
use Rattle.answers.specs.declared.Cause.TheVariants.{LeftOver}
use Rattle.answers.specs.Refusals.{refusal}
use Rattle.window.specs.declared.Window.{Window}
use Rattle.window.specs.Window.{window}
use Rattle.numbers.specs.Numbers.{number}
use Rattle.lines.specs.Lines.{refused_text}

-- how long a file is, by its first four bytes; none where no file is so short, or there is no room for it
unfoldable pub announced_of : List ℕ → Option ℕ
announced_of file = cond (ltb (number 4 file) 4 || ltb (length file) (number 4 file)) None (Some (number 4 file))

-- of a file of this length so many bytes came: the file, where all of it did, and else none
abbrev pub came : List ℕ → ℕ → Option ℕ → List ℕ
came bytes got None = []
came bytes got (Some size) = cond (ltb got size) [] (take size bytes)

-- the file of which so many bytes came, where all of it did, and else none
unfoldable pub whole_of : List ℕ → ℕ → List ℕ
whole_of bytes got = came bytes got (announced_of bytes)

-- the number of the two bytes from place i on, the lesser first
abbrev pub short : List ℕ → ℕ → ℕ
short bytes i = get_or bytes i 0 + 256 * get_or bytes (i + 1) 0

-- r0, c0, h and w
abbrev pub window_of : List ℕ → Window
window_of bytes = window (short bytes 0) (short bytes 2) (short bytes 4) (short bytes 6)

-- refusal 10: so many bytes are left over
unfoldable pub left_text : ℕ → List ℕ
left_text got = refused_text (refusal (ltb 0 got) LeftOver got ∷ [])
