-- Calls that are made again, the pieces in which a text goes out, and how much of it a writer takes.
-- Assumes nothing.
use Rattle.std.specs.Prelude.{Bool, false, cond, ◌||◌, ◌≤◌, ◌<◌, List, ℕ, zero, suc, eqb, leb, ℤ, pos, negsuc, length, get_or, take, Option, None, Some, Result, Ok, Err}
use Rattle.std.specs.Io.KnownBytes.{Appends}
use Rattle.streams.specs.declared.Unprinted.{Unprinted}
use Rattle.streams.specs.declared.Unprinted.TheVariants.{Partly, Failed}

-- interrupted (EINTR), or not ready (EAGAIN)
unfoldable pub passing : ℤ → Bool
passing (pos error) = eqb error 4 || eqb error 11
passing (negsuc error) = false

-- the same of a call that failed, which has a number where it was the system that failed it
abbrev pub passing_call : Option ℤ → Bool
passing_call None = false
passing_call (Some error) = passing error

-- how many of the first n bytes are whole lines: those up to the last end of a line among them
unfoldable pub lines_in : List ℕ → ℕ → ℕ
lines_in text zero = zero
lines_in text (suc n) = cond (eqb (get_or text n 0) 10) (suc n) (lines_in text n)

-- how much of a text is written at once, where so many bytes may be: all of it, if there are no more; otherwise as many whole lines as they have, and of a longer line so many bytes
unfoldable pub piece_of : ℕ → List ℕ → ℕ
piece_of most text = cond (leb (length text) most) (length text) (cond (eqb (lines_in text most) 0) most (lines_in text most))

-- the known bytes of a writer grow by some of the first bytes of a text: by `least` or more, and not by all
abbrev pub PutsSome : ℕ → Option (List ℕ) → Option (List ℕ) → List ℕ → Type 0
PutsSome least old new text = (n : ℕ) × (least ≤ n) × (n < length text) × Appends old new (take n text)

-- by all of a text, where that is the answer; by a part, where a file took no more; and where a write failed, by what was taken before
abbrev pub Puts : Result Unit Unprinted → Option (List ℕ) → Option (List ℕ) → List ℕ → Type 0
Puts (Ok done) old new text = Appends old new text
Puts (Err Partly) old new text = PutsSome 1 old new text
Puts (Err (Failed error)) old new text = PutsSome 0 old new text
