-- What a turn takes of a reader and hands to a writer, as far as these say what they hold.
-- Assumes nothing.
use Rattle.std.specs.Prelude.{◌≡◌, Bool, List, ℕ, ◌≤◌, ◌<◌, eqb, length, take, Option, None, Some, Result, Ok, Err}
use Rattle.std.specs.Io.KnownBytes.{Keeps, Appends, Consumes, IsAtEnd}
use Rattle.std.specs.declared.io.Error.{Error}
use Rattle.streams.specs.declared.Taken.{Taken}
use Rattle.streams.specs.Streams.{Puts}
use Rattle.reply.specs.Reply.{next_text}
use Rattle.window_program.specs.declared.Lost.{Lost}
use Rattle.window_program.specs.declared.Lost.TheVariants.{Input, Output}

-- how many bytes came, where no read failed, and else why one did
abbrev pub Counts : Result ℕ Lost → Taken → Type 0
Counts (Ok count) taken = (count ≡ taken.count) × (taken.failed ≡ None)
Counts (Err lost) taken = (error : Error) × (taken.failed ≡ Some error) × (lost ≡ Input error)

-- a window's bytes were taken, or those left over at the end
pub record Took (got : ℕ) (bytes : List ℕ) (from from' : Option (List ℕ)) : Type 0 where
  pub eight : length bytes ≡ 8
  pub most : got ≤ 8
  pub taken : Consumes from from' (take got bytes)
  pub ended : got < 8 → IsAtEnd from'

-- a turn: what was taken is answered, whole; or reading failed, and nothing is put; or not all of the answer was
abbrev pub Turn : ℕ → List ℕ → List ℕ → Result Bool Lost → Option (List ℕ) → Option (List ℕ) → Option (List ℕ) → Option (List ℕ) → Type 0
Turn m keys classes (Ok more) from from' to to' =
    (got : ℕ) × (bytes : List ℕ) × Took got bytes from from' × (more ≡ eqb got 8) × Appends to to' (next_text m keys classes got bytes)
Turn m keys classes (Err (Input error)) from from' to to' = Keeps to to'
Turn m keys classes (Err (Output unprinted)) from from' to to' =
    (got : ℕ) × (bytes : List ℕ) × Took got bytes from from' × Puts (Err unprinted) to to' (next_text m keys classes got bytes)
