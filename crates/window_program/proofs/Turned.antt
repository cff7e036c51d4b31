-- What a turn answers where not all of a text was written.
-- Assumes nothing.
use mathlib.Core.Path.{◌≡◌, sym, subst}
use mathlib.Core.List.{List}
use Prim.Native.Nat.{ℕ}
use Rattle.std.specs.Prelude.{Bool, Option, Result, Ok, Err}
use Rattle.std.specs.Result.{IsErrAnd}
use Rattle.streams.specs.declared.Unprinted.{Unprinted}
use Rattle.streams.specs.Streams.{Puts}
use Rattle.reply.specs.Reply.{next_text}
use Rattle.window_program.specs.declared.Lost.{Lost}
use Rattle.window_program.specs.declared.Lost.TheVariants.{Output}
use Rattle.window_program.specs.Turns.{Took, Turn}

-- a write failed, and that is the answer
pub turn-lost : (m : ℕ) (keys classes : List ℕ) (r : Result Bool Lost) (unprinted : Unprinted) (from from' to to' : Option (List ℕ)) (got : ℕ) (bytes : List ℕ)
    → IsErrAnd r (λ lost. lost ≡ Output unprinted) → Took got bytes from from' → Puts (Err unprinted) to to' (next_text m keys classes got bytes)
    → Turn m keys classes r from from' to to'
turn-lost m keys classes (Ok more) unprinted from from' to to' got bytes e took puts = absurd e
turn-lost m keys classes (Err lost) unprinted from from' to to' got bytes e took puts =
    subst (λ (l : Lost). Turn m keys classes (Err l) from from' to to') (sym e) (got, bytes, took, puts)
