-- The walk along the records, as the check goes: what a record is taken for, and how far the records follow one another.
-- Assumes nothing.
use Rattle.std.specs.Prelude.{◌≡◌, Bool, false, List, ◌∷◌, ℕ, ◌+◌, ◌^◌, ◌≤◌, ◌<◌, length, get_or, None, Result, Ok, Err}
use Rattle.answers.specs.declared.Refused.{Refused}
use Rattle.answers.specs.Refusals.{verdict}
use Rattle.key.specs.declared.Span.{Span}
use Rattle.key.specs.Form.{span}
use Rattle.key.specs.Blocks.{Names}
use Rattle.key.specs.Along.{Stands, ToldFit}
use Rattle.map.specs.declared.Gone.{Gone}
use Rattle.map.specs.Check.{refusals_from}

-- record `place`, of this key, where the last span ended at `at`: it is a block behind a gap, and gaps are allowed; or it is refused, whatever follows
pub data Takes (whole : Bool) (m at key place : ℕ) : Result Span Refused → Type 0 where
  behind : {i s : ℕ} → whole ≡ false → at ≤ s → Names m key i s → Takes whole m at key place (Ok (span i s))
  refused : {e : Refused} → ((ks : List ℕ) → verdict (refusals_from whole m place at (key ∷ ks)) ≡ Err e) → Takes whole m at key place (Err e)

-- the records from n up to `next` follow one another, from place `at` up to `end`
pub data Row (m : ℕ) (keys : List ℕ) (n at : ℕ) : ℕ → ℕ → Type 0 where
  none : Row m keys n at n at
  more : {next end i to : ℕ} → Row m keys n at next end → next < length keys → Names m (get_or keys next 0) i end → to ≡ end + 4 ^ i → Row m keys n at (next + 1) to

-- from record n and place `at` the walk goes on, and ends with the records or before one that does not start where it stands
pub record GoesAlong (m : ℕ) (keys : List ℕ) (at n : ℕ) (g : Gone) : Type 0 where
  pub onward : n ≤ g.next
  pub within : g.next ≤ length keys
  pub stands : Stands m g.spot
  pub row : Row m keys n at g.next g.spot.place
  pub ends : g.next < length keys → ToldFit m g.spot.place (get_or keys g.next 0) None
