-- The records that overlap a block, and where to look for them in the list of keys.
-- Assumes nothing.
use Rattle.std.specs.Prelude.{Bool, cond, List, ℕ, max, ◌≤◌, ◌<◌, eqb, length, get_or}
use Rattle.lists.specs.Lists.{before, how_many}
use Rattle.key.specs.Form.{form_of}
use Rattle.key.specs.Blocks.{Names}
use Rattle.map.specs.declared.Run.{Run}
use Rattle.map.specs.Spans.{form_exponent, start, overlap}
use Rattle.map.specs.Records.{exponent_of}

-- the run of three numbers
abbrev pub run : ℕ → ℕ → ℕ → Run
run first count reach = record { first = first; count = count; reach = reach }

-- the records that overlap the block of a key: the first of them and how many they are, 0 and 0 where there is none; and their reach, the exponent of the larger of the block and the
-- record of its first place
unfoldable pub run_of : ℕ → List ℕ → ℕ → Run
run_of m keys key =
    let test : ℕ → Bool = λ k. overlap (form_of m key) (form_of m k) in
    let n : ℕ = how_many test keys in
    run (cond (eqb n 0) 0 (before test keys)) n (max (form_exponent (form_of m key)) (exponent_of m keys (start (form_of m key))))

-- the key is that of a block of exponent i
pub record BlockOf (m key i : ℕ) : Type 0 where
  pub start : ℕ
  pub names : Names m key i start

pub record Rising (keys : List ℕ) : Type 0 where
  pub rise : (a b : ℕ) → a < b → b < length keys → get_or keys a 0 < get_or keys b 0

-- of a list of keys, the first `low` are below x, and those from `high` on are not
pub record Bracket (keys : List ℕ) (x low high : ℕ) : Type 0 where
  pub order : low ≤ high
  pub room : high ≤ length keys
  pub below : (n : ℕ) → n < low → get_or keys n 0 < x
  pub over : (n : ℕ) → high ≤ n → n < length keys → x ≤ get_or keys n 0

-- the first r keys are below x, and the others are not
abbrev pub Splits : List ℕ → ℕ → ℕ → Type 0
Splits keys x r = Bracket keys x r r
