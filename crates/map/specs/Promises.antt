-- The words in which it is said which places are in no record, and on which maps gaps make no difference.
-- Assumes nothing.
use Rattle.std.specs.Prelude.{◌≡◌, Bool, List, ℕ, eqb, length}
use Rattle.answers.specs.declared.Cause.TheVariants.{BadCount, Gap}
use Rattle.answers.specs.Refusals.{refuse, verdict}
use Rattle.map.specs.Check.{map_refusals}
use Rattle.map.specs.Records.{record_of}

-- place q is in no record
unfoldable pub is_free : ℕ → List ℕ → ℕ → Bool
is_free m keys q = eqb (record_of m keys q) (length keys)

-- the check of a whole map refuses it neither for a gap, nor by 2 for want of records: it is sound, or refused for something else
pub record Gapless (m : ℕ) (keys : List ℕ) (classes : ℕ) : Type 0 where
  pub some : (place : ℕ) → verdict (map_refusals m keys classes) ≡ refuse BadCount place → length keys ≡ 0 → classes ≡ 0 → ⊥
  pub closed : (place : ℕ) → verdict (map_refusals m keys classes) ≡ refuse Gap place → ⊥
