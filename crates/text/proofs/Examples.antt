-- Worked examples of text, computed from the definitions.
-- Assumes nothing.
use mathlib.Core.Path.{◌≡◌, refl}
use mathlib.Core.List.{[], ◌∷◌}
use Rattle.answers.specs.Cells.{overwrite}
use Rattle.answers.specs.After.{after}
use Rattle.text.specs.Text.{digits, digits_of, spaced, line_of, put_of}

pub record Examples : Type 0 where
  -- "0", "10" and "4294967295"
  pub none : digits_of 0 ≡ 48 ∷ []
  pub ten : digits_of 10 ≡ 49 ∷ 48 ∷ []
  pub most : digits_of 4294967295 ≡ 52 ∷ 50 ∷ 57 ∷ 52 ∷ 57 ∷ 54 ∷ 55 ∷ 50 ∷ 57 ∷ 53 ∷ []
  -- "W 0 1 3 3", "O 10 1 4" and "R 9 0"
  pub window : line_of 87 (0 ∷ 1 ∷ 3 ∷ 3 ∷ []) ≡ 87 ∷ 32 ∷ 48 ∷ 32 ∷ 49 ∷ 32 ∷ 51 ∷ 32 ∷ 51 ∷ 10 ∷ []
  pub opening : line_of 79 (10 ∷ 1 ∷ 4 ∷ []) ≡ 79 ∷ 32 ∷ 49 ∷ 48 ∷ 32 ∷ 49 ∷ 32 ∷ 52 ∷ 10 ∷ []
  pub refusal : line_of 82 (9 ∷ 0 ∷ []) ≡ 82 ∷ 32 ∷ 57 ∷ 32 ∷ 48 ∷ 10 ∷ []
  -- in a slice of three bytes, of two, and of one
  pub fits : put_of (digits_of 10) (1 ∷ 2 ∷ 3 ∷ []) ≡ after 2 (49 ∷ 48 ∷ 3 ∷ [])
  pub just : put_of (digits_of 10) (1 ∷ 2 ∷ []) ≡ after 2 (49 ∷ 48 ∷ [])
  pub short : put_of (digits_of 10) (1 ∷ []) ≡ after 0 (1 ∷ [])

pub examples : Examples
unfolding overwrite digits digits_of spaced line_of put_of
examples = record {
  none = refl;
  ten = refl;
  most = refl;
  window = refl;
  opening = refl;
  refusal = refl;
  fits = refl;
  just = refl;
  short = refl;
}
