-- What is printed before the first window, and how long a file is, computed from the definitions.
-- Assumes nothing.
use mathlib.Core.Path.{◌≡◌, refl}
use mathlib.Core.List.{List, [], ◌∷◌}
use Prim.Native.Nat.{ℕ}
use lib.ListN.{take}
use Rattle.std.specs.Prelude.{Some, None}
use Rattle.answers.specs.Refusals.{answer}
use Rattle.answers.specs.Sizes.{wrong_count, size_refusals_in, picture_refusals, count_refusals}
use Rattle.answers.proofs.P1.{keys, classes}
use Rattle.key.specs.Form.{from, form_of}
use Rattle.map.specs.Spans as spans
use Rattle.map.specs.Check.{late, refusals_from, map_refusals_in}
use Rattle.numbers.specs.Numbers.{bytes, number, bytes_of, numbers}
use Rattle.house.specs.File.{header, file_of, layout_refusals, file_m, file_q, read_refusals_in, file_keys, file_classes}
use Rattle.text.specs.Text.{digits, digits_of, spaced, line_of}
use Rattle.input.specs.Input.{announced_of, whole_of}
use Rattle.beginning.specs.Beginning.{map_text, start_refusals, start_text}

abbrev file : List ℕ
file = file_of 2 keys classes

-- P9: the last record removed
abbrev file-9 : List ℕ
file-9 = file_of 2 (take 6 keys) (take 6 classes)

pub record Examples : Type 0 where
  pub p1-start : start_text file ≡ []
  pub p9-start : start_text file-9 ≡ line_of 82 (5 ∷ 6 ∷ [])
  pub p9-map : map_text 2 (take 6 keys) (take 6 classes) ≡ line_of 82 (5 ∷ 6 ∷ [])
  pub no-file : start_text [] ≡ line_of 82 (9 ∷ 0 ∷ [])
  pub p1-length : announced_of file ≡ Some 55
  pub no_room : announced_of (take 54 file) ≡ None
  -- all 55 bytes came, or one less, or the input ended in the length itself
  pub p1-whole : whole_of file 55 ≡ file
  pub p1-cut : whole_of file 54 ≡ []
  pub in-length : whole_of file 3 ≡ []

pub examples : Examples
unfolding picture_refusals count_refusals answer wrong_count size_refusals_in from form_of spans.malformed spans.form_exponent spans.start spans.end late refusals_from
    map_refusals_in digits digits_of spaced
    line_of bytes number bytes_of numbers header file_of layout_refusals file_m file_q read_refusals_in file_keys file_classes map_text start_refusals start_text announced_of whole_of
examples = record {
  p1-start = refl;
  p9-start = refl;
  p9-map = refl;
  no-file = refl;
  p1-length = refl;
  no_room = refl;
  p1-whole = refl;
  p1-cut = refl;
  in-length = refl;
}
