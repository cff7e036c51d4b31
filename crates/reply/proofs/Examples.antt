-- P1's text, computed from the definitions, and what is printed for bytes left over.
-- Assumes nothing.
use mathlib.Core.Path.{◌≡◌, refl}
use mathlib.Core.List.{List, [], ◌∷◌, ◌++◌}
use Prim.Native.Nat.{ℕ}
use Rattle.lists.specs.Lists.{up_from, any, keep, before, how_many, greatest}
use Rattle.answers.specs.Refusals.{answer}
use Rattle.answers.specs.Sizes.{wrong_count, size_refusals_in, picture_refusals, count_refusals}
use Rattle.answers.proofs.P1.{keys, classes}
use Rattle.key.specs.Spread.{spread_to, spread}
use Rattle.key.specs.Picture.{place}
use Rattle.key.specs.Key.{pixel_key, block_key}
use Rattle.key.specs.Form.{from, form_of}
use Rattle.window.specs.Window.{window, beyond, outside, window_refusals}
use Rattle.window.specs.Blocks.{floor, lies, fits, exponent, corner, across, rows, is_corner, maximal}
use Rattle.window.specs.Keys.{key_of, keys_of}
use Rattle.window.specs.Rules.{total_by, totals_by}
use Rattle.map.specs.Spans as spans
use Rattle.map.specs.Spans.{within}
use Rattle.map.specs.Check.{late, refusals_from, map_refusals_in}
use Rattle.map.specs.Records.{record_of, exponent_of}
use Rattle.map.specs.Runs.{run_of}
use Rattle.border.specs.Openings.{is_handed, opening, open_from, openings, handed_count, cells_of}
use Rattle.used.specs.Used.{use_refusals_in, border_refusals}
use Rattle.text.specs.Text.{digits, digits_of, spaced, line_of}
use Rattle.lines.specs.Lines.{opening_lines, class_line, class_lines, found_lines}
use Rattle.input.specs.Input.{window_of, left_text}
use Rattle.reply.specs.Reply.{found_by, result_of, answer_of}

-- W 0 1 3 3, four openings, three classes, T 4 7 9
abbrev p1-text : List ℕ
p1-text =
    line_of 87 (0 ∷ 1 ∷ 3 ∷ 3 ∷ [])
    ++ line_of 79 (7 ∷ 0 ∷ 1 ∷ [])
    ++ line_of 79 (10 ∷ 1 ∷ 4 ∷ [])
    ++ line_of 79 (17 ∷ 5 ∷ 1 ∷ [])
    ++ line_of 79 (21 ∷ 6 ∷ 1 ∷ [])
    ++ line_of 65 (1 ∷ 4 ∷ [])
    ++ line_of 65 (2 ∷ 4 ∷ [])
    ++ line_of 65 (3 ∷ 1 ∷ [])
    ++ line_of 84 (4 ∷ 7 ∷ 9 ∷ [])

pub record Examples : Type 0 where
  pub p1-window : window_of (0 ∷ 0 ∷ 1 ∷ 0 ∷ 3 ∷ 0 ∷ 3 ∷ 0 ∷ []) ≡ window 0 1 3 3
  pub p1 : answer_of 2 keys classes (window 0 1 3 3) ≡ p1-text
  pub p12 : answer_of 2 keys classes (window 2 0 3 1) ≡ line_of 87 (2 ∷ 0 ∷ 3 ∷ 1 ∷ []) ++ line_of 82 (6 ∷ 0 ∷ [])
  pub none_left : left_text 0 ≡ []
  pub three-left : left_text 3 ≡ line_of 82 (10 ∷ 3 ∷ [])

pub examples : Examples
unfolding picture_refusals count_refusals border_refusals answer wrong_count size_refusals_in up_from spread_to spread place pixel_key block_key from form_of beyond
    outside window_refusals keep floor lies fits
    greatest exponent corner across rows is_corner maximal key_of keys_of spans.malformed spans.form_exponent spans.start spans.end spans.holds spans.overlap late
    refusals_from map_refusals_in before how_many record_of exponent_of run_of any within is_handed opening open_from openings handed_count cells_of use_refusals_in
    total_by totals_by digits digits_of spaced line_of opening_lines class_line class_lines found_lines found_by result_of answer_of left_text
examples = record {
  p1-window = refl;
  p1 = refl;
  p12 = refl;
  none_left = refl;
  three-left = refl;
}
