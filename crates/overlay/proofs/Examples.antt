-- Today's map over a baseline, in examples: the header's. Of today three records, of a pixel each, over P1's map.
-- Assumes nothing.
use mathlib.Core.Path.{◌≡◌, refl}
use mathlib.Core.List.{List, [], ◌∷◌, ◌++◌, flat_map}
use Prim.Native.Nat.{ℕ}
use lib.ListN.{replicate}
use Rattle.lists.specs.Lists.{up_from, any, keep, before, how_many, greatest}
use Rattle.std.specs.Prelude.{Ok}
use Rattle.answers.specs.declared.Cause.TheVariants.{Overlap, Gap, ShortBorder, ShortRoom, OtherM, NoBlock}
use Rattle.answers.specs.Refusals.{answer}
use Rattle.answers.specs.Sizes.{wrong_count, size_refusals_in, picture_refusals, count_refusals, tile_refusals}
use Rattle.answers.specs.Cells.{overwrite}
use Rattle.answers.specs.After.{after, room_refusals, room_for}
use Rattle.answers.proofs.P1 as under
use Rattle.answers.proofs.P1.{old}
use Rattle.key.specs.Spread.{spread_to, spread}
use Rattle.key.specs.Picture.{place}
use Rattle.key.specs.Key.{pixel_key, block_key, ones}
use Rattle.key.specs.Form.{from, form_of}
use Rattle.key.specs.Places.{place_key, span_key}
use Rattle.window.specs.Window.{window, beyond, outside, window_refusals}
use Rattle.window.specs.Blocks.{floor, lies, fits, exponent, corner, across, rows, is_corner, maximal}
use Rattle.window.specs.Keys.{key_of, keys_of}
use Rattle.window.specs.Rules.{exists_by, total_by, totals_by}
use Rattle.window.proofs.P1.{W}
use Rattle.map.specs.Spans as spans
use Rattle.map.specs.Check.{late, refusals_from, map_refusals_in}
use Rattle.map.specs.Records.{record_of, exponent_of}
use Rattle.map.specs.Runs.{run_of}
use Rattle.stretch.specs.Sets.{base, full, fits_in, exponent_in, starts, between}
use Rattle.stretch.specs.Fewest.{maximal_in, key_from, fewest}
use Rattle.used.specs.Used.{use_refusals_in, spent, used_in, border_refusals}
use Rattle.exist.specs.declared.Existence.TheVariants as existence
use Rattle.exist.specs.Exist.{presence_by, existing_by, exist_in}
use Rattle.report.specs.Report.{report_in}
use Rattle.select.specs.Select.{select_keys}
use Rattle.pieces.specs.Pair.{class_over_map}
use Rattle.overlay.specs.declared.Layer.TheVariants.{Neither, Today, Baseline}
use Rattle.overlay.specs.declared.Viewed.TheVariants as part
use Rattle.overlay.specs.Select.{of_class, class_blocks, class_selected, class_selection}
use Rattle.overlay.specs.Overlay.{refuse_of, same_refusals, pairing, behind, exist_over, report_over, select_over, block_refusals, records_over, view_of, part_in}

abbrev pub keys : List ℕ
keys = 9 ∷ 13 ∷ 14 ∷ []

abbrev pub classes : List ℕ
classes = 3 ∷ 2 ∷ 2 ∷ []

abbrev over : ℕ → ℕ
over = class_over_map 2 keys classes under.keys under.classes

pub record Examples : Type 0 where
  -- two records of each map make up a block, which is listed, and not its pixels 11 to 14
  pub joined : class_selected 2 over 2 10 ≡ 10 ∷ []
  -- a class that has no place in a block
  pub elsewhere : class_selected 2 over 3 10 ≡ []
  -- three pixels of a quarter, whose fourth is today's, and a whole one
  pub whole : class_selection 2 over (window 0 0 4 4) 1 ≡ 6 ∷ 7 ∷ 8 ∷ 15 ∷ []
  -- the calls: in the window of P1 class 3 is today's, and the baseline's pixel of it is hidden
  pub exist : exist_over 2 keys classes 2 under.keys under.classes W 3 (old 3) ≡ after (Ok existence.Yes) (3 ∷ 3 ∷ 3 ∷ [])
  pub hidden : exist_over 2 keys classes 2 under.keys under.classes (window 0 2 2 2) 3 (old 2) ≡ after (Ok existence.No) (2 ∷ 2 ∷ [])
  -- what today's map has not seen was not seen, whatever is under it
  pub unseen : exist_over 2 (13 ∷ []) (255 ∷ []) 2 under.keys under.classes (window 0 2 2 2) 3 (old 2) ≡ after (Ok existence.CannotTell) (2 ∷ 2 ∷ [])
  pub report : report_over 2 keys classes 2 under.keys under.classes W (old 3) (old 257)
      ≡ after (Ok 9) (3 ∷ 3 ∷ 3 ∷ [], 0 ∷ 2 ∷ 6 ∷ 1 ∷ replicate 252 0 ++ (99 ∷ []))
  pub select : select_over 2 keys classes 2 under.keys under.classes W 2 (old 3) (old 4) ≡ after (Ok 3) (3 ∷ 3 ∷ 3 ∷ [], 10 ∷ 21 ∷ 22 ∷ 99 ∷ [])
  -- 8 spends the border
  pub short : select_over 2 keys classes 2 under.keys under.classes W 2 (old 3) (old 2) ≡ after (refuse_of Neither ShortRoom 3) (3 ∷ 3 ∷ 3 ∷ [], old 2)
  pub narrow : report_over 2 keys classes 2 under.keys under.classes W (old 2) [] ≡ after (refuse_of Neither ShortBorder 3) (old 2, [])
  -- a refusal of a map says whose it is, today's first: its gaps are none, the baseline's are
  pub both : exist_over 2 (9 ∷ 9 ∷ []) (3 ∷ 2 ∷ []) 2 keys classes W 3 (old 3) ≡ after (refuse_of Today Overlap 1) (old 3)
  pub gap : exist_over 2 keys classes 2 keys classes W 3 (old 3) ≡ after (refuse_of Baseline Gap 0) (old 3)
  pub other-m : exist_over 2 keys classes 0 (0 ∷ []) (1 ∷ []) W 3 [] ≡ after (refuse_of Neither OtherM 0) []
  -- no record of today's
  pub nothing : pairing 2 [] 0 2 under.keys 7 ≡ Ok tt

pub examples : Examples
unfolding flat_map up_from any keep before how_many greatest answer wrong_count size_refusals_in picture_refusals count_refusals tile_refusals overwrite room_refusals room_for
    spread_to spread place pixel_key block_key ones from form_of place_key span_key beyond outside window_refusals
    floor lies fits exponent corner across rows is_corner maximal key_of keys_of exists_by total_by totals_by spans.malformed spans.form_exponent spans.start spans.end spans.holds
    late refusals_from map_refusals_in record_of base full fits_in exponent_in starts between maximal_in key_from fewest use_refusals_in spent used_in border_refusals
    presence_by existing_by exist_in report_in select_keys class_over_map of_class class_blocks class_selected class_selection same_refusals pairing behind exist_over report_over select_over
examples = record {
  joined = refl;
  elsewhere = refl;
  whole = refl;
  exist = refl;
  hidden = refl;
  unseen = refl;
  report = refl;
  select = refl;
  short = refl;
  narrow = refl;
  both = refl;
  gap = refl;
  other-m = refl;
  nothing = refl;
}

-- the viewer's part
pub record Parts : Type 0 where
  -- block 10 has two records of today's, and block 15 none, but one of the baseline
  pub own : view_of 2 keys 3 2 under.keys 7 10 ≡ Ok (part.Today 1 2)
  pub under-it : view_of 2 keys 3 2 under.keys 7 15 ≡ Ok (part.Baseline 5 1)
  -- a pixel inside a record of the baseline
  pub around : view_of 2 keys 3 2 under.keys 7 21 ≡ Ok (part.Baseline 6 1)
  pub classes-own : part_in classes under.classes (view_of 2 keys 3 2 under.keys 7 10) ≡ 2 ∷ 2 ∷ []
  pub classes-under : part_in classes under.classes (view_of 2 keys 3 2 under.keys 7 15) ≡ 1 ∷ []
  -- no block: a zero before another digit, and a number of too many digits. The part is empty then
  pub zero-inside : view_of 2 keys 3 2 under.keys 7 1 ≡ refuse_of Neither NoBlock 0
  pub too_large : view_of 2 keys 3 2 under.keys 7 31 ≡ refuse_of Neither NoBlock 0
  pub empty : part_in classes under.classes (view_of 2 keys 3 2 under.keys 7 31) ≡ []
  -- behind the checks of both maps
  pub after-15 : view_of 2 keys 3 0 (0 ∷ []) 1 31 ≡ refuse_of Neither OtherM 0

pub parts : Parts
unfolding up_from before how_many answer wrong_count size_refusals_in picture_refusals count_refusals from form_of spans.malformed spans.form_exponent spans.start spans.end spans.holds spans.overlap
    late refusals_from map_refusals_in record_of exponent_of run_of same_refusals pairing behind block_refusals records_over view_of part_in
parts = record {
  own = refl;
  under-it = refl;
  around = refl;
  classes-own = refl;
  classes-under = refl;
  zero-inside = refl;
  too_large = refl;
  empty = refl;
  after-15 = refl;
}
