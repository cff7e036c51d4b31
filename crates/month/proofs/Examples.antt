-- A month, in examples: on the map and the window of P1.
-- Assumes nothing.
use mathlib.Core.Path.{◌≡◌, refl}
use mathlib.Core.Bool.{true, false}
use mathlib.Core.List.{List, [], ◌∷◌, ◌++◌}
use Prim.Native.Nat.{ℕ}
use lib.ListN.{take, replicate}
use Rattle.lists.specs.Promises as numbers
use Rattle.lists.specs.Promises.{least_of}
use Rattle.lists.specs.Lists.{up_from, greatest_of, any, before, how_many}
use Rattle.std.specs.Prelude.{Ok}
use Rattle.answers.specs.declared.Cause.TheVariants.{BadKey, BadWindow, ShortBorder, ShortRoom, OtherM, MonthFull, BadTable}
use Rattle.answers.specs.Refusals.{refuse, answer, verdict}
use Rattle.answers.specs.Sizes.{wrong_count, size_refusals_in, picture_refusals, count_refusals}
use Rattle.answers.specs.Cells.{overwrite}
use Rattle.answers.specs.After.{after, room_refusals}
use Rattle.answers.proofs.P1.{keys, classes, old}
use Rattle.key.specs.Spread.{spread_to, spread}
use Rattle.key.specs.Picture.{place}
use Rattle.key.specs.Form.{from, form_of}
use Rattle.window.specs.Window.{window, beyond, outside, window_refusals}
use Rattle.window.specs.Drawn.{drawn_refusals, drawn_for}
use Rattle.window.specs.Blocks.{across, rows}
use Rattle.window.specs.Rules.{total_by}
use Rattle.window.proofs.P1.{W}
use Rattle.map.specs.Spans as spans
use Rattle.map.specs.Check.{late, refusals_from, map_refusals_in}
use Rattle.map.specs.Records.{record_of}
use Rattle.used.specs.Used.{spent, border_refusals}
use Rattle.rows.specs.Promises.{row_of}
use Rattle.rows.specs.Rows.{row_cells, with_map, over, any_over}
use Rattle.month.specs.Month.{table_of, clear_of, add_map, spoiled, table_refusals, add_refusals, add_of}
use Rattle.month.specs.Promises.{counts_of, month_of}
use Rattle.month.proofs.P1.{empty, first-day}

-- a table of so many maps, and with so much in the row of class 0
abbrev other : ℕ → ℕ → ℕ → List ℕ
other maps sum in-maps = 2 ∷ 0 ∷ 1 ∷ 3 ∷ 3 ∷ maps ∷ 7 ∷ 5 ∷ sum ∷ in-maps ∷ replicate 1020 0

pub record Examples : Type 0 where
  pub clears : clear_of 2 W (old 1031) ≡ after (Ok tt) (empty ++ 99 ∷ [])
  -- 6 before 8
  pub clear-outside : clear_of 2 (window 2 0 3 1) (old 2) ≡ after (refuse BadWindow 0) (old 2)
  pub clear-short : clear_of 2 W (old 1029) ≡ after (refuse ShortRoom 1030) (old 1029)
  -- the first map sets the least; cells beyond the table and beyond the border's first w keep their content
  pub adds : add_of 2 keys classes (old 4) (empty ++ 99 ∷ []) ≡ after (Ok 1) (3 ∷ 3 ∷ 3 ∷ 99 ∷ [], first-day ++ 99 ∷ [])
  -- so it does where something stands there already
  pub sets : take 10 (add_map 2 keys classes (other 0 0 0)) ≡ 2 ∷ 0 ∷ 1 ∷ 3 ∷ 3 ∷ 1 ∷ 0 ∷ 0 ∷ 0 ∷ 0 ∷ []
  -- a map of one record of class 3: the others count as 0 pixels
  pub again : take 22 (add_map 2 (0 ∷ []) (3 ∷ []) first-day)
      ≡ 2 ∷ 0 ∷ 1 ∷ 3 ∷ 3 ∷ 2 ∷ 0 ∷ 0 ∷ 0 ∷ 0 ∷ 0 ∷ 4 ∷ 4 ∷ 1 ∷ 0 ∷ 4 ∷ 4 ∷ 1 ∷ 1 ∷ 9 ∷ 10 ∷ 2 ∷ []
  -- and the table of the two, from the list
  pub from_list : take 22 (month_of 2 W ((keys, classes) ∷ (0 ∷ [], 3 ∷ []) ∷ []))
      ≡ 2 ∷ 0 ∷ 1 ∷ 3 ∷ 3 ∷ 2 ∷ 0 ∷ 0 ∷ 0 ∷ 0 ∷ 0 ∷ 4 ∷ 4 ∷ 1 ∷ 0 ∷ 4 ∷ 4 ∷ 1 ∷ 1 ∷ 9 ∷ 10 ∷ 2 ∷ []
  -- least over greatest is taken; a sum one over the bound, more maps than were added, and a count of 1,001 are not
  pub taken : spoiled 2 (other 1 9 1) ≡ false
  pub sum_over : spoiled 2 (other 1 10 1) ≡ true
  pub maps-over : spoiled 2 (other 1 9 2) ≡ true
  pub count-over : spoiled 2 (other 1001 0 0) ≡ true
  -- 3 before 8 before 15 before 26, and 26 before 16 before 7
  pub record-first : verdict (add_refusals 2 (1 ∷ []) 1 0 []) ≡ refuse BadKey 0
  pub refuses : add_of 2 (1 ∷ []) (3 ∷ []) (old 3) (first-day ++ 99 ∷ []) ≡ after (refuse BadKey 0) (old 3, first-day ++ 99 ∷ [])
  pub short-first : verdict (add_refusals 2 keys 7 0 (old 1029)) ≡ refuse ShortRoom 1030
  pub size-first : verdict (add_refusals 2 keys 7 0 (old 1030)) ≡ refuse OtherM 0
  pub spoiled-first : verdict (add_refusals 2 keys 7 0 (other 1000 9001 0)) ≡ refuse BadTable 0
  pub full-first : verdict (add_refusals 2 keys 7 0 (other 1000 9000 0)) ≡ refuse MonthFull 0
  pub narrow-last : verdict (add_refusals 2 keys 7 2 (other 999 0 0)) ≡ refuse ShortBorder 3

pub examples : Examples
unfolding picture_refusals count_refusals border_refusals room_refusals answer wrong_count size_refusals_in overwrite up_from spread_to spread place from form_of beyond outside
    window_refusals drawn_refusals drawn_for across rows spans.malformed spans.form_exponent spans.start spans.end spans.holds late refusals_from map_refusals_in before how_many
    any record_of spent total_by numbers.sum least_of greatest_of row_cells table_of clear_of with_map add_map over any_over spoiled table_refusals add_refusals add_of counts_of row_of month_of
examples = record {
  clears = refl;
  clear-outside = refl;
  clear-short = refl;
  adds = refl;
  sets = refl;
  again = refl;
  from_list = refl;
  taken = refl;
  sum_over = refl;
  maps-over = refl;
  count-over = refl;
  record-first = refl;
  refuses = refl;
  short-first = refl;
  size-first = refl;
  spoiled-first = refl;
  full-first = refl;
  narrow-last = refl;
}
