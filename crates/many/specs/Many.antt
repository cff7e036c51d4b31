-- Many windows on one map, with one border: the answer and every lent cell, on every input.
-- Assumes nothing.
use Rattle.std.specs.Prelude.{Bool, cond, not, ◌||◌, List, [], ◌∷◌, ◌++◌, map, ℕ, ◌*◌, ◌/◌, ◌%◌, eqb, ltb, length, Result, Ok}
use Rattle.lists.specs.Lists.{up_from, greatest_of}
use Rattle.answers.specs.declared.Cause.TheVariants.{BadWindowList}
use Rattle.answers.specs.declared.Refused.{Refused}
use Rattle.answers.specs.Refusals.{Refusal, refusal, refuse, number, answer}
use Rattle.answers.specs.Cells.{overwrite}
use Rattle.answers.specs.After.{After, after, unless, room_refusals}
use Rattle.window.specs.declared.Window.{Window}
use Rattle.window.specs.Window.{window_from, outside, window_refusals}
use Rattle.map.specs.Check.{map_refusals}
use Rattle.border.specs.Openings.{openings, handed_count}
use Rattle.used.specs.Used.{border_refusals, spent}
use Rattle.many.specs.declared.Line.{Line}

-- ---- the list of windows

-- window i of a list of numbers, from 0, stands in cells 4i to 4i + 3
abbrev pub window_at : List ℕ → ℕ → Window
window_at cells i = window_from cells (4 * i)

-- all of them
unfoldable pub windows_in : List ℕ → List Window
windows_in cells = map (window_at cells) (up_from 0 (length cells / 4))

-- so many numbers do not come in fours, or are more than 256 windows
unfoldable pub wrong_list : ℕ → Bool
wrong_list n = not (eqb (n % 4) 0) || ltb (4 * 256) n

-- refusal 25, of how many numbers there are
unfoldable pub list_refusals : ℕ → List Refusal
list_refusals n = refusal (wrong_list n) BadWindowList 0 ∷ []

-- ---- one window

-- so many border cells a window needs: as many as it has columns, and none where 6 refuses it
unfoldable pub columns : ℕ → Window → ℕ
columns m W = cond (outside m W) 0 W.w

-- what is said of a window
abbrev pub line : ℕ → ℕ → ℕ → ℕ → ℕ → Line
line refusal place openings records pixels = record { refusal = refusal; place = place; openings = openings; records = records; pixels = pixels }

-- refusal 6; or the numbers of its openings, of the records that they hand out, and of its pixels
unfoldable pub line_of : ℕ → List ℕ → Window → Line
line_of m keys W =
    let os = openings m m keys W in
    answer (λ cause place. line (number cause) place 0 0 0) (window_refusals m W) (line 0 0 (length os) (handed_count os) (W.h * W.w))

-- five cells
abbrev pub line_cells : Line → List ℕ
line_cells x = x.refusal ∷ x.place ∷ x.openings ∷ x.records ∷ x.pixels ∷ []

-- ---- one window after another

-- their lines
unfoldable pub lines_of : ℕ → List ℕ → List Window → List ℕ
lines_of m keys [] = []
lines_of m keys (W ∷ Ws) = line_cells (line_of m keys W) ++ lines_of m keys Ws

-- the border that they leave: each that 6 does not refuse spends it
unfoldable pub left_by : ℕ → List Window → List ℕ → List ℕ
left_by m [] border = border
left_by m (W ∷ Ws) border = left_by m Ws (cond (outside m W) border (spent W border))

-- the width of the widest that 6 does not refuse
unfoldable pub widest : ℕ → List Window → ℕ
widest m Ws = greatest_of (map (columns m) Ws)

-- ---- all of them

-- the refusals of the map; 25; 7, by the widest window; and 8, by five cells for each
unfoldable pub many_refusals : ℕ → List ℕ → ℕ → List ℕ → ℕ → ℕ → List Refusal
many_refusals m keys classes windows border out =
    let Ws = windows_in windows in
    map_refusals m keys classes ++ (list_refusals (length windows) ++ (border_refusals (widest m Ws) border ++ room_refusals out (5 * length Ws)))

-- how many windows there are; the border that they leave, and their lines. A refusal leaves both slices as they were
unfoldable pub many_of : ℕ → List ℕ → ℕ → List ℕ → List ℕ → List ℕ → After (Result ℕ Refused) (List ℕ × List ℕ)
many_of m keys classes windows border out =
    let Ws = windows_in windows in
    unless refuse (many_refusals m keys classes windows (length border) (length out)) (border, out)
    (after (Ok (length Ws)) (left_by m Ws border, overwrite (lines_of m keys Ws) out))
