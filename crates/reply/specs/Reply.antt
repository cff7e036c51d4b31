-- What is printed for a window, or for bytes left over where one should begin.
-- Assumes nothing.
use Rattle.std.specs.Prelude.{◌≡◌, cond, List, ◌++◌, ℕ, ◌*◌, ltb, length, Result, Ok, Err}
use Rattle.answers.specs.declared.Refused.{Refused}
use Rattle.answers.specs.Refusals.{answer}
use Rattle.answers.specs.After.{after}
use Rattle.window.specs.declared.Window.{Window}
use Rattle.border.specs.Openings.{openings, handed_count, cells_of}
use Rattle.used.specs.Used.{use_refusals}
use Rattle.totals.specs.Totals.{totals}
use Rattle.text.specs.Text.{put_of}
use Rattle.lines.specs.Lines.{window_line, cause_line, found_lines}
use Rattle.input.specs.Input.{window_of, left_text}

-- what is found in a window that is not refused, with its pixels counted by class and in all
unfoldable pub found_by : ℕ → List ℕ → Window → List ℕ → ℕ → List ℕ
found_by m keys W totals pixels = let os = openings m m keys W in found_lines (cells_of os) totals (length os) (handed_count os) pixels

-- what is said of a window: a refusal, or what is found. No window of a picture is wider than 4,096, so 7 is never given
unfoldable pub result_of : ℕ → List ℕ → List ℕ → Window → List ℕ
result_of m keys classes W = answer cause_line (use_refusals m keys (length classes) W 4096) (found_by m keys W (totals m keys classes W) (W.h * W.w))

-- the text for a window
unfoldable pub answer_of : ℕ → List ℕ → List ℕ → Window → List ℕ
answer_of m keys classes W = window_line W ++ result_of m keys classes W

-- a text was put; or there is a refusal, of which the text is the line, and nothing was put
abbrev pub Found : List ℕ → Result ℕ Refused → List ℕ → List ℕ → Type 0
Found text (Ok put) out out' = after put out' ≡ put_of text out
Found text (Err refused) out out' = (text ≡ cause_line refused.cause refused.place) × (out' ≡ out)

-- what is printed when so many of eight bytes are there: all are a window, and fewer are left over
unfoldable pub next_text : ℕ → List ℕ → List ℕ → ℕ → List ℕ → List ℕ
next_text m keys classes got bytes = cond (ltb got 8) (left_text got) (answer_of m keys classes (window_of bytes))
