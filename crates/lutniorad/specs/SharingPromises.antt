-- What is promised of the reports of windows that share pixels, or that part another: of cells that answered calls left, each with a border and cells of its own.
-- Assumes nothing.
use Rattle.std.specs.Prelude.{◌≡◌, List, [], ◌∷◌, ℕ, ◌+◌, ◌<◌, get_or}
use Rattle.window.specs.declared.Window.{Window}
use Rattle.lutniorad.specs.declared.Answer.{Answer}
use Rattle.lutniorad.specs.Calls.{Report}

-- report leaves these cells for the window: some call of it was answered, and left them
pub record ReportLeaves (m : ℕ) (keys classes : List ℕ) (W : Window) (cells : List ℕ) : Type 0 where
  pub border : List ℕ
  pub border' : List ℕ
  pub old : List ℕ
  pub r : Answer
  pub call : Report m keys classes W border old r border' cells
  pub answered : r.refusal ≡ 0

-- and so it leaves a list of them for a list of windows
pub data ReportsLeave (m : ℕ) (keys classes : List ℕ) : List Window → List (List ℕ) → Type 0 where
  none : ReportsLeave m keys classes [] []
  more : {W : Window} {cells : List ℕ} {parts : List Window} {reports : List (List ℕ)} → ReportLeaves m keys classes W cells → ReportsLeave m keys classes parts reports
      → ReportsLeave m keys classes (W ∷ parts) (cells ∷ reports)

-- cell by cell, what was left in a and in b adds up to what was left in u and in i
abbrev pub AddUp : List ℕ → List ℕ → List ℕ → List ℕ → Type 0
AddUp a b u i = (k : ℕ) → k < 256 → get_or a k 0 + get_or b k 0 ≡ get_or u k 0 + get_or i k 0
