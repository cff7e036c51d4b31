-- One maximal block, one step.
-- Assumes nothing.
use Rattle.std.specs.Prelude.{◌≡◌, ◌↔◌, cond, List, [], ◌∷◌, ◌++◌, ℕ, max, ◌-◌, ◌<◌, ltb, get_or, Option, None, Some}
use Rattle.answers.specs.After.{After, after}
use Rattle.key.specs.Picture.{Px}
use Rattle.window.specs.declared.Window.{Window}
use Rattle.window.specs.Window.{In}
use Rattle.window.specs.Blocks.{exponent, corner, maximal}
use Rattle.window.specs.Keys.{key_of}
use Rattle.map.specs.Records.{pixel_exponent}
use Rattle.map.specs.declared.Run.{Run}
use Rattle.map.specs.Runs.{run, run_of}
use Rattle.used.specs.Used.{Usable}
use Rattle.border.specs.declared.Opened.{Opened}
use Rattle.border.specs.Openings.{Opening, made}
use Rattle.border.specs.Border.{Stated, CoveredBy, opened_by}
use Rattle.border.specs.Cells.{pushed, closed}

-- of the block with corner b and the record of b, by the exponents of records, the exponent of the larger
abbrev pub reach : Window → ℕ → (ℕ → ℕ → ℕ) → Px → ℕ
reach W top ex b = max (exponent W top b) (ex b.0 b.1)

-- a block that is opened: its key, the run of its records, and how many columns that closes
abbrev pub opened : ℕ → Run → ℕ → Opened
opened key run closed = record { key = key; run = run; closed = closed }

-- the cell of the corner's column decides: the block is skipped, or opened; an opened block pushes the cells of its columns, or of those of the record that contains it
unfoldable pub step_of : ℕ → ℕ → List ℕ → Window → Px → List ℕ → After (Option Opened) (List ℕ)
step_of m top keys W b cells =
    let key = key_of m top W b in
    let met = run_of m keys key in
    let n = reach W top (pixel_exponent m keys) b in
    cond (ltb b.0 (get_or cells (b.1 - W.c0) 0)) (after None cells) (after (Some (opened key (run met.first met.count n) (closed W n b))) (pushed W n b cells))

-- b is the corner of a maximal block
pub record Corner (W : Window) (top : ℕ) (b : Px) : Type 0 where
  pub inside : In W b
  pub own : corner W top b ≡ b

-- what a step may take for granted: a map and a window that can be used, and one of the window's maximal blocks, by corner and exponent
pub record Ready (m top : ℕ) (keys : List ℕ) (W : Window) (b : Px) (i cells : ℕ) : Type 0 where
  pub given : Usable m top keys W cells
  pub corner : Corner W top b
  pub size : i ≡ exponent W top b

-- what a step has made: an opening, or none
unfoldable pub made_by : Option Opened → List Opening
made_by None = []
made_by (Some o) = made o.key o.run.first o.run.count ∷ []

-- what a step promises: for any cells, what it answers and leaves, and when it skips; and cells that are as stated before the step, by the openings made till then, are so after it,
-- by those and what the step itself has made
pub record Step (m top : ℕ) (keys : List ℕ) (W : Window) (b : Px) (cells : List ℕ) (answer : Option Opened) (border : List ℕ) : Type 0 where
  pub is : after answer border ≡ step_of m top keys W b cells
  pub skips : (answer ≡ None) ↔ (b.0 < get_or cells (b.1 - W.c0) 0)
  pub stays : (before later : List Px) → maximal W top ≡ before ++ b ∷ later
      → Stated W (CoveredBy m keys (opened_by m top keys W before)) cells → Stated W (CoveredBy m keys (opened_by m top keys W before ++ made_by answer)) border
