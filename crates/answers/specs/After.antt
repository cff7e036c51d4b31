-- What a call leaves: its answer and the lent slices; refusal 8, of a slice that is too short; and refusals 1 and 17 before all others.
-- Assumes nothing.
use Rattle.std.specs.Prelude.{List, [], ◌∷◌, ℕ, ltb, length}
use Rattle.answers.specs.declared.Cause.{Cause}
use Rattle.answers.specs.declared.Cause.TheVariants.{ShortRoom}
use Rattle.answers.specs.Refusals.{Refusal, refusal, answer}
use Rattle.answers.specs.Sizes.{tile_refusals}
use Rattle.answers.specs.Cells.{overwrite}

-- an answer, and what stands in the lent slices afterwards: `List ℕ` for one slice, `List ℕ × List ℕ` for two, in the order in which they are lent
pub record After (A S : Type 0) : Type 0 where
  pub answer : A
  pub lent : S

abbrev pub after : {A S : Type 0} → A → S → After A S
after answer lent = record { answer = answer; lent = lent }

-- an outcome behind a table of refusals: a refusal leaves the lent slices as they were; where none holds all is as `o` says
abbrev pub unless : {A S : Type 0} → (Cause → ℕ → A) → List Refusal → S → After A S → After A S
unless refuse rs lent o = answer (λ cause place. after (refuse cause place) lent) rs o

-- refusal 8: there is room for fewer cells than are needed
unfoldable pub room_refusals : ℕ → ℕ → List Refusal
room_refusals room needed = refusal (ltb room needed) ShortRoom needed ∷ []

-- cells in a slice that has room for them; or refusal 8, and the slice as it was
unfoldable pub room_for : {A : Type 0} → (Cause → ℕ → A) → A → List ℕ → List ℕ → After A (List ℕ)
room_for refuse done cells out = unless refuse (room_refusals (length out) (length cells)) out (after done (overwrite cells out))

-- with blocks of exponent up to `top`: refusals 1 and 17 before all others
abbrev pub tiled_for : {A S : Type 0} → (Cause → ℕ → A) → ℕ → ℕ → S → After A S → After A S
tiled_for refuse m top = unless refuse (tile_refusals m top)
