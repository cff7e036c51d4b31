-- `spots::exponent_at` meets its contract: each test leaves fewer keys, and what passes them all is the block's.
use Rattle.std.proofs.Common.{ℕ, ◌+◌, ◌-◌, ◌%◌, ◌^◌, ◌<◌, get_or, refl, sym, ◌∙◌, arith}
use Rattle.key.specs.Along.{ones_table, pixel_at}
use Rattle.key.proofs.Loops.{Less, Told, told, not_behind, fits-behind, fits-largest, fits-unlike, fits-here, fits-large}
use Rattle.spots.proofs.exponent_at.Goals as goal
use Rattle.spots.proofs.exponent_at.Goals.{After-ones, Else-spot-pow4}

pub returns-then-spot-pow4 : goal.returns-then-spot-pow4
returns-then-spot-pow4 c = fits-behind c.requires.1 (omega arith)

-- behind the first test
before : (c : Else-spot-pow4) → c.args.spot.place < 4 ^ c.args.m
before c = not_behind c.requires.1 (λ e. c.if-spot-pow4.false (omega (arith, e, c.pow4.ensures.is)))

pub returns-then-key-spot : goal.returns-then-key-spot
returns-then-key-spot c = fits-largest c.requires.1 (before (goal.at.returns-then-key-spot c).Else-spot-pow4) c.if-key-spot.true

-- what the tables tell of the digits 1
module _ (c : After-ones) where
  abbrev over : ℕ
  over = (c.pixel_at.result + (4294967296 - c.args.key)) % 4294967296

  less : Less (pixel_at c.args.spot) c.args.key over
  less = record { fits = omega arith; from = omega arith; back = omega (arith, c.pixel_at.ensures) }

  tells : Told ones_table c.tables.result.now.digits over (get_or c.tables.result.now.digits (over % 16) 0)
  tells = told over refl c.tables.ensures.digits

pub returns-then-ones-over : goal.returns-then-ones-over
returns-then-ones-over c =
    let g = goal.at.returns-then-ones-over c in
    fits-unlike c.requires.1 (before g.Else-spot-pow4) c.requires.0 (tells g.After-ones) (less g.After-ones) (λ e. c.if-ones-over.true (c.ones.ensures ∙ sym (tells g.After-ones).entry ∙ e))

pub returns-then-spot-exponent : goal.returns-then-spot-exponent
returns-then-spot-exponent c =
    let g = goal.at.returns-then-spot-exponent c in
    fits-large c.requires.1 (before g.Else-spot-pow4) c.requires.0 (tells g.After-ones) (less g.After-ones) c.if-spot-exponent.true

pub returns : goal.returns
returns c =
    let g = goal.at.returns c in
    let equal = (tells g.After-ones).entry ∙ sym c.ones.ensures ∙ c.if-ones-over.false in
    fits-here c.requires.1 (before g.Else-spot-pow4) c.requires.0 (tells g.After-ones) (less g.After-ones) equal c.if-spot-exponent.false
