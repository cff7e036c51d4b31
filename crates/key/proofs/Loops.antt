-- What the functions of `blocks`, `digits` and `spots` go by: the state of their loops, and the tests that they make.
-- Assumes nothing.
pub use Rattle.key.proofs.Digits.{form-whole, form-big}
pub use Rattle.key.proofs.Strips.{strips-few, strips-off}
pub use Rattle.key.proofs.Reading.{pairs-listed, pairs-entry, place-most, pixel-told, digit-told}
pub use Rattle.key.proofs.Reading.{Reading, reading-first, reading-few, reading_small, reading-gap, reading-next, reading-room, reading-last}
pub use Rattle.key.proofs.Upward.{Ending, ending-first, ending-next, ending-some, ending-all, ends-exponent, starts-listed, starts-entry, pair-most}
pub use Rattle.key.proofs.Downward.{Digits, digits-first, digits-next, digits-most, digits_last}
pub use Rattle.key.proofs.Upward.{Starting, starting-first, starting-next, starting-small, starting-last, start-told}
pub use Rattle.key.proofs.Corners.{pixel-key-ones, ones-pow, ones-entry, ones-listed, corner-pixel, corner-key, spread-is-ones, ones-most}
pub use Rattle.key.proofs.Around.{Grown, grown-first, grown-next, below-room, grown-most, reached, unreached, reached-all}
pub use Rattle.key.proofs.Along.{pixel-room, fits-start, first-stands, next-room, next-stands, not_behind, Less, Told, told, fits-behind, fits-largest, fits-unlike, fits-large, fits-here}
pub use Rattle.key.proofs.Here.{begins-before, begins-over, begins-told, begin-top, begin-first, begin-stands}
pub use Rattle.key.proofs.Zeros.{alignment-counted}
pub use Rattle.key.proofs.Powers.{bit}
pub use Rattle.key.proofs.Bits.{spread-lt, spread-power, spreads-short, fours-listed, fours-entry, spread-thrice}
pub use Rattle.key.proofs.Pixels.{larger, place_is}
pub use Rattle.key.proofs.Squares.{Squaring, squaring-first, squaring-zero, squaring-digit, squaring-last}
