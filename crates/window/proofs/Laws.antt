-- The laws of windows and their maximal blocks: all that the crates above know of them.
-- Assumes nothing.
pub use Rattle.window.proofs.Maximal.{maximal-listed}
pub use Rattle.window.proofs.Fitting.{Fits}
pub use Rattle.window.proofs.Dyadic.{floor-le, floor-lt, floor-eq, side-square, same_up, same_div, floor-between, fits-same, fits-down, fits_all}
pub use Rattle.window.proofs.Blocks.{exponent-le, exponent-fits, exponent-max, exponent_same, corner-same, corner-exponent, corner-in, same→corner, corner-corner, corner→same, corner-row}
pub use Rattle.window.proofs.Listed.{before-row, before-irrefl, listed→, →listed, listed-ordered, block_of, block_one, trichotomy, front-all}
pub use Rattle.window.proofs.Few.{blocks-most, blocks-capped, blocks-few}
pub use Rattle.window.proofs.Largest.{largest-one, largest-some, largest-is, largest-corner}
pub use Rattle.window.proofs.Tests.{inside, not-outside, window-refused, window-passed, window-inside, numbered-window, without-window, inside-12}
pub use Rattle.window.proofs.Drawn.{drawn-over, drawn-outside, drawn-short, drawn-done, numbered-drawn, drawn-passed, drawn-said, drawn-by-length, drawn-leaves, drawn-untouched}
pub use Rattle.window.proofs.Past.{walked-first, walked_next, walked-last, walked-split, walked-room, goes-less, goes-corner, goes-own, goes_some}
pub use Rattle.window.proofs.Keys.{keys-of, key-at, pixel-in, key-named, goes-block, key-maximal, key-block, key-listed, keys-distinct, keys_length}
pub use Rattle.window.proofs.Counts.{rows-count, pixels-most, maximal-most, most-small, pixels-length, in-pixels}
pub use Rattle.window.proofs.Parts.{counts-shared, counts-parted}
pub use Rattle.window.proofs.Pairs.{meet-is, meet-inside, overlapping-is, intersection-is, hull-has, hull-inside, hull-least, union-is}
pub use Rattle.window.proofs.Sides.{touching-is, parted-two}
pub use Rattle.window.proofs.Rules.{exists-by-means, total-by-is, totals-by-length, totals-by-at, total-by-most, totals-by-sum, total-by-same, totals-by-same, exists-by-same}
pub use Rattle.window.proofs.Rules.{totals-by-are, exists-same, totals-same, exists-blocks, total-blocks, total-by-shared, total-by-parted}
