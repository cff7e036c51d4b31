-- The laws of sets of places and the fewest blocks that make them up: all that the crates above know of them.
-- Assumes nothing.
pub use Rattle.stretch.proofs.Stretched.{fewest-same, stretch-makes, stretch-once, stretch-rising, stretch-least, stretch-only}
pub use Rattle.stretch.proofs.Bases.{base-le, base-lt, base-eq, base-own}
pub use Rattle.stretch.proofs.Around.{exponent-le, exponent-part, between_is}
pub use Rattle.stretch.proofs.Listed.{listed, maximal-rising, maximal-is, fewest-makes, fewest-once, fewest-rising}
pub use Rattle.stretch.proofs.Least.{fewest-least, fewest-only}
pub use Rattle.stretch.proofs.Parts.{fewest-append, fewest-empty, not_start, cut_out, cut-behind}
pub use Rattle.stretch.proofs.Runs.{run_end, run-next, gap-last, gap-next, stretches-none, stretches-next, runs-fewest, runs-are, fewest-runs}
pub use Rattle.stretch.proofs.Steps.{stretch-none, next-aligned, next-room, stretch-next, next-named, stretch-whole}
pub use Rattle.stretch.proofs.Few.{stretch-few}
