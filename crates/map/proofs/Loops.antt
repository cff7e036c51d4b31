-- What the functions of `checks`, `runs` and `near` go by: the state of their loops, and the tests that they make.
-- Assumes nothing.
pub use Rattle.map.proofs.Halves.{between_first, between-upper, between_lower, between-last}
pub use Rattle.map.proofs.Found.{end-here, end-own, end_later, found_none, in_order, counted, found_inside}
pub use Rattle.map.proofs.Steps.{late-not, step-short, step-full, late_is, late-never, step-malformed, step-early, step-late}
pub use Rattle.map.proofs.Walk.{CheckedTo, walked_next, walked-first, walked_here, walked_end, walked_row, taken-behind, taken_refused}
pub use Rattle.map.proofs.Tables.{check-refused, check-passed, sizes-refused, sizes-passed}
