-- What the functions of `step`, `openings` and `open` go by: the cells that a step pushes on, the state of loops, and what a pass leaves.
-- Assumes nothing.
pub use Rattle.border.proofs.Written.{entered-late, entered-there}
pub use Rattle.border.proofs.Skipping.{reached-done, Skipping, skipping-first, skipping-end, skipping-ready, skipping-kept, skipping-next, skipping-room, skipping-found}
pub use Rattle.border.proofs.Passes.{Passing, passing-first, passing-last, passing-next, passing-few}
pub use Rattle.border.proofs.Passed.{passed-written}
pub use Rattle.border.proofs.Filled.{filled-part, pushed-is}
pub use Rattle.border.proofs.Columns.{shut_none, shut-some}
pub use Rattle.border.proofs.Steps.{step-pixel, step-name, step_block, step-reach, step_small, step-skipped, step-opened}
