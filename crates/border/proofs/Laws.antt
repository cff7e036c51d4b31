-- The laws of openings: all that the crates above know of them. They hand out the records that overlap the window, each once, and no fewer blocks bring these. Of a map that may have
-- gaps `Spaced` is known, of a whole one `Follow`.
-- Assumes nothing.
pub use Rattle.border.proofs.Fold.{met-run, met-in, openings-once}
pub use Rattle.border.proofs.Hands.{hands_none, hands-one, hands-append, in-hands, hands-count, cells-length, openings-in}
pub use Rattle.border.proofs.Overlaps.{spans, met-pixels, met-room, block-key}
pub use Rattle.border.proofs.Handing.{listed-corner}
pub use Rattle.border.proofs.Making.{opened-step, covered-step, handed-step, stated-step}
pub use Rattle.border.proofs.Once.{records-out, hands-all, hands-once, records-once}
pub use Rattle.border.proofs.Fewest.{openings-enough, bringing-enough, fewest, openings-most, records-most, bringing-records, openings-capped, openings-few}
pub use Rattle.border.proofs.Whole.{covered_whole, stays-whole, hands-some, hands-whole, all-bring, fewest-whole}
pub use Rattle.border.proofs.Empty.{unmet-none, empty-is, empty-or-brings}
pub use Rattle.border.proofs.Reasons.{handed-number, handed_out, opened-or-skipped, handed-one, first-at, opened-first, skipped-first, opened_one, skipped-one, not-both}
pub use Rattle.border.proofs.View.{keep-view, any-view, view-has, views-one, touched, pixel-view}
pub use Rattle.border.proofs.Blind.{openings-view, openings-tell, openings-numbers, brought-length, brought-at}
pub use Rattle.border.proofs.Stepping.{filled-spent}
pub use Rattle.border.proofs.Finding.{Finding, fresh-same, fresh-usable, fresh-spent, finding-first, finding-usable, finding-spent, finding-last, Opens, finds-opens}
