-- The laws of lists: all that the crates above know of them.
-- Assumes nothing.
pub use Rattle.lists.proofs.Tests.{never, refuted, both, neither, in-range, agree}
pub use Rattle.lists.proofs.Order.{ordered-imp, ordered-part, ordered-front, ordered-back, ordered-append, ordered-map, ordered-one, distinct-map, rising-distinct}
pub use Rattle.lists.proofs.Order.{pigeon, pigeon-onto, same-ordered, same-rising}
pub use Rattle.lists.proofs.Flat.{flat-none, flat-next, flat_append, flat-last, flat-room, flat-length, flat-most, flat_in, in-flat, flat-same, flat-ordered, flat-map}
pub use Rattle.lists.proofs.Numbers.{up_none, up_next, up_one, up_in, up-length, up-append, up-rising, up-distinct, table-written, map_same, same-rule, table-entry, same-below}
pub use Rattle.lists.proofs.Upto.{upto-whole, upto_next, upto-last}
pub use Rattle.lists.proofs.Kept.{keep-empty, keep_taken, keep-passed, keep-in, keep-true, in-keep, ordered-keep}
pub use Rattle.lists.proofs.Kept.{keep-map, keep-most, keep_append, keep-none, keep_all, keep_same, keep-keep, keep_run}
pub use Rattle.lists.proofs.Any.{any_none, any_next, any-has, has-any, any_append, any-keep, any_same, any-map, all-is, get_or-in, get_or-same}
pub use Rattle.lists.proofs.Counts.{sum-none, sum-next, sum-append, sums_same, many-empty, many-next, many-same, many-none, many-all, many-most, many-some, many-append}
pub use Rattle.lists.proofs.Counts.{many-whole, many-or, many-keep, many-map, each_part, each-once}
pub use Rattle.lists.proofs.Parts.{InPart, any-parts, many-parts}
pub use Rattle.lists.proofs.Extremes.{least-in, least-all, least-none, least_first, least-behind, greatest-in, greatest-all, greatest-none, greatest-next, greatest-append, greatest-behind}
pub use Rattle.lists.proofs.Stretches.{Stretch, stretch-of, stretch-begins, stretch-counts}
pub use Rattle.lists.proofs.ByNumber.{Split, split, nth_of, nth_in, nth-less, nth-one, nth-front, nth-middle, only, nth-get_or, before-taken, before_at, before-none, before-append}
pub use Rattle.lists.proofs.Greatest.{greatest-le, greatest-holds, greatest-over}
pub use Rattle.lists.proofs.Multiples.{down_le, down_lt, down-eq, down-zero, down-nested, down-up}
