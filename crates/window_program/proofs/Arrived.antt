-- How many bytes of a file came: no more than the first four, or then others behind them.
-- Assumes nothing.
use mathlib.Core.Path.{◌≡◌, sym, ◌∙◌}
use mathlib.Core.List.{List}
use Prim.Native.Nat.{ℕ, ◌+◌, ◌-◌, ◌≤◌}
use native.Mathlib.Omega.{arith}
use lib.ListN.{length}
use lib.Seq.{length-take-le}
use borrow.Rule.Slice.PartMut.{mid_of, put_mid, same_len_mid, mid_len, take_put}
use Rattle.std.specs.Prelude.{Some}
use Rattle.input.specs.Input.{announced_of}
use Rattle.input.proofs.Laws.{announced-bounds, announced-same}
use Rattle.window_program.specs.Received.{Received}

-- the bytes behind the first four were read, and these are as they were
pub received : (file : List ℕ) {n more : ℕ} → announced_of file ≡ Some n → (ys : List ℕ) → length ys ≡ length (mid_of 4 (n - 4) file) → more ≤ length ys
    → Received (4 + more) (put_mid 4 (n - 4) file ys)
received file {n} {more} e ys l m =
    let bytes = put_mid 4 (n - 4) file ys in
    let b = announced-bounds file e in
    let long : length bytes ≡ length file = same_len_mid 4 (n - 4) file ys l in
    let same : announced_of bytes ≡ Some n = announced-same bytes file (take_put 4 (n - 4) file ys (omega arith)) long ∙ e in
    let part : length (mid_of 4 (n - 4) file) ≡ n - 4 = mid_len 4 n file b.1 in
    record {
      counts = (omega arith, sym (length-take-le (4 + more) bytes (omega arith)));
      few = λ d. rw same (omega arith);
    }
