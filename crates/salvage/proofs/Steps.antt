-- What becomes of a record, by what its key is, and where the last span kept has ended then.
-- Assumes nothing.
use mathlib.Core.Path.{◌≡◌}
use mathlib.Core.List.{[], ◌∷◌, ◌++◌}
use Prim.Native.Nat.{ℕ, ◌+◌, ◌^◌, ◌≤◌, ◌<◌}
use borrow.Author.Tests.{lt-ltb, le-ltb}
use Rattle.std.specs.Prelude.{None}
use Rattle.answers.specs.declared.Cause.TheVariants.{BadKey, Overlap}
use Rattle.key.specs.Form.{form_of}
use Rattle.key.specs.Blocks.{Names}
use Rattle.map.proofs.Laws.{malformed-is, malformed-not, start_is, end_is}
use Rattle.salvage.specs.Salvage.{kept, dropped, fills, mends_of, reached}

module _ (m n at k : ℕ) where
  pub step-garbled : form_of m k ≡ None → (mends_of m n at k ≡ dropped n BadKey ∷ []) × (reached m at k ≡ at)
  unfolding mends_of reached
  step-garbled e = let g = malformed-is m k e in (rw g, rw g)

  module _ {i s : ℕ} (b : Names m k i s) where
    pub step-early : s < at → (mends_of m n at k ≡ dropped n Overlap ∷ []) × (reached m at k ≡ at)
    unfolding mends_of reached
    step-early l = (rw (malformed-not b, start_is b, lt-ltb s at l), rw (malformed-not b, start_is b, lt-ltb s at l))

    pub step_kept : at ≤ s → (mends_of m n at k ≡ fills m at s ++ (kept n ∷ [])) × (reached m at k ≡ s + 4 ^ i)
    unfolding mends_of reached
    step_kept l = (rw (malformed-not b, start_is b, le-ltb s at l), rw (malformed-not b, start_is b, le-ltb s at l, end_is b))
