-- The walk along the records: what the table says of the records from n on, where the last span ended at `at`, is what it says of all.
-- Assumes nothing.
use mathlib.Core.Path.{◌≡◌, refl, ap, ◌∙◌}
use mathlib.Core.Bool.{Bool, false}
use mathlib.Core.List.{List, [], ◌∷◌}
use Prim.Native.Nat.{ℕ, suc, ◌+◌, ◌^◌, ◌≤◌, ◌<◌}
use native.Mathlib.Numerals.{add-one}
use native.Mathlib.Omega.{arith}
use lib.ListN.{length, get_or, drop, drop_of_length-le}
use lib.Seq.{drop-cons}
use Rattle.std.specs.Prelude.{Ok, Err}
use Rattle.answers.specs.declared.Refused.{Refused}
use Rattle.answers.specs.Refusals.{verdict}
use Rattle.key.specs.declared.Span.{Span}
use Rattle.key.specs.Blocks.{Names}
use Rattle.key.proofs.Laws.{block-lies}
use Rattle.map.specs.Check.{late, refusals_from}
use Rattle.map.specs.Walk.{Takes, behind, refused, Row, none, more}
use Rattle.map.proofs.Steps.{late-not, step-next}

-- the table says of all records what it says of those from n on, where the last span ended at `at`
pub record CheckedTo (whole : Bool) (m : ℕ) (keys : List ℕ) (at n : ℕ) : Type 0 where
  pub within : n ≤ length keys
  pub most : at ≤ 4 ^ m
  pub same : verdict (refusals_from whole m 0 0 keys) ≡ verdict (refusals_from whole m n at (drop n keys))

-- what a record was taken for
module _ {whole : Bool} {m at key place : ℕ} where
  pub taken-behind : {b : Span} → Takes whole m at key place (Ok b) → (whole ≡ false) × (at ≤ b.start) × Names m key b.exponent b.start
  taken-behind (behind e l b) = (e, l, b)

  pub taken_refused : {e : Refused} → Takes whole m at key place (Err e) → (ks : List ℕ) → verdict (refusals_from whole m place at (key ∷ ks)) ≡ Err e
  taken_refused (refused v) = v

pub walked-first : (whole : Bool) (m : ℕ) (keys : List ℕ) → CheckedTo whole m keys 0 0
walked-first whole m keys = record { within = omega arith; most = omega arith; same = refl }

module _ {whole : Bool} {m : ℕ} {keys : List ℕ} {at n : ℕ} (w : CheckedTo whole m keys at n) where
  from : {ks : List ℕ} → drop n keys ≡ ks → verdict (refusals_from whole m 0 0 keys) ≡ verdict (refusals_from whole m n at ks)
  from e = w.same ∙ ap (λ (ks : List ℕ). verdict (refusals_from whole m n at ks)) e

  module _ (h : n < length keys) where
    -- record n, and those behind it
    pub walked_here : verdict (refusals_from whole m 0 0 keys) ≡ verdict (refusals_from whole m n at (get_or keys n 0 ∷ drop (suc n) keys))
    walked_here = from (drop-cons keys n 0 h)

    pub walked_next : {i s end : ℕ} → Names m (get_or keys n 0) i s → at ≤ s → late whole at s ≡ false → end ≡ s + 4 ^ i → CheckedTo whole m keys end (n + 1)
    walked_next b l e q =
        record {
          within = omega arith;
          most = omega (arith, (block-lies b).span);
          same = walked_here ∙ step-next whole m n at _ _ b l e ∙ rw (q, add-one);
        }

  pub walked_end : n ≡ length keys → verdict (refusals_from whole m 0 0 keys) ≡ verdict (refusals_from whole m n at [])
  walked_end e = from (drop_of_length-le keys {i = n} (omega arith))

-- so it says of all records what it says of those behind a row of them
pub walked_row : {whole : Bool} {m : ℕ} {keys : List ℕ} {n at next end : ℕ} → CheckedTo whole m keys at n → Row m keys n at next end → CheckedTo whole m keys end next
walked_row w none = w
walked_row {whole} w (more {end = end} R h b e) = walked_next (walked_row w R) h b (omega arith) (late-not whole {at = end} {s = end} (omega arith)) e
