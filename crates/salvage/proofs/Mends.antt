-- A map is mended record by record, as it is said in plain words; and so there are few mends.
-- Assumes nothing.
use mathlib.Core.Path.{◌≡◌, refl, ap, ◌∙◌}
use mathlib.Core.List.{List, [], ◌∷◌, ◌++◌, append_assoc, map}
use Prim.Native.Nat.{ℕ, zero, suc, ◌+◌, ◌*◌, ◌^◌, ◌≤◌, ◌<◌}
use native.Mathlib.Decide.{dec_lt}
use native.Mathlib.Omega.{arith}
use lib.ListN.{length, get_or, drop, length-append, length-map, drop_of_length-le}
use lib.Seq.{drop-cons}
use Rattle.std.specs.Prelude.{Option, None, Some}
use Rattle.key.specs.declared.Span.{Span}
use Rattle.key.specs.Form.{form_of}
use Rattle.key.specs.Blocks.{Names}
use Rattle.key.proofs.Laws.{whole-named, block-lies, pow-least}
use Rattle.stretch.proofs.Laws.{stretch-few, stretch-whole}
use Rattle.salvage.specs.Salvage.{Mend, kept, filled, fills, mends_of, reached, mends_from}
use Rattle.salvage.specs.Promises.{Mends, ends, garbled, early, keeps}
use Rattle.salvage.proofs.Steps.{step-garbled, step-early, step_kept}

-- record n, and those behind it
pub mends-next : (m n at : ℕ) (keys : List ℕ) → n < length keys
    → mends_from m n at (drop n keys) ≡ mends_of m n at (get_or keys n 0) ++ mends_from m (suc n) (reached m at (get_or keys n 0)) (drop (suc n) keys)
unfolding mends_from
mends-next m n at keys h = ap (mends_from m n at) (drop-cons keys n 0 h)

-- behind the last
pub mends-last : (m n at : ℕ) (keys : List ℕ) → length keys ≤ n → mends_from m n at (drop n keys) ≡ fills m at (4 ^ m)
unfolding mends_from
mends-last m n at keys h = ap (mends_from m n at) (drop_of_length-le keys {i = n} h)

module _ (m : ℕ) (keys : List ℕ) where
  mended : (left n at : ℕ) → n + left ≡ length keys → Mends m keys n at (mends_from m n at (drop n keys))
  mended zero n at e = rw (mends-last m n at keys (omega arith)) (ends {n = n} (omega arith))
  mended (suc left) n at e = go (form_of m k) refl (λ to. mended left (suc n) to (omega arith))
    where
      k : ℕ
      k = get_or keys n 0

      h : n < length keys
      h = omega arith

      -- where the record is read so, and the others are mended
      step : {es : List Mend} {to : ℕ} → (mends_of m n at k ≡ es) × (reached m at k ≡ to)
          → mends_from m n at (drop n keys) ≡ es ++ mends_from m (suc n) to (drop (suc n) keys)
      step s = mends-next m n at keys h ∙ rw (s.0, s.1)

      go : (f : Option Span) → form_of m k ≡ f → ((to : ℕ) → Mends m keys (suc n) to (mends_from m (suc n) to (drop (suc n) keys))) → Mends m keys n at (mends_from m n at (drop n keys))
      go None f ih = rw (step (step-garbled m n at k f)) (garbled h f (ih at))
      go (Some r) f ih = pick (dec_lt r.start at)
        where
          b : Names m k r.exponent r.start
          b = record { is = f }

          pick : Dec (r.start < at) → Mends m keys n at (mends_from m n at (drop n keys))
          pick (yes d) = rw (step (step-early m n at k b d)) (early h b d (ih at))
          pick (no d) =
              rw (step (step_kept m n at k b (omega arith)), append_assoc (fills m at r.start) (kept n ∷ []) (mends_from m (suc n) (r.start + 4 ^ r.exponent) (drop (suc n) keys)))
              (keeps {at = at} h b (omega arith) refl (ih (r.start + 4 ^ r.exponent)))

  pub mends-are : Mends m keys 0 0 (mends_from m 0 0 keys)
  mends-are = mended (length keys) 0 0 (omega arith)

-- of no record: the whole picture is one block
pub mends-none : (m : ℕ) → mends_from m 0 0 [] ≡ filled 0 ∷ []
unfolding mends_from fills
mends-none m = let z : 0 + 4 ^ m ≡ 4 ^ m = omega arith in ap (map filled) (rw z at (stretch-whole (whole-named m)))

-- ---- how many there are

fills-few : (m a b : ℕ) → m ≤ 12 → b ≤ 4 ^ m → length (fills m a b) ≤ 73
unfolding fills
fills-few m a b small h = rw (length-map _ filled) (omega (arith, stretch-few m a b m (omega arith) (omega arith)))

pub mends-few : {m : ℕ} {keys : List ℕ} {n at : ℕ} {es : List Mend} → m ≤ 12 → n ≤ length keys → Mends m keys n at es → length es + 74 * n ≤ 74 * length keys + 73
mends-few {m} {n = n} {at = at} small h (ends e) = omega (arith, fills-few m at (4 ^ m) small (omega arith))
mends-few small h (garbled l e M) = omega (arith, mends-few small l M)
mends-few small h (early l b s M) = omega (arith, mends-few small l M)
mends-few {m} {n = n} {at = at} small h (keeps {i = i} {s = s} {es = es} l b g e M) =
    omega (arith, length-append (fills m at s) (kept n ∷ es), fills-few m at s small (omega (arith, (block-lies b).span, pow-least 3 i)), mends-few small l M)
