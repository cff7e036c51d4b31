-- Where the check of a whole map does not refuse a gap, it says the same of a map that may have gaps. By induction over the records.
-- Assumes nothing.
use mathlib.Core.Path.{◌≡◌, refl, sym, ◌∙◌}
use mathlib.Core.Bool.{Bool, true, false}
use mathlib.Core.List.{List, [], ◌∷◌}
use Prim.Native.Nat.{ℕ, suc, ◌+◌, ◌^◌, ◌<◌}
use native.Mathlib.Decide.{dec_lt}
use native.Mathlib.Omega.{arith}
use lib.ListN.{length}
use Rattle.std.specs.Prelude.{Option, None, Some, Result, Ok, Err}
use Rattle.answers.specs.declared.Cause.TheVariants.{Gap}
use Rattle.answers.specs.declared.Refused.{Refused}
use Rattle.answers.specs.Refusals.{refuse, verdict}
use Rattle.answers.specs.Sizes.{size_refusals_in}
use Rattle.answers.proofs.Laws.{refused-not-passed, sizes-same}
use Rattle.key.specs.declared.Span.{Span}
use Rattle.key.specs.Form.{form_of}
use Rattle.key.specs.Blocks.{Names}
use Rattle.map.specs.Check.{late, refusals_from, map_refusals_in, map_refusals}
use Rattle.map.specs.Sound.{SoundMap}
use Rattle.map.specs.Promises.{Gapless}
use Rattle.map.proofs.Steps.{late-never, step-malformed, step-early, step-late, step-next, step-short, step-full}
use Rattle.map.proofs.Tables.{sizes-refused, sizes-passed, sound-map}

same-records : (m n at : ℕ) (keys : List ℕ) → ((p : ℕ) → verdict (refusals_from true m n at keys) ≡ refuse Gap p → ⊥)
    → verdict (refusals_from false m n at keys) ≡ verdict (refusals_from true m n at keys)
same-records m n at [] closed = go (late true at (4 ^ m)) refl
  where
    go : (t : Bool) → late true at (4 ^ m) ≡ t → verdict (refusals_from false m n at []) ≡ verdict (refusals_from true m n at [])
    go true e = absurd (closed n (step-short true m n at e))
    go false e = step-full false m n at (late-never at (4 ^ m)) ∙ sym (step-full true m n at e)
same-records m n at (k ∷ ks) closed = by (form_of m k) refl (λ e. same-records m (suc n) e ks)
  where
    Same : ℕ → ℕ → List ℕ → Type 0
    Same n at keys = verdict (refusals_from false m n at keys) ≡ verdict (refusals_from true m n at keys)

    by : (f : Option Span) → form_of m k ≡ f → ((e : ℕ) → ((p : ℕ) → verdict (refusals_from true m (suc n) e ks) ≡ refuse Gap p → ⊥) → Same (suc n) e ks) → Same n at (k ∷ ks)
    by None e ih = step-malformed false m n at k ks e ∙ sym (step-malformed true m n at k ks e)
    by (Some f) e ih = go (dec_lt f.start at) (late true at f.start) refl
      where
        b : Names m k f.exponent f.start
        b = record { is = e }

        go : Dec (f.start < at) → (t : Bool) → late true at f.start ≡ t → Same n at (k ∷ ks)
        go (yes l) t d = step-early false m n at k ks b l ∙ sym (step-early true m n at k ks b l)
        go (no l) true d = absurd (closed n (step-late true m n at k ks b d))
        go (no l) false d =
            let next = step-next true m n at k ks b (omega arith) d in
            step-next false m n at k ks b (omega arith) (late-never at f.start) ∙ ih (f.start + 4 ^ f.exponent) (λ p v. closed p (next ∙ v)) ∙ sym next

module _ {m : ℕ} {keys : List ℕ} {classes : ℕ} where
  pub gapless-same : Gapless m keys classes → verdict (map_refusals_in false m keys classes) ≡ verdict (map_refusals m keys classes)
  gapless-same G = go (verdict (size_refusals_in true m (length keys) classes)) refl
    where
      same : verdict (size_refusals_in false m (length keys) classes) ≡ verdict (size_refusals_in true m (length keys) classes)
      same = sizes-same m (λ v. G.some 0 (sizes-refused true m keys classes v))

      go : (v : Result Unit Refused) → verdict (size_refusals_in true m (length keys) classes) ≡ v → verdict (map_refusals_in false m keys classes) ≡ verdict (map_refusals m keys classes)
      go (Err r) e = sizes-refused false m keys classes (same ∙ e) ∙ sym (sizes-refused true m keys classes e)
      go (Ok tt) e =
          let whole = sizes-passed true m keys classes e in
          sizes-passed false m keys classes (same ∙ e) ∙ same-records m 0 0 keys (λ p v. G.closed p (whole ∙ v)) ∙ sym whole

  -- a sound map is one of these
  pub sound-gapless : SoundMap m keys classes → Gapless m keys classes
  sound-gapless S = record {
    some = λ p v. absurd (refused-not-passed (sym v ∙ (sound-map m keys classes).1 S));
    closed = λ p v. refused-not-passed (sym v ∙ (sound-map m keys classes).1 S);
  }
