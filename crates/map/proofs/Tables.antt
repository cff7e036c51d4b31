-- The tables of a map, part after part; and a map that passes them is sound as `SoundIn` says, and no other.
-- Assumes nothing.
use mathlib.Core.Path.{◌≡◌, refl, sym, ap, ◌∙◌}
use mathlib.Core.Logic.{◌↔◌}
use mathlib.Core.Bool.{Bool, true, false}
use mathlib.Core.List.{List, [], ◌∷◌}
use Prim.Native.Nat.{ℕ, suc, ◌+◌, ◌^◌, ◌≤◌, ◌<◌}
use native.Mathlib.Decide.{dec_lt}
use native.Mathlib.Omega.{arith}
use lib.ListN.{length}
use Rattle.std.specs.Prelude.{Option, None, Some, Ok, Err}
use Rattle.answers.specs.declared.Cause.TheVariants.{BadM, BadKey, Overlap, Gap}
use Rattle.answers.specs.declared.Refused.{Refused}
use Rattle.answers.specs.Refusals.{answer, refuse, verdict}
use Rattle.answers.specs.Sizes.{size_refusals_in}
use Rattle.answers.proofs.Laws.{on-passed, on-refused, append-refused, append-passed, refused-not-passed, passed-append, sized, over-12}
use Rattle.answers.proofs.Laws.{Numbered, none, numbered_next, numbered-append, numbered-sizes, Without, without-none, without_other, without-clear, without-append, without-over}
use Rattle.key.specs.declared.Span.{Span}
use Rattle.key.specs.Form.{form_of}
use Rattle.key.specs.Blocks.{Names}
use Rattle.key.proofs.Laws.{one_block, block-lies}
use Rattle.map.specs.Spans.{start, end}
use Rattle.map.specs.Check.{late, refusals_from, map_refusals_in, check_in}
use Rattle.map.specs.Sound.{Follow, full, next, Spaced, ended, later, Recorded, SoundIn}
use Rattle.map.proofs.Steps.{late-not, late-never, not_late, step-malformed, step-early, step-late, step-next, step-short, step-full}

module _ (whole : Bool) (m : ℕ) (keys : List ℕ) (classes : ℕ) where
  pub sizes-refused : {e : Refused} → verdict (size_refusals_in whole m (length keys) classes) ≡ Err e → verdict (map_refusals_in whole m keys classes) ≡ Err e
  unfolding map_refusals_in
  sizes-refused e = append-refused refuse _ _ _ e

  pub map-over : 12 < m → verdict (map_refusals_in whole m keys classes) ≡ refuse BadM 0
  map-over l = sizes-refused (over-12 whole m (length keys) classes l)

  pub sizes-passed : verdict (size_refusals_in whole m (length keys) classes) ≡ Ok tt → verdict (map_refusals_in whole m keys classes) ≡ verdict (refusals_from whole m 0 0 keys)
  unfolding map_refusals_in
  sizes-passed e = append-passed refuse _ _ _ e

  pub check-refused : {e : Refused} → verdict (map_refusals_in whole m keys classes) ≡ Err e → check_in whole m keys classes ≡ Err e
  unfolding check_in
  check-refused e = on-refused refuse _ _ e

  pub check-passed : verdict (map_refusals_in whole m keys classes) ≡ Ok tt → check_in whole m keys classes ≡ Ok (length keys)
  unfolding check_in
  check-passed e = on-passed refuse _ _ e

  pub check-is : check_in whole m keys classes ≡ answer refuse (map_refusals_in whole m keys classes) (Ok (length keys))
  unfolding check_in
  check-is = refl

-- ---- the records

module _ {most : ℕ} (h : 5 ≤ most) where
  numbered-records : (whole : Bool) (m n at : ℕ) (keys : List ℕ) → Numbered most (refusals_from whole m n at keys)
  unfolding refusals_from
  numbered-records whole m n at [] = numbered_next Gap (omega arith) h none
  numbered-records whole m n at (k ∷ ks) =
      let rest = numbered-records whole m (suc n) (end (form_of m k)) ks in
      numbered_next BadKey (omega arith) (omega arith) (numbered_next Overlap (omega arith) (omega arith) (numbered_next Gap (omega arith) h rest))

  pub numbered-map : (whole : Bool) (m : ℕ) (keys : List ℕ) (classes : ℕ) → Numbered most (map_refusals_in whole m keys classes)
  unfolding map_refusals_in
  numbered-map whole m keys classes = numbered-append (numbered-sizes whole m (length keys) classes (omega arith)) (numbered-records whole m 0 0 keys)

-- where gaps are allowed, 5 is not given
without-records : (m n at : ℕ) (keys : List ℕ) → Without 5 (refusals_from false m n at keys)
unfolding refusals_from
without-records m n at [] = without-clear Gap (late-never at (4 ^ m)) without-none
without-records m n at (k ∷ ks) =
    let f = form_of m k in
    without_other BadKey (λ e. omega (arith, e)) (without_other Overlap (λ e. omega (arith, e)) (without-clear Gap (late-never at (start f)) (without-records m (suc n) (end f) ks)))

pub without-map : (m : ℕ) (keys : List ℕ) (classes : ℕ) → Without 5 (map_refusals_in false m keys classes)
unfolding map_refusals_in
without-map m keys classes = without-append (without-over (numbered-sizes {most = 2} false m (length keys) classes (omega arith)) (omega arith)) (without-records m 0 0 keys)

-- what the table asks of the records behind `at`: that they follow one another, or that they are spaced
module _ (whole : Bool) (m : ℕ) (Good : ℕ → List ℕ → Type 0)
    (none : (at : ℕ) → at ≤ 4 ^ m → (late whole at (4 ^ m) ≡ false) ↔ Good at [])
    (some : (at k : ℕ) (ks : List ℕ) → Good at (k ∷ ks) → (i : ℕ) × (s : ℕ) × Names m k i s × (at ≤ s) × (late whole at s ≡ false) × Good (s + 4 ^ i) ks)
    (more : (at k : ℕ) (ks : List ℕ) (i s : ℕ) → Names m k i s → at ≤ s → late whole at s ≡ false → Good (s + 4 ^ i) ks → Good at (k ∷ ks)) where
  passes_on : (n at k : ℕ) (ks : List ℕ) (f : Option Span) → form_of m k ≡ f
      → ((e : ℕ) → e ≤ 4 ^ m → (verdict (refusals_from whole m (suc n) e ks) ≡ Ok tt) ↔ Good e ks)
      → (verdict (refusals_from whole m n at (k ∷ ks)) ≡ Ok tt) ↔ Good at (k ∷ ks)
  passes_on n at k ks None e ih = (λ v. absurd (refused-not-passed (sym (step-malformed whole m n at k ks e) ∙ v)), from)
    where
      from : Good at (k ∷ ks) → verdict (refusals_from whole m n at (k ∷ ks)) ≡ Ok tt
      from g = let t = some at k ks g in let d = t.2.is in absurd (let z : ◌≡◌ {A = ℕ} 0 1 = cc in omega arith)
  passes_on n at k ks (Some f) e ih = (to (dec_lt f.start at) (late whole at f.start) refl, from)
    where
      b : Names m k f.exponent f.start
      b = record { is = e }

      rest : (verdict (refusals_from whole m (suc n) (f.start + 4 ^ f.exponent) ks) ≡ Ok tt) ↔ Good (f.start + 4 ^ f.exponent) ks
      rest = ih (f.start + 4 ^ f.exponent) (block-lies b).span

      to : Dec (f.start < at) → (t : Bool) → late whole at f.start ≡ t → verdict (refusals_from whole m n at (k ∷ ks)) ≡ Ok tt → Good at (k ∷ ks)
      to (yes l) t d v = absurd (refused-not-passed (sym (step-early whole m n at k ks b l) ∙ v))
      to (no g) true d v = absurd (refused-not-passed (sym (step-late whole m n at k ks b d) ∙ v))
      to (no g) false d v = let l : at ≤ f.start = omega arith in more at k ks f.exponent f.start b l d (rest.0 (sym (step-next whole m n at k ks b l d) ∙ v))

      from : Good at (k ∷ ks) → verdict (refusals_from whole m n at (k ∷ ks)) ≡ Ok tt
      from g =
          let t = some at k ks g in
          let o = one_block b t.2 in
          step-next whole m n at k ks b (rw o.1 t.3) (rw o.1 t.4) ∙ rest.1 (rw (o.0, o.1) t.5)

  passes : (n at : ℕ) (keys : List ℕ) → at ≤ 4 ^ m → (verdict (refusals_from whole m n at keys) ≡ Ok tt) ↔ Good at keys
  passes n at [] l = (λ v. (none at l).0 (to (late whole at (4 ^ m)) refl v), λ g. step-full whole m n at ((none at l).1 g))
    where
      to : (t : Bool) → late whole at (4 ^ m) ≡ t → verdict (refusals_from whole m n at []) ≡ Ok tt → t ≡ false
      to true d v = absurd (refused-not-passed (sym (step-short whole m n at d) ∙ v))
      to false d v = refl
  passes n at (k ∷ ks) l = passes_on n at k ks (form_of m k) refl (λ e h. passes (suc n) e ks h)

-- a whole map
follow : (m n at : ℕ) (keys : List ℕ) → at ≤ 4 ^ m → (verdict (refusals_from true m n at keys) ≡ Ok tt) ↔ Follow m at keys
follow m = passes true m (Follow m) none some more
  where
    none : (at : ℕ) → at ≤ 4 ^ m → (late true at (4 ^ m) ≡ false) ↔ Follow m at []
    none at l = (λ e. let d : at ≡ 4 ^ m = omega (arith, not_late at (4 ^ m) e) in full d, back)
      where
        back : Follow m at [] → late true at (4 ^ m) ≡ false
        back (full e) = late-not true (omega arith)

    some : (at k : ℕ) (ks : List ℕ) → Follow m at (k ∷ ks) → (i : ℕ) × (s : ℕ) × Names m k i s × (at ≤ s) × (late true at s ≡ false) × Follow m (s + 4 ^ i) ks
    some at k ks (next {i = i} b q F) = (i, at, b, omega arith, late-not true (omega arith), rw q at F)

    more : (at k : ℕ) (ks : List ℕ) (i s : ℕ) → Names m k i s → at ≤ s → late true at s ≡ false → Follow m (s + 4 ^ i) ks → Follow m at (k ∷ ks)
    more at k ks i s b l e F = let q : s ≡ at = omega (arith, not_late at s e) in next (rw q at b) (ap (λ (x : ℕ). x + 4 ^ i) q) F

-- a map that may have gaps
pub spaced-records : (m n at : ℕ) (keys : List ℕ) → at ≤ 4 ^ m → (verdict (refusals_from false m n at keys) ≡ Ok tt) ↔ Spaced m at keys
spaced-records m = passes false m (Spaced m) (λ at l. (λ e. ended, λ g. late-never at (4 ^ m))) some (λ at k ks i s b l e F. later l b refl F)
  where
    some : (at k : ℕ) (ks : List ℕ) → Spaced m at (k ∷ ks) → (i : ℕ) × (s : ℕ) × Names m k i s × (at ≤ s) × (late false at s ≡ false) × Spaced m (s + 4 ^ i) ks
    some at k ks (later {i = i} {s = s} l b q F) = (i, s, b, l, late-never at s, rw q at F)

recorded : (whole : Bool) (m : ℕ) (keys : List ℕ) → (verdict (refusals_from whole m 0 0 keys) ≡ Ok tt) ↔ Recorded whole m keys
recorded true m keys = follow m 0 0 keys (omega arith)
recorded false m keys = spaced-records m 0 0 keys (omega arith)

-- a map passes exactly when it is sound
pub sound-map : {whole : Bool} (m : ℕ) (keys : List ℕ) (classes : ℕ) → (verdict (map_refusals_in whole m keys classes) ≡ Ok tt) ↔ SoundIn whole m keys classes
unfolding map_refusals_in
sound-map {whole} m keys classes = (
  λ e. let p = (passed-append _ _).0 e in record { sizes = sized.0 p.0; records = (recorded whole m keys).0 p.1 },
  λ s. (passed-append _ _).1 (sized.1 s.sizes, (recorded whole m keys).1 s.records),
)
