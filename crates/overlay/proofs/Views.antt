-- The viewer's part: whose records it is of, and which.
-- Assumes nothing.
use mathlib.Core.Path.{◌≡◌, refl, sym, ap, ◌∙◌}
use mathlib.Core.Bool.{true, false}
use mathlib.Core.List.{List, [], ◌∷◌, map}
use Prim.Native.Nat.{ℕ, zero, suc, ◌+◌, ◌^◌, ◌≤◌}
use native.Mathlib.Decide.{ℕ_discrete}
use native.Mathlib.Omega.{arith}
use lib.ListN.{length, get_or, take, drop}
use lib.Seq.{drop-cons}
use borrow.Author.Tests.{eq-eqb, ne_eqb}
use Rattle.lists.specs.Lists.{up_from}
use Rattle.lists.proofs.Laws.{never, up_none, up_next}
use Rattle.std.specs.Prelude.{Option, Some, None, Result, Ok, Err}
use Rattle.std.specs.Result.{is_err}
use Rattle.answers.specs.declared.Refused.{Refused}
use Rattle.answers.specs.declared.Cause.TheVariants.{NoBlock}
use Rattle.answers.specs.Refusals.{answer, refused, verdict}
use Rattle.answers.specs.After.{after}
use Rattle.answers.proofs.Laws.{refusal-held, refusal-clear, answer-none, refused-not-passed}
use Rattle.key.specs.declared.Span.{Span}
use Rattle.key.specs.Form.{form_of}
use Rattle.key.specs.Blocks.{Names, SomeBlock}
use Rattle.map.specs.Spans.{malformed}
use Rattle.map.specs.Check.{map_refusals_in}
use Rattle.map.specs.Sound.{Spaced, ended, later, SoundIn}
use Rattle.map.specs.Runs.{run_of}
use Rattle.map.proofs.Laws.{spaced, sound-map, malformed-not, malformed-is, block-records}
use Rattle.overlay.specs.declared.Layer.TheVariants as layer
use Rattle.overlay.specs.declared.Unpaired.{Unpaired}
use Rattle.overlay.specs.declared.Viewed.{Viewed}
use Rattle.overlay.specs.declared.Viewed.TheVariants.{Today, Baseline}
use Rattle.overlay.specs.Overlay.{of_map, refuse_of, pairing, behind, over_pair, block_refusals, records_over, view_of, part_in}
use Rattle.overlay.proofs.Pairs.{paired, behind-refused, behind-passed}

-- ---- the check of the key alone

module _ (m key : ℕ) where
  alone-sound : m ≤ 12 → {i s : ℕ} → Names m key i s → SoundIn false m (key ∷ []) 1
  alone-sound l {i} {s} b = record {
    sizes = record { small = l; same = refl; some = λ e. never (sym e); most = omega arith };
    records = later {at = 0} {s = s} {end = s + 4 ^ i} (omega arith) b refl ended;
  }

  -- it is passed where it is a block's
  pub alone-block : {r : Result Unit Refused} → r ≡ verdict (map_refusals_in false m (key ∷ []) 1) → is_err r ≡ false → SomeBlock m key
  alone-block {r} is passed = go r is passed
    where
      block : Spaced m 0 (key ∷ []) → SomeBlock m key
      block (later {i = i} {s = s} l n d F) = record { exponent = i; start = s; names = n }

      go : (r : Result Unit Refused) → r ≡ verdict (map_refusals_in false m (key ∷ []) 1) → is_err r ≡ false → SomeBlock m key
      go (Ok u) e h = block ((sound-map m (key ∷ []) 1).0 (sym e)).records
      go (Err f) e h = never h

  -- and only there
  pub alone-malformed : m ≤ 12 → {r : Result Unit Refused} → r ≡ verdict (map_refusals_in false m (key ∷ []) 1) → is_err r ≡ true → malformed (form_of m key) ≡ true
  alone-malformed l {r} is failed = go (form_of m key) refl
    where
      held : (r : Result Unit Refused) → r ≡ verdict (map_refusals_in false m (key ∷ []) 1) → is_err r ≡ true → verdict (map_refusals_in false m (key ∷ []) 1) ≡ Ok tt → ⊥
      held (Ok u) e h p = never (sym h)
      held (Err f) e h p = refused-not-passed (e ∙ p)

      go : (f : Option Span) → form_of m key ≡ f → malformed (form_of m key) ≡ true
      go (Some b) d = absurd (held r is failed ((sound-map m (key ∷ []) 1).1 (alone-sound l (record { is = d }))))
      go None d = malformed-is m key d

-- ---- what is answered, case by case

module _ (m : ℕ) (keys : List ℕ) (classes base_m : ℕ) (base : List ℕ) (base_classes key : ℕ) where
  pub view-refused : {e : Unpaired} → pairing m keys classes base_m base base_classes ≡ Err e → view_of m keys classes base_m base base_classes key ≡ Err e
  unfolding view_of
  view-refused e = behind-refused Err _ e

  module _ (e : pairing m keys classes base_m base base_classes ≡ Ok tt) where
    pub view-none : malformed (form_of m key) ≡ true → view_of m keys classes base_m base base_classes key ≡ refuse_of layer.Neither NoBlock 0
    unfolding view_of block_refusals
    view-none d = behind-passed Err _ e ∙ refusal-held (refuse_of layer.Neither) NoBlock 0 [] _ d

    module _ (B : SomeBlock m key) where
      known : view_of m keys classes base_m base base_classes key ≡ Ok (records_over m keys base key)
      unfolding view_of block_refusals
      known = behind-passed Err _ e ∙ refusal-clear (refuse_of layer.Neither) NoBlock 0 [] _ (malformed-not B.names) ∙ answer-none (refuse_of layer.Neither) _

      pub view-today : ¬ ((run_of m keys key).count ≡ 0) → view_of m keys classes base_m base base_classes key ≡ Ok (Today (run_of m keys key).first (run_of m keys key).count)
      unfolding records_over
      view-today d = known ∙ rw (ne_eqb (run_of m keys key).count 0 d)

      pub view-baseline : (run_of m keys key).count ≡ 0 → view_of m keys classes base_m base base_classes key ≡ Ok (Baseline (run_of m base key).first (run_of m base key).count)
      unfolding records_over
      view-baseline d = known ∙ rw (eq-eqb (run_of m keys key).count 0 d)

  -- it is one of these
  pub data Seen : Result Viewed Unpaired → Type 0 where
    unpaired : {e : Unpaired} → pairing m keys classes base_m base base_classes ≡ Err e → Seen (Err e)
    blockless : pairing m keys classes base_m base base_classes ≡ Ok tt → malformed (form_of m key) ≡ true → Seen (Err (of_map layer.Neither (refused NoBlock 0)))
    of_today : {i s first count : ℕ} → pairing m keys classes base_m base base_classes ≡ Ok tt → Names m key i s → first ≡ (run_of m keys key).first
        → count ≡ (run_of m keys key).count → ¬ (count ≡ 0) → Seen (Ok (Today first count))
    of_baseline : {i s first count : ℕ} → pairing m keys classes base_m base base_classes ≡ Ok tt → Names m key i s → first ≡ (run_of m base key).first
        → count ≡ (run_of m base key).count → (run_of m keys key).count ≡ 0 → Seen (Ok (Baseline first count))

  pub view-seen : Seen (view_of m keys classes base_m base base_classes key)
  view-seen = go (pairing m keys classes base_m base base_classes) refl
    where
      records : (e : pairing m keys classes base_m base base_classes ≡ Ok tt) → SomeBlock m key → Dec ((run_of m keys key).count ≡ 0)
          → Seen (view_of m keys classes base_m base base_classes key)
      records e B (yes d) = rw (view-baseline e B d) (of_baseline e B.names refl refl d)
      records e B (no d) = rw (view-today e B d) (of_today e B.names refl refl d)

      block : pairing m keys classes base_m base base_classes ≡ Ok tt → (f : Option Span) → form_of m key ≡ f → Seen (view_of m keys classes base_m base base_classes key)
      block e (Some b) d = records e (record { exponent = b.exponent; start = b.start; names = record { is = d } }) (ℕ_discrete (run_of m keys key).count 0)
      block e None d = rw (view-none e (malformed-is m key d)) (blockless e (malformed-is m key d))

      go : (p : Result Unit Unpaired) → pairing m keys classes base_m base base_classes ≡ p → Seen (view_of m keys classes base_m base base_classes key)
      go (Ok u) e = block e (form_of m key) refl
      go (Err r) e = rw (view-refused e) (unpaired e)

  -- behind the check of both maps
  pub view-over-is : {S : Type 0} (lent : S) → after (view_of m keys classes base_m base base_classes key) lent
      ≡ over_pair (λ v. v) (pairing m keys classes base_m base base_classes) lent (after (answer (refuse_of layer.Neither) (block_refusals m key) (Ok (records_over m keys base key))) lent)
  unfolding view_of
  view-over-is lent = go (pairing m keys classes base_m base base_classes) refl
    where
      viewing : Result Viewed Unpaired
      viewing = answer (refuse_of layer.Neither) (block_refusals m key) (Ok (records_over m keys base key))

      go : (p : Result Unit Unpaired) → pairing m keys classes base_m base base_classes ≡ p
          → after (behind Err (pairing m keys classes base_m base base_classes) viewing) lent
          ≡ over_pair (λ v. v) (pairing m keys classes base_m base base_classes) lent (after viewing lent)
      go (Ok u) e = ap (λ (v : Result Viewed Unpaired). after v lent) (behind-passed Err viewing e) ∙ sym (behind-passed _ (after viewing lent) e)
      go (Err r) e = ap (λ (v : Result Viewed Unpaired). after v lent) (behind-refused Err viewing e) ∙ sym (behind-refused _ (after viewing lent) e)

  -- the part lies in its slice
  pub view-within : {first count : ℕ} → view_of m keys classes base_m base base_classes key ≡ Ok (Today first count) → first + count ≤ classes
  view-within {first} {count} e = go (rw e at view-seen)
    where
      go : Seen (Ok (Today first count)) → first + count ≤ classes
      go (of_today e n f c d) = let P = paired m keys classes base_m base base_classes e in omega (arith, (block-records P.today n).room, P.classed, f, c)

  pub view-under : {first count : ℕ} → view_of m keys classes base_m base base_classes key ≡ Ok (Baseline first count) → first + count ≤ base_classes
  view-under {first} {count} e = go (rw e at view-seen)
    where
      go : Seen (Ok (Baseline first count)) → first + count ≤ base_classes
      go (of_baseline e n f c d) = let P = paired m keys classes base_m base base_classes e in omega (arith, (block-records (spaced P.under) n).room, P.under_classed, f, c)

-- ---- the classes of a part

pub part-are : (xs : List ℕ) (first count : ℕ) → first + count ≤ length xs → take count (drop first xs) ≡ map (λ n. get_or xs n 0) (up_from first count)
part-are xs first zero l = rw (up_none first)
part-are xs first (suc count) l = rw (drop-cons xs first 0 (omega arith), up_next first count) (ap (λ (ys : List ℕ). get_or xs first 0 ∷ ys) (part-are xs (suc first) count (omega arith)))

module _ (classes base_classes : List ℕ) {v : Result Viewed Unpaired} where
  pub part-today : {first count : ℕ} → v ≡ Ok (Today first count) → part_in classes base_classes v ≡ take count (drop first classes)
  unfolding part_in
  part-today e = rw e

  pub part-baseline : {first count : ℕ} → v ≡ Ok (Baseline first count) → part_in classes base_classes v ≡ take count (drop first base_classes)
  unfolding part_in
  part-baseline e = rw e

  pub part-refused : {e : Unpaired} → v ≡ Err e → part_in classes base_classes v ≡ []
  unfolding part_in
  part-refused e = rw e
