-- Calls on today's map over a baseline: a refusal of either map, or of the two together; and behind these what is answered where both are sound.
-- Assumes nothing.
use mathlib.Core.Path.{◌≡◌, refl, sym, ap, ◌∙◌}
use mathlib.Core.Logic.{◌↔◌}
use mathlib.Core.Bool.{Bool, true, false}
use mathlib.Core.List.{List}
use Prim.Native.Nat.{ℕ, ◌≤◌, ◌<◌}
use native.Mathlib.Decide.{dec_lt}
use native.Mathlib.Omega.{arith}
use lib.ListN.{length}
use Rattle.std.specs.Prelude.{Result, Ok, Err}
use Rattle.answers.specs.declared.Refused.{Refused}
use Rattle.answers.specs.Refusals as of
use Rattle.answers.specs.Refusals.{verdict}
use Rattle.answers.specs.After.{After}
use Rattle.answers.proofs.Laws.{on-refused, refused-most, refused-not-passed, number-zero}
use Rattle.map.specs.Check.{map_refusals_in}
use Rattle.map.specs.Sound.{SoundIn, SoundMap}
use Rattle.map.proofs.Laws.{sound-map, numbered-map}
use Rattle.overlay.specs.declared.Unpaired.{Unpaired}
use Rattle.overlay.specs.Overlay.{pairing, over_pair}
use Rattle.overlay.proofs.Laws.{Told, today, baseline, other_m, sound, pairing-told, pairing-passed, today-refused, base-refused, m-refused, behind-refused, behind-passed}
use Rattle.lutniorad.specs.declared.Answer.{Answer}
use Rattle.lutniorad.specs.Numbers.{values, refusing, layer_number}
use Rattle.lutniorad.specs.Calls.{Call, CheckIn, Check, SparseCheck}
use Rattle.lutniorad.specs.OverlayPromises.{Overlayable, OverlayRefusals}
use Rattle.lutniorad.proofs.Answered.{check-says, check-answered}

-- ---- a check by itself

-- it refuses by a number from 1 to 5
module _ (whole : Bool) (m : ℕ) (keys : List ℕ) (classes : ℕ) {f : Refused} (e : verdict (map_refusals_in whole m keys classes) ≡ Err f) where
  map-most : of.number f.cause ≤ 5
  map-most = refused-most (numbered-map (omega arith) whole m keys classes) e

  map-least : 1 ≤ of.number f.cause
  map-least = go (dec_lt 0 (of.number f.cause))
    where
      none : of.number f.cause ≡ 0 → verdict (map_refusals_in whole m keys classes) ≡ Ok tt
      none z =
          (number-zero refusing (λ (x : Answer). x.refusal) (λ c p. refl) {a = values 0 0} (numbered-map {most = 5} (omega arith) whole m keys classes) refl).0
          (ap (λ (x : Answer). x.refusal) (on-refused refusing _ (values 0 0) e) ∙ z)

      go : Dec (0 < of.number f.cause) → 1 ≤ of.number f.cause
      go (yes l) = l
      go (no d) = absurd (refused-not-passed (sym e ∙ none (omega (arith, d))))

-- what it says is its verdict
module _ (whole : Bool) (m : ℕ) (keys classes : List ℕ) {s : Answer} (call : CheckIn whole m keys classes s) where
  check-passed : s.refusal ≡ 0 → verdict (map_refusals_in whole m keys (length classes)) ≡ Ok tt
  check-passed z = (sound-map m keys (length classes)).1 ((check-answered whole m keys classes call).0 z)

  check-refused : (s.refusal ≡ 0 → ⊥) → (f : Refused) × (verdict (map_refusals_in whole m keys (length classes)) ≡ Err f) × (of.number f.cause ≡ s.refusal) × (f.place ≡ s.place)
  check-refused held = go (verdict (map_refusals_in whole m keys (length classes))) refl
    where
      go : (v : Result Unit Refused) → verdict (map_refusals_in whole m keys (length classes)) ≡ v
          → (f : Refused) × (verdict (map_refusals_in whole m keys (length classes)) ≡ Err f) × (of.number f.cause ≡ s.refusal) × (f.place ≡ s.place)
      go (Ok _) e = absurd (held ((check-answered whole m keys classes call).1 ((sound-map m keys (length classes)).0 e)))
      go (Err f) e =
          let says = check-says whole m keys classes call ∙ on-refused refusing _ _ e in
          (f, e, sym (ap (λ (x : Answer). x.refusal) says), sym (ap (λ (x : Answer). x.place) says))

-- ---- a call on both maps

-- how its answers are said, behind the check of both: a refusal by its numbers, with the map that is refused
pub record Layers (A B N : Type 0) : Type 0 where
  pub say : Result B Unpaired → N
  pub by : ℕ → ℕ → ℕ → N
  pub tell : A → Result B Unpaired
  pub inner : A → N
  pub number : N → ℕ
  pub saying : (e : Unpaired) → say (Err e) ≡ by (layer_number e.map) (of.number e.refused.cause) e.refused.place
  pub telling : (a : A) → say (tell a) ≡ inner a
  pub tells : (map n p : ℕ) → number (by map n p) ≡ n

-- a call on both maps that answers x behind their check
pub record OnBoth {A B N S : Type 0} (L : Layers A B N) (m : ℕ) (keys classes : List ℕ) (base_m : ℕ) (base base_classes : List ℕ) (lent : S) (x : After A S) (r : N) (lent' : S) : Type 0 where
  pub outcome : After (Result B Unpaired) S
  pub is : outcome ≡ over_pair L.tell (pairing m keys (length classes) base_m base (length base_classes)) lent x
  pub call : Call L.say outcome r lent'

module _ {A B N S : Type 0} {L : Layers A B N} {m : ℕ} {keys classes : List ℕ} {base_m : ℕ} {base base_classes : List ℕ} {lent : S} {x : After A S} {r : N} {lent' : S}
    (C : OnBoth L m keys classes base_m base base_classes lent x r lent') where
  -- a refusal says which map, and leaves the lent slices as they were
  unlaid : {e : Unpaired} → pairing m keys (length classes) base_m base (length base_classes) ≡ Err e
      → (r ≡ L.by (layer_number e.map) (of.number e.refused.cause) e.refused.place) × (lent' ≡ lent)
  unlaid {e} d =
      let k = C.is ∙ behind-refused _ _ d in
      (C.call.answer ∙ ap (λ (y : After (Result B Unpaired) S). L.say y.answer) k ∙ L.saying e, C.call.cells ∙ ap (λ (y : After (Result B Unpaired) S). y.lent) k)

  refused-number : {e : Unpaired} → pairing m keys (length classes) base_m base (length base_classes) ≡ Err e → L.number r ≡ of.number e.refused.cause
  refused-number {e} d = ap L.number (unlaid d).0 ∙ L.tells (layer_number e.map) (of.number e.refused.cause) e.refused.place

  -- what is answered where both are sound
  pub over-inner : Overlayable m keys (length classes) base_m base (length base_classes) → Call L.inner x r lent'
  over-inner O =
      let d = C.is ∙ behind-passed _ _ ((pairing-passed m keys (length classes) base_m base (length base_classes)).1 (O.today, O.baseline, O.same-m)) in
      record {
        answer = C.call.answer ∙ ap (λ (y : After (Result B Unpaired) S). L.say y.answer) d ∙ L.telling x.answer;
        cells = C.call.cells ∙ ap (λ (y : After (Result B Unpaired) S). y.lent) d;
      }

  -- what the checks of the maps by themselves say comes first
  pub over-refusals : {s t : Answer} → SparseCheck m keys classes s → Check base_m base base_classes t → OverlayRefusals L.by m base_m s t r
  over-refusals {s} {t} a b = record {
    today = λ h.
        let f = check-refused false m keys classes a h in
        (unlaid (today-refused m keys (length classes) base_m base (length base_classes) f.1)).0 ∙ ap (λ n. L.by 1 n f.0.place) f.2 ∙ ap (λ p. L.by 1 s.refusal p) f.3;
    baseline = λ z h.
        let f = check-refused true base_m base base_classes b h in
        (unlaid (base-refused m keys (length classes) base_m base (length base_classes) (check-passed false m keys classes a z) f.1)).0
        ∙ ap (λ n. L.by 2 n f.0.place) f.2 ∙ ap (λ p. L.by 2 t.refusal p) f.3;
    other-m = λ z y d.
        (unlaid (m-refused m keys (length classes) base_m base (length base_classes) (check-passed false m keys classes a z) (check-passed true base_m base base_classes b y) d)).0;
  }

  -- ---- by cases: it is refused by a number from 1 to 5 or by 15, and the lent slices are as they were; or both maps are sound

  pub over-cases : {Goal : Type 0} → ((L.number r ≤ 5) × (1 ≤ L.number r) → ¬ Overlayable m keys (length classes) base_m base (length base_classes) → lent' ≡ lent → Goal)
      → (L.number r ≡ 15 → SoundIn false m keys (length classes) → SoundMap base_m base (length base_classes) → ¬ (m ≡ base_m) → lent' ≡ lent → Goal)
      → (Overlayable m keys (length classes) base_m base (length base_classes) → Goal) → Goal
  over-cases {Goal} first other both = go (pairing m keys (length classes) base_m base (length base_classes)) refl (pairing-told m keys (length classes) base_m base (length base_classes))
    where
      go : (p : Result Unit Unpaired) → pairing m keys (length classes) base_m base (length base_classes) ≡ p → Told m keys (length classes) base_m base (length base_classes) p → Goal
      go (Err u) e (today d) =
          first (omega (arith, refused-number e, map-most false m keys (length classes) d), omega (arith, refused-number e, map-least false m keys (length classes) d))
          (λ O. refused-not-passed (sym d ∙ (sound-map m keys (length classes)).1 O.today)) (unlaid e).1
      go (Err u) e (baseline S d) =
          first (omega (arith, refused-number e, map-most true base_m base (length base_classes) d), omega (arith, refused-number e, map-least true base_m base (length base_classes) d))
          (λ O. refused-not-passed (sym d ∙ (sound-map base_m base (length base_classes)).1 O.baseline)) (unlaid e).1
      go (Err u) e (other_m S U f) = other (refused-number e) S U f (unlaid e).1
      go (Ok w) e (sound S U f) = both (record { today = S; baseline = U; same-m = f })

  -- answered exactly when both maps are sound and of one m, and what is asked behind that
  pub over-answered : {Asked : Type 0} → (Call L.inner x r lent' → (L.number r ≡ 0) ↔ Asked)
      → (L.number r ≡ 0) ↔ (Overlayable m keys (length classes) base_m base (length base_classes) × Asked)
  over-answered {Asked} inner =
      over-cases
      (λ l u k. (λ z. absurd (omega (arith, l, z)), λ t. absurd (u t.0)))
      (λ e S U f k. (λ z. absurd (omega (arith, e, z)), λ t. absurd (f t.0.same-m)))
      (λ O. let w = inner (over-inner O) in (λ z. (O, w.0 z), λ t. w.1 t.1))

  pub over-numbered : {most : ℕ} → 15 ≤ most → (Call L.inner x r lent' → L.number r ≤ most) → L.number r ≤ most
  over-numbered l inner = over-cases (λ h u k. omega (arith, h)) (λ e S U f k. omega (arith, e)) (λ O. inner (over-inner O))

  -- 15 exactly when both are sound and of another m
  pub over-other : SoundIn false m keys (length classes) × SoundMap base_m base (length base_classes) × ¬ (m ≡ base_m) → L.number r ≡ 15
  over-other t =
      refused-number
      (m-refused m keys (length classes) base_m base (length base_classes) ((sound-map m keys (length classes)).1 t.0) ((sound-map base_m base (length base_classes)).1 t.1) t.2)

  pub over-15 : (Call L.inner x r lent' → L.number r ≡ 15 → ⊥)
      → (L.number r ≡ 15) ↔ (SoundIn false m keys (length classes) × SoundMap base_m base (length base_classes) × ¬ (m ≡ base_m))
  over-15 inner =
      over-cases
      (λ l u k. (λ z. absurd (omega (arith, l, z)), λ t. absurd (omega (arith, l, over-other t))))
      (λ e S U f k. ((λ z. (S, U, f)), λ t. e))
      (λ O. (λ z. absurd (inner (over-inner O) z), λ t. absurd (t.2 O.same-m)))

  -- where it is refused: as it was, by a number that is not 8; or what holds of a refusal behind that
  pub over-kept : {Kept : Type 0} → (¬ (L.number r ≡ 8) → lent' ≡ lent → Kept) → (Call L.inner x r lent' → (L.number r ≡ 0 → ⊥) → Kept)
      → (L.number r ≡ 0 → ⊥) → Kept
  over-kept kept inner held =
      over-cases (λ l u k. kept (λ e. omega (arith, l, e)) k) (λ e S U f k. kept (λ d. omega (arith, e, d)) k) (λ O. inner (over-inner O) held)
