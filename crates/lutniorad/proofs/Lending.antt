-- The viewer's part: when it is answered, by which numbers it is refused, and what an answer promises.
-- Assumes nothing.
use mathlib.Core.Path.{◌≡◌, refl, sym, ap, ◌∙◌}
use mathlib.Core.Logic.{◌↔◌, inl, inr}
use mathlib.Core.Bool.{false, true}
use mathlib.Core.List.{List}
use Prim.Native.Nat.{ℕ, ◌≤◌}
use native.Mathlib.Omega.{arith}
use lib.ListN.{length}
use Rattle.std.specs.Prelude.{Result, Ok, Err}
use Rattle.lists.proofs.Laws.{never}
use Rattle.answers.specs.Refusals.{answer}
use Rattle.answers.specs.After.{after}
use Rattle.key.specs.Form.{form_of}
use Rattle.key.specs.Blocks.{Names, SomeBlock, Among}
use Rattle.map.specs.Spans.{malformed}
use Rattle.map.specs.Sound.{Spaced, SoundIn, SoundMap}
use Rattle.map.specs.Runs.{run_of}
use Rattle.map.proofs.Laws.{spaced, record-at, overlap-is, block-records, some-records, malformed-not}
use Rattle.border.proofs.Laws.{met-run}
use Rattle.overlay.specs.declared.Viewed.{Viewed}
use Rattle.overlay.specs.declared.Viewed.TheVariants as viewed
use Rattle.overlay.specs.declared.Layer.TheVariants.{Neither}
use Rattle.overlay.specs.declared.Unpaired.{Unpaired}
use Rattle.overlay.specs.Overlay.{refuse_of, pairing, block_refusals, records_over, view_of}
use Rattle.overlay.proofs.Laws.{Seen, unpaired, blockless, of_today, of_baseline, view-seen, view-over-is, pairing-passed, part-are}
use Rattle.lutniorad.specs.declared.Answer.{Answer}
use Rattle.lutniorad.specs.declared.Part.{Part}
use Rattle.lutniorad.specs.Numbers.{part, no_part, of_viewed}
use Rattle.lutniorad.specs.Calls.{Check, SparseCheck, OverlayPart}
use Rattle.lutniorad.specs.OverlayPromises.{Overlayable, OverlayRefusals, MeetsBlock, PartOf, OverlayPartPromise}
use Rattle.lutniorad.proofs.Over.{Layers, OnBoth, over-refusals, over-cases, over-other}

-- how it is said
abbrev viewing : Layers (Result Viewed Unpaired) Viewed Part
viewing = record { say = of_viewed; by = no_part; tell = λ v. v; inner = of_viewed; number = λ (x : Part). x.refusal; saying = λ e. refl; telling = λ v. refl; tells = λ map n p. refl }

-- the records of a map that overlap a block, by the run of their numbers
module _ {m : ℕ} {keys : List ℕ} (F : Spaced m 0 keys) {key i s : ℕ} (B : Names m key i s) where
  meets-run : (n : ℕ) → MeetsBlock m keys key n ↔ Among (run_of m keys key).first (run_of m keys key).count n
  meets-run n =
      let M = block-records F B in (
        λ t. let R = record-at F n t.0 in (M.exactly R.is).0 ((overlap-is B R.is.names).0 t.1),
        λ a. let R = record-at F n (omega (arith, a, M.room)) in (R.is.within, (overlap-is B R.is.names).1 ((M.exactly R.is).1 a)),
      )

  part_of : (classes : List ℕ) → length keys ≡ length classes → {r : Part} → r.first ≡ (run_of m keys key).first → r.count ≡ (run_of m keys key).count → ¬ (r.count ≡ 0)
      → PartOf m keys classes key r
  part_of classes same {r} f c d =
      let room = (block-records F B).room in
      record {
        exactly = rw (f, c) meets-run;
        some = omega (arith, d);
        within = omega (arith, f, c, room, same);
        classes-are = rw (f, c, met-run m keys key) (part-are classes (run_of m keys key).first (run_of m keys key).count (omega (arith, room, same)));
      }

module _ (m : ℕ) (keys classes : List ℕ) (base_m : ℕ) (base base_classes : List ℕ) (key : ℕ) {r : Part} (call : OverlayPart m keys classes base_m base base_classes key r) where
  -- what is said where both maps are sound
  data Said : Type 0 where
    none : malformed (form_of m key) ≡ true → r ≡ no_part 0 27 0 → Said
    own : {i s : ℕ} → Names m key i s → r ≡ part 1 (run_of m keys key).first (run_of m keys key).count → ¬ ((run_of m keys key).count ≡ 0) → Said
    under : {i s : ℕ} → Names m key i s → r ≡ part 2 (run_of m base key).first (run_of m base key).count → (run_of m keys key).count ≡ 0 → Said

  said : Overlayable m keys (length classes) base_m base (length base_classes) → Said
  said O = go (view_of m keys (length classes) base_m base (length base_classes) key) refl (view-seen m keys (length classes) base_m base (length base_classes) key)
    where
      passed : pairing m keys (length classes) base_m base (length base_classes) ≡ Ok tt
      passed = (pairing-passed m keys (length classes) base_m base (length base_classes)).1 (O.today, O.baseline, O.same-m)

      numbers : {v : Result Viewed Unpaired} → view_of m keys (length classes) base_m base (length base_classes) key ≡ v → r ≡ of_viewed v
      numbers e = call.answer ∙ ap of_viewed e

      go : (v : Result Viewed Unpaired) → view_of m keys (length classes) base_m base (length base_classes) key ≡ v
          → Seen m keys (length classes) base_m base (length base_classes) key v → Said
      go (Err u) e (unpaired d) = let z = sym passed ∙ d in absurd cc
      go (Err u) e (blockless d h) = none h (numbers e)
      go (Ok (viewed.Today f c)) e (of_today d N a b h) = own N (numbers e ∙ rw (a, b)) (λ z. h (b ∙ z))
      go (Ok (viewed.Baseline f c)) e (of_baseline d N a b h) = under N (numbers e ∙ rw (a, b)) h

  on_both : OnBoth viewing m keys classes base_m base base_classes (tt {0}) (after (answer (refuse_of Neither) (block_refusals m key) (Ok (records_over m keys base key))) (tt {0})) r (tt {0})
  on_both = record {
    outcome = after (view_of m keys (length classes) base_m base (length base_classes) key) (tt {0});
    is = view-over-is m keys (length classes) base_m base (length base_classes) key (tt {0});
    call = call;
  }

  pub overlay-part-refusals : {s t : Answer} → SparseCheck m keys classes s → Check base_m base base_classes t → OverlayRefusals no_part m base_m s t r
  overlay-part-refusals a b = over-refusals on_both a b

  cases : {Goal : Type 0} → ((r.refusal ≤ 5) × (1 ≤ r.refusal) → ¬ Overlayable m keys (length classes) base_m base (length base_classes) → Goal)
      → (r.refusal ≡ 15 → SoundIn false m keys (length classes) → SoundMap base_m base (length base_classes) → ¬ (m ≡ base_m) → Goal)
      → (Overlayable m keys (length classes) base_m base (length base_classes) → Said → Goal) → Goal
  cases first other both =
      over-cases on_both
      (λ l u k. first l u) (λ e S U f k. other e S U f) (λ O. both O (said O))

  number : {a : Part} → r ≡ a → r.refusal ≡ a.refusal
  number e = ap (λ (x : Part). x.refusal) e

  -- answered exactly when both maps are sound and of one m, and the key is that of a block
  pub overlay-part-answered : (r.refusal ≡ 0) ↔ (Overlayable m keys (length classes) base_m base (length base_classes) × SomeBlock m key)
  overlay-part-answered =
      cases (λ l u. (λ z. absurd (omega (arith, l, z)), λ t. absurd (u t.0))) (λ e S U f. (λ z. absurd (omega (arith, e, z)), λ t. absurd (f t.0.same-m))) go
    where
      go : Overlayable m keys (length classes) base_m base (length base_classes) → Said
          → (r.refusal ≡ 0) ↔ (Overlayable m keys (length classes) base_m base (length base_classes) × SomeBlock m key)
      go O (none h e) = (λ z. absurd (omega (arith, z, number e)), λ t. absurd (never (sym h ∙ malformed-not t.1.names)))
      go O (own {i} {s} N e d) = (λ z. (O, record { exponent = i; start = s; names = N }), λ t. number e)
      go O (under {i} {s} N e d) = (λ z. (O, record { exponent = i; start = s; names = N }), λ t. number e)

  -- 27 exactly when they are and it is not
  pub overlay-part-27 : (r.refusal ≡ 27) ↔ (Overlayable m keys (length classes) base_m base (length base_classes) × (malformed (form_of m key) ≡ true))
  overlay-part-27 =
      cases (λ l u. (λ z. absurd (omega (arith, l, z)), λ t. absurd (u t.0))) (λ e S U f. (λ z. absurd (omega (arith, e, z)), λ t. absurd (f t.0.same-m))) go
    where
      go : Overlayable m keys (length classes) base_m base (length base_classes) → Said
          → (r.refusal ≡ 27) ↔ (Overlayable m keys (length classes) base_m base (length base_classes) × (malformed (form_of m key) ≡ true))
      go O (none h e) = (λ z. (O, h), λ t. number e)
      go O (own N e d) = (λ z. absurd (omega (arith, z, number e)), λ t. absurd (never (sym t.1 ∙ malformed-not N)))
      go O (under N e d) = (λ z. absurd (omega (arith, z, number e)), λ t. absurd (never (sym t.1 ∙ malformed-not N)))

  pub overlay-part-15 : (r.refusal ≡ 15) ↔ (SoundIn false m keys (length classes) × SoundMap base_m base (length base_classes) × ¬ (m ≡ base_m))
  overlay-part-15 = cases (λ l u. (λ z. absurd (omega (arith, l, z)), λ t. absurd (omega (arith, l, other t)))) (λ e S U f. (λ z. (S, U, f), λ t. e)) go
    where
      other : SoundIn false m keys (length classes) × SoundMap base_m base (length base_classes) × ¬ (m ≡ base_m) → r.refusal ≡ 15
      other = over-other on_both

      go : Overlayable m keys (length classes) base_m base (length base_classes) → Said
          → (r.refusal ≡ 15) ↔ (SoundIn false m keys (length classes) × SoundMap base_m base (length base_classes) × ¬ (m ≡ base_m))
      go O t = (λ z. absurd (said-not t z), λ u. absurd (u.2 O.same-m))
        where
          said-not : Said → r.refusal ≡ 15 → ⊥
          said-not (none h e) z = omega (arith, number e, z)
          said-not (own N e d) z = omega (arith, number e, z)
          said-not (under N e d) z = omega (arith, number e, z)

  pub overlay-part-numbered : r.refusal ≤ 27
  overlay-part-numbered = cases (λ l u. omega (arith, l)) (λ e S U f. omega (arith, e)) go
    where
      go : Overlayable m keys (length classes) base_m base (length base_classes) → Said → r.refusal ≤ 27
      go O (none h e) = omega (arith, number e)
      go O (own N e d) = omega (arith, number e)
      go O (under N e d) = omega (arith, number e)

  pub overlay-part-promise : r.refusal ≡ 0 → OverlayPartPromise m keys classes base base_classes key r
  overlay-part-promise z = let O = (overlay-part-answered.0 z).0 in go O (said O)
    where
      go : Overlayable m keys (length classes) base_m base (length base_classes) → Said → OverlayPartPromise m keys classes base base_classes key r
      go O (none h e) = absurd (omega (arith, z, number e))
      go O (own N e d) =
          let P = part_of O.today.records N classes O.today.sizes.same (ap (λ (x : Part). x.first) e) (ap (λ (x : Part). x.count) e) (λ y. d (sym (ap (λ (x : Part). x.count) e) ∙ y)) in
          let whose : r.map ≡ 1 = ap (λ (x : Part). x.map) e in
          record {
            whose = (λ w. (r.first, (P.exactly r.first).1 (omega (arith, P.some))), λ t. whose);
            one_of = inl whose;
            today = λ w. P;
            baseline = λ w. absurd (omega (arith, whose, w));
          }
      go O (under N e d) =
          let S = rw (← O.same-m) at O.baseline in
          let c : r.count ≡ (run_of m base key).count = ap (λ (x : Part). x.count) e in
          let P = part_of (spaced S.records) N base_classes S.sizes.same (ap (λ (x : Part). x.first) e) c (λ y. omega (arith, y, c, some-records S.records N)) in
          let whose : r.map ≡ 2 = ap (λ (x : Part). x.map) e in
          record {
            whose = (λ w. absurd (omega (arith, whose, w)), λ t. absurd (omega (arith, (meets-run O.today.records N t.0).0 t.1, d)));
            one_of = inr whose;
            today = λ w. absurd (omega (arith, whose, w));
            baseline = λ w. P;
          }
