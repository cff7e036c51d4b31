-- What salvage promises, from the contract of the call alone; and that it changes nothing in a sound map, so not in one that it has made.
-- Assumes nothing.
use mathlib.Core.Path.{◌≡◌, refl, sym, ap, ◌∙◌}
use mathlib.Core.Logic.{◌↔◌}
use mathlib.Core.Bool.{false}
use mathlib.Core.List.{List, [], ◌∷◌, flat_map}
use Prim.Native.Nat.{ℕ, ◌+◌, ◌*◌, ◌≤◌}
use native.Mathlib.Omega.{arith}
use lib.ListN.{length, take}
use Rattle.std.specs.Prelude.{Ok}
use Rattle.answers.specs.Refusals.{Refusal, answer, verdict, refuse}
use Rattle.answers.specs.Sizes.{SizedIn}
use Rattle.answers.specs.Cells.{overwrite}
use Rattle.answers.specs.After.{After, after, unless}
use Rattle.answers.proofs.Laws.{on-passed, sized-sparse, take-overwrite, overwrite-part}
use Rattle.lists.proofs.Laws.{never}
use Rattle.key.proofs.Laws.{pow-least}
use Rattle.map.specs.Sound.{Follow, full, next, SoundMap}
use Rattle.map.specs.Classes.{not_seen}
use Rattle.salvage.specs.Salvage.{mends, brings, logs, firsts, seconds, cells, salvaged, entries, salvage_refusals}
use Rattle.salvage.specs.Promises.{Salvageable}
use Rattle.salvage.proofs.Laws.{numbered-salvage, salvage-passed, salvage-is, salvaged-is, entries-are}
use Rattle.salvage.proofs.Laws.{firsts-length, seconds-length, cells-none, cells-length, block-brings, mends-are, mends-none, salvaged-follows, salvaged-same, log-empty}
use Rattle.salvage.proofs.Laws.{all-numbers, dropped-malformed, entries-most, dropped-early, fills-least, kept-spaced, filled-makes, filled-least, kept-class, blank-class}
use Rattle.lutniorad.specs.declared.Answer.{Answer}
use Rattle.lutniorad.specs.Numbers.{values, refusing, of_salvaged}
use Rattle.lutniorad.specs.Calls.{Salvage}
use Rattle.lutniorad.specs.SalvagePromises.{SalvagePromise}
use Rattle.lutniorad.proofs.Crossing.{unless-crossed}
use Rattle.lutniorad.proofs.Told.{four, told-most, told-when, told-kept, guarded-says, guarded-kept, guarded-leaves}

-- three lent slices, each by itself
three-slices : {a b c a' b' c' : List ℕ} → ◌≡◌ {A = List ℕ × List ℕ × List ℕ} (a', b', c') (a, b, c) → (a' ≡ a) × (b' ≡ b) × (c' ≡ c)
three-slices e =
    (ap (λ (x : List ℕ × List ℕ × List ℕ). x.0) e, ap (λ (x : List ℕ × List ℕ × List ℕ). x.1) e, ap (λ (x : List ℕ × List ℕ × List ℕ). x.2) e)

no-element : {A : Type 0} {l : List A} → length l ≡ 0 → l ≡ []
no-element {l = []} e = refl
no-element {l = x ∷ l} e = absurd (omega arith)

-- a map without gaps has a record
follow-some : {m : ℕ} {keys : List ℕ} → Follow m 0 keys → 1 ≤ length keys
follow-some {m} (full e) = absurd (omega (arith, pow-least 3 m))
follow-some (next b e F) = omega arith

module _ (m : ℕ) (keys classes K P L : List ℕ) {K' P' L' : List ℕ} {r : Answer} (call : Salvage m keys classes K P L r K' P' L') where
  abbrev refusals : List Refusal
  refusals = salvage_refusals m keys classes (length K) (length P) (length L)

  abbrev rs : List (ℕ × ℕ)
  rs = salvaged m keys classes

  abbrev written : List ℕ × List ℕ × List ℕ
  written = (overwrite (firsts rs) K, overwrite (seconds rs) P, overwrite (cells (entries m keys)) L)

  -- the call in numbers
  mends-it : ◌≡◌ {A = After Answer (List ℕ × List ℕ × List ℕ)} (after r (K', P', L'))
      (unless refusing refusals (K, P, L) (after (values (length rs) (length (entries m keys))) written))
  mends-it = unless-crossed of_salvaged refuse refusals (K, P, L) _ (salvage-is m keys classes K P L) call

  -- the first refusal that holds, or the two numbers; of the lent slices only the lengths count
  pub salvage-says : r ≡ answer refusing (salvage_refusals m keys classes (length K) (length P) (length L)) (values (length rs) (length (entries m keys)))
  salvage-says = guarded-says four refusals (K, P, L) _ mends-it

  pub salvage-numbered : r.refusal ≤ 8
  salvage-numbered = told-most four _ refl (numbered-salvage m keys classes (length K) (length P) (length L)) salvage-says

  pub salvage-answered : (r.refusal ≡ 0) ↔ Salvageable m keys classes (length K) (length P) (length L)
  salvage-answered =
      told-when four _ refl (numbered-salvage m keys classes (length K) (length P) (length L)) salvage-says (salvage-passed m keys classes (length K) (length P) (length L))

  -- with so much room it is, unless the result would have too many records
  pub salvage-enough : SizedIn false m (length keys) (length classes) → length rs ≤ 65536 → 65536 ≤ length K → 65536 ≤ length P
      → 2 * (65536 + length keys) ≤ length L → r.refusal ≡ 0
  salvage-enough s few k p l = salvage-answered.1 (record {
    sizes = s;
    few = few;
    keys-room = omega arith;
    classes-room = omega arith;
    log-room = omega (arith, entries-most m keys classes);
  })

  -- a refused call leaves all three slices as they were
  pub salvage-kept : (r.refusal ≡ 0 → ⊥) → (K' ≡ K) × (P' ≡ P) × (L' ≡ L)
  salvage-kept =
      told-kept four _ refl (numbered-salvage m keys classes (length K) (length P) (length L)) salvage-says
      (λ held. three-slices (guarded-kept four refusals (K, P, L) _ mends-it held))

  module _ (z : r.refusal ≡ 0) where
    able : Salvageable m keys classes (length K) (length P) (length L)
    able = salvage-answered.0 z

    passed : verdict refusals ≡ Ok tt
    passed = (salvage-passed m keys classes (length K) (length P) (length L)).1 able

    said : r ≡ values (length rs) (length (entries m keys))
    said = salvage-says ∙ on-passed refusing refusals _ passed

    left : (K' ≡ overwrite (firsts rs) K) × (P' ≡ overwrite (seconds rs) P) × (L' ≡ overwrite (cells (entries m keys)) L)
    left = three-slices (guarded-leaves four refusals (K, P, L) _ mends-it passed)

    -- the map that stands in the first cells
    mended-keys : take r.first K' ≡ firsts rs
    mended-keys = rw (ap (λ (x : Answer). x.first) said, ← firsts-length rs, left.0) (take-overwrite (firsts rs) K)

    mended-classes : take r.first P' ≡ seconds rs
    mended-classes = rw (ap (λ (x : Answer). x.first) said, ← seconds-length rs, left.1) (take-overwrite (seconds rs) P)

    sound-result : SoundMap m (firsts rs) (length (seconds rs))
    sound-result =
        let F = salvaged-follows m keys classes in
        record {
          sizes = record {
            small = able.sizes.small;
            same = firsts-length rs ∙ sym (seconds-length rs);
            some = λ e. follow-some F;
            most = omega (arith, able.few, firsts-length rs);
          };
          records = F;
        }

    -- the log is empty exactly for a sound map
    sound-log : (length (entries m keys) ≡ 0) ↔ SoundMap m keys (length classes)
    sound-log = (
      λ e.
          let F = (log-empty m keys).0 (no-element e) in
          record { sizes = record { small = able.sizes.small; same = able.sizes.same; some = λ x. follow-some F; most = able.sizes.most }; records = F },
      λ S. ap length ((log-empty m keys).1 S.records),
    )

    pub salvage-promise : SalvagePromise m keys classes K P L (mends m keys) r K' P' L'
    salvage-promise = record {
      done = mends-are m keys;
      numbers = rw (← salvaged-is m keys classes, ← entries-are m keys) said;
      keys-are = rw (← salvaged-is m keys classes) left.0;
      classes-are = rw (← salvaged-is m keys classes) left.1;
      log_is = rw (← entries-are m keys) left.2;
      sound = rw (mended-keys, mended-classes) sound-result;
      each = all-numbers m keys;
      garbled = dropped-malformed m keys;
      early = λ n i s h b. dropped-early m keys h b;
      apart = kept-spaced m keys;
      gaps = filled-makes m keys;
      fewest = λ blocks M. filled-least m keys M;
      each-gap = λ a b h blocks M. fills-least m a b h M;
      class-kept = λ n i s q l b h. rw (mended-keys, mended-classes) (kept-class m keys classes l b h);
      class-blank = λ q l f. rw (mended-keys, mended-classes) (blank-class m keys classes l f);
      unlogged = rw (ap (λ (x : Answer). x.second) said) sound-log;
    }

-- a sound map comes back the same, with an empty log, where there is room for it
pub salvage-sound : (m : ℕ) (keys classes K P L : List ℕ) {K' P' L' : List ℕ} {r : Answer} → Salvage m keys classes K P L r K' P' L' → SoundMap m keys (length classes)
    → length keys ≤ length K → length keys ≤ length P → (r ≡ values (length keys) 0) × (K' ≡ overwrite keys K) × (P' ≡ overwrite classes P) × (L' ≡ L)
salvage-sound m keys classes K P L call S k p =
    let same = salvaged-same m keys classes S.sizes.same S.records in
    let rs : List (ℕ × ℕ) = salvaged m keys classes in
    let q : length rs ≡ length keys = sym (firsts-length rs) ∙ ap length same.0 in
    let e = ap length same.2 in
    let z = (salvage-answered m keys classes K P L call).1 (record {
      sizes = sized-sparse S.sizes;
      few = omega (arith, q, S.sizes.most);
      keys-room = omega (arith, q);
      classes-room = omega (arith, q);
      log-room = omega (arith, e);
    }) in
    let l = left m keys classes K P L call z in
    (said m keys classes K P L call z ∙ rw (q, e), l.0 ∙ rw same.0, l.1 ∙ rw same.1, l.2 ∙ rw (same.2, cells-none) (sym (overwrite-part [] L)))

-- so does a map that salvage has made
pub salvage-again : (m : ℕ) (keys classes K P L : List ℕ) {K' P' L' : List ℕ} {r : Answer} → Salvage m keys classes K P L r K' P' L' → r.refusal ≡ 0
    → (K₂ P₂ L₂ : List ℕ) {K₂' P₂' L₂' : List ℕ} {r₂ : Answer} → Salvage m (take r.first K') (take r.first P') K₂ P₂ L₂ r₂ K₂' P₂' L₂'
    → r.first ≤ length K₂ → r.first ≤ length P₂
    → (r₂ ≡ values r.first 0) × (K₂' ≡ overwrite (take r.first K') K₂) × (P₂' ≡ overwrite (take r.first P') P₂) × (L₂' ≡ L₂)
salvage-again m keys classes K P L {K'} {r = r} call z K₂ P₂ L₂ again k p =
    let n : length (take r.first K') ≡ r.first = ap length (mended-keys m keys classes K P L call z) ∙ firsts-length (salvaged m keys classes)
    ∙ sym (ap (λ (x : Answer). x.first) (said m keys classes K P L call z)) in
    let S = (salvage-promise m keys classes K P L call z).sound in
    let back = salvage-sound m _ _ K₂ P₂ L₂ again S (omega (arith, n)) (omega (arith, n)) in
    (back.0 ∙ rw n, back.1, back.2, back.3)

-- of no record it makes one block, the whole picture, which was not seen
pub salvage-none : (m : ℕ) (K P L : List ℕ) {K' P' L' : List ℕ} {r : Answer} → Salvage m [] [] K P L r K' P' L' → m ≤ 12 → 1 ≤ length K → 1 ≤ length P → 2 ≤ length L
    → (r ≡ values 1 1) × (K' ≡ overwrite (0 ∷ []) K) × (P' ≡ overwrite (not_seen ∷ []) P) × (L' ≡ overwrite (0 ∷ 5 ∷ []) L)
salvage-none m K P L call small k p l =
    let rs = salvaged-is m [] [] ∙ ap (flat_map (brings [] [])) (mends-none m) in
    let es = entries-are m [] ∙ ap (flat_map logs) (mends-none m) in
    let b = block-brings [] [] 0 in
    let q : length (salvaged m [] []) ≡ 1 = sym (firsts-length (salvaged m [] [])) ∙ ap length (ap firsts rs ∙ b.0) in
    let n : length (entries m []) ≡ 1 = omega (arith, cells-length (entries m []), ap length (ap cells es ∙ b.2)) in
    let z = (salvage-answered m [] [] K P L call).1 (record {
      sizes = record { small = small; same = refl; some = λ e. never (sym e); most = omega arith };
      few = omega (arith, q);
      keys-room = omega (arith, q);
      classes-room = omega (arith, q);
      log-room = omega (arith, n);
    }) in
    let w = left m [] [] K P L call z in
    (said m [] [] K P L call z ∙ rw (q, n), w.0 ∙ rw (ap firsts rs ∙ b.0), w.1 ∙ rw (ap seconds rs ∙ b.1), w.2 ∙ rw (ap cells es ∙ b.2))
