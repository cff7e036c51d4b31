-- What is promised of the two calls that say why, from the contract of the call alone: when they are answered, by which numbers they are refused, and that what is said is so of the
-- very list that opening gives.
-- Assumes nothing.
use mathlib.Core.Path.{◌≡◌, refl, ap, ◌∙◌}
use mathlib.Core.Logic.{◌↔◌, inl, inr, ⊎_elim}
use mathlib.Core.Bool.{true}
use mathlib.Core.List.{List, ◌++◌, Memᴰ}
use Prim.Native.Nat.{ℕ, ◌*◌, ◌≤◌, ◌<◌}
use native.Mathlib.Omega.{arith}
use lib.ListN.{length, take}
use Rattle.std.specs.Prelude.{Ok}
use Rattle.answers.specs.Refusals.{Refusal, answer, verdict, refuse}
use Rattle.answers.specs.After.{after, unless}
use Rattle.answers.proofs.Laws.{on-passed, passed-append, Numbered, numbered-append}
use Rattle.window.specs.declared.Window.{Window}
use Rattle.window.specs.Promises.{MaximalKey}
use Rattle.window.specs.Keys.{keys_of}
use Rattle.window.proofs.Laws.{key-maximal}
use Rattle.border.specs.Openings.{openings}
use Rattle.border.specs.Promises.{openings_in}
use Rattle.used.specs.Used.{use_refusals, spent}
use Rattle.used.specs.Promises.{Answerable}
use Rattle.used.proofs.Laws.{use-answerable, numbered-use}
use Rattle.why.specs.declared.Why.{Why}
use Rattle.why.specs.Why.{index_refusals, key_refusals, record_said, block_said, why_for}
use Rattle.why.proofs.Laws.{record-alike, record-handed, record-outside, record-either, block-alike, block-opened, block-skipped, block-either}
use Rattle.why.proofs.Laws.{why-is, index-passed, numbered-index, index-19, key-passed, numbered-key, key-22}
use Rattle.lutniorad.specs.declared.Answer.{Answer}
use Rattle.lutniorad.specs.declared.Reason.{Reason}
use Rattle.lutniorad.specs.Numbers.{giving_none, of_why, of_reason}
use Rattle.lutniorad.specs.Calls.{Call, Open, WhyRecord, WhyBlock}
use Rattle.lutniorad.specs.WhyPromises.{WhyRecordPromise, WhyBlockPromise}
use Rattle.lutniorad.proofs.Crossing.{unless-crossed}
use Rattle.lutniorad.proofs.Told.{five, told-most, told-when, told-kept, guarded-says, guarded-kept, guarded-leaves}
use Rattle.lutniorad.proofs.Opening.{open-promise}
use Rattle.lutniorad.proofs.Said.{Back, handed-back, outside-back, opened-back, skipped-back, said-exactly}

-- ---- both: what is said, behind refusals 1 to 7 and one more, which has number k and passes what is asked

record Behind (more : List Refusal) (said : Why) (k : ℕ) (Asked Otherwise : Type 0) : Type 0 where
  clear : (of_reason said).refusal ≡ 0
  large : 7 ≤ k
  numbered : Numbered k more
  passes : (verdict more ≡ Ok tt) ↔ Asked
  given : {rs : List Refusal} (a : Reason) → Numbered 7 rs → a.refusal ≡ 0 → ((answer giving_none (rs ++ more) a).refusal ≡ k) ↔ ((verdict rs ≡ Ok tt) × Otherwise)

module _ {more : List Refusal} {said : Why} {k : ℕ} {Asked Otherwise : Type 0} (B : Behind more said k Asked Otherwise)
    (m : ℕ) (keys classes : List ℕ) (W : Window) (border : List ℕ) {r : Reason} {border' : List ℕ}
    (call : Call of_why (why_for more said m keys (length classes) W border) r border') where
  abbrev uses : List Refusal
  uses = use_refusals m keys (length classes) W (length border)

  abbrev Usual : Type 0
  Usual = Answerable m keys (length classes) W (length border)

  usual : (verdict uses ≡ Ok tt) ↔ Usual
  usual = use-answerable true m keys (length classes) W (length border)

  -- the call in numbers
  explained : after r border' ≡ unless giving_none (uses ++ more) border (after (of_reason said) (spent W border))
  explained = unless-crossed of_why refuse (uses ++ more) border _ (why-is more said m keys (length classes) W border) call

  says : r ≡ answer giving_none (uses ++ more) (of_reason said)
  says = guarded-says five (uses ++ more) border _ explained

  all : Numbered k (uses ++ more)
  all = numbered-append (numbered-use true m keys (length classes) W (length border) B.large) B.numbered

  most : r.refusal ≤ k
  most = told-most five (of_reason said) B.clear all says

  kept : (r.refusal ≡ 0 → ⊥) → border' ≡ border
  kept = told-kept five (of_reason said) B.clear all says (guarded-kept five (uses ++ more) border _ explained)

  passed : (verdict (uses ++ more) ≡ Ok tt) ↔ (Usual × Asked)
  passed = let t = passed-append uses more in (λ e. let x = t.0 e in (usual.0 x.0, B.passes.0 x.1), λ x. t.1 (usual.1 x.0, B.passes.1 x.1))

  answered : (r.refusal ≡ 0) ↔ (Usual × Asked)
  answered = told-when five (of_reason said) B.clear all says passed

  last : (r.refusal ≡ k) ↔ (Usual × Otherwise)
  last =
      let t = B.given (of_reason said) (numbered-use true m keys (length classes) W (length border) {most = 7} (omega arith)) B.clear in
      rw says (λ z. let x = t.0 z in (usual.0 x.0, x.1), λ x. t.1 (usual.1 x.0, x.1))

  leaves : r.refusal ≡ 0 → (r ≡ of_reason said) × (border' ≡ spent W border)
  leaves z = let e = passed.1 (answered.0 z) in (says ∙ on-passed giving_none (uses ++ more) _ e, guarded-leaves five (uses ++ more) border _ explained e)

-- ---- of a record

module _ (m : ℕ) (keys classes : List ℕ) (W : Window) (n : ℕ) (border : List ℕ) {r : Reason} {border' : List ℕ} (call : WhyRecord m keys classes W n border r border') where
  behind : Behind (index_refusals (length keys) n) (record_said m keys W n) 19 (n < length keys) (length keys ≤ n)
  behind = record {
    clear = record-alike m keys W n (λ (a : Why). (of_reason a).refusal) (λ i k. refl) (λ i s. refl);
    large = omega arith;
    numbered = numbered-index (length keys) n;
    passes = index-passed (length keys) n;
    given = λ {rs} a N e. index-19 (length keys) n giving_none (λ (x : Reason). x.refusal) (λ k p. refl) (omega arith) N e;
  }

  -- the first refusal that holds, or what is said; of the border only the length counts
  pub why-record-says : r ≡ answer giving_none (use_refusals m keys (length classes) W (length border) ++ index_refusals (length keys) n) (of_reason (record_said m keys W n))
  why-record-says = says behind m keys classes W border call

  pub why-record-numbered : r.refusal ≤ 19
  why-record-numbered = most behind m keys classes W border call

  pub why-record-answered : (r.refusal ≡ 0) ↔ (Answerable m keys (length classes) W (length border) × (n < length keys))
  why-record-answered = answered behind m keys classes W border call

  -- 19 is given exactly when all else can be answered, and the map has no such record
  pub why-record-19 : (r.refusal ≡ 19) ↔ (Answerable m keys (length classes) W (length border) × (length keys ≤ n))
  why-record-19 = last behind m keys classes W border call

  pub why-record-kept : (r.refusal ≡ 0 → ⊥) → border' ≡ border
  why-record-kept = kept behind m keys classes W border call

  module _ (z : r.refusal ≡ 0) where
    pub why-record-promise : WhyRecordPromise m keys W n (openings m m keys W) border r border'
    why-record-promise =
        let t = why-record-answered.0 z in
        let l = leaves behind m keys classes W border call z in
        let F = t.0.sound.records in
        let I = t.0.inside in
        let e = record-either F I t.1 in
        let b : Back (record_said m keys W n) = ⊎_elim (λ x. rw x.1 (handed-back n x.0)) (λ x. rw x.1 (outside-back n x.0)) e in
        record {
          handed = λ k. said-exactly l.0 b (handed-back n k) (record-handed F I t.1 k);
          outside = λ side. said-exactly l.0 b (outside-back n side) (record-outside F I t.1 side);
          either = ⊎_elim (λ x. inl (x.0, l.0 ∙ ap of_reason x.1, x.2)) (λ x. inr (x.0, l.0 ∙ ap of_reason x.1, x.2)) e;
          border-after = l.1;
        }

-- ---- of a maximal block

module _ (m : ℕ) (keys classes : List ℕ) (W : Window) (key : ℕ) (border : List ℕ) {r : Reason} {border' : List ℕ} (call : WhyBlock m keys classes W key border r border') where
  listed : Memᴰ key (keys_of m m W) ↔ MaximalKey m m W key
  listed = key-maximal m m W key

  behind-keys : Behind (key_refusals m W key) (block_said m keys W key) 22 (MaximalKey m m W key) (¬ MaximalKey m m W key)
  behind-keys = record {
    clear = block-alike m keys W key (λ (a : Why). (of_reason a).refusal) (λ k. refl) (λ i k. refl);
    large = omega arith;
    numbered = numbered-key m W key;
    passes = let t = key-passed m W key in (λ e. listed.0 (t.0 e), λ k. t.1 (listed.1 k));
    given = λ {rs} a N e. let t = key-22 m W key giving_none (λ (x : Reason). x.refusal) (λ k p. refl) (omega arith) N e in
        (λ z. let x = t.0 z in (x.0, λ k. x.1 (listed.1 k)), λ x. t.1 (x.0, λ n. x.1 (listed.0 n)));
  }

  pub why-block-says : r ≡ answer giving_none (use_refusals m keys (length classes) W (length border) ++ key_refusals m W key) (of_reason (block_said m keys W key))
  why-block-says = says behind-keys m keys classes W border call

  pub why-block-numbered : r.refusal ≤ 22
  why-block-numbered = most behind-keys m keys classes W border call

  pub why-block-answered : (r.refusal ≡ 0) ↔ (Answerable m keys (length classes) W (length border) × MaximalKey m m W key)
  why-block-answered = answered behind-keys m keys classes W border call

  -- 22 is given exactly when all else can be answered, and the key is that of no maximal block
  pub why-block-22 : (r.refusal ≡ 22) ↔ (Answerable m keys (length classes) W (length border) × (¬ MaximalKey m m W key))
  why-block-22 = last behind-keys m keys classes W border call

  pub why-block-kept : (r.refusal ≡ 0 → ⊥) → border' ≡ border
  why-block-kept = kept behind-keys m keys classes W border call

  module _ (z : r.refusal ≡ 0) where
    pub why-block-promise : WhyBlockPromise m keys W key (openings m m keys W) border r border'
    why-block-promise =
        let t = why-block-answered.0 z in
        let l = leaves behind-keys m keys classes W border call z in
        let F = t.0.sound.records in
        let I = t.0.inside in
        let n = listed.1 t.1 in
        let e = block-either F I n in
        let b : Back (block_said m keys W key) = ⊎_elim (λ x. rw x.1 (opened-back x.0)) (λ x. rw x.2 (skipped-back x.0 x.1)) e in
        record {
          opened = λ k. said-exactly l.0 b (opened-back k) (block-opened F I n k);
          skipped = λ i k. said-exactly l.0 b (skipped-back i k) (block-skipped F I n i k);
          either = ⊎_elim (λ x. inl (x.0, l.0 ∙ ap of_reason x.1)) (λ x. inr (x.0, x.1, l.0 ∙ ap of_reason x.2)) e;
          border-after = l.1;
        }

-- ---- of the list that stands in the cells of the same window, where opening it is answered

module _ (m : ℕ) (keys classes : List ℕ) (W : Window) (b out : List ℕ) {b' out' : List ℕ} {a : Answer} (opens : Open m keys classes W b out a b' out') (done : a.refusal ≡ 0) where
  list : openings_in (take (3 * a.first) out') ≡ openings m m keys W
  list = (open-promise m m keys classes W b out opens done).states.in_order

  pub why-record-list : (n : ℕ) (border : List ℕ) {r : Reason} {border' : List ℕ} → WhyRecord m keys classes W n border r border' → r.refusal ≡ 0
      → WhyRecordPromise m keys W n (openings_in (take (3 * a.first) out')) border r border'
  why-record-list n border call z = rw list (why-record-promise m keys classes W n border call z)

  pub why-block-list : (key : ℕ) (border : List ℕ) {r : Reason} {border' : List ℕ} → WhyBlock m keys classes W key border r border' → r.refusal ≡ 0
      → WhyBlockPromise m keys W key (openings_in (take (3 * a.first) out')) border r border'
  why-block-list key border call z = rw list (why-block-promise m keys classes W key border call z)
