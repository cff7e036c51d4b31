-- What is selected from one block: each key is that of a block which lies in a record of the class and in that block; no place is in two of these blocks, and no key comes twice.
-- Assumes nothing.
use mathlib.Core.Path.{◌≡◌, refl, sym, ap, ◌∙◌, subst}
use mathlib.Core.Logic.{◌⊎◌, inl, inr, ◌≢◌}
use mathlib.Core.Bool.{true}
use mathlib.Core.List.Memᴰ
use mathlib.Core.List.{List, Memᴰ}
use Prim.Native.Nat.{ℕ, ◌^◌, ◌<◌}
use native.Mathlib.Decide.{dec_lt}
use native.Mathlib.Omega.{arith}
use lib.ListN.{length, get_or}
use Rattle.lists.specs.Lists.{up_from, keep, Ordered, none, more}
use Rattle.lists.proofs.Laws.{distinct-map, up_in, up-distinct, keep-in, keep-true, in-keep, ordered-keep}
use Rattle.key.specs.Form.{form_of}
use Rattle.key.specs.Blocks.{Names, Among}
use Rattle.key.proofs.Laws.{Covers, Stand, within as lies_in, around as stands-around, after, before, blocks-stand}
use Rattle.map.specs.Spans.{holds}
use Rattle.map.specs.Sound.{Spaced}
use Rattle.map.specs.Records.{record_of}
use Rattle.map.proofs.Laws.{Record, Holder, record-at, record_of_lem, one-holder, keys-rise, holds-is}
use Rattle.select.specs.Select.{inside, selected}
use Rattle.select.proofs.Choices.{around-is, inside_is, Choice, whole, parts, choice}

-- key x, selected from the block of `key`, whose exponent is i and whose span starts at s: it names a block that lies in a record of the class and in that block
pub record SelectedPart (m : ℕ) (keys classes : List ℕ) (class key i s x : ℕ) : Type 0 where
  pub index : ℕ
  pub record-exponent : ℕ
  pub record-start : ℕ
  pub is : Record m keys index record-exponent record-start
  pub has : get_or classes index 0 ≡ class
  pub exponent : ℕ
  pub start : ℕ
  pub names : Names m x exponent start
  pub in-record : Covers record-start (4 ^ record-exponent) start (4 ^ exponent)
  pub in-block : Covers s (4 ^ i) start (4 ^ exponent)
  pub own : (x ≡ key) ⊎ (x ≡ get_or keys index 0)

-- a place of its block is in the record
pub part-record : {m : ℕ} {keys classes : List ℕ} {class key i s x q : ℕ} → Spaced m 0 keys → (P : SelectedPart m keys classes class key i s x)
    → Among P.start (4 ^ P.exponent) q → record_of m keys q ≡ P.index
part-record F P h = record_of_lem F (record { index = P.index; exponent = P.record-exponent; start = P.record-start; is = P.is; has = omega (arith, P.in-record) })

module _ {m : ℕ} {keys : List ℕ} (F : Spaced m 0 keys) (classes : List ℕ) (class : ℕ) {key i s : ℕ} (B : Names m key i s) where
  pub selected-part : {x : ℕ} → Memᴰ x (selected m keys classes class key) → SelectedPart m keys classes class key i s x
  selected-part {x} l = go (choice m keys classes class key)
    where
      go : Choice m keys classes class key → SelectedPart m keys classes class key i s x
      go (whole {n = n} h e d) =
          let R = record-at F n h in
          let a = (around-is classes class B R.is).0 e in
          let o : x ≡ key = Memᴰ.eq_of_singleton (rw d at l) in
          record {
            index = n;
            record-exponent = R.exponent;
            record-start = R.start;
            is = R.is;
            has = a.0;
            exponent = i;
            start = s;
            names = rw o B;
            in-record = a.1;
            in-block = omega arith;
            own = inl o;
          }
      go (parts h d) =
          let t = Memᴰ.of_map (λ (n : ℕ). get_or keys n 0) (keep (inside m keys classes class key) (up_from 0 (length keys))) (rw d at l) in
          let k = (up_in 0 (length keys) t.0).0 (keep-in (inside m keys classes class key) (up_from 0 (length keys)) t.1) in
          let R = record-at F t.0 (omega arith) in
          let a = (inside_is classes class B R.is).0 (keep-true (inside m keys classes class key) (up_from 0 (length keys)) t.1) in
          record {
            index = t.0;
            record-exponent = R.exponent;
            record-start = R.start;
            is = R.is;
            has = a.0;
            exponent = R.exponent;
            start = R.start;
            names = subst (λ (y : ℕ). Names m y R.exponent R.start) t.2 R.is.names;
            in-record = omega arith;
            in-block = a.1;
            own = inr (sym t.2);
          }

  -- where the block and a record of the class share a place, some selected key's block has it
  pub selected-place : {q : ℕ} (H : Holder m keys q) → get_or classes H.index 0 ≡ class → Among s (4 ^ i) q
      → (x : ℕ) × Memᴰ x (selected m keys classes class key) × (holds q (form_of m x) ≡ true)
  selected-place {q} H e h = go (choice m keys classes class key)
    where
      go : Choice m keys classes class key → (x : ℕ) × Memᴰ x (selected m keys classes class key) × (holds q (form_of m x) ≡ true)
      go (whole k a d) = (key, rw d (Memᴰ.head refl), (holds-is q B).1 h)
      go (parts f d) = (get_or keys H.index 0, rw d (Memᴰ.map (λ (n : ℕ). get_or keys n 0) listed), (holds-is q H.is.names).1 H.has)
        where
          stands : {a b : ℕ} → Stand a i s b H.exponent H.start → Covers s (4 ^ i) H.start (4 ^ H.exponent)
          stands (lies_in c k) = c
          stands (stands-around g c k z) = absurd (f H.index H.is.within ((around-is classes class B H.is).1 (e, c)))
          stands (after c k) = absurd (omega (arith, H.has))
          stands (before c k) = absurd (omega (arith, H.has))

          listed : Memᴰ H.index (keep (inside m keys classes class key) (up_from 0 (length keys)))
          listed =
              in-keep (inside m keys classes class key) ((up_in 0 (length keys) H.index).1 (omega (arith, H.is.within)))
              ((inside_is classes class B H.is).1 (e, stands (blocks-stand B H.is.names)))

  -- and one only
  pub selected-one : (q : ℕ) {x y : ℕ} → Memᴰ x (selected m keys classes class key) → Memᴰ y (selected m keys classes class key)
      → holds q (form_of m x) ≡ true → holds q (form_of m y) ≡ true → x ≡ y
  selected-one q {x} {y} l n h k = go (choice m keys classes class key)
    where
      -- a record inside the block, by its key
      found : {z : ℕ} → (t : ℕ) × Memᴰ t (keep (inside m keys classes class key) (up_from 0 (length keys))) × (get_or keys t 0 ≡ z) → holds q (form_of m z) ≡ true → Holder m keys q
      found t e =
          let k = (up_in 0 (length keys) t.0).0 (keep-in (inside m keys classes class key) (up_from 0 (length keys)) t.1) in
          let R = record-at F t.0 (omega arith) in
          record { index = t.0; exponent = R.exponent; start = R.start; is = R.is; has = (holds-is q R.is.names).0 (rw t.2 e) }

      go : Choice m keys classes class key → x ≡ y
      go (whole j a d) = Memᴰ.eq_of_singleton (rw d at l) ∙ sym (Memᴰ.eq_of_singleton (rw d at n))
      go (parts f d) =
          let t = Memᴰ.of_map (λ (n : ℕ). get_or keys n 0) (keep (inside m keys classes class key) (up_from 0 (length keys))) (rw d at l) in
          let u = Memᴰ.of_map (λ (n : ℕ). get_or keys n 0) (keep (inside m keys classes class key) (up_from 0 (length keys))) (rw d at n) in
          let H = found t h in
          let K = found u k in
          sym t.2 ∙ ap (λ (n : ℕ). get_or keys n 0) (one-holder F H.is K.is H.has K.has) ∙ u.2

  -- from one block no key twice
  pub selected-once : Ordered ◌≢◌ (selected m keys classes class key)
  selected-once = go (choice m keys classes class key)
    where
      keys-one : (a b : ℕ) → a < length keys → b < length keys → get_or keys a 0 ≡ get_or keys b 0 → a ≡ b
      keys-one a b l h e = pick (dec_lt a b) (dec_lt b a)
        where
          pick : Dec (a < b) → Dec (b < a) → a ≡ b
          pick (yes g) d = absurd (omega (arith, (keys-rise F).rise a b g h))
          pick (no g) (yes k) = absurd (omega (arith, (keys-rise F).rise b a k l))
          pick (no g) (no k) = omega (arith, g, k)

      below : (n : ℕ) → Memᴰ n (keep (inside m keys classes class key) (up_from 0 (length keys))) → n < length keys
      below n l = omega (arith, (up_in 0 (length keys) n).0 (keep-in (inside m keys classes class key) (up_from 0 (length keys)) l))

      go : Choice m keys classes class key → Ordered ◌≢◌ (selected m keys classes class key)
      go (whole k a d) = rw d (more (λ y l. absurd (Memᴰ.not-nil l)) none)
      go (parts f d) =
          let once = ordered-keep (inside m keys classes class key) (up-distinct 0 (length keys)) in
          rw d (distinct-map (λ (n : ℕ). get_or keys n 0) once (λ a b l n e. keys-one a b (below a l) (below b n) e))
