-- Places in no record, by the test.
-- Assumes nothing.
use mathlib.Core.Path.{◌≡◌, ◌∙◌}
use mathlib.Core.Bool.{Bool, true, false, cond}
use mathlib.Core.List.Memᴰ
use mathlib.Core.List.{List, [], ◌∷◌}
use Prim.Native.Nat.{ℕ, suc, ◌+◌, ◌^◌, ◌<◌}
use native.Mathlib.Omega.{arith}
use lib.Dec.{eqb}
use lib.ListN.{length}
use borrow.Author.Tests.{eqb-true, eq-eqb, ne_eqb}
use Rattle.lists.specs.Lists.{before}
use Rattle.lists.proofs.Laws.{refuted, agree, only, before-taken, before-none, before-append}
use Rattle.key.specs.Form.{form_of}
use Rattle.key.specs.Blocks.{Names, Among}
use Rattle.key.proofs.Laws.{pow-least}
use Rattle.map.specs.Spans.{holds}
use Rattle.map.specs.Sound.{Spaced, ended, later}
use Rattle.map.specs.Records.{record_of}
use Rattle.map.specs.Promises.{is_free}
use Rattle.map.proofs.Tiles.{Record, Holder, Free}
use Rattle.map.proofs.Tests.{holds-is}
use Rattle.map.proofs.Holding.{record_of_lem, record-none}

-- ---- of a map

module _ {m : ℕ} {keys : List ℕ} (F : Spaced m 0 keys) where
  pub is_free_lem : {q : ℕ} → Free m keys q → is_free m keys q ≡ true
  unfolding is_free
  is_free_lem f = eq-eqb _ _ (record-none F f)

  pub unfree : {n i s q : ℕ} → Record m keys n i s → Among s (4 ^ i) q → is_free m keys q ≡ false
  unfolding is_free
  unfree {n} {i} {s} {q} R h =
      let H : Holder m keys q = record { index = n; exponent = i; start = s; is = R; has = h } in
      refuted _ (λ e. let d : record_of m keys q ≡ length keys = eqb-true _ _ e in omega (arith, record_of_lem F H, R.within))

-- ---- record by record

pub free-none : (m q : ℕ) → is_free m [] q ≡ true
unfolding is_free record_of
free-none m q = eq-eqb _ 0 (before-none (λ x. holds q (form_of m x)) [] (λ x l. absurd (Memᴰ.not-nil l)))

next-same : (a b : ℕ) → eqb (1 + a) (suc b) ≡ eqb a b
next-same a b = agree _ _ (λ e. let d = eqb-true (1 + a) (suc b) e in eq-eqb a b (omega arith), λ e. let d = eqb-true a b e in eq-eqb (1 + a) (suc b) (omega arith))

module _ (m k : ℕ) (ks : List ℕ) (q : ℕ) where
  free-cons : (b : Bool) → holds q (form_of m k) ≡ b → is_free m (k ∷ ks) q ≡ cond b false (is_free m ks q)
  unfolding is_free record_of
  free-cons true e = rw (before-taken (λ x. holds q (form_of m x)) ks e) (ne_eqb 0 (suc (length ks)) (λ d. omega arith))
  free-cons false e = rw (before-append (λ x. holds q (form_of m x)) (k ∷ []) ks (λ x l. rw (only l) e)) (next-same (before (λ x. holds q (form_of m x)) ks) (length ks))

  module _ {i s : ℕ} (b : Names m k i s) where
    pub free-held : Among s (4 ^ i) q → is_free m (k ∷ ks) q ≡ false
    free-held h = free-cons true ((holds-is q b).1 h)

    pub free-past : ¬ Among s (4 ^ i) q → is_free m (k ∷ ks) q ≡ is_free m ks q
    free-past n = free-cons false (refuted _ (λ e. n ((holds-is q b).0 e)))

-- before the first record
pub free-ahead : {m at q : ℕ} {keys : List ℕ} → Spaced m at keys → q < at → is_free m keys q ≡ true
free-ahead {m} {q = q} ended l = free-none m q
free-ahead {m} {q = q} (later {k = k} {i = i} {ks = ks} h b e F) l = free-past m k ks q b (λ a. omega arith) ∙ free-ahead F (omega (arith, pow-least 3 i))
