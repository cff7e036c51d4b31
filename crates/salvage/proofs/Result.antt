-- The result of salvage is a map without gaps; and a map without gaps comes back the same, with an empty log.
-- Assumes nothing.
use mathlib.Core.Path.{◌≡◌, refl, ap, ◌∙◌}
use mathlib.Core.Logic.{◌↔◌}
use mathlib.Core.List.{List, [], ◌∷◌, ◌++◌, append-nil, map, flat_map}
use Prim.Native.Nat.{ℕ, zero, suc, ◌+◌, ◌^◌, ◌≤◌, ◌<◌}
use native.Mathlib.Decide.{dec_lt}
use native.Mathlib.Omega.{arith}
use lib.ListN.{length, get_or, drop, length-append, length-map, drop_of_length-le}
use lib.Seq.{drop-cons}
use Rattle.lists.proofs.Laws.{flat_append}
use Rattle.answers.specs.declared.Cause.TheVariants.{Gap}
use Rattle.answers.specs.Refusals.{number}
use Rattle.key.specs.Blocks.{Names}
use Rattle.key.proofs.Laws.{no_names, one_block, block-lies, pow-least}
use Rattle.map.specs.Sound.{Follow, full, next}
use Rattle.map.specs.Classes.{not_seen}
use Rattle.stretch.specs.Sets.{exponent_in, between}
use Rattle.stretch.specs.Fewest.{stretch}
use Rattle.stretch.proofs.Laws.{stretch-none, stretch-next, next-room, next-named}
use Rattle.salvage.specs.Salvage.{Mend, kept, filled, fills, brings, logs, firsts, seconds, salvaged, entries}
use Rattle.salvage.specs.Promises.{Mends, ends, garbled, early, keeps}
use Rattle.salvage.proofs.Making.{firsts-append}
use Rattle.salvage.proofs.Filling.{fills-none}
use Rattle.salvage.proofs.Mends.{mends-are}

-- ---- blocks that fill a gap

-- what each brings, one after another
pub fills-each : {B : Type 0} (f : Mend → List B) (g : ℕ → B) → ((k : ℕ) → f (filled k) ≡ g k ∷ []) → (m a b : ℕ) → flat_map f (fills m a b) ≡ map g (stretch m a b)
unfolding fills flat_map
fills-each f g h m a b = go (stretch m a b)
  where
    go : (ks : List ℕ) → flat_map f (map filled ks) ≡ map g ks
    go [] = refl
    go (k ∷ ks) = rw (h k, go ks)

-- or nothing at all
pub fills-nothing : {B : Type 0} (f : Mend → List B) → ((k : ℕ) → f (filled k) ≡ []) → (m a b : ℕ) → flat_map f (fills m a b) ≡ []
unfolding fills flat_map
fills-nothing f h m a b = go (stretch m a b)
  where
    go : (ks : List ℕ) → flat_map f (map filled ks) ≡ []
    go [] = refl
    go (k ∷ ks) = rw (h k, go ks)

-- and a gap that is filled before a record
pub keeps-each : {B : Type 0} (f : Mend → List B) (m a b n : ℕ) (es : List Mend) → flat_map f (fills m a b ++ kept n ∷ es) ≡ flat_map f (fills m a b) ++ (f (kept n) ++ flat_map f es)
unfolding flat_map
keeps-each f m a b n es = flat_append f (fills m a b) (kept n ∷ es)

firsts-pairs : (ks : List ℕ) → firsts (map (λ k. (k, not_seen)) ks) ≡ ks
unfolding firsts
firsts-pairs [] = refl
firsts-pairs (k ∷ ks) = ap (λ (l : List ℕ). k ∷ l) (firsts-pairs ks)

-- they follow one another over the gap
module _ (m b : ℕ) (h : b ≤ 4 ^ m) {ks : List ℕ} (F : Follow m b ks) where
  filled-up : {a : ℕ} → a ≡ b → Follow m a (stretch m a b ++ ks)
  filled-up {a} e = rw (stretch-none m {a = a} {b = b} (omega arith), e) F

  over : (n a : ℕ) → a ≤ b → b ≤ a + n → Follow m a (stretch m a b ++ ks)
  over zero a l r = filled-up (omega arith)
  over (suc n) a l r = go (dec_lt a b) (over n)
    where
      go : Dec (a < b) → ((c : ℕ) → c ≤ b → b ≤ c + n → Follow m c (stretch m c b ++ ks)) → Follow m a (stretch m a b ++ ks)
      go (no d) ih = filled-up (omega arith)
      go (yes d) ih =
          let e : ℕ = exponent_in m (between a b) a in
          rw (stretch-next m d) (next (next-named m d h) refl (ih (a + 4 ^ e) (next-room m d) (omega (arith, pow-least 3 e))))

  stretch-follows : (a : ℕ) → a ≤ b → Follow m a (stretch m a b ++ ks)
  stretch-follows a l = over b a l (omega arith)

-- ---- the keys of the result

module _ (m : ℕ) (keys classes : List ℕ) where
  fills-keys : (a b : ℕ) → firsts (flat_map (brings keys classes) (fills m a b)) ≡ stretch m a b
  unfolding brings
  fills-keys a b = rw (fills-each (brings keys classes) (λ k. (k, not_seen)) (λ k. refl) m a b) (firsts-pairs (stretch m a b))

  keeps_keys : (a b n : ℕ) (es : List Mend) → firsts (flat_map (brings keys classes) (fills m a b ++ kept n ∷ es))
      ≡ stretch m a b ++ get_or keys n 0 ∷ firsts (flat_map (brings keys classes) es)
  unfolding brings firsts
  keeps_keys a b n es =
      rw (
        keeps-each (brings keys classes) m a b n es,
        firsts-append (flat_map (brings keys classes) (fills m a b)) (brings keys classes (kept n) ++ flat_map (brings keys classes) es),
        fills-keys a b,
      )

  result-follows : {n at : ℕ} {es : List Mend} → at ≤ 4 ^ m → Mends m keys n at es → Follow m at (firsts (flat_map (brings keys classes) es))
  unfolding brings flat_map
  result-follows {at = at} l (ends e) = rw (fills-keys at (4 ^ m), ← append-nil (stretch m at (4 ^ m))) (stretch-follows m (4 ^ m) (omega arith) (full refl) at l)
  result-follows l (garbled h e M) = result-follows l M
  result-follows l (early h b d M) = result-follows l M
  result-follows {n} {at} l (keeps {i = i} {s = s} {end = end} {es = es} h b g e M) =
      let u = (block-lies b).span in
      rw (keeps_keys at s n es) (stretch-follows m s (omega (arith, pow-least 3 i)) (next b e (result-follows (omega arith) M)) at g)

-- ---- a map without gaps

follow-end : {m at : ℕ} → Follow m at [] → 4 ^ m ≤ at
follow-end (full e) = omega arith

-- its first record
module _ {m at k : ℕ} {ks : List ℕ} where
  head-named : Follow m at (k ∷ ks) → (i : ℕ) × Names m k i at × Follow m (at + 4 ^ i) ks
  head-named (next {i = i} b e F) = (i, b, rw e at F)

-- every record is kept, and nothing is filled
module _ (m : ℕ) (keys classes : List ℕ) (same : length keys ≡ length classes) where
  -- what becomes of the records from n on
  record Same (n : ℕ) (es : List Mend) : Type 0 where
    keys-same : firsts (flat_map (brings keys classes) es) ≡ drop n keys
    classes-same : seconds (flat_map (brings keys classes) es) ≡ drop n classes
    log-empty : flat_map logs es ≡ []

  all-kept : {n at : ℕ} {es : List Mend} → Follow m at (drop n keys) → Mends m keys n at es → Same n es
  unfolding brings logs firsts seconds flat_map
  all-kept {n} {at} F (ends e) =
      let none = fills-none m {a = at} {b = 4 ^ m} (follow-end (rw (drop_of_length-le keys {i = n} (omega arith)) at F)) in
      let k = drop_of_length-le keys {i = n} (omega arith) in
      let c = drop_of_length-le classes {i = n} (omega arith) in
      record { keys-same = rw (none, k); classes-same = rw (none, c); log-empty = rw none }
  all-kept {n} {at} F (garbled h e M) =
      let H = head-named (rw (drop-cons keys n 0 h) at F) in
      absurd (no_names e H.1)
  all-kept {n} {at} F (early h b d M) =
      let H = head-named (rw (drop-cons keys n 0 h) at F) in
      absurd (omega (arith, (one_block b H.1).1))
  all-kept {n} {at} F (keeps {i = i} {s = s} {end = end} {es = es} h b g e M) =
      let H = head-named (rw (drop-cons keys n 0 h) at F) in
      let o = one_block b H.1 in
      let to : end ≡ at + 4 ^ H.0 = e ∙ rw (o.0, o.1) in
      let none = fills-none m {a = at} {b = s} (omega (arith, o.1)) in
      let R = all-kept (rw (← to) at H.2) M in
      let k = drop-cons keys n 0 h in
      let c = drop-cons classes n 0 (omega (arith, h, same)) in
      record { keys-same = rw (none, k, R.keys-same); classes-same = rw (none, c, R.classes-same); log-empty = rw (none, R.log-empty) }

-- ---- an empty log

-- a gap that nothing fills is none
no_gap : (m : ℕ) {a b : ℕ} → a ≤ b → length (stretch m a b) ≡ 0 → a ≡ b
no_gap m {a} {b} l z = go (dec_lt a b)
  where
    go : Dec (a < b) → a ≡ b
    go (yes h) = absurd (omega (arith, z, ap length (stretch-next m h)))
    go (no h) = omega arith

module _ (m : ℕ) (keys : List ℕ) where
  fills-logs : (a b : ℕ) → length (flat_map logs (fills m a b)) ≡ length (stretch m a b)
  unfolding logs
  fills-logs a b = ap length (fills-each logs (λ k. (k, number Gap)) (λ k. refl) m a b) ∙ length-map (stretch m a b) (λ k. (k, number Gap))

  unlogged : {n at : ℕ} {es : List Mend} → at ≤ 4 ^ m → Mends m keys n at es → length (flat_map logs es) ≡ 0 → Follow m at (drop n keys)
  unfolding logs flat_map
  unlogged {n} {at} l (ends e) z = rw (drop_of_length-le keys {i = n} (omega arith)) (full (no_gap m l (omega (arith, z, fills-logs at (4 ^ m)))))
  unlogged l (garbled h e M) z = absurd (omega arith)
  unlogged l (early h b d M) z = absurd (omega arith)
  unlogged {n} {at} l (keeps {i = i} {s = s} {end = end} {es = es} h b g e M) z =
      let k = ap length (keeps-each logs m at s n es) ∙ length-append (flat_map logs (fills m at s)) (flat_map logs es) in
      let none = no_gap m g (omega (arith, z, k, fills-logs at s)) in
      let rest = unlogged (omega (arith, (block-lies b).span)) M (omega (arith, z, k)) in
      let own : Names m (get_or keys n 0) i at = rw none b in
      rw (drop-cons keys n 0 h) (next {end = end} own (omega (arith, e)) rest)

-- ---- of the whole map

pub salvaged-follows : (m : ℕ) (keys classes : List ℕ) → Follow m 0 (firsts (salvaged m keys classes))
unfolding salvaged
salvaged-follows m keys classes = result-follows m keys classes (omega arith) (mends-are m keys)

pub salvaged-same : (m : ℕ) (keys classes : List ℕ) → length keys ≡ length classes → Follow m 0 keys
    → (firsts (salvaged m keys classes) ≡ keys) × (seconds (salvaged m keys classes) ≡ classes) × (entries m keys ≡ [])
unfolding salvaged entries
salvaged-same m keys classes same F = let S = all-kept m keys classes same F (mends-are m keys) in (S.keys-same, S.classes-same, S.log-empty)

-- the log is empty exactly for a map without gaps
pub log-empty : (m : ℕ) (keys : List ℕ) → (entries m keys ≡ []) ↔ Follow m 0 keys
unfolding entries
log-empty m keys = (λ e. unlogged m keys (omega arith) (mends-are m keys) (ap length e), λ F. (salvaged-same m keys keys refl F).2)
