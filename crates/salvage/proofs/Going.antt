-- The loop that mends record after record.
-- Assumes nothing.
use mathlib.Core.Path.{◌≡◌, sym, ap, ◌∙◌}
use mathlib.Core.List.{List, [], ◌++◌, append_assoc, append-nil}
use Prim.Native.Nat.{ℕ, suc, ◌+◌, ◌^◌, ◌≤◌, ◌<◌}
use native.Mathlib.Numerals.{add-one}
use native.Mathlib.Omega.{arith}
use lib.ListN.{length, get_or, drop, length-append}
use Rattle.key.specs.declared.Spot.{Spot}
use Rattle.key.specs.Along.{Stands}
use Rattle.salvage.specs.Salvage.{Mend, fills, mends_of, reached, mends_from, mends, salvaged, entries}
use Rattle.salvage.specs.Making.{Sheet, sheet, Makes, MakesAny, Countable, Going}
use Rattle.salvage.proofs.Making.{makes_none, makes-more, makes-records, makes-entries, makes-few}
use Rattle.salvage.proofs.Mends.{mends-next, mends-last, mends-are, mends-few}

pub going-first : (m : ℕ) (keys classes : List ℕ) (a : Sheet) {s : Spot} → Stands m s → s.place ≡ 0 → Going m keys classes a a s 0
going-first m keys classes a S e = record { stands = S; within = omega arith; past = []; all = rw e; makes = makes_none keys classes a }

-- ---- record n

module _ {m : ℕ} {keys classes : List ℕ} {a b : Sheet} {s : Spot} {n : ℕ} (G : Going m keys classes a b s n) (h : n < length keys) where
  split : mends m keys ≡ G.past ++ (mends_of m n s.place (get_or keys n 0) ++ mends_from m (suc n) (reached m s.place (get_or keys n 0)) (drop (suc n) keys))
  split = G.all ∙ ap (λ (es : List Mend). G.past ++ es) (mends-next m n s.place keys h)

  pub going_next : {c : Sheet} {t : Spot} → (t.place ≡ reached m s.place (get_or keys n 0)) × Stands m t → Makes keys classes (mends_of m n s.place (get_or keys n 0)) b c
      → Going m keys classes a c t (n + 1)
  going_next r M = record {
    stands = r.1;
    within = omega arith;
    past = G.past ++ mends_of m n s.place (get_or keys n 0);
    all = split ∙ rw (r.0, add-one) (sym (append_assoc G.past _ _));
    makes = makes-more keys classes G.makes M;
  }

-- ---- behind the last

module _ {m : ℕ} {keys classes : List ℕ} {a b : Sheet} {s : Spot} {n : ℕ} (G : Going m keys classes a b s n) (h : length keys ≤ n) where
  rest : mends m keys ≡ G.past ++ fills m s.place (4 ^ m)
  rest = G.all ∙ ap (λ (es : List Mend). G.past ++ es) (mends-last m n s.place keys h)

  pub going-last : {c : Sheet} → MakesAny (fills m s.place (4 ^ m)) b c → Makes keys classes (mends m keys) a c
  going-last M = rw rest (makes-more keys classes G.makes (M keys classes))

-- ---- how many there are

module _ {m : ℕ} {keys classes K P L : List ℕ} {b : Sheet} {s : Spot} {n : ℕ} (G : Going m keys classes (sheet 0 0 K P L) b s n) (small : m ≤ 12) (most : length keys ≤ 65536) where
  -- what is to come can be counted
  counted : {es : List Mend} (es' : List Mend) → mends m keys ≡ G.past ++ (es ++ es') → Countable b.records b.entries es
  counted {es} es' e =
      let all = mends-few small (omega arith) (mends-are m keys) in
      let n = simp length-append at (ap length e) in
      let few = makes-few G.makes in
      record { records-few = omega (arith, all, n, few.0); entries-few = omega (arith, all, n, few.1) }

  pub going-counted : n < length keys → Countable b.records b.entries (mends_of m n s.place (get_or keys n 0))
  going-counted h = counted _ (split G h)

  pub going-rest : length keys ≤ n → Countable b.records b.entries (fills m s.place (4 ^ m))
  going-rest h = counted [] (rest G h ∙ ap (λ (es : List Mend). G.past ++ es) (sym (append-nil (fills m s.place (4 ^ m)))))

  pub going-records : b.records + length keys ≤ 2147483647
  going-records =
      let n = simp length-append at (ap length G.all) in
      omega (arith, mends-few small (omega arith) (mends-are m keys), n, (makes-few G.makes).0)

-- how many there are of all
module _ (m : ℕ) {keys classes K P L : List ℕ} {b : Sheet} (M : Makes keys classes (mends m keys) (sheet 0 0 K P L) b) where
  pub all-counted : (b.records ≡ length (salvaged m keys classes)) × (b.entries ≡ length (entries m keys))
  unfolding salvaged entries
  all-counted = (omega (arith, makes-records M), omega (arith, makes-entries M))

  pub all-few : m ≤ 12 → length keys ≤ 65536 → b.entries ≤ 2147483647
  all-few small most = omega (arith, mends-few small (omega arith) (mends-are m keys), (makes-few M).1)
