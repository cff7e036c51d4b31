-- Records that follow one another are kept, and nothing is filled.
-- Assumes nothing.
use mathlib.Core.Path.{◌≡◌, refl, sym, ◌∙◌}
use mathlib.Core.List.{List, [], ◌∷◌, ◌++◌, append_assoc, map, map-append, flat_map}
use Prim.Native.Nat.{ℕ, ◌+◌, ◌-◌, ◌*◌, ◌≤◌}
use native.Mathlib.Numerals.{add-one}
use native.Mathlib.Omega.{arith}
use lib.ListN.{length, get_or, drop}
use Rattle.lists.specs.Lists.{up_from}
use Rattle.lists.proofs.Laws.{up_none, up_one, up-append, up-length, flat-map, flat-length}
use Rattle.answers.specs.Cells.{put}
use Rattle.answers.proofs.Laws.{listed-none, listed-beyond}
use Rattle.key.specs.declared.Spot.{Spot}
use Rattle.key.specs.Along.{Stands}
use Rattle.map.specs.Walk.{Row, none, more}
use Rattle.salvage.specs.Salvage.{kept, mends_from, brings, logs, firsts, seconds, cells}
use Rattle.salvage.specs.Making.{Sheet, sheet, KeepsRun, Going}
use Rattle.salvage.proofs.Making.{makes_none, makes-more, makes_kept, firsts-length, seconds-length}
use Rattle.salvage.proofs.Filling.{fills-none}
use Rattle.salvage.proofs.Steps.{step_kept}
use Rattle.salvage.proofs.Mends.{mends-next}

-- ---- writing a run of records

-- the numbers from n up to `end`, one at a time
run-empty : (n : ℕ) → map kept (up_from n (n - n)) ≡ []
run-empty n = let z : n - n ≡ 0 = omega arith in rw (z, up_none n)

run_more : (n i : ℕ) → n ≤ i → map kept (up_from n (i + 1 - n)) ≡ map kept (up_from n (i - n)) ++ (kept i ∷ [])
run_more n i l =
    let z : i + 1 - n ≡ i - n + 1 = omega arith in
    let e : n + (i - n) ≡ i = omega arith in
    rw (z, up-append n (i - n) 1, e, up_one i) (map-append kept (up_from n (i - n)) (i ∷ []))

module _ (keys classes : List ℕ) (n records : ℕ) (K P : List ℕ) where
  pub run-first : KeepsRun keys classes n n records K P K P
  run-first entries L = let z : records + (n - n) ≡ records = omega arith in rw (z, run-empty n) (makes_none keys classes (sheet records entries K P L))

  pub run-next : {i : ℕ} {K' P' K'' P'' : List ℕ} → n ≤ i → KeepsRun keys classes n i records K P K' P'
      → (K'' ≡ put (records + (i - n)) (get_or keys i 0) K') × (P'' ≡ put (records + (i - n)) (get_or classes i 0) P') → KeepsRun keys classes n (i + 1) records K P K'' P''
  run-next {i} {K'} {P'} l R w entries L =
      let z : records + (i + 1 - n) ≡ records + (i - n) + 1 = omega arith in
      rw (z, run_more n i l, w.0, w.1) (makes-more keys classes (R entries L) (makes_kept keys classes (records + (i - n)) entries K' P' L i))

  pub run-last : {i end : ℕ} {K' P' : List ℕ} → i ≡ end → KeepsRun keys classes n i records K P K' P' → KeepsRun keys classes n end records K P K' P'
  run-last e R = rw e at R

  -- each brings one record and no entry
  run-records : (count : ℕ) → length (flat_map (brings keys classes) (map kept (up_from n count))) ≡ count
  unfolding brings
  run-records count =
      rw (flat-map (brings keys classes) kept (up_from n count))
      (flat-length (λ i. brings keys classes (kept i)) 1 (λ i. refl) (up_from n count) ∙ rw (up-length n count) (omega arith))

  run-log : (count : ℕ) → flat_map logs (map kept (up_from n count)) ≡ []
  unfolding logs flat_map
  run-log count = go (up_from n count)
    where
      go : (ns : List ℕ) → flat_map logs (map kept ns) ≡ []
      go [] = refl
      go (i ∷ ns) = go ns

  -- with no room for the first, none is written
  pub run-beyond : (end : ℕ) → length K ≤ records → length P ≤ records → KeepsRun keys classes n end records K P K P
  unfolding cells flat_map
  run-beyond end k p entries L =
      let rs : List (ℕ × ℕ) = flat_map (brings keys classes) (map kept (up_from n (end - n))) in
      let a : records + (end - n) ≡ records + length (firsts rs) = rw (firsts-length rs, run-records (end - n)) in
      let b : records + (end - n) ≡ records + length (seconds rs) = rw (seconds-length rs, run-records (end - n)) in
      record {
        keys-listed = rw a (listed-beyond records (firsts rs) K k);
        classes-listed = rw b (listed-beyond records (seconds rs) P p);
        log-listed = rw (run-log (end - n)) (listed-none (2 * entries) L);
      }

-- ---- a row of records

pub row-onward : {m n at : ℕ} {keys : List ℕ} {next end : ℕ} → Row m keys n at next end → (n ≤ next) × (at ≤ end)
row-onward none = (omega arith, omega arith)
row-onward (more {i = i} R h b e) = let l = row-onward R in (omega (arith, l.0), omega (arith, l.1))

row-mends : {m n at : ℕ} {keys : List ℕ} {next end : ℕ} → Row m keys n at next end
    → mends_from m n at (drop n keys) ≡ map kept (up_from n (next - n)) ++ mends_from m next end (drop next keys)
row-mends {n = n} none = rw (run-empty n)
row-mends {m} {n} {at} {keys = keys} (more {next = next} {end = end} {to = to} R h b e) =
    let s = step_kept m next end (get_or keys next 0) b (omega arith) in
    let k = mends-next m next end keys h in
    row-mends R ∙ rw (run_more n next (row-onward R).0, k, s.0, s.1, fills-none m {a = end} {b = end} (omega arith), add-one next, e)
    (sym (append_assoc (map kept (up_from n (next - n))) (kept next ∷ []) _))

pub going-row : {m n next : ℕ} {keys classes : List ℕ} {a : Sheet} {records entries : ℕ} {K P L K' P' : List ℕ} {s t : Spot}
    → Going m keys classes a (sheet records entries K P L) s n → Row m keys n s.place next t.place → next ≤ length keys → Stands m t
    → KeepsRun keys classes n next records K P K' P' → Going m keys classes a (sheet (records + (next - n)) entries K' P' L) t next
going-row {n = n} {next = next} {keys = keys} {classes = classes} {entries = entries} {L = L} G R h S M = record {
  stands = S;
  within = h;
  past = G.past ++ map kept (up_from n (next - n));
  all = G.all ∙ rw (row-mends R) (sym (append_assoc G.past (map kept (up_from n (next - n))) _));
  makes = makes-more keys classes G.makes (M entries L);
}
