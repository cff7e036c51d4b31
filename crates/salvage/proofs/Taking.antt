-- Record n is dropped, or the gap before it is filled: so the loop goes on.
-- Assumes nothing.
use mathlib.Core.Path.{◌≡◌, ap, sym, ◌∙◌}
use mathlib.Core.List.{List, [], ◌∷◌, ◌++◌, append_assoc}
use Prim.Native.Nat.{ℕ, ◌+◌, ◌*◌, ◌≤◌, ◌<◌}
use native.Mathlib.Decide.{dec_lt}
use native.Mathlib.Omega.{arith}
use lib.ListN.{length, get_or, drop, length-append}
use Rattle.std.specs.Prelude.{None}
use Rattle.answers.specs.declared.Cause.{Cause}
use Rattle.answers.specs.Refusals.{number}
use Rattle.answers.specs.Cells.{put}
use Rattle.key.specs.declared.Spot.{Spot}
use Rattle.key.specs.Blocks.{Names}
use Rattle.key.specs.Along.{Stands, ToldFit}
use Rattle.key.proofs.Laws.{fits-other}
use Rattle.salvage.specs.declared.Mending.{Mending}
use Rattle.salvage.specs.declared.Progress.{Progress}
use Rattle.salvage.specs.Salvage.{Mend, kept, dropped, fills, mends_of, reached, mends_from}
use Rattle.salvage.specs.Making.{Sheet, sheet, MakesAny, Countable, Going, MendsNext}
use Rattle.salvage.proofs.Making.{makes-more, makes-dropped}
use Rattle.salvage.proofs.Filling.{fills-none}
use Rattle.salvage.proofs.Steps.{step_kept}
use Rattle.salvage.proofs.Mends.{mends-next}
use Rattle.salvage.proofs.Going.{going_next}

-- ---- dropped

-- one entry more can be counted
pub take-entry : {n records entries : ℕ} {cause : Cause} {es : List Mend} → es ≡ dropped n cause ∷ [] → Countable records entries es → entries < 2147483647
take-entry e C = omega (arith, C.entries-few, ap length e)

going-dropped : {m n : ℕ} {cause : Cause} {keys classes : List ℕ} {a b : Sheet} {s t : Spot} {r e next : ℕ} {L : List ℕ} → Going m keys classes a b s n → n < length keys
    → (mends_of m n s.place (get_or keys n 0) ≡ dropped n cause ∷ []) × (reached m s.place (get_or keys n 0) ≡ s.place)
    → (t ≡ s) × (r ≡ b.records) × (e ≡ b.entries + 1) × (next ≡ n + 1) → L ≡ put (2 * b.entries + 1) (number cause) (put (2 * b.entries) n b.log)
    → Going m keys classes a (sheet r e b.keys b.classes L) t next
going-dropped {n = n} {cause = cause} {keys = keys} {classes = classes} {b = b} {s = s} G h d c l =
    rw (c.0, c.1, c.2, c.3, l)
    (going_next G h {t = s} (sym d.1, G.stands) (rw d.0 (makes-dropped keys classes b.records b.entries b.keys b.classes b.log n cause)))

pub drops : {m n : ℕ} {cause : Cause} {keys : List ℕ} {from : Mending} {K P L L' : List ℕ} {r : Progress} → n < length keys
    → (mends_of m n from.spot.place (get_or keys n 0) ≡ dropped n cause ∷ []) × (reached m from.spot.place (get_or keys n 0) ≡ from.spot.place)
    → (r.now.spot ≡ from.spot) × (r.now.records ≡ from.records) × (r.now.entries ≡ from.entries + 1) × (r.next ≡ n + 1)
    → L' ≡ put (2 * from.entries + 1) (number cause) (put (2 * from.entries) n L) → MendsNext m keys n from K P L r K P L'
drops {cause = cause} h d c l =
    let z = ap (λ (t : Spot). t.place) c.0 in
    record { forward = omega (arith, z); less = omega (arith, z, c.3); goes = λ classes a G. going-dropped {cause = cause} G h d c l }

-- ---- behind a gap that is filled

-- a record that does not start where the walk stands, and not before it, starts later
pub other-later : {m at k i s : ℕ} → ToldFit m at k None → Names m k i s → at ≤ s → at < s
other-later {m} {at} {k} {i} {s} t N l = go (dec_lt at s)
  where
    go : Dec (at < s) → at < s
    go (yes h) = h
    go (no h) = let e : s ≡ at = omega arith in absurd (fits-other t i (rw e at N))

-- with what fills it all can be counted
pub take-fills : (m n at k : ℕ) {i s : ℕ} → Names m k i s → at ≤ s → {records entries : ℕ} → Countable records entries (mends_of m n at k) → Countable records entries (fills m at s)
take-fills m n at k {s = s} N l C =
    let many : length (mends_of m n at k) ≡ length (fills m at s) + 1 = simp length-append at (ap length (step_kept m n at k N l).0) in
    record { records-few = omega (arith, C, many); entries-few = omega (arith, C, many) }

-- what is done from a place on is done when the gap is filled, and then from where the record starts on
gap-first : (m n at : ℕ) (keys : List ℕ) {i s : ℕ} → n < length keys → Names m (get_or keys n 0) i s → at ≤ s
    → mends_from m n at (drop n keys) ≡ fills m at s ++ mends_from m n s (drop n keys)
gap-first m n at keys {s = s} h N l =
    let here = step_kept m n at (get_or keys n 0) N l in
    let there = step_kept m n s (get_or keys n 0) N (omega arith) in
    mends-next m n at keys h
    ∙ rw (here.0, here.1, mends-next m n s keys h, there.0, there.1, fills-none m {a = s} {b = s} (omega arith)) (append_assoc (fills m at s) (kept n ∷ []) _)

pub going-filled : {m n : ℕ} {keys classes : List ℕ} {a b c : Sheet} {s t : Spot} {i to : ℕ} → Going m keys classes a b s n → n < length keys → Names m (get_or keys n 0) i to
    → s.place ≤ to → (t.place ≡ to) × Stands m t → MakesAny (fills m s.place to) b c → Going m keys classes a c t n
going-filled {m} {n} {keys} {classes} {s = s} {t = t} {to = to} G h N l r M = record {
  stands = r.1;
  within = G.within;
  past = G.past ++ fills m s.place to;
  all = G.all ∙ rw (gap-first m n s.place keys h N l, r.0) (sym (append_assoc G.past (fills m s.place to) _));
  makes = makes-more keys classes G.makes (M keys classes);
}
