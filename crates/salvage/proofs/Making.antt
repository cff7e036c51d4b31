-- Mends are made one after another: what each writes, and how many there may be.
-- Assumes nothing.
use mathlib.Core.Path.{◌≡◌, refl, ◌∙◌}
use mathlib.Core.List.{List, [], ◌∷◌, ◌++◌, map-append, flat_map}
use Prim.Native.Nat.{ℕ, ◌+◌, ◌*◌, ◌≤◌}
use native.Mathlib.Omega.{arith}
use lib.ListN.{length, get_or, length-map}
use Rattle.lists.proofs.Laws.{flat_append, flat-length, flat-most}
use Rattle.answers.specs.declared.Cause.{Cause}
use Rattle.answers.specs.declared.Cause.TheVariants.{Gap}
use Rattle.answers.specs.Refusals.{number}
use Rattle.answers.specs.Cells.{overwrite, put, Listed}
use Rattle.answers.proofs.Laws.{listed-none, listed-one, listed_more, listed-all}
use Rattle.map.specs.Classes.{not_seen}
use Rattle.salvage.specs.Salvage.{Mend, kept, dropped, filled, brings, logs, firsts, seconds, cells}
use Rattle.salvage.specs.Making.{Sheet, sheet, Makes}
use Rattle.salvage.specs.Promises.{number_of}

-- ---- pairs

pub firsts-append : (a b : List (ℕ × ℕ)) → firsts (a ++ b) ≡ firsts a ++ firsts b
unfolding firsts
firsts-append a b = map-append (λ (p : ℕ × ℕ). p.0) a b

seconds-append : (a b : List (ℕ × ℕ)) → seconds (a ++ b) ≡ seconds a ++ seconds b
unfolding seconds
seconds-append a b = map-append (λ (p : ℕ × ℕ). p.1) a b

pub cells-none : cells [] ≡ []
unfolding cells flat_map
cells-none = refl

cells-append : (a b : List (ℕ × ℕ)) → cells (a ++ b) ≡ cells a ++ cells b
unfolding cells
cells-append a b = flat_append (λ (p : ℕ × ℕ). p.0 ∷ p.1 ∷ []) a b

pub firsts-length : (ps : List (ℕ × ℕ)) → length (firsts ps) ≡ length ps
unfolding firsts
firsts-length ps = length-map ps (λ (p : ℕ × ℕ). p.0)

pub seconds-length : (ps : List (ℕ × ℕ)) → length (seconds ps) ≡ length ps
unfolding seconds
seconds-length ps = length-map ps (λ (p : ℕ × ℕ). p.1)

pub cells-length : (ps : List (ℕ × ℕ)) → length (cells ps) ≡ 2 * length ps
unfolding cells
cells-length ps = flat-length (λ (p : ℕ × ℕ). p.0 ∷ p.1 ∷ []) 2 (λ p. refl) ps

-- ---- mends

-- each brings at most one record, and at most one entry
brings-one : (keys classes : List ℕ) (e : Mend) → length (brings keys classes e) ≤ 1
unfolding brings
brings-one keys classes (kept n) = omega arith
brings-one keys classes (dropped n cause) = omega arith
brings-one keys classes (filled key) = omega arith

logs-one : (e : Mend) → length (logs e) ≤ 1
unfolding logs
logs-one (kept n) = omega arith
logs-one (dropped n cause) = omega arith
logs-one (filled key) = omega arith

module _ (keys classes : List ℕ) where
  pub makes_none : (a : Sheet) → Makes keys classes [] a a
  unfolding firsts seconds cells flat_map
  makes_none a = record {
    keys-listed = listed-none a.records a.keys;
    classes-listed = listed-none a.records a.classes;
    log-listed = listed-none (2 * a.entries) a.log;
  }

  pub makes-more : {es es' : List Mend} {a b c : Sheet} → Makes keys classes es a b → Makes keys classes es' b c → Makes keys classes (es ++ es') a c
  makes-more {es} {es'} M N =
      let r = flat_append (brings keys classes) es es' in
      let l = flat_append logs es es' in
      record {
        keys-listed = rw (r, firsts-append (flat_map (brings keys classes) es) (flat_map (brings keys classes) es')) (listed_more M.keys-listed N.keys-listed);
        classes-listed = rw (r, seconds-append (flat_map (brings keys classes) es) (flat_map (brings keys classes) es')) (listed_more M.classes-listed N.classes-listed);
        log-listed = rw (l, cells-append (flat_map logs es) (flat_map logs es')) (listed_more M.log-listed N.log-listed);
      }

  module _ (records entries : ℕ) (K C L : List ℕ) where
    -- two cells of the log
    entry : (x y : ℕ) → Listed (2 * entries) (x ∷ y ∷ []) L (2 * (entries + 1)) (put (2 * entries + 1) y (put (2 * entries) x L))
    entry x y =
        let e : 2 * (entries + 1) ≡ 2 * entries + 1 + 1 = omega arith in
        rw e (listed_more (listed-one (2 * entries) x L) (listed-one (2 * entries + 1) y (put (2 * entries) x L)))

    pub makes_kept : (n : ℕ) → Makes keys classes (kept n ∷ []) (sheet records entries K C L)
        (sheet (records + 1) entries (put records (get_or keys n 0) K) (put records (get_or classes n 0) C) L)
    unfolding brings logs firsts seconds cells flat_map
    makes_kept n = record {
      keys-listed = listed-one records (get_or keys n 0) K;
      classes-listed = listed-one records (get_or classes n 0) C;
      log-listed = listed-none (2 * entries) L;
    }

    pub makes-dropped : (n : ℕ) (cause : Cause) → Makes keys classes (dropped n cause ∷ []) (sheet records entries K C L)
        (sheet records (entries + 1) K C (put (2 * entries + 1) (number cause) (put (2 * entries) n L)))
    unfolding brings logs firsts seconds cells flat_map
    makes-dropped n cause = record {
      keys-listed = listed-none records K;
      classes-listed = listed-none records C;
      log-listed = entry n (number cause);
    }

    pub makes-filled : (key : ℕ) → Makes keys classes (filled key ∷ []) (sheet records entries K C L)
        (sheet (records + 1) (entries + 1) (put records key K) (put records not_seen C) (put (2 * entries + 1) (number Gap) (put (2 * entries) key L)))
    unfolding brings logs firsts seconds cells flat_map
    makes-filled key = record {
      keys-listed = listed-one records key K;
      classes-listed = listed-one records not_seen C;
      log-listed = entry key (number Gap);
    }

-- one block that is filled in, and what stands in the cells
pub block-brings : (keys classes : List ℕ) (key : ℕ) → let rs = flat_map (brings keys classes) (filled key ∷ []) in let es = flat_map logs (filled key ∷ []) in
    (firsts rs ≡ key ∷ []) × (seconds rs ≡ not_seen ∷ []) × (cells es ≡ key ∷ number Gap ∷ [])
unfolding brings logs firsts seconds cells flat_map
block-brings keys classes key = (refl, refl, refl)

-- how many there are then
module _ {keys classes : List ℕ} {es : List Mend} {a b : Sheet} (M : Makes keys classes es a b) where
  pub makes-records : b.records ≡ a.records + length (flat_map (brings keys classes) es)
  makes-records = M.keys-listed.count ∙ rw (firsts-length (flat_map (brings keys classes) es))

  pub makes-entries : b.entries ≡ a.entries + length (flat_map logs es)
  makes-entries = omega (arith, M.log-listed.count, cells-length (flat_map logs es))

  pub makes-few : (b.records ≤ a.records + length es) × (b.entries ≤ a.entries + length es)
  makes-few =
      (omega (arith, makes-records, flat-most (brings keys classes) 1 (brings-one keys classes) es), omega (arith, makes-entries, flat-most logs 1 logs-one es))

-- with room for all, they stand in the first cells
pub makes-all : {keys classes : List ℕ} {es : List Mend} {K P L : List ℕ} {b : Sheet} → Makes keys classes es (sheet 0 0 K P L) b
    → length (flat_map (brings keys classes) es) ≤ length K → length (flat_map (brings keys classes) es) ≤ length P → 2 * length (flat_map logs es) ≤ length L
    → (b.keys ≡ overwrite (firsts (flat_map (brings keys classes) es)) K) × (b.classes ≡ overwrite (seconds (flat_map (brings keys classes) es)) P)
    × (b.log ≡ overwrite (cells (flat_map logs es)) L)
makes-all {keys} {classes} {es} M k p l =
    let rs : List (ℕ × ℕ) = flat_map (brings keys classes) es in (
      listed-all M.keys-listed (omega (arith, firsts-length rs)),
      listed-all M.classes-listed (omega (arith, seconds-length rs)),
      listed-all M.log-listed (omega (arith, cells-length (flat_map logs es))),
    )

-- no mend brings an entry that brings no record and is of none
pub logs-most : (keys classes : List ℕ) (es : List Mend) → length (flat_map logs es) ≤ length (flat_map (brings keys classes) es) + length (flat_map number_of es)
unfolding logs brings number_of flat_map
logs-most keys classes [] = omega arith
logs-most keys classes (kept n ∷ es) = omega (arith, logs-most keys classes es)
logs-most keys classes (dropped n cause ∷ es) = omega (arith, logs-most keys classes es)
logs-most keys classes (filled key ∷ es) = omega (arith, logs-most keys classes es)
