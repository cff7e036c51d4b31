-- Selecting from one block: what `selected` says over all records is what `picked` does with the run of records that overlap the block. Where the run reaches further than the block,
-- its only record contains it; and otherwise its records lie in the block, and the block in none but itself.
-- Assumes nothing.
use mathlib.Core.Path.{◌≡◌, sym, ap, ◌∙◌}
use mathlib.Core.Bool.{true, false}
use mathlib.Core.List.{List, [], ◌∷◌, map, Memᴰ}
use Prim.Native.Nat.{ℕ, ◌^◌, ◌≤◌, ◌<◌}
use native.Mathlib.Decide.{dec_lt, ℕ_discrete}
use native.Mathlib.Omega.{arith}
use lib.ListN.{length, get_or}
use borrow.Author.Tests.{eqb-true, eq-eqb}
use Rattle.lists.specs.Lists.{up_from, keep}
use Rattle.lists.proofs.Laws.{refuted, agree, up_in, keep-none, keep_same, keep_run}
use Rattle.key.specs.Picture.{Px}
use Rattle.key.specs.Blocks.{Names, Among}
use Rattle.key.proofs.Laws.{Covers, one_key, nested, pow-least}
use Rattle.window.specs.declared.Window.{Window}
use Rattle.window.specs.Window.{Inside}
use Rattle.window.specs.Blocks.{exponent}
use Rattle.window.specs.Keys.{key_of}
use Rattle.window.proofs.Laws.{key-named}
use Rattle.map.specs.declared.Run.{Run}
use Rattle.map.specs.Sound.{Spaced}
use Rattle.map.specs.Runs as runs
use Rattle.map.specs.Runs.{run_of}
use Rattle.map.specs.Classes.{classed}
use Rattle.map.proofs.Laws.{Record, Meets, record-at, block-records, found-around, Alone, reach-least, reach-within, reach-beyond}
use Rattle.pick.specs.Picked.{picked_run, picked}
use Rattle.pick.proofs.Laws.{around-has, around-not, picks-one, picked-around, picked-inside, picked-run}
use Rattle.border.specs.Step.{Corner}
use Rattle.select.specs.Select.{inside, around, selected}
use Rattle.select.proofs.Choices.{around-is, inside_is, selected-whole, selected-parts, Choice, whole, parts as parts-of, choice}

-- ---- what is picked, by cases

-- ---- the law

module _ {m : ℕ} {keys : List ℕ} (F : Spaced m 0 keys) (classes : List ℕ) (class : ℕ) {key i s : ℕ} (B : Names m key i s) where
  abbrev run : Run
  run = run_of m keys key

  meets : Meets m keys i s run.first run.count
  meets = block-records F B

  -- those of the class that lie in the block are of the run
  parts : (n : ℕ) → n < length keys → inside m keys classes class key n ≡ true → (get_or classes n 0 ≡ class) × Among run.first run.count n
  parts n l a =
      let R = record-at F n l in
      let h = (inside_is classes class B R.is).0 a in
      (h.0, (meets.exactly R.is).0 (omega (arith, h.1, pow-least 3 R.exponent)))

  -- one of the class around it is the run
  round : {n : ℕ} → n < length keys → around m keys classes class key n ≡ true
      → (j : ℕ) × (t : ℕ) × Record m keys n j t × (get_or classes n 0 ≡ class) × Covers t (4 ^ j) s (4 ^ i) × (run ≡ runs.run n 1 j)
  round {n} l a =
      let R = record-at F n l in
      let h = (around-is classes class B R.is).0 a in
      (R.exponent, R.start, R.is, h.0, h.1, found-around F B R.is ((nested R.is.names B).0 h.1))

  -- ---- where a record reaches further

  module _ (l : i < run.reach) where
    lone : Alone m keys key i s
    lone = reach-beyond F B l

    only : {n : ℕ} → Among run.first run.count n → n ≡ run.first
    only a = omega (arith, lone.one, a)

    alone-has : get_or classes run.first 0 ≡ class → selected m keys classes class key ≡ key ∷ []
    alone-has d = selected-whole m keys classes class key lone.is.within ((around-is classes class B lone.is).1 (d, lone.around))

    alone-not : ¬ (get_or classes run.first 0 ≡ class) → selected m keys classes class key ≡ []
    alone-not d =
        selected-parts m keys classes class key (λ n h a. let z = round h a in d (rw z.5 z.3))
        ∙ rw (keep-none (inside m keys classes class key) (up_from 0 (length keys)) none)
      where
        none : (n : ℕ) → Memᴰ n (up_from 0 (length keys)) → inside m keys classes class key n ≡ false
        none n h =
            let k = (up_in 0 (length keys) n).0 h in
            refuted (inside m keys classes class key n) (λ a. let p = parts n (omega arith) a in d (rw (only p.1) at p.0))

  -- ---- where the run reaches no further: its records lie in the block

  module _ (e : run.reach ≡ i) where
    -- those of the run that lie in the block and have the class
    inner : map (λ n. get_or keys n 0) (keep (inside m keys classes class key) (up_from 0 (length keys))) ≡ picked_run keys classes class run.first run.count
    inner =
        rw (
          keep_run (inside m keys classes class key) run.first run.count (length keys) meets.room (λ n l a. let h = (parts n l a).1 in (h.least, h.most)),
          keep_same (inside m keys classes class key) (classed classes class) (up_from run.first run.count) among,
        ) (sym (picked-run keys classes class run.first run.count))
      where
        among : (n : ℕ) → Memᴰ n (up_from run.first run.count) → inside m keys classes class key n ≡ classed classes class n
        among n l =
            let k = (up_in run.first run.count n).0 l in
            let R = record-at F n (omega (arith, meets.room)) in
            let t = inside_is classes class B R.is in
            agree _ _ (λ a. eq-eqb _ _ (t.0 a).0, λ a. t.1 (eqb-true _ _ a, reach-within F B e (omega arith) R.is))

    -- one around the block is the block
    own : {n : ℕ} → n < length keys → around m keys classes class key n ≡ true → picked_run keys classes class run.first run.count ≡ key ∷ []
    own {n} l a =
        let z = round l a in
        let d : z.0 ≡ i = sym (ap (λ (r : Run). r.reach) z.5) ∙ e in
        let same : z.1 ≡ s = omega (arith, z.4, ap (λ (x : ℕ). 4 ^ x) d) in
        let k : get_or keys n 0 ≡ key = one_key (rw (d, same) at z.2.names) B in
        rw z.5 (picks-one keys classes class n ∙ around-has classes class (get_or keys n 0) n z.3 ∙ rw k)

    within : selected m keys classes class key ≡ picked_run keys classes class run.first run.count
    within = go (choice m keys classes class key)
      where
        go : Choice m keys classes class key → selected m keys classes class key ≡ picked_run keys classes class run.first run.count
        go (whole l a d) = d ∙ sym (own l a)
        go (parts-of h d) = d ∙ inner

  pub selected-met : selected m keys classes class key ≡ picked keys classes class key i run
  selected-met = go (dec_lt i run.reach) (ℕ_discrete (get_or classes run.first 0) class)
    where
      go : Dec (i < run.reach) → Dec (get_or classes run.first 0 ≡ class) → selected m keys classes class key ≡ picked keys classes class key i run
      go (yes l) (yes d) = alone-has l d ∙ sym (picked-around keys classes class key i run l ∙ around-has classes class key run.first d)
      go (yes l) (no d) = alone-not l d ∙ sym (picked-around keys classes class key i run l ∙ around-not classes class key run.first d)
      go (no h) d = within (omega (arith, reach-least F B)) ∙ sym (picked-inside keys classes class key i run (omega arith))

-- of a maximal block, by the records that overlap it
pub block-selected : {m top : ℕ} {keys : List ℕ} → Spaced m 0 keys → {W : Window} → Inside m W → top ≤ m → {b : Px} → Corner W top b → (classes : List ℕ) (class : ℕ)
    → let key : ℕ = key_of m top W b in
    selected m keys classes class key ≡ picked keys classes class key (exponent W top b) (run_of m keys key)
block-selected F I small C classes class = selected-met F classes class (key-named I small C.inside C.own)
