-- What adding says of a whole table that 26 lets pass, case by case: so it is never 26, and 16 exactly for a sound map of the table's m and a thousand maps.
-- Assumes nothing.
use mathlib.Core.Path.{◌≡◌, refl, sym, subst, ◌∙◌}
use mathlib.Core.Bool.{Bool, true, false}
use mathlib.Core.List.{List}
use Prim.Native.Nat.{ℕ, ◌≤◌, ◌<◌}
use native.Mathlib.Decide.{dec_lt}
use native.Mathlib.Omega.{arith}
use lib.Dec.{eqb}
use lib.ListN.{length}
use borrow.Author.Tests.{eqb-true, eqb-false}
use Rattle.std.specs.Prelude.{Result, Ok, Err}
use Rattle.answers.specs.declared.Cause.TheVariants.{ShortBorder, OtherM, MonthFull}
use Rattle.answers.specs.declared.Refused.{Refused}
use Rattle.answers.specs.Refusals.{Refusal, number, refuse, verdict}
use Rattle.answers.proofs.Laws.{refused-most, refused-not-passed}
use Rattle.map.specs.Check.{map_refusals}
use Rattle.map.specs.Sound.{SoundMap}
use Rattle.map.proofs.Laws.{sound-map, numbered-map}
use Rattle.month.specs.Month.{m_in, window_in, maps_in, spoiled, table_refusals, add_refusals}
use Rattle.month.specs.Promises.{Sane}
use Rattle.month.proofs.Sanity.{spoiled-sane}
use Rattle.month.proofs.Tables.{table-other, table-full, table-open, add-unsound, add-unfit, add-narrow, add-passes}

pub data Outcome (m : ℕ) (keys : List ℕ) (classes border : ℕ) (table : List ℕ) : Result Unit Refused → Type 0 where
  unsound : {e : Refused} → number e.cause ≤ 5 → ¬ SoundMap m keys classes → Outcome m keys classes border table (Err e)
  other : ¬ (m_in table ≡ m) → Outcome m keys classes border table (refuse OtherM 0)
  full : SoundMap m keys classes → m_in table ≡ m → maps_in table ≡ 1000 → Outcome m keys classes border table (refuse MonthFull 0)
  narrow : {p : ℕ} → maps_in table < 1000 → Outcome m keys classes border table (refuse ShortBorder p)
  taken : maps_in table < 1000 → Outcome m keys classes border table (Ok tt)

module _ (m : ℕ) (keys : List ℕ) (classes border : ℕ) (table : List ℕ) (long : 1030 ≤ length table) (s : Sane (m_in table) table) where
  abbrev vs : List Refusal
  vs = add_refusals m keys classes border table

  -- where the map is sound
  module _ (e : verdict (map_refusals m keys classes) ≡ Ok tt) where
    sound : SoundMap m keys classes
    sound = (sound-map m keys classes).0 e

    -- and of the table's m
    module _ (same : m_in table ≡ m) where
      sane : spoiled m table ≡ false
      sane = (spoiled-sane m table).1 (subst (λ (k : ℕ). Sane k table) same s)

      fit : maps_in table < 1000 → verdict (table_refusals m table) ≡ Ok tt
      fit few = table-open m table long same sane (λ f. omega (arith, few))

      by-border : maps_in table < 1000 → Dec (border < (window_in table).w) → Outcome m keys classes border table (verdict vs)
      by-border few (yes l) = rw (add-narrow m keys classes border table e (fit few) l) (narrow few)
      by-border few (no h) = rw (add-passes m keys classes border table e (fit few) (omega (arith, h))) (taken few)

      by-maps : Dec (maps_in table < 1000) → Outcome m keys classes border table (verdict vs)
      by-maps (yes few) = by-border few (dec_lt border (window_in table).w)
      by-maps (no h) =
          let all : maps_in table ≡ 1000 = omega (arith, h, s.few) in
          rw (add-unfit m keys classes border table e (table-full m table long same sane all)) (full sound same all)

    by_size : (b : Bool) → eqb (m_in table) m ≡ b → Outcome m keys classes border table (verdict vs)
    by_size true d = by-maps (eqb-true (m_in table) m d) (dec_lt (maps_in table) 1000)
    by_size false d =
        let differs = eqb-false (m_in table) m d in
        rw (add-unfit m keys classes border table e (table-other m table long differs)) (other differs)

  pub outcome : Outcome m keys classes border table (verdict (add_refusals m keys classes border table))
  outcome = go (verdict (map_refusals m keys classes)) refl
    where
      go : (v : Result Unit Refused) → verdict (map_refusals m keys classes) ≡ v → Outcome m keys classes border table (verdict vs)
      go (Ok tt) e = by_size e (eqb (m_in table) m) refl
      go (Err r) e =
          let small = refused-most (numbered-map {most = 5} (omega arith) true m keys classes) e in
          rw (add-unsound m keys classes border table e) (unsound small (λ S. refused-not-passed (sym e ∙ (sound-map m keys classes).1 S)))
