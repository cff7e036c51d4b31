-- The refusals of adding, test by test, and what they pass.
-- Assumes nothing.
use mathlib.Core.Path.{◌≡◌, refl, ◌∙◌}
use mathlib.Core.Logic.{◌↔◌}
use mathlib.Core.Bool.{Bool, true, false, not}
use mathlib.Core.List.{List, [], ◌∷◌}
use Prim.Native.Nat.{ℕ, ◌≤◌, ◌<◌}
use native.Mathlib.Omega.{arith}
use lib.Dec.{eqb}
use lib.ListN.{length}
use borrow.Author.Tests.{eq-eqb, ne_eqb, eqb-true, eqb-false, not-false}
use Rattle.std.specs.Prelude.{Ok, Err}
use Rattle.answers.specs.declared.Cause.TheVariants.{ShortBorder, ShortRoom, OtherM, MonthFull, BadTable}
use Rattle.answers.specs.declared.Refused.{Refused}
use Rattle.answers.specs.Refusals.{Refusal, refusal, refuse, verdict}
use Rattle.answers.specs.After.{room_refusals}
use Rattle.answers.proofs.Laws.{answer-none, refusal-held, refusal-clear, append-passed, append-refused, passed-append, passed-next, room-passed, room-refused}
use Rattle.answers.proofs.Laws.{Numbered, none, numbered_next, numbered-append, numbered-room}
use Rattle.map.specs.Check.{map_refusals}
use Rattle.map.proofs.Laws.{sound-map, numbered-map}
use Rattle.used.specs.Used.{border_refusals}
use Rattle.used.proofs.Laws.{border-passed, border-refused, numbered-border}
use Rattle.month.specs.Month.{m_in, window_in, maps_in, spoiled, table_refusals, add_refusals}
use Rattle.month.specs.Promises.{Ongoing, Addable}
use Rattle.month.proofs.Sanity.{spoiled-sane}

-- ---- those of the table

module _ (m : ℕ) (table : List ℕ) where
  -- behind 8
  abbrev behind : List Refusal
  behind = refusal (not (eqb (m_in table) m)) OtherM 0 ∷ refusal (spoiled m table) BadTable 0 ∷ refusal (eqb (maps_in table) 1000) MonthFull 0 ∷ []

  pub table-short : length table < 1030 → verdict (table_refusals m table) ≡ refuse ShortRoom 1030
  unfolding table_refusals
  table-short l = append-refused refuse (room_refusals (length table) 1030) behind _ (room-refused (length table) 1030 l)

  module _ (l : 1030 ≤ length table) where
    long : verdict (table_refusals m table) ≡ verdict behind
    unfolding table_refusals
    long = append-passed refuse (room_refusals (length table) 1030) behind _ ((room-passed (length table) 1030).1 l)

    pub table-other : (m_in table ≡ m → ⊥) → verdict (table_refusals m table) ≡ refuse OtherM 0
    table-other d = long ∙ refusal-held refuse OtherM 0 _ _ (rw (ne_eqb (m_in table) m d))

    module _ (e : m_in table ≡ m) where
      right : not (eqb (m_in table) m) ≡ false
      right = rw (eq-eqb (m_in table) m e)

      pub table-spoiled : spoiled m table ≡ true → verdict (table_refusals m table) ≡ refuse BadTable 0
      table-spoiled s = long ∙ refusal-clear refuse OtherM 0 _ _ right ∙ refusal-held refuse BadTable 0 _ _ s

      module _ (s : spoiled m table ≡ false) where
        clear : {b : Bool} → eqb (maps_in table) 1000 ≡ b → verdict (table_refusals m table) ≡ verdict (refusal b MonthFull 0 ∷ [])
        clear d = long ∙ refusal-clear refuse OtherM 0 _ _ right ∙ refusal-clear refuse BadTable 0 _ _ s ∙ rw d

        pub table-full : maps_in table ≡ 1000 → verdict (table_refusals m table) ≡ refuse MonthFull 0
        table-full f = clear (eq-eqb (maps_in table) 1000 f) ∙ refusal-held refuse MonthFull 0 [] _ refl

        pub table-open : (maps_in table ≡ 1000 → ⊥) → verdict (table_refusals m table) ≡ Ok tt
        table-open f = clear (ne_eqb (maps_in table) 1000 f) ∙ refusal-clear refuse MonthFull 0 [] _ refl ∙ answer-none refuse (Ok tt)

  numbered-table : Numbered 26 (table_refusals m table)
  unfolding table_refusals
  numbered-table =
      numbered-append (numbered-room (length table) 1030 (omega arith))
      (numbered_next OtherM (omega arith) (omega arith) (numbered_next BadTable (omega arith) (omega arith) (numbered_next MonthFull (omega arith) (omega arith) none)))

  -- what they pass
  pub table-passed : verdict (table_refusals m table) ≡ Ok tt → Ongoing m table
  unfolding table_refusals
  table-passed e =
      let eight = (passed-append (room_refusals (length table) 1030) behind).0 e in
      let other = (passed-next _ OtherM 0 _).0 eight.1 in
      let sane = (passed-next _ BadTable 0 _).0 other.1 in
      let full = (passed-next _ MonthFull 0 []).0 sane.1 in
      let s = (spoiled-sane m table).0 sane.0 in
      let d = eqb-false (maps_in table) 1000 full.0 in
      record { long = (room-passed (length table) 1030).0 eight.0; same = eqb-true (m_in table) m (not-false _ other.0); sane = s; fewer = omega (arith, s.few, d) }

-- ---- all of them

module _ (m : ℕ) (keys : List ℕ) (classes border : ℕ) (table : List ℕ) where
  pub add-unsound : {e : Refused} → verdict (map_refusals m keys classes) ≡ Err e → verdict (add_refusals m keys classes border table) ≡ Err e
  unfolding add_refusals
  add-unsound e = append-refused refuse (map_refusals m keys classes) _ _ e

  module _ (e : verdict (map_refusals m keys classes) ≡ Ok tt) where
    pub add-unfit : {e : Refused} → verdict (table_refusals m table) ≡ Err e → verdict (add_refusals m keys classes border table) ≡ Err e
    unfolding add_refusals
    add-unfit d = append-passed refuse (map_refusals m keys classes) _ _ e ∙ append-refused refuse (table_refusals m table) _ _ d

    module _ (d : verdict (table_refusals m table) ≡ Ok tt) where
      pub add_fit : verdict (add_refusals m keys classes border table) ≡ verdict (border_refusals (window_in table).w border)
      unfolding add_refusals
      add_fit = append-passed refuse (map_refusals m keys classes) _ _ e ∙ append-passed refuse (table_refusals m table) _ _ d

      pub add-narrow : border < (window_in table).w → verdict (add_refusals m keys classes border table) ≡ refuse ShortBorder (window_in table).w
      add-narrow l = add_fit ∙ border-refused (window_in table).w border l

      pub add-passes : (window_in table).w ≤ border → verdict (add_refusals m keys classes border table) ≡ Ok tt
      add-passes l = add_fit ∙ (border-passed (window_in table).w border).1 l

  pub numbered-add : Numbered 26 (add_refusals m keys classes border table)
  unfolding add_refusals
  numbered-add = numbered-append (numbered-map (omega arith) true m keys classes) (numbered-append (numbered-table m table) (numbered-border (window_in table).w border (omega arith)))

  -- they pass exactly what can be added
  pub add-addable : (verdict (add_refusals m keys classes border table) ≡ Ok tt) ↔ Addable m keys classes border table
  unfolding add_refusals
  add-addable = (to, from)
    where
      to : verdict (add_refusals m keys classes border table) ≡ Ok tt → Addable m keys classes border table
      to e =
          let a = (passed-append (map_refusals m keys classes) _).0 e in
          let b = (passed-append (table_refusals m table) _).0 a.1 in
          record { sound = (sound-map m keys classes).0 a.0; ongoing = table-passed m table b.0; wide = (border-passed (window_in table).w border).0 b.1 }

      from : Addable m keys classes border table → verdict (add_refusals m keys classes border table) ≡ Ok tt
      from A =
          let o = A.ongoing in
          let fit = table-open m table o.long o.same ((spoiled-sane m table).1 o.sane) (λ f. omega (arith, o.fewer)) in
          add-passes ((sound-map m keys classes).1 A.sound) fit A.wide
