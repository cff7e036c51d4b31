-- `spots::tables` meets its contract: the numbers of digits 1 are the rule, and the remainders tell them, computed once over its 16 entries, and over the 13 numbers that it tells.
use Rattle.std.proofs.Common.{ℕ, ◌+◌, ◌-◌, ◌%◌, List, [], ◌∷◌, get_or, sym, refl, arith}
use Rattle.lists.proofs.Laws.{same-below}
use Rattle.key.proofs.Loops.{ones-entry, ones-listed}
use Rattle.spots.proofs.tables.Goals as goal

abbrev digits : List ℕ
digits = 0 ∷ 1 ∷ 6 ∷ 0 ∷ 12 ∷ 0 ∷ 2 ∷ 11 ∷ 8 ∷ 9 ∷ 0 ∷ 7 ∷ 4 ∷ 5 ∷ 10 ∷ 3 ∷ []

abbrev numbers : List ℕ
numbers = 0 ∷ 1 ∷ 6 ∷ 31 ∷ 156 ∷ 781 ∷ 3906 ∷ 19531 ∷ 97656 ∷ 488281 ∷ 2441406 ∷ 12207031 ∷ 61035156 ∷ []

pub returns-clause-digits : goal.returns-clause-digits
returns-clause-digits c = record {
  small = λ x h. omega (arith, same-below (λ (n : ℕ). get_or digits n 0 + (12 - get_or digits n 0)) (λ (n : ℕ). 12) 16 refl x h);
  finds = λ i h. rw (← ones-entry i (sym ones-listed) h) (same-below (λ (k : ℕ). get_or digits (get_or numbers k 0 % 16) 0) (λ (k : ℕ). k) 13 refl i (omega arith));
}

pub returns-clause-ones : goal.returns-clause-ones
returns-clause-ones c = sym ones-listed
