-- The words in which promises about the elements of a list are said.
-- Assumes nothing.
use Rattle.std.specs.Prelude.{◌≡◌, List, [], ◌∷◌, ℕ, suc, min, ◌+◌}

-- x is number k of the list, counted from 0
pub data Nth {A : Type 0} : List A → ℕ → A → Type 0 where
  here : {x y : A} {l : List A} {k : ℕ} → k ≡ 0 → x ≡ y → Nth (y ∷ l) k x
  later : {x y : A} {l : List A} {k j : ℕ} → k ≡ suc j → Nth l j x → Nth (y ∷ l) k x

-- numbers, added up
unfoldable pub sum : List ℕ → ℕ
sum [] = 0
sum (n ∷ ns) = n + sum ns

-- the least of them, and 0 where there is none
unfoldable pub least_of : List ℕ → ℕ
least_of [] = 0
least_of (n ∷ []) = n
least_of (n ∷ k ∷ ns) = min n (least_of (k ∷ ns))
