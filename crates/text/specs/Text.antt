-- Text, as bytes of ASCII: a number in decimal digits, a line of numbers, and a text that is put into a lent slice.
-- Assumes nothing.
use Rattle.std.specs.Prelude.{cond, List, [], ◌∷◌, ◌++◌, ℕ, zero, suc, ◌+◌, ◌/◌, ◌%◌, ltb, leb, length}
use Rattle.answers.specs.Cells.{overwrite}
use Rattle.answers.specs.After.{After, after}

-- the last n digits of a number, or all where it has fewer; the most significant first
unfoldable pub digits : ℕ → ℕ → List ℕ
digits zero x = []
digits (suc n) x = cond (ltb x 10) ((48 + x) ∷ []) (digits n (x / 10) ++ ((48 + x % 10) ∷ []))

-- all digits of a number of 32 bits, which has at most ten: none but 0 starts with a zero
unfoldable pub digits_of : ℕ → List ℕ
digits_of = digits 10

-- numbers, each with a space before it
unfoldable pub spaced : List ℕ → List ℕ
spaced [] = []
spaced (x ∷ xs) = 32 ∷ digits_of x ++ spaced xs

-- a line: a letter, numbers, and the end of the line
unfoldable pub line_of : ℕ → List ℕ → List ℕ
line_of letter xs = letter ∷ spaced xs ++ (10 ∷ [])

-- how many bytes are put, and the lent slice afterwards: a text is put whole, and bytes beyond it keep their content; where there is no room for all of it, none is put
unfoldable pub put_of : List ℕ → List ℕ → After ℕ (List ℕ)
put_of text out = cond (leb (length text) (length out)) (after (length text) (overwrite text out)) (after 0 out)
