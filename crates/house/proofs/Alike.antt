-- Files are read and written the same whether the map is to be whole or not, but where a whole map is refused for want of records.
-- Assumes nothing.
use mathlib.Core.Path.{◌≡◌, refl, sym, ◌∙◌}
use mathlib.Core.Bool.{Bool, true, false, not}
use mathlib.Core.List.{List, ◌∷◌, ◌++◌}
use Prim.Native.Nat.{ℕ}
use lib.Dec.{eqb, ltb}
use lib.ListN.{length, get_or}
use Rattle.answers.specs.declared.Cause.TheVariants.{BadCount, BadLayout}
use Rattle.answers.specs.Refusals.{Refusal, refusal, answer, refuse, verdict}
use Rattle.answers.specs.Sizes.{size_refusals_in}
use Rattle.answers.proofs.Laws.{answer-append, answer-verdict, append-refused, refusal-held, refusal-clear, sizes-same}
use Rattle.numbers.specs.Numbers.{numbers}
use Rattle.house.specs.File.{layout_refusals, read_refusals_in, read_refusals, write_refusals_in, file_q, read_in, read_of, write_in, write_of}

-- tables that differ behind two refusals count only where neither of these holds
behind-two : (t u : Bool) (rs rs' ss ts : List Refusal) → (t ≡ false → u ≡ false → verdict rs ≡ verdict rs')
    → verdict (refusal t BadLayout 0 ∷ (refusal u BadLayout 0 ∷ rs ++ ss) ++ ts) ≡ verdict (refusal t BadLayout 0 ∷ (refusal u BadLayout 0 ∷ rs' ++ ss) ++ ts)
behind-two true u rs rs' ss ts h = held _ ∙ sym (held _)
  where
    held : (xs : List Refusal) → verdict (refusal true BadLayout 0 ∷ xs) ≡ refuse BadLayout 0
    held xs = refusal-held refuse BadLayout 0 xs _ refl
behind-two false u rs rs' ss ts h = clear _ ∙ go u h ∙ sym (clear _)
  where
    clear : (xs : List Refusal) → verdict (refusal false BadLayout 0 ∷ xs) ≡ verdict xs
    clear xs = refusal-clear refuse BadLayout 0 xs _ refl

    front : (xs : List Refusal) → verdict ((xs ++ ss) ++ ts) ≡ answer refuse xs (answer refuse ss (verdict ts))
    front xs = answer-append refuse (xs ++ ss) ts _ ∙ answer-append refuse xs ss _

    go : (u : Bool) → (false ≡ false → u ≡ false → verdict rs ≡ verdict rs')
        → verdict ((refusal u BadLayout 0 ∷ rs ++ ss) ++ ts) ≡ verdict ((refusal u BadLayout 0 ∷ rs' ++ ss) ++ ts)
    go true h = refusal-held refuse BadLayout 0 _ _ refl ∙ sym (refusal-held refuse BadLayout 0 _ _ refl)
    go false h = clear _ ∙ front rs ∙ answer-verdict refuse rs rs' _ (h refl refl) ∙ sym (clear _ ∙ front rs')

pub read_same : (file keys classes : List ℕ) → (verdict (read_refusals file (length keys) (length classes)) ≡ refuse BadCount 0 → file_q file ≡ 0 → ⊥)
    → read_in false file keys classes ≡ read_of file keys classes
unfolding read_in read_refusals_in layout_refusals file_q
read_same file keys classes some =
    answer-verdict _ _ _ _
    (behind-two (ltb (length file) 20) (not (eqb (get_or (numbers 5 file) 0 0) (length file))) _ _ _ _ (λ e d. sizes-same (get_or (numbers 5 file) 1 0) (λ v z _. some (
    refusal-clear refuse BadLayout 0 _ _ e
    ∙ refusal-clear refuse BadLayout 0 _ _ d
    ∙ answer-append refuse (size_refusals_in true (get_or (numbers 5 file) 1 0) (get_or (numbers 5 file) 2 0) (get_or (numbers 5 file) 2 0) ++ _) _ _
    ∙ append-refused refuse _ _ _ v
    ) z)))

pub write_same : (m : ℕ) (keys classes out : List ℕ)
    → (verdict (write_refusals_in true m (length keys) (length classes) (length out)) ≡ refuse BadCount 0 → length keys ≡ 0 → length classes ≡ 0 → ⊥)
    → write_in false m keys classes out ≡ write_of m keys classes out
unfolding write_in write_refusals_in
write_same m keys classes out some =
    answer-append _ (size_refusals_in false m (length keys) (length classes)) _ _
    ∙ answer-verdict _ _ _ _ (sizes-same m (λ v. some (append-refused refuse _ _ _ v)))
    ∙ sym (answer-append _ (size_refusals_in true m (length keys) (length classes)) _ _)
