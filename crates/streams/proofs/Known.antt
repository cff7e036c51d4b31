-- What a reader has left and what a writer has come to hold, after one more part of a text.
-- Assumes nothing.
use Rattle.std.proofs.Common.{
  ◌≡◌,
  ℕ,
  ◌+◌,
  ◌-◌,
  ◌≤◌,
  ◌<◌,
  Option,
  List,
  ◌++◌,
  arith,
  length,
  take,
  drop,
  slice_range,
  sym,
  ap,
  ◌∙◌,
  subst,
  append_assoc,
  take-append-drop,
  length-append,
  length-take-le,
  drop_at,
  le_refl,
}
use Rattle.std.proofs.lemmas.List.{take_rest, take-append-le}
use Rattle.std.proofs.lemmas.Slice.{take-put_mid_below}
use Rattle.std.proofs.Math.Seq.{take-append_seam}
use Rattle.std.proofs.KnownBytes.{Appends-trans, Consumes-trans}
use Rattle.std.specs.Io.KnownBytes.{Appends, Consumes}
use borrow.Rule.Slice.PartMut.{put_mid, post_of}
use lib.Seq.{take-add}
use Rattle.std.specs.Prelude.{Result, Ok, Err}
use Rattle.std.specs.Result.{IsErrAnd}
use Rattle.std.specs.declared.io.Error.{Error}
use Rattle.streams.specs.declared.Unprinted.{Unprinted}
use Rattle.streams.specs.declared.Unprinted.TheVariants.{Failed}
use Rattle.streams.specs.Streams.{PutsSome, Puts}

-- ---- a writer

-- of a piece of what is left so many bytes were put, behind those that were put before
pub more-put : (old mid new : Option (List ℕ)) (done rest : List ℕ) (k n : ℕ) → Appends old mid done → n ≤ length (take k rest) → Appends mid new (take n (take k rest))
    → Appends old new (done ++ take n rest)
more-put old mid new done rest k n p l q =
    let same : take n (take k rest) ≡ take n rest = sym (take-append-le n (take k rest) (drop k rest) l) ∙ ap (take n) (take-append-drop k rest) in
    Appends-trans old mid new done (take n rest) p (subst (Appends mid new) same q)

-- what is left is what was left behind these bytes
pub split_after : (text done rest : List ℕ) (n : ℕ) → text ≡ done ++ rest → text ≡ (done ++ take n rest) ++ drop n rest
split_after text done rest n e = e ∙ ap (λ l. done ++ l) (sym (take-append-drop n rest)) ∙ sym (append_assoc done (take n rest) (drop n rest))

pub split_rest : (text done rest : List ℕ) (n : ℕ) → text ≡ done ++ rest → text ≡ (done ++ take n rest) ++ take (length rest - n) (drop n rest)
split_rest text done rest n e = split_after text done rest n e ∙ ap (λ l. (done ++ take n rest) ++ l) (sym (take_rest rest n))

-- a text of which the front was put, and not all
pub puts-front : (least : ℕ) (old new : Option (List ℕ)) (text front back : List ℕ) → text ≡ front ++ back → least ≤ length front → 0 < length back → Appends old new front
    → PutsSome least old new text
puts-front least old new text front back e some more p =
    (length front, some, omega (arith, ap length e, length-append front back), subst (Appends old new) (sym (ap (take (length front)) e ∙ take-append_seam front back)) p)

-- a write failed, and that is the answer
pub puts-failed : (r : Result Unit Unprinted) (error : Error) (old new : Option (List ℕ)) (text : List ℕ) → IsErrAnd r (λ unprinted. unprinted ≡ Failed error) → PutsSome 0 old new text
    → Puts r old new text
puts-failed (Ok done) error old new text e p = absurd e
puts-failed (Err unprinted) error old new text e p = subst (λ (u : Unprinted). Puts (Err u) old new text) (sym e) p

-- ---- a reader

-- the bytes of a slice before b are those before a, which are as they were, and those from a to b
front_and_part : (a b : ℕ) (old new : List ℕ) → a ≤ b → take a new ≡ take a old → take a old ++ slice_range new a b ≡ take b new
front_and_part a b old new l front =
    let same : a + (b - a) ≡ b = omega arith in
    ap (λ l. l ++ slice_range new a b) (sym front) ∙ sym (take-add a (b - a) new) ∙ ap (λ n. take n new) same

-- a part of a slice that was written holds what was written
part_of_put : (a k n : ℕ) (xs ys : List ℕ) → a ≤ length xs → n ≤ length ys → slice_range (put_mid a k xs ys) a (a + n) ≡ take n ys
part_of_put a k n xs ys within fits =
    let same : (a + n) - a ≡ n = omega arith in
    let after = post_of a k xs in
    ap (take ((a + n) - a)) (drop_at (take a xs) (ys ++ after) a (length-take-le a xs within)) ∙ ap (λ m. take m (ys ++ after)) same ∙ take-append-le n ys after fits

-- n more bytes were taken, into a part of the slice behind those that were taken before
pub more_taken : (old mid new : Option (List ℕ)) (a k n : ℕ) (xs ys : List ℕ) → a ≤ length xs → n ≤ length ys → Consumes old mid (take a xs) → Consumes mid new (take n ys)
    → Consumes old new (take (a + n) (put_mid a k xs ys))
more_taken old mid new a k n xs ys within fits p q =
    let joined = front_and_part a (a + n) xs (put_mid a k xs ys) (omega arith) (take-put_mid_below _ _ _ _ _ (le_refl _) within) in
    subst (Consumes old new) (ap (λ l. take a xs ++ l) (sym (part_of_put a k n xs ys within fits)) ∙ joined) (Consumes-trans old mid new _ _ p q)
