-- Numbers and their bytes, at every width: each is had back from the other.
-- Assumes nothing.
use mathlib.Core.Path.{◌≡◌, refl}
use mathlib.Core.List.{List, [], ◌∷◌, ◌++◌, append_assoc}
use Prim.Native.Nat.{ℕ, zero, suc, ◌+◌, ◌*◌, ◌/◌, ◌%◌, ◌^◌, ◌≤◌, ◌<◌}
use native.Mathlib.Omega.{arith}
use lib.ListN.{length, take, drop, length-drop}
use lib.Seq.{take-add, drop_at, get_or-drop}
use Rattle.numbers.specs.Promises.{Below}
use Rattle.numbers.specs.Numbers.{bytes, number, bytes_of, numbers}
use Rattle.numbers.proofs.Steps.{length-bytes}

-- ---- cells that hold small numbers

below_rest : {n b : ℕ} {bs : List ℕ} → Below n (b ∷ bs) → Below n bs
below_rest l = record { at = λ i. l.at (suc i) }

pub below-drop : (k : ℕ) {n : ℕ} {bs : List ℕ} → Below n bs → Below n (drop k bs)
below-drop k {n} {bs} l = record { at = λ i. rw get_or-drop (l.at (k + i)) }

-- ---- little-endian numbers, at every width

pub number-bytes : (n x : ℕ) (rest : List ℕ) → x < 256 ^ n → number n (bytes n x ++ rest) ≡ x
unfolding number bytes
number-bytes zero x rest l = omega arith
number-bytes (suc n) x rest l =
    let less : x / 256 < 256 ^ n = omega arith in
    rw (number-bytes n (x / 256) rest less) (omega arith)

pub bytes-number : (n : ℕ) (bs : List ℕ) → Below 256 bs → n ≤ length bs → bytes n (number n bs) ≡ take n bs
unfolding number bytes
bytes-number zero bs l m = refl
bytes-number (suc n) [] l m = absurd (omega arith)
bytes-number (suc n) (b ∷ bs) l m =
    let low : (b + 256 * number n bs) % 256 ≡ b = omega (arith, l.at 0) in
    let high : (b + 256 * number n bs) / 256 ≡ number n bs = omega (arith, l.at 0) in
    rw (low, high, bytes-number n bs (below_rest l) (omega arith))

-- the first n bytes are all that counts
pub number-take : (n : ℕ) (bs : List ℕ) → number n (take n bs) ≡ number n bs
unfolding number
number-take zero bs = refl
number-take (suc n) [] = refl
number-take (suc n) (b ∷ bs) = rw (number-take n bs)

pub numbers-bytes_of : (xs rest : List ℕ) → Below (2 ^ 32) xs → numbers (length xs) (bytes_of xs ++ rest) ≡ xs
unfolding numbers bytes_of
numbers-bytes_of [] rest l = refl
numbers-bytes_of (x ∷ xs) rest l =
    rw (append_assoc, number-bytes 4 x (bytes_of xs ++ rest) (l.at 0), drop_at (bytes 4 x) (bytes_of xs ++ rest) 4 (length-bytes 4 x), numbers-bytes_of xs rest (below_rest l))

pub bytes_of-numbers : (n : ℕ) (bs : List ℕ) → Below 256 bs → 4 * n ≤ length bs → bytes_of (numbers n bs) ≡ take (4 * n) bs
unfolding numbers bytes_of
bytes_of-numbers zero bs l m = refl
bytes_of-numbers (suc n) bs l m =
    let e : 4 * suc n ≡ 4 + 4 * n = omega arith in
    rw (bytes-number 4 bs l (omega arith), bytes_of-numbers n (drop 4 bs) (below-drop 4 l) (rw length-drop (omega arith)), e, take-add)
