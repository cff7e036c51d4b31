-- The two round trips: what is written is read back, and what is read is written again.
-- Assumes nothing.
use mathlib.Core.Path.{◌≡◌, refl, sym, ◌∙◌}
use mathlib.Core.Bool.{Bool}
use mathlib.Core.List.{List, [], ◌∷◌, ◌++◌, append_assoc}
use Prim.Native.Nat.{ℕ, zero, suc, ◌+◌, ◌*◌, ◌^◌, ◌≤◌, ◌<◌}
use native.Mathlib.Omega.{arith}
use lib.ListN.{length, take, drop, get_or, length-append, length-take, length-drop}
use lib.Seq.{take-add, take_all, drop_at, drop-drop}
use Rattle.std.specs.Prelude.{Ok}
use Rattle.answers.specs.Sizes.{SizedIn}
use Rattle.answers.specs.Cells.{overwrite}
use Rattle.answers.specs.After.{after}
use Rattle.answers.proofs.Laws.{sized, take-overwrite}
use Rattle.numbers.specs.Promises.{Below}
use Rattle.numbers.specs.Numbers.{bytes_of, numbers}
use Rattle.numbers.proofs.Laws.{numbers-bytes_of, bytes_of-numbers, below-drop, length-bytes_of, length-numbers}
use Rattle.house.specs.File.{header, file_of, file_m, file_q, file_keys, file_classes, FileMap, read, read_in, write_in}
use Rattle.house.specs.Promises.{Laid}
use Rattle.house.proofs.Tables.{laid, read_done, write_done}
use Rattle.house.proofs.Accepted.{read-accepted, write-accepted}

-- ---- cells below a bound

below_none : {n : ℕ} → 0 < n → Below n []
below_none l = record { at = λ i. l }

below_more : {n x : ℕ} {xs : List ℕ} → x < n → Below n xs → Below n (x ∷ xs)
below_more {n} {x} {xs} l h = record { at = at }
  where
    at : (i : ℕ) → get_or (x ∷ xs) i 0 < n
    at zero = l
    at (suc i) = h.at i

-- ---- the parts of a file

module _ (m : ℕ) (keys classes : List ℕ) where
  pub length-file : length classes ≡ length keys → length (file_of m keys classes) ≡ 20 + 5 * length keys
  unfolding file_of header
  length-file e = simp (length-append, length-bytes_of) (omega arith)

  file-is : file_of m keys classes ≡ bytes_of (header m (length keys)) ++ (bytes_of keys ++ classes)
  unfolding file_of
  file-is = append_assoc (bytes_of (header m (length keys))) (bytes_of keys) classes

  header-drop : drop 20 (file_of m keys classes) ≡ bytes_of keys ++ classes
  unfolding header
  header-drop = rw file-is (drop_at (bytes_of (header m (length keys))) (bytes_of keys ++ classes) 20 (rw length-bytes_of))

  keys-drop : drop (20 + 4 * length keys) (file_of m keys classes) ≡ classes
  keys-drop = rw (← drop-drop (4 * length keys) 20 (file_of m keys classes), header-drop) (drop_at (bytes_of keys) classes (4 * length keys) (length-bytes_of keys))

-- ---- what was written is read

module _ {whole : Bool} (m : ℕ) (keys classes : List ℕ) (size : SizedIn whole m (length keys) (length classes)) (small : Below (2 ^ 32) keys) where
  header_read : header m (length keys) ≡ numbers 5 (file_of m keys classes)
  unfolding header
  header_read = rw (file-is m keys classes) (sym (numbers-bytes_of (header m (length keys)) (bytes_of keys ++ classes) below))
    where
      below : Below (2 ^ 32) (header m (length keys))
      below =
          below_more (omega (arith, size.most))
          (below_more (omega (arith, size.small))
          (below_more (omega (arith, size.most)) (below_more (omega arith) (below_more (omega (arith, size.most)) (below_none (omega arith))))))

  header-laid : Laid whole (length (file_of m keys classes)) (header m (length keys))
  unfolding header
  header-laid = record {
    total = sym (length-file m keys classes (sym size.same));
    size = record { small = size.small; same = refl; some = size.some; most = size.most };
    full = length-file m keys classes (sym size.same);
    keys = refl;
    classes = refl;
  }

  pub written_read : (ks cs : List ℕ) → length keys ≤ length ks → length keys ≤ length cs
      → read_in whole (file_of m keys classes) ks cs ≡ after (read m (length keys)) (overwrite keys ks, overwrite classes cs)
  unfolding header
  written_read ks cs k l =
      sym (read_done whole (file_of m keys classes) ks cs header_read (omega (arith, length-file m keys classes (sym size.same))) ((laid whole _ _).1 header-laid) k l refl refl)
      ∙ rw (
        header-drop m keys classes,
        keys-drop m keys classes,
        numbers-bytes_of keys classes small,
        take_all (length keys) classes (omega (arith, size.same)),
      )

-- the same through a lent slice: the bytes that a call of `write` answered for
pub written-read-lent : (whole : Bool) (m : ℕ) (keys classes out : List ℕ) {n : ℕ} {out' : List ℕ} → Below (2 ^ 32) keys
    → write_in whole m keys classes out ≡ after (Ok n) out'
    → (ks cs : List ℕ) → length keys ≤ length ks → length keys ≤ length cs
    → read_in whole (take n out') ks cs ≡ after (read m (length keys)) (overwrite keys ks, overwrite classes cs)
written-read-lent whole m keys classes out {n} {out'} small e ks cs k l =
    let g = write-accepted whole m keys classes out e in
    let len : n ≡ length (file_of m keys classes) = sym g.n-is ∙ sym (length-file m keys classes (sym g.size.same)) in
    let back : take n out' ≡ file_of m keys classes = rw (len, ← g.out-is) (take-overwrite (file_of m keys classes) out) in
    rw back (written_read m keys classes g.size small ks cs k l)

-- ---- what was read is written

five : (xs : List ℕ) → length xs ≡ 5 → xs ≡ get_or xs 0 0 ∷ get_or xs 1 0 ∷ get_or xs 2 0 ∷ get_or xs 3 0 ∷ get_or xs 4 0 ∷ []
five [] e = absurd (omega arith)
five (a ∷ []) e = absurd (omega arith)
five (a ∷ b ∷ []) e = absurd (omega arith)
five (a ∷ b ∷ c ∷ []) e = absurd (omega arith)
five (a ∷ b ∷ c ∷ d ∷ []) e = absurd (omega arith)
five (a ∷ b ∷ c ∷ d ∷ f ∷ []) e = refl
five (a ∷ b ∷ c ∷ d ∷ f ∷ g ∷ xs) e = absurd (omega arith)

module _ {whole : Bool} (file : List ℕ) (right : Laid whole (length file) (numbers 5 file)) where
  header-again : header (file_m file) (file_q file) ≡ numbers 5 file
  unfolding header file_m file_q
  header-again = sym (five (numbers 5 file) (length-numbers 5 file) ∙ cc)

  length-again : length file ≡ 20 + 5 * file_q file
  unfolding file_q
  length-again = right.full

  length-keys : length (file_keys file) ≡ file_q file
  unfolding file_keys
  length-keys = length-numbers (file_q file) (drop 20 file)

  length-classes : length (file_classes file) ≡ file_q file
  unfolding file_classes
  length-classes = simp (length-take, length-drop) (omega (arith, length-again))

  sized-again : SizedIn whole (file_m file) (length (file_keys file)) (length (file_classes file))
  unfolding file_m file_q
  sized-again = record {
    small = right.size.small;
    same = length-keys ∙ sym length-classes;
    some = rw length-keys right.size.some;
    most = rw length-keys right.size.most;
  }

  file-again : Below 256 file → file_of (file_m file) (file_keys file) (file_classes file) ≡ file
  unfolding file_of file_keys file_classes
  file-again low =
      let q : ℕ = file_q file in
      let head : bytes_of (numbers 5 file) ≡ take 20 file = bytes_of-numbers 5 file low (omega (arith, length-again)) in
      let keys : bytes_of (numbers q (drop 20 file)) ≡ take (4 * q) (drop 20 file) =
      bytes_of-numbers q (drop 20 file) (below-drop 20 low) (rw length-drop (omega (arith, length-again))) in
      rw (length-numbers, header-again, head, keys, ← take-add 20 (4 * q) file, ← take-add (20 + 4 * q) q file)
      (take_all (20 + 4 * q + q) file (omega (arith, length-again)))

  write_again : Below 256 file → (out : List ℕ) → length file ≤ length out
      → write_in whole (file_m file) (file_keys file) (file_classes file) out ≡ after (Ok (length file)) (overwrite file out)
  write_again low out l =
      let n : 20 + 5 * length (file_keys file) ≡ length file = omega (arith, length-again, length-keys) in
      write_done whole (file_m file) (file_keys file) (file_classes file) out (sized.1 sized-again) (omega arith) ∙ rw (n, file-again low)

-- what was read is the map that the file holds
pub read-holds : (whole : Bool) (file ks cs : List ℕ) {m q : ℕ} {ks' cs' : List ℕ} → read_in whole file ks cs ≡ after (read m q) (ks', cs')
    → FileMap file m (take q ks') (take q cs')
read-holds whole file ks cs e =
    let t = read-accepted whole file ks cs e in
    record {
      m-is = sym t.m-is;
      keys-are = rw (← t.q-is, ← t.keys-are, ← length-keys file t.readable.laid_out) (take-overwrite (file_keys file) ks);
      classes-are = rw (← t.q-is, ← t.classes-are, ← length-classes file t.readable.laid_out) (take-overwrite (file_classes file) cs);
    }

pub read-written : (whole : Bool) (file ks cs : List ℕ) {m q : ℕ} {ks' cs' : List ℕ} → Below 256 file → read_in whole file ks cs ≡ after (read m q) (ks', cs')
    → (out : List ℕ) → length file ≤ length out → write_in whole m (take q ks') (take q cs') out ≡ after (Ok (length file)) (overwrite file out)
read-written whole file ks cs low e out l =
    let h = read-holds whole file ks cs e in
    rw (h.keys-are, h.classes-are, h.m-is) (write_again file (read-accepted whole file ks cs e).readable.laid_out low out l)

-- ---- what was read has room

pub read-room : (whole : Bool) (file ks cs : List ℕ) {m q : ℕ} {ks' cs' : List ℕ} → read_in whole file ks cs ≡ after (read m q) (ks', cs') → (q ≤ length ks) × (q ≤ length cs)
read-room whole file ks cs e = let t = read-accepted whole file ks cs e in (omega (arith, t.q-is, t.readable.keys-room), omega (arith, t.q-is, t.readable.classes-room))
