-- Which calls of reading and writing are answered, and what is known of those.
-- Assumes nothing.
use mathlib.Core.Path.{◌≡◌, ap}
use mathlib.Core.Logic.{◌↔◌}
use mathlib.Core.Bool.{Bool, false, ◌||◌}
use mathlib.Core.List.{List, [], ◌∷◌}
use Prim.Native.Nat.{ℕ, ◌+◌, ◌*◌, ◌≤◌}
use native.Mathlib.Omega.{arith}
use lib.Dec.{ltb}
use lib.ListN.{length}
use Rattle.std.specs.Prelude.{Ok}
use borrow.Author.Tests.{le-ltb, ltb-false}
use Rattle.lists.proofs.Laws.{neither}
use Rattle.answers.specs.declared.Cause.{Cause}
use Rattle.answers.specs.declared.Cause.TheVariants.{ShortRoom, BadLayout}
use Rattle.answers.specs.Refusals.{Refusal, refusal, answer, refuse, verdict}
use Rattle.answers.specs.Sizes.{size_refusals_in, SizedIn}
use Rattle.answers.specs.Cells.{overwrite}
use Rattle.answers.specs.After.{After, after}
use Rattle.answers.proofs.Laws.{room-passed, answer-none, unless-answer, unless-kept, on-passed, accepted, passed-next, passed-append}
use Rattle.answers.proofs.Laws.{sized, Numbered, none, numbered_next, numbered-append, numbered-sizes, numbered-room}
use Rattle.numbers.specs.Numbers.{numbers}
use Rattle.house.specs.declared.Header.{Header}
use Rattle.house.specs.File.{layout_refusals, read_refusals_in, write_refusals_in, file_of, file_m, file_q, file_keys, file_classes, Reading, read, read_in, Writing, write_in}
use Rattle.house.specs.Promises.{ReadableIn}
use Rattle.house.proofs.Tables.{laid}

-- ---- reading

module _ (whole : Bool) (file : List ℕ) (keys classes : ℕ) where
  pub numbered-read : Numbered 9 (read_refusals_in whole file keys classes)
  unfolding read_refusals_in layout_refusals
  numbered-read = nine (nine (numbered-append (numbered-append (numbered-sizes whole _ _ _ (omega arith)) (nine (nine (nine none)))) (numbered_next ShortRoom (omega arith) (omega arith) none)))
    where
      nine : {b : Bool} {p : ℕ} {rs : List Refusal} → Numbered 9 rs → Numbered 9 (refusal b BadLayout p ∷ rs)
      nine N = numbered_next BadLayout (omega arith) (omega arith) N

  -- the table passes exactly a file that is laid out as it should be, with room for its records
  pub read-passed : (verdict (read_refusals_in whole file keys classes) ≡ Ok tt) ↔ ReadableIn whole file keys classes
  unfolding read_refusals_in
  read-passed = (to, from)
    where
      to : verdict (read_refusals_in whole file keys classes) ≡ Ok tt → ReadableIn whole file keys classes
      to e =
          let a = (passed-next (ltb (length file) 20) BadLayout 0 _).0 e in
          let b = (passed-append (layout_refusals whole (length file) (numbers 5 file)) _).0 a.1 in
          let room = neither (ltb keys (file_q file)) (ltb classes (file_q file)) ((passed-next _ ShortRoom (file_q file) []).0 b.1).0 in
          record {
            laid_out = (laid whole _ _).0 b.0;
            keys-room = ltb-false keys (file_q file) room.0;
            classes-room = ltb-false classes (file_q file) room.1;
          }

      from : ReadableIn whole file keys classes → verdict (read_refusals_in whole file keys classes) ≡ Ok tt
      from R =
          let room : ltb keys (file_q file) || ltb classes (file_q file) ≡ false = rw (le-ltb keys (file_q file) R.keys-room, le-ltb classes (file_q file) R.classes-room) in
          let long : 20 ≤ length file = omega (arith, R.laid_out.full) in
          (passed-next (ltb (length file) 20) BadLayout 0 _).1 (
            le-ltb (length file) 20 long,
            (passed-append (layout_refusals whole (length file) (numbers 5 file)) _).1 ((laid whole _ _).1 R.laid_out, (passed-next _ ShortRoom (file_q file) []).1 (room, answer-none _ _)),
          )

module _ (whole : Bool) (file keys classes : List ℕ) where
  -- of the slices only the lengths count
  pub read-by-lengths : (read_in whole file keys classes).answer ≡ answer refuse (read_refusals_in whole file (length keys) (length classes)) (read (file_m file) (file_q file))
  unfolding read_in
  read-by-lengths = unless-answer refuse (read_refusals_in whole file (length keys) (length classes)) (keys, classes) _

  -- what an answered call leaves in them
  pub read-leaves : ReadableIn whole file (length keys) (length classes)
      → read_in whole file keys classes ≡ after (read (file_m file) (file_q file)) (overwrite (file_keys file) keys, overwrite (file_classes file) classes)
  unfolding read_in
  read-leaves R = on-passed _ _ _ ((read-passed whole file (length keys) (length classes)).1 R)

  -- a refusal leaves them as they were
  pub read-untouched : (ReadableIn whole file (length keys) (length classes) → ⊥) → (read_in whole file keys classes).lent ≡ (keys, classes)
  unfolding read_in
  read-untouched held =
      unless-kept refuse (read_refusals_in whole file (length keys) (length classes)) (keys, classes) _ (λ e. held ((read-passed whole file (length keys) (length classes)).0 e))

-- what an answer of reading tells
pub record Taken (whole : Bool) (file keys classes : List ℕ) (m q : ℕ) (keys' classes' : List ℕ) : Type 0 where
  pub readable : ReadableIn whole file (length keys) (length classes)
  pub m-is : file_m file ≡ m
  pub q-is : file_q file ≡ q
  pub keys-are : overwrite (file_keys file) keys ≡ keys'
  pub classes-are : overwrite (file_classes file) classes ≡ classes'

pub read-accepted : (whole : Bool) (file keys classes : List ℕ) {m q : ℕ} {keys' classes' : List ℕ} → read_in whole file keys classes ≡ after (read m q) (keys', classes')
    → Taken whole file keys classes m q keys' classes'
unfolding read_in
read-accepted whole file keys classes {m} {q} e =
    let a = accepted (λ (c : Cause) (p : ℕ). after (refuse c p) (keys, classes)) (read_refusals_in whole file (length keys) (length classes)) _
    (λ c p f. let g : refuse c p ≡ read m q = ap (λ (x : After Reading (List ℕ × List ℕ)). x.answer) f in cc) e in
    let done : read (file_m file) (file_q file) ≡ read m q = ap (λ (x : After Reading (List ℕ × List ℕ)). x.answer) a.1 in
    let same : ◌≡◌ {A = Header} (record { m = file_m file; count = file_q file }) (record { m = m; count = q }) = cc in
    record {
      readable = (read-passed whole file (length keys) (length classes)).0 a.0;
      m-is = ap (λ (h : Header). h.m) same;
      q-is = ap (λ (h : Header). h.count) same;
      keys-are = ap (λ (x : After Reading (List ℕ × List ℕ)). x.lent.0) a.1;
      classes-are = ap (λ (x : After Reading (List ℕ × List ℕ)). x.lent.1) a.1;
    }

-- ---- writing

module _ (whole : Bool) (m keys classes room : ℕ) where
  pub numbered-write : Numbered 8 (write_refusals_in whole m keys classes room)
  unfolding write_refusals_in
  numbered-write = numbered-append (numbered-sizes whole m keys classes (omega arith)) (numbered-room room (20 + 5 * keys) (omega arith))

  -- the table passes exactly the sizes of a map, with room for its file
  pub write-passed : (verdict (write_refusals_in whole m keys classes room) ≡ Ok tt) ↔ (SizedIn whole m keys classes × (20 + 5 * keys ≤ room))
  unfolding write_refusals_in
  write-passed =
      let both = passed-append (size_refusals_in whole m keys classes) _ in
      let eight = room-passed room (20 + 5 * keys) in (
        λ e. let t = both.0 e in (sized.0 t.0, eight.0 t.1),
        λ t. both.1 (sized.1 t.0, eight.1 t.1),
      )

module _ (whole : Bool) (m : ℕ) (keys classes out : List ℕ) where
  -- of the slice only the length counts
  pub write-by-length : (write_in whole m keys classes out).answer
      ≡ answer refuse (write_refusals_in whole m (length keys) (length classes) (length out)) (Ok (20 + 5 * length keys))
  unfolding write_in
  write-by-length = unless-answer refuse (write_refusals_in whole m (length keys) (length classes) (length out)) out _

  -- what an answered call leaves in it
  pub write-leaves : SizedIn whole m (length keys) (length classes) × (20 + 5 * length keys ≤ length out)
      → write_in whole m keys classes out ≡ after (Ok (20 + 5 * length keys)) (overwrite (file_of m keys classes) out)
  unfolding write_in
  write-leaves t = on-passed _ _ _ ((write-passed whole m (length keys) (length classes) (length out)).1 t)

  -- a refusal leaves it as it was
  pub write-untouched : (SizedIn whole m (length keys) (length classes) × (20 + 5 * length keys ≤ length out) → ⊥) → (write_in whole m keys classes out).lent ≡ out
  unfolding write_in
  write-untouched held =
      unless-kept refuse (write_refusals_in whole m (length keys) (length classes) (length out)) out _ (λ e. held ((write-passed whole m (length keys) (length classes) (length out)).0 e))

-- what an answer of writing tells
pub record Given (whole : Bool) (m : ℕ) (keys classes out : List ℕ) (n : ℕ) (out' : List ℕ) : Type 0 where
  pub size : SizedIn whole m (length keys) (length classes)
  pub n-is : 20 + 5 * length keys ≡ n
  pub out-is : overwrite (file_of m keys classes) out ≡ out'

pub write-accepted : (whole : Bool) (m : ℕ) (keys classes out : List ℕ) {n : ℕ} {out' : List ℕ} → write_in whole m keys classes out ≡ after (Ok n) out'
    → Given whole m keys classes out n out'
unfolding write_in
write-accepted whole m keys classes out {n} e =
    let a = accepted (λ (c : Cause) (p : ℕ). after (refuse c p) out) (write_refusals_in whole m (length keys) (length classes) (length out)) _
    (λ c p f. let g : refuse c p ≡ Ok n = ap (λ (x : After Writing (List ℕ)). x.answer) f in cc) e in
    let done : ◌≡◌ {A = Writing} (Ok (20 + 5 * length keys)) (Ok n) = ap (λ (x : After Writing (List ℕ)). x.answer) a.1 in
    record {
      size = ((write-passed whole m (length keys) (length classes) (length out)).0 a.0).0;
      n-is = cc;
      out-is = ap (λ (x : After Writing (List ℕ)). x.lent) a.1;
    }
