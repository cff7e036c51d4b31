-- What reading and writing promise, from the contracts of the calls alone; and the two round trips, from call to call.
-- Assumes nothing.
use mathlib.Core.Path.{◌≡◌, sym, ap, ◌∙◌}
use mathlib.Core.Bool.{Bool}
use mathlib.Core.List.{List}
use Prim.Native.Nat.{ℕ, ◌^◌, ◌≤◌}
use lib.ListN.{length, take}
use Rattle.std.specs.Prelude.{Result}
use Rattle.answers.specs.declared.Refused.{Refused}
use Rattle.house.specs.declared.Header.{Header}
use Rattle.answers.specs.Cells.{overwrite}
use Rattle.answers.specs.After.{After}
use Rattle.numbers.specs.Promises.{Below}
use Rattle.house.proofs.Laws.{length-file, read-leaves, write-leaves, written-read-lent, read-written}
use Rattle.lutniorad.specs.declared.Answer.{Answer}
use Rattle.lutniorad.specs.Numbers.{values, of_reading, of_count}
use Rattle.lutniorad.specs.Calls.{ReadIn, WriteIn}
use Rattle.lutniorad.specs.Promises.{ReadPromise, WritePromise}
use Rattle.lutniorad.proofs.Answered.{read-answered, write-answered}

module _ (whole : Bool) (file keys classes : List ℕ) {keys' classes' : List ℕ} {r : Answer} (call : ReadIn whole file keys classes r keys' classes') (z : r.refusal ≡ 0) where
  pub read-promise : ReadPromise file keys classes r keys' classes'
  read-promise =
      let e = read-leaves whole file keys classes ((read-answered whole file keys classes call).0 z) in
      record {
        numbers = call.answer ∙ ap (λ (x : After (Result Header Refused) (List ℕ × List ℕ)). of_reading x.answer) e;
        keys-are = ap (λ (x : List ℕ × List ℕ). x.0) call.cells ∙ ap (λ (x : After (Result Header Refused) (List ℕ × List ℕ)). x.lent.0) e;
        classes-are = ap (λ (x : List ℕ × List ℕ). x.1) call.cells ∙ ap (λ (x : After (Result Header Refused) (List ℕ × List ℕ)). x.lent.1) e;
      }

  -- what was read, written again where there is room, gives the same bytes
  pub read-write : Below 256 file → (out : List ℕ) {out' : List ℕ} {s : Answer}
      → WriteIn whole r.first (take r.second keys') (take r.second classes') out s out' → length file ≤ length out
      → (s ≡ values (length file) 0) × (out' ≡ overwrite file out)
  read-write low out again room =
      let p = read-promise in
      let first = ap (λ (x : Answer). x.first) p.numbers in
      let second = ap (λ (x : Answer). x.second) p.numbers in
      let e = read-written whole file keys classes low (read-leaves whole file keys classes ((read-answered whole file keys classes call).0 z)) out room in
      let back = rw (← first, ← second, ← p.keys-are, ← p.classes-are) at e in
      (again.answer ∙ ap (λ (x : After (Result ℕ Refused) (List ℕ)). of_count x.answer) back, again.cells ∙ ap (λ (x : After (Result ℕ Refused) (List ℕ)). x.lent) back)

module _ (whole : Bool) (m : ℕ) (keys classes out : List ℕ) {out' : List ℕ} {r : Answer} (call : WriteIn whole m keys classes out r out') (z : r.refusal ≡ 0) where
  pub write-promise : WritePromise m keys classes out r out'
  write-promise =
      let t = (write-answered whole m keys classes out call).0 z in
      let e = write-leaves whole m keys classes out t in
      record {
        number = call.answer ∙ ap (λ (x : After (Result ℕ Refused) (List ℕ)). of_count x.answer) e;
        long = length-file m keys classes (sym t.0.same);
        cells = call.cells ∙ ap (λ (x : After (Result ℕ Refused) (List ℕ)). x.lent) e;
      }

  -- what was written, read again where there is room, gives the same map
  pub write_read : Below (2 ^ 32) keys → (ks cs : List ℕ) {ks' cs' : List ℕ} {s : Answer}
      → ReadIn whole (take r.first out') ks cs s ks' cs' → length keys ≤ length ks → length keys ≤ length cs
      → (s ≡ values m (length keys)) × (ks' ≡ overwrite keys ks) × (cs' ≡ overwrite classes cs)
  write_read small ks cs again k l =
      let p = write-promise in
      let first = ap (λ (x : Answer). x.first) p.number in
      let e = written-read-lent whole m keys classes out small (write-leaves whole m keys classes out ((write-answered whole m keys classes out call).0 z)) ks cs k l in
      let back = rw (← first, ← p.cells) at e in (
        again.answer ∙ ap (λ (x : After (Result Header Refused) (List ℕ × List ℕ)). of_reading x.answer) back,
        ap (λ (x : List ℕ × List ℕ). x.0) again.cells ∙ ap (λ (x : After (Result Header Refused) (List ℕ × List ℕ)). x.lent.0) back,
        ap (λ (x : List ℕ × List ℕ). x.1) again.cells ∙ ap (λ (x : After (Result Header Refused) (List ℕ × List ℕ)). x.lent.1) back,
      )
