-- A search for the last end of a line, from the end of the first n bytes of a text.
-- Assumes nothing.
use mathlib.Core.Path.{◌≡◌, refl, sym, ap, ◌∙◌}
use mathlib.Core.List.{List}
use Prim.Native.Nat.{ℕ, ◌+◌, ◌-◌, ◌≤◌, ◌<◌}
use native.Mathlib.Numerals.{add-one}
use native.Mathlib.Omega.{arith}
use lib.ListN.{length, get_or, take}
use lib.Seq.{length-take-le}
use Rattle.std.specs.Prelude.{Option, Some, None, IsSomeAnd, IfSome}
use Rattle.std.specs.Option.{option_map}
use Rattle.std.proofs.lemmas.List.{get_or-take}
use Rattle.streams.specs.Streams.{lines_in}
use Rattle.streams.proofs.Pieces.{lines-last, lines-nowhere}

module _ {A : Type 0} (now : A → ℕ) (at : ℕ → Option A) (len : ℕ) (text : List ℕ) (n : ℕ) (within : n ≤ length text) (xs : List ℕ) (e : xs ≡ take n text)
    (reads : (k d : ℕ) → k < length xs → length xs - 1 - k < len → option_map now (at (length xs - 1 - k)) ≡ Some (get_or xs k d)) where
  -- the item that was met for byte k
  met : (k : ℕ) → k < n → n - 1 - k < len → (x : A) × (at (n - 1 - k) ≡ Some x) × (now x ≡ get_or text k 0)
  met k l m =
      let long : length xs ≡ n = ap length e ∙ length-take-le n text within in
      let read = reads k 0 (omega arith) (omega arith) in
      go (at (n - 1 - k)) refl (rw (long, e, get_or-take) at read)
    where
      go : (o : Option A) → at (n - 1 - k) ≡ o → option_map now o ≡ Some (get_or text k 0) → (x : A) × (at (n - 1 - k) ≡ Some x) × (now x ≡ get_or text k 0)
      go None a h = cc
      go (Some x) a h = (x, a, cc)

  -- the first item that is an end of a line, at place j, was met for byte i
  pub found : {Hit Miss : A → Type 0} {j : ℕ} (i : ℕ) → i < n → j ≡ n - 1 - i → j < len → IsSomeAnd (at j) Hit → ((k : ℕ) → k < j → IsSomeAnd (at k) Miss)
      → ((x : A) → Hit x → now x ≡ 10) → ((x : A) → Miss x → now x ≡ 10 → ⊥) → lines_in text n ≡ i + 1
  found i l same m hit miss ends other =
      let last = met i l (omega arith) in
      let end : get_or text i 0 ≡ 10 = sym last.2 ∙ ends last.0 (rw (same, last.1) at hit) in
      rw add-one (lines-last text n i l end (λ k a b. let item = met k b (omega arith) in
      λ e. other item.0 (rw item.1 at (miss (n - 1 - k) (omega arith))) (item.2 ∙ e)))

  -- none was
  pub nowhere : {Miss : A → Type 0} → len ≡ n → ((k : ℕ) → IfSome (at k) Miss) → ((x : A) → Miss x → now x ≡ 10 → ⊥) → lines_in text n ≡ 0
  nowhere all miss other = lines-nowhere text n (λ k l. let item = met k l (omega arith) in
      λ e. other item.0 (rw item.1 at (miss (n - 1 - k))) (item.2 ∙ e))
