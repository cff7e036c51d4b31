-- How long a file is, test by test as the functions decide it, and within which bounds.
-- Assumes nothing.
use mathlib.Core.Path.{◌≡◌, sym, ap, ◌∙◌}
use mathlib.Core.List.{List, []}
use Prim.Native.Nat.{ℕ, ◌≤◌, ◌<◌}
use native.Mathlib.Decide.{dec_lt}
use native.Mathlib.Omega.{arith}
use lib.ListN.{length, take}
use borrow.Author.Tests.{lt-ltb, le-ltb}
use Rattle.std.specs.Prelude.{Some, None}
use Rattle.numbers.specs.Numbers.{number}
use Rattle.numbers.proofs.Laws.{number-take}
use Rattle.input.specs.Input.{announced_of, whole_of}

module _ (file : List ℕ) where
  pub announced-short : number 4 file < 4 → announced_of file ≡ None
  unfolding announced_of
  announced-short l = rw (lt-ltb (number 4 file) 4 l)

  module _ (l : 4 ≤ number 4 file) where
    pub announced-long : length file < number 4 file → announced_of file ≡ None
    unfolding announced_of
    announced-long m = rw (le-ltb (number 4 file) 4 l, lt-ltb (length file) (number 4 file) m)

    pub announced-fits : number 4 file ≤ length file → announced_of file ≡ Some (number 4 file)
    unfolding announced_of
    announced-fits m = rw (le-ltb (number 4 file) 4 l, le-ltb (length file) (number 4 file) m)

  pub announced-bounds : {n : ℕ} → announced_of file ≡ Some n → (4 ≤ n) × (n ≤ length file)
  announced-bounds {n} e = go (dec_lt (number 4 file) 4) (dec_lt (length file) (number 4 file))
    where
      go : Dec (number 4 file < 4) → Dec (length file < number 4 file) → (4 ≤ n) × (n ≤ length file)
      go (yes h) g = let none = sym (announced-short h) ∙ e in cc
      go (no h) (yes g) = let none = sym (announced-long (omega (arith, h)) g) ∙ e in cc
      go (no h) (no g) = let same : number 4 file ≡ n = let some = sym (announced-fits (omega (arith, h)) (omega (arith, g))) ∙ e in cc in omega (arith, h, g)

-- the first four bytes say it, and how much room there is
pub announced-same : (file file' : List ℕ) → take 4 file ≡ take 4 file' → length file ≡ length file' → announced_of file ≡ announced_of file'
unfolding announced_of
announced-same file file' e l =
    let first : number 4 file ≡ number 4 file' = sym (number-take 4 file) ∙ ap (number 4) e ∙ number-take 4 file' in
    rw (first, l)

module _ (bytes : List ℕ) (got : ℕ) where
  pub whole-none : announced_of bytes ≡ None → whole_of bytes got ≡ []
  unfolding whole_of
  whole-none e = rw e

  module _ {n : ℕ} (e : announced_of bytes ≡ Some n) where
    pub whole-cut : got < n → whole_of bytes got ≡ []
    unfolding whole_of
    whole-cut l = rw (e, lt-ltb got n l)

    pub whole-all : n ≤ got → whole_of bytes got ≡ take n bytes
    unfolding whole_of
    whole-all l = rw (e, le-ltb got n l)
