-- Which errors may pass, and where texts are cut, computed from the definitions.
-- Assumes nothing.
use mathlib.Core.Bool.{true, false}
use mathlib.Core.Path.{◌≡◌, refl}
use mathlib.Core.List.{List, [], ◌∷◌}
use Prim.Native.Nat.{ℕ}
use lib.IntN.{pos, negsuc}
use Rattle.streams.specs.Streams.{passing, lines_in, piece_of}

-- two lines, and a third that has no end
abbrev text : List ℕ
text = 65 ∷ 10 ∷ 66 ∷ 67 ∷ 10 ∷ 68 ∷ []

pub record Examples : Type 0 where
  pub interrupted : passing (pos 4) ≡ true
  pub not-ready : passing (pos 11) ≡ true
  pub no-space : passing (pos 28) ≡ false
  pub negative : passing (negsuc 3) ≡ false
  pub both-lines : lines_in text 6 ≡ 5
  pub one_line : lines_in text 4 ≡ 2
  pub no_line : lines_in text 1 ≡ 0
  pub all : piece_of 6 text ≡ 6
  pub cut : piece_of 4 text ≡ 2
  pub within-a-line : piece_of 1 text ≡ 1

pub examples : Examples
unfolding passing lines_in piece_of
examples = record {
  interrupted = refl;
  not-ready = refl;
  no-space = refl;
  negative = refl;
  both-lines = refl;
  one_line = refl;
  no_line = refl;
  all = refl;
  cut = refl;
  within-a-line = refl;
}
