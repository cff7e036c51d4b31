-- What is promised of many windows that were answered in one call.
-- Assumes nothing.
use Rattle.std.specs.Prelude.{◌≡◌, ◌↔◌, List, [], ◌∷◌, ◌++◌, ℕ, ◌+◌, ◌*◌, ◌<◌, length, get_or, take, drop}
use Rattle.window.specs.Window.{Inside}
use Rattle.many.specs.Many.{window_at, windows_in}
use Rattle.many.specs.Promises.{LeftIn}
use Rattle.lutniorad.specs.declared.Answer.{Answer}
use Rattle.lutniorad.specs.Numbers.{values}
use Rattle.lutniorad.specs.Calls.{Open, Report}

-- a call on a window had room enough: it is refused neither for its border nor for its slice
abbrev pub Roomy : Answer → Type 0
Roomy r = (r.refusal ≡ 7 → ⊥) × (r.refusal ≡ 8 → ⊥)

-- many windows, of which window i has five cells from 5i on
pub record WindowsPromise (m : ℕ) (keys classes windows border out : List ℕ) (r : Answer) (border' out' : List ℕ) : Type 0 where
  -- `first` is their number
  pub number : r ≡ values (length (windows_in windows)) 0
  pub fours : length windows ≡ 4 * r.first
  -- the first four cells are what opening that window returns, called with any slices that have room enough
  pub opened : (i : ℕ) → i < r.first → (b o : List ℕ) {s : Answer} {b' o' : List ℕ} → Open m keys classes (window_at windows i) b o s b' o' → Roomy s
      → take 4 (drop (5 * i) out') ≡ s.refusal ∷ s.place ∷ s.first ∷ s.second ∷ []
  -- the fifth is the number of pixels that report returns, called so
  pub reported : (i : ℕ) → i < r.first → (b o : List ℕ) {s : Answer} {b' o' : List ℕ} → Report m keys classes (window_at windows i) b o s b' o' → Roomy s
      → get_or out' (5 * i + 4) 0 ≡ s.first
  -- a window that does not lie inside the picture is refused alone
  pub refused-alone : (i : ℕ) → i < r.first → ¬ Inside m (window_at windows i) → take 5 (drop (5 * i) out') ≡ 6 ∷ 0 ∷ 0 ∷ 0 ∷ 0 ∷ []
  -- cells beyond keep their content
  pub beyond : drop (5 * r.first) out' ≡ drop (5 * r.first) out
  -- in each border cell stands x exactly when it is what the last window left there that lies inside the picture and reaches it, or where there is none what was there
  pub border-after : (j x : ℕ) → (get_or border' j 0 ≡ x) ↔ LeftIn m (windows_in windows) border j x
  pub border-long : length border' ≡ length border

-- a list of windows and its two parts, called one after the other with one border: the lines of the whole are those of the parts, and the border is the same
pub record WindowsJoined (r : Answer) (border out : List ℕ) (r₁ : Answer) (one : List ℕ) (r₂ : Answer) (border₂ two : List ℕ) : Type 0 where
  pub numbers : r.first ≡ r₁.first + r₂.first
  pub lines : take (5 * r.first) out ≡ take (5 * r₁.first) one ++ take (5 * r₂.first) two
  pub border-after : border ≡ border₂
