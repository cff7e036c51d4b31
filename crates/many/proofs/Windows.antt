-- The windows in a list of numbers: how many there are, the first of them, and those of two lists one behind the other.
-- Assumes nothing.
use mathlib.Core.Path.{◌≡◌, refl, sym, ap, ap₂, ◌∙◌}
use mathlib.Core.List.Memᴰ
use mathlib.Core.List.{List, [], ◌∷◌, ◌++◌, map, map-append, Memᴰ}
use Prim.Native.Nat.{ℕ, zero, suc, ◌+◌, ◌-◌, ◌*◌, ◌/◌, ◌<◌}
use native.Mathlib.Nat.{zero-add}
use native.Mathlib.Omega.{arith}
use lib.ListN.{length, get_or, drop, length-append, length-map, get_or-append}
use lib.Seq.{get_or-append-add}
use Rattle.std.proofs.lemmas.List.{get_or-take, get_or-drop}
use Rattle.std.specs.Simd.{first_chunks}
use Rattle.lists.specs.Lists.{up_from}
use Rattle.lists.proofs.Laws.{up_none, up_next, up_one, up_in, up-length, up-append, map_same}
use Rattle.window.specs.declared.Window.{Window}
use Rattle.window.specs.Window.{window_from}
use Rattle.many.specs.Many.{window_at, windows_in}

module _ (cells : List ℕ) where
  -- those from window i on, n of them
  abbrev pub windows_from : ℕ → ℕ → List Window
  windows_from i n = map (window_at cells) (up_from i n)

  pub windows-all : windows_in cells ≡ windows_from 0 (length cells / 4)
  unfolding windows_in
  windows-all = refl

  pub windows-count : (i n : ℕ) → length (windows_from i n) ≡ n
  windows-count i n = length-map (up_from i n) (window_at cells) ∙ up-length i n

  pub windows-length : length (windows_in cells) ≡ length cells / 4
  windows-length = ap length windows-all ∙ windows-count 0 (length cells / 4)

  pub windows-first : windows_from 0 0 ≡ []
  windows-first = ap (map (window_at cells)) (up_none 0)

  -- the first i, and then k from there on
  windows-cut : (i k : ℕ) → windows_from 0 (i + k) ≡ windows_from 0 i ++ windows_from i k
  windows-cut i k = let e = up-append 0 i k in rw e (rw (zero-add i) (map-append (window_at cells) (up_from 0 i) (up_from i k)))

  -- with one window more
  pub windows-next : (i : ℕ) → windows_from 0 (i + 1) ≡ windows_from 0 i ++ window_at cells i ∷ []
  windows-next i = windows-cut i 1 ∙ rw (up_one i)

  -- window i stands behind the i before it
  pub windows-split : (i : ℕ) → i < length (windows_in cells) → windows_in cells ≡ windows_from 0 i ++ window_at cells i ∷ windows_from (suc i) (length (windows_in cells) - suc i)
  windows-split i l =
      let n : ℕ = length (windows_in cells) in
      let all : length cells / 4 ≡ i + suc (n - suc i) = omega (arith, l, windows-length) in
      windows-all ∙ ap (windows_from 0) all ∙ windows-cut i (suc (n - suc i)) ∙ rw (up_next i (n - suc i))

  pub windows-in : (i : ℕ) → i < length (windows_in cells) → Memᴰ (window_at cells i) (windows_in cells)
  windows-in i l = rw windows-all (Memᴰ.map (window_at cells) ((up_in 0 (length cells / 4) i).1 (omega (arith, l, windows-length))))

-- ---- by fours

four-of : (n : ℕ) (cells : List ℕ) (i : ℕ) → i < n → window_from (get_or (first_chunks 4 n cells) i []) 0 ≡ window_at cells i
four-of zero cells i l = absurd (omega (arith, l))
four-of (suc n) cells zero l =
    rw (get_or-take 4 cells 0 0 (omega arith), get_or-take 4 cells 1 0 (omega arith), get_or-take 4 cells 2 0 (omega arith), get_or-take 4 cells 3 0 (omega arith)) refl
four-of (suc n) cells (suc i) l =
    let same : (k : ℕ) → get_or (drop 4 cells) (4 * i + k) 0 ≡ get_or cells (4 * suc i + k) 0 = λ k.
    let e : 4 * suc i + k ≡ 4 + (4 * i + k) = omega arith in
    rw e (get_or-drop 4 cells (4 * i + k) 0) in
    let z : (x : ℕ) → x + 0 ≡ x = λ x. omega arith in
    four-of n (drop 4 cells) i (omega (arith, l)) ∙ rw (rw (z (4 * i), z (4 * suc i)) at (same 0), same 1, same 2, same 3)

-- window i of the list is that of its cells by fours
pub four-at : (cells : List ℕ) {fours : List (List ℕ)} → fours ≡ first_chunks 4 (length cells / 4) cells → {i : ℕ} → i < length cells / 4
    → window_from (get_or fours i []) 0 ≡ window_at cells i
four-at cells e {i} l = rw e (four-of (length cells / 4) cells i l)

-- ---- two lists, one behind the other

module _ (xs ys : List ℕ) (n : ℕ) (fours : length xs ≡ 4 * n) where
  front : (i : ℕ) → i < n → window_at (xs ++ ys) i ≡ window_at xs i
  front i l =
      let same : (k : ℕ) → k < 4 * n → get_or (xs ++ ys) k 0 ≡ get_or xs k 0 = λ k h. get_or-append xs ys 0 k (omega (arith, fours, h)) in
      rw (same (4 * i) (omega arith), same (4 * i + 1) (omega arith), same (4 * i + 2) (omega arith), same (4 * i + 3) (omega arith))

  behind : (j : ℕ) → window_at (xs ++ ys) (n + j) ≡ window_at ys j
  behind j =
      let same : (k : ℕ) → get_or (xs ++ ys) (4 * (n + j) + k) 0 ≡ get_or ys (4 * j + k) 0 = λ k.
      let e : 4 * (n + j) + k ≡ length xs + (4 * j + k) = omega (arith, fours) in
      rw e (get_or-append-add xs ys (4 * j + k) 0) in
      let z : (x : ℕ) → x + 0 ≡ x = λ x. omega arith in
      rw (rw (z (4 * (n + j)), z (4 * j)) at (same 0), same 1, same 2, same 3)

  behind-all : (j k : ℕ) → windows_from (xs ++ ys) (n + j) k ≡ windows_from ys j k
  behind-all j zero = rw (up_none (n + j), up_none j)
  behind-all j (suc k) =
      let e : suc (n + j) ≡ n + suc j = omega arith in
      rw (up_next (n + j) k, up_next j k, e) (ap₂ ◌∷◌ (behind j) (behind-all (suc j) k))

  pub windows-append : windows_in (xs ++ ys) ≡ windows_in xs ++ windows_in ys
  windows-append =
      let e : length (xs ++ ys) / 4 ≡ n + length ys / 4 = simp length-append (omega (arith, fours)) in
      let d : length xs / 4 ≡ n = omega (arith, fours) in
      let z : n ≡ n + 0 = omega arith in
      let one : windows_from (xs ++ ys) 0 n ≡ windows_in xs = map_same (up_from 0 n) (λ i l. front i (omega (arith, (up_in 0 n i).0 l))) ∙ rw (windows-all xs, d) in
      let two : windows_from (xs ++ ys) n (length ys / 4) ≡ windows_in ys =
      ap (λ (k : ℕ). windows_from (xs ++ ys) k (length ys / 4)) z ∙ behind-all 0 (length ys / 4) ∙ sym (windows-all ys) in
      windows-all (xs ++ ys) ∙ ap (windows_from (xs ++ ys) 0) e ∙ windows-cut (xs ++ ys) n (length ys / 4) ∙ ap₂ ◌++◌ one two
