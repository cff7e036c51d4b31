-- What is selected from blocks, one after another: part by part, and one block more.
-- Assumes nothing.
use mathlib.Core.Path.{◌≡◌, refl, sym, ◌∙◌}
use mathlib.Core.List.{List, [], ◌∷◌, ◌++◌, map, flat_map, Memᴰ}
use Prim.Native.Nat.{ℕ, ◌+◌, ◌≤◌}
use lib.ListN.{length}
use Rattle.lists.proofs.Laws.{flat-next, flat-none, flat-last, flat-room, flat_in, in-flat, flat-map}
use Rattle.key.specs.Picture.{Px}
use Rattle.window.specs.declared.Window.{Window}
use Rattle.window.specs.Blocks.{maximal}
use Rattle.window.specs.Keys.{key_of}
use Rattle.window.proofs.Laws.{keys-of}
use Rattle.select.specs.Select.{selected, all_selected, selection}

module _ (m : ℕ) (keys classes : List ℕ) (class : ℕ) where
  pub all_none : all_selected m keys classes class [] ≡ []
  unfolding all_selected
  all_none = refl

  pub all_cons : (k : ℕ) (ks : List ℕ) → all_selected m keys classes class (k ∷ ks) ≡ selected m keys classes class k ++ all_selected m keys classes class ks
  unfolding all_selected
  all_cons k ks = refl

  -- as each element of a list makes its own
  pub all-flat : (ks : List ℕ) → all_selected m keys classes class ks ≡ flat_map (selected m keys classes class) ks
  all-flat [] = all_none ∙ sym (flat-none (selected m keys classes class))
  all-flat (k ∷ ks) = all_cons k ks ∙ rw (all-flat ks) (sym (flat-next (selected m keys classes class) k ks))

  -- from which block
  pub all_in : (ks : List ℕ) {x : ℕ} → Memᴰ x (all_selected m keys classes class ks) → (k : ℕ) × Memᴰ k ks × Memᴰ x (selected m keys classes class k)
  all_in ks l = flat_in (selected m keys classes class) ks (rw (all-flat ks) at l)

  pub in_all : {ks : List ℕ} {k x : ℕ} → Memᴰ k ks → Memᴰ x (selected m keys classes class k) → Memᴰ x (all_selected m keys classes class ks)
  in_all {ks} l n = rw (all-flat ks) (in-flat (selected m keys classes class) l n)

  module _ (top : ℕ) (W : Window) where
    abbrev pub selected_by : List Px → List ℕ
    selected_by bs = all_selected m keys classes class (map (key_of m top W) bs)

    -- of a block by its corner
    abbrev of : Px → List ℕ
    of b = selected m keys classes class (key_of m top W b)

    by-flat : (bs : List Px) → selected_by bs ≡ flat_map (λ b. selected m keys classes class (key_of m top W b)) bs
    by-flat bs = all-flat (map (key_of m top W) bs) ∙ flat-map (selected m keys classes class) (key_of m top W) bs

    pub selection-is : selection m top keys classes W class ≡ selected_by (maximal W top)
    unfolding selection
    selection-is = rw (keys-of m top W)

    pub selection-flat : selection m top keys classes W class ≡ flat_map (λ b. selected m keys classes class (key_of m top W b)) (maximal W top)
    selection-flat = selection-is ∙ by-flat (maximal W top)

    -- one block more
    pub selected-snoc : (past : List Px) (b : Px) → selected_by (past ++ (b ∷ [])) ≡ selected_by past ++ selected m keys classes class (key_of m top W b)
    selected-snoc past b = rw (by-flat (past ++ (b ∷ [])), by-flat past) (flat-last of past b)

    -- what is past and what one block gives are of the whole
    pub selected-room : (past : List Px) (b : Px) (rest : List Px) → maximal W top ≡ past ++ b ∷ rest
        → length (selected_by past) + length (selected m keys classes class (key_of m top W b)) ≤ length (selection m top keys classes W class)
    selected-room past b rest e = rw (selection-is, e, by-flat (past ++ b ∷ rest), by-flat past) (flat-room of past b rest)
