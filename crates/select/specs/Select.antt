-- Selecting a class: for each maximal block its own key, or the keys of records inside it.
-- Assumes nothing.
use Rattle.std.specs.Prelude.{Bool, true, cond, ◌&&◌, List, [], ◌∷◌, ◌++◌, map, ℕ, length, get_or, Result, Ok}
use Rattle.lists.specs.Lists.{up_from, any, keep}
use Rattle.answers.specs.declared.Refused.{Refused}
use Rattle.answers.specs.Refusals.{refuse}
use Rattle.answers.specs.After.{After, room_for, tiled_for}
use Rattle.key.specs.Form.{form_of}
use Rattle.window.specs.declared.Window.{Window}
use Rattle.window.specs.Keys.{keys_of}
use Rattle.map.specs.Spans.{within}
use Rattle.map.specs.Classes.{classed}
use Rattle.used.specs.Used.{used_in}

module _ (m : ℕ) (keys classes : List ℕ) (class : ℕ) where
  -- record n has the class, and the block of a key lies in it
  unfoldable pub around : ℕ → ℕ → Bool
  around key n = classed classes class n && within (form_of m key) (form_of m (get_or keys n 0))

  -- record n has the class and lies in the block of a key
  unfoldable pub inside : ℕ → ℕ → Bool
  inside key n = classed classes class n && within (form_of m (get_or keys n 0)) (form_of m key)

  -- of the block of a key: its own key if it lies in a record of the class, else the keys of the records inside it that have the class, in map order
  unfoldable pub selected : ℕ → List ℕ
  selected key =
      let records = up_from 0 (length keys) in
      cond (any (around key) records) (key ∷ []) (map (λ n. get_or keys n 0) (keep (inside key) records))

  -- the same of blocks, one after another
  unfoldable pub all_selected : List ℕ → List ℕ
  all_selected [] = []
  all_selected (k ∷ ks) = selected k ++ all_selected ks

-- the keys to select: those of the window's maximal blocks, in their order
unfoldable pub selection : ℕ → ℕ → List ℕ → List ℕ → Window → ℕ → List ℕ
selection m top keys classes W class = all_selected m keys classes class (keys_of m top W)

-- ---- the call

-- keys in a slice that has room for them; or refusal 8, and the slice as it was
abbrev pub keys_into : List ℕ → List ℕ → After (Result ℕ Refused) (List ℕ)
keys_into ks = room_for refuse (Ok (length ks)) ks

-- select with blocks of exponent up to `top`, where these are the keys to select: how many there are, and the keys in their cells
unfoldable pub select_keys : Bool → List ℕ → ℕ → ℕ → List ℕ → ℕ → Window → List ℕ → List ℕ → After (Result ℕ Refused) (List ℕ × List ℕ)
select_keys whole ks m top keys classes W border out =
    tiled_for refuse m top (border, out) (used_in whole refuse (Ok (length ks)) ks m keys classes W border out)

-- on a whole map
abbrev pub select_tiled : ℕ → ℕ → List ℕ → List ℕ → Window → ℕ → List ℕ → List ℕ → After (Result ℕ Refused) (List ℕ × List ℕ)
select_tiled m top keys classes W class = select_keys true (selection m top keys classes W class) m top keys (length classes) W

-- select with blocks as large as the picture has
abbrev pub select_of : ℕ → List ℕ → List ℕ → Window → ℕ → List ℕ → List ℕ → After (Result ℕ Refused) (List ℕ × List ℕ)
select_of m = select_tiled m m
