-- What the openings of a window hand out: the records that overlap the window, each once.
-- Assumes nothing.
use mathlib.Core.Path.{◌≡◌, refl, sym, ◌∙◌}
use mathlib.Core.Logic.{◌↔◌, ◌≢◌}
use mathlib.Core.List.Memᴰ
use mathlib.Core.List.{List, map, Memᴰ}
use Prim.Native.Nat.{ℕ, ◌≤◌}
use Rattle.lists.specs.Lists.{Ordered, none, more}
use Rattle.lists.proofs.Laws.{ordered-append, up-distinct}
use Rattle.key.specs.Picture.{Px}
use Rattle.window.specs.declared.Window.{Window}
use Rattle.window.specs.Window.{Inside}
use Rattle.window.specs.Blocks.{maximal}
use Rattle.window.specs.Promises.{Before}
use Rattle.window.specs.Keys.{key_of}
use Rattle.map.specs.Sound.{Spaced}
use Rattle.map.proofs.Laws.{pixel_tile, tiles}
use Rattle.border.specs.Openings.{met, Opening, openings, all_hands}
use Rattle.border.specs.Promises.{Overlaps, opening_at, HandedOut, Apart}
use Rattle.border.specs.Step.{Corner}
use Rattle.border.proofs.Gone.{handed_by}
use Rattle.border.proofs.Sweep.{Out, Now, now-fresh}
use Rattle.border.proofs.Overlaps.{met-pixels}
use Rattle.border.proofs.Fold.{openings-are, handed-opened}
use Rattle.border.proofs.Hands.{in-hands}
use Rattle.border.proofs.Handing.{listed-corner, handed-all}
use Rattle.border.proofs.Chosen.{chosen}

pub records-out : (m top : ℕ) (keys : List ℕ) (W : Window) → handed_by m top keys W (maximal W top) ≡ all_hands (openings m top keys W)
records-out m top keys W = rw (openings-are m top keys W) (handed-opened m top keys W (maximal W top))

-- openings that are apart hand out different records
all-distinct : {os : List Opening} → Ordered Apart os → Ordered ◌≢◌ (all_hands os)
unfolding all_hands
all-distinct none = none
all-distinct (more {x = o} {l = os} h k) =
    ordered-append (up-distinct o.first o.count) (all-distinct k) (λ x y l n e. let t = (in-hands os y).0 n in h t.by t.listed x l (rw e t.hands))

module _ {m top : ℕ} {keys : List ℕ} (F : Spaced m 0 keys) {W : Window} (I : Inside m W) (small : top ≤ m) where
  -- ---- which records

  -- a record overlaps the window exactly when some opening hands it out
  pub hands-all : (n : ℕ) → Overlaps m keys W n ↔ HandedOut (openings m top keys W) n
  hands-all n =
      let all = handed-all F I small n in
      let some = in-hands (openings m top keys W) n in
      let e = records-out m top keys W in
      (λ t. some.0 (rw e at (all.1 t)), λ h. all.0 (rw e (some.1 h)))

  -- ---- each once

  -- a block that overlaps record n brings its pixels
  pub met-now : {b p : Px} (n : ℕ) → Corner W top b → Memᴰ n (met m keys (key_of m top W b)) → pixel_tile m keys p.0 p.1 ≡ n → Now W top (pixel_tile m keys) b p
  met-now n C l e = let o = ((met-pixels F I small C n).0 l).0 in record { at = o.at; inside = o.inside; block = o.block; same = o.is ∙ sym e }

  -- of two blocks, the later one opened while its corner was not out, the openings are apart
  blocks-apart : {b b' : Px} → Corner W top b → Corner W top b' → Before b b' → ¬ Out W top (pixel_tile m keys) b' b'
      → Apart (opening_at m top keys W b) (opening_at m top keys W b')
  blocks-apart {b} {b'} C C' h f n l l' =
      let o = ((met-pixels F I small C n).0 l).0 in
      now-fresh I (tiles F) C' o.inside f
      (met-now n C' l' o.is)
      (record { at = o.at; inside = o.inside; early = rw o.block h; same = refl })

  -- no record is handed out twice
  pub hands-once : Ordered Apart (openings m top keys W)
  hands-once = rw (chosen F I small).are (go (chosen F I small).order (λ b l. listed-corner ((chosen F I small).from b l)) (chosen F I small).fresh)
    where
      go : {bs : List Px} → Ordered Before bs → ((b : Px) → Memᴰ b bs → Corner W top b) → ((b : Px) → Memᴰ b bs → ¬ Out W top (pixel_tile m keys) b b)
          → Ordered Apart (map (opening_at m top keys W) bs)
      go none C f = none
      go (more {x = b} {l = bs} h o) C f = more late (go o (λ x l. C x (Memᴰ.tail l)) (λ x l. f x (Memᴰ.tail l)))
        where
          late : (y : Opening) → Memᴰ y (map (opening_at m top keys W) bs) → Apart (opening_at m top keys W b) y
          late y l =
              let t = Memᴰ.of_map (opening_at m top keys W) bs l in
              rw (← t.2) (blocks-apart (C b (Memᴰ.head refl)) (C t.0 (Memᴰ.tail t.1)) (h t.0 t.1) (f t.0 (Memᴰ.tail t.1)))

  pub records-once : Ordered ◌≢◌ (all_hands (openings m top keys W))
  records-once = all-distinct hands-once
