-- What is selected from a window: no key twice, no more keys than maximal blocks and records, and blocks that hold exactly the window's pixels of the class. Maximal blocks share no
-- pixel.
-- Assumes nothing.
use mathlib.Core.Path.{◌≡◌, refl, sym, ◌∙◌, subst}
use mathlib.Core.Logic.{◌↔◌, ◌⊎◌, inl, inr, ◌≢◌}
use mathlib.Core.Bool.{true}
use mathlib.Core.List.Memᴰ
use mathlib.Core.List.{List, ◌++◌, map, Memᴰ}
use Prim.Native.Nat.{ℕ, ◌+◌, ◌*◌, ◌/◌, ◌^◌, ◌≤◌, ◌<◌}
use native.Mathlib.Omega.{arith}
use lib.ListN.{length, get_or, length-map, length-append}
use Rattle.lists.specs.Lists.{Ordered, none, more}
use Rattle.lists.proofs.Laws.{ordered-append, pigeon, get_or-in}
use Rattle.key.specs.Picture.{place, Px}
use Rattle.key.specs.Form.{form_of}
use Rattle.key.specs.Blocks.{Names, Among}
use Rattle.key.proofs.Laws.{PixelAt, one_block, block-lies, place-onto, pow-least}
use Rattle.window.specs.declared.Window.{Window}
use Rattle.window.specs.Window.{In, Inside}
use Rattle.window.specs.Blocks.{exponent, maximal}
use Rattle.window.specs.Promises.{Before}
use Rattle.window.specs.Keys.{key_of}
use Rattle.window.proofs.Laws.{blocks-few, blocks-capped, before-irrefl, →listed, listed-ordered, block_of, block_one, key-named, pixel-in, maximal-most}
use Rattle.map.specs.Spans.{holds}
use Rattle.map.specs.Sound.{Follow, Spaced}
use Rattle.map.specs.Records.{pixel_record}
use Rattle.map.proofs.Laws.{Holder, spaced, record_of_lem, pixel-holder, holds-is}
use Rattle.border.specs.Step.{Corner}
use Rattle.border.proofs.Laws.{spans, listed-corner}
use Rattle.select.specs.Select.{selected, selection}
use Rattle.select.proofs.Blockwise.{all_none, all_cons, all_in, in_all, selected_by, selection-is}
use Rattle.select.proofs.Chosen.{SelectedPart, part-record, selected-part, selected-place, selected-one, selected-once}

module _ {m top : ℕ} {keys : List ℕ} (F : Spaced m 0 keys) {W : Window} (I : Inside m W) (small : top ≤ m) where
  named : {b : Px} → Corner W top b → Names m (key_of m top W b) (exponent W top b) (place b.0 b.1)
  named C = key-named I small C.inside C.own

  -- maximal blocks that share a place are one
  pub one-corner : {b b' : Px} {q : ℕ} → Corner W top b → Corner W top b'
      → Among (place b.0 b.1) (4 ^ exponent W top b) q → Among (place b'.0 b'.1) (4 ^ exponent W top b') q → b ≡ b'
  one-corner {b} {b'} {q} C C' h h' = go (place-onto m q (omega (arith, (block-lies (named C)).span)))
    where
      go : PixelAt m q → b ≡ b'
      go a =
          let p : Px = (a.row, a.col) in
          let of = (spans F I small C {p = p} a.pixel).0 (rw a.is h) in
          let of' = (spans F I small C' {p = p} a.pixel).0 (rw a.is h') in
          block_one W top (→listed W top C.inside C.own) (→listed W top C'.inside C'.own) of of'

  module _ (classes : List ℕ) (class : ℕ) where
    -- each key comes from a maximal block, and is part of it
    record From (x : ℕ) (bs : List Px) : Type 0 where
      corner : Px
      listed : Memᴰ corner bs
      own : Corner W top corner
      gives : Memᴰ x (selected m keys classes class (key_of m top W corner))
      part : SelectedPart m keys classes class (key_of m top W corner) (exponent W top corner) (place corner.0 corner.1) x

    from : (bs : List Px) → ((b : Px) → Memᴰ b bs → Corner W top b) → {x : ℕ} → Memᴰ x (selected_by m keys classes class top W bs) → From x bs
    from bs C {x} l =
        let t = all_in m keys classes class (map (key_of m top W) bs) l in
        let u = Memᴰ.of_map (key_of m top W) bs t.1 in
        let own = C u.0 u.1 in
        let gives = subst (λ (k : ℕ). Memᴰ x (selected m keys classes class k)) (sym u.2) t.2 in
        record { corner = u.0; listed = u.1; own = own; gives = gives; part = selected-part F classes class (named own) gives }

    -- of blocks in their order no key comes twice
    once : {bs : List Px} → Ordered Before bs → ((b : Px) → Memᴰ b bs → Corner W top b) → Ordered ◌≢◌ (selected_by m keys classes class top W bs)
    once none C = rw (all_none m keys classes class) none
    once (more {x = b} {l = bs} h o) C =
        rw (all_cons m keys classes class (key_of m top W b) (map (key_of m top W) bs))
        (ordered-append (selected-once F classes class (named own)) (once o (λ y l. C y (Memᴰ.tail l))) apart)
      where
        own : Corner W top b
        own = C b (Memᴰ.head refl)

        apart : (x y : ℕ) → Memᴰ x (selected m keys classes class (key_of m top W b)) → Memᴰ y (selected_by m keys classes class top W bs) → x ≢ y
        apart x y l n e =
            let f = from bs (λ z k. C z (Memᴰ.tail k)) n in
            let P = selected-part F classes class (named own) l in
            let Q = f.part in
            let d = one_block (subst (λ (k : ℕ). Names m k P.exponent P.start) e P.names) Q.names in
            before-irrefl (h f.corner f.listed)
            (one-corner {q = P.start} own f.own (omega (arith, P.in-block, pow-least 3 P.exponent)) (omega (arith, Q.in-block, d.1, pow-least 3 Q.exponent)))

    -- no key is selected twice
    pub selection-once : Ordered ◌≢◌ (selection m top keys classes W class)
    selection-once = rw (selection-is m keys classes class top W) (once (listed-ordered W top) (λ b l. listed-corner l))

    chosen : {x : ℕ} → Memᴰ x (selection m top keys classes W class) → From x (maximal W top)
    chosen l = from (maximal W top) (λ b h. listed-corner h) (rw (selection-is m keys classes class top W) at l)

    -- each is that of a maximal block or of a record
    pub selection-from : {x : ℕ} → Memᴰ x (selection m top keys classes W class) → Memᴰ x (map (key_of m top W) (maximal W top) ++ keys)
    selection-from {x} l = go (chosen l) (chosen l).part.own
      where
        go : (f : From x (maximal W top)) → (x ≡ key_of m top W f.corner) ⊎ (x ≡ get_or keys f.part.index 0) → Memᴰ x (map (key_of m top W) (maximal W top) ++ keys)
        go f (inl e) = Memᴰ.append_left keys (Memᴰ.cast e (Memᴰ.map (key_of m top W) f.listed))
        go f (inr e) = Memᴰ.append_right (map (key_of m top W) (maximal W top)) (Memᴰ.cast e (get_or-in keys f.part.index f.part.is.within))

    -- so there are no more than blocks and records
    pub selection-most : length (selection m top keys classes W class) ≤ length (maximal W top) + length keys
    selection-most =
        let blocks : List ℕ = map (key_of m top W) (maximal W top) in
        let p = pigeon ◌≡◌ (blocks ++ keys) selection-once (λ x l. (x, selection-from l, refl)) (λ x y k l n e d. e ∙ sym d) in
        omega (arith, length-append blocks keys, length-map (maximal W top) (key_of m top W))

    pub selection-fits : Inside 12 W → length keys ≤ 65536 → length (selection m top keys classes W class) ≤ 16842752
    selection-fits J few = omega (arith, selection-most, maximal-most W top J)

    -- ---- the pixels of the class

    -- where a selected key's block holds a pixel of the window, the pixel's record has the class
    pub selection-has : (p : Px) {x : ℕ} → Memᴰ x (selection m top keys classes W class) → holds (place p.0 p.1) (form_of m x) ≡ true
        → get_or classes (pixel_record m keys p.0 p.1) 0 ≡ class
    selection-has p l e =
        let P = (chosen l).part in
        rw (part-record F P ((holds-is (place p.0 p.1) P.names).0 e)) P.has

    -- and where a record has the class, some selected key's block holds each of its pixels in the window
    pub selection-holds : {p : Px} → In W p → (H : Holder m keys (place p.0 p.1)) → get_or classes H.index 0 ≡ class
        → (x : ℕ) × Memᴰ x (selection m top keys classes W class) × (holds (place p.0 p.1) (form_of m x) ≡ true)
    selection-holds {p} v H e =
        let b = block_of W top v in
        let C = listed-corner b.1 in
        let t = selected-place F classes class (named C) H e ((spans F I small C {p = p} (pixel-in I v)).1 b.2) in
        (t.0, rw (selection-is m keys classes class top W) (in_all m keys classes class (Memᴰ.map (key_of m top W) b.1) t.1), t.2)

    -- and no two of these blocks share a place
    pub selection-one : (q : ℕ) {x y : ℕ} → Memᴰ x (selection m top keys classes W class) → Memᴰ y (selection m top keys classes W class)
        → holds q (form_of m x) ≡ true → holds q (form_of m y) ≡ true → x ≡ y
    selection-one q l n h k =
        let f = chosen l in
        let g = chosen n in
        let a = (holds-is q f.part.names).0 h in
        let b = (holds-is q g.part.names).0 k in
        let c = one-corner {q = q} f.own g.own (omega (arith, f.part.in-block)) (omega (arith, g.part.in-block)) in
        selected-one F classes class (named f.own) q f.gives (rw c g.gives) h k

-- there are fewer keys than 4 (w + h), as many as there is room for tiles, and the records together
pub selection-capped : {m top : ℕ} {keys : List ℕ} → Spaced m 0 keys → {W : Window} → Inside m W → top ≤ m → (classes : List ℕ) (class : ℕ)
    → length (selection m top keys classes W class) < 4 * (W.w + W.h) + W.w * W.h / 4 ^ top + length keys
selection-capped {m} {top} F {W} I small classes class = omega (arith, selection-most {top = top} F I small classes class, blocks-capped W top I)

-- and without a cap fewer than 4 (w + h) and the records
pub selection-few : {m : ℕ} {keys : List ℕ} → Spaced m 0 keys → {W : Window} → Inside m W → (classes : List ℕ) (class : ℕ)
    → length (selection m m keys classes W class) < 4 * (W.w + W.h) + length keys
selection-few {m} F {W} I classes class = omega (arith, selection-most {top = m} F I (omega arith) classes class, blocks-few W m I)

-- in a whole map a pixel of the window has the class exactly when some selected key's block holds it
pub selection-pixels : {m top : ℕ} {keys : List ℕ} → Follow m 0 keys → {W : Window} → Inside m W → top ≤ m → (classes : List ℕ) (class : ℕ) {p : Px} → In W p
    → (get_or classes (pixel_record m keys p.0 p.1) 0 ≡ class)
    ↔ ((x : ℕ) × Memᴰ x (selection m top keys classes W class) × (holds (place p.0 p.1) (form_of m x) ≡ true))
selection-pixels F I small classes class {p} v =
    let H = pixel-holder F (pixel-in I v) in
    (λ e. selection-holds (spaced F) I small classes class v H (rw (record_of_lem (spaced F) H) at e), λ t. selection-has (spaced F) I small classes class p t.1 t.2)
