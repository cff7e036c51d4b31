-- Whether a key is that of a maximal block of the window, by the square that it names: from its corner on the walk then comes to that block first.
-- Assumes nothing.
use mathlib.Core.Path.{◌≡◌, refl, sym, ◌∙◌}
use mathlib.Core.Logic.{◌↔◌}
use mathlib.Core.List.{List, Memᴰ}
use Prim.Native.Nat.{ℕ}
use native.Mathlib.Omega.{arith}
use Rattle.key.specs.declared.Square.{Square}
use Rattle.key.specs.Picture.{Px, place}
use Rattle.key.specs.Key.{block_key}
use Rattle.key.specs.Blocks.{Names, SquareOf}
use Rattle.key.proofs.Laws.{one_key, square-names}
use Rattle.window.specs.declared.Block.{Block}
use Rattle.window.specs.declared.Window.{Window}
use Rattle.window.specs.Window.{In, Inside}
use Rattle.window.specs.Blocks.{exponent, corner}
use Rattle.window.specs.Walk.{corner_of, GoesOn, Ends}
use Rattle.window.specs.Keys.{key_of, keys_of}
use Rattle.window.proofs.Laws.{key-at, pixel-in, key-named, key-block, key-listed, goes-corner, goes-own, goes_some}
use Rattle.map.specs.Sound.{Follow}
use Rattle.map.specs.Records.{pixel_record}
use Rattle.map.specs.Runs.{run_of}
use Rattle.border.proofs.Laws.{first-at}

module _ {m : ℕ} {W : Window} (I : Inside m W) {key : ℕ} {q : Square} (S : SquareOf m key q) where
  abbrev p : Px
  p = (q.row, q.col)

  -- a key that is listed names its square
  pub listed-names : Memᴰ key (keys_of m m W) → Names m key q.exponent (place q.row q.col)
  listed-names n = square-names S (key-block I (omega arith) n).3

  listed : Memᴰ key (keys_of m m W) → In W p × (corner W m p ≡ p) × (q.exponent ≡ exponent W m p)
  listed n = (key-listed I {top = m} (omega arith) S.pixel (listed-names n)).0 n

  pub unlisted-outside : (In W (q.row, q.col) → ⊥) → Memᴰ key (keys_of m m W) → ⊥
  unlisted-outside out n = out (listed n).0

  pub unlisted-ended : {t : Px} → Ends W m (q.row, q.col) t → Memᴰ key (keys_of m m W) → ⊥
  unlisted-ended g n = let t = listed n in goes_some t.0 t.1 g

  module _ {b : Block} {t : Px} (g : GoesOn W m (q.row, q.col) b t) where
    found : block_key m b.exponent b.row b.col ≡ key_of m m W (corner_of b)
    found = key-at m m W (corner_of b) g.largest

    pub listed_next : (block_key m b.exponent b.row b.col ≡ key) ↔ Memᴰ key (keys_of m m W)
    listed_next = (to, from)
      where
        to : block_key m b.exponent b.row b.col ≡ key → Memᴰ key (keys_of m m W)
        to e =
            let v = g.inside in
            let c = goes-corner g in
            rw (sym e ∙ found) ((key-listed I {top = m} (omega arith) (pixel-in I v) (key-named I (omega arith) v c)).1 (v, c, refl))

        from : Memᴰ key (keys_of m m W) → block_key m b.exponent b.row b.col ≡ key
        from n =
            let t = listed n in
            let own = goes-own t.0 t.1 g in
            let e : key_of m m W p ≡ key = one_key (key-named I (omega arith) t.0 t.1) (rw t.2 at (listed-names n)) in
            found ∙ rw (own.0, own.1) e

  -- the record of its corner is the first that overlaps it
  pub corner-first : {keys : List ℕ} → Follow m 0 keys → Memᴰ key (keys_of m m W) → {i : ℕ} → i ≡ pixel_record m keys q.row q.col → i ≡ (run_of m keys key).first
  corner-first F n e = e ∙ first-at F I (omega arith) n (listed-names n)
