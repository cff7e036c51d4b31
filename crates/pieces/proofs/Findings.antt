-- Whether a window has a class, along its maximal blocks, up to the first that has it.
-- Assumes nothing.
use mathlib.Core.Path.{◌≡◌, refl, sym, ap, ◌∙◌}
use mathlib.Core.Bool.{Bool, true, false, ◌||◌, or-false}
use mathlib.Core.List.Memᴰ
use mathlib.Core.List.{List, [], ◌∷◌, ◌++◌, Memᴰ}
use Prim.Native.Nat.{ℕ, ◌+◌, ◌-◌, ◌^◌}
use native.Mathlib.Omega.{arith}
use lib.Dec.{eqb}
use Rattle.std.specs.Prelude.{Some, None}
use Rattle.lists.specs.Lists.{up_from, any}
use Rattle.lists.proofs.Laws.{never, any_none, any_next, any_append, has-any}
use Rattle.key.specs.Picture.{place, Px}
use Rattle.window.specs.declared.Window.{Window}
use Rattle.window.specs.declared.Block.{Block}
use Rattle.window.specs.Window.{Inside}
use Rattle.window.specs.Blocks.{exponent, maximal}
use Rattle.window.specs.Walk.{corner_of, GoesOn}
use Rattle.window.specs.Rules.{exists_by}
use Rattle.window.proofs.Laws.{walked-split, exists-blocks}
use Rattle.walk.specs.declared.MaximalBlocks.{MaximalBlocks}
use Rattle.walk.specs.Steps.{Steps}
use Rattle.walk.proofs.Laws.{Walks, walks-first, walks-goes, walks-next, walks-last}
use Rattle.map.specs.Classes.{not_seen}
use Rattle.pieces.specs.declared.Looked.{Looked}
use Rattle.pieces.specs.Pieces.{seen_in, Looks, Finds}

module _ (f : ℕ → ℕ) (W : Window) (m k : ℕ) where
  -- a place of the block has the class
  pub block_has : Px → Bool
  block_has b = any (λ q. eqb (f q) k) (up_from (place b.0 b.1) (4 ^ exponent W m b))

  block-seen : (b : Block) {first end : ℕ} → b.exponent ≡ exponent W m (corner_of b) → first ≡ place b.row b.col → end ≡ place b.row b.col + 4 ^ b.exponent
      → block_has (corner_of b) ≡ seen_in f first end k
  unfolding block_has seen_in
  block-seen b {first} {end} e h z = let d : end - first ≡ 4 ^ b.exponent = omega arith in rw (d, h, e)

  blocks-all : Inside m W → any block_has (maximal W m) ≡ exists_by f W k
  unfolding block_has
  blocks-all I = sym (exists-blocks I {top = m} (omega arith) f k)

pub record Finding (f : ℕ → ℕ) (k m : ℕ) (W : Window) (s : MaximalBlocks) (unseen : Bool) : Type 0 where
  pub past : List Px
  pub walks : Walks W m past s
  pub none : any (block_has f W m k) past ≡ false
  pub known : unseen ≡ any (block_has f W m not_seen) past

module _ {f : ℕ → ℕ} {k m : ℕ} {W : Window} (I : Inside m W) where
  pub finding-first : {s : MaximalBlocks} → (s.window ≡ W) × (s.top ≡ m) × (s.row ≡ W.r0) × (s.col ≡ W.c0) → Finding f k m W s false
  finding-first start = record { past = []; walks = walks-first I start; none = any_none (block_has f W m k); known = sym (any_none (block_has f W m not_seen)) }

  module _ {s : MaximalBlocks} {unseen : Bool} (L : Finding f k m W s unseen) where
    pub finding-goes : {b : Block} {t : MaximalBlocks} → Steps s (Some b) t → GoesOn W m (s.row, s.col) b (t.row, t.col)
    finding-goes g = walks-goes L.walks g

    module _ {b : Block} {t : MaximalBlocks} (g : Steps s (Some b) t) {first end : ℕ} (h : first ≡ place b.row b.col) (z : end ≡ place b.row b.col + 4 ^ b.exponent)
        {q : Looked} (S : Looks f first end k q) where
      here : (j : ℕ) → block_has f W m j (corner_of b) ≡ seen_in f first end j
      here j = block-seen f W m j b (finding-goes g).largest h z

      pub finding-yes : q.has ≡ true → Finds f W k q
      finding-yes e = record { has = e ∙ sym all; unseen = λ d. never (sym e ∙ d) }
        where
          listed : Memᴰ (corner_of b) (maximal W m)
          listed = rw (walked-split L.walks.walked (finding-goes g)) (Memᴰ.append_right L.past (Memᴰ.head refl))

          all : exists_by f W k ≡ true
          all = sym (blocks-all f W m k I) ∙ has-any (block_has f W m k) listed (here k ∙ sym S.has ∙ e)

      pub finding-next : q.has ≡ false → Finding f k m W t (unseen || q.unseen)
      finding-next e = record {
        past = L.past ++ (corner_of b ∷ []);
        walks = walks-next L.walks g;
        none = more k ∙ rw (L.none, here k) (sym S.has ∙ e);
        known = sym (more not_seen ∙ rw (here not_seen, S.unseen e, L.known));
      }
        where
          more : (j : ℕ) → any (block_has f W m j) (L.past ++ (corner_of b ∷ [])) ≡ any (block_has f W m j) L.past || block_has f W m j (corner_of b)
          more j =
              rw (
                any_append (block_has f W m j) L.past (corner_of b ∷ []),
                any_next (block_has f W m j) (corner_of b) [],
                any_none (block_has f W m j),
                or-false (block_has f W m j (corner_of b)),
              )

    pub finding-no : {t : MaximalBlocks} → Steps s None t → Finds f W k (record { has = false; unseen = unseen })
    finding-no g = record { has = sym (all k L.none); unseen = λ e. sym (all not_seen (sym L.known)) }
      where
        all : (j : ℕ) {b : Bool} → any (block_has f W m j) L.past ≡ b → exists_by f W j ≡ b
        all j e = sym (blocks-all f W m j I) ∙ ap (any (block_has f W m j)) (walks-last L.walks g) ∙ e
