-- How few the openings of a window are. Those that bring a record bring all that overlap the window, and no fewer maximal blocks do; all together are no more than the maximal blocks,
-- and hand out no more records than there are.
-- Assumes nothing.
use mathlib.Core.Path.{◌≡◌, refl, sym, ◌∙◌}
use mathlib.Core.Logic.{⊎_elim}
use mathlib.Core.Bool.{Bool}
use mathlib.Core.List.Memᴰ
use mathlib.Core.List.{List, map, Memᴰ}
use Prim.Native.Nat.{ℕ, ◌+◌, ◌*◌, ◌/◌, ◌^◌, ◌≤◌, ◌<◌}
use native.Mathlib.Omega.{arith}
use lib.Dec.{ltb}
use lib.ListN.{length, length-map}
use borrow.Author.Tests.{ltb-true}
use Rattle.lists.specs.Lists.{up_from, keep}
use Rattle.lists.proofs.Laws.{ordered-imp, ordered-keep, keep-in, keep-true, pigeon, up_in, up-length}
use Rattle.key.specs.Picture.{Px}
use Rattle.window.specs.declared.Window.{Window}
use Rattle.window.specs.Window.{Inside}
use Rattle.window.specs.Blocks.{maximal}
use Rattle.window.specs.Promises.{Before}
use Rattle.window.specs.Keys.{key_of, keys_of}
use Rattle.window.proofs.Laws.{before-irrefl, trichotomy, keys-of, blocks-few, blocks-capped}
use Rattle.map.specs.Sound.{Spaced}
use Rattle.map.proofs.Laws.{tiles}
use Rattle.border.specs.Openings.{met, Opening, openings, handed_count, hands, all_hands}
use Rattle.border.specs.Promises.{Overlaps, opening_at, HandedOut, bringing, Enough}
use Rattle.border.specs.Step.{Corner}
use Rattle.border.proofs.Sweep.{clash}
use Rattle.border.proofs.Overlaps.{met-pixels}
use Rattle.border.proofs.Fold.{opening-own}
use Rattle.border.proofs.Hands.{in-hands, hands-count, bringing-in, bringing-hands, bringing-map, bringing-most}
use Rattle.border.proofs.Handing.{listed-corner}
use Rattle.border.proofs.Chosen.{Chosen, chosen}
use Rattle.border.proofs.Once.{hands-all, records-once, met-now}

module _ {m top : ℕ} {keys : List ℕ} (F : Spaced m 0 keys) {W : Window} (I : Inside m W) (small : top ≤ m) where
  -- ---- enough to bring all

  -- openings are, if they hand out all
  enough-by : (os : List Opening) → ((o : Opening) → Memᴰ o os → Memᴰ o (openings m top keys W)) → ((n : ℕ) → Overlaps m keys W n → HandedOut os n)
      → Enough m top keys W (map (λ o. o.key) os)
  enough-by os sub all = record {
    blocks = λ k l. let t = Memᴰ.of_map (λ (o : Opening). o.key) os l in Memᴰ.cast (sym t.2) (opening-own m top keys W (sub t.0 t.1)).0;
    brings = λ n t.
        let h = all n t in
        (h.by.key, Memᴰ.map (λ (o : Opening). o.key) h.listed, rw (opening-own m top keys W (sub h.by h.listed)).1 at h.hands);
  }

  pub openings-enough : Enough m top keys W (map (λ o. o.key) (openings m top keys W))
  openings-enough = enough-by (openings m top keys W) (λ o l. l) (λ n t. (hands-all F I small n).0 t)

  pub bringing-enough : Enough m top keys W (map (λ o. o.key) (bringing (openings m top keys W)))
  bringing-enough =
      let os = openings m top keys W in
      enough-by (bringing os) (λ o l. bringing-in os l) (λ n t. bringing-hands os ((hands-all F I small n).0 t))

  -- ---- no fewer maximal blocks are: none brings a record of each of two of them

  pub fewest : (s : List ℕ) → Enough m top keys W s → length (bringing (openings m top keys W)) ≤ length s
  fewest s E =
      rw (C.are, bringing-map (opening_at m top keys W) C.corners, length-map (keep some-count C.corners) (opening_at m top keys W))
      (pigeon Brings s (ordered-keep some-count (ordered-imp (λ x y h. before-irrefl h) C.order)) some one)
    where
      C : Chosen m top keys W (maximal W top) (openings m top keys W)
      C = chosen F I small

      some-count : Px → Bool
      some-count b = ltb 0 (opening_at m top keys W b).count

      own : {b : Px} → Memᴰ b (keep some-count C.corners) → Corner W top b
      own l = listed-corner (C.from _ (keep-in some-count C.corners l))

      -- the block of key k brings a record of the block with corner b
      Brings : Px → ℕ → Type 0
      Brings b k = (n : ℕ) × Memᴰ n (met m keys (key_of m top W b)) × Memᴰ k (keys_of m top W) × Memᴰ n (met m keys k)

      some : (b : Px) → Memᴰ b (keep some-count C.corners) → (k : ℕ) × Memᴰ k s × Brings b k
      some b l =
          let o = opening_at m top keys W b in
          let first : Memᴰ o.first (hands o) = (up_in o.first o.count o.first).1 (omega (arith, ltb-true 0 o.count (keep-true some-count C.corners l))) in
          let listed : Memᴰ o (openings m top keys W) = rw C.are (Memᴰ.map (opening_at m top keys W) (keep-in some-count C.corners l)) in
          let t = E.brings o.first ((hands-all F I small o.first).1 (record { by = o; listed = listed; hands = first })) in
          (t.0, t.1, (o.first, first, E.blocks t.0 t.1, t.2))

      not-both : {b b' : Px} {k : ℕ} → Memᴰ b (keep some-count C.corners) → Memᴰ b' (keep some-count C.corners) → Brings b k → Brings b' k → ¬ Before b b'
      not-both l l' (n, h, i, g) (n', h', i', g') =
          let y = Memᴰ.of_map (key_of m top W) (maximal W top) (rw (keys-of m top W) at i) in
          let p = ((met-pixels F I small (own l) n).0 h).0 in
          let p' = ((met-pixels F I small (own l') n').0 h').0 in
          clash I (tiles F) (own l) (own l') p.inside p.block p'.inside p'.block (C.fresh _ (keep-in some-count C.corners l'))
          (met-now F I small n (listed-corner y.1) (rw y.2 g) p.is) (met-now F I small n' (listed-corner y.1) (rw y.2 g') p'.is)

      one : (b b' : Px) (k : ℕ) → Memᴰ b (keep some-count C.corners) → Memᴰ b' (keep some-count C.corners) → Brings b k → Brings b' k → b ≡ b'
      one b b' k l l' x x' = ⊎_elim (λ h. absurd (not-both l l' x x' h)) (⊎_elim (λ e. e) (λ h. absurd (not-both l' l x' x h))) (trichotomy b b')

  -- ---- how many there are

  -- there are no more openings than maximal blocks
  pub openings-most : length (openings m top keys W) ≤ length (maximal W top)
  openings-most =
      let C = chosen F I small in
      rw (C.are, length-map C.corners (opening_at m top keys W))
      (pigeon ◌≡◌ (maximal W top) (ordered-imp (λ x y h. before-irrefl h) C.order) (λ b l. (b, C.from b l, refl)) (λ b b' x l l' e d. e ∙ sym d))

  -- and they hand out no more records than there are
  pub records-most : handed_count (openings m top keys W) ≤ length keys
  records-most =
      let below : (n : ℕ) → Memᴰ n (all_hands (openings m top keys W)) → n < length keys = λ n l. ((hands-all F I small n).1 ((in-hands (openings m top keys W) n).0 l)).1 in
      let all = up_from 0 (length keys) in
      let p = pigeon ◌≡◌ all (records-once F I small) (λ n l. (n, (up_in 0 (length keys) n).1 (omega (arith, below n l)), refl)) (λ n n' k l l' e d. e ∙ sym d) in
      omega (arith, hands-count (openings m top keys W), up-length 0 (length keys), p)

  -- so those openings that bring one are no more than the records
  pub bringing-records : length (bringing (openings m top keys W)) ≤ length keys
  bringing-records = omega (arith, bringing-most (openings m top keys W), records-most)

-- as the maximal blocks, the openings are fewer than 4 (w + h) and the area over 4 ^ top
pub openings-capped : {m top : ℕ} {keys : List ℕ} → Spaced m 0 keys → {W : Window} → Inside m W → top ≤ m
    → length (openings m top keys W) < 4 * (W.w + W.h) + W.w * W.h / 4 ^ top
openings-capped {top = top} F {W} I small = omega (arith, openings-most F I small, blocks-capped W top I)

-- and without a cap fewer than 4 (w + h)
pub openings-few : {m : ℕ} {keys : List ℕ} → Spaced m 0 keys → {W : Window} → Inside m W → length (openings m m keys W) < 4 * (W.w + W.h)
openings-few {m} F {W} I = omega (arith, openings-most {top = m} F I (omega arith), blocks-few W m I)
