-- Where the map has gaps: the openings that bring no record are exactly the maximal blocks that no record overlaps.
-- Assumes nothing.
use mathlib.Core.Path.{◌≡◌, sym, ap, ap₂, ◌∙◌}
use mathlib.Core.Logic.{◌↔◌, ◌⊎◌, inl, inr, ⊎_elim}
use mathlib.Core.Bool.{true}
use mathlib.Core.List.Memᴰ
use mathlib.Core.List.{List, [], Memᴰ}
use Prim.Native.Nat.{ℕ, ◌^◌, ◌≤◌, ◌<◌}
use native.Mathlib.Decide.{dec_lt}
use native.Mathlib.Omega.{arith}
use lib.ListN.{get_or}
use Rattle.lists.proofs.Laws.{never, refuted}
use Rattle.key.specs.Picture.{place}
use Rattle.key.specs.Form.{form_of}
use Rattle.key.specs.Blocks.{Names}
use Rattle.key.proofs.Laws.{pow-least}
use Rattle.window.specs.declared.Window.{Window}
use Rattle.window.specs.Window.{Inside}
use Rattle.window.specs.Blocks.{exponent}
use Rattle.window.specs.Keys.{keys_of}
use Rattle.window.proofs.Laws.{key-block}
use Rattle.map.specs.Spans.{overlap, within}
use Rattle.map.specs.Sound.{Spaced}
use Rattle.map.specs.Runs.{run_of}
use Rattle.map.proofs.Laws.{Record, Overlap, Meets, record-at, overlap-is, within-is, block-records}
use Rattle.border.specs.Openings.{Opening, made, is_handed, opening, open_from, openings}
use Rattle.border.specs.Promises.{Unmet}
use Rattle.border.proofs.Gone.{handed_after}
use Rattle.border.proofs.Fold.{openings-from, opens_in, opens-or-lies, hands-opens, handed-lies}
use Rattle.border.proofs.Hands.{in-hands}
use Rattle.border.proofs.Once.{hands-all}

module _ {m : ℕ} {keys : List ℕ} (F : Spaced m 0 keys) {key i s : ℕ} (B : Names m key i s) where
  meets : Meets m keys i s (run_of m keys key).first (run_of m keys key).count
  meets = block-records F B

  -- a block that no record overlaps
  pub unmet-none : Unmet m keys key → (run_of m keys key).count ≡ 0
  unmet-none U = go (dec_lt 0 (run_of m keys key).count)
    where
      go : Dec (0 < (run_of m keys key).count) → (run_of m keys key).count ≡ 0
      go (yes l) =
          let R = record-at F (run_of m keys key).first (omega (arith, meets.room)) in
          let o = (meets.exactly R.is).1 (omega arith) in
          absurd (never (sym ((overlap-is B R.is.names).1 o) ∙ U.none _ R.is.within))
      go (no h) = omega (arith, h)

  -- is opened with first index 0 and count 0
  unmet-opening : Unmet m keys key → opening m keys key ≡ made key 0 0
  unfolding opening
  unmet-opening U = ap₂ (made key) (meets.empty (unmet-none U)) (unmet-none U)

  -- and no other is
  opening-unmet : made key 0 0 ≡ opening m keys key → Unmet m keys key
  unfolding opening
  opening-unmet e = record { none = λ n l. refuted _ (λ o. none n (record-at F n l).is o) }
    where
      none : (n : ℕ) {j t : ℕ} → Record m keys n j t → overlap (form_of m key) (form_of m (get_or keys n 0)) ≡ true → ⊥
      none n R o = let z = ap (λ (x : Opening). x.count) e in let h = (meets.exactly R).0 ((overlap-is B R.names).0 o) in omega (arith, z, h)

  -- it lies in no record
  unmet-lies : Unmet m keys key → {n j t : ℕ} → Record m keys n j t → within (form_of m key) (form_of m (get_or keys n 0)) ≡ true → ⊥
  unmet-lies U {n} {j} {t} R w =
      let h = (within-is B R.names).0 w in
      let shared : Overlap s (4 ^ i) t (4 ^ j) = record { left = omega (arith, h.most, pow-least 3 i); right = omega (arith, h.least, pow-least 3 i) } in
      never (sym ((overlap-is B R.names).1 shared) ∙ U.none n R.within)

module _ {m top : ℕ} {keys : List ℕ} (F : Spaced m 0 keys) {W : Window} (I : Inside m W) (small : top ≤ m) where
  pub empty-is : (key : ℕ) → Memᴰ (made key 0 0) (openings m top keys W) ↔ (Memᴰ key (keys_of m top W) × Unmet m keys key)
  empty-is key = (to, from)
    where
      to : Memᴰ (made key 0 0) (openings m top keys W) → Memᴰ key (keys_of m top W) × Unmet m keys key
      to l =
          let t = opens_in m keys [] (keys_of m top W) (rw (openings-from m top keys W) at l) in
          (t.0, opening-unmet F (key-block I small t.0).3 t.1)

      from : Memᴰ key (keys_of m top W) × Unmet m keys key → Memᴰ (made key 0 0) (openings m top keys W)
      from (l, U) = rw (openings-from m top keys W) (⊎_elim (λ o. Memᴰ.cast (sym (unmet-opening F B U)) o) lies (opens-or-lies m keys [] (keys_of m top W) l))
        where
          B : Names m key (exponent W top (key-block I small l).0) (place (key-block I small l).0.0 (key-block I small l).0.1)
          B = (key-block I small l).3

          lies : is_handed m keys (handed_after m keys [] (keys_of m top W)) key ≡ true → Memᴰ (made key 0 0) (open_from m keys [] (keys_of m top W))
          lies h =
              let t = handed-lies m keys _ key (rw (hands-opens m keys [] (keys_of m top W), ← openings-from m top keys W) at h) in
              let out = (hands-all F I small t.0).1 ((in-hands (openings m top keys W) t.0).0 t.1) in
              absurd (unmet-lies F B U (record-at F t.0 out.1).is t.2)

  -- any other brings a record
  pub empty-or-brings : (o : Opening) → Memᴰ o (openings m top keys W) → (o ≡ made o.key 0 0) ⊎ (1 ≤ o.count)
  unfolding opening
  empty-or-brings o l = go (dec_lt 0 o.count)
    where
      t : Memᴰ o.key (keys_of m top W) × (o ≡ opening m keys o.key)
      t = opens_in m keys [] (keys_of m top W) (rw (openings-from m top keys W) at l)

      go : Dec (0 < o.count) → (o ≡ made o.key 0 0) ⊎ (1 ≤ o.count)
      go (yes h) = inr h
      go (no h) =
          let z : (run_of m keys o.key).count ≡ 0 = omega (arith, h, ap (λ (x : Opening). x.count) t.1) in
          inl (t.1 ∙ ap₂ (made o.key) ((block-records F (key-block I small t.0).3).empty z) z)
