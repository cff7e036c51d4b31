-- What is covered when some maximal blocks have been gone through: the pixels whose tile one of the blocks brings. A record's pixel is in a record handed out, and a pixel in no
-- record is in an opened block.
-- Assumes nothing.
use mathlib.Core.Path.{◌≡◌, refl, sym, ap, ◌∙◌}
use mathlib.Core.Logic.{◌↔◌, ◌⊎◌, inl, inr, ⊎_elim}
use mathlib.Core.List.Memᴰ
use mathlib.Core.List.{List, [], ◌++◌, map, Memᴰ}
use Prim.Native.Nat.{ℕ, ◌≤◌}
use native.Mathlib.Omega.{arith}
use Rattle.key.specs.Picture.{place, Px}
use Rattle.window.specs.declared.Window.{Window}
use Rattle.window.specs.Window.{In, Inside}
use Rattle.window.specs.Blocks.{corner, maximal}
use Rattle.window.specs.Keys.{key_of}
use Rattle.map.specs.Sound.{Spaced}
use Rattle.map.specs.Records.{pixel_record}
use Rattle.map.proofs.Laws.{Holder, Free, pixel_tile, find, record_of_lem, tile-of, tile-none, tile-record}
use Rattle.border.specs.Openings.{Opening, all_hands}
use Rattle.border.specs.Promises.{opening_at}
use Rattle.border.specs.Border.{Handed, opened_by, InOpened, CoveredBy, Covered}
use Rattle.border.specs.Step.{Corner}
use Rattle.border.proofs.Gone.{handed_by}
use Rattle.border.proofs.Overlaps.{block-holds}
use Rattle.border.proofs.Fold.{opening-key, opens-none, opens-or-lies, opened-block, handed-opened}
use Rattle.border.proofs.Hands.{hands_none, hands-append}
use Rattle.border.proofs.Handing.{Brought, listed-corner, corner-listed, skip-pixel, handed-by, brought-free}

-- at the start nothing is covered
pub none-covered : (m top : ℕ) (keys : List ℕ) (W : Window) {p : Px} → ¬ Covered m top keys W [] p
none-covered m top keys W (inl l) = Memᴰ.not-nil (rw (opens-none m keys [], hands_none) at l)
none-covered m top keys W (inr o) = Memᴰ.not-nil (rw (opens-none m keys []) at o.listed)

-- two lists of openings cover what one of them does
pub covered-append : (m : ℕ) (keys : List ℕ) (os os' : List Opening) {p : Px} → CoveredBy m keys (os ++ os') p ↔ (CoveredBy m keys os p ⊎ CoveredBy m keys os' p)
covered-append m keys os os' {p} = (to, from)
  where
    to : CoveredBy m keys (os ++ os') p → CoveredBy m keys os p ⊎ CoveredBy m keys os' p
    to (inl l) = ⊎_elim (λ k. inl (inl k)) (λ k. inr (inl k)) (Memᴰ.append_cases (all_hands os) (rw (hands-append os os') at l))
    to (inr o) =
        ⊎_elim (λ k. inl (inr (record { by = o.by; listed = k; has = o.has }))) (λ k. inr (inr (record { by = o.by; listed = k; has = o.has })))
        (Memᴰ.append_cases os o.listed)

    from : CoveredBy m keys os p ⊎ CoveredBy m keys os' p → CoveredBy m keys (os ++ os') p
    from (inl (inl l)) = inl (rw (hands-append os os') (Memᴰ.append_left _ l))
    from (inl (inr o)) = inr (record { by = o.by; listed = Memᴰ.append_left _ o.listed; has = o.has })
    from (inr (inl l)) = inl (rw (hands-append os os') (Memᴰ.append_right (all_hands os) l))
    from (inr (inr o)) = inr (record { by = o.by; listed = Memᴰ.append_right os o.listed; has = o.has })

module _ {m top : ℕ} {keys : List ℕ} (F : Spaced m 0 keys) {W : Window} (I : Inside m W) (small : top ≤ m) where
  module _ (bs : List Px) (C : (b : Px) → Memᴰ b bs → Corner W top b) {p : Px} (v : In W p) where
    abbrev q : ℕ
    q = place p.0 p.1

    pub brought-handed : Holder m keys q → Brought m top keys W bs (pixel_tile m keys p.0 p.1) → Handed m keys (handed_by m top keys W bs) p
    brought-handed H o = Memᴰ.cast (record_of_lem F H ∙ sym (tile-of F H)) ((handed-by F I small bs C _).1 (o, omega (arith, tile-of F H, H.is.within)))

    -- of a skipped block each tile is handed out, and so is that of a record
    brought-opened : Free m keys q → Memᴰ (corner W top p) bs → InOpened m (opened_by m top keys W bs) p
    brought-opened f l =
        let K = C (corner W top p) l in
        ⊎_elim
        (λ o. record { by = opening_at m top keys W (corner W top p); listed = o; has = rw (opening-key m keys (key_of m top W (corner W top p))) ((block-holds F I small K v).1 refl) })
        (λ e. absurd (omega (arith, tile-none F f, ((handed-by F I small bs C _).0 (skip-pixel F I small bs C v K e)).1)))
        (opens-or-lies m keys [] (map (key_of m top W) bs) (Memᴰ.map (key_of m top W) l))

    pub covered-is : Covered m top keys W bs p ↔ Brought m top keys W bs (pixel_tile m keys p.0 p.1)
    covered-is = (to, λ o. from o (find F q))
      where
        to : Covered m top keys W bs p → Brought m top keys W bs (pixel_tile m keys p.0 p.1)
        to (inl l) = let h = (handed-by F I small bs C (pixel_record m keys p.0 p.1)).0 (rw (handed-opened m top keys W bs) l) in rw (tile-record m keys q h.1) h.0
        to (inr o) =
            let t = opened-block m top keys W bs o.listed in
            let k : o.by.key ≡ key_of m top W t.0 = ap (λ (x : Opening). x.key) t.2 ∙ opening-key m keys (key_of m top W t.0) in
            let e : corner W top p ≡ t.0 = (block-holds F I small (C t.0 t.1) v).0 (rw k at o.has) in
            record { at = p; inside = v; listed = rw e t.1; is = refl }

        from : Brought m top keys W bs (pixel_tile m keys p.0 p.1) → Holder m keys q ⊎ Free m keys q → Covered m top keys W bs p
        from o (inl H) = inl (rw (handed-opened m top keys W bs) at (brought-handed H o))
        from o (inr f) = inr (brought-opened f (brought-free F I small v f o))

  -- in the end all is covered
  pub all-covered : {p : Px} → In W p → Covered m top keys W (maximal W top) p
  all-covered {p} v = (covered-is (maximal W top) (λ b l. listed-corner l) v).1 (record { at = p; inside = v; listed = corner-listed top v; is = refl })
