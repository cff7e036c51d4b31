-- Why a maximal block is opened or skipped: each is one or the other, by the fold over the blocks in two parts, those before it and the rest. In a whole map it is so for one reason only.
-- Assumes nothing.
use mathlib.Core.Path.{◌≡◌, refl, sym, ap, ◌∙◌}
use mathlib.Core.Logic.{◌⊎◌, inl, inr}
use mathlib.Core.Bool.{Bool, true, false}
use mathlib.Core.List.Memᴰ
use mathlib.Core.List.{List, [], ◌∷◌, ◌++◌, Memᴰ}
use Prim.Native.Nat.{ℕ, ◌≤◌}
use native.Mathlib.Omega.{arith}
use lib.ListN.{length}
use Rattle.lists.specs.Promises.{Nth, here, later}
use Rattle.lists.specs.Lists.{Ordered, none, more}
use Rattle.lists.proofs.Laws.{ordered-front, Split, split, nth_of, nth_in, nth-less, nth-one, nth-front, nth-middle}
use Rattle.key.specs.Picture.{place, Px}
use Rattle.key.specs.Blocks.{Names}
use Rattle.key.proofs.Laws.{one_block}
use Rattle.window.specs.declared.Window.{Window}
use Rattle.window.specs.Window.{Inside}
use Rattle.window.specs.Blocks.{maximal}
use Rattle.window.specs.Keys.{key_of, keys_of}
use Rattle.window.proofs.Laws.{keys-of, pixel-in, key-named, keys-distinct}
use Rattle.map.specs.Sound.{Follow}
use Rattle.map.specs.Records.{record_of}
use Rattle.map.specs.Runs.{run_of}
use Rattle.map.proofs.Laws.{Holder, record_of_lem, tile-of, pixel-holder, spaced}
use Rattle.border.specs.Openings.{met, is_handed, Opening, opening, open_from, openings, hands}
use Rattle.border.specs.Promises.{HandedOut, HandedBy, OpenedAs, SkippedFor, Apart}
use Rattle.border.specs.Step.{Corner}
use Rattle.border.proofs.Gone.{handed_after}
use Rattle.border.proofs.Fold.{opening-key, opens-append, hands-opens, take-opens, handed-lies, opens_in, openings-from, opening-own}
use Rattle.border.proofs.Hands.{in-hands}
use Rattle.border.proofs.Overlaps.{met-pixels, met-first, in-record}
use Rattle.border.proofs.Handing.{listed-corner}
use Rattle.border.proofs.Once.{hands-all, hands-once}

-- a record that is handed out is handed out by one of the openings, which has a number
pub handed-number : {os : List Opening} {n : ℕ} → HandedOut os n → (k : ℕ) × HandedBy os k n
handed-number h = let t = nth_of h.listed in (t.0, record { by = h.by; at = t.1; hands = h.hands })

pub handed_out : {os : List Opening} {k n : ℕ} → HandedBy os k n → HandedOut os n
handed_out h = record { by = h.by; listed = nth_in h.at; hands = h.hands }

-- ---- opened or skipped

module _ (m top : ℕ) (keys : List ℕ) (W : Window) {key : ℕ} (s : Split (keys_of m top W) key) where
  abbrev made-before : List Opening
  made-before = open_from m keys [] s.front

  abbrev handed : List ℕ
  handed = handed_after m keys [] s.front

  parts : openings m top keys W ≡ made-before ++ open_from m keys handed (key ∷ s.back)
  parts = openings-from m top keys W ∙ rw s.is (opens-append m keys [] s.front (key ∷ s.back))

  opened : is_handed m keys handed key ≡ false → OpenedAs (openings m top keys W) key (length made-before)
  opened e = record { by = opening m keys key; at = rw (parts, take-opens m keys handed key s.back e) (nth-middle made-before _); is = opening-key m keys key }

  out : (n : ℕ) → Memᴰ n handed → HandedOut made-before n
  out n l = (in-hands made-before n).0 (rw (hands-opens m keys [] s.front) at l)

  skipped : is_handed m keys handed key ≡ true → (n : ℕ) × (k : ℕ) × SkippedFor m top keys W (openings m top keys W) key n k
  skipped e =
      let t = handed-lies m keys handed key e in
      let h = out t.0 t.1 in
      let x = nth_of h.listed in
      let by : HandedBy (openings m top keys W) x.0 t.0 = record { by = h.by; at = rw parts (nth-front _ x.1); hands = h.hands } in
      (t.0, x.0, record { lies = t.2; handed = by; before = s.front; later = s.back; split = s.is; earlier = (opens_in m keys [] s.front h.listed).0 })

  either : (t : Bool) → is_handed m keys handed key ≡ t
      → ((k : ℕ) × OpenedAs (openings m top keys W) key k) ⊎ ((n : ℕ) × (k : ℕ) × SkippedFor m top keys W (openings m top keys W) key n k)
  either false e = inl (length made-before, opened e)
  either true e = inr (skipped e)

-- each maximal block is in the list of openings, or lies in a record that the opening of an earlier one hands out
pub opened-or-skipped : (m top : ℕ) (keys : List ℕ) (W : Window) {key : ℕ} → Memᴰ key (keys_of m top W)
    → ((k : ℕ) × OpenedAs (openings m top keys W) key k) ⊎ ((n : ℕ) × (k : ℕ) × SkippedFor m top keys W (openings m top keys W) key n k)
opened-or-skipped m top keys W l = either m top keys W (split l) _ refl

-- ---- for one reason only

-- openings that are apart: a record is handed out by one number only
apart-one : {os : List Opening} → Ordered Apart os → {n k j : ℕ} → HandedBy os k n → HandedBy os j n → k ≡ j
apart-one none x y = absurd (omega (arith, nth-less x.at))
apart-one (more {x = o} {l = os} h p) {n} x y = go (λ i j a b. apart-one p {n = n} {k = i} {j = j} a b) x.hands y.hands x.at y.at
  where
    go : ((i j : ℕ) → HandedBy os i n → HandedBy os j n → i ≡ j)
        → {a b : Opening} {k j : ℕ} → Memᴰ n (hands a) → Memᴰ n (hands b) → Nth (o ∷ os) k a → Nth (o ∷ os) j b → k ≡ j
    go ih u v (here e d) (here e' d') = omega arith
    go ih u v (here e d) (later e' t) = absurd (h _ (nth_in t) n (rw d at u) v)
    go ih u v (later e s) (here e' d') = absurd (h _ (nth_in s) n (rw d' at v) u)
    go ih u v (later {j = i} e s) (later {j = i'} e' t) = omega (arith, ih i i' (record { by = _; at = s; hands = u }) (record { by = _; at = t; hands = v }))

module _ {m top : ℕ} {keys : List ℕ} (F : Follow m 0 keys) {W : Window} (I : Inside m W) (small : top ≤ m) where
  abbrev os : List Opening
  os = openings m top keys W

  pub handed-one : {k j n : ℕ} → HandedBy os k n → HandedBy os j n → k ≡ j
  handed-one = apart-one (hands-once (spaced F) I small)

  module _ {key : ℕ} (l : Memᴰ key (keys_of m top W)) where
    -- the block, by its corner, and the corner's record
    abbrev b : (c : Px) × Memᴰ c (maximal W top) × (key_of m top W c ≡ key)
    b = Memᴰ.of_map (key_of m top W) (maximal W top) (rw (keys-of m top W) at l)

    C : Corner W top b.0
    C = listed-corner b.1

    H : Holder m keys (place b.0.0 b.0.1)
    H = pixel-holder F (pixel-in I C.inside)

    first-is : (run_of m keys key).first ≡ H.index
    first-is = rw b.2 at (met-first (spaced F) I small C H)

    -- it is the record of the block's first place
    pub first-at : {i s : ℕ} → Names m key i s → record_of m keys s ≡ (run_of m keys key).first
    first-at n = let e = (one_block n (rw b.2 at (key-named I small C.inside C.own))).1 in rw e (record_of_lem (spaced F) H) ∙ sym first-is

    -- where the block is opened, that hands out the first record that overlaps it
    pub opened-first : {k : ℕ} → OpenedAs os key k → HandedBy os k (run_of m keys key).first
    opened-first {k} x =
        let own = (opening-own m top keys W (nth_in x.at)).1 in
        let at : met m keys x.by.key ≡ met m keys (key_of m top W b.0) = ap (met m keys) (x.is ∙ sym b.2) in
        let n = (met-pixels (spaced F) I small C H.index).1 (record { at = b.0; inside = C.inside; block = C.own; is = tile-of (spaced F) H }, H.is.within) in
        record { by = x.by; at = x.at; hands = rw (first-is, own, at) n }

    -- and where it is skipped, it is for that record
    pub skipped-first : {n k : ℕ} → SkippedFor m top keys W os key n k → n ≡ (run_of m keys key).first
    skipped-first {n} x =
        let below = ((hands-all (spaced F) I small n).1 (handed_out x.handed)).1 in
        let lies = rw (← b.2) at x.lies in
        sym ((in-record (spaced F) I small C n below).0 lies).0 ∙ tile-of (spaced F) H ∙ sym first-is

    pub opened_one : {k j : ℕ} → OpenedAs os key k → OpenedAs os key j → k ≡ j
    opened_one x y = handed-one (opened-first x) (opened-first y)

    pub skipped-one : {n k n' k' : ℕ} → SkippedFor m top keys W os key n k → SkippedFor m top keys W os key n' k' → (n ≡ n') × (k ≡ k')
    skipped-one {n} {k} {n'} {k'} x y =
        let e : n ≡ n' = skipped-first x ∙ sym (skipped-first y) in
        (e, handed-one (rw e at x.handed) y.handed)

    -- not both: the opening would be its own, and that of an earlier block
    pub not-both : {k n j : ℕ} → OpenedAs os key k → SkippedFor m top keys W os key n j → ⊥
    not-both {k} {n} {j} x y =
        let e : k ≡ j = handed-one (opened-first x) (rw (skipped-first y) at y.handed) in
        let d = nth-one (rw e at x.at) y.handed.at in
        ordered-front y.before y.later (rw y.split at (keys-distinct I small)) y.earlier (ap (λ (o : Opening). o.key) (sym d) ∙ x.is)
