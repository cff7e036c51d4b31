-- Openings are a function of the view, up to the indices: what they bring is found from the records that overlap the window alone. And it tells which these are.
-- Assumes nothing.
use mathlib.Core.Path.{◌≡◌, refl, sym, ap, ◌∙◌}
use mathlib.Core.Logic.{◌↔◌}
use mathlib.Core.Bool.{Bool, true, false, cond}
use mathlib.Core.List.Memᴰ
use mathlib.Core.List.{List, [], ◌∷◌, ◌++◌, map, map-append, Memᴰ}
use Prim.Native.Nat.{ℕ, zero, suc, ◌+◌, ◌*◌, ◌≤◌, ◌<◌}
use native.Mathlib.Omega.{arith}
use lib.ListN.{length, get_or, length-map}
use Rattle.lists.specs.Promises.{sum}
use Rattle.lists.specs.Lists.{up_from, any, keep}
use Rattle.lists.proofs.Laws.{up_in, up-length, keep-map, keep_run, keep_all, any-map, sum-none, sum-next}
use Rattle.key.specs.Picture.{place, Px}
use Rattle.key.specs.Form.{form_of}
use Rattle.key.specs.Blocks.{Names, Among}
use Rattle.window.specs.declared.Window.{Window}
use Rattle.window.specs.Window.{Inside}
use Rattle.window.specs.Blocks.{exponent, maximal}
use Rattle.window.specs.Keys.{key_of}
use Rattle.window.proofs.Laws.{keys-of, key-named}
use Rattle.map.specs.Spans.{within, overlap}
use Rattle.map.specs.Sound.{Spaced}
use Rattle.map.specs.Runs.{run_of}
use Rattle.map.proofs.Laws.{Meets, record-at, block-records, overlap-is}
use Rattle.border.specs.Openings.{is_handed, Opening, hands, met, open_from, openings, handed_count, cells_of}
use Rattle.border.specs.ViewPromises.{record_at, view, SameView, InView, opening_in, brought, meeting, brought_from, brought_by}
use Rattle.border.specs.Step.{Corner}
use Rattle.border.proofs.Fold.{opening-key, met-run, opens-none, skip-opens, take-opens, openings-are}
use Rattle.border.proofs.Handing.{listed-corner}
use Rattle.border.proofs.Once.{hands-all}
use Rattle.border.proofs.View.{keep-view, touched, views-one}

-- ---- openings by the view

module _ {m top : ℕ} {keys : List ℕ} (F : Spaced m 0 keys) {W : Window} (I : Inside m W) (small : top ≤ m) (classes : List ℕ) where
  abbrev seen : List (ℕ × ℕ)
  seen = view m keys classes W

  -- the records that overlap a maximal block are those of the view that do
  met-view : {b : Px} → Corner W top b → map (record_at keys classes) (met m keys (key_of m top W b)) ≡ meeting m seen (key_of m top W b)
  met-view {b} C =
      rw (met-run m keys k) (ap (map (record_at keys classes)) (sym (run ∙ whole)))
      ∙ sym (keep-map (λ r. test r.0) (record_at keys classes) (up_from 0 (length keys)))
      ∙ sym (keep-view F W classes (λ r. test r.0) (λ n l e. let R = record-at F n l in touched F I small C R.is ((overlap-is named R.is.names).0 e)))
    where
      k : ℕ
      k = key_of m top W b

      test : ℕ → Bool
      test x = overlap (form_of m k) (form_of m x)

      first : ℕ
      first = (run_of m keys k).first

      count : ℕ
      count = (run_of m keys k).count

      named : Names m k (exponent W top b) (place b.0 b.1)
      named = key-named I small C.inside C.own

      meets : Meets m keys (exponent W top b) (place b.0 b.1) first count
      meets = block-records F named

      among : (n : ℕ) → n < length keys → (test (get_or keys n 0) ≡ true) ↔ Among first count n
      among n l =
          let R = record-at F n l in
          let o = overlap-is named R.is.names in
          let x = meets.exactly R.is in
          (λ e. x.0 (o.0 e), λ a. o.1 (x.1 a))

      run : keep (λ n. test (get_or keys n 0)) (up_from 0 (length keys)) ≡ keep (λ n. test (get_or keys n 0)) (up_from first count)
      run = keep_run (λ n. test (get_or keys n 0)) first count (length keys) meets.room (λ n l e. let a = (among n l).0 e in (a.least, a.most))

      whole : keep (λ n. test (get_or keys n 0)) (up_from first count) ≡ up_from first count
      whole = keep_all (λ n. test (get_or keys n 0)) (up_from first count) (λ n l. let a = (up_in first count n).0 l in (among n (omega (arith, meets.room))).1 (omega arith))

  -- a block lies in one of the records handed out, by these records
  handed-brought : (out : List ℕ) (k : ℕ) → is_handed m keys out k ≡ any (λ r. within (form_of m k) (form_of m r.0)) (map (record_at keys classes) out)
  unfolding is_handed
  handed-brought out k = sym (any-map (λ r. within (form_of m k) (form_of m r.0)) (record_at keys classes) out)

  opens-view : (bs : List Px) → ((b : Px) → Memᴰ b bs → Corner W top b) → (out : List ℕ)
      → map (brought keys classes) (open_from m keys out (map (key_of m top W) bs)) ≡ brought_from m seen (map (record_at keys classes) out) (map (key_of m top W) bs)
  unfolding brought_from
  opens-view [] C out = rw (opens-none m keys out)
  opens-view (b ∷ bs) C out = rw (← handed-brought out k) (go (is_handed m keys out k) refl (opens-view bs (λ x l. C x (Memᴰ.tail l))))
    where
      k : ℕ
      k = key_of m top W b

      ks : List ℕ
      ks = map (key_of m top W) bs

      own : map (record_at keys classes) (met m keys k) ≡ meeting m seen k
      own = met-view (C b (Memᴰ.head refl))

      go : (t : Bool) → is_handed m keys out k ≡ t
          → ((h : List ℕ) → map (brought keys classes) (open_from m keys h ks) ≡ brought_from m seen (map (record_at keys classes) h) ks)
          → map (brought keys classes) (open_from m keys out (k ∷ ks))
          ≡ cond t (brought_from m seen (map (record_at keys classes) out) ks) ((k, meeting m seen k) ∷ brought_from m seen (map (record_at keys classes) out ++ meeting m seen k) ks)
      go true e ih = rw (skip-opens m keys out k ks e) (ih out)
      go false e ih =
          rw (take-opens m keys out k ks e, ← own, ← map-append (record_at keys classes) out (met m keys k), ← ih (out ++ met m keys k), opening-key m keys k)

  pub openings-view : map (brought keys classes) (openings m top keys W) ≡ brought_by m top W seen
  unfolding brought_by
  openings-view = rw (openings-are m top keys W, keys-of m top W) (opens-view (maximal W top) (λ b l. listed-corner l) [])

-- ---- what they tell

-- some opening brings the record
record Brings (r : ℕ × ℕ) (all : List (ℕ × List (ℕ × ℕ))) : Type 0 where
  by : ℕ × List (ℕ × ℕ)
  listed : Memᴰ by all
  has : Memᴰ r by.1

module _ {m top : ℕ} {keys : List ℕ} (F : Spaced m 0 keys) {W : Window} (I : Inside m W) (small : top ≤ m) (classes : List ℕ) where
  -- the records of the view are brought, and no other
  in-brought : (r : ℕ × ℕ) → InView m keys classes W r ↔ Brings r (map (brought keys classes) (openings m top keys W))
  in-brought r = (to, from)
    where
      to : InView m keys classes W r → Brings r (map (brought keys classes) (openings m top keys W))
      to v =
          let h = (hands-all F I small v.index).0 v.overlaps in
          record { by = brought keys classes h.by; listed = Memᴰ.map (brought keys classes) h.listed; has = rw (← v.is) (Memᴰ.map (record_at keys classes) h.hands) }

      from : Brings r (map (brought keys classes) (openings m top keys W)) → InView m keys classes W r
      from b =
          let o = Memᴰ.of_map (brought keys classes) (openings m top keys W) b.listed in
          let n = Memᴰ.of_map (record_at keys classes) (hands o.0) (rw (← o.2) at b.has) in
          record { index = n.0; overlaps = (hands-all F I small n.0).1 (record { by = o.0; listed = o.1; hands = n.1 }); is = n.2 }

-- on two maps openings bring the same exactly when the view is the same
pub openings-tell : {m top : ℕ} {keys keys' : List ℕ} → Spaced m 0 keys → Spaced m 0 keys' → {W : Window} → Inside m W → top ≤ m → (classes classes' : List ℕ)
    → (map (brought keys classes) (openings m top keys W) ≡ map (brought keys' classes') (openings m top keys' W)) ↔ SameView m keys classes keys' classes' W
openings-tell {m} {top} {keys} {keys'} F F' {W} I small classes classes' = (
  λ e. (views-one F F').1 (λ r. (λ v. (has' r).1 (rw e at ((has r).0 v)), λ v. (has r).1 (rw (← e) at ((has' r).0 v)))),
  λ same. openings-view F I small classes ∙ ap (brought_by m top W) same.one ∙ sym (openings-view F' I small classes'),
)
  where
    has : (r : ℕ × ℕ) → InView m keys classes W r ↔ Brings r (map (brought keys classes) (openings m top keys W))
    has = in-brought F I small classes

    has' : (r : ℕ × ℕ) → InView m keys' classes' W r ↔ Brings r (map (brought keys' classes') (openings m top keys' W))
    has' = in-brought F' I small classes'

-- ---- in the cells

module _ (keys classes : List ℕ) where
  -- an opening brings as many records as it counts
  pub brought-length : (o : Opening) → length (map (record_at keys classes) (hands o)) ≡ o.count
  brought-length o = length-map (hands o) (record_at keys classes) ∙ up-length o.first o.count

  -- and openings together as many as they count together
  count-brought : (os : List Opening) → handed_count os ≡ sum (map (λ x. length x.1) (map (brought keys classes) os))
  unfolding handed_count
  count-brought [] = sym sum-none
  count-brought (o ∷ os) = rw (sum-next _ _, brought-length o, ← count-brought os)

  -- opening j by what it brings, as it stands in its cells
  pub brought-at : (os : List Opening) (j : ℕ) → j < length os → get_or (map (brought keys classes) os) j (0, []) ≡ brought keys classes (opening_in (cells_of os) j)
  unfolding cells_of
  brought-at [] j l = absurd (omega arith)
  brought-at (o ∷ os) zero l = refl
  brought-at (o ∷ os) (suc j) l =
      let a : 3 * suc j ≡ suc (suc (suc (3 * j))) = omega arith in
      let b : 3 * suc j + 1 ≡ suc (suc (suc (3 * j + 1))) = omega arith in
      let c : 3 * suc j + 2 ≡ suc (suc (suc (3 * j + 2))) = omega arith in
      rw (c, b, a) (brought-at os j (omega arith))

-- on two maps with the same view the numbers of openings and of records are the same
pub openings-numbers : {m top : ℕ} {keys keys' : List ℕ} → Spaced m 0 keys → Spaced m 0 keys' → {W : Window} → Inside m W → top ≤ m → {classes classes' : List ℕ}
    → SameView m keys classes keys' classes' W
    → (length (openings m top keys W) ≡ length (openings m top keys' W)) × (handed_count (openings m top keys W) ≡ handed_count (openings m top keys' W))
openings-numbers {m} {top} {keys} {keys'} F F' {W} I small {classes} {classes'} same = (
  sym (length-map (openings m top keys W) (brought keys classes)) ∙ ap length e ∙ length-map (openings m top keys' W) (brought keys' classes'),
  count-brought keys classes (openings m top keys W)
      ∙ ap (λ (l : List (ℕ × List (ℕ × ℕ))). sum (map (λ x. length x.1) l)) e
      ∙ sym (count-brought keys' classes' (openings m top keys' W)),
)
  where
    e : map (brought keys classes) (openings m top keys W) ≡ map (brought keys' classes') (openings m top keys' W)
    e = (openings-tell F F' I small classes classes').1 same
