-- Along the keys: which blocks start at a place, by the key of the pixel there; and the largest one where a block ends.
-- Assumes nothing.
use mathlib.Core.Path.{◌≡◌, refl, sym, ap, ◌∙◌, subst}
use mathlib.Core.Logic.{◌↔◌}
use mathlib.Core.List.{List}
use Prim.Native.Nat.{ℕ, suc, ◌+◌, ◌*◌, ◌/◌, ◌%◌, ◌^◌, ◌≤◌, ◌<◌}
use native.Mathlib.Decide.{dec_lt}
use native.Mathlib.Nat.{pow-suc, zero-mod, mod-eq_of_lt}
use native.Mathlib.Omega.{arith}
use lib.Count.{count_trailing_zeros}
use lib.ListN.{get_or}
use Rattle.std.specs.Prelude.{None, Some}
use Rattle.key.specs.declared.Spot.{Spot}
use Rattle.key.specs.Key.{ones}
use Rattle.key.specs.Blocks.{Names}
use Rattle.key.specs.Along.{ones_table, TellsOnes, pixel_at, Stands, ToldFit, block, other}
use Rattle.key.specs.Alignment.{alignment}
use Rattle.key.proofs.Standing.{Lies}
use Rattle.key.proofs.Powers.{pow-least, pow-most, four}
use Rattle.key.proofs.Blocks.{At, whole, lies, at-form, form-at, one_at}
use Rattle.key.proofs.Zeros.{alignment-divides}
use Rattle.key.proofs.Corners.{ones-pow, ones-entry, first-at}
use Rattle.key.proofs.Ends.{at_aligned, start-at, Top, end-at}

-- ---- the exponents of the blocks that may start at a place: up to half its trailing zeros

halves : (x i t : ℕ) → i ≤ 16 → t ≡ alignment 32 x → (i ≤ t / 2) ↔ (x % 4 ^ i ≡ 0)
halves x i t l e =
    let d = alignment-divides 32 x (2 * i) (omega arith) in
    (λ h. rw (four i) at (d.0 (omega arith)), λ h. let k = d.1 (rw (four i) h) in omega arith)

-- ---- the walk

module _ {m : ℕ} {s : Spot} (S : Stands m s) where
  module _ (h : s.place < 4 ^ m) where
    largest-here : At m s.key s.top s.place
    largest-here = form-at m s.key (S.largest h).is

    pixel-here : At m (pixel_at s) 0 s.place
    pixel-here = first-at largest-here

    -- the key of the pixel here does not wrap
    pub pixel-room : m ≤ 12 → pixel_at s < 5 ^ 12
    pixel-room few = omega (arith, (lies largest-here).keys, ones-pow s.top, pow-most 4 m few, pow-least 4 s.top)

    -- a block of each exponent up to the greatest starts here, with a key so many digits 1 below the pixel's
    pub fits-start : {i : ℕ} → i ≤ s.top → (key : ℕ) × At m key i s.place × (key + ones i ≡ pixel_at s)
    fits-start {i} c =
        let l : i ≤ m = omega (arith, S.cap) in
        let a = start-at m i s.place l h ((S.aligned i l).0 c) in
        (a.0, a.1, one_at (first-at a.1) pixel-here)

    -- so a key is that of a block that starts here exactly when it is so many digits 1 below the pixel's
    pub fits-key : {key i : ℕ} → Names m key i s.place ↔ ((i ≤ s.top) × (key + ones i ≡ pixel_at s))
    fits-key {key} {i} = (to, from)
      where
        to : Names m key i s.place → (i ≤ s.top) × (key + ones i ≡ pixel_at s)
        to b = let a = form-at m key b.is in ((S.aligned i (lies a).small).1 (at_aligned a), one_at (first-at a) pixel-here)

        from : (i ≤ s.top) × (key + ones i ≡ pixel_at s) → Names m key i s.place
        from c =
            let a = fits-start c.0 in
            let e : a.0 ≡ key = omega (arith, a.2) in
            let n : Names m a.0 i s.place = record { is = at-form a.1 } in
            rw e at n

pub first-stands : {m : ℕ} {s : Spot} → s.place ≡ 0 → s.key ≡ 0 → s.top ≡ m → Stands m s
first-stands {m} {s} ep ek et =
    let z : (i : ℕ) → s.place % 4 ^ i ≡ 0 = λ i. rw ep (zero-mod (4 ^ i)) in
    record {
      within = omega arith;
      largest = λ h. rw (ek, ep, et) (record { is = at-form whole });
      cap = omega arith;
      aligned = λ i l. (λ h. z i, λ h. omega arith);
    }

-- a place behind the first, or the picture's end: how large a block may start there
module _ {m place top : ℕ} (few : m ≤ 12) (some : 1 ≤ place) (within : place ≤ 4 ^ m) (et : top ≡ alignment 32 place / 2) where
  pub half : (k : ℕ) → k ≤ 16 → (k ≤ top) ↔ (place % 4 ^ k ≡ 0)
  half k l = rw et (halves place k (alignment 32 place) l refl)

  pub top-cap : top ≤ m
  top-cap =
      elim (dec_lt m top) [
        | yes h ↦
            let z : place % 4 ^ suc m ≡ 0 = (half (suc m) (omega arith)).0 h in
            let l : place < 4 ^ suc m = omega (arith, pow-suc 4 m, pow-least 3 m) in
            absurd (omega (arith, sym (mod-eq_of_lt l)))
        | no h ↦ omega arith
      ]

-- behind a block
module _ {m key i s : ℕ} (few : m ≤ 12) (n : Names m key i s) where
  here : At m key i s
  here = form-at m key n.is

  pub next-room : Lies m key i s
  next-room = lies here

  module _ {place top : ℕ} (ep : place ≡ s + 4 ^ i) (et : top ≡ alignment 32 place / 2) where
    some-place : 1 ≤ place
    some-place = omega (arith, pow-least 3 i)

    next-within : place ≤ 4 ^ m
    next-within = omega (arith, (lies here).span)

    next-half : (k : ℕ) → k ≤ 16 → (k ≤ top) ↔ (place % 4 ^ k ≡ 0)
    next-half = half few some-place next-within et

    next-cap : top ≤ m
    next-cap = top-cap few some-place next-within et

    -- the largest block that starts there has this exponent
    next-top : place < 4 ^ m → At m (key + 5 ^ i) top place
    next-top h = go (rw ep (end-at here (rw ep at h)))
      where
        go : Top m (key + 5 ^ i) place → At m (key + 5 ^ i) top place
        go t =
            let l = (next-half top (omega (arith, next-cap))).0 (omega arith) in
            let up : top ≤ t.top = t.most (start-at m top place next-cap h l).1 in
            let down : t.top ≤ top = (next-half t.top (omega (arith, (lies t.at).small))).1 (at_aligned t.at) in
            let e : t.top ≡ top = omega arith in
            subst (λ (x : ℕ). At m (key + 5 ^ i) x place) e t.at

  pub next-stands : {t : Spot} → t.place ≡ s + 4 ^ i → t.top ≡ count_trailing_zeros 32 t.place / 2 → t.key ≡ key + 4 * ones i + 1 → Stands m t
  unfolding alignment
  next-stands {t} ep et ek = record {
    within = omega (arith, (lies here).span);
    largest = λ h. let e : t.key ≡ key + 5 ^ i = omega (arith, ones-pow i) in rw e (record { is = at-form (next-top ep et h) });
    cap = next-cap ep et;
    aligned = λ k l. next-half ep et k (omega arith);
  }

-- ---- what a key is at a place

pub not_behind : {m : ℕ} {s : Spot} → Stands m s → (s.place ≡ 4 ^ m → ⊥) → s.place < 4 ^ m
not_behind {m} {s} S n = elim (dec_lt s.place (4 ^ m)) [ yes h ↦ h | no h ↦ absurd (n (omega (arith, S.within))) ]

-- d is a less b in 32 bits, as the machine wraps it
pub record Less (a b d : ℕ) : Type 0 where
  pub fits : d < 2 ^ 32
  pub from : b < 2 ^ 32
  pub back : (d + b) % 2 ^ 32 ≡ a

-- of a number d the tables tell one i; where d is i digits 1 for any i, it is that
pub record Told (table digits : List ℕ) (d i : ℕ) : Type 0 where
  pub small : i ≤ 12
  pub entry : get_or table i 0 ≡ ones i
  pub only : (j : ℕ) → j ≤ 12 → d ≡ ones j → i ≡ j

pub told : {table digits : List ℕ} (d : ℕ) → table ≡ ones_table → TellsOnes digits → Told table digits d (get_or digits (d % 16) 0)
told {table} {digits} d e D =
    let small : get_or digits (d % 16) 0 ≤ 12 = D.small (d % 16) (omega arith) in
    record { small = small; entry = ones-entry _ e small; only = λ j l q. ap (λ (x : ℕ). get_or digits (x % 16) 0) q ∙ D.finds j l }

module _ {m : ℕ} {s : Spot} (S : Stands m s) where
  pub fits-behind : {key : ℕ} → s.place ≡ 4 ^ m → ToldFit m s.place key None
  fits-behind {key} e = other (λ i n. omega (arith, (lies (form-at m key n.is)).span, pow-least 3 i))

  pub fits-largest : {key : ℕ} → s.place < 4 ^ m → key ≡ s.key → ToldFit m s.place key (Some s.top)
  fits-largest h e = rw e (block (S.largest h))

  -- the pixel's key less this one is d, where it wraps if this one is over it
  module _ (h : s.place < 4 ^ m) (few : m ≤ 12) {table digits : List ℕ} {key d i : ℕ} (t : Told table digits d i) (less : Less (pixel_at s) key d) where
    told-block : {j : ℕ} → Names m key j s.place → (i ≡ j) × (d ≡ ones j) × (j ≤ s.top)
    told-block {j} b =
        let k = (fits-key S h).0 b in
        let e : d ≡ ones j = omega (arith, less) in
        (t.only j (omega (arith, S.cap)) e, e, k.0)

    pub fits-unlike : (get_or table i 0 ≡ d → ⊥) → ToldFit m s.place key None
    fits-unlike n = other (λ j b. let k = told-block b in n (t.entry ∙ ap ones k.0 ∙ sym k.1))

    pub fits-large : s.top < i → ToldFit m s.place key None
    fits-large l = other (λ j b. let k = told-block b in omega arith)

    pub fits-here : get_or table i 0 ≡ d → i ≤ s.top → ToldFit m s.place key (Some i)
    fits-here q l = block ((fits-key S h).1 (l, omega (arith, t.entry, less, (fits-start S h l).2)))

pub fits-block : {m p key i : ℕ} → ToldFit m p key (Some i) → Names m key i p
fits-block (block n) = n

pub fits-other : {m p key : ℕ} → ToldFit m p key None → (i : ℕ) → Names m key i p → ⊥
fits-other (other f) = f
