-- Blocks by their keys, two at a time, and the pixels of a block. Most is read off how two blocks stand to one another.
-- Assumes nothing.
use mathlib.Core.Path.{◌≡◌, refl, sym, ap, ap₂, ◌∙◌}
use mathlib.Core.Logic.{◌↔◌}
use Prim.Native.Nat.{ℕ, ◌+◌, ◌-◌, ◌*◌, ◌/◌, ◌^◌, ◌≤◌, ◌<◌}
use native.Mathlib.Nat.{mul-div_cancel, div-mul-le_self, lt-div-mul-add}
use native.Mathlib.Omega.{arith}
use Rattle.key.specs.Picture.{Pixel, place}
use Rattle.key.specs.Key.{pixel_key, block_key}
use Rattle.key.specs.Blocks.{Names, Among}
use Rattle.key.proofs.Standing.{PixelAt, Lies, Covers, Stand, within, around, after, before}
use Rattle.key.proofs.Powers.{pow-least}
use Rattle.key.proofs.Digits.{form-whole}
use Rattle.key.proofs.Blocks.{At, lies, at-form, form-at, stand, one_at}
use Rattle.key.proofs.Pixels.{coarse, place-one, place-onto, place-div, pixel-at, block_at}
use Rattle.key.proofs.Spans.{same-exponent, same-start}

at : {m key i s : ℕ} → Names m key i s → At m key i s
at {m} {key} n = form-at m key n.is

-- ---- a key and its block determine each other

pub one_block : {m key i s j t : ℕ} → Names m key i s → Names m key j t → (i ≡ j) × (s ≡ t)
one_block x y = let same = sym x.is ∙ y.is in (same-exponent same, same-start same)

pub one_key : {m a b i s : ℕ} → Names m a i s → Names m b i s → a ≡ b
one_key x y = one_at (at x) (at y)

-- the block of exponent i that holds a pixel: its span starts at the multiple of 4 ^ i at or below the pixel's place
pub block-named : (m i r c : ℕ) → i ≤ m → Pixel m r c → Names m (block_key m i r c) i (place r c / 4 ^ i * 4 ^ i)
block-named m i r c l p = record { is = at-form (block_at m i r c l p) }

pub pixel-named : (m r c : ℕ) → Pixel m r c → Names m (pixel_key m r c) 0 (place r c)
pixel-named m r c p = record { is = at-form (pixel-at m r c p) }

-- key 0 is the whole picture
pub whole-named : (m : ℕ) → Names m 0 m 0
whole-named m = record { is = form-whole m }

pub block-lies : {m key i s : ℕ} → Names m key i s → Lies m key i s
block-lies n = lies (at n)

-- ---- two blocks

-- spans nest or are disjoint, and so are keys
pub blocks-stand : {m a i s b j t : ℕ} → Names m a i s → Names m b j t → Stand a i s b j t
blocks-stand x y = stand (at x) (at y)

-- B lies in A exactly when its key is one of A's
pub nested : {m a i s b j t : ℕ} → Names m a i s → Names m b j t → Covers s (4 ^ i) t (4 ^ j) ↔ Among a (5 ^ i) b
nested {i = i} {j = j} x y = go (blocks-stand x y)
  where
    go : {a s b t : ℕ} → Stand a i s b j t → Covers s (4 ^ i) t (4 ^ j) ↔ Among a (5 ^ i) b
    go (within p q) = (λ h. omega (arith, pow-least 4 j), λ h. p)
    go (around l p k q) = (λ h. absurd (omega arith), λ h. absurd (omega arith))
    go (after p q) = (λ h. absurd (omega (arith, pow-least 3 j)), λ h. absurd (omega arith))
    go (before p q) = (λ h. absurd (omega (arith, pow-least 3 j)), λ h. absurd (omega (arith, pow-least 4 j)))

-- the span of A ends before that of B exactly when A's keys do
pub ordered : {m a i s b j t : ℕ} → Names m a i s → Names m b j t → (s + 4 ^ i ≤ t) ↔ (a + 5 ^ i ≤ b)
ordered {i = i} {j = j} x y = go (blocks-stand x y)
  where
    go : {a s b t : ℕ} → Stand a i s b j t → (s + 4 ^ i ≤ t) ↔ (a + 5 ^ i ≤ b)
    go (within p q) = (λ h. absurd (omega (arith, pow-least 3 j)), λ h. absurd (omega (arith, pow-least 4 j)))
    go (around l p k q) = (λ h. absurd (omega (arith, pow-least 3 i)), λ h. absurd (omega (arith, pow-least 4 i)))
    go (after p q) = (λ h. q, λ h. p)
    go (before p q) = (λ h. absurd (omega (arith, pow-least 3 i, pow-least 3 j)), λ h. absurd (omega (arith, pow-least 4 i, pow-least 4 j)))

-- in the order of their keys blocks start in the order of their places
pub starts-order : {m a i s b j t : ℕ} → Names m a i s → Names m b j t → a ≤ b → s ≤ t
starts-order {a = a} {i} {s} {b} {j} {t} x y l = go (blocks-stand x y)
  where
    go : Stand a i s b j t → s ≤ t
    go (within p q) = p.least
    go (around k p g q) = absurd (omega arith)
    go (after p q) = omega arith
    go (before p q) = absurd (omega (arith, pow-least 4 j))

-- the places of pixels are in the order of their keys
pub key-order : {m r c y x : ℕ} → Pixel m r c → Pixel m y x → (place r c < place y x) ↔ (pixel_key m r c < pixel_key m y x)
key-order {m} {r} {c} {y} {x} p q =
    let o = ordered (pixel-named m r c p) (pixel-named m y x q) in
    (λ h. let k = o.0 (omega arith) in omega arith, λ h. let k = o.1 (omega arith) in omega arith)

-- ---- a block and a pixel: the block holds it by its span exactly when by its keys, and exactly when it is the pixel's own block of that exponent

module _ {m key i s r c : ℕ} (b : Names m key i s) (p : Pixel m r c) where
  pub holds-key : Among s (4 ^ i) (place r c) ↔ Among key (5 ^ i) (pixel_key m r c)
  holds-key =
      let n = nested b (pixel-named m r c p) in
      (λ h. n.0 (omega arith), λ h. let k = n.1 h in omega arith)

  pub holds-own : Among s (4 ^ i) (place r c) ↔ (key ≡ block_key m i r c)
  holds-own = (λ h. to h (blocks-stand b own), λ e. from (one_block b (rw (← e) at own)).1)
    where
      q : ℕ
      q = place r c / 4 ^ i * 4 ^ i

      own : Names m (block_key m i r c) i q
      own = block-named m i r c (block-lies b).small p

      around-it : Among q (4 ^ i) (place r c)
      around-it = record { least = div-mul-le_self (place r c) (4 ^ i); most = lt-div-mul-add (pow-least 3 i) }

      to : {k : ℕ} → Among s (4 ^ i) (place r c) → Stand key i s k i q → key ≡ k
      to h (within x y) = omega arith
      to h (around l x k y) = absurd (omega arith)
      to h (after x y) = absurd (omega (arith, around-it))
      to h (before x y) = absurd (omega (arith, around-it))

      from : s ≡ q → Among s (4 ^ i) (place r c)
      from e = omega (arith, around-it)

-- two pixels: they have one block of exponent i exactly when row and column agree after division by 2 ^ i
pub same_block : {m i r c y x : ℕ} → i ≤ m → Pixel m r c → Pixel m y x → (block_key m i r c ≡ block_key m i y x) ↔ ((r / 2 ^ i ≡ y / 2 ^ i) × (c / 2 ^ i ≡ x / 2 ^ i))
unfolding block_key
same_block {m} {i} {r} {c} {y} {x} l p q = (to, λ e. ap₂ (λ (n k : ℕ). pixel_key (m - i) n k * 5 ^ i) e.0 e.1)
  where
    to : block_key m i r c ≡ block_key m i y x → (r / 2 ^ i ≡ y / 2 ^ i) × (c / 2 ^ i ≡ x / 2 ^ i)
    to e =
        let starts = (one_block (rw e at (block-named m i r c l p)) (block-named m i y x l q)).1 in
        let places = sym (mul-div_cancel _ (pow-least 3 i)) ∙ ap (λ (n : ℕ). n / 4 ^ i) starts ∙ mul-div_cancel _ (pow-least 3 i) in
        place-one (m - i) _ _ _ _ (coarse i l p) (coarse i l q) (sym (place-div i r c) ∙ places ∙ place-div i y x)

-- so a block that holds one pixel holds exactly those whose row and column agree with it
pub holds_same : {m key i s r c y x : ℕ} → Names m key i s → Pixel m r c → Pixel m y x → Among s (4 ^ i) (place r c)
    → Among s (4 ^ i) (place y x) ↔ ((r / 2 ^ i ≡ y / 2 ^ i) × (c / 2 ^ i ≡ x / 2 ^ i))
holds_same b p q h =
    let e = (holds-own b p).0 h in
    let t = same_block (block-lies b).small p q in
    (λ k. t.0 (sym e ∙ (holds-own b q).0 k), λ k. (holds-own b q).1 (e ∙ t.1 k))

-- and a pixel's key is one of the keys of another pixel's block exactly when they agree
pub covers : {m i r c y x : ℕ} → i ≤ m → Pixel m r c → Pixel m y x
    → Among (block_key m i r c) (5 ^ i) (pixel_key m y x) ↔ ((r / 2 ^ i ≡ y / 2 ^ i) × (c / 2 ^ i ≡ x / 2 ^ i))
covers {m} {i} {r} {c} l p q =
    let b = block-named m i r c l p in
    let t = holds_same b p q ((holds-own b p).1 refl) in
    (λ k. t.0 ((holds-key b q).1 k), λ k. (holds-key b q).0 (t.1 k))

-- ---- the pixels of a span: 4 ^ i, for each place of it is one pixel's and, by `place-one`, of no other

pub span-pixel : {m key i s : ℕ} → Names m key i s → (n : ℕ) → n < 4 ^ i → PixelAt m (s + n)
span-pixel {m} {key} {i} {s} b n h = place-onto m (s + n) (omega (arith, (block-lies b).span))
