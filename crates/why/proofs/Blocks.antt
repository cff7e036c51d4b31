-- What is said of a maximal block is so of the list of openings, and nothing else is: it is opened as that number, or skipped for a record that an earlier opening handed out.
-- Assumes nothing.
use mathlib.Core.Path.{◌≡◌, sym, ap, ap₂, ◌∙◌}
use mathlib.Core.Logic.{◌↔◌, ◌⊎◌, inl, inr}
use mathlib.Core.Bool.{Bool, true, false, cond}
use mathlib.Core.List.{List, Memᴰ}
use Prim.Native.Nat.{ℕ}
use native.Mathlib.Omega.{arith}
use lib.Dec.{eqb}
use borrow.Author.Tests.{eqb-true, eq-eqb}
use Rattle.lists.specs.Lists.{any, before}
use Rattle.lists.proofs.Laws.{refuted, any-has, has-any, ordered-front, nth_of, nth_in, before_at}
use Rattle.window.specs.declared.Window.{Window}
use Rattle.window.specs.Window.{Inside}
use Rattle.window.specs.Keys.{keys_of}
use Rattle.window.proofs.Laws.{keys-distinct}
use Rattle.map.specs.Sound.{Follow}
use Rattle.map.specs.Runs.{run_of}
use Rattle.border.specs.Openings.{Opening, openings}
use Rattle.border.specs.Promises.{HandedBy, OpenedAs, SkippedFor}
use Rattle.border.proofs.Laws.{opened-or-skipped, opened-first, skipped-first, opened_one, not-both}
use Rattle.why.specs.declared.Brought.{Brought}
use Rattle.why.specs.declared.Why.{Why}
use Rattle.why.specs.declared.Why.TheVariants.{Opened, Skipped}
use Rattle.why.specs.Why.{bringer, opens_at, block_said}
use Rattle.why.specs.Parts.{Brings}
use Rattle.why.proofs.Records.{bringer-is}

-- what both have alike
pub block-alike : (m : ℕ) (keys : List ℕ) (W : Window) (key : ℕ) {A : Type 0} (part : Why → A) {x : A} → ((k : ℕ) → part (Opened k) ≡ x) → ((n k : ℕ) → part (Skipped n k) ≡ x)
    → part (block_said m keys W key) ≡ x
unfolding block_said
block-alike m keys W key {A} part {x} a b = go (any (opens_at key) (openings m m keys W)) _ _ _
  where
    go : (t : Bool) (k n j : ℕ) → part (cond t (Opened k) (Skipped n j)) ≡ x
    go true k n j = a k
    go false k n j = b n j

module _ {m : ℕ} {keys : List ℕ} (F : Follow m 0 keys) {W : Window} (I : Inside m W) {key : ℕ} (l : Memᴰ key (keys_of m m W)) where
  abbrev os : List Opening
  os = openings m m keys W

  -- the first record that overlaps the block
  abbrev n : ℕ
  n = (run_of m keys key).first

  abbrev said : Why
  said = block_said m keys W key

  abbrev Skips : ℕ → ℕ → Type 0
  Skips = SkippedFor m m keys W os key

  skipped-by : {i k : ℕ} → Skips i k → (i ≡ n) × HandedBy os k n
  skipped-by x = let e = skipped-first F I (omega arith) l x in (e, rw e at x.handed)

  -- ---- what is said

  abbrev test : Opening → Bool
  test o = eqb o.key key

  opened-said : {k : ℕ} → OpenedAs os key k → said ≡ Opened k
  unfolding block_said opens_at
  opened-said {k} x =
      let t = eq-eqb x.by.key key x.is in
      let first : before test os ≡ k = before_at test x.at t (λ j o at y. opened_one F I (omega arith) l x (record { by = o; at = at; is = eqb-true o.key key y })) in
      rw (has-any test (nth_in x.at) t, first)

  skipped-said : {i k : ℕ} → Skips i k → said ≡ Skipped i k
  unfolding block_said opens_at
  skipped-said {i} {k} x =
      let none : any test os ≡ false = refuted _ (λ t. let y = any-has test os t in let z = nth_of y.1 in
      not-both F I (omega arith) l (record { by = y.0; at = z.1; is = eqb-true y.0.key key y.2 }) x) in
      let t = skipped-by x in
      rw (none, bringer-is F I t.1, t.0)

  either : ((k : ℕ) × OpenedAs os key k) ⊎ ((i : ℕ) × (k : ℕ) × Skips i k)
  either = opened-or-skipped m m keys W l

  -- ---- and nothing else

  pub block-opened : (k : ℕ) → (block_said m keys W key ≡ Opened k) ↔ OpenedAs (openings m m keys W) key k
  block-opened k = (to either, opened-said)
    where
      to : ((j : ℕ) × OpenedAs os key j) ⊎ ((i : ℕ) × (j : ℕ) × Skips i j) → said ≡ Opened k → OpenedAs os key k
      to (inl t) e = let x = opened-said t.1 in let z : t.0 ≡ k = cc in rw z at t.1
      to (inr t) e = absurd (let x = skipped-said t.2 in let z : ◌≡◌ {A = ℕ} 0 1 = cc in omega arith)

  pub block-skipped : (i k : ℕ) → (block_said m keys W key ≡ Skipped i k) ↔ SkippedFor m m keys W (openings m m keys W) key i k
  block-skipped i k = (to either, skipped-said)
    where
      to : ((j : ℕ) × OpenedAs os key j) ⊎ ((h : ℕ) × (j : ℕ) × Skips h j) → said ≡ Skipped i k → Skips i k
      to (inl t) e = absurd (let x = opened-said t.1 in let z : ◌≡◌ {A = ℕ} 0 1 = cc in omega arith)
      to (inr t) e = let x = skipped-said t.2 in let y : t.0 ≡ i = cc in let z : t.1 ≡ k = cc in rw (y, z) at t.2

  pub block-either : ((k : ℕ) × (block_said m keys W key ≡ Opened k)) ⊎ ((i : ℕ) × (k : ℕ) × (block_said m keys W key ≡ Skipped i k))
  block-either = go either
    where
      go : ((j : ℕ) × OpenedAs os key j) ⊎ ((i : ℕ) × (j : ℕ) × Skips i j) → ((k : ℕ) × (said ≡ Opened k)) ⊎ ((i : ℕ) × (k : ℕ) × (said ≡ Skipped i k))
      go (inl t) = inl (t.0, opened-said t.1)
      go (inr t) = inr (t.0, t.1, skipped-said t.2)

  -- ---- by the opening that brings the first record that overlaps it: opened, where that is the block's own

  module _ {i : ℕ} (e : i ≡ (run_of m keys key).first) {b : Brought} (B : Brings (openings m m keys W) i b) where
    number : {k : ℕ} → HandedBy os k n → b.opening ≡ k
    number h = B.number ∙ ap (bringer os) e ∙ bringer-is F I h

    own : {k : ℕ} → OpenedAs os key k → (b.opening ≡ k) × (b.key ≡ key)
    own x = let d = number (opened-first F I (omega arith) l x) in (d, B.key-is x.by (rw d x.at) ∙ x.is)

    earlier : {h k : ℕ} → Skips h k → (b.opening ≡ k) × (b.key ≡ key → ⊥)
    earlier x =
        let d = number (skipped-by x).1 in
        let before = ordered-front x.before x.later (rw x.split at (keys-distinct I {top = m} (omega arith))) x.earlier in
        (d, λ z. before (sym (B.key-is x.handed.by (rw d x.handed.at)) ∙ z))

    pub said-opened : b.key ≡ key → block_said m keys W key ≡ Opened b.opening
    said-opened d = go either
      where
        go : ((j : ℕ) × OpenedAs os key j) ⊎ ((h : ℕ) × (j : ℕ) × Skips h j) → said ≡ Opened b.opening
        go (inl t) = opened-said t.1 ∙ ap Opened (sym (own t.1).0)
        go (inr t) = absurd ((earlier t.2).1 d)

    pub said-skipped : (b.key ≡ key → ⊥) → block_said m keys W key ≡ Skipped i b.opening
    said-skipped d = go either
      where
        go : ((j : ℕ) × OpenedAs os key j) ⊎ ((h : ℕ) × (j : ℕ) × Skips h j) → said ≡ Skipped i b.opening
        go (inl t) = absurd (d (own t.1).1)
        go (inr t) = skipped-said t.2 ∙ ap₂ Skipped ((skipped-by t.2).0 ∙ sym e) (sym (earlier t.2).0)
