-- The loop that writes block after block of a stretch. The largest block that comes next has the greatest exponent of a block that may start there and that has no more places than
-- are left.
-- Assumes nothing.
use mathlib.Core.Path.{◌≡◌, refl, sym, ap, ◌∙◌}
use mathlib.Core.List.{List, [], ◌∷◌, ◌++◌, append_assoc, append-nil}
use Prim.Native.Nat.{ℕ, min, ◌+◌, ◌-◌, ◌*◌, ◌/◌, ◌^◌, ◌≤◌, ◌<◌}
use native.Mathlib.Omega.{arith}
use lib.Count.{count_leading_zeros}
use lib.Dec.{leb}
use borrow.Author.Tests.{leb-true, le-leb}
use Rattle.lists.specs.Lists.{greatest}
use Rattle.lists.proofs.Laws.{greatest-le, greatest-holds, greatest-over}
use Rattle.answers.specs.Cells.{put, Listed}
use Rattle.answers.proofs.Laws.{listed-none, listed-one, listed_more}
use Rattle.key.specs.declared.Spot.{Spot}
use Rattle.key.specs.Blocks.{Names}
use Rattle.key.specs.Along.{Stands}
use Rattle.key.proofs.Laws.{four, log-of, pow-least, span_key_lem}
use Rattle.stretch.specs.Sets.{base, exponent_in, between}
use Rattle.stretch.specs.Fewest.{stretch}
use Rattle.stretch.specs.Walk.{largest, Lays}
use Rattle.stretch.proofs.Bases.{base-own}
use Rattle.stretch.proofs.Around.{exponent-le, exponent-max, between-fits}
use Rattle.stretch.proofs.Steps.{stretch-none, stretch-next, next-aligned, next-room}

-- ---- the largest block by its places

module _ (top places : ℕ) where
  largest-le : largest top places ≤ top
  unfolding largest
  largest-le = greatest-le (λ i. leb (4 ^ i) places) top

  largest-room : 1 ≤ places → 4 ^ largest top places ≤ places
  unfolding largest
  largest-room h = leb-true _ places (greatest-holds (λ i. leb (4 ^ i) places) top (le-leb 1 places h))

  largest-max : {j : ℕ} → j ≤ top → 4 ^ j ≤ places → j ≤ largest top places
  unfolding largest
  largest-max {j} l h =
      let n : ¬ (greatest (λ i. leb (4 ^ i) places) top < j) = λ g. greatest-over (λ i. leb (4 ^ i) places) top j g l (le-leb (4 ^ j) places h) in
      omega arith

  -- by the highest bit of their number
  pub largest-log : {i : ℕ} → 1 ≤ places → places < 2 ^ 31 → i ≡ (30 - count_leading_zeros 32 (2 * places + 1)) / 2 → min top i ≡ largest top places
  largest-log {i} h l e =
      let log = log-of places (30 - count_leading_zeros 32 (2 * places + 1)) h l refl in
      let x : ℕ = largest top places in
      let n : ℕ = min top i in
      let room : 2 ^ (2 * x) ≤ places = rw (four x) (largest-room h) in
      let up : x ≤ i = omega (arith, (log (2 * x)).1 room) in
      let fits_in : 4 ^ n ≤ places = rw (four n) at ((log (2 * n)).0 (omega arith)) in
      omega (arith, largest-le, largest-max {j = n} (omega arith) fits_in)

-- where a walk stands, it is the largest block that comes next
next-largest : {m b : ℕ} {s : Spot} → Stands m s → s.place < b → largest s.top (b - s.place) ≡ exponent_in m (between s.place b) s.place
next-largest {m} {b} {s} S l =
    let a : ℕ = s.place in
    let e : ℕ = exponent_in m (between a b) a in
    let i : ℕ = largest s.top (b - a) in
    let em : e ≤ m = exponent-le m (between a b) a in
    let up : e ≤ i = largest-max s.top (b - a) ((S.aligned e em).1 ((base-own e a).0 (next-aligned m l))) (omega (arith, next-room m l)) in
    let il : i ≤ s.top = largest-le s.top (b - a) in
    let own : base i a ≡ a = (base-own i a).1 ((S.aligned i (omega (arith, S.cap))).0 il) in
    let down : i ≤ e = exponent-max m (between a b) (omega (arith, S.cap)) ((between-fits a b).1 (omega (arith, largest-room s.top (b - a) (omega arith)))) in
    omega arith

-- so with it the walk goes on
module _ {m b : ℕ} {s : Spot} (S : Stands m s) (l : s.place < b) {i : ℕ} (e : i ≡ largest s.top (b - s.place)) where
  -- a block of its exponent may start there
  pub lays-top : i ≤ s.top
  lays-top = omega (arith, largest-le s.top (b - s.place))

  pub lays-next : {key : ℕ} {t : Spot} → Names m key i s.place → t.place ≡ s.place + 4 ^ i → Stands m t → Lays m s.place b key t
  lays-next {key} {t} N p T =
      let d : i ≡ exponent_in m (between s.place b) s.place = e ∙ next-largest S l in
      record {
        first = stretch-next m l ∙ rw (← d, ← span_key_lem N, ← p);
        onward = omega (arith, pow-least 3 i);
        within = let room : 4 ^ i ≤ b - s.place = rw e (largest-room s.top (b - s.place) (omega arith)) in omega arith;
        stands = T;
      }

-- ---- writing

-- a walk that began at place a has come to s: the keys of the blocks up to there are written, and the others are those from there on
pub record Writing (m a b n : ℕ) (out₀ out : List ℕ) (s : Spot) (k : ℕ) : Type 0 where
  pub stands : Stands m s
  pub past : List ℕ
  pub all : stretch m a b ≡ past ++ stretch m s.place b
  pub listing : Listed n past out₀ k out

pub writing-first : {m b n : ℕ} {s : Spot} (out : List ℕ) → Stands m s → Writing m s.place b n out out s n
writing-first {n = n} out S = record { stands = S; past = []; all = refl; listing = listed-none n out }

module _ {m a b n : ℕ} {out₀ out : List ℕ} {s : Spot} {k : ℕ} (W : Writing m a b n out₀ out s k) where
  module _ {key : ℕ} {t : Spot} (L : Lays m s.place b key t) where
    split : stretch m a b ≡ W.past ++ key ∷ stretch m t.place b
    split = W.all ∙ ap (λ (ks : List ℕ). W.past ++ ks) L.first

    pub writing-next : {out' : List ℕ} → out' ≡ put k key out → Writing m a b n out₀ out' t (k + 1)
    writing-next {out'} f = record {
      stands = L.stands;
      past = W.past ++ (key ∷ []);
      all = split ∙ sym (append_assoc W.past (key ∷ []) (stretch m t.place b));
      listing = rw f (listed_more W.listing (listed-one k key out));
    }

  pub writing-last : b ≤ s.place → Listed n (stretch m a b) out₀ k out
  writing-last l = rw (W.all, stretch-none m l, append-nil W.past) W.listing
