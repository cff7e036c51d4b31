-- Places counted by class, piece by piece.
-- Assumes nothing.
use mathlib.Core.Path.{◌≡◌, refl, sym, ap, ◌∙◌}
use mathlib.Core.Logic.{◌≢◌}
use mathlib.Core.Bool.{false}
use mathlib.Core.List.{List, Memᴰ}
use Prim.Native.Nat.{ℕ, ◌+◌, ◌-◌, ◌≤◌, ◌<◌}
use native.Mathlib.Decide.{ℕ_discrete}
use native.Mathlib.Omega.{arith}
use lib.Dec.{eqb}
use lib.ListN.{length, get_or, set, length-set}
use lib.Seq.{get_or-set_same, get_or-set_other}
use borrow.Author.Tests.{eq-eqb, ne_eqb}
use Rattle.lists.specs.Lists.{up_from}
use Rattle.lists.proofs.Laws.{up_none, up_in, up-length, up-append, many-empty, many-same, many-none, many-all, many-most, many-append}
use Rattle.pieces.specs.declared.Stand.{Stand}
use Rattle.pieces.specs.declared.Piece.{Piece}
use Rattle.pieces.specs.Cursors.{StandsAt}
use Rattle.pieces.specs.Pieces.{Uniform, places_of, Tallied, Room}

module _ (f : ℕ → ℕ) where
  pub places-none : (a k : ℕ) → places_of f a a k ≡ 0
  unfolding places_of
  places-none a k = let e : a - a ≡ 0 = omega arith in rw (e, up_none a) (many-empty (λ q. eqb (f q) k))

  pub places-append : {a b c : ℕ} (k : ℕ) → a ≤ b → b ≤ c → places_of f a c k ≡ places_of f a b k + places_of f b c k
  unfolding places_of
  places-append {a} {b} {c} k l h =
      let e : c - a ≡ (b - a) + (c - b) = omega arith in
      let d : a + (b - a) ≡ b = omega arith in
      rw (e, up-append a (b - a) (c - b), d) (many-append (λ q. eqb (f q) k) (up_from a (b - a)) (up_from b (c - b)))

  pub places-most : (a b k : ℕ) → places_of f a b k ≤ b - a
  unfolding places_of
  places-most a b k = omega (arith, many-most (λ q. eqb (f q) k) (up_from a (b - a)), up-length a (b - a))

  module _ {a b c : ℕ} (h : (q : ℕ) → a ≤ q → q < b → f q ≡ c) where
    at : (q : ℕ) → Memᴰ q (up_from a (b - a)) → f q ≡ c
    at q l = let i = (up_in a (b - a) q).0 l in h q i.0 (omega (arith, i.1))

    pub places-alike : places_of f a b c ≡ b - a
    unfolding places_of
    places-alike = many-all (up_from a (b - a)) (λ q l. eq-eqb (f q) c (at q l)) ∙ up-length a (b - a)

    pub places-other : (k : ℕ) → c ≢ k → places_of f a b k ≡ 0
    unfolding places_of
    places-other k d = many-same {g = λ q. false} (up_from a (b - a)) (λ q l. ne_eqb (f q) k (λ e. d (sym (at q l) ∙ e))) ∙ many-none (up_from a (b - a))

  pub tallied-first : (a : ℕ) (cells : List ℕ) → Tallied f a a cells cells
  tallied-first a cells = record { same = refl; each = λ k l. omega (arith, places-none a k) }

  module _ {s a stop : ℕ} {before cells : List ℕ} (T : Tallied f s a before cells) {p : Piece} (U : Uniform f a stop p) (l : s ≤ a) where
    pub tallied-fits : {n : ℕ} → p.class < length before → Room before n → stop ≤ s + n → get_or cells p.class 0 + (p.end - a) ≤ 4294967295
    tallied-fits h R z = omega (arith, T.each p.class h, places-most s a p.class, R.fits p.class h, U.most, U.more)

    pub tallied-next : p.class < length before → Tallied f s p.end before (set cells p.class (get_or cells p.class 0 + (p.end - a)))
    tallied-next h = record { same = length-set cells _ _ ∙ T.same; each = λ k g. go k g (ℕ_discrete p.class k) }
      where
        sum : ℕ
        sum = get_or cells p.class 0 + (p.end - a)

        after : List ℕ
        after = set cells p.class sum

        joined : (k : ℕ) → places_of f s p.end k ≡ places_of f s a k + places_of f a p.end k
        joined k = places-append k l (omega (arith, U.more))

        go : (k : ℕ) → k < length before → Dec (p.class ≡ k) → get_or after k 0 ≡ get_or before k 0 + places_of f s p.end k
        go k g (yes e) =
            let new = get_or-set_same cells p.class sum 0 (omega (arith, h, T.same)) in
            let whole = places-alike U.alike in
            omega (arith, new, ap (λ (x : ℕ). get_or after x 0) e, ap (λ (x : ℕ). get_or cells x 0) e, T.each k g, joined k, whole, ap (λ (x : ℕ). places_of f a p.end x) e)
        go k g (no d) = omega (arith, get_or-set_other cells p.class k sum 0 (λ e. d (sym e)), T.each k g, joined k, places-other U.alike k d)

-- ---- the loop: the places up to where both maps stand have been counted

pub record Tallying (f : ℕ → ℕ) (m : ℕ) (keys base : List ℕ) (s end : ℕ) (before cells : List ℕ) (at : Stand) : Type 0 where
  pub low : s ≤ at.place
  pub high : at.place ≤ end
  pub stands : StandsAt m keys base at
  pub done : Tallied f s at.place before cells

module _ {f : ℕ → ℕ} {m : ℕ} {keys base : List ℕ} {end : ℕ} where
  pub tallying-first : {at : Stand} (cells : List ℕ) → at.place ≤ end → StandsAt m keys base at → Tallying f m keys base at.place end cells cells at
  tallying-first {at} cells l S = record { low = omega arith; high = l; stands = S; done = tallied-first f at.place cells }

  module _ {s : ℕ} {before cells : List ℕ} {at : Stand} (T : Tallying f m keys base s end before cells at) where
    pub tallying-fits : {p : Piece} {n : ℕ} → Uniform f at.place end p → p.class < length before → Room before n → end ≤ s + n
        → get_or cells p.class 0 + (p.end - at.place) ≤ 4294967295
    tallying-fits U h R z = tallied-fits f T.done U T.low h R z

    pub tallying-next : {p : Piece} {to : Stand} → Uniform f at.place end p → p.class < length before → to.place ≡ p.end → StandsAt m keys base to
        → Tallying f m keys base s end before (set cells p.class (get_or cells p.class 0 + (p.end - at.place))) to
    tallying-next U h e S = record { low = omega (arith, T.low, U.more); high = omega (arith, U.most); stands = S; done = rw e (tallied-next f T.done U T.low h) }
