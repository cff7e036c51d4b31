-- Blocks that make up those of the places from a up to b that have some property: they stand in their order, each place of theirs has it, and between them none has.
-- Assumes nothing.
use mathlib.Core.Path.{◌≡◌, refl}
use mathlib.Core.Logic.{◌⊎◌, inl, inr}
use mathlib.Core.Bool.{true}
use mathlib.Core.List.Memᴰ
use mathlib.Core.List.{List, [], ◌∷◌, ◌++◌, Memᴰ}
use Prim.Native.Nat.{ℕ, zero, suc, ◌+◌, ◌-◌, ◌^◌, ◌≤◌, ◌<◌}
use native.Mathlib.Decide.{dec_lt}
use native.Mathlib.Omega.{arith}
use Rattle.lists.specs.Lists.{Ordered, none, more}
use Rattle.lists.proofs.Laws.{ordered-imp, ordered-one}
use Rattle.key.specs.Form.{form_of}
use Rattle.key.specs.Blocks.{Names, Among}
use Rattle.key.proofs.Laws.{ordered, pow-least}
use Rattle.map.specs.Spans.{holds}
use Rattle.map.proofs.Laws.{holds-is}
use Rattle.stretch.specs.Sets.{exponent_in, between}
use Rattle.stretch.specs.Fewest.{stretch}
use Rattle.stretch.proofs.Laws.{stretch-none, stretch-next, next-named, next-room}

pub data Made (m : ℕ) (P : ℕ → Type 0) (b : ℕ) : ℕ → List ℕ → Type 0 where
  made_none : {a : ℕ} → ((q : ℕ) → a ≤ q → q < b → P q → ⊥) → Made m P b a []
  made-next : {a k i s end : ℕ} {ks : List ℕ} → a ≤ s → ((q : ℕ) → a ≤ q → q < s → P q → ⊥) → Names m k i s → ((q : ℕ) → Among s (4 ^ i) q → P q)
      → end ≡ s + 4 ^ i → end ≤ b → Made m P b end ks → Made m P b a (k ∷ ks)

-- the key is that of a block among these places, and each place of it has the property
pub record Part (m : ℕ) (P : ℕ → Type 0) (a b x : ℕ) : Type 0 where
  pub exponent : ℕ
  pub start : ℕ
  pub names : Names m x exponent start
  pub low : a ≤ start
  pub high : start + 4 ^ exponent ≤ b
  pub all : (q : ℕ) → Among start (4 ^ exponent) q → P q

-- the block of one key ends where that of another starts, or before
pub record Apart (m x y : ℕ) : Type 0 where
  pub exponent : ℕ
  pub start : ℕ
  pub later : ℕ
  pub behind : ℕ
  pub names : Names m x exponent start
  pub next : Names m y later behind
  pub clear : start + 4 ^ exponent ≤ behind

-- blocks that stand apart have no place in common
pub apart-holds : {m x y : ℕ} (q : ℕ) → Apart m x y → holds q (form_of m x) ≡ true → holds q (form_of m y) ≡ true → ⊥
apart-holds q A h k = omega (arith, A.clear, (holds-is q A.names).0 h, (holds-is q A.next).0 k)

module _ {m : ℕ} {P : ℕ → Type 0} where
  -- ---- what is made up

  pub made_in : {b a : ℕ} {ks : List ℕ} → Made m P b a ks → {x : ℕ} → Memᴰ x ks → Part m P a b x
  made_in (made_none h) l = absurd (Memᴰ.not-nil l)
  made_in {b} {a} (made-next {k = k} {i = i} {s = s} {end = end} {ks = ks} l h n p e t M) {x} y = go (λ z r. made_in M r) (Memᴰ.cases_cons y)
    where
      go : ((z : ℕ) → Memᴰ z ks → Part m P end b z) → (x ≡ k) ⊎ Memᴰ x ks → Part m P a b x
      go ih (inl d) = rw d (record { exponent = i; start = s; names = n; low = l; high = omega arith; all = p })
      go ih (inr z) =
          let f = ih x z in
          record { exponent = f.exponent; start = f.start; names = f.names; low = omega (arith, f.low, pow-least 3 i); high = f.high; all = f.all }

  pub made-place : {b a : ℕ} {ks : List ℕ} → Made m P b a ks → (q : ℕ) → a ≤ q → q < b → P q → (x : ℕ) × Memᴰ x ks × (holds q (form_of m x) ≡ true)
  made-place (made_none h) q l t p = absurd (h q l t p)
  made-place {b} {a} (made-next {k = k} {i = i} {s = s} {end = end} {ks = ks} l h n all e t M) q u v p = go (dec_lt q s) (dec_lt q end) (made-place M q)
    where
      go : Dec (q < s) → Dec (q < end) → (end ≤ q → q < b → P q → (x : ℕ) × Memᴰ x ks × (holds q (form_of m x) ≡ true))
          → (x : ℕ) × Memᴰ x (k ∷ ks) × (holds q (form_of m x) ≡ true)
      go (yes z) d ih = absurd (h q u z p)
      go (no z) (yes w) ih = (k, Memᴰ.head refl, (holds-is q n).1 (omega arith))
      go (no z) (no w) ih = let r = ih (omega (arith, w)) v p in (r.0, Memᴰ.tail r.1, r.2)

  pub made-apart : {b a : ℕ} {ks : List ℕ} → Made m P b a ks → Ordered (Apart m) ks
  made-apart (made_none h) = none
  made-apart (made-next {i = i} {s = s} l h n p e t M) = more (λ y r. let f = made_in M r in
      record { exponent = i; start = s; later = f.exponent; behind = f.start; names = n; next = f.names; clear = omega (arith, f.low) }) (made-apart M)

  -- so the keys rise, and no place is in two blocks
  pub made-rising : {a b : ℕ} {ks : List ℕ} → Made m P b a ks → Ordered ◌<◌ ks
  made-rising M = ordered-imp (λ x y A. omega (arith, (ordered A.names A.next).0 A.clear, pow-least 4 A.exponent)) (made-apart M)

  pub made_one : {a b : ℕ} {ks : List ℕ} → Made m P b a ks → (q : ℕ) {x y : ℕ} → Memᴰ x ks → Memᴰ y ks
      → holds q (form_of m x) ≡ true → holds q (form_of m y) ≡ true → x ≡ y
  made_one M q l n h k = ordered-one (made-apart M) l n (λ A. apart-holds q A h k) (λ A. apart-holds q A k h)

  -- ---- how it is made up

  -- of no places
  pub made-empty : {a b : ℕ} → b ≤ a → Made m P b a []
  made-empty {a} l = made_none {a = a} (λ q u v x. omega arith)

  pub made-skip : {a c b : ℕ} {ks : List ℕ} → a ≤ c → ((q : ℕ) → a ≤ q → q < c → P q → ⊥) → Made m P b c ks → Made m P b a ks
  made-skip {a} {c} {b} l h (made_none g) = made_none (λ q u v p. go q u v p (dec_lt q c))
    where
      go : (q : ℕ) → a ≤ q → q < b → P q → Dec (q < c) → ⊥
      go q u v p (yes w) = h q u w p
      go q u v p (no w) = g q (omega arith) v p
  made-skip {a} {c} {b} l h (made-next {s = s} k g n p e t M) = made-next {a = a} {s = s} (omega arith) (λ q u v x. go q u v x (dec_lt q c)) n p e t M
    where
      go : (q : ℕ) → a ≤ q → q < s → P q → Dec (q < c) → ⊥
      go q u v x (yes w) = h q u w x
      go q u v x (no w) = g q (omega arith) v x

  pub made-append : {b c a : ℕ} {ks ls : List ℕ} → a ≤ c → c ≤ b → Made m P c a ks → Made m P b c ls → Made m P b a (ks ++ ls)
  made-append l h (made_none g) N = made-skip l g N
  made-append {a} l h (made-next {s = s} k g n p e t M) N = made-next {a = a} {s = s} k g n p e (omega arith) (made-append t h M N)

  pub made-one-block : {k i s : ℕ} → Names m k i s → ((q : ℕ) → Among s (4 ^ i) q → P q) → Made m P (s + 4 ^ i) s (k ∷ [])
  made-one-block {i = i} {s = s} n p = made-next {a = s} {s = s} {end = s + 4 ^ i} (omega arith) (λ q u v x. omega arith) n p refl (omega arith) (made-empty (omega arith))

  -- a stretch of places that all have the property
  along : (fuel a b : ℕ) → b - a ≤ fuel → b ≤ 4 ^ m → ((q : ℕ) → a ≤ q → q < b → P q) → Made m P b a (stretch m a b)
  along zero a b f room p = rw (stretch-none m {a = a} {b = b} (omega arith)) (made-empty (omega arith))
  along (suc fuel) a b f room p = go (λ c. along fuel c b) (dec_lt a b)
    where
      go : ((c : ℕ) → b - c ≤ fuel → b ≤ 4 ^ m → ((q : ℕ) → c ≤ q → q < b → P q) → Made m P b c (stretch m c b)) → Dec (a < b) → Made m P b a (stretch m a b)
      go ih (yes l) =
          let i : ℕ = exponent_in m (between a b) a in
          let c : ℕ = a + 4 ^ i in
          rw (stretch-next m l)
          (made-next {a = a} {s = a} {end = c} (omega arith) (λ q u v x. omega arith) (next-named m l room) (λ q h. p q (omega arith) (omega (arith, next-room m l))) refl (next-room m l)
          (ih c (omega (arith, pow-least 3 i)) room (λ q u v. p q (omega arith) v)))
      go ih (no l) = rw (stretch-none m {a = a} {b = b} (omega arith)) (made-empty (omega arith))

  pub made-stretch : (a b : ℕ) → b ≤ 4 ^ m → ((q : ℕ) → a ≤ q → q < b → P q) → Made m P b a (stretch m a b)
  made-stretch a b = along (b - a) a b (omega arith)
