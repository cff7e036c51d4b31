-- From opening to opening until one hands out a record: the openings before it are counted, and none of them does.
-- Assumes nothing.
use mathlib.Core.Path.{◌≡◌, refl, sym, ap, ◌∙◌}
use mathlib.Core.Logic.{◌↔◌, ⊎_elim}
use mathlib.Core.Bool.{true, false}
use mathlib.Core.List.Memᴰ
use mathlib.Core.List.{List, [], ◌∷◌, ◌++◌, append_assoc, Memᴰ}
use Prim.Native.Nat.{ℕ, ◌+◌, ◌≤◌, ◌<◌}
use native.Mathlib.Omega.{arith}
use lib.ListN.{length, length-append}
use Rattle.std.specs.Prelude.{None}
use Rattle.lists.proofs.Laws.{nth-less, nth-one, nth-middle, before-taken, before-none, before-append, in-range, refuted}
use Rattle.window.specs.declared.Window.{Window}
use Rattle.window.proofs.Laws.{inside-12}
use Rattle.border.specs.declared.Walk.{Walk}
use Rattle.border.specs.declared.Opening as found
use Rattle.border.specs.Openings.{Opening, made, openings}
use Rattle.border.specs.Found.{walk_makes, spot, Finds}
use Rattle.border.proofs.Laws.{Finding, Opens, finding-last, openings-few}
use Rattle.used.specs.Used.{Usable}
use Rattle.why.specs.Why.{hands_out, bringer}
use Rattle.why.specs.Parts.{Brings}

-- the walk stands somewhere, k openings behind it, none of which hands out record n
pub record Bringing (m : ℕ) (keys : List ℕ) (W : Window) (n : ℕ) (border₀ border : List ℕ) (at : Walk) (k : ℕ) : Type 0 where
  pub done : List Opening
  pub finding : Finding m m keys W border₀ border at done
  pub count : k ≡ length done
  pub none : (o : Opening) → Memᴰ o done → hands_out n o ≡ false

module _ {m : ℕ} {keys : List ℕ} {W : Window} (n : ℕ) where
  pub bringing-first : {border : List ℕ} {at : Walk} → Finding m m keys W border border at [] → Bringing m keys W n border border at 0
  bringing-first F = record { done = []; finding = F; count = refl; none = λ o l. absurd (Memᴰ.not-nil l) }

  module _ {border₀ border : List ℕ} {at : Walk} {k : ℕ} (B : Bringing m keys W n border₀ border at k) where
    module _ {o : found.Opening} {on : Walk} {border' : List ℕ} (O : Opens B.finding o on border') where
      abbrev own : Opening
      own = made o.key o.run.first o.run.count

      abbrev rest : List Opening
      rest = walk_makes m m keys W border' (spot on)

      parts : openings m m keys W ≡ B.done ++ own ∷ rest
      parts = O.next.all ∙ append_assoc B.done (own ∷ []) rest

      -- there are few openings
      pub bringing-few : {room : ℕ} → Usable m m keys W room → k + 1 ≤ 65536
      bringing-few U =
          let i = inside-12 U.small U.inside in
          let all : length (openings m m keys W) ≡ k + (1 + length rest) = rw parts (simp length-append (omega (arith, B.count))) in
          omega (arith, all, openings-few U.spaced U.inside, i)

      hands-own : (hands_out n own ≡ true) ↔ ((o.run.first ≤ n) × (n < o.run.first + o.run.count))
      unfolding hands_out
      hands-own = in-range o.run.first (o.run.first + o.run.count) n

      pub bringing-next : ((o.run.first ≤ n) × (n < o.run.first + o.run.count) → ⊥) → Bringing m keys W n border₀ border' on (k + 1)
      bringing-next other =
          let e : hands_out n own ≡ false = refuted _ (λ t. other (hands-own.0 t)) in
          record {
            done = B.done ++ (own ∷ []);
            finding = O.next;
            count = omega (arith, B.count, length-append B.done (own ∷ []));
            none = λ x l. ⊎_elim (B.none x) (λ d. let q : x ≡ own = Memᴰ.eq_of_singleton d in rw q e) (Memᴰ.append_cases B.done l);
          }

      pub bringing-found : (o.run.first ≤ n) × (n < o.run.first + o.run.count) → Brings (openings m m keys W) n (record { opening = k; key = o.key })
      unfolding bringer
      bringing-found hands =
          rw parts (record {
            number = omega (arith, B.count, before-append (hands_out n) B.done (own ∷ rest) B.none, before-taken (hands_out n) rest (hands-own.1 hands));
            key-is = λ y at. ap (λ (x : Opening). x.key) (nth-one (nth-middle B.done rest) (rw B.count at at));
          })

    -- none is left
    pub bringing-last : {on : Walk} {border' : List ℕ} → Finds m m keys W at border None on border' → Brings (openings m m keys W) n (record { opening = k; key = 0 })
    unfolding bringer
    bringing-last f =
        rw (finding-last B.finding f).0 (record {
          number = B.count ∙ sym (before-none (hands_out n) B.done B.none);
          key-is = λ o at. absurd (omega (arith, nth-less at, B.count));
        })
