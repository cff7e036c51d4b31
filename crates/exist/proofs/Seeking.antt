-- Looking for a record of the class: along a run, and from opening to opening.
-- Assumes nothing.
use mathlib.Core.Path.{◌≡◌, ◌∙◌}
use mathlib.Core.Bool.{Bool, true, false, ◌||◌, or-false}
use mathlib.Core.List.{List, [], ◌∷◌, ◌++◌, append_assoc}
use Prim.Native.Nat.{ℕ, ◌+◌}
use Rattle.std.specs.Prelude.{None}
use Rattle.lists.specs.Lists.{up_from, any}
use Rattle.lists.proofs.Laws.{up_none, up_one, up-append, any_none, any_next, any_append}
use Rattle.window.specs.declared.Window.{Window}
use Rattle.map.specs.Sound.{Follow}
use Rattle.map.specs.Classes.{classed, not_seen}
use Rattle.border.specs.declared.Walk.{Walk}
use Rattle.border.specs.declared.Opening as found
use Rattle.border.specs.Openings.{Opening, made, openings, all_hands}
use Rattle.border.specs.Found.{walk_makes, spot, Finds}
use Rattle.border.proofs.Laws.{Finding, Opens, finding-last}
use Rattle.used.specs.Used.{Usable}
use Rattle.exist.specs.Promises.{exists}
use Rattle.exist.proofs.Found.{exists-hands, any-no-opening, any-opening, opening-any}

-- of the n records from the first on it is known whether one passes
abbrev pub Looking : (ℕ → Bool) → ℕ → ℕ → Bool → Type 0
Looking f first n has = has ≡ any f (up_from first n)

module _ (f : ℕ → Bool) (first : ℕ) where
  pub looking-first : Looking f first 0 false
  looking-first = rw (up_none first, any_none f)

  pub looking-next : (n : ℕ) {has : Bool} → Looking f first n has → Looking f first (n + 1) (has || f (first + n))
  looking-next n e =
      rw (e, up-append first n 1, any_append f (up_from first n) (up_from (first + n) 1), up_one (first + n), any_next f (first + n) [], any_none f, or-false (f (first + n)))

-- ---- from opening to opening

-- the walk stands somewhere; none of the records handed out so far has the class, and it is known whether one was not seen
pub record Seeking (m : ℕ) (keys classes : List ℕ) (W : Window) (class : ℕ) (border₀ border : List ℕ) (at : Walk) (unseen : Bool) : Type 0 where
  pub done : List Opening
  pub finding : Finding m m keys W border₀ border at done
  pub none : any (classed classes class) (all_hands done) ≡ false
  pub known : any (classed classes not_seen) (all_hands done) ≡ unseen

module _ {m : ℕ} {keys : List ℕ} (classes : List ℕ) {W : Window} (class : ℕ) where
  pub seeking-first : {border : List ℕ} {at : Walk} → Finding m m keys W border border at [] → Seeking m keys classes W class border border at false
  seeking-first F = record { done = []; finding = F; none = any-no-opening (classed classes class); known = any-no-opening (classed classes not_seen) }

  module _ {n : ℕ} (U : Usable m m keys W n) (F : Follow m 0 keys) {border₀ border : List ℕ} {at : Walk} {unseen : Bool}
      (S : Seeking m keys classes W class border₀ border at unseen) where
    whole : (k : ℕ) → exists m keys classes W k ≡ any (classed classes k) (all_hands (openings m m keys W))
    whole = exists-hands F U.inside U.cap classes

    module _ {o : found.Opening} {on : Walk} {border' : List ℕ} (O : Opens S.finding o on border') where
      abbrev new : Opening
      new = made o.key o.run.first o.run.count

      pub seeking-next : {glare : Bool} → any (classed classes class) (up_from o.run.first o.run.count) ≡ false
          → glare ≡ any (classed classes not_seen) (up_from o.run.first o.run.count) → Seeking m keys classes W class border₀ border' on (unseen || glare)
      seeking-next e d = record {
        done = S.done ++ (new ∷ []);
        finding = O.next;
        none = any-opening (classed classes class) S.done new ∙ rw S.none e;
        known = any-opening (classed classes not_seen) S.done new ∙ rw (S.known, d);
      }

      pub seeking-found : any (classed classes class) (up_from o.run.first o.run.count) ≡ true → exists m keys classes W class ≡ true
      seeking-found e =
          let rest = walk_makes m m keys W border' (spot on) in
          whole class ∙ rw (O.next.all, append_assoc S.done (new ∷ []) rest) (opening-any (classed classes class) S.done new rest e)

    -- where nothing is left to be found: no pixel has the class, and whether one was not seen is known
    pub seeking-last : {on : Walk} {border' : List ℕ} → Finds m m keys W at border None on border' → (exists m keys classes W class ≡ false) × (exists m keys classes W not_seen ≡ unseen)
    seeking-last f = let all = (finding-last S.finding f).0 in (whole class ∙ rw all S.none, whole not_seen ∙ rw all S.known)
