-- Totals that are gathered from opening to opening: in the end they are those of the window's pixels.
-- Assumes nothing.
use mathlib.Core.Path.{◌≡◌, sym, ap, ◌∙◌}
use mathlib.Core.List.{List, [], ◌∷◌, ◌++◌}
use Prim.Native.Nat.{ℕ}
use native.Mathlib.Omega.{arith}
use lib.ListN.{length, replicate}
use Rattle.std.specs.Prelude.{None}
use Rattle.lists.specs.Lists.{up_from}
use Rattle.lists.proofs.Laws.{ordered-part}
use Rattle.window.specs.declared.Window.{Window}
use Rattle.map.specs.Sound.{Follow}
use Rattle.border.specs.declared.Walk.{Walk}
use Rattle.border.specs.declared.Opening as found
use Rattle.border.specs.Openings.{Opening, made, all_hands}
use Rattle.border.specs.Found.{walk_makes, walk, spot, Finds}
use Rattle.border.proofs.Laws.{hands_none, hands-one, hands-append, records-once, Finding, Opens, finding-last}
use Rattle.used.specs.Used.{Usable}
use Rattle.totals.specs.Totals.{totals}
use Rattle.totals.specs.Gather.{gathered, Hands, Gathering}
use Rattle.totals.proofs.Totals.{gathered-append, openings-gathered}

-- the walk stands somewhere, and the records handed out so far have been added
pub record Totalling (m : ℕ) (keys classes : List ℕ) (W : Window) (border₀ border cells : List ℕ) (at : Walk) : Type 0 where
  pub done : List Opening
  pub finding : Finding m m keys W border₀ border at done
  pub is : cells ≡ gathered m keys classes W (all_hands done) (replicate 256 0)

module _ {m : ℕ} {keys : List ℕ} (classes : List ℕ) {W : Window} where
  pub totalling-first : {border : List ℕ} → Finding m m keys W border border (walk W.r0 W.c0 W.w) []
      → Totalling m keys classes W border border (replicate 256 0) (walk W.r0 W.c0 W.w)
  unfolding gathered
  totalling-first F = record { done = []; finding = F; is = rw hands_none }

  module _ {room : ℕ} (U : Usable m m keys W room) (whole : Follow m 0 keys) {border₀ border cells : List ℕ} {at : Walk} (T : Totalling m keys classes W border₀ border cells at) where
    module _ {o : found.Opening} {on : Walk} {border' : List ℕ} (O : Opens T.finding o on border') where
      pub totalling-hands : {n : ℕ} → length keys ≡ n → Hands m keys n W o
      totalling-hands e = record {
        top = m;
        cells = room;
        given = U;
        whole = whole;
        corner = O.corner;
        named = O.named;
        size = O.size;
        found = O.run;
        room = omega (arith, O.room, e);
        few = omega (arith, U.few, e);
      }

      abbrev new : Opening
      new = made o.key o.run.first o.run.count

      now-done : all_hands (T.done ++ (new ∷ [])) ≡ all_hands T.done ++ up_from o.run.first o.run.count
      now-done = hands-append T.done (new ∷ []) ∙ ap (λ (ns : List ℕ). all_hands T.done ++ ns) (hands-one new)

      pub totalling-once : Gathering m keys classes W o.run.first o.run.count cells
      totalling-once =
          let os = T.done ++ (new ∷ []) in
          let rest = walk_makes m m keys W border' (spot on) in
          let all = rw (O.next.all, hands-append os rest) at (records-once U.spaced U.inside U.cap) in
          record { past = all_hands T.done; is = T.is; once = rw now-done at (ordered-part (all_hands os) _ all) }

      pub totalling-next : {cells' : List ℕ} → cells' ≡ gathered m keys classes W (up_from o.run.first o.run.count) cells → Totalling m keys classes W border₀ border' cells' on
      totalling-next e = record {
        done = T.done ++ (new ∷ []);
        finding = O.next;
        is = e ∙ rw (T.is, now-done) (sym (gathered-append m keys classes W (all_hands T.done) (up_from o.run.first o.run.count) (replicate 256 0)));
      }

    pub totalling-last : {on : Walk} {border' : List ℕ} → Finds m m keys W at border None on border' → cells ≡ totals m keys classes W
    totalling-last f = T.is ∙ rw (← (finding-last T.finding f).0) (openings-gathered whole U.inside U.cap classes)
