-- Totals that are gathered record by record along a run: what is gathered in all is what is gathered from each record on, and no total grows beyond the window.
-- Assumes nothing.
use mathlib.Core.Path.{◌≡◌, refl, sym, ap, ◌∙◌}
use mathlib.Core.List.{List, [], ◌∷◌, ◌++◌, append_assoc}
use Prim.Native.Nat.{ℕ, ◌+◌, ◌-◌, ◌*◌, ◌≤◌, ◌<◌}
use native.Mathlib.Omega.{arith}
use lib.ListN.{get_or, set, replicate}
use Rattle.lists.specs.Lists.{up_from}
use Rattle.lists.proofs.Laws.{upto-whole, upto_next, upto-last}
use Rattle.window.specs.declared.Window.{Window}
use Rattle.window.specs.Window.{Inside}
use Rattle.window.proofs.Laws.{pixels-most}
use Rattle.totals.specs.Gather.{area, added, gathered, Gathering}
use Rattle.totals.proofs.Totals.{gathered_next, added-most}

-- the records from `first` up to n have been added
pub record Adding (m : ℕ) (keys classes : List ℕ) (W : Window) (first end : ℕ) (totals₀ totals : List ℕ) (n : ℕ) : Type 0 where
  pub low : first ≤ n
  pub high : n ≤ end
  pub gathering : Gathering m keys classes W n (end - n) totals
  pub same : gathered m keys classes W (up_from first (end - first)) totals₀ ≡ gathered m keys classes W (up_from n (end - n)) totals

module _ {m : ℕ} {keys classes : List ℕ} {W : Window} where
  pub adding-first : {first count : ℕ} {totals : List ℕ} → Gathering m keys classes W first count totals → Adding m keys classes W first (first + count) totals totals first
  adding-first {first} {count} g =
      let e : first + count - first ≡ count = omega arith in
      record { low = omega arith; high = omega arith; gathering = rw e g; same = refl }

  module _ {first end : ℕ} {totals₀ totals : List ℕ} {n : ℕ} (A : Adding m keys classes W first end totals₀ totals n) where
    module _ (l : n < end) where
      pub adding-most : Inside 12 W → get_or classes n 0 < 256 → get_or totals (get_or classes n 0) 0 + area m keys W n ≤ 16777216
      adding-most I s =
          let G = A.gathering in
          let z = added-most m keys classes W G.past n (up_from (n + 1) (end - (n + 1))) (rw (upto_next l) at G.once) s in
          let w : get_or totals (get_or classes n 0) 0 + area m keys W n ≤ W.h * W.w = rw G.is z in
          omega (arith, w, pixels-most W I)

      pub adding-next : {x : ℕ} → x ≡ area m keys W n → Adding m keys classes W first end totals₀ (set totals (get_or classes n 0) (get_or totals (get_or classes n 0) 0 + x)) (n + 1)
      unfolding gathered added
      adding-next {x} e =
          let G = A.gathering in
          let d : set totals (get_or classes n 0) (get_or totals (get_or classes n 0) 0 + x) ≡ added m keys classes W n totals = rw e in
          rw d (record {
            low = omega (arith, A.low);
            high = omega arith;
            gathering = record {
              past = G.past ++ (n ∷ []);
              is = ap (added m keys classes W n) G.is ∙ sym (gathered_next m keys classes W G.past n (replicate 256 0));
              once = rw (append_assoc G.past (n ∷ []) (up_from (n + 1) (end - (n + 1)))) (rw (upto_next l) at G.once);
            };
            same = A.same ∙ rw (upto_next l);
          })

module _ {m : ℕ} {keys classes : List ℕ} {W : Window} where
  pub adding-last : {first : ℕ} (count : ℕ) {totals₀ totals : List ℕ} {n : ℕ} → Adding m keys classes W first (first + count) totals₀ totals n → first + count ≤ n
      → totals ≡ gathered m keys classes W (up_from first count) totals₀
  unfolding gathered
  adding-last {first} count A l = sym (rw (upto-whole first count) (A.same ∙ rw (upto-last l)))
