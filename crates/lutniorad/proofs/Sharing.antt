-- Reports of windows that share pixels, and of windows that part another, from the contracts of the calls alone.
-- Assumes nothing.
use mathlib.Core.Path.{◌≡◌, refl, sym, ap, ap₂, ◌∙◌}
use mathlib.Core.Logic.{◌↔◌}
use mathlib.Core.Bool.{true}
use mathlib.Core.List.{List, [], ◌∷◌, map}
use Prim.Native.Nat.{ℕ, ◌+◌, ◌*◌, ◌≤◌, ◌<◌}
use native.Mathlib.Omega.{arith}
use lib.ListN.{length, get_or, take}
use Rattle.lists.specs.Promises.{sum}
use Rattle.lists.proofs.Laws.{sum-none, sum-next, sums_same}
use Rattle.window.specs.declared.Window.{Window}
use Rattle.window.specs.Window.{Inside}
use Rattle.window.specs.SharingPromises.{Union, Intersection, Overlapping, Parted, Touching, hull, meet}
use Rattle.window.proofs.Laws.{meet-is, meet-inside, intersection-is, hull-inside, union-is, touching-is, parted-two}
use Rattle.totals.specs.Totals.{total}
use Rattle.totals.proofs.Laws.{total-shared, total-parted}
use Rattle.map.specs.Records.{record_of}
use Rattle.map.specs.Classes.{class_in}
use Rattle.used.specs.Promises.{Answerable}
use Rattle.lutniorad.specs.declared.Answer.{Answer}
use Rattle.lutniorad.specs.Calls.{Report}
use Rattle.lutniorad.specs.Promises.{ReportPromise}
use Rattle.lutniorad.specs.SharingPromises.{ReportLeaves, ReportsLeave, none, more, AddUp}
use Rattle.lutniorad.proofs.Asked.{report-answered, report-promise}

module _ {m : ℕ} {keys classes : List ℕ} where
  -- ---- one call

  module _ {W : Window} {cells : List ℕ} (R : ReportLeaves m keys classes W cells) where
    promised : ReportPromise m keys classes W R.border R.old R.r R.border' cells
    promised = report-promise true (class_in m keys classes) m keys classes W R.border R.old R.call R.answered

    asked : Answerable m keys (length classes) W (length R.border)
    asked = ((report-answered true (class_in m keys classes) m keys classes W R.border R.old R.call).0 R.answered).0

    -- on the same map a window inside is answered exactly when there is room
    pub reports-answered : {X : Window} → Inside m X → (border old : List ℕ) {r : Answer} {border' cells' : List ℕ} → Report m keys classes X border old r border' cells'
        → (r.refusal ≡ 0) ↔ ((X.w ≤ length border) × (256 ≤ length old))
    reports-answered {X} inside border old call =
        let t = report-answered true (class_in m keys classes) m keys classes X border old call in
        (λ z. ((t.0 z).0.wide, (t.0 z).1), λ room. t.1 (record { sound = asked.sound; inside = inside; wide = room.0 }, room.1))

  -- ---- windows that part another

  pub reports-parted : {parts : List Window} {reports : List (List ℕ)} {U : Window} {u : List ℕ} → ReportsLeave m keys classes parts reports
      → ReportLeaves m keys classes U u → Parted U parts
      → (k : ℕ) → k < 256 → sum (map (λ cells. get_or cells k 0) reports) ≡ get_or u k 0
  reports-parted all z parted k l = ap sum (each all) ∙ total-parted m keys classes k parted ∙ sym ((promised z).cells k l)
    where
      each : {parts : List Window} {reports : List (List ℕ)} → ReportsLeave m keys classes parts reports
          → map (λ cells. get_or cells k 0) reports ≡ map (λ W. total m keys classes W k) parts
      each none = refl
      each (more R rest) = ap₂ ◌∷◌ ((promised R).cells k l) (each rest)

  -- ---- the union is a rectangle

  module _ {A B : Window} {a b : List ℕ} (x : ReportLeaves m keys classes A a) (y : ReportLeaves m keys classes B b) where
    -- cell by cell, report of A plus report of B is report of the union plus report of the intersection
    pub reports-shared : {U I : Window} {u i : List ℕ} → ReportLeaves m keys classes U u → ReportLeaves m keys classes I i → Union A B U → Intersection A B I → AddUp a b u i
    reports-shared z w union shared k l =
        rw ((promised x).cells k l, (promised y).cells k l, (promised z).cells k l, (promised w).cells k l) (total-shared m keys classes k union shared)

    -- for two windows that touch along a whole side of both, it is report of the union
    pub reports-touching : {U : Window} {u : List ℕ} → ReportLeaves m keys classes U u → Touching A B → Union A B U → (k : ℕ) → k < 256 → get_or a k 0 + get_or b k 0 ≡ get_or u k 0
    reports-touching {u = u} z touching union k l =
        let apart = ((touching-is (asked x).inside (asked y).inside).0 touching).0 in
        let all = reports-parted (more x (more y none)) z (parted-two union apart) k l in
        omega (arith, all, sum-next (get_or a k 0) (get_or b k 0 ∷ []), sum-next (get_or b k 0) [], sum-none)

    -- without a rectangle it is never so of the windows by edges: the reports add up exactly when the union is one
    pub reports-when : {u i : List ℕ} → ReportLeaves m keys classes (hull A B) u → ReportLeaves m keys classes (meet A B) i → ((n : ℕ) → get_or classes n 0 < 256)
        → AddUp a b u i ↔ Union A B (hull A B)
    reports-when {u} {i} z w bytes = (
      λ add. (union-is (asked x).inside (asked y).inside).1 (omega (arith, sums_same 256 a b u i add, all x, all y, all z, all w), refl),
      λ union. reports-shared z w union (meet-is A B),
    )
      where
        all : {W : Window} {cells : List ℕ} → ReportLeaves m keys classes W cells → sum (take 256 cells) ≡ W.h * W.w
        all R = (promised R).together (λ q. bytes (record_of m keys q))

    -- ---- calls on the union and on the intersection are answered where there is room

    pub union-answered : {U : Window} → Union A B U → (border old : List ℕ) {r : Answer} {border' cells : List ℕ} → Report m keys classes U border old r border' cells
        → (r.refusal ≡ 0) ↔ ((U.w ≤ length border) × (256 ≤ length old))
    union-answered union = reports-answered x (rw ((union-is (asked x).inside (asked y).inside).0 union).1 (hull-inside (asked x).inside (asked y).inside))

    pub intersection-answered : {I : Window} → Overlapping A B → Intersection A B I → (border old : List ℕ) {r : Answer} {border' cells : List ℕ}
        → Report m keys classes I border old r border' cells → (r.refusal ≡ 0) ↔ ((I.w ≤ length border) × (256 ≤ length old))
    intersection-answered over shared = reports-answered x (rw ((intersection-is over).0 shared) (meet-inside (asked x).inside (asked y).inside over))
