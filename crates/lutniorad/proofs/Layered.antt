-- Today's map over a baseline, as calls: what is promised holds of these very cells.
-- Assumes nothing.
use mathlib.Core.Path.{ap, ◌≡◌, refl, sym}
use mathlib.Core.List.{[], ◌∷◌, ◌++◌, map}
use native.Mathlib.Omega.{arith}
use lib.ListN.{replicate, get_or}
use Rattle.answers.specs.After.{after}
use Rattle.answers.proofs.P1 as under
use Rattle.answers.proofs.P1.{old}
use Rattle.window.specs.Rules.{total_by}
use Rattle.window.proofs.P1.{W}
use Rattle.border.specs.Openings.{met}
use Rattle.pieces.specs.Pair.{class_over_map}
use Rattle.overlay.proofs.Examples.{keys, classes, examples, parts}
use Rattle.lutniorad.specs.Numbers.{values, refused_by, part}
use Rattle.lutniorad.specs.Calls.{OverlayExist, OverlayReport, OverlaySelect, OverlayPart}
use Rattle.lutniorad.specs.OverlayPromises.{OverlaySelectPromise}
use Rattle.lutniorad.proofs.Crossing.{crossing-known}
use Rattle.lutniorad.proofs.Overlaying.{overlay-report-promise, overlay-select-promise}
use Rattle.lutniorad.proofs.Lending.{overlay-part-promise}

-- report: cell 2 is the number of pixels of class 2 by both maps
layered-report : OverlayReport 2 keys classes 2 under.keys under.classes W (old 3) (old 257) (values 9 0) (3 ∷ 3 ∷ 3 ∷ []) (0 ∷ 2 ∷ 6 ∷ 1 ∷ replicate 252 0 ++ (99 ∷ []))
layered-report = crossing-known refl (sym examples.report)

layered-six : total_by (class_over_map 2 keys classes under.keys under.classes) W 2 ≡ 6
layered-six = sym ((overlay-report-promise 2 keys classes 2 under.keys under.classes W (old 3) (old 257) layered-report refl).cells 2 (omega arith))

-- select
layered-select : OverlaySelect 2 keys classes 2 under.keys under.classes W 2 (old 3) (old 4) (values 3 0) (3 ∷ 3 ∷ 3 ∷ []) (10 ∷ 21 ∷ 22 ∷ 99 ∷ [])
layered-select = crossing-known refl (sym examples.select)

layered-promise : OverlaySelectPromise (class_over_map 2 keys classes under.keys under.classes) 2 W 2 (old 3) (old 4) (10 ∷ 21 ∷ 22 ∷ []) (values 3 0) (3 ∷ 3 ∷ 3 ∷ [])
    (10 ∷ 21 ∷ 22 ∷ 99 ∷ [])
layered-promise = overlay-select-promise 2 keys classes 2 under.keys under.classes W 2 (old 3) (old 4) layered-select refl

-- a refusal of today's map, which overlaps itself, and of the baseline, which has a gap
layered-today : OverlayExist 2 (9 ∷ 9 ∷ []) (3 ∷ 2 ∷ []) 2 keys classes W 3 (old 3) (refused_by 1 4 1) (old 3)
layered-today = crossing-known refl (sym examples.both)

layered-baseline : OverlayExist 2 keys classes 2 keys classes W 3 (old 3) (refused_by 2 5 0) (old 3)
layered-baseline = crossing-known refl (sym examples.gap)

-- the part of block 10: the classes of today's records 1 and 2
layered-part : OverlayPart 2 keys classes 2 under.keys under.classes 10 (part 1 1 2)
layered-part = crossing-known refl (ap (λ x. after x (tt {0})) (sym parts.own))

layered-classes : 2 ∷ 2 ∷ [] ≡ map (λ n. get_or classes n 0) (met 2 keys 10)
layered-classes = ((overlay-part-promise 2 keys classes 2 under.keys under.classes 10 layered-part refl).today refl).classes-are
