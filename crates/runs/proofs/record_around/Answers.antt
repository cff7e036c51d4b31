-- `runs::record_around` meets its contract: the record before contains the block exactly when it reaches over it.
use Rattle.std.proofs.Common.{◌-◌, refl, sym, ◌∙◌, arith}
use Rattle.key.proofs.Laws.{reaches-least, reaches-before, reaches-around}
use Rattle.map.proofs.Laws.{SomeRecord, record-at, found-around}
use Rattle.map.proofs.Loops.{found_none}
use Rattle.runs.proofs.record_around.Goals as goal
use Rattle.runs.proofs.record_around.Goals.{Else-next-eq0}

pub returns-then-next-eq0 : goal.returns-then-next-eq0
returns-then-next-eq0 c =
    let p = c.requires in
    c.inside.ensures ∙ sym (found_none p.2 p.3.names p.4 p.5 refl (λ j t l r. absurd (omega (arith, c.if-next-eq0.true))))

-- there is a record before
before : (c : Else-next-eq0) → SomeRecord c.args.m c.args.keys.now (c.args.next - 1)
before c = record-at c.requires.2 _ (omega (arith, c.if-next-eq0.false, c.requires.4.room))

pub reach_over-reach-requires : goal.reach_over-reach-requires
reach_over-reach-requires c =
    let p = c.requires in
    let b = before (goal.at.reach_over-reach-requires c).Else-next-eq0 in (
      p.0,
      record {
        exponent = b.exponent;
        first = b.start;
        start = p.3.start;
        owns = b.is.names;
        names = p.3.names;
        less = p.4.below (c.args.next - 1) (omega (arith, c.if-next-eq0.false));
      },
    )

pub returns-then-reach-i : goal.returns-then-reach-i
returns-then-reach-i c =
    let p = c.requires in
    let none = found_none p.2 p.3.names p.4 p.5 refl (λ j t l u. reaches-before c.reach_over-reach.ensures c.if-reach-i.true u.names) in
    c.inside-then-reach-i.ensures ∙ rw c.if-reach-i.true (sym none)

pub returns : goal.returns
returns c =
    let p = c.requires in
    let b = before (goal.at.returns c).Else-next-eq0 in
    let r = c.reach_over-reach.ensures in
    let a = reaches-around r (omega (arith, c.if-reach-i.false, reaches-least r)) in
    sym (found-around p.2 p.3.names (record { within = b.is.within; names = a.1 }) a.2)
