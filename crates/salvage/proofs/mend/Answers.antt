-- `salvage::mend` meets its contract: each way that a record may go has its law in `Steps` and `Taking`.
use mathlib.Core.Path.{◌≡◌, sym}
use Prim.Native.Nat.{ℕ}
use native.Mathlib.Omega.{arith}
use Rattle.std.specs.Prelude.{Some}
use Rattle.answers.specs.declared.Cause.TheVariants.{BadKey, Overlap}
use Rattle.key.specs.declared.Span.{Span}
use Rattle.key.specs.Form.{form_of}
use Rattle.key.specs.Blocks.{Names}
use Rattle.key.proofs.Laws.{block-lies}
use Rattle.salvage.proofs.Steps.{step-garbled, step-early}
use Rattle.salvage.proofs.Taking.{take-entry, other-later, take-fills, drops, going-filled}
use Rattle.salvage.proofs.mend.Goals as goal

-- the key is read as that of a block
named : {m key : ℕ} {b : Span} → Some b ≡ form_of m key → Names m key b.exponent b.start
named e = record { is = sym e }

-- a bad key
pub leave_out-requires : goal.leave_out-requires
leave_out-requires c = (c.requires.some_record.2, take-entry (step-garbled _ _ _ _ (sym c.in_default.ensures)).0 c.requires.countable)

pub returns-in_default : goal.returns-in_default
returns-in_default c =
    let e = c.leave_out.ensures in
    drops {cause = BadKey} c.requires.some_record.1 (step-garbled _ _ _ _ (sym c.in_default.ensures)) e.one_entry_more e.entry_put

-- a block that starts before the place reached
pub leave_out-requires-then-block-from : goal.leave_out-requires-then-block-from
leave_out-requires-then-block-from c =
    (c.requires.some_record.2, take-entry (step-early _ _ _ _ (named c.in-Some.ensures) c.if-block-from.true).0 c.requires.countable)

pub returns-then-block-from : goal.returns-then-block-from
returns-then-block-from c =
    let e = c.leave_out-then-block-from.ensures in
    drops {cause = Overlap} c.requires.some_record.1 (step-early _ _ _ _ (named c.in-Some.ensures) c.if-block-from.true) e.one_entry_more e.entry_put

-- or behind it
pub fill-now-requires : goal.fill-now-requires
fill-now-requires c =
    let p = c.requires in
    let n = named c.in-Some.ensures in
    let l = other-later p.stands_elsewhere.1 n c.if-block-from.false in
    (p.some_record.0, p.stands_elsewhere.0, omega (arith, l), omega (arith, (block-lies n).span), take-fills _ _ _ _ n (omega (arith, l)) p.countable)

pub returns : goal.returns
returns c =
    let n = named c.in-Some.ensures in
    let l = other-later c.requires.stands_elsewhere.1 n c.if-block-from.false in
    let w = c.fill-now.ensures in
    record {
      forward = omega (arith, l, w.stands_behind.0);
      less = omega (arith, l, w.stands_behind.0);
      goes = λ classes a G. going-filled G c.requires.some_record.1 n (omega (arith, l)) w.stands_behind w.gap_filled;
    }
