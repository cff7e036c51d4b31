-- `records::misfit` meets its contract: what the key is says which of the record's refusals holds.
use mathlib.Core.Path.{◌≡◌, sym, ◌∙◌}
use native.Mathlib.Omega.{arith}
use Rattle.answers.proofs.Laws.{refusing}
use Rattle.key.specs.Blocks.{Names}
use Rattle.key.proofs.Laws.{fits-other}
use Rattle.map.specs.Walk.{behind, refused}
use Rattle.map.proofs.Loops.{step-malformed, step-early, step-late, late_is}
use Rattle.records.proofs.misfit.Goals as goal

pub returns-in_default : goal.returns-in_default
returns-in_default c = refused (λ ks. sym (refusing c.at.ensures (step-malformed _ _ _ _ _ ks (sym c.read_key.ensures ∙ c.in_default.is))))

pub returns-then-block-at : goal.returns-then-block-at
returns-then-block-at c =
    refused (λ ks. sym (refusing c.at-then-block-at.ensures (step-early _ _ _ _ _ ks (record { is = sym c.in-Some.ensures }) c.if-block-at.true)))

pub returns-then-whole : goal.returns-then-whole
returns-then-whole c =
    let named : Names c.args.m c.args.key c.in-Some.block.exponent c.in-Some.block.start = record { is = sym c.in-Some.ensures } in
    let elsewhere : c.in-Some.block.start ≡ c.args.at → ⊥ = λ e. fits-other c.requires.1 _ (rw e at named) in
    refused (λ ks. sym (refusing c.at-then-whole.ensures (step-late _ _ _ _ _ ks named (rw c.if-whole.true ((late_is _ _).1 (omega (arith, c.if-block-at.false, elsewhere)))))))

pub returns : goal.returns
returns c = behind c.if-whole.false c.if-block-at.false (record { is = sym c.in-Some.ensures })
