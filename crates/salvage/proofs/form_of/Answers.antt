-- `salvage::form_of` meets its contract.
use mathlib.Core.Path.{sym, ◌∙◌}
use native.Mathlib.Omega.{arith}
use Rattle.salvage.proofs.Forms.{told-as, far-malformed, other-malformed}
use Rattle.salvage.proofs.form_of.Goals as goal

pub returns-then-pow4-start : goal.returns-then-pow4-start
returns-then-pow4-start c = sym (far-malformed _ c.requires c.start_of-start.ensures (omega (arith, c.if-pow4-start.true, c.pow4.ensures.is)))

-- what is told at the start that the digits say
pub returns-in_err-exponent : goal.returns-in_err-exponent
returns-in_err-exponent c =
    c.from_residual.ensures ∙ sym (other-malformed _ c.requires c.start_of-start.ensures (told-as c.spot_at-spot.ensures.0 c.in_err-exponent.was c.exponent_at.ensures))
