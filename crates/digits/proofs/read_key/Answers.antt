-- `digits::read_key` meets its contract: of key 0 and of numbers with more than twelve digits at once, of others by their digits.
use mathlib.Core.Path.{sym, ap, ◌∙◌}
use native.Mathlib.Omega.{arith}
use Rattle.key.specs.Form.{form_of}
use Rattle.key.proofs.Laws.{pow-most}
use Rattle.key.proofs.Loops.{form-whole, form-big}
use Rattle.digits.proofs.read_key.Goals as goal

pub returns-then-key-eq0 : goal.returns-then-key-eq0
returns-then-key-eq0 c = sym (ap (form_of c.args.m) c.if-key-eq0.true ∙ form-whole c.args.m)

pub returns-then-key-ge244140625 : goal.returns-then-key-ge244140625
returns-then-key-ge244140625 c = sym (form-big _ _ (omega (arith, pow-most 4 _ c.requires)))

pub returns : goal.returns
returns c = c.read_digits.ensures ∙ ap (form_of _) (sym c.strip_zeros.ensures.is)
