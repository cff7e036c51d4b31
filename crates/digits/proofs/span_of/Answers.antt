-- `digits::span_of` meets its contract: a block's key ends in as many zeros as its exponent says, and its digits say where it starts.
use mathlib.Core.Path.{◌∙◌}
use Rattle.key.proofs.Loops.{ends-exponent, start-told}
use Rattle.digits.proofs.span_of.Goals as goal

pub returns : goal.returns
returns c =
    let n = c.requires.1.names in
    rw (ends-exponent n c.zeros_of-exponent.ensures, c.start_of-start.ensures ∙ start-told c.requires.0 n) n
