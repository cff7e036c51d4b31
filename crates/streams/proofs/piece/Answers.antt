-- `streams::piece` meets its contract.
use Rattle.std.proofs.Common.{sym, ◌∙◌}
use Rattle.streams.proofs.Pieces.{piece-short, piece-lines, piece_bytes}
use Rattle.streams.proofs.piece.Goals as goal

pub returns-then-text-le-PIPE_BUF : goal.returns-then-text-le-PIPE_BUF
returns-then-text-le-PIPE_BUF c = sym (piece-short 4096 c.args.text.now c.if-text-le-PIPE_BUF.true)

pub returns-then-n-eq0 : goal.returns-then-n-eq0
returns-then-n-eq0 c = sym (piece_bytes 4096 c.args.text.now c.if-text-le-PIPE_BUF.false (sym c.whole_lines-n.ensures ∙ c.if-n-eq0.true))

pub returns-else-n-eq0 : goal.returns-else-n-eq0
returns-else-n-eq0 c =
    c.whole_lines-n.ensures ∙ sym (piece-lines 4096 c.args.text.now c.if-text-le-PIPE_BUF.false (λ none. c.if-n-eq0.false (c.whole_lines-n.ensures ∙ none)))
