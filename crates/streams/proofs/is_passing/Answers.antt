-- `streams::is_passing` meets its contract. The machine compares the bits of a number, and no negative one has those of a small one.
use mathlib.Core.Bool.{◌||◌}
use mathlib.Core.Path.{◌≡◌, refl}
use native.Mathlib.Omega.{arith}
use lib.Dec.{eqb}
use lib.IntN.{ℤ, pos, negsuc}
use mir.Syntax.{w32}
use mir.Val.{SFits, of_z}
use borrow.Author.Tests.{eq-eqb, ne_eqb}
use Rattle.streams.specs.Streams.{passing}
use Rattle.streams.proofs.is_passing.Goals as goal

by_bits : (error : ℤ) → SFits w32 error → (eqb (of_z w32 error) 4 || eqb (of_z w32 error) 11) ≡ passing error
unfolding passing
by_bits (pos error) fits = refl
by_bits (negsuc error) fits = rw (ne_eqb (of_z w32 (negsuc error)) 4 (λ e. omega (arith, fits.sfits, e)), ne_eqb (of_z w32 (negsuc error)) 11 (λ e. omega (arith, fits.sfits, e))) refl

pub returns-then-error-eq-EINTR : goal.returns-then-error-eq-EINTR
returns-then-error-eq-EINTR c = rw (eq-eqb _ 4 c.if-error-eq-EINTR.true) (rw (eq-eqb _ 4 c.if-error-eq-EINTR.true) at (by_bits c.args.error c.ranges.error))

pub returns-else-error-eq-EINTR : goal.returns-else-error-eq-EINTR
returns-else-error-eq-EINTR c = rw (ne_eqb _ 4 c.if-error-eq-EINTR.false) at (by_bits c.args.error c.ranges.error)
