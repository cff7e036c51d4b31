-- `many::askable` meets its contract. Each test decides what its law in `Tables` says.
use mathlib.Core.Path.{sym, ◌∙◌}
use native.Mathlib.Omega.{arith}
use Rattle.answers.proofs.Laws.{handed-on, refusing}
use Rattle.map.proofs.Laws.{sound-map}
use Rattle.many.proofs.Windows.{windows-length}
use Rattle.many.proofs.Tables.{wrong-not, many-unsound, many-unlisted, many-narrow, many-short, many-passes}
use Rattle.many.proofs.askable.Goals as goal

pub returns-in_err-sound : goal.returns-in_err-sound
returns-in_err-sound c = handed-on c.from_residual.ensures ∙ sym (many-unsound _ _ _ _ _ _ (sym c.sound.ensures ∙ c.in_err-sound.was))

pub returns-then-wrong_list : goal.returns-then-wrong_list
returns-then-wrong_list c =
    refusing c.at.ensures (many-unlisted _ _ _ _ _ _ (sym c.sound.ensures ∙ c.in_ok-sound.was) (sym c.wrong_list.ensures ∙ c.if-wrong_list.true))

pub widest-requires : goal.widest-requires
widest-requires c = ((sound-map _ _ _).0 (sym c.sound.ensures ∙ c.in_ok-sound.was)).sizes.small

pub returns-in_err-wide_enough : goal.returns-in_err-wide_enough
returns-in_err-wide_enough c =
    let border = sym (rw c.widest.ensures at c.wide_enough.ensures) in
    handed-on c.from_residual-in_err-wide_enough.ensures
    ∙ sym (many-narrow _ _ _ _ _ _ (sym c.sound.ensures ∙ c.in_ok-sound.was) (sym c.wrong_list.ensures ∙ c.if-wrong_list.false) (border ∙ c.in_err-wide_enough.was))

pub overflow_cast-needed : goal.overflow_cast-needed
overflow_cast-needed c = omega (arith, ((wrong-not _).0 (sym c.wrong_list.ensures ∙ c.if-wrong_list.false)).1)

pub returns-then-room-needed : goal.returns-then-room-needed
returns-then-room-needed c =
    let border = sym (rw c.widest.ensures at c.wide_enough.ensures) in
    let fours = sym c.wrong_list.ensures ∙ c.if-wrong_list.false in
    let count = windows-length c.args.windows.now in
    refusing c.at-then-room-needed.ensures
    (rw (← count) (many-short _ _ _ _ _ _ (sym c.sound.ensures ∙ c.in_ok-sound.was) fours (border ∙ c.in_ok-wide_enough.was) (rw count c.if-room-needed.true)))

pub returns : goal.returns
returns c =
    let border = sym (rw c.widest.ensures at c.wide_enough.ensures) in
    let fours = sym c.wrong_list.ensures ∙ c.if-wrong_list.false in
    let count = windows-length c.args.windows.now in
    sym (many-passes _ _ _ _ _ _ (sym c.sound.ensures ∙ c.in_ok-sound.was) fours (border ∙ c.in_ok-wide_enough.was) (rw count c.if-room-needed.false))
