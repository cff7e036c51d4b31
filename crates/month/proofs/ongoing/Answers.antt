-- `month::ongoing` meets its contract. Each test decides what its law in `Tables` says.
use mathlib.Core.Path.{sym, ◌∙◌}
use Rattle.answers.proofs.Laws.{refusing}
use Rattle.month.proofs.Tables.{table-short, table-other, table-spoiled, table-full, table-open}
use Rattle.month.proofs.ongoing.Goals as goal

pub returns-then-table-lt1030 : goal.returns-then-table-lt1030
returns-then-table-lt1030 c = refusing c.at.ensures (table-short _ _ c.if-table-lt1030.true)

pub returns-then-table-m : goal.returns-then-table-m
returns-then-table-m c = refusing c.at-then-table-m.ensures (table-other _ _ c.if-table-lt1030.false c.if-table-m.true)

pub returns-then-spoiled : goal.returns-then-spoiled
returns-then-spoiled c =
    refusing c.at-then-spoiled.ensures (table-spoiled _ _ c.if-table-lt1030.false c.if-table-m.false (sym c.spoiled.ensures ∙ c.if-spoiled.true))

pub returns-then-table-eq1000 : goal.returns-then-table-eq1000
returns-then-table-eq1000 c =
    refusing c.at-then-table-eq1000.ensures
    (table-full _ _ c.if-table-lt1030.false c.if-table-m.false (sym c.spoiled.ensures ∙ c.if-spoiled.false) c.if-table-eq1000.true)

pub returns : goal.returns
returns c = sym (table-open _ _ c.if-table-lt1030.false c.if-table-m.false (sym c.spoiled.ensures ∙ c.if-spoiled.false) c.if-table-eq1000.false)
