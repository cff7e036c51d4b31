-- `salvage::room` meets its contract: each test decides what its law in `Table` says.
use mathlib.Core.Path.{sym}
use native.Mathlib.Omega.{arith}
use Rattle.answers.proofs.Laws.{refusing}
use Rattle.salvage.proofs.Table.{result-many, result-keys, result-classes, result-log, result-passed}
use Rattle.salvage.proofs.room.Goals as goal

pub returns-then-records-gt65536 : goal.returns-then-records-gt65536
returns-then-records-gt65536 c = refusing c.at.ensures (result-many _ _ _ _ _ c.if-records-gt65536.true)

pub returns-then-mended-records : goal.returns-then-mended-records
returns-then-mended-records c =
    refusing c.at-then-mended-records.ensures (result-keys _ _ _ _ _ (omega (arith, c.if-records-gt65536.false)) (omega (arith, c.if-mended-records.true)))

pub returns-then-painted-records : goal.returns-then-painted-records
returns-then-painted-records c =
    let many = c.if-records-gt65536.false in
    let keys = c.if-mended-records.false in
    refusing c.at-then-painted-records.ensures (result-classes _ _ _ _ _ (omega (arith, many)) (omega (arith, keys)) (omega (arith, c.if-painted-records.true)))

pub returns-then-log-cells : goal.returns-then-log-cells
returns-then-log-cells c =
    let many = c.if-records-gt65536.false in
    let keys = c.if-mended-records.false in
    let classes = c.if-painted-records.false in
    refusing c.at-then-log-cells.ensures (result-log _ _ _ _ _ (omega (arith, many)) (omega (arith, keys)) (omega (arith, classes)) (omega (arith, c.if-log-cells.true)))

pub returns : goal.returns
returns c =
    let many = c.if-records-gt65536.false in
    let keys = c.if-mended-records.false in
    let classes = c.if-painted-records.false in
    sym (result-passed _ _ _ _ _ (omega (arith, many)) (omega (arith, keys)) (omega (arith, classes)) (omega (arith, c.if-log-cells.false)))
