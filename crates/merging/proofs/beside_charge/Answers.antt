-- `merging::beside_charge` meets its contract: the first book's own, and that of the second's which moved there. Assumes nothing.
use native.Mathlib.Omega.{arith}
use Rattle.merging.proofs.Beside.{sum_own, sum_from, sum_fits, sum_moved, sums}
use Rattle.merging.proofs.beside_charge.Goals as goal

pub returns-then-d-eq-ABSENT : goal.returns-then-d-eq-ABSENT
returns-then-d-eq-ABSENT c =
    let a = c.args in
    λ s. sum_own (sums a.kind c.requires.0 c.requires.1 s) a.i c.charge-own.ensures (c.requires.2.word a.i c.requires.3) c.if-d-eq-ABSENT.true

pub charge-requires : goal.charge-requires
charge-requires c =
    let a = c.args in
    (c.requires.1, sum_from (sums a.kind c.requires.0 c.requires.1 0) a.i c.charge-own.ensures (c.requires.2.word a.i c.requires.3) c.if-d-eq-ABSENT.false)

pub overflow_add-result : goal.overflow_add-result
overflow_add-result c =
    let a = c.args in
    omega (arith, sum_fits (sums a.kind c.requires.0 c.requires.1 0) a.i c.charge-own.ensures (c.requires.2.word a.i c.requires.3) c.if-d-eq-ABSENT.false c.charge.ensures)

pub returns : goal.returns
returns c =
    let a = c.args in
    λ s. sum_moved (sums a.kind c.requires.0 c.requires.1 s) a.i c.charge-own.ensures (c.requires.2.word a.i c.requires.3) c.if-d-eq-ABSENT.false c.charge.ensures
