-- `merging::beside_transition` meets its contract: the first book's transition, or else the second's at its new numbers. Assumes nothing.
use native.Mathlib.Omega.{arith}
use Rattle.merging.proofs.Transitions.{transition_own, transition_none, node_under, transition_absent, target_under, target_moved}
use Rattle.merging.proofs.Transitions.{transition_moved}
use Rattle.merging.proofs.beside_transition.Goals as goal

pub returns-then-own : goal.returns-then-own
returns-then-own c =
    let a = c.args in
    transition_own c.requires.0 c.requires.1 a.n a.x c.transition-own.ensures c.if-own.true

pub returns-then-d-eq-ABSENT : goal.returns-then-d-eq-ABSENT
returns-then-d-eq-ABSENT c =
    let a = c.args in
    transition_none c.requires.0 c.requires.1 a.n a.x c.transition-own.ensures c.if-own.false
    (c.requires.2.word a.n c.requires.5) c.if-d-eq-ABSENT.true

pub transition-w-requires : goal.transition-w-requires
transition-w-requires c =
    let a = c.args in (
      c.requires.1.length,
      node_under c.requires.0 c.requires.1 a.n a.x c.transition-own.ensures c.if-own.false
          (c.requires.2.word a.n c.requires.5) c.if-d-eq-ABSENT.false,
      c.requires.6,
    )

pub returns-then-w : goal.returns-then-w
returns-then-w c =
    let a = c.args in
    transition_absent c.requires.0 c.requires.1 a.n a.x c.transition-own.ensures c.if-own.false
    (c.requires.2.word a.n c.requires.5) c.if-d-eq-ABSENT.false c.transition-w.ensures c.if-w.true

pub bounds-to-w : goal.bounds-to-w
bounds-to-w c =
    let a = c.args in
    omega (
      arith,
      c.requires.3.length,
      target_under c.requires.0 c.requires.1 a.n a.x c.transition-own.ensures c.if-own.false
          (c.requires.2.word a.n c.requires.5) c.if-d-eq-ABSENT.false c.transition-w.ensures c.if-w.false c.requires.4 c.requires.3,
    )

pub overflow_mul-result : goal.overflow_mul-result
overflow_mul-result c =
    let a = c.args in
    let moved =
    target_moved c.requires.0 c.requires.1 a.n a.x c.transition-own.ensures c.if-own.false
    (c.requires.2.word a.n c.requires.5) c.if-d-eq-ABSENT.false c.transition-w.ensures c.if-w.false c.requires.4 c.requires.3 in
    omega (arith, moved)

pub overflow_add-result : goal.overflow_add-result
overflow_add-result c =
    let a = c.args in
    let moved =
    target_moved c.requires.0 c.requires.1 a.n a.x c.transition-own.ensures c.if-own.false
    (c.requires.2.word a.n c.requires.5) c.if-d-eq-ABSENT.false c.transition-w.ensures c.if-w.false c.requires.4 c.requires.3 in
    omega (arith, moved)

pub returns : goal.returns
returns c =
    let a = c.args in
    transition_moved c.requires.0 c.requires.1 a.n a.x c.transition-own.ensures c.if-own.false
    (c.requires.2.word a.n c.requires.5) c.if-d-eq-ABSENT.false c.transition-w.ensures c.if-w.false c.requires.4 c.requires.3
