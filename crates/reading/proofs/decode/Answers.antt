-- `reading::decode` meets its contract: the opcode says which operands there are, and they are there. Assumes nothing.
use mathlib.Core.Path.{sym, ap}
use native.Mathlib.Omega.{arith}
use Prim.Native.Nat.{◌+◌}
use lib.ListN.{drop}
use Rattle.definitions.specs.Stream.{operand_length, decode}
use Rattle.definitions.proofs.Streams.{unknown_undecoded}
use Rattle.reading.proofs.Laws.{unknown}
use Rattle.reading.proofs.decode.Goals as goal

pub operand-requires : goal.operand-requires
unfolding operand_length
operand-requires c = omega (arith, c.requires 3 (ap operand_length c.in-16.is))

pub operand_pair-requires : goal.operand_pair-requires
unfolding operand_length
operand_pair-requires c = omega (arith, c.requires 3 (ap operand_length c.in-16.is))

pub operand-requires-in-17 : goal.operand-requires-in-17
unfolding operand_length
operand-requires-in-17 c = omega (arith, c.requires 3 (ap operand_length c.in-17.is))

pub operand_pair-requires-in-17 : goal.operand_pair-requires-in-17
unfolding operand_length
operand_pair-requires-in-17 c = omega (arith, c.requires 3 (ap operand_length c.in-17.is))

pub operand_pair-requires-in-18 : goal.operand_pair-requires-in-18
unfolding operand_length
operand_pair-requires-in-18 c = omega (arith, c.requires 5 (ap operand_length c.in-18.is))

pub operand-requires-in-18 : goal.operand-requires-in-18
unfolding operand_length
operand-requires-in-18 c = omega (arith, c.requires 5 (ap operand_length c.in-18.is))

pub operand_pair-requires-in-18-2 : goal.operand_pair-requires-in-18-2
unfolding operand_length
operand_pair-requires-in-18-2 c =
    omega (arith, c.requires 5 (ap operand_length c.in-18.is))

pub operand_pair-requires-in-19 : goal.operand_pair-requires-in-19
unfolding operand_length
operand_pair-requires-in-19 c = omega (arith, c.requires 2 (ap operand_length c.in-19.is))

pub operand_pair-requires-in-20 : goal.operand_pair-requires-in-20
unfolding operand_length
operand_pair-requires-in-20 c = omega (arith, c.requires 7 (ap operand_length c.in-20.is))

pub operand-requires-in-20 : goal.operand-requires-in-20
unfolding operand_length
operand-requires-in-20 c = omega (arith, c.requires 7 (ap operand_length c.in-20.is))

pub operand_pair-requires-in-20-2 : goal.operand_pair-requires-in-20-2
unfolding operand_length
operand_pair-requires-in-20-2 c =
    omega (arith, c.requires 7 (ap operand_length c.in-20.is))

pub operand_pair-requires-in-20-3 : goal.operand_pair-requires-in-20-3
unfolding operand_length
operand_pair-requires-in-20-3 c =
    omega (arith, c.requires 7 (ap operand_length c.in-20.is))

pub operand_pair-requires-in-21 : goal.operand_pair-requires-in-21
unfolding operand_length
operand_pair-requires-in-21 c = omega (arith, c.requires 3 (ap operand_length c.in-21.is))

pub operand-requires-in-21 : goal.operand-requires-in-21
unfolding operand_length
operand-requires-in-21 c = omega (arith, c.requires 3 (ap operand_length c.in-21.is))

pub operand_pair-requires-in-22 : goal.operand_pair-requires-in-22
unfolding operand_length
operand_pair-requires-in-22 c = omega (arith, c.requires 2 (ap operand_length c.in-22.is))

pub operand-requires-in-23 : goal.operand-requires-in-23
unfolding operand_length
operand-requires-in-23 c = omega (arith, c.requires 3 (ap operand_length c.in-23.is))

pub operand_pair-requires-in-23 : goal.operand_pair-requires-in-23
unfolding operand_length
operand_pair-requires-in-23 c = omega (arith, c.requires 3 (ap operand_length c.in-23.is))

pub operand_pair-requires-in-26 : goal.operand_pair-requires-in-26
unfolding operand_length
operand_pair-requires-in-26 c = omega (arith, c.requires 3 (ap operand_length c.in-26.is))

pub operand-requires-in-26 : goal.operand-requires-in-26
unfolding operand_length
operand-requires-in-26 c = omega (arith, c.requires 3 (ap operand_length c.in-26.is))

pub operand-requires-in-27 : goal.operand-requires-in-27
unfolding operand_length
operand-requires-in-27 c = omega (arith, c.requires 3 (ap operand_length c.in-27.is))

pub operand_pair-requires-in-27 : goal.operand_pair-requires-in-27
unfolding operand_length
operand_pair-requires-in-27 c = omega (arith, c.requires 3 (ap operand_length c.in-27.is))

pub returns-in-16 : goal.returns-in-16
unfolding decode
returns-in-16 c =
    let machine = c.operand.ensures in
    let node = c.operand_pair.ensures in
    (rw (c.in-16.is, machine.0, node.0), (machine.1, node.1))

pub returns-in-17 : goal.returns-in-17
unfolding decode
returns-in-17 c =
    let machine = c.operand-in-17.ensures in
    let node = c.operand_pair-in-17.ensures in
    (rw (c.in-17.is, machine.0, node.0), (machine.1, node.1))

pub returns-in-18 : goal.returns-in-18
unfolding decode
returns-in-18 c =
    let node = c.operand_pair-in-18.ensures in
    let machine = c.operand-in-18.ensures in
    let first = c.operand_pair-in-18-2.ensures in
    (rw (c.in-18.is, node.0, machine.0, first.0), (node.1, machine.1, first.1))

pub returns-in-19 : goal.returns-in-19
unfolding decode
returns-in-19 c =
    let node = c.operand_pair-in-19.ensures in
    (rw (c.in-19.is, node.0), node.1)

pub returns-in-20 : goal.returns-in-20
unfolding decode
returns-in-20 c =
    let node = c.operand_pair-in-20.ensures in
    let command = c.operand-in-20.ensures in
    let target = c.operand_pair-in-20-2.ensures in
    let cost = c.operand_pair-in-20-3.ensures in
    let key = c.in-20.is in
    (rw (key, node.0, command.0, target.0, cost.0), (node.1, command.1, target.1, cost.1))

pub returns-in-21 : goal.returns-in-21
unfolding decode
returns-in-21 c =
    let node = c.operand_pair-in-21.ensures in
    let command = c.operand-in-21.ensures in
    (rw (c.in-21.is, node.0, command.0), (node.1, command.1))

pub returns-in-22 : goal.returns-in-22
unfolding decode
returns-in-22 c =
    let node = c.operand_pair-in-22.ensures in
    (rw (c.in-22.is, node.0), node.1)

pub returns-in-23 : goal.returns-in-23
unfolding decode
returns-in-23 c =
    let machine = c.operand-in-23.ensures in
    let node = c.operand_pair-in-23.ensures in
    (rw (c.in-23.is, machine.0, node.0), (machine.1, node.1))

pub returns-in-24 : goal.returns-in-24
unfolding decode
returns-in-24 c = (rw c.in-24.is, tt)

pub returns-in-26 : goal.returns-in-26
unfolding decode
returns-in-26 c =
    let node = c.operand_pair-in-26.ensures in
    let hold = c.operand-in-26.ensures in
    (rw (c.in-26.is, node.0, hold.0), (node.1, hold.1))

pub returns-in-27 : goal.returns-in-27
unfolding decode
returns-in-27 c =
    let machine = c.operand-in-27.ensures in
    let cost = c.operand_pair-in-27.ensures in
    (rw (c.in-27.is, machine.0, cost.0), (machine.1, cost.1))

pub returns-in-0-to-15 : goal.returns-in-0-to-15
unfolding decode
returns-in-0-to-15 c = (rw c.in-0-to-15.in-0-to-15-own.keys12, tt)

pub returns-in-0-to-15-2 : goal.returns-in-0-to-15-2
returns-in-0-to-15-2 c =
    let r = c.in-0-to-15.in-0-to-15-own.rest.0 in
    let a = c.args in
    let none_known =
    unknown a.op r.0.0.0.0.0.0.0.0.0.0.1 r.0.0.0.0.0.0.0.0.0.1 r.0.0.0.0.0.0.0.0.1 r.0.0.0.0.0.0.0.1
    r.0.0.0.0.0.0.1 r.0.0.0.0.0.1 r.0.0.0.0.1 r.0.0.0.1 r.0.0.1 r.0.1 r.1 in
    (sym (unknown_undecoded a.op (drop (a.at + 1) a.stream.now) none_known), tt)
