-- `stepping::level` meets its contract: what is counted and the level of the node in hand make up one more than the level. Assumes nothing.
use mathlib.Core.Path.{◌≡◌}
use Prim.Native.Nat.{suc}
use native.Mathlib.Omega.{arith}
use Rattle.definitions.specs.Tree.{UsedNode, level}
use Rattle.definitions.specs.Book.{tree_of}
use Rattle.definitions.proofs.Path.{level_bound}
use Rattle.stepping.proofs.Laws.{used_range, owner_told, level_top, level_up}
use Rattle.stepping.proofs.level.Goals.{Else-h-eq-ABSENT}
use Rattle.stepping.proofs.level.Goals as goal

-- the next turn: one level up
next : (c : Else-h-eq-ABSENT)
    → UsedNode (tree_of c.args.book.now) c.holder-h.result
    × (level (tree_of c.args.book.now) c.loop-n.at
    ≡ suc (level (tree_of c.args.book.now) c.holder-h.result))
next c =
    let l = c.loop-n in
    level_up c.args.book.now c.requires.0 l.at l.invariant.0 c.owner.ensures c.holder-h.ensures c.if-h-eq-ABSENT.false

pub loop-n-init : goal.loop-n-init
loop-n-init c = (c.requires.1, omega arith)

pub owner-requires : goal.owner-requires
owner-requires c =
    (c.requires.0.length, used_range c.args.book.now c.requires.0 c.loop-n.at c.loop-n.invariant.0)

pub holder-h-requires : goal.holder-h-requires
holder-h-requires c =
    let l = c.loop-n in
    (c.requires.0.length, (owner_told c.args.book.now c.requires.0 l.at l.invariant.0 c.owner.ensures).1)

pub returns-then-h-eq-ABSENT : goal.returns-then-h-eq-ABSENT
returns-then-h-eq-ABSENT c =
    let l = c.loop-n in
    let own = c.owner.ensures in
    omega (arith, l.invariant.1, level_top c.args.book.now c.requires.0 l.at l.invariant.0 own c.holder-h.ensures c.if-h-eq-ABSENT.true)

pub overflow_add-count : goal.overflow_add-count
overflow_add-count c =
    omega (arith, c.loop-n.invariant.1, level_bound c.requires.0.sound c.requires.1.1)

pub loop-n-smaller : goal.loop-n-smaller
loop-n-smaller c = omega (arith, (next (goal.at.loop-n-smaller c).Else-h-eq-ABSENT).1)

pub loop-n-preserved : goal.loop-n-preserved
loop-n-preserved c = ((next (goal.at.loop-n-preserved c).Else-h-eq-ABSENT).0, omega (arith, (next (goal.at.loop-n-preserved c).Else-h-eq-ABSENT).1, c.loop-n.invariant.1))
