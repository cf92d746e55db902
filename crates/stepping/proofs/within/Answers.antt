-- `stepping::within` meets its contract: to be within n is the same of the node in hand and of d, and each turn goes one level up.
-- Assumes nothing.
use mathlib.Core.Path.{refl}
use Rattle.definitions.specs.Book.{tree_of}
use Rattle.stepping.proofs.Inside.{met, unused_told, owner_told, top_told, Up, up_told}
use Rattle.stepping.proofs.within.Goals.{Else-h-eq-ABSENT}
use Rattle.stepping.proofs.within.Goals as goal

-- the next turn
next : (c : Else-h-eq-ABSENT) → Up (tree_of c.args.book.now)
    c.args.n
    c.args.d
    c.loop-k.k c.holder-h.result
next c =
    let l = c.loop-k in
    up_told c.args.book.now c.requires.0 c.args.n c.args.d l.invariant.1 c.if-k-n.false c.owner-m.ensures
    c.if-m-eq-ABSENT.false c.holder-h.ensures c.if-h-eq-ABSENT.false

pub loop-k-init : goal.loop-k-init
loop-k-init c = (c.requires.1, refl)

pub returns-then-k-n : goal.returns-then-k-n
returns-then-k-n c =
    let l = c.loop-k in
    met c.args.book.now c.requires.0 c.args.n c.args.d l.invariant.1 c.if-k-n.true

pub owner-m-requires : goal.owner-m-requires
owner-m-requires c = (c.requires.0.length, c.loop-k.invariant.0)

pub returns-then-m-eq-ABSENT : goal.returns-then-m-eq-ABSENT
returns-then-m-eq-ABSENT c =
    let l = c.loop-k in
    unused_told c.args.book.now c.requires.0 c.args.n c.args.d l.invariant.1 c.if-k-n.false c.owner-m.ensures
    c.if-m-eq-ABSENT.true

pub holder-h-requires : goal.holder-h-requires
holder-h-requires c =
    let l = c.loop-k in
    let at = owner_told c.args.book.now c.requires.0 c.args.n c.args.d l.invariant.1 c.if-k-n.false in
    (c.requires.0.length, at c.owner-m.ensures c.if-m-eq-ABSENT.false)

pub returns-then-h-eq-ABSENT : goal.returns-then-h-eq-ABSENT
returns-then-h-eq-ABSENT c =
    let l = c.loop-k in
    top_told c.args.book.now c.requires.0 c.args.n c.args.d l.invariant.1 c.if-k-n.false c.owner-m.ensures
    c.if-m-eq-ABSENT.false c.holder-h.ensures c.if-h-eq-ABSENT.true

pub loop-k-smaller : goal.loop-k-smaller
loop-k-smaller c = (next (goal.at.loop-k-smaller c).Else-h-eq-ABSENT).higher

pub loop-k-preserved : goal.loop-k-preserved
loop-k-preserved c = ((next (goal.at.loop-k-preserved c).Else-h-eq-ABSENT).range, (next (goal.at.loop-k-preserved c).Else-h-eq-ABSENT).same)
