-- `wellformed::climbs` meets its contract. The loop's invariant: the machine at hand climbs in the steps that are left exactly where the
-- first one climbs at all. The measure is the steps that are left. Assumes nothing.
use mathlib.Core.Path.{◌≡◌, sym, ◌∙◌}
use Prim.Native.Nat.{suc}
use native.Mathlib.Omega.{arith}
use Rattle.definitions.specs.Book.{tree_of}
use Rattle.definitions.specs.Tree.{parent}
use Rattle.definitions.proofs.Words.{present_word}
use Rattle.book.proofs.Said.{unsaid}
use Rattle.wellformed.proofs.Reading.{tree_of_read, parent_read}
use Rattle.wellformed.proofs.Climbing.{climbs_here, climbs_last, climbs_stuck, climbs_up}
use Rattle.wellformed.proofs.climbs.Goals.{In-loop-at}
use Rattle.wellformed.proofs.climbs.Goals as goal

-- in a turn the machine at hand is not the root
elsewhere : (c : In-loop-at)
    → c.loop-at.at ≡ (tree_of c.args.book.now).root → ⊥
elsewhere c e = c.loop-at-test.true (e ∙ sym c.root-root.ensures)

pub returns-then-left-eq0 : goal.returns-then-left-eq0
returns-then-left-eq0 c =
    let t = tree_of c.args.book.now in
    let l = c.loop-at in
    λ way. climbs_last t l.left l.at c.if-left-eq0.true (elsewhere (goal.at.returns-then-left-eq0 c).In-loop-at) (l.invariant.1 way)

pub returns-then-at-eq-ABSENT : goal.returns-then-at-eq-ABSENT
returns-then-at-eq-ABSENT c =
    let ws = c.args.book.now in
    let l = c.loop-at in
    let top = unsaid (parent_read (tree_of_read ws) l.at) c.parent_of-at.ensures c.if-at-eq-ABSENT.true in
    λ way. climbs_stuck (tree_of ws) (suc l.left) l.at (elsewhere (goal.at.returns-then-at-eq-ABSENT c).In-loop-at) top (l.invariant.1 way)

pub loop-at-preserved : goal.loop-at-preserved
loop-at-preserved c =
    let t = tree_of c.args.book.now in
    let l = c.loop-at in
    let up = present_word (parent t l.at) c.parent_of-at.ensures c.if-at-eq-ABSENT.false in
    let step = climbs_up t l.left l.at (omega arith) (elsewhere (goal.at.loop-at-preserved c).In-loop-at) up in
    (λ way. l.invariant.0 (step.0 way), λ way. step.1 (l.invariant.1 way))

pub returns : goal.returns
returns c =
    let l = c.loop-at in
    l.invariant.0
    (climbs_here (tree_of c.args.book.now) l.left l.at
    (c.loop-at-test.false ∙ c.root-root.ensures))
