-- `expanding::expand_node` and `expanding::expand_path` meet their contracts. Assumes nothing.
use Rattle.std.proofs.Common.{◌-◌, ◌<◌, ℕ, List, subst, arith}
use Rattle.definitions.specs.Book.{tree_of}
use Rattle.definitions.specs.Sheet.{rows_of}
use Rattle.plantheory.specs.Expand.{node_part}
use Rattle.expanding.specs.Expanding.{leave_part, CommandsWritten}
use Rattle.expanding.proofs.Tracing.{steps_down, steps_over}
use Rattle.expanding.proofs.Opening.{part_flat}
use Rattle.expanding.proofs.Writing.{Onward, onward_more, onward_done, leave_shut, onward_room}
use Rattle.expanding.proofs.+expand_node_expand_path.Goals as goal

-- ---- a node

pub expand_node-returns-then-depth-eq0 : goal.expand_node-returns-then-depth-eq0
expand_node-returns-then-depth-eq0 t c =
    let a = c.args in
    subst (CommandsWritten _ _ _ _)
    (leave_shut (node_part a.depth (tree_of a.book.now) (rows_of a.sheet.now)) a.n a.x (part_flat a.depth _ _ _ _ c.if-depth-eq0.true))
    c.put.ensures

-- ---- a path

pub expand_path-expand_node-next-requires : goal.expand_path-expand_node-next-requires
expand_path-expand_node-next-requires t c =
    let a = c.args in
    let p = c.requires in
    let part : ℕ → ℕ → List ℕ = node_part a.depth (tree_of a.book.now) (rows_of a.sheet.now) in
    let less : c.loop-k.k - 1 < a.count = omega (arith, c.loop-k-test.true, c.loop-k.auto.k) in (
      omega arith,
      (
        p.0,
        rw c.word.ensures (p.1.node _ less),
        rw c.word-in-loop-k.ensures (p.1.command _ less),
        let down = steps_down part a.left.now a.given.now (omega (arith, c.loop-k-test.true)) c.word.ensures c.word-in-loop-k.ensures in
            onward_room (leave_part part c.word.result c.word-in-loop-k.result) _ (subst (Onward _ _ _ _ _) down c.loop-k.invariant) p.2,
      ),
    )

pub expand_path-loop-k-preserved : goal.expand_path-loop-k-preserved
expand_path-loop-k-preserved t c =
    let a = c.args in
    let part : ℕ → ℕ → List ℕ = node_part a.depth (tree_of a.book.now) (rows_of a.sheet.now) in
    let down = steps_down part a.left.now a.given.now (omega (arith, c.loop-k-test.true)) c.word.ensures c.word-in-loop-k.ensures in
    onward_more (leave_part part c.word.result c.word-in-loop-k.result) (subst (Onward _ _ _ _ _) down c.loop-k.invariant)
    c.expand_node-next.ensures

pub expand_path-returns : goal.expand_path-returns
expand_path-returns t c =
    let a = c.args in
    onward_done
    (subst (Onward _ _ _ _ _)
    (steps_over (node_part a.depth (tree_of a.book.now) (rows_of a.sheet.now)) a.left.now a.given.now _ (omega (arith, c.loop-k-test.false)))
    c.loop-k.invariant)
