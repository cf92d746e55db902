-- A transition of the first book, or else one of the second at its new numbers. Assumes nothing.
use mathlib.Core.Path.{◌≡◌, sym, ◌∙◌, ap}
use mathlib.Core.Option.{Option, some}
use mathlib.Core.List.{List}
use Prim.Native.Nat.{ℕ, ◌+◌, ◌*◌, ◌/◌, ◌%◌, ◌<◌}
use native.Mathlib.Omega.{arith}
use lib.ListN.{get_or}
use Rattle.definitions.specs.Limits.{nodes, costs, absent, blank}
use Rattle.definitions.specs.Book.{word, transition_word, tree_of, WellFormed}
use Rattle.definitions.specs.Merge.{node_moves, renumbered, beside}
use Rattle.definitions.proofs.Words.{present_word, no_transition, some_transition, target_range}
use Rattle.merging.specs.Merging.{To, NodesMove, beside_tree}
use Rattle.merging.specs.declared.Kind.{Kind}
use Rattle.merging.proofs.Beside.{absent_none, present_small, from_small, to_small}

module _ {first second : List ℕ} (wf : WellFormed first) (ws : WellFormed second) (n x : ℕ) {own : ℕ}
    (said : own ≡ transition_word ((tree_of first).transition n x)) where
  -- the first's own
  pub transition_own : (own ≡ blank → ⊥) → (s : ℕ) → own ≡ transition_word ((beside_tree first second s).transition n x)
  unfolding beside
  transition_own present s =
      let there = some_transition (tree_of first) wf.sound n x said present in
      said ∙ rw there

  module _ {d : ℕ} (off : own ≡ blank) (came : d ≡ word ((node_moves (tree_of first) (tree_of second)).from n)) where
    -- no node moved there
    pub transition_none : d ≡ absent → (s : ℕ) → blank ≡ transition_word ((beside_tree first second s).transition n x)
    unfolding beside renumbered transition_word
    transition_none at s =
        let gone = absent_none ((node_moves (tree_of first) (tree_of second)).from n) (omega arith) (from_small nodes _ _ n) came at in
        sym (rw (no_transition (tree_of first) wf.sound n x said off, gone))

    -- the node that did is one
    pub node_under : (d ≡ absent → ⊥) → d < nodes
    node_under present = present_small nodes ((node_moves (tree_of first) (tree_of second)).from n) (from_small nodes _ _ n) came present

    module _ (present : d ≡ absent → ⊥) {w : ℕ} (told : w ≡ transition_word ((tree_of second).transition d x)) where
      -- it has none
      pub transition_absent : w ≡ blank → (s : ℕ) → blank ≡ transition_word ((beside_tree first second s).transition n x)
      unfolding beside renumbered transition_word
      transition_absent at s =
          sym
          (rw (
            no_transition (tree_of first) wf.sound n x said off,
            present_word ((node_moves (tree_of first) (tree_of second)).from n) came present,
            no_transition (tree_of second) ws.sound d x told at,
          ))

      module _ (here : w ≡ blank → ⊥) (moves : NodesMove first second) {list : List ℕ} (goes : To Kind.Nodes first second list) where
        -- it is this one
        has : (tree_of second).transition d x ≡ some (record { target = w / costs; cost = w % costs })
        has = some_transition (tree_of second) ws.sound d x told here

        -- its target is a node, and moves to one
        pub target_under : w / costs < nodes
        target_under = (target_range (tree_of second) ws.sound d x _ has).1

        goes_to_lem : (node_moves (tree_of first) (tree_of second)).to (w / costs) ≡ some (get_or list (w / costs) 0)
        unfolding word
        goes_to_lem =
            let (m, own, target) = ws.sound.transition_owned d x _ has in
            let (k, e) = moves (w / costs) (rw target) in
            e ∙ ap {B = Option ℕ} some (sym (goes.word (w / costs) target_under ∙ rw e))

        pub target_moved : get_or list (w / costs) 0 < nodes
        target_moved = to_small nodes _ _ (w / costs) (get_or list (w / costs) 0) goes_to_lem

        -- and it is written with that
        pub transition_moved : (s : ℕ) → get_or list (w / costs) 0 * costs + w % costs ≡ transition_word ((beside_tree first second s).transition n x)
        unfolding beside renumbered transition_word
        transition_moved s =
            sym
            (rw (
              no_transition (tree_of first) wf.sound n x said off,
              present_word ((node_moves (tree_of first) (tree_of second)).from n) came present,
              has,
              goes_to_lem,
            ))
