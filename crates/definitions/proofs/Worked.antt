-- Worked examples of streams, by computation from the definitions: what the bytes say, what is taken, and the tree and the marks
-- that are left. A wrong reading of a command, of a refused one, or of the next stream would leave another tree. Assumes nothing.
use mathlib.Core.Path.{◌≡◌}
use mathlib.Core.Bool.{Bool, true, false}
use mathlib.Core.Option.{Option, none, some}
use mathlib.Core.List.{[], List, ◌∷◌, ◌++◌}
use Prim.Native.Nat.{ℕ}
use lib.ListN.{length}
use Rattle.definitions.specs.Basics.{any_of, any_below}
use Rattle.definitions.specs.Tree.{Tree, Transition, above, path_f, path, level, within, over}
use Rattle.definitions.specs.Sheet.{Rows}
use Rattle.definitions.specs.Stream.{Command, begin, add, refine, remove, arrow, clear, start, crown, hold, leave, edit, refresh, operand_length, decode, read_next}
use Rattle.definitions.specs.Edit.{first_holding, refusals, refusal, single, without, with_transition, with_start, edited, touches, with_stale, edited_rows}
use Rattle.definitions.specs.Load.{next, Outcome, load_f, load, expected}
use Rattle.definitions.specs.Open.{fresh_tree, open_rows}

-- the transition to node v at cost c
abbrev pub to : ℕ → ℕ → Option Transition
to v c = some (record { target = v; cost = c })

-- ---- a stream with every command, one of them refused, and two streams that go on from there

-- a tree of three levels: root 5 with nodes 3, 4 and 6, machine 7 below node 4, machine 8 below node 11 of machine 7
unfoldable pub building : List ℕ
building =
    0x10 ∷ 0x05 ∷ 0x00 ∷ 0x03
    ∷ 0x11 ∷ 0x05 ∷ 0x00 ∷ 0x04
    ∷ 0x11 ∷ 0x05 ∷ 0x00 ∷ 0x06
    ∷ 0x14 ∷ 0x00 ∷ 0x03 ∷ 0x00 ∷ 0x00 ∷ 0x04 ∷ 0x00 ∷ 0x07
    ∷ 0x14 ∷ 0x00 ∷ 0x04 ∷ 0x01 ∷ 0x00 ∷ 0x06 ∷ 0x00 ∷ 0x09
    ∷ 0x14 ∷ 0x00 ∷ 0x04 ∷ 0x02 ∷ 0x00 ∷ 0x04 ∷ 0x00 ∷ 0x01
    ∷ 0x14 ∷ 0x00 ∷ 0x06 ∷ 0x02 ∷ 0x00 ∷ 0x04 ∷ 0x01 ∷ 0x00
    ∷ 0x12 ∷ 0x00 ∷ 0x04 ∷ 0x07 ∷ 0x00 ∷ 0x0A
    ∷ 0x11 ∷ 0x07 ∷ 0x00 ∷ 0x0B
    ∷ 0x14 ∷ 0x00 ∷ 0x0A ∷ 0x00 ∷ 0x00 ∷ 0x0B ∷ 0x00 ∷ 0x02
    ∷ 0x14 ∷ 0x00 ∷ 0x0B ∷ 0x00 ∷ 0x00 ∷ 0x0A ∷ 0x00 ∷ 0x03
    ∷ 0x14 ∷ 0x00 ∷ 0x0A ∷ 0x04 ∷ 0x00 ∷ 0x0A ∷ 0x00 ∷ 0x05
    ∷ 0x12 ∷ 0x00 ∷ 0x0B ∷ 0x08 ∷ 0x00 ∷ 0x0C
    ∷ 0x11 ∷ 0x08 ∷ 0x00 ∷ 0x0D
    ∷ 0x14 ∷ 0x00 ∷ 0x0C ∷ 0x03 ∷ 0x00 ∷ 0x0D ∷ 0x00 ∷ 0x04 ∷ []

-- Changes to it: without node 11; machine 8 and node 12 again, below node 10; another start for machine 5; a transition less; machine 9
-- above all; a refresh. Then the remove of node 6 is refused, since it is the start now, and the add and the begin after it are not done.
unfoldable pub changing : List ℕ
changing =
    0x13 ∷ 0x00 ∷ 0x0B
    ∷ 0x12 ∷ 0x00 ∷ 0x0A ∷ 0x08 ∷ 0x00 ∷ 0x0C
    ∷ 0x11 ∷ 0x08 ∷ 0x00 ∷ 0x0E
    ∷ 0x16 ∷ 0x00 ∷ 0x06
    ∷ 0x15 ∷ 0x00 ∷ 0x04 ∷ 0x02
    ∷ 0x17 ∷ 0x09 ∷ 0x00 ∷ 0x14
    ∷ 0x18
    ∷ 0x13 ∷ 0x00 ∷ 0x06
    ∷ 0x11 ∷ 0x05 ∷ 0x00 ∷ 0x16
    ∷ 0x10 ∷ 0x00 ∷ 0x00 ∷ 0x00 ∷ []

-- the first stream
unfoldable pub first : List ℕ
first = building ++ changing

-- the second: its last command is cut short
unfoldable pub second : List ℕ
second =
    0x11 ∷ 0x05 ∷ 0x00 ∷ 0x15
    ∷ 0x13 ∷ 0x00 ∷ 0x03
    ∷ 0x14 ∷ 0x00 ∷ 0x15 ∷ 0x0F ∷ 0x00 ∷ 0x06 ∷ 0xFF ∷ 0xFF
    ∷ 0x12 ∷ 0x00 ∷ 0x04 ∷ []

-- the third: a begin, and an unknown opcode
unfoldable pub third : List ℕ
third =
    0x10 ∷ 0x00 ∷ 0x00 ∷ 0x04
    ∷ 0x19 ∷ []

-- what the first part says
unfoldable pub building_commands : List Command
building_commands =
    edit (begin 5 3) ∷ edit (add 5 4) ∷ edit (add 5 6) ∷ edit (arrow 3 0 4 7) ∷ edit (arrow 4 1 6 9) ∷ edit (arrow 4 2 4 1)
    ∷ edit (arrow 6 2 4 256) ∷ edit (refine 4 7 10) ∷ edit (add 7 11) ∷ edit (arrow 10 0 11 2) ∷ edit (arrow 11 0 10 3)
    ∷ edit (arrow 10 4 10 5) ∷ edit (refine 11 8 12) ∷ edit (add 8 13) ∷ edit (arrow 12 3 13 4) ∷ []

-- what is taken of the second part
unfoldable pub changing_commands : List Command
changing_commands =
    edit (remove 11) ∷ edit (refine 10 8 12) ∷ edit (add 8 14) ∷ edit (start 6) ∷ edit (clear 4 2) ∷ edit (crown 9 20) ∷ refresh ∷ []

-- ---- streams for eight levels

-- from the fresh tree down to machine 6 at level 7
unfoldable pub seven_levels : List ℕ
seven_levels =
    0x12 ∷ 0x00 ∷ 0x00 ∷ 0x01 ∷ 0x00 ∷ 0x01
    ∷ 0x12 ∷ 0x00 ∷ 0x01 ∷ 0x02 ∷ 0x00 ∷ 0x02
    ∷ 0x12 ∷ 0x00 ∷ 0x02 ∷ 0x03 ∷ 0x00 ∷ 0x03
    ∷ 0x12 ∷ 0x00 ∷ 0x03 ∷ 0x04 ∷ 0x00 ∷ 0x04
    ∷ 0x12 ∷ 0x00 ∷ 0x04 ∷ 0x05 ∷ 0x00 ∷ 0x05
    ∷ 0x12 ∷ 0x00 ∷ 0x05 ∷ 0x06 ∷ 0x00 ∷ 0x06 ∷ []

-- one level more, and a ninth
unfoldable pub eighth_level : List ℕ
eighth_level = 0x12 ∷ 0x00 ∷ 0x06 ∷ 0x07 ∷ 0x00 ∷ 0x07 ∷ []

unfoldable pub ninth_level : List ℕ
ninth_level = 0x12 ∷ 0x00 ∷ 0x07 ∷ 0x08 ∷ 0x00 ∷ 0x08 ∷ []

-- a new root, which takes every machine a level down
unfoldable pub new_root : List ℕ
new_root = 0x17 ∷ 0x08 ∷ 0x00 ∷ 0x08 ∷ []

-- ---- a tree and rows for marks

-- from the fresh tree, machines 1 and 2 below the root's nodes 1 and 2, and machine 3 below node 11 of machine 1
unfoldable pub branching : List ℕ
branching =
    0x11 ∷ 0x00 ∷ 0x00 ∷ 0x01
    ∷ 0x11 ∷ 0x00 ∷ 0x00 ∷ 0x02
    ∷ 0x12 ∷ 0x00 ∷ 0x01 ∷ 0x01 ∷ 0x00 ∷ 0x0A
    ∷ 0x11 ∷ 0x01 ∷ 0x00 ∷ 0x0B
    ∷ 0x12 ∷ 0x00 ∷ 0x02 ∷ 0x02 ∷ 0x00 ∷ 0x14
    ∷ 0x12 ∷ 0x00 ∷ 0x0B ∷ 0x03 ∷ 0x00 ∷ 0x1E ∷ []

-- the tree that it makes
unfoldable pub branches : Tree
branches = (load fresh_tree branching).tree

-- rows with no mark, and 1 in every place
unfoldable pub calm : Rows
calm =
    record {
      stale = λ m. false;
      exit = λ m x. some 1;
      last = λ m x. some 1;
      cost = λ n. some 1;
      before = λ n. some 1;
      by = λ n. some 1;
    }

-- the marks of machines 0 to 5
abbrev pub marks : Rows → List Bool
marks r = r.stale 0 ∷ r.stale 1 ∷ r.stale 2 ∷ r.stale 3 ∷ r.stale 4 ∷ r.stale 5 ∷ []

-- the exit costs for command 7 of machines 0 to 5
abbrev pub exits : Rows → List (Option ℕ)
exits r = r.exit 0 7 ∷ r.exit 1 7 ∷ r.exit 2 7 ∷ r.exit 3 7 ∷ r.exit 4 7 ∷ r.exit 5 7 ∷ []

-- the costs of nodes 0, 1, 2 of machine 0, 10, 11 of machine 1, 20 of machine 2, 30 of machine 3, and 40
abbrev pub node_costs : Rows → List (Option ℕ)
node_costs r = r.cost 0 ∷ r.cost 1 ∷ r.cost 2 ∷ r.cost 10 ∷ r.cost 11 ∷ r.cost 20 ∷ r.cost 30 ∷ r.cost 40 ∷ []

-- to open these is to open everything that the examples compute with
reading : Tree
unfolding load load_f next expected operand_length decode read_next first_holding refusals refusal above path_f path level within any_of any_below
reading = fresh_tree

streams : Tree
unfolding building changing first second third building_commands changing_commands
streams = fresh_tree

editing : Tree
unfolding fresh_tree single without with_transition with_start edited touches with_stale edited_rows open_rows over
editing = fresh_tree

computing : Tree
unfolding reading editing streams seven_levels eighth_level ninth_level new_root branching branches calm
computing = fresh_tree

-- ---- the first stream, its first part

pub record Built (o : Outcome) : Type 0 where
  pub bytes : o.bytes ≡ 96
  pub commands : o.commands ≡ building_commands
  pub number : o.number ≡ 0
  -- begin leaves nothing of the tree before it
  pub root : o.tree.root ≡ 5
  pub owner_0 : o.tree.owner 0 ≡ none
  pub start_0 : o.tree.start 0 ≡ none
  -- the root's nodes
  pub owner_3 : o.tree.owner 3 ≡ some 5
  pub owner_4 : o.tree.owner 4 ≡ some 5
  pub owner_6 : o.tree.owner 6 ≡ some 5
  pub start_5 : o.tree.start 5 ≡ some 3
  pub holder_5 : o.tree.holder 5 ≡ none
  pub transition_3_0 : o.tree.transition 3 0 ≡ to 4 7
  pub transition_6_2 : o.tree.transition 6 2 ≡ to 4 256
  -- machine 7 below node 4, which keeps its transitions
  pub below_4 : o.tree.below 4 ≡ some 7
  pub holder_7 : o.tree.holder 7 ≡ some 4
  pub start_7 : o.tree.start 7 ≡ some 10
  pub owner_10 : o.tree.owner 10 ≡ some 7
  pub owner_11 : o.tree.owner 11 ≡ some 7
  pub transition_4_1 : o.tree.transition 4 1 ≡ to 6 9
  pub transition_4_2 : o.tree.transition 4 2 ≡ to 4 1
  pub transition_10_0 : o.tree.transition 10 0 ≡ to 11 2
  -- machine 8 below node 11, which keeps its transition
  pub below_11 : o.tree.below 11 ≡ some 8
  pub holder_8 : o.tree.holder 8 ≡ some 11
  pub start_8 : o.tree.start 8 ≡ some 12
  pub owner_12 : o.tree.owner 12 ≡ some 8
  pub owner_13 : o.tree.owner 13 ≡ some 8
  pub transition_11_0 : o.tree.transition 11 0 ≡ to 10 3
  pub transition_12_3 : o.tree.transition 12 3 ≡ to 13 4
  -- new nodes are plain and have no transitions
  pub below_6 : o.tree.below 6 ≡ none
  pub below_12 : o.tree.below 12 ≡ none
  pub below_13 : o.tree.below 13 ≡ none
  pub transition_13_3 : o.tree.transition 13 3 ≡ none

pub built : Built (load fresh_tree building)
unfolding computing
built = search

-- ---- the first stream, whole

pub record First (o : Outcome) : Type 0 where
  -- bytes and commands up to the refused one; those after it are not done
  pub bytes : o.bytes ≡ 121
  pub commands : o.commands ≡ building_commands ++ changing_commands
  pub count : length o.commands ≡ 22
  pub number : o.number ≡ 10
  pub owner_6 : o.tree.owner 6 ≡ some 5
  pub owner_22 : o.tree.owner 22 ≡ none
  pub owner_0 : o.tree.owner 0 ≡ none
  -- of node 11 and what was below it nothing is left, nor the transition into it; others stay
  pub owner_11 : o.tree.owner 11 ≡ none
  pub below_11 : o.tree.below 11 ≡ none
  pub transition_11_0 : o.tree.transition 11 0 ≡ none
  pub owner_13 : o.tree.owner 13 ≡ none
  pub transition_10_0 : o.tree.transition 10 0 ≡ none
  pub transition_10_4 : o.tree.transition 10 4 ≡ to 10 5
  -- its numbers again: machine 8 and node 12, below node 10, with nothing of what they were
  pub below_10 : o.tree.below 10 ≡ some 8
  pub holder_8 : o.tree.holder 8 ≡ some 10
  pub start_8 : o.tree.start 8 ≡ some 12
  pub owner_12 : o.tree.owner 12 ≡ some 8
  pub owner_14 : o.tree.owner 14 ≡ some 8
  pub transition_12_3 : o.tree.transition 12 3 ≡ none
  -- the start of machine 5 is another, and no other machine's
  pub start_5 : o.tree.start 5 ≡ some 6
  pub start_7 : o.tree.start 7 ≡ some 10
  -- one transition less, and no other
  pub transition_4_2 : o.tree.transition 4 2 ≡ none
  pub transition_4_1 : o.tree.transition 4 1 ≡ to 6 9
  pub transition_6_2 : o.tree.transition 6 2 ≡ to 4 256
  pub transition_3_0 : o.tree.transition 3 0 ≡ to 4 7
  -- the new root, whose node holds the old one
  pub root : o.tree.root ≡ 9
  pub start_9 : o.tree.start 9 ≡ some 20
  pub owner_20 : o.tree.owner 20 ≡ some 9
  pub below_20 : o.tree.below 20 ≡ some 5
  pub holder_5 : o.tree.holder 5 ≡ some 20
  pub holder_9 : o.tree.holder 9 ≡ none

pub first_done : First (load fresh_tree first)
unfolding computing
first_done = search

-- after the remove alone, machine 8 is not in use
pub record Without (t : Tree) : Type 0 where
  pub start_8 : t.start 8 ≡ none
  pub holder_8 : t.holder 8 ≡ none
  pub owner_12 : t.owner 12 ≡ none
  pub transition_12_3 : t.transition 12 3 ≡ none
  pub owner_10 : t.owner 10 ≡ some 7

pub remove_done : Without (edited (load fresh_tree building).tree (remove 11))
unfolding computing
remove_done = search

-- ---- the second stream goes on from there

pub record Second (o : Outcome) : Type 0 where
  -- up to the command that is cut short
  pub bytes : o.bytes ≡ 15
  pub commands : o.commands ≡ edit (add 5 21) ∷ edit (remove 3) ∷ edit (arrow 21 15 6 65535) ∷ []
  pub number : o.number ≡ 4

pub second_done : Second (load (load fresh_tree first).tree second)
unfolding computing
second_done = search

pub record AfterSecond (t : Tree) : Type 0 where
  -- what the second stream did
  pub owner_21 : t.owner 21 ≡ some 5
  pub transition_21_15 : t.transition 21 15 ≡ to 6 65535
  pub owner_3 : t.owner 3 ≡ none
  pub transition_3_0 : t.transition 3 0 ≡ none
  -- what the first one left
  pub root : t.root ≡ 9
  pub holder_5 : t.holder 5 ≡ some 20
  pub start_5 : t.start 5 ≡ some 6
  pub below_4 : t.below 4 ≡ some 7
  pub transition_4_1 : t.transition 4 1 ≡ to 6 9
  pub owner_22 : t.owner 22 ≡ none

pub after_second : AfterSecond (expected fresh_tree (first ∷ second ∷ []))
unfolding computing
after_second = search

-- ---- the third begins anew

pub record Third (o : Outcome) : Type 0 where
  pub bytes : o.bytes ≡ 4
  pub commands : o.commands ≡ edit (begin 0 4) ∷ []
  pub number : o.number ≡ 5

pub third_done : Third (load (expected fresh_tree (first ∷ second ∷ [])) third)
unfolding computing
third_done = search

pub record AfterThird (t : Tree) : Type 0 where
  pub root : t.root ≡ 0
  pub start_0 : t.start 0 ≡ some 4
  pub owner_4 : t.owner 4 ≡ some 0
  -- of node 4 and of all else before nothing is left
  pub below_4 : t.below 4 ≡ none
  pub transition_4_1 : t.transition 4 1 ≡ none
  pub start_5 : t.start 5 ≡ none
  pub holder_5 : t.holder 5 ≡ none
  pub start_9 : t.start 9 ≡ none
  pub owner_6 : t.owner 6 ≡ none
  pub below_20 : t.below 20 ≡ none
  pub transition_21_15 : t.transition 21 15 ≡ none

pub after_third : AfterThird (expected fresh_tree (first ∷ second ∷ third ∷ []))
unfolding computing
after_third = search

-- ---- eight levels are accepted, a ninth is not

pub record Levels : Type 0 where
  -- seven refines: node 7 stands at level 8
  pub eighth_number : (load fresh_tree (seven_levels ++ eighth_level)).number ≡ 0
  pub eighth_bytes : (load fresh_tree (seven_levels ++ eighth_level)).bytes ≡ 42
  pub eighth_level_lem : level (load fresh_tree (seven_levels ++ eighth_level)).tree 7 ≡ 8
  -- one more is refused, and not done
  pub ninth_number : (load fresh_tree (seven_levels ++ eighth_level ++ ninth_level)).number ≡ 12
  pub ninth_bytes : (load fresh_tree (seven_levels ++ eighth_level ++ ninth_level)).bytes ≡ 42
  pub ninth_below : (load fresh_tree (seven_levels ++ eighth_level ++ ninth_level)).tree.below 7 ≡ none
  -- so is a crown over eight levels
  pub crown_number : (load fresh_tree (seven_levels ++ eighth_level ++ new_root)).number ≡ 12
  pub crown_bytes : (load fresh_tree (seven_levels ++ eighth_level ++ new_root)).bytes ≡ 42
  pub crown_root : (load fresh_tree (seven_levels ++ eighth_level ++ new_root)).tree.root ≡ 0
  -- over seven it is taken, and then there are eight
  pub crowned_number : (load fresh_tree (seven_levels ++ new_root)).number ≡ 0
  pub crowned_root : (load fresh_tree (seven_levels ++ new_root)).tree.root ≡ 8
  pub crowned_level : level (load fresh_tree (seven_levels ++ new_root)).tree 6 ≡ 8
  pub crowned_full : (load fresh_tree (seven_levels ++ new_root ++ eighth_level)).number ≡ 12

pub levels_done : Levels
unfolding computing
levels_done = search

-- ---- an edit marks the machine edited and those above it, and blanks them and their nodes

pub record Marks : Type 0 where
  -- a transition of node 10 of machine 1: machines 1 and 0, and neither 2 beside it nor 3 below it
  pub arrow_marks : marks (edited_rows branches (arrow 10 0 11 5) calm) ≡ true ∷ true ∷ false ∷ false ∷ false ∷ false ∷ []
  pub arrow_exits : exits (edited_rows branches (arrow 10 0 11 5) calm) ≡ none ∷ none ∷ some 1 ∷ some 1 ∷ none ∷ none ∷ []
  pub arrow_costs : node_costs (edited_rows branches (arrow 10 0 11 5) calm)
      ≡ none ∷ none ∷ none ∷ none ∷ none ∷ some 1 ∷ some 1 ∷ none ∷ []
  -- the hold of a node of machine 1, and of one of machine 3: as a transition there
  pub hold_marks : marks (edited_rows branches (hold 11 1) calm) ≡ true ∷ true ∷ false ∷ false ∷ false ∷ false ∷ []
  pub hold_low_marks : marks (edited_rows branches (hold 30 0) calm) ≡ true ∷ true ∷ false ∷ true ∷ false ∷ false ∷ []
  -- what leaving machine 1 costs, and leaving machine 3: the machine itself and all above it
  pub leave_marks : marks (edited_rows branches (leave 1 9) calm) ≡ true ∷ true ∷ false ∷ false ∷ false ∷ false ∷ []
  pub leave_low_marks : marks (edited_rows branches (leave 3 0) calm) ≡ true ∷ true ∷ false ∷ true ∷ false ∷ false ∷ []
  -- also where nothing differs
  pub clear_marks : marks (edited_rows branches (clear 10 0) calm) ≡ true ∷ true ∷ false ∷ false ∷ false ∷ false ∷ []
  pub start_marks : marks (edited_rows branches (start 10) calm) ≡ true ∷ true ∷ false ∷ false ∷ false ∷ false ∷ []
  -- a node added to machine 3, which is below machine 1
  pub add_marks : marks (edited_rows branches (add 3 40) calm) ≡ true ∷ true ∷ false ∷ true ∷ false ∷ false ∷ []
  pub add_costs : node_costs (edited_rows branches (add 3 40) calm)
      ≡ none ∷ none ∷ none ∷ none ∷ none ∷ some 1 ∷ none ∷ none ∷ []
  -- node 20 of machine 2 refined by machine 4: the new machine, machine 2 and the root
  pub refine_marks : marks (edited_rows branches (refine 20 4 40) calm) ≡ true ∷ false ∷ true ∷ false ∷ true ∷ false ∷ []
  pub refine_costs : node_costs (edited_rows branches (refine 20 4 40) calm)
      ≡ none ∷ none ∷ none ∷ some 1 ∷ some 1 ∷ none ∷ some 1 ∷ none ∷ []
  -- node 11 removed, with machine 3: machine 3 is blank and not marked
  pub remove_marks : marks (edited_rows branches (remove 11) (open_rows branches)) ≡ true ∷ true ∷ true ∷ false ∷ false ∷ false ∷ []
  pub remove_calm_marks : marks (edited_rows branches (remove 11) calm) ≡ true ∷ true ∷ false ∷ false ∷ false ∷ false ∷ []
  pub remove_exits : exits (edited_rows branches (remove 11) calm) ≡ none ∷ none ∷ some 1 ∷ none ∷ none ∷ none ∷ []
  pub remove_costs : node_costs (edited_rows branches (remove 11) calm)
      ≡ none ∷ none ∷ none ∷ none ∷ none ∷ some 1 ∷ none ∷ none ∷ []
  -- crown marks only the new root
  pub crown_marks : marks (edited_rows branches (crown 4 40) calm) ≡ false ∷ false ∷ false ∷ false ∷ true ∷ false ∷ []
  pub crown_exits : exits (edited_rows branches (crown 4 40) calm) ≡ some 1 ∷ some 1 ∷ some 1 ∷ some 1 ∷ none ∷ none ∷ []
  pub crown_costs : node_costs (edited_rows branches (crown 4 40) calm)
      ≡ some 1 ∷ some 1 ∷ some 1 ∷ some 1 ∷ some 1 ∷ some 1 ∷ some 1 ∷ none ∷ []
  -- begin marks its one machine, and the others are not in use
  pub begin_marks : marks (edited_rows branches (begin 2 20) (open_rows branches)) ≡ false ∷ false ∷ true ∷ false ∷ false ∷ false ∷ []
  pub begin_exits : exits (edited_rows branches (begin 2 20) calm) ≡ none ∷ none ∷ none ∷ none ∷ none ∷ none ∷ []
  -- marks stay until a refresh
  pub both_marks : marks (edited_rows (edited branches (arrow 10 0 11 5)) (start 20) (edited_rows branches (arrow 10 0 11 5) calm))
      ≡ true ∷ true ∷ true ∷ false ∷ false ∷ false ∷ []

pub marks_done : Marks
unfolding computing
marks_done = search
