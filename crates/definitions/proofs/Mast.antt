-- The mast book of document 01: its starred examples, by computing with the definitions; the claims of W-202, W-203, W-205 to W-207, W-209 and W-210 on it; and
-- that an exit may end inside its machine. Assumes nothing.
use mathlib.Core.Path.{◌≡◌, refl, sym, ap, subst, ◌∙◌}
use mathlib.Core.Logic.{inl, inr}
use mathlib.Core.Bool.{Bool, true, false}
use mathlib.Core.Option.{Option, none, some}
use mathlib.Core.List.{[], List, ◌∷◌, ◌++◌}
use Prim.Native.Nat.{ℕ, zero, suc, ◌+◌, ◌*◌, ◌≤◌, ◌<◌}
use native.Mathlib.Omega.{arith}
use lib.ListN.{length, get_or, set}
use lib.IntN.{negsuc}
use lib.Ieee.{Float, fin, sub}
use Rattle.definitions.specs.Basics.{option, iterate, joined, count_below, any_of, any_below, All, Distinct}
use Rattle.definitions.specs.Limits.{nodes, commands, most_walkers}
use Rattle.definitions.specs.Tree.{Tree, Transition, Sound, UsedNode, states, above, path_f, path, level, within}
use Rattle.definitions.specs.Step.{enter_f, enter, counting, look, climb, step_in, step, acting, Moves, run_by, passes}
use Rattle.definitions.specs.Costs.{LeastCost, ExitCost}
use Rattle.definitions.specs.Book.{word, transition_word, under, encode, tree_of, WellFormed}
use Rattle.definitions.specs.Sheet.{Rows, encode_rows}
use Rattle.definitions.specs.Truth.{node_exit, move}
use Rattle.definitions.specs.Stream.{hold, operand_length, decode, read_next}
use Rattle.definitions.specs.Edit.{first_holding, refusals, refusal, single, without, with_transition, edited}
use Rattle.definitions.specs.Load.{next, load_f, load, expected}
use Rattle.definitions.specs.Open.{fresh_tree}
use Rattle.definitions.specs.Answer.{Answer, gives, refuses, InOrder}
use Rattle.definitions.specs.Calls.{Acts, Plan, GivesStep, StepSays, LoadAnswer, LoadSays}
use Rattle.definitions.specs.Demand.{Bytes}
use Rattle.definitions.specs.Import.{took, ImportSays, Placed}
use Rattle.definitions.specs.Write.{arrow_bytes, written_begin, written_add, written_refine, written_arrow, written_hold, written_leave, written}
use Rattle.definitions.specs.Walk.{inside, comes_inside, handed_refusals, walk_refusals, OpenWalkersSay, WalkSays, AtMostInside}
use Rattle.definitions.specs.ByCommand.{by_command, by_node}
use Rattle.definitions.specs.Reach.{lists, TrueReach}
use Rattle.definitions.specs.Replaced.{pruned, AlikeBut, and_leaving, SameExits}
use Rattle.definitions.specs.Mast.{mast_stream, clearing, mast_after, mast_tree, RefusedWith16, MastExamples}
use Rattle.definitions.proofs.Options.{none_some, true_false, least_one}
use Rattle.definitions.proofs.Kept.{hold_released, expected_sound}
use Rattle.definitions.proofs.Opened.{fresh_sound}
use Rattle.definitions.proofs.Tests.{all_below, all_below_lem, all_under, listed, accounted, bounds_test, capped, fresh_rows, blank_machine, blank_node}
use Rattle.definitions.proofs.Tests.{named_test, chain_test, left_test, ended_test, machine_test, reached_test, node_test, rows_test}
use Rattle.definitions.proofs.Tests.{all_under_lem, bound_least, bound_plan, bound_none, step_says}
use Rattle.definitions.proofs.Tests.{tested_exit, tested_sheet, tested_refused}
use Rattle.definitions.proofs.Words.{encode_length, root_word, node_word_lem, tree_of_encode, encode_well_formed}
use Rattle.definitions.proofs.Answers.{timed_same, Passed, in_order_all, in_order_after}
use Rattle.definitions.proofs.Local.{exit_free}
use Rattle.definitions.proofs.Acting.{step_acts, free_step}
use Rattle.definitions.proofs.Imports.{import_loads}
use Rattle.definitions.proofs.Walks.{limit_kept}
use Rattle.definitions.proofs.Turned.{command_transition, command_front, command_link}
use Rattle.definitions.proofs.Either.{same_answers}
use Rattle.definitions.proofs.Listed.{all_listed}
use Rattle.definitions.proofs.Swapped.{same_number, same_number_lem, same_transition, same_node, same_machine, alike_test, tested_alike}
use Rattle.definitions.proofs.Unseen.{replaced_unseen}

-- the stream that gives node 1 a transition to itself for command 2
unfoldable pub looping : List ℕ
looping = 0x14 ∷ 0x00 ∷ 0x01 ∷ 0x02 ∷ 0x00 ∷ 0x01 ∷ 0x00 ∷ 0x06 ∷ []

-- the stream that gives it one to node 2 instead
unfoldable pub passing : List ℕ
passing = 0x14 ∷ 0x00 ∷ 0x01 ∷ 0x02 ∷ 0x00 ∷ 0x02 ∷ 0x00 ∷ 0x06 ∷ []

-- the stream that gives node n the hold b
abbrev pub holding : ℕ → ℕ → List ℕ
holding n b = 0x1A ∷ 0x00 ∷ n ∷ b ∷ []

-- the stream that makes leaving machine m cost c, which is under 256
abbrev pub charging : ℕ → ℕ → List ℕ
charging m c = 0x1B ∷ m ∷ 0x00 ∷ c ∷ []

-- the stream that gives node 11 a transition to node 10 for command 3, at cost 16
unfoldable pub returning : List ℕ
returning = 0x14 ∷ 0x00 ∷ 0x0B ∷ 0x03 ∷ 0x00 ∷ 0x0A ∷ 0x00 ∷ 0x10 ∷ []

-- the stream that puts machine 2 below node 11, with node 20
unfoldable pub deepening : List ℕ
deepening = 0x12 ∷ 0x00 ∷ 0x0B ∷ 0x02 ∷ 0x00 ∷ 0x14 ∷ []

-- the stream that puts machine 2 above the root, with node 20
unfoldable pub crowning : List ℕ
crowning = 0x17 ∷ 0x02 ∷ 0x00 ∷ 0x14 ∷ []

-- ---- the costs of the states from state 0 and from state 11

from_0 : ℕ → Option ℕ
from_0 = listed ((0, 0) ∷ (10, 5) ∷ (11, 9) ∷ (2, 12) ∷ [])

from_11 : ℕ → Option ℕ
from_11 = listed ((11, 0) ∷ (2, 3) ∷ (0, 10) ∷ (10, 15) ∷ [])

-- from state 0 without the transition of 10 for 1, without that of 1 for 1, and without this one and that of 0 for 2
without_10_1 : ℕ → Option ℕ
without_10_1 = listed ((0, 0) ∷ (10, 5) ∷ (11, 9) ∷ (2, 8) ∷ [])

without_1_1 : ℕ → Option ℕ
without_1_1 = listed ((0, 0) ∷ (10, 5) ∷ (11, 9) ∷ (2, 20) ∷ [])

without_both : ℕ → Option ℕ
without_both = listed ((0, 0) ∷ (10, 5) ∷ (11, 9) ∷ [])

-- from state 0 where node 11 is held, and from state 11 where node 1 is
round_11 : ℕ → Option ℕ
round_11 = listed ((0, 0) ∷ (10, 5) ∷ (2, 20) ∷ [])

out_of_1 : ℕ → Option ℕ
out_of_1 = listed ((11, 0) ∷ (2, 3) ∷ (0, 10) ∷ [])

-- from state 11 where it has a transition to 10 for 3 and leaving machine 1 costs 9
within_1 : ℕ → Option ℕ
within_1 = listed ((11, 0) ∷ (2, 12) ∷ (10, 16) ∷ (0, 19) ∷ [])

-- ---- the rows

-- what stands for the machines from 0 on
each : List (ℕ → ℕ) → ℕ → ℕ → Option ℕ
each [] m x = none
each (f ∷ fs) zero x = some (f x)
each (f ∷ fs) (suc m) x = each fs m x

-- The rows of the two machines. For the first commands machine 0 has these exit costs and last nodes, and its nodes have these costs
-- and names; by all other commands it is left from node 0. Machine 1 has the same row in every example.
rows_with : (exits lasts : List ℕ) (cost before by : List (ℕ × ℕ)) → Rows
rows_with exits lasts cost before by =
    record {
      stale = λ m. false;
      exit = each ((λ x. get_or exits x 0) ∷ (λ x. get_or (0 ∷ 4 ∷ 4 ∷ []) x 0) ∷ []);
      last = each ((λ x. get_or lasts x 0) ∷ (λ x. get_or (10 ∷ 11 ∷ 11 ∷ []) x 10) ∷ []);
      cost = listed ((10, 0) ∷ (11, 4) ∷ cost);
      before = listed ((11, 10) ∷ before);
      by = listed ((11, 2) ∷ by);
    }

-- all nodes are reached
rows_for : (exits lasts : List ℕ) → Rows
rows_for exits lasts = rows_with exits lasts ((0, 0) ∷ (1, 5) ∷ (2, 12) ∷ []) ((1, 0) ∷ (2, 1) ∷ []) ((1, 0) ∷ (2, 1) ∷ [])

pub mast_rows : Rows
mast_rows = rows_for (5 ∷ 0 ∷ 9 ∷ []) (1 ∷ 0 ∷ 1 ∷ [])

-- with the transition of node 1 to itself for 2, which is then left from node 2
loop_rows : Rows
loop_rows = rows_for (5 ∷ 0 ∷ 12 ∷ []) (1 ∷ 0 ∷ 2 ∷ [])

-- without the transitions of 1 for 1 and of 0 for 2, and where node 2 is held: node 2 is not reached
cleared_rows : Rows
cleared_rows = rows_with (5 ∷ []) (1 ∷ []) ((0, 0) ∷ (1, 5) ∷ []) ((1, 0) ∷ []) ((1, 0) ∷ [])

-- with machine 2 below node 11, where leaving it costs 4 and leaving machine 1 costs 9
deep_rows : Rows
deep_rows =
    record {
      stale = λ m. false;
      exit = each ((λ x. get_or (14 ∷ 0 ∷ 20 ∷ []) x 0) ∷ (λ x. get_or (0 ∷ 8 ∷ 8 ∷ []) x 0) ∷ (λ x. 0) ∷ []);
      last = each ((λ x. get_or (1 ∷ 0 ∷ 2 ∷ []) x 0) ∷ (λ x. get_or (10 ∷ 11 ∷ 11 ∷ []) x 10) ∷ (λ x. 20) ∷ []);
      cost = listed ((0, 0) ∷ (1, 5) ∷ (2, 20) ∷ (10, 0) ∷ (11, 4) ∷ (20, 0) ∷ []);
      before = listed ((1, 0) ∷ (2, 0) ∷ (11, 10) ∷ []);
      by = listed ((1, 0) ∷ (2, 2) ∷ (11, 2) ∷ []);
    }

-- ---- to open these is to open everything that the examples compute with

reading : Tree
unfolding load load_f next expected operand_length decode read_next first_holding refusals refusal level all_under mast_stream looping passing returning deepening crowning
reading = fresh_tree

editing : Tree
unfolding fresh_tree single with_transition edited mast_after mast_tree
editing = fresh_tree

stepping : Tree
unfolding above path_f path enter_f enter counting look climb step_in acting run_by passes count_below states node_exit move iterate
stepping = fresh_tree

testing : Tree
unfolding all_below any_below listed accounted bounds_test under capped fresh_rows blank_machine blank_node named_test chain_test left_test
testing = fresh_tree

tables : Tree
unfolding each rows_with rows_for mast_rows loop_rows cleared_rows deep_rows from_0 from_11 without_10_1 without_1_1 without_both
    round_11 out_of_1 within_1
tables = fresh_tree

computing : Tree
unfolding reading editing stepping testing tables ended_test machine_test reached_test node_test rows_test
computing = fresh_tree

-- ---- the examples

-- the stream is taken whole
whole : ((load fresh_tree mast_stream).bytes ≡ 70) × ((load fresh_tree mast_stream).number ≡ 0)
unfolding computing
whole = (refl, refl)

-- the stations are sound
after_sound : (streams : List (List ℕ)) → All Bytes streams → Sound (mast_after streams)
unfolding computing
after_sound streams bytes = expected_sound fresh_sound (mast_stream ∷ streams) (all_under_lem 256 mast_stream refl, bytes)

sound : Sound mast_tree
unfolding mast_tree
sound = after_sound [] tt

-- the plans
from_0_to : (b c : ℕ) (xs : List ℕ) → from_0 b ≡ some c → Moves mast_tree 0 b xs c → Distinct (passes mast_tree 0 xs)
    → Plan mast_tree 0 b c xs
unfolding computing
from_0_to = bound_plan mast_tree sound from_0 refl 0 (omega arith) refl

from_0_to_2 : Plan mast_tree 0 2 12 (0 ∷ 2 ∷ 1 ∷ [])
unfolding computing
from_0_to_2 = from_0_to 2 12 (0 ∷ 2 ∷ 1 ∷ []) refl refl (omega arith)

from_0_to_0 : Plan mast_tree 0 0 0 []
unfolding computing
from_0_to_0 = from_0_to 0 0 [] refl refl (omega arith)

from_11_to_10 : Plan mast_tree 11 10 15 (1 ∷ 0 ∷ 0 ∷ [])
unfolding computing
from_11_to_10 = bound_plan mast_tree sound from_11 refl 11 (omega arith) refl 10 15 (1 ∷ 0 ∷ 0 ∷ []) refl refl (omega arith)

-- the exit costs
exit_of_lem : (m f x c : ℕ) → mast_tree.start m ≡ some f → x < commands → (fresh_rows mast_rows).exit m x ≡ some c
    → ExitCost mast_tree m x (some c)
unfolding computing
exit_of_lem m f x c = tested_exit mast_tree sound mast_rows refl m f x (some c)

exits_of_1 : ExitCost mast_tree 1 0 (some 0) × ExitCost mast_tree 1 1 (some 4) × ExitCost mast_tree 1 2 (some 4)
unfolding computing
exits_of_1 = (exit_of_lem 1 10 0 0 refl (omega arith) refl, exit_of_lem 1 10 1 4 refl (omega arith) refl, exit_of_lem 1 10 2 4 refl (omega arith) refl)

exits_of_0 : ExitCost mast_tree 0 0 (some 5) × ExitCost mast_tree 0 1 (some 0) × ExitCost mast_tree 0 2 (some 9)
unfolding computing
exits_of_0 = (exit_of_lem 0 0 0 5 refl (omega arith) refl, exit_of_lem 0 0 1 0 refl (omega arith) refl, exit_of_lem 0 0 2 9 refl (omega arith) refl)

-- the steps
step_11_by_1 : StepSays (encode mast_tree) 11 1 (gives (2 ∷ 3 ∷ 1 ∷ []))
unfolding computing
step_11_by_1 =
    step_says mast_tree sound 11 1 (gives (2 ∷ 3 ∷ 1 ∷ [])) (omega arith) {p = 1} refl
    (inr (refl, inr ((_, refl), (record { node = 2; cost = 3 }, refl, 1, refl, refl))))

step_11_by_0 : StepSays (encode mast_tree) 11 0 (refuses 17)
unfolding computing
step_11_by_0 =
    step_says mast_tree sound 11 0 (refuses 17) (omega arith) {p = 1} refl (inr (refl, inl (refl, refl)))

step_1 : (x : ℕ) → x < commands → StepSays (encode mast_tree) 1 x (refuses 14)
unfolding computing
step_1 x range = step_says mast_tree sound 1 x (refuses 14) range {p = 0} refl (inl (λ plain. none_some plain refl, refl))

-- with transitions cleared
cleared_10_1 : LeastCost (mast_after (clearing 10 1 ∷ [])) 0 2 (some 8)
unfolding computing
cleared_10_1 =
    bound_least (mast_after (clearing 10 1 ∷ [])) (after_sound (clearing 10 1 ∷ []) (omega arith)) without_10_1 refl 0 (omega arith) refl
    2 8 (0 ∷ 1 ∷ []) refl refl

cleared_1_1 : LeastCost (mast_after (clearing 1 1 ∷ [])) 0 2 (some 20)
unfolding computing
cleared_1_1 =
    bound_least (mast_after (clearing 1 1 ∷ [])) (after_sound (clearing 1 1 ∷ []) (omega arith)) without_1_1 refl 0 (omega arith) refl
    2 20 (2 ∷ []) refl refl

cleared_both : RefusedWith16 (mast_after (clearing 1 1 ∷ clearing 0 2 ∷ [])) 0 2 3
unfolding computing
cleared_both =
    let t : Tree = mast_after (clearing 1 1 ∷ clearing 0 2 ∷ []) in
    let s : Sound t = after_sound (clearing 1 1 ∷ clearing 0 2 ∷ []) (omega arith) in
    record {
      sheet = encode_rows (fresh_rows cleared_rows);
      sheet_true = tested_sheet t s cleared_rows refl;
      answer = tested_refused t s cleared_rows refl 0 2 refl refl (bound_none t s without_both refl 0 (omega arith) refl 2 refl);
    }

-- document 01's starred examples
pub mast_examples : MastExamples
mast_examples =
    record {
      whole = whole;
      from_0_to_2 = from_0_to_2;
      from_11_to_10 = from_11_to_10;
      from_0_to_0 = from_0_to_0;
      exits_of_1 = exits_of_1;
      exits_of_0 = exits_of_0;
      step_11_by_1 = step_11_by_1;
      step_11_by_0 = step_11_by_0;
      step_1 = step_1;
      cleared_10_1 = cleared_10_1;
      cleared_1_1 = cleared_1_1;
      cleared_both = cleared_both;
    }

-- the claim of W-202 where node 1 acts at 11, and a step where the state itself acts, though node 1 above it has a transition for the command
pub mast_acts : Acts (tree_of (encode mast_tree)) 11 1 1 (record { node = 2; cost = 3 })
mast_acts = step_acts (encode mast_tree) 11 1 (record { node = 2; cost = 3 }) 1 step_11_by_1

pub step_10_by_1 : StepSays (encode mast_tree) 10 1 (gives (10 ∷ 1 ∷ 10 ∷ []))
unfolding computing
step_10_by_1 =
    step_says mast_tree sound 10 1 (gives (10 ∷ 1 ∷ 10 ∷ [])) (omega arith) {p = 1} refl
    (inr (refl, inr ((_, refl), (record { node = 10; cost = 1 }, refl, 10, refl, refl))))

-- the claim of W-203: 12.5 seconds less a dead time of 0.25 are 12.25, so the transition of 0 for 0, to 1, gets the cost 13
abbrev twelve_and_half : Float
twelve_and_half = fin false 25 (negsuc 0)

abbrev quarter : Float
quarter = fin false 1 (negsuc 1)

pub import_0_by_0 : ImportSays 0 0 1 (took twelve_and_half) quarter (7 ∷ 7 ∷ 7 ∷ 7 ∷ 7 ∷ 7 ∷ 7 ∷ 7 ∷ 7 ∷ [])
    (gives (8 ∷ [])) (0x14 ∷ 0 ∷ 0 ∷ 0 ∷ 0 ∷ 1 ∷ 0 ∷ 13 ∷ 7 ∷ [])
unfolding sub
import_0_by_0 =
    inr (
      omega arith,
      inr (
        (inl refl, inl refl, inl refl, omega arith),
        (_, (13, (omega arith, λ k h. omega arith), refl), inr (omega arith, (refl, refl))),
      ),
    )

pub mast_imports : (answer : LoadAnswer) (book' sheet' : List ℕ)
    → LoadSays (encode mast_tree) (encode_rows (fresh_rows mast_rows)) (0x14 ∷ 0 ∷ 0 ∷ 0 ∷ 0 ∷ 1 ∷ 0 ∷ 13 ∷ []) answer book' sheet'
    → (answer ≡ record { bytes = 8; commands = 1; number = 0 }) × ((tree_of book').transition 0 0 ≡ some (record { target = 1; cost = 13 }))
unfolding sub computing
mast_imports answer book' sheet' says =
    let placed : Placed (tree_of (encode mast_tree)) 0 1 (took twelve_and_half) = rw (tree_of_encode mast_tree sound) ((0, refl), refl) in
    let (o, timed, answered, left, book, sheet) = import_loads 0 0 1 8 (took twelve_and_half) quarter _ _ (encode mast_tree) _ book' sheet' answer import_0_by_0
    (encode_well_formed mast_tree sound) (rw (tree_of_encode mast_tree sound) (tested_sheet mast_tree sound mast_rows refl)) placed says in
    (answered, left ∙ timed_same (took twelve_and_half) quarter 1 timed (13, (omega arith, λ k h. omega arith), refl))

-- With a transition of node 1 to itself for 2, a list that leaves machine 1 by 2 ends inside it, at state 10. The exit cost is the same.
pub exit_with_loop : ExitCost (mast_after (looping ∷ [])) 1 2 (some 4)
    × (step (mast_after (looping ∷ [])) 11 2 ≡ some (record { node = 10; cost = 6 }))
unfolding computing
exit_with_loop = (
  tested_exit (mast_after (looping ∷ [])) (after_sound (looping ∷ []) (omega arith)) loop_rows refl 1 10 2 (some 4) refl (omega arith) refl,
  refl,
)

-- ---- holds (document 02, W-205)

-- Node 10's transition for 2 leads to node 11, and node 1 above it has one too, to node 2. With a hold on node 11 the command climbs past the shut
-- one: node 1 acts.
pub climbs_past : (step (mast_after (passing ∷ [])) 10 2 ≡ some (record { node = 11; cost = 4 }))
    × (step (mast_after (passing ∷ holding 11 1 ∷ [])) 10 2 ≡ some (record { node = 2; cost = 6 }))
    × (acting (mast_after (passing ∷ holding 11 1 ∷ [])) 10 2 ≡ some 1)
unfolding computing
climbs_past = (refl, refl, refl)

-- with a hold on node 11 the plan from 0 to 2, at 12 by node 11, goes round it at 20
pub plan_round : Plan (mast_after (holding 11 1 ∷ [])) 0 2 20 (2 ∷ [])
unfolding computing
plan_round =
    bound_plan (mast_after (holding 11 1 ∷ [])) (after_sound (holding 11 1 ∷ []) (omega arith)) round_11 refl 0 (omega arith) refl 2 20 (2 ∷ []) refl
    refl (omega arith)

-- with a hold on node 2 it becomes 16
pub plan_shut : RefusedWith16 (mast_after (holding 2 1 ∷ [])) 0 2 3
unfolding computing
plan_shut =
    let t : Tree = mast_after (holding 2 1 ∷ []) in
    let s : Sound t = after_sound (holding 2 1 ∷ []) (omega arith) in
    record {
      sheet = encode_rows (fresh_rows cleared_rows);
      sheet_true = tested_sheet t s cleared_rows refl;
      answer = tested_refused t s cleared_rows refl 0 2 refl refl (bound_none t s without_both refl 0 (omega arith) refl 2 refl);
    }

-- with a hold on node 1 a plan that starts inside it leaves it; none comes back
pub plan_out : Plan (mast_after (holding 1 1 ∷ [])) 11 2 3 (1 ∷ []) × LeastCost (mast_after (holding 1 1 ∷ [])) 11 10 none
unfolding computing
plan_out =
    let t : Tree = mast_after (holding 1 1 ∷ []) in
    let s : Sound t = after_sound (holding 1 1 ∷ []) (omega arith) in (
      bound_plan t s out_of_1 refl 11 (omega arith) refl 2 3 (1 ∷ []) refl refl (omega arith),
      bound_none t s out_of_1 refl 11 (omega arith) refl 10 refl,
    )

-- a hold of 1 on a start node is 21, a hold of 0 there is taken; a held node does not become a start
pub refused_21 : ((load mast_tree (holding 0 1)).number ≡ 21) × ((load mast_tree (holding 0 0)).number ≡ 0)
    × ((load mast_tree (holding 2 1 ++ (0x16 ∷ 0x00 ∷ 0x02 ∷ []))).number ≡ 21)
    × ((load mast_tree (holding 2 1 ++ (0x16 ∷ 0x00 ∷ 0x02 ∷ []))).bytes ≡ 4)
unfolding computing
refused_21 = (refl, refl, refl, refl)

-- the hold of node 2 and its release
pub mast_released : edited (edited mast_tree (hold 2 1)) (hold 2 0) ≡ mast_tree
unfolding computing
mast_released = (hold_released mast_tree 2 sound refl refl).1

-- ---- walkers (document 02, W-206): node 1 holds the states 10 and 11, and from 0 command 0 leads to node 1, at state 10

-- what the opening asks
mast_judged : (n k : ℕ) (at : List ℕ) → (k ≤ most_walkers) × (length at ≤ most_walkers) → All (λ s. s < nodes) (n ∷ at) → All (UsedNode mast_tree) (n ∷ at)
    → All (λ s. mast_tree.below s ≡ none) at → {c : ℕ} → inside mast_tree n at ≡ c → c ≤ k → Passed (handed_refusals (encode mast_tree) n k at)
mast_judged n k at small range used plain count few =
    let w : WellFormed (encode mast_tree) = encode_well_formed mast_tree sound in
    let same = tree_of_encode mast_tree sound in
    let used' : All (UsedNode (tree_of (encode mast_tree))) (n ∷ at) = subst (λ u. All (UsedNode u) (n ∷ at)) (sym same) used in
    let plain' : All (λ s. (tree_of (encode mast_tree)).below s ≡ none) at = subst (λ u. All (λ s. u.below s ≡ none) at) (sym same) plain in
    (w.length, (w, (small, (range, (used', (plain', (rw same (rw count few), tt)))))))

-- at most one inside node 1, with walkers at 0, 0 and 2
none_inside : Passed (handed_refusals (encode mast_tree) 1 1 (0 ∷ 0 ∷ 2 ∷ []))
unfolding computing within any_of inside
none_inside =
    mast_judged 1 1 (0 ∷ 0 ∷ 2 ∷ []) (omega arith, omega arith) (omega arith, (omega arith, (omega arith, (omega arith, tt))))
    ((0, refl), ((0, refl), ((0, refl), ((0, refl), tt)))) (refl, (refl, (refl, tt))) refl (omega arith)

pub mast_opens : OpenWalkersSay (encode mast_tree) 1 1 (0 ∷ 0 ∷ 2 ∷ []) 0
mast_opens = in_order_all (λ r. 0 ≡ r) (0 ≡ 0) (handed_refusals (encode mast_tree) 1 1 (0 ∷ 0 ∷ 2 ∷ [])) none_inside refl

-- what follows for every list of commands, as for this one
pub mast_kept : AtMostInside (encode mast_tree) 1 1 ((0, 0) ∷ (1, 0) ∷ (0, 2) ∷ []) (0 ∷ 0 ∷ 2 ∷ [])
mast_kept = limit_kept (encode mast_tree) 1 1 (0 ∷ 0 ∷ 2 ∷ []) mast_opens ((0, 0) ∷ (1, 0) ∷ (0, 2) ∷ [])

-- what a walker command says, on the tree
mast_walks : (n k : ℕ) (at : List ℕ) (w x : ℕ) (answer : Answer) (at' : List ℕ) → Passed (handed_refusals (encode mast_tree) n k at)
    → InOrder (walk_refusals mast_tree n k at w x) (λ r. (answer ≡ refuses r) × (at' ≡ at))
    (GivesStep mast_tree (get_or at w 0) x answer × (at' ≡ set at w (get_or answer.values 0 0)))
    → WalkSays (encode mast_tree) n k at w x answer at'
mast_walks n k at w x answer at' judged rest =
    in_order_after (λ r. (answer ≡ refuses r) × (at' ≡ at))
    (GivesStep (tree_of (encode mast_tree)) (get_or at w 0) x answer × (at' ≡ set at w (get_or answer.values 0 0)))
    (handed_refusals (encode mast_tree) n k at) (walk_refusals (tree_of (encode mast_tree)) n k at w x) judged (rw (tree_of_encode mast_tree sound) rest)

-- the first of them goes in
pub mast_enters : WalkSays (encode mast_tree) 1 1 (0 ∷ 0 ∷ 2 ∷ []) 0 0 (gives (10 ∷ 5 ∷ 0 ∷ [])) (10 ∷ 0 ∷ 2 ∷ [])
unfolding computing within any_of inside comes_inside
mast_enters =
    mast_walks 1 1 (0 ∷ 0 ∷ 2 ∷ []) 0 0 (gives (10 ∷ 5 ∷ 0 ∷ [])) (10 ∷ 0 ∷ 2 ∷ []) none_inside
    (inr (
      omega arith,
      inr (
        (omega arith, omega arith),
        inr ((0, refl), inr (refl, inr ((_, refl), inr (refl, ((record { node = 10; cost = 5 }, refl, 0, refl, refl), refl))))),
      ),
    ))

-- walkers at a state of node 1, at 0 and at 2: one is inside
one_inside : (s : ℕ) → s < nodes → mast_tree.owner s ≡ some 1 → mast_tree.below s ≡ none → inside mast_tree 1 (s ∷ 0 ∷ 2 ∷ []) ≡ 1
    → Passed (handed_refusals (encode mast_tree) 1 1 (s ∷ 0 ∷ 2 ∷ []))
unfolding computing
one_inside s range own plain count =
    mast_judged 1 1 (s ∷ 0 ∷ 2 ∷ []) (omega arith, omega arith) (omega arith, (range, (omega arith, (omega arith, tt))))
    ((0, refl), ((1, own), ((0, refl), ((0, refl), tt)))) (plain, (refl, (refl, tt))) count (omega arith)

-- the walker at 0 may not go in, and stays
pub mast_crowded : WalkSays (encode mast_tree) 1 1 (10 ∷ 0 ∷ 2 ∷ []) 1 0 (refuses 22) (10 ∷ 0 ∷ 2 ∷ [])
unfolding computing within any_of inside comes_inside
mast_crowded =
    mast_walks 1 1 (10 ∷ 0 ∷ 2 ∷ []) 1 0 (refuses 22) (10 ∷ 0 ∷ 2 ∷ []) (one_inside 10 (omega arith) refl refl refl)
    (inr (omega arith, inr ((omega arith, omega arith), inr ((0, refl), inr (refl, inr ((_, refl), inl (λ free. true_false refl free, (refl, refl))))))))

-- the one inside may go on inside, and its record alone changes
pub mast_inside : WalkSays (encode mast_tree) 1 1 (10 ∷ 0 ∷ 2 ∷ []) 0 2 (gives (11 ∷ 4 ∷ 10 ∷ [])) (11 ∷ 0 ∷ 2 ∷ [])
unfolding computing within any_of inside comes_inside
mast_inside =
    mast_walks 1 1 (10 ∷ 0 ∷ 2 ∷ []) 0 2 (gives (11 ∷ 4 ∷ 10 ∷ [])) (11 ∷ 0 ∷ 2 ∷ []) (one_inside 10 (omega arith) refl refl refl)
    (inr (
      omega arith,
      inr (
        (omega arith, omega arith),
        inr ((1, refl), inr (refl, inr ((_, refl), inr (refl, ((record { node = 11; cost = 4 }, refl, 10, refl, refl), refl))))),
      ),
    ))

-- inside node 10 is where the step leads, and not the target of its transition, node 1: with a limit of 0 the walker at 0 may not go
pub mast_by_state : WalkSays (encode mast_tree) 10 0 (0 ∷ []) 0 0 (refuses 22) (0 ∷ [])
unfolding computing within any_of inside comes_inside
mast_by_state =
    mast_walks 10 0 (0 ∷ []) 0 0 (refuses 22) (0 ∷ [])
    (mast_judged 10 0 (0 ∷ []) (omega arith, omega arith) (omega arith, (omega arith, tt)) ((1, refl), ((0, refl), tt)) (refl, tt) refl (omega arith))
    (inr (omega arith, inr ((omega arith, omega arith), inr ((0, refl), inr (refl, inr ((_, refl), inl (λ free. true_false refl free, (refl, refl))))))))

-- ---- leaving (document 02, W-207)

-- The mast book, where leaving costs nothing: at 11 the step by 1 costs what node 1's transition does, and node 1's exit cost is machine 1's.
pub mast_free : (m : ℕ) → mast_tree.leave m ≡ 0
unfolding computing
mast_free m = refl

pub mast_free_step : (b : Transition) × (counting mast_tree 1 1 ≡ some b) × (b.cost ≡ 3)
unfolding computing
mast_free_step = free_step mast_tree mast_free 11 1 1 (record { node = 2; cost = 3 }) refl refl

pub mast_free_exit : node_exit mast_tree (fresh_rows mast_rows) 1 1 ≡ some 4
unfolding computing
mast_free_exit = exit_free mast_tree (fresh_rows mast_rows) 1 1 refl (mast_free 1)

-- with machine 2 below node 11: leaving it costs 4, and leaving machine 1 costs 9
abbrev pub deep_tree : Tree
deep_tree = mast_after (deepening ∷ charging 1 9 ∷ charging 2 4 ∷ [])

deep_sound : Sound deep_tree
unfolding computing
deep_sound = after_sound (deepening ∷ charging 1 9 ∷ charging 2 4 ∷ []) (omega arith)

-- From 20 command 1 is found at node 1: it leaves machines 2 and 1, and costs 4 + 9 + 3. Node 10 acts itself: neither leaving machine 1, which is its
-- own, nor entering machine 2 costs anything.
pub leaves_two : (step deep_tree 20 1 ≡ some (record { node = 2; cost = 16 })) × (acting deep_tree 20 1 ≡ some 1)
    × (step deep_tree 10 2 ≡ some (record { node = 20; cost = 4 }))
unfolding computing
leaves_two = (refl, refl, refl)

-- machine 1's exit by 1 counts leaving machine 2, and not its own; the root's by 0 counts leaving machine 1
pub exits_deep : ExitCost deep_tree 1 1 (some 8) × ExitCost deep_tree 0 0 (some 14)
unfolding computing
exits_deep = (
  tested_exit deep_tree deep_sound deep_rows refl 1 10 1 (some 8) refl (omega arith) refl,
  tested_exit deep_tree deep_sound deep_rows refl 0 0 0 (some 14) refl (omega arith) refl,
)

-- From 11 to 10 there is a transition inside machine 1 at 16. The way out and in again costs 15, or 24 where leaving costs 9: then the plan stays inside.
pub stays_inside : Plan (mast_after (returning ∷ [])) 11 10 15 (1 ∷ 0 ∷ 0 ∷ [])
    × Plan (mast_after (returning ∷ charging 1 9 ∷ [])) 11 10 16 (3 ∷ [])
unfolding computing
stays_inside = (
  bound_plan (mast_after (returning ∷ [])) (after_sound (returning ∷ []) (omega arith)) from_11 refl 11 (omega arith) refl 10 15 (1 ∷ 0 ∷ 0 ∷ [])
      refl refl (omega arith),
  bound_plan (mast_after (returning ∷ charging 1 9 ∷ [])) (after_sound (returning ∷ charging 1 9 ∷ []) (omega arith)) within_1 refl 11 (omega arith)
      refl 10 16 (3 ∷ []) refl refl (omega arith),
)

-- Write's stream of the mast book with a hold and a leaving cost: the holds come before what leaving costs
pub mast_written : written (mast_after (holding 11 1 ∷ charging 1 9 ∷ [])) ≡ mast_stream ++ (holding 11 1 ++ charging 1 9)
unfolding computing joined written_begin written_add written_refine written_arrow written_hold written_leave written
mast_written = refl

-- a charge of the root is 6, one of 0 too, and so is machine 64; machine 2, which is not in use, is 7; machine 1 is taken. Under a new root the old
-- one may be charged, and the new one not
pub refused_charges : ((load mast_tree (charging 0 9)).number ≡ 6) × ((load mast_tree (charging 0 0)).number ≡ 6)
    × ((load mast_tree (charging 64 9)).number ≡ 6) × ((load mast_tree (charging 2 9)).number ≡ 7) × ((load mast_tree (charging 1 9)).number ≡ 0)
    × ((load mast_tree (crowning ++ charging 0 9)).number ≡ 0) × ((load mast_tree (crowning ++ charging 2 9)).number ≡ 6)
unfolding computing
refused_charges = (refl, refl, refl, refl, refl, refl, refl)

-- ---- by command (document 02, W-209)

-- node 1's transition for command 1, to node 2 at cost 3, is word 256 + 1; the root is word 4,096, owner and machine below of node 1 words 4,227
-- and 4,228
pub mast_by_command : (get_or (by_command (encode mast_tree)) 257 0 ≡ 2 * 65536 + 3) × (get_or (by_command (encode mast_tree)) 4096 0 ≡ 0)
    × (get_or (by_command (encode mast_tree)) 4227 0 ≡ 0) × (get_or (by_command (encode mast_tree)) 4228 0 ≡ 1)
unfolding computing transition_word word
mast_by_command =
    let len = encode_length mast_tree in (
      command_transition (encode mast_tree) len 1 1 (omega arith) (omega arith) ∙ node_word_lem mast_tree 1 3 (omega arith) (omega arith),
      command_front (encode mast_tree) len 0 (omega arith) ∙ root_word mast_tree,
      command_link (encode mast_tree) len 1 0 (omega arith) (omega arith) ∙ node_word_lem mast_tree 1 0 (omega arith) (omega arith),
      command_link (encode mast_tree) len 1 1 (omega arith) (omega arith) ∙ node_word_lem mast_tree 1 1 (omega arith) (omega arith),
    )

-- Step's answer on the book by command, a case of `same_answers`
pub mast_step_by_command : (answer : Answer) → StepSays (by_node (by_command (encode mast_tree))) 11 1 answer → gives (2 ∷ 3 ∷ 1 ∷ []) ≡ answer
mast_step_by_command answer says =
    (same_answers.steps 11 1 (encode mast_tree) (gives (2 ∷ 3 ∷ 1 ∷ [])) answer mast_examples.step_11_by_1 says).1

-- ---- replaced unseen (document 02, W-210)

-- the mast book where leaving machine 1 costs 3
unfoldable pub charged_tree : Tree
charged_tree = mast_after (charging 1 3 ∷ [])

-- The stream that makes a book alike but for what is below node 1: machine 5 with start node 23, from which every command leads to node 20 at cost 2;
-- then as in machine 1, with another loop, and on to node 22, which holds machine 6 with node 30 and a held node 31. Leaving machine 5 costs 1.
unfoldable pub swapping : List ℕ
swapping =
    0x13 ∷ 0x00 ∷ 0x01
    ∷ 0x11 ∷ 0x00 ∷ 0x00 ∷ 0x01
    ∷ 0x12 ∷ 0x00 ∷ 0x01 ∷ 0x05 ∷ 0x00 ∷ 0x17
    ∷ 0x11 ∷ 0x05 ∷ 0x00 ∷ 0x14
    ∷ 0x11 ∷ 0x05 ∷ 0x00 ∷ 0x15
    ∷ 0x11 ∷ 0x05 ∷ 0x00 ∷ 0x16
    ∷ 0x12 ∷ 0x00 ∷ 0x16 ∷ 0x06 ∷ 0x00 ∷ 0x1E
    ∷ 0x11 ∷ 0x06 ∷ 0x00 ∷ 0x1F
    ∷ 0x14 ∷ 0x00 ∷ 0x00 ∷ 0x00 ∷ 0x00 ∷ 0x01 ∷ 0x00 ∷ 0x05
    ∷ 0x14 ∷ 0x00 ∷ 0x01 ∷ 0x01 ∷ 0x00 ∷ 0x02 ∷ 0x00 ∷ 0x03
    ∷ 0x14 ∷ 0x00 ∷ 0x14 ∷ 0x01 ∷ 0x00 ∷ 0x14 ∷ 0x00 ∷ 0x09
    ∷ 0x14 ∷ 0x00 ∷ 0x14 ∷ 0x02 ∷ 0x00 ∷ 0x15 ∷ 0x00 ∷ 0x04
    ∷ 0x14 ∷ 0x00 ∷ 0x15 ∷ 0x05 ∷ 0x00 ∷ 0x16 ∷ 0x00 ∷ 0x07
    ∷ 0x14 ∷ 0x00 ∷ 0x1E ∷ 0x03 ∷ 0x00 ∷ 0x1F ∷ 0x00 ∷ 0x06
    ∷ 0x1A ∷ 0x00 ∷ 0x1F ∷ 0x01
    ∷ 0x1B ∷ 0x05 ∷ 0x00 ∷ 0x01
    ∷ 0x1B ∷ 0x06 ∷ 0x00 ∷ 0x02
    ∷ joined commands (λ x. arrow_bytes 23 x 20 2)

unfoldable pub swap_tree : Tree
swap_tree = mast_after (swapping ∷ [])

charged_rows : Rows
charged_rows = rows_with (8 ∷ 0 ∷ 12 ∷ []) (1 ∷ 0 ∷ 1 ∷ []) ((0, 0) ∷ (1, 5) ∷ (2, 15) ∷ []) ((1, 0) ∷ (2, 1) ∷ []) ((1, 0) ∷ (2, 1) ∷ [])

swap_rows : Rows
swap_rows =
    record {
      stale = λ m. false;
      exit =
          λ m x. listed ((0, get_or (8 ∷ 0 ∷ 12 ∷ []) x 0) ∷ (5, get_or (2 ∷ 6 ∷ 6 ∷ []) x 2) ∷ (6, 0) ∷ []) m;
      last =
          λ m x. listed ((0, get_or (1 ∷ 0 ∷ 1 ∷ []) x 0) ∷ (5, get_or (20 ∷ 21 ∷ 21 ∷ []) x 20) ∷ (6, 30) ∷ []) m;
      cost = listed ((0, 0) ∷ (1, 5) ∷ (2, 15) ∷ (23, 0) ∷ (20, 2) ∷ (21, 6) ∷ (22, 13) ∷ (30, 0) ∷ []);
      before = listed ((1, 0) ∷ (2, 1) ∷ (20, 23) ∷ (21, 20) ∷ (22, 21) ∷ []);
      by = listed ((1, 0) ∷ (2, 1) ∷ (20, 0) ∷ (21, 2) ∷ (22, 5) ∷ []);
    }

-- to open this is to open both books
swapping_books : Tree
unfolding computing charged_tree swapping swap_tree joined without within any_of
swapping_books = fresh_tree

charged_sound : Sound charged_tree
unfolding charged_tree
charged_sound = after_sound (charging 1 3 ∷ []) (omega arith)

swap_sound : Sound swap_tree
unfolding swapping_books
swap_sound = after_sound (swapping ∷ []) (all_under_lem 256 swapping refl, tt)

-- they are alike but for what is below node 1
swap_alike : AlikeBut charged_tree swap_tree 1 1 5
unfolding swapping_books pruned alike_test same_node same_machine same_number same_transition
swap_alike = record { alike = tested_alike charged_sound swap_sound 1 refl; refined = refl; refined_too = refl }

-- and the exit costs 0, 4, 4, 0, .. plus 3 are 2, 6, 6, 2, .. plus 1
swap_exits : SameExits charged_tree swap_tree 1 5
unfolding swapping_books charged_rows swap_rows same_number
swap_exits x range o p one two =
    let a : o ≡ (fresh_rows charged_rows).exit 1 x =
    least_one _ o ((fresh_rows charged_rows).exit 1 x) one
    (tested_exit charged_tree charged_sound charged_rows refl 1 10 x ((fresh_rows charged_rows).exit 1 x) refl range refl)
    in
    let b : p ≡ (fresh_rows swap_rows).exit 5 x =
    least_one _ p ((fresh_rows swap_rows).exit 5 x) two (tested_exit swap_tree swap_sound swap_rows refl 5 23 x ((fresh_rows swap_rows).exit 5 x) refl range refl)
    in
    ap (and_leaving charged_tree 1) a ∙ same_number_lem _ _ (all_below_lem commands sums refl x range) ∙ sym (ap (and_leaving swap_tree 5) b)
  where
    sums : ℕ → Bool
    sums x = same_number (and_leaving charged_tree 1 ((fresh_rows charged_rows).exit 1 x)) (and_leaving swap_tree 5 ((fresh_rows swap_rows).exit 5 x))

-- from state 0 where leaving machine 1 costs 3
charged_0 : ℕ → Option ℕ
charged_0 = listed ((0, 0) ∷ (10, 5) ∷ (11, 9) ∷ (2, 15) ∷ [])

charged_cost : LeastCost charged_tree 0 2 (some 15)
unfolding swapping_books charged_0
charged_cost = bound_least charged_tree charged_sound charged_0 refl 0 (omega arith) refl 2 15 (0 ∷ 2 ∷ 1 ∷ []) refl refl

-- so from 0 to 2 the least cost is the same
pub swap_unseen : LeastCost swap_tree 0 2 (some 15)
unfolding swapping_books
swap_unseen =
    ((replaced_unseen charged_tree swap_tree 1 1 5 charged_sound swap_sound swap_alike swap_exits).costs 0 2 (refl, refl) (refl, refl) (some 15)).0 charged_cost

-- without the transition of 10 for 1 the mast book is still alike but for what is below node 1, and every exit cost but that for command 1 is the
-- same; the least cost from 0 to 2 is another
unfoldable pub missed_tree : Tree
missed_tree = mast_after (clearing 10 1 ∷ [])

missed_rows : Rows
missed_rows =
    record {
      stale = λ m. false;
      exit = each ((λ x. get_or (5 ∷ 0 ∷ 8 ∷ []) x 0) ∷ (λ x. get_or (0 ∷ 0 ∷ 4 ∷ []) x 0) ∷ []);
      last = each ((λ x. get_or (1 ∷ 0 ∷ 2 ∷ []) x 0) ∷ (λ x. get_or (10 ∷ 10 ∷ 11 ∷ []) x 10) ∷ []);
      cost = listed ((0, 0) ∷ (1, 5) ∷ (2, 8) ∷ (10, 0) ∷ (11, 4) ∷ []);
      before = listed ((1, 0) ∷ (2, 1) ∷ (11, 10) ∷ []);
      by = listed ((1, 0) ∷ (2, 1) ∷ (11, 2) ∷ []);
    }

missed_sound : Sound missed_tree
unfolding missed_tree
missed_sound = after_sound (clearing 10 1 ∷ []) (omega arith)

pub missed_alike : AlikeBut mast_tree missed_tree 1 1 1
unfolding computing missed_tree within any_of pruned alike_test same_node same_machine same_number same_transition
missed_alike = record { alike = tested_alike sound missed_sound 1 refl; refined = refl; refined_too = refl }

pub missed_exits : (x : ℕ) → x < commands → (x ≡ 1 → ⊥) → (o p : Option ℕ) → ExitCost mast_tree 1 x o → ExitCost missed_tree 1 x p
    → and_leaving mast_tree 1 o ≡ and_leaving missed_tree 1 p
unfolding computing missed_tree missed_rows
missed_exits x range other o p one two =
    let a : o ≡ (fresh_rows mast_rows).exit 1 x =
    least_one _ o ((fresh_rows mast_rows).exit 1 x) one (tested_exit mast_tree sound mast_rows refl 1 10 x ((fresh_rows mast_rows).exit 1 x) refl range refl)
    in
    let b : p ≡ (fresh_rows missed_rows).exit 1 x =
    least_one _ p ((fresh_rows missed_rows).exit 1 x) two (tested_exit missed_tree missed_sound missed_rows refl 1 10 x ((fresh_rows missed_rows).exit 1 x) refl range refl)
    in
    ap (and_leaving mast_tree 1) a ∙ go x other ∙ sym (ap (and_leaving missed_tree 1) b)
  where
    go : (x : ℕ) → (x ≡ 1 → ⊥) → and_leaving mast_tree 1 ((fresh_rows mast_rows).exit 1 x) ≡ and_leaving missed_tree 1 ((fresh_rows missed_rows).exit 1 x)
    go zero other = refl
    go (suc zero) other = absurd (other refl)
    go (suc (suc x)) other = refl

pub missed_cost : LeastCost mast_tree 0 2 (some 12) × LeastCost missed_tree 0 2 (some 8)
unfolding missed_tree
missed_cost = (mast_examples.from_0_to_2.least, mast_examples.cleared_10_1)

-- ---- where the road ends (document 02, W-211)

-- without the transitions of 1 for 1 and of 0 for 2 there is no way from 0 to 2: the states that are reached are 0, 10 and 11
unfoldable pub ended_tree : Tree
ended_tree = mast_after (clearing 1 1 ∷ clearing 0 2 ∷ [])

unfoldable pub mast_reach : List ℕ
mast_reach = 0 ∷ 10 ∷ 11 ∷ []

-- whether command x at state s stops or lands on one of them
reach_test : ℕ → ℕ → Bool
reach_test s x = option true (λ r. lists mast_reach r.node) (step ended_tree s x)

pub mast_reach_lem : TrueReach ended_tree 0 2 mast_reach
unfolding computing ended_tree mast_reach any_of reach_test
mast_reach_lem =
    record {
      rising = omega arith;
      holds = refl;
      lacks = refl;
      closed = λ s x e range. all_listed (λ k. (y : ℕ) → y < commands → reach_test k y ≡ true) mast_reach closed_all s e x range;
      reached = ((0, [], refl), ((5, 0 ∷ [], refl), ((9, 0 ∷ 2 ∷ [], refl), tt)));
    }
  where
    closed_all : All (λ k. (y : ℕ) → y < commands → reach_test k y ≡ true) mast_reach
    closed_all = (all_below_lem commands (reach_test 0) refl, (all_below_lem commands (reach_test 10) refl, (all_below_lem commands (reach_test 11) refl, tt)))
