-- What Merge says on each of its ways out. Assumes nothing.
use mathlib.Core.Path.{◌≡◌, refl, sym, ◌∙◌, ap}
use mathlib.Core.Logic.{inl, inr}
use mathlib.Core.Bool.{false, ◌||◌}
use mathlib.Core.Option.{Option, none, some}
use mathlib.Core.List.{List}
use Rattle.std.proofs.Common as code
use Rattle.std.specs.Option.{is_some}
use Rattle.refusals.specs.Meaning.{value_of}
use Prim.Native.Nat.{ℕ, ◌+◌, ◌<◌}
use native.Mathlib.Omega.{arith}
use lib.ListN.{get_or}
use Rattle.definitions.specs.Basics.{count_below}
use Rattle.definitions.specs.Limits.{machines, nodes}
use Rattle.definitions.specs.Tree.{Tree, Sound}
use Rattle.definitions.specs.Book.{word, encode, tree_of, WellFormed}
use Rattle.definitions.specs.Sheet.{encode_rows}
use Rattle.definitions.specs.Edit.{any_lowest}
use Rattle.definitions.specs.Open.{open_rows}
use Rattle.definitions.specs.Answer.{InOrder}
use Rattle.definitions.specs.Merge.{ranked, unused_machine, unused_node, machine_count, node_count, merged}
use Rattle.definitions.specs.Merge.{Enough, tree_refusals, MergeDone}
use Rattle.definitions.proofs.Options.{none_some, true_false}
use Rattle.definitions.proofs.Words.{tree_of_encode}
use Rattle.mergetheory.proofs.Ranks.{ranked_exists, rank_under}
use Rattle.mergetheory.proofs.Merged.{parts_merged, machines_move, nodes_move, merged_sound}
use Rattle.merging.specs.Merging.{NodesMove, MoveLists, rooted_tree}

-- ---- numbers enough

-- the numbers that Merge goes by: those that are left for the new root and its nodes, with the lists of where the second's move
pub record Numbered (first second machine_to machine_from node_to node_from : List ℕ) (r a b : Option ℕ) : Type 0 where
  pub lists : MoveLists first second machine_to machine_from node_to node_from
  pub root : r ≡ ranked machines (unused_machine (tree_of first)) (machine_count (tree_of second))
  pub lower : a ≡ ranked nodes (unused_node (tree_of first)) (node_count (tree_of second))
  pub higher : b ≡ ranked nodes (unused_node (tree_of first)) (node_count (tree_of second) + 1)

-- what is there has its word
word_some : {o : Option ℕ} {k w : ℕ} → o ≡ some k → w ≡ word o → o ≡ some w
unfolding word
word_some {o} {k} {w} e said = e ∙ ap {B = Option ℕ} some (sym (said ∙ rw e))

-- the root is a machine
pub root_range : {ws : List ℕ} → WellFormed ws → {r : ℕ} → r ≡ (tree_of ws).root → r < machines
root_range {ws} formed e =
    let (f, used) = formed.sound.root_used in
    rw e (formed.sound.machine_range (tree_of ws).root f used)

-- ---- the answer

module _ {first second mt mf nt nf : List ℕ} {r a b : Option ℕ} (n : Numbered first second mt mf nt nf r a b) where
  -- where one of the numbers is missing there are too few
  pub no_root : r ≡ none → Enough (tree_of first) (tree_of second) → ⊥
  no_root e room = none_some (sym n.root ∙ e) (ranked_exists machines (unused_machine (tree_of first)) (machine_count (tree_of second)) (omega (arith, room.0))).1

  pub no_lower : a ≡ none → Enough (tree_of first) (tree_of second) → ⊥
  no_lower e room = none_some (sym n.lower ∙ e) (ranked_exists nodes (unused_node (tree_of first)) (node_count (tree_of second)) (omega (arith, room.1))).1

  pub no_higher : b ≡ none → Enough (tree_of first) (tree_of second) → ⊥
  no_higher e room = none_some (sym n.higher ∙ e) (ranked_exists nodes (unused_node (tree_of first)) (node_count (tree_of second) + 1) (omega (arith, room.1))).1

-- too few, and nothing is written
pub too_few : (first second : List ℕ) → (any_lowest (tree_of first) || any_lowest (tree_of second)) ≡ false
    → (Enough (tree_of first) (tree_of second) → ⊥) → {k : ℕ} → k ≡ 19 → (book sheet : List ℕ)
    → InOrder (tree_refusals (tree_of first) (tree_of second)) (λ i. (k ≡ i) × (book ≡ book) × (sheet ≡ sheet))
    (MergeDone (tree_of first) (tree_of second) k book sheet)
too_few first second high few e book sheet = inr (high, inl (few, (e, refl, refl)))

-- what is not there is none
pub missing : (o : code.Option ℕ) → false ≡ is_some o → value_of o ≡ none
missing (code.Some n) e = absurd (true_false refl (sym e))
missing code.None e = refl

-- ---- all three are there: enough

module _ {first second mt mf nt nf : List ℕ} {r a b : ℕ} (n : Numbered first second mt mf nt nf (some r) (some a) (some b)) where
  machine_room : machine_count (tree_of second) < count_below machines (unused_machine (tree_of first))
  machine_room = rank_under machines (unused_machine (tree_of first)) (machine_count (tree_of second)) (sym n.root)

  node_room : node_count (tree_of second) + 1 < count_below nodes (unused_node (tree_of first))
  node_room = rank_under nodes (unused_node (tree_of first)) (node_count (tree_of second) + 1) (sym n.higher)

  -- so every node of the second moves
  pub all_move : NodesMove first second
  all_move = (nodes_move (tree_of first) n.lists.second_formed.sound (omega (arith, node_room))).moves

  -- the book and the sheet are the merged tree's
  pub done : {i : ℕ} {book sheet book' sheet' : List ℕ} → (any_lowest (tree_of first) || any_lowest (tree_of second)) ≡ false
      → i ≡ (tree_of second).root → book' ≡ encode (rooted_tree first second r a b (get_or mt i 0))
      → sheet' ≡ encode_rows (open_rows (tree_of book'))
      → InOrder (tree_refusals (tree_of first) (tree_of second)) (λ k. (0 ≡ k) × (book' ≡ book) × (sheet' ≡ sheet))
      (MergeDone (tree_of first) (tree_of second) 0 book' sheet')
  done {i} high at eb es =
      let top : ℕ = get_or mt i 0 in
      let t : Tree = tree_of first in
      let u : Tree = tree_of second in
      let su : Sound u = n.lists.second_formed.sound in
      let (f, used) = su.root_used in
      let (k, goes) = (machines_move t su (omega (arith, machine_room))).moves u.root (rw used) in
      let w : Tree = rooted_tree first second r a b top in
      let made : merged t u ≡ some w =
      parts_merged {w = w} (record {
        root = r;
        first = a;
        second = b;
        top = top;
        root_rank = sym n.root;
        first_rank = sym n.lower;
        second_rank = sym n.higher;
        root_moves = word_some goes (ap (λ m. get_or mt m 0) at ∙ n.lists.machines_go.word u.root (su.machine_range u.root f used));
        tree = refl;
      }) in
      let back : tree_of (encode w) ≡ w = tree_of_encode w (merged_sound n.lists.first_formed.sound su high made) in
      inr (
        high,
        inr (
          (omega (arith, machine_room), omega (arith, node_room)),
          (w, made, refl, eb, es ∙ ap (λ ws. encode_rows (open_rows (tree_of ws))) eb ∙ ap (λ v. encode_rows (open_rows v)) back),
        ),
      )
