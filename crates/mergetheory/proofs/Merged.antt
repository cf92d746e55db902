-- The merged tree: of which parts it is, that it is sound, and that both trees stand in it, so that least costs are the old ones. Assumes nothing.
use mathlib.Core.Path.{◌≡◌, refl, sym, ◌∙◌, ap, subst}
use mathlib.Core.Logic.{⊎_elim}
use mathlib.Core.Bool.{true, false, not, ◌&&◌, ◌||◌}
use mathlib.Core.Option.{Option, none, some}
use Prim.Native.Nat.{ℕ, suc, ◌+◌, ◌≤◌, ◌<◌}
use native.Mathlib.Omega.{arith}
use lib.Dec.{ltb}
use borrow.Author.Tests.{ltb-true, eqb-false, not-true}
use Rattle.definitions.specs.Basics.{◌>>=◌, is_some, put, count_below}
use Rattle.definitions.specs.Limits.{machines, nodes, levels}
use Rattle.definitions.specs.Tree.{Tree, Transition, Sound, used_machine, used_node, level}
use Rattle.definitions.specs.Stream.{add, crown}
use Rattle.definitions.specs.Edit.{edited, any_lowest, lowest}
use Rattle.definitions.specs.Merge.{ranked, renumbered, moved_transition, unused_machine, unused_node, machine_count, node_count}
use Rattle.definitions.specs.Merge.{machine_moves, node_moves, beside, under_new_root, merged, SameCosts}
use Rattle.definitions.proofs.Options.{bind_some, none_some, some_same, and_true, is_some_true, is_some_false, put_same, put_other}
use Rattle.definitions.proofs.Path.{Deep, deep, deep_small, deep_unique, level_deep}
use Rattle.definitions.proofs.Words.{unused_below, unused_transition}
use Rattle.definitions.proofs.Commands.{TakenAdd, TakenCrown, neither, none_below}
use Rattle.definitions.proofs.Kept.{put_some, add_sound, crown_sound}
use Rattle.mergetheory.proofs.Ranks.{Renumbers, rising_renumbers, HasRank, ranked_some, beyond, rank_under}
use Rattle.mergetheory.proofs.Renumbered.{carried, owner_at, below_at, transition_at, hold_at_lem, start_at, holder_at, leave_at_lem, deep_moved, renumbered_sound}
use Rattle.mergetheory.proofs.Hung.{hung, Hangs, hung_sound, hung_holder}
use Rattle.mergetheory.proofs.Hung.{first_owner, first_below, first_transition, first_hold, first_start, first_holder, first_leave}
use Rattle.mergetheory.proofs.Hung.{second_owner, second_below, second_transition, second_hold, second_start, second_holder, second_leave}
use Rattle.mergetheory.proofs.Stands.{goes_to, goes_there, Stands, stands_same}

-- ---- the parts of a merge

-- the new root, its two nodes, and where the second tree's root moves
pub record Parts (t u w : Tree) : Type 0 where
  pub root : ℕ
  pub first : ℕ
  pub second : ℕ
  pub top : ℕ
  pub root_rank : ranked machines (unused_machine t) (machine_count u) ≡ some root
  pub first_rank : ranked nodes (unused_node t) (node_count u) ≡ some first
  pub second_rank : ranked nodes (unused_node t) (node_count u + 1) ≡ some second
  pub root_moves : (machine_moves t u).to u.root ≡ some top
  pub tree : under_new_root t u root first second top ≡ w

-- the first tree below the start node of the new root, which has another node
abbrev crowned_first : {t u w : Tree} → Parts t u w → Tree
crowned_first {t} p = edited (edited t (crown p.root p.first)) (add p.root p.second)

-- the second tree at its new numbers
abbrev second_tree : {t u w : Tree} → Parts t u w → Tree
second_tree {t} {u} p = renumbered (machine_moves t u) (node_moves t u) p.top u

-- and the second below the new root's other node
abbrev whole : {t u w : Tree} → Parts t u w → Tree
whole p = hung (crowned_first p) (second_tree p) p.second

-- a merged tree has such parts, and with them it is the merged tree
merged_parts : {t u w : Tree} → merged t u ≡ some w → Parts t u w
unfolding merged
merged_parts {t} {u} e =
    let (r, er, on) = bind_some (ranked machines (unused_machine t) (machine_count u)) _ e in
    let (a, ea, on_a) = bind_some (ranked nodes (unused_node t) (node_count u)) _ on in
    let (b, eb, on_b) = bind_some (ranked nodes (unused_node t) (node_count u + 1)) _ on_a in
    let (s, es, made) = bind_some ((machine_moves t u).to u.root) _ on_b in
    record {
      root = r;
      first = a;
      second = b;
      top = s;
      root_rank = er;
      first_rank = ea;
      second_rank = eb;
      root_moves = es;
      tree = some_same refl made;
    }

pub parts_merged : {t u w : Tree} → Parts t u w → merged t u ≡ some w
unfolding merged
parts_merged p = rw (p.root_rank, p.first_rank, p.second_rank, p.root_moves) (ap {B = Option Tree} some p.tree)

-- ---- numbers that a tree does not use

-- such a number is in range and has no value
free_parts : {A : Type 0} (limit k : ℕ) (o : Option A) → (ltb k limit && not (is_some o)) ≡ true → (k < limit) × (o ≡ none)
free_parts limit k o e =
    let (range, unused) = and_true (ltb k limit) (not (is_some o)) e in
    (ltb-true k limit range, is_some_false o (not-true (is_some o) unused))

-- the second tree's machines and nodes move
module _ (t : Tree) {u : Tree} (su : Sound u) where
  pub machines_move : machine_count u ≤ count_below machines (unused_machine t) → Renumbers (machine_moves t u) (used_machine u) (unused_machine t)
  machines_move =
      rising_renumbers machines (used_machine u) (unused_machine t)
      (λ d e. let (f, used) = is_some_true (u.start d) e in su.machine_range d f used) (λ d e. (free_parts machines d (t.start d) e).0)

  pub nodes_move : node_count u ≤ count_below nodes (unused_node t) → Renumbers (node_moves t u) (used_node u) (unused_node t)
  nodes_move =
      rising_renumbers nodes (used_node u) (unused_node t)
      (λ d e. let (m, own) = is_some_true (u.owner d) e in su.node_range d m own) (λ d e. (free_parts nodes d (t.owner d) e).0)

-- ---- room below a new root

-- no node stands at the lowest level where the test finds none
not_lowest : (t : Tree) → any_lowest t ≡ false → (n m : ℕ) → n < nodes → t.owner n ≡ some m → level t n ≡ levels → ⊥
not_lowest t off n m small own = eqb-false (level t n) levels (rw own at (none_below nodes (lowest t) off n small))

-- and so every machine can come one deeper
room : {t : Tree} → Sound t → any_lowest t ≡ false → (m f k : ℕ) → t.start m ≡ some f → Deep t m k → k + 1 < levels
room {t} s off m f k used way =
    let own : t.owner f ≡ some m = s.start_owned m f used in
    let other : suc k ≡ levels → ⊥ = λ e. not_lowest t off f m (s.node_range f m own) own (level_deep s own way ∙ e) in
    omega (arith, deep_small s used way)

-- ---- a value, and a transition, that does not move

bind_same : (o : Option ℕ) → (o >>= some) ≡ o
bind_same none = refl
bind_same (some n) = refl

unmoved : (o : Option Transition) → (o >>= moved_transition some) ≡ o
unmoved none = refl
unmoved (some a) = refl

-- ---- the merged tree

module _ {t u : Tree} (st : Sound t) (su : Sound u) (high : any_lowest t ≡ false) (high_u : any_lowest u ≡ false) {w : Tree} (p : Parts t u w) where
  -- the new numbers have their ranks
  root_at : HasRank machines (unused_machine t) (machine_count u) p.root
  root_at = ranked_some machines (unused_machine t) (machine_count u) p.root_rank

  first_at : HasRank nodes (unused_node t) (node_count u) p.first
  first_at = ranked_some nodes (unused_node t) (node_count u) p.first_rank

  second_at : HasRank nodes (unused_node t) (node_count u + 1) p.second
  second_at = ranked_some nodes (unused_node t) (node_count u + 1) p.second_rank

  -- they are not in use in the first tree
  root_new : t.start p.root ≡ none
  root_new = (free_parts machines p.root (t.start p.root) root_at.passes).1

  first_new : t.owner p.first ≡ none
  first_new = (free_parts nodes p.first (t.owner p.first) first_at.passes).1

  second_new : t.owner p.second ≡ none
  second_new = (free_parts nodes p.second (t.owner p.second) second_at.passes).1

  -- the two nodes are two
  two_nodes : p.second ≡ p.first → ⊥
  two_nodes same = omega (arith, first_at.rank, second_at.rank, ap (λ i. count_below i (unused_node t)) same)

  -- ---- the first tree below the new root

  -- crown is taken, then add, and so the tree is sound
  crown_taken : TakenCrown t p.root p.first
  crown_taken =
      record {
        machine_range = root_at.range;
        node_range = first_at.range;
        machine_new = root_new;
        node_new = first_new;
        none_lowest = not_lowest t high;
      }

  add_taken : TakenAdd (edited t (crown p.root p.first)) p.root p.second
  unfolding edited
  add_taken =
      record {
        machine_range = root_at.range;
        node_range = second_at.range;
        machine_used = (p.first, put_same t.start p.root (some p.first));
        node_new = put_other t.owner p.first (some p.root) p.second two_nodes ∙ second_new;
      }

  roof_sound : Sound (crowned_first p)
  roof_sound = add_sound (crown_sound st crown_taken) add_taken

  -- no number of the first tree is new, so its fields are there as they were
  module _ {n m : ℕ} (own : t.owner n ≡ some m) where
    not_first : n ≡ p.first → ⊥
    not_first same = none_some first_new (ap t.owner (sym same) ∙ own)

    not_second : n ≡ p.second → ⊥
    not_second same = none_some second_new (ap t.owner (sym same) ∙ own)

    roof_owner : (crowned_first p).owner n ≡ t.owner n
    unfolding edited
    roof_owner =
        put_other (put t.owner p.first (some p.root)) p.second (some p.root) n not_second
        ∙ put_other t.owner p.first (some p.root) n not_first

    roof_below : (crowned_first p).below n ≡ t.below n
    unfolding edited
    roof_below = put_other t.below p.first (some t.root) n not_first

  module _ {m f : ℕ} (used : t.start m ≡ some f) where
    not_root : m ≡ p.root → ⊥
    not_root same = none_some root_new (ap t.start (sym same) ∙ used)

    roof_start : (crowned_first p).start m ≡ t.start m
    unfolding edited
    roof_start = put_other t.start p.root (some p.first) m not_root

  -- the new root's start is one of its nodes
  first_owned : (crowned_first p).owner p.first ≡ some p.root
  unfolding edited
  first_owned =
      put_other (put t.owner p.first (some p.root)) p.second (some p.root) p.first (λ same. two_nodes (sym same))
      ∙ put_same t.owner p.first (some p.root)

  -- ---- the second tree at its new numbers

  -- its machines and nodes move, and so it is sound there
  machines_moved : Renumbers (machine_moves t u) (used_machine u) (unused_machine t)
  machines_moved = machines_move t su (omega (arith, rank_under machines (unused_machine t) (machine_count u) p.root_rank))

  nodes_moved : Renumbers (node_moves t u) (used_node u) (unused_node t)
  nodes_moved = nodes_move t su (omega (arith, rank_under nodes (unused_node t) (node_count u) p.first_rank))

  shift_sound : Sound (second_tree p)
  shift_sound =
      renumbered_sound su machines_moved nodes_moved p.root_moves (λ m e. (free_parts machines m (t.start m) e).0)
      (λ n e. (free_parts nodes n (t.owner n) e).0)

  -- nothing moves to the new numbers
  not_to_root : (machine_moves t u).from p.root ≡ none
  not_to_root = beyond machines (used_machine u) (unused_machine t) p.root (omega (arith, root_at.rank))

  not_to_first : (node_moves t u).from p.first ≡ none
  not_to_first = beyond nodes (used_node u) (unused_node t) p.first (omega (arith, first_at.rank))

  not_to_second : (node_moves t u).from p.second ≡ none
  not_to_second = beyond nodes (used_node u) (unused_node t) p.second (omega (arith, second_at.rank))

  -- ---- one below the other

  -- the second tree can be hung below the new root's other node: no number is in use in both
  hangs : Hangs (crowned_first p) (second_tree p) p.second
  unfolding edited renumbered
  hangs =
      record {
        first_sound = roof_sound;
        second_sound = shift_sound;
        nodes_apart = λ n i j old new.
            let came = (carried (node_moves t u).from u.owner (machine_moves t u).to n new).came in
            ⊎_elim (λ here. none_some not_to_second (ap (node_moves t u).from (sym here.0) ∙ came))
            (λ below.
            ⊎_elim (λ here. none_some not_to_first (ap (node_moves t u).from (sym here.0) ∙ came))
            (λ own. none_some (free_parts nodes n (t.owner n) (nodes_moved.there (nodes_moved.again came)).1).1 own)
            (put_some t.owner p.first p.root n below))
            (put_some (put t.owner p.first (some p.root)) p.second p.root n old);
        machines_apart = λ m f g old new.
            let came = (carried (machine_moves t u).from u.start (node_moves t u).to m new).came in
            ⊎_elim (λ here. none_some not_to_root (ap (machine_moves t u).from (sym here.0) ∙ came))
            (λ used. none_some (free_parts machines m (t.start m) (machines_moved.there (machines_moved.again came)).1).1 used)
            (put_some t.start p.root p.first m old);
        node = put_same (put t.owner p.first (some p.root)) p.second (some p.root);
        plain = put_other t.below p.first (some t.root) p.second two_nodes ∙ unused_below t st p.second second_new;
      }

  -- no machine of the second comes too deep
  shift_room : (m f k : ℕ) → (second_tree p).start m ≡ some f → Deep (second_tree p) m k → k + 1 < levels
  unfolding renumbered
  shift_room m f k used way =
      let c = carried (machine_moves t u).from u.start (node_moves t u).to m used in
      let (j, small, was) = deep su c.had in
      let there = deep_moved su machines_moved nodes_moved p.root_moves was m (machines_moved.again c.came) in
      let fits = room su high_u c.number c.value j c.had was in
      omega (arith, deep_unique shift_sound way there)

  -- the whole is sound
  whole_sound : Sound (whole p)
  whole_sound = hung_sound hangs shift_room

  -- ---- the first tree stands in it

  -- its fields are there as they were, but for what holds its root
  module _ {n m : ℕ} (own : t.owner n ≡ some m) where
    whole_owner : (whole p).owner n ≡ t.owner n
    whole_owner = first_owner hangs (roof_owner own ∙ own) ∙ roof_owner own

    whole_below : (whole p).below n ≡ t.below n
    whole_below = first_below hangs (roof_owner own ∙ own) (not_second own) ∙ roof_below own

    whole_transition : (x : ℕ) → (whole p).transition n x ≡ t.transition n x
    unfolding edited
    whole_transition x = first_transition hangs (roof_owner own ∙ own) x

    whole_hold : (whole p).hold n ≡ t.hold n
    unfolding edited
    whole_hold = first_hold hangs (roof_owner own ∙ own)

  module _ {m f : ℕ} (used : t.start m ≡ some f) where
    whole_start : (whole p).start m ≡ t.start m
    whole_start = first_start hangs (roof_start used ∙ used) ∙ roof_start used

    whole_holder : (whole p).holder m ≡ put t.holder t.root (some p.first) m
    unfolding edited
    whole_holder = first_holder hangs (roof_start used ∙ used)

    whole_leave : (whole p).leave m ≡ t.leave m
    unfolding edited
    whole_leave = first_leave hangs (roof_start used ∙ used)

  first_stands : Stands t (whole p) some some
  unfolding edited beside
  first_stands =
      record {
        node_to = λ {n} own. refl;
        machine_to = λ {m} used. refl;
        one = λ {n} e f. some_same refl (e ∙ sym f);
        owner = λ {n} own. whole_owner own ∙ sym (bind_same (t.owner n));
        below = λ {n} own. whole_below own ∙ sym (bind_same (t.below n));
        transition = λ {n} own x. whole_transition own x ∙ sym (unmoved (t.transition n x));
        hold = λ {n} own. whole_hold own;
        start = λ {m} used. whole_start used ∙ sym (bind_same (t.start m));
        holder = λ {m} used other.
            whole_holder used ∙ put_other t.holder t.root (some p.first) m other ∙ sym (bind_same (t.holder m));
        leave = λ {m} used. whole_leave used;
        apart = λ {m} used. not_root used;
        top = p.first;
        held = whole_holder st.root_used.1 ∙ put_same t.holder t.root (some p.first);
        top_owner = first_owner hangs first_owned ∙ first_owned;
        top_free = λ x. first_transition hangs first_owned x ∙ unused_transition t st p.first x first_new;
      }

  -- ---- and the second, at its new numbers

  -- where its nodes and machines move
  node_to : {n m : ℕ} → u.owner n ≡ some m → (node_moves t u).to n ≡ some (goes_to (node_moves t u).to n)
  node_to {n} own = goes_there (node_moves t u).to n (nodes_moved.moves n (rw own)).1

  machine_to : {m f : ℕ} → u.start m ≡ some f → (machine_moves t u).to m ≡ some (goes_to (machine_moves t u).to m)
  machine_to {m} used = goes_there (machine_moves t u).to m (machines_moved.moves m (rw used)).1

  -- what the second tree at its new numbers says there
  module _ {n m : ℕ} (own : u.owner n ≡ some m) where
    shift_owner : (second_tree p).owner (goes_to (node_moves t u).to n) ≡ (u.owner n >>= (machine_moves t u).to)
    shift_owner = owner_at nodes_moved (machine_moves t u) p.top u (node_to own)

    shift_owned : (second_tree p).owner (goes_to (node_moves t u).to n) ≡ some (goes_to (machine_moves t u).to m)
    shift_owned = shift_owner ∙ rw own (machine_to (su.owner_used n m own).1)

  module _ {m f : ℕ} (used : u.start m ≡ some f) where
    shift_start : (second_tree p).start (goes_to (machine_moves t u).to m) ≡ (u.start m >>= (node_moves t u).to)
    shift_start = start_at machines_moved (node_moves t u) p.top u (machine_to used)

    shift_used : (second_tree p).start (goes_to (machine_moves t u).to m) ≡ some (goes_to (node_moves t u).to f)
    shift_used = shift_start ∙ rw used (node_to (su.start_owned m f used))

    -- only the root moves to the number of the root
    shift_root : goes_to (machine_moves t u).to m ≡ p.top → m ≡ u.root
    shift_root same = some_same (machines_moved.back (machine_to used ∙ ap {B = Option ℕ} some same)) (machines_moved.back p.root_moves)

  second_stands : Stands u (whole p) (node_moves t u).to (machine_moves t u).to
  unfolding edited beside renumbered
  second_stands =
      record {
        node_to = λ {n} own. node_to own;
        machine_to = λ {m} used. machine_to used;
        one = λ {n} e f. some_same (nodes_moved.back e) (nodes_moved.back f);
        owner = λ {n} own. second_owner hangs (shift_owned own) ∙ shift_owner own;
        below = λ {n} own. second_below hangs (shift_owned own) ∙ below_at nodes_moved (machine_moves t u) p.top u (node_to own);
        transition = λ {n} own x.
            second_transition hangs (shift_owned own) x ∙ transition_at nodes_moved (machine_moves t u) p.top u (node_to own) x;
        hold = λ {n} own. second_hold hangs (shift_owned own) ∙ hold_at_lem nodes_moved (machine_moves t u) p.top u (node_to own);
        start = λ {m} used. second_start hangs (shift_used used) ∙ shift_start used;
        holder = λ {m} used other.
            second_holder hangs (shift_used used) (λ same. other (shift_root used same))
            ∙ holder_at machines_moved (node_moves t u) p.top u (machine_to used);
        leave = λ {m} used. second_leave hangs (shift_used used) ∙ leave_at_lem machines_moved (node_moves t u) p.top u (machine_to used);
        apart = λ {m} used same. none_some not_to_root (ap (machine_moves t u).from (sym same) ∙ machines_moved.back (machine_to used));
        top = p.second;
        held = ap (whole p).holder (some_same (machine_to su.root_used.1) p.root_moves) ∙ hung_holder hangs;
        top_owner = first_owner hangs hangs.node ∙ hangs.node;
        top_free = λ x. first_transition hangs hangs.node x ∙ unused_transition t st p.second x second_new;
      }

-- ---- what a merge keeps

module _ {t u : Tree} (st : Sound t) (su : Sound u) (high : (any_lowest t || any_lowest u) ≡ false) {w : Tree} (e : merged t u ≡ some w) where
  -- what holds of the tree put together holds of the merged tree
  of_merged : (P : Tree → Type 0) → ((p : Parts t u w) → P (whole p)) → P w
  unfolding under_new_root renumbered
  of_merged P holds = let p = merged_parts e in subst P p.tree (holds p)

  -- the merged tree is sound
  pub merged_sound : Sound w
  merged_sound = let (off, off_u) = neither {a = any_lowest t} high in of_merged Sound (whole_sound st su off off_u)

  -- costs between states of the first tree are the old ones
  pub first_costs : SameCosts t w some
  first_costs =
      let (off, off_u) = neither {a = any_lowest t} high in
      of_merged (λ v. SameCosts t v some) (λ p. stands_same st (first_stands st su off off_u p) (whole_sound st su off off_u p))

  -- and so are those between states of the second
  pub second_costs : SameCosts u w (node_moves t u).to
  second_costs =
      let (off, off_u) = neither {a = any_lowest t} high in
      of_merged (λ v. SameCosts u v (node_moves t u).to)
      (λ p. stands_same su (second_stands st su off off_u p) (whole_sound st su off off_u p))
