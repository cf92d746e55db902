-- Each edit, from its marks and its stores: the words that it leaves. Assumes nothing.
use mathlib.Core.Path.{◌≡◌, sym, ◌∙◌, ap}
use mathlib.Core.Bool.{true}
use mathlib.Core.Option.{some}
use mathlib.Core.List.{List}
use Prim.Native.Nat.{ℕ, ◌+◌, ◌*◌, ◌<◌}
use native.Mathlib.Omega.{arith}
use borrow.Author.Tests.{ne_eqb}
use Rattle.definitions.specs.Limits.{machines, nodes, costs, absent, blank}
use Rattle.definitions.specs.Tree.{Tree, Transition, with_root, with_owner, with_below, with_node_hold, with_start_of, with_holder, with_leave, UsedMachine, UsedNode, Sound}
use Rattle.definitions.specs.Book.{word, transition_word, number, transition_of, tree_of}
use Rattle.definitions.specs.Sheet.{rows_of}
use Rattle.definitions.specs.Stream.{Edit}
use Rattle.definitions.specs.Edit.{edited, with_transition, with_start}
use Rattle.definitions.proofs.Words.{transition_word_lem}
use Rattle.definitions.proofs.Commands.{TakenAdd, TakenRefine, TakenArrow, TakenClear, TakenStart, TakenCrown, TakenHold, TakenLeave}
use Rattle.definitions.proofs.Commands.{taken_add, taken_refine, taken_arrow, taken_clear, taken_start, taken_crown, taken_hold, taken_leave}
use Rattle.book.specs.Fields.{Holds}
use Rattle.book.proofs.Stores.{holds_then}
use Rattle.sheet.specs.Fields.{Leaves, with_mark}
use Rattle.sheet.proofs.Stores.{leaves_then}
use Rattle.stepping.proofs.Laws.{owner_told}
use Rattle.marking.specs.Stale.{LeavesStaleOver}
use Rattle.sheet.proofs.Stores.{leaves_same}
use Rattle.editing.specs.Edited.{Ready, Edited}
use Rattle.editing.proofs.Left.{holds_same, left_edited}
use Rattle.editing.proofs.Rows.{add_rows, refine_rows, arrow_rows, clear_rows, hold_rows, leave_rows, start_rows, crown_rows}

-- the word of a machine or a node says its number
number_of : (k : ℕ) → k < nodes → number k ≡ some k
unfolding number
number_of k small = rw (ne_eqb k absent (omega arith))

-- the start node of a machine in use, by its word: it is in use
module _ {t : Tree} (sound : Sound t) (m : ℕ) {f : ℕ} (used : UsedMachine t m) (told : f ≡ word (t.start m)) where
  start_at : t.start m ≡ some f
  unfolding word
  start_at = let (g, st) = used in st ∙ ap some (sym (told ∙ ap word st))

  pub start_used : UsedNode t f
  start_used = (m, sound.start_owned m f start_at)

-- ---- add

module _ {b s : List ℕ} {m n : ℕ} (ready : Ready b s (Edit.add m n)) where
  -- what it is done on: a machine in use and a new node
  pub add_taken : TakenAdd (tree_of b) m n
  add_taken = taken_add (tree_of b) m n ready.taken

  module _ {f : ℕ} (told : f ≡ word ((tree_of b).start m)) where
    -- what the marks and the stores leave is what the edit leaves
    pub add_done : {b' s' : List ℕ} → LeavesStaleOver (tree_of b) f s s' → Holds b' (with_owner (tree_of b) n (number m))
        → Edited b s (Edit.add m n) b' s'
    unfolding edited
    add_done left held =
        left_edited ready
        (holds_same held (ap (with_owner (tree_of b) n) (number_of m (omega (arith, add_taken.machine_range)))))
        (leaves_same left (add_rows ready.formed.sound m n f add_taken (start_at ready.formed.sound m add_taken.machine_used told) (rows_of s)))

-- ---- refine

module _ {b s : List ℕ} {n m f : ℕ} (ready : Ready b s (Edit.refine n m f)) where
  -- what it is done on: a plain node in use, a new machine and its new first node
  pub refine_taken : TakenRefine (tree_of b) n m f
  refine_taken = taken_refine (tree_of b) n m f ready.taken

  -- the four stores make the edited tree
  refine_tree : (t : Tree) → with_holder (with_start_of (with_below (with_owner t f (number m)) n (number m)) m (number f)) m (number n)
      ≡ edited t (Edit.refine n m f)
  unfolding edited
  refine_tree t =
      let is_m : number m ≡ some m = number_of m (omega (arith, refine_taken.machine_range)) in
      let is_n : number n ≡ some n = number_of n refine_taken.node_range in
      let is_f : number f ≡ some f = number_of f refine_taken.first_range in
      λ i. with_holder (with_start_of (with_below (with_owner t f (is_m i)) n (is_m i)) m (is_f i)) m (is_n i)

  -- what the marks and the stores leave is what the edit leaves
  pub refine_done : {s₁ s' b₁ b₂ b₃ b' : List ℕ} → LeavesStaleOver (tree_of b) n s s₁ → Leaves s₁ s' (with_mark (rows_of s₁) m true)
      → Holds b₁ (with_owner (tree_of b) f (number m)) → Holds b₂ (with_below (tree_of b₁) n (number m))
      → Holds b₃ (with_start_of (tree_of b₂) m (number f)) → Holds b' (with_holder (tree_of b₃) m (number n))
      → Edited b s (Edit.refine n m f) b' s'
  refine_done over_n new owner below start holder =
      left_edited ready
      (holds_same
      (holds_then (λ t. with_holder t m (number n))
      (holds_then (λ t. with_start_of t m (number f)) (holds_then (λ t. with_below t n (number m)) owner below) start) holder)
      (refine_tree (tree_of b)))
      (leaves_same (leaves_then (λ r. with_mark r m true) over_n new) (refine_rows ready.formed.sound n m f refine_taken (rows_of s)))

-- ---- arrow

module _ {b s : List ℕ} {n x v c : ℕ} (ready : Ready b s (Edit.arrow n x v c)) where
  -- what it is done on: two nodes of one machine, and a command
  pub arrow_taken : TakenArrow (tree_of b) n x v
  arrow_taken = taken_arrow (tree_of b) n x v c ready.taken

  -- the node is in use
  pub arrow_used : UsedNode (tree_of b) n
  arrow_used = let (p, own, same) = arrow_taken.one_machine in (p, own)

  -- the word of the transition says its target and its cost
  arrow_word : c < costs → transition_of (v * 65536 + c) ≡ some (record { target = v; cost = c })
  unfolding transition_word
  arrow_word small =
      transition_word_lem (some (record { target = v; cost = c }))
      (λ a e.
      let same : ◌≡◌ {A = Transition} (record { target = v; cost = c }) a = cc in
      omega (arith, ap (λ (b : Transition). b.target) same, ap (λ (b : Transition). b.cost) same, arrow_taken.target_range))

  -- what the marks and the stores leave is what the edit leaves
  pub arrow_done : c < costs → {b' s' : List ℕ} → LeavesStaleOver (tree_of b) n s s'
      → Holds b' (with_transition (tree_of b) n x (transition_of (v * 65536 + c))) → Edited b s (Edit.arrow n x v c) b' s'
  unfolding edited
  arrow_done small left held =
      left_edited ready (holds_same held (ap (with_transition (tree_of b) n x) (arrow_word small)))
      (leaves_same left (arrow_rows (tree_of b) n x v c (rows_of s)))

-- ---- clear

module _ {b s : List ℕ} {n x : ℕ} (ready : Ready b s (Edit.clear n x)) where
  -- what it is done on: a node in use and a command
  pub clear_taken : TakenClear (tree_of b) n x
  clear_taken = taken_clear (tree_of b) n x ready.taken

  -- what the marks and the stores leave is what the edit leaves
  pub clear_done : {b' s' : List ℕ} → LeavesStaleOver (tree_of b) n s s' → Holds b' (with_transition (tree_of b) n x (transition_of blank))
      → Edited b s (Edit.clear n x) b' s'
  unfolding edited transition_of
  clear_done left held =
      left_edited ready held (leaves_same left (clear_rows (tree_of b) n x (rows_of s)))

-- ---- hold

module _ {b s : List ℕ} {n h : ℕ} (ready : Ready b s (Edit.hold n h)) where
  -- what it is done on: a node in use
  pub hold_taken : TakenHold (tree_of b) n h
  hold_taken = taken_hold (tree_of b) n h ready.taken

  -- what the marks and the store leave is what the edit leaves
  pub hold_done : {b' s' : List ℕ} → LeavesStaleOver (tree_of b) n s s' → Holds b' (with_node_hold (tree_of b) n h) → Edited b s (Edit.hold n h) b' s'
  unfolding edited
  hold_done left held = left_edited ready held (leaves_same left (hold_rows (tree_of b) n h (rows_of s)))

-- ---- leave

module _ {b s : List ℕ} {m c : ℕ} (ready : Ready b s (Edit.leave m c)) where
  -- what it is done on: a machine in use that is not the root
  pub leave_taken : TakenLeave (tree_of b) m
  leave_taken = taken_leave (tree_of b) m c ready.taken

  -- what the marks and the store leave is what the edit leaves
  pub leave_done : {f : ℕ} {b' s' : List ℕ} → f ≡ word ((tree_of b).start m) → LeavesStaleOver (tree_of b) f s s'
      → Holds b' (with_leave (tree_of b) m c) → Edited b s (Edit.leave m c) b' s'
  unfolding edited
  leave_done {f} told left held =
      left_edited ready held (leaves_same left (leave_rows (tree_of b) m c f (start_at ready.formed.sound m leave_taken.machine_used told) (rows_of s)))

-- ---- start

module _ {b s : List ℕ} {n : ℕ} (ready : Ready b s (Edit.start n)) where
  -- what it is done on: a node in use
  pub start_taken : TakenStart (tree_of b) n
  start_taken = taken_start (tree_of b) n ready.taken

  -- its machine, by the owner's word
  pub start_owner : {o : ℕ} → o ≡ word ((tree_of b).owner n) → ((tree_of b).owner n ≡ some o) × (o < machines)
  start_owner told = owner_told b ready.formed n start_taken.node_used told

  -- what the marks and the stores leave is what the edit leaves
  pub start_done : {o : ℕ} → o ≡ word ((tree_of b).owner n) → {b' s' : List ℕ} → LeavesStaleOver (tree_of b) n s s'
      → Holds b' (with_start_of (tree_of b) o (number n)) → Edited b s (Edit.start n) b' s'
  unfolding edited with_start
  start_done {o} told left held =
      let own : (tree_of b).owner n ≡ some o = (start_owner told).0 in
      left_edited ready
      (holds_same held (ap (with_start_of (tree_of b) o) (number_of n start_taken.node_range) ∙ rw own))
      (leaves_same left (start_rows ready.formed.sound n o own (rows_of s)))

-- ---- crown

module _ {b s : List ℕ} {m n : ℕ} (ready : Ready b s (Edit.crown m n)) where
  -- what it is done on: a new machine and a new node
  pub crown_taken : TakenCrown (tree_of b) m n
  crown_taken = taken_crown (tree_of b) m n ready.taken

  -- the old root is in range
  pub root_range : {o : ℕ} → o ≡ (tree_of b).root → o < machines
  root_range e =
      let (f, used) = ready.formed.sound.root_used in
      rw e (ready.formed.sound.machine_range (tree_of b).root f used)

  -- the five stores make the edited tree
  crown_tree : (t : Tree) {o : ℕ} → o ≡ t.root → o < machines
      → with_root (with_holder (with_start_of (with_below (with_owner t n (number m)) n (number o)) m (number n)) o (number n)) m
      ≡ edited t (Edit.crown m n)
  unfolding edited
  crown_tree t {o} e small =
      let is_m : number m ≡ some m = number_of m (omega (arith, crown_taken.machine_range)) in
      let is_n : number n ≡ some n = number_of n crown_taken.node_range in
      let is_o : number o ≡ some t.root = number_of o (omega arith) ∙ ap some e in
      λ i. with_root (with_holder (with_start_of (with_below (with_owner t n (is_m i)) n (is_o i)) m (is_n i)) (e i) (is_n i)) m

  -- what the marks and the stores leave is what the edit leaves
  pub crown_done : {s' : List ℕ} → Leaves s s' (with_mark (rows_of s) m true) → {o : ℕ} → o ≡ (tree_of b).root → {b₁ b₂ b₃ b₄ b' : List ℕ}
      → Holds b₁ (with_owner (tree_of b) n (number m)) → Holds b₂ (with_below (tree_of b₁) n (number o))
      → Holds b₃ (with_start_of (tree_of b₂) m (number n)) → Holds b₄ (with_holder (tree_of b₃) o (number n))
      → Holds b' (with_root (tree_of b₄) m) → Edited b s (Edit.crown m n) b' s'
  crown_done new {o} e owner below start holder root =
      left_edited ready
      (holds_same
      (holds_then (λ t. with_root t m)
      (holds_then (λ t. with_holder t o (number n))
      (holds_then (λ t. with_start_of t m (number n)) (holds_then (λ t. with_below t n (number o)) owner below) start) holder) root)
      (crown_tree (tree_of b) e (root_range e)))
      (leaves_same new (crown_rows ready.formed.sound m n crown_taken s ready.filled.rows.blanks))
