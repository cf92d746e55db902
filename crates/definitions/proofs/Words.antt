-- The word layouts of Book and Sheet: how long they are, that they give back each word that they are made of, that the words fix the
-- list, and that a tree and rows are read back out of their words.
-- Assumes nothing.
use mathlib.Core.Path.{◌≡◌, refl, sym, ap, ap₂, ◌∙◌}
use mathlib.Core.Logic.{◌⊎◌, inl, inr}
use mathlib.Core.Bool.{Bool, true, false, cond}
use mathlib.Core.Option.{Option, none, some}
use mathlib.Core.List.{[], List, ◌∷◌, ◌++◌, append-nil}
use Prim.Native.Nat.{ℕ, zero, suc, ◌+◌, ◌*◌, ◌-◌, ◌/◌, ◌%◌, ◌≤◌, ◌<◌}
use native.Mathlib.Nat.{zero-add, lt_of_not-le, div-add-mod'}
use native.Mathlib.Decide.{dec_le}
use native.Mathlib.Omega.{arith}
use lib.Dec.{eqb, ltb}
use lib.ListN.{length, get_or, length-append, get_or-append}
use lib.Seq.{ext_get_or, get_or-append-add}
use borrow.Author.Tests.{ltb-true, ltb-false, lt-ltb, le-ltb, eqb-true, eqb-false, ne_eqb}
use Rattle.definitions.specs.Limits.{machines, nodes, commands, costs, book_length, sheet_length, absent, blank}
use Rattle.definitions.specs.Tree.{Tree, Transition, with_root, with_nodes, with_machines, on_hold, Sound}
use Rattle.definitions.specs.Book.{machine_fields, node_fields, machine_base, node_base, hold_base, leave_base, machine_words, node_words, hold_words, leave_words, encode}
use Rattle.definitions.specs.Book.{word, transition_word, machine_field, node_field, number, transition_of, under}
use Rattle.definitions.specs.Book.{machine_word, node_word, hold_word, leave_word, tree_of, WellFormed}
use Rattle.definitions.specs.Sheet.{Rows, machine_row_length, node_row_length, node_row_base, machine_rows, node_rows, encode_rows}
use Rattle.definitions.specs.Sheet.{cost_word, stale_word, machine_row, node_row, cost_of, machine_row_word, node_row_word, rows_of}
use Rattle.definitions.proofs.Lists.{tabulate_length, tabulate_at, table_length, section_at, section_same, no_value}
use Rattle.definitions.proofs.Options.{none_some}

-- ---- how long the layouts are

-- a book has 5,057 words
pub encode_length : (t : Tree) → length (encode t) ≡ book_length
unfolding encode machine_words node_words hold_words leave_words
encode_length t =
    ap suc
    (length-append (machine_words t) (node_words t ++ (hold_words t ++ leave_words t))
    ∙ ap₂ ◌+◌ (table_length machine_fields machines (machine_field t))
    (length-append (node_words t) (hold_words t ++ leave_words t)
    ∙ ap₂ ◌+◌ (table_length node_fields nodes (node_field t))
    (length-append (hold_words t) (leave_words t) ∙ ap₂ ◌+◌ (tabulate_length nodes t.hold) (tabulate_length machines t.leave))))

-- a sheet has 2,880 words
pub encode_rows_length : (r : Rows) → length (encode_rows r) ≡ sheet_length
unfolding encode_rows machine_rows node_rows
encode_rows_length r =
    length-append (machine_rows r) (node_rows r)
    ∙ ap₂ ◌+◌ (table_length machine_row_length machines (machine_row r)) (table_length node_row_length nodes (node_row r))

-- ---- the layouts give each word back

-- the first word of a book is the root
pub root_word : (t : Tree) → get_or (encode t) 0 0 ≡ t.root
unfolding encode
root_word t = refl

-- the words of a machine are its fields
pub machine_word_lem : (t : Tree) (m k : ℕ) → m < machines → k < machine_fields → machine_word (encode t) m k ≡ machine_field t m k
unfolding encode machine_words machine_word
machine_word_lem t m k hm hk = section_at machine_fields machines (machine_field t) (t.root ∷ []) (node_words t ++ (hold_words t ++ leave_words t)) machine_base m k 0 refl hm hk

-- the words of a node are its fields
pub node_word_lem : (t : Tree) (n k : ℕ) → n < nodes → k < node_fields → node_word (encode t) n k ≡ node_field t n k
unfolding encode machine_words node_words node_word
node_word_lem t n k hn hk =
    section_at node_fields nodes (node_field t) (t.root ∷ machine_words t) (hold_words t ++ leave_words t) node_base n k 0
    (ap suc (table_length machine_fields machines (machine_field t))) hn hk

-- what stands behind the nodes' words
behind_nodes : (t : Tree) (i : ℕ) → get_or (encode t) (hold_base + i) 0 ≡ get_or (hold_words t ++ leave_words t) i 0
unfolding encode machine_words node_words
behind_nodes t i =
    let head : List ℕ = t.root ∷ machine_words t in
    let at : hold_base + i ≡ length head + (length (node_words t) + i) =
    omega (arith, table_length machine_fields machines (machine_field t), table_length node_fields nodes (node_field t)) in
    rw at
    (get_or-append-add head (node_words t ++ (hold_words t ++ leave_words t)) (length (node_words t) + i) 0
    ∙ get_or-append-add (node_words t) (hold_words t ++ leave_words t) i 0)

-- the holds
pub hold_word_lem : (t : Tree) (n : ℕ) → n < nodes → hold_word (encode t) n ≡ t.hold n
unfolding hold_words hold_word
hold_word_lem t n hn =
    behind_nodes t n
    ∙ get_or-append (hold_words t) (leave_words t) 0 n (omega (arith, tabulate_length nodes t.hold))
    ∙ tabulate_at nodes t.hold n 0 hn

-- and last the leaving costs
pub leave_word_lem : (t : Tree) (m : ℕ) → m < machines → leave_word (encode t) m ≡ t.leave m
unfolding hold_words leave_words leave_word
leave_word_lem t m hm =
    let at : leave_base + m ≡ hold_base + (length (hold_words t) + m) = omega (arith, tabulate_length nodes t.hold) in
    rw at (behind_nodes t (length (hold_words t) + m) ∙ get_or-append-add (hold_words t) (leave_words t) m 0 ∙ tabulate_at machines t.leave m 0 hm)

-- the words of a machine's row are what the row says
pub machine_row_word_lem : (r : Rows) (m k : ℕ) → m < machines → k < machine_row_length → machine_row_word (encode_rows r) m k ≡ machine_row r m k
unfolding encode_rows machine_rows machine_row_word
machine_row_word_lem r m k hm hk =
    rw zero-add at (section_at machine_row_length machines (machine_row r) [] (node_rows r) 0 m k 0 refl hm hk)

-- the words of a node's row are what the row says
pub node_row_word_lem : (r : Rows) (n k : ℕ) → n < nodes → k < node_row_length → node_row_word (encode_rows r) n k ≡ node_row r n k
unfolding encode_rows machine_rows node_rows node_row_word
node_row_word_lem r n k hn hk =
    rw append-nil at
    (section_at node_row_length nodes (node_row r) (machine_rows r) [] node_row_base n k 0
    (table_length machine_row_length machines (machine_row r)) hn hk)

-- ---- the words fix the list

-- a book is fixed by its root word, its machines' words, its nodes' words, its holds and its leaving costs
pub book_words : (v w : List ℕ) → length v ≡ book_length → length w ≡ book_length → get_or v 0 0 ≡ get_or w 0 0
    → ((m k : ℕ) → m < machines → k < machine_fields → machine_word v m k ≡ machine_word w m k)
    → ((n k : ℕ) → n < nodes → k < node_fields → node_word v n k ≡ node_word w n k)
    → ((n : ℕ) → n < nodes → hold_word v n ≡ hold_word w n)
    → ((m : ℕ) → m < machines → leave_word v m ≡ leave_word w m)
    → v ≡ w
unfolding machine_word node_word hold_word leave_word
book_words v w lv lw root machine node hold leave = ext_get_or 0 v w (lv ∙ sym lw) at
  where
    at : (j : ℕ) → j < length v → get_or v j 0 ≡ get_or w j 0
    at zero h = root
    at (suc j) h =
        elim (dec_le leave_base (suc j)) [
          | yes last ↦
              let here : leave_base + (suc j - leave_base) ≡ suc j = omega arith in
              rw here at (leave (suc j - leave_base) (omega arith))
          | no earlier ↦ elim (dec_le hold_base (suc j)) [
            | yes behind ↦
                let here : hold_base + (suc j - hold_base) ≡ suc j = omega arith in
                rw here at (hold (suc j - hold_base) (omega (arith, lt_of_not-le earlier)))
            | no inside ↦ elim (dec_le node_base (suc j)) [
              | yes past ↦ section_same node_fields nodes node_base v w 0 node (suc j) past (omega (arith, lt_of_not-le inside))
              | no before ↦
                  section_same machine_fields machines machine_base v w 0 machine (suc j) (omega arith) (omega (arith, lt_of_not-le before))
            ]
          ]
        ]

-- a sheet is fixed by its machines' rows and its nodes' rows
pub sheet_words : (v w : List ℕ) → length v ≡ sheet_length → length w ≡ sheet_length
    → ((m k : ℕ) → m < machines → k < machine_row_length → machine_row_word v m k ≡ machine_row_word w m k)
    → ((n k : ℕ) → n < nodes → k < node_row_length → node_row_word v n k ≡ node_row_word w n k)
    → v ≡ w
unfolding machine_row_word node_row_word
sheet_words v w lv lw machine node = ext_get_or 0 v w (lv ∙ sym lw) at
  where
    first : (m k : ℕ) → m < machines → k < machine_row_length
        → get_or v (0 + m * machine_row_length + k) 0 ≡ get_or w (0 + m * machine_row_length + k) 0
    first m k hm hk = rw zero-add (machine m k hm hk)

    at : (j : ℕ) → j < length v → get_or v j 0 ≡ get_or w j 0
    at j h =
        elim (dec_le node_row_base j) [
          | yes past ↦ section_same node_row_length nodes node_row_base v w 0 node j past (omega arith)
          | no before ↦
              section_same machine_row_length machines 0 v w 0 first j (omega arith) (omega (arith, lt_of_not-le before))
        ]

-- so a list that has a tree's length and each of its words is the tree's
pub encode_is : (ws : List ℕ) (t : Tree) → length ws ≡ book_length → get_or ws 0 0 ≡ t.root
    → ((m k : ℕ) → m < machines → k < machine_fields → machine_word ws m k ≡ machine_field t m k)
    → ((n k : ℕ) → n < nodes → k < node_fields → node_word ws n k ≡ node_field t n k)
    → ((n : ℕ) → n < nodes → hold_word ws n ≡ t.hold n)
    → ((m : ℕ) → m < machines → leave_word ws m ≡ t.leave m)
    → ws ≡ encode t
encode_is ws t l root machine node hold leave =
    book_words ws (encode t) l (encode_length t) (root ∙ sym (root_word t))
    (λ m k hm hk. machine m k hm hk ∙ sym (machine_word_lem t m k hm hk))
    (λ n k hn hk. node n k hn hk ∙ sym (node_word_lem t n k hn hk))
    (λ n hn. hold n hn ∙ sym (hold_word_lem t n hn))
    (λ m hm. leave m hm ∙ sym (leave_word_lem t m hm))

-- and a list that has the length of rows and each of their words is theirs
pub encode_rows_is : (ws : List ℕ) (r : Rows) → length ws ≡ sheet_length
    → ((m k : ℕ) → m < machines → k < machine_row_length → machine_row_word ws m k ≡ machine_row r m k)
    → ((n k : ℕ) → n < nodes → k < node_row_length → node_row_word ws n k ≡ node_row r n k)
    → ws ≡ encode_rows r
encode_rows_is ws r l machine node =
    sheet_words ws (encode_rows r) l (encode_rows_length r)
    (λ m k hm hk. machine m k hm hk ∙ sym (machine_row_word_lem r m k hm hk))
    (λ n k hn hk. node n k hn hk ∙ sym (node_row_word_lem r n k hn hk))

-- ---- what a word says, and the word of it

-- a number that may be absent, but is not the word for absent, is read back out of its word
pub number_word : (o : Option ℕ) → ((n : ℕ) → o ≡ some n → n < absent) → number (word o) ≡ o
unfolding number word
number_word none h = refl
number_word (some n) h = rw (ne_eqb n absent (λ e. omega (arith, h n refl)))

-- a cost that may be blank, but is not the word for blank
pub cost_word_lem : (o : Option ℕ) → ((c : ℕ) → o ≡ some c → c < blank) → cost_of (cost_word o) ≡ o
unfolding cost_of cost_word
cost_word_lem none h = refl
cost_word_lem (some c) h = rw (ne_eqb c blank (λ e. omega (arith, h c refl)))

-- a transition that may be absent, whose target is a node and whose cost is in range
pub transition_word_lem : (o : Option Transition) → ((a : Transition) → o ≡ some a → (a.target < nodes) × (a.cost < costs))
    → transition_of (transition_word o) ≡ o
unfolding transition_of transition_word
transition_word_lem none h = refl
transition_word_lem (some a) h =
    let fits : (a.target < nodes) × (a.cost < costs) = h a refl in
    let target : (a.target * costs + a.cost) / costs ≡ a.target = omega arith in
    let cost : (a.target * costs + a.cost) % costs ≡ a.cost = omega arith in
    rw (ne_eqb (a.target * costs + a.cost) blank (omega arith)) (ap some (λ i. record { target = target i; cost = cost i }))

-- w is given back where it says nothing at z, and else a value whose word is w
told_back : {A : Type 0} (z w : ℕ) (f : Option A → ℕ) (a : A) → f none ≡ z → f (some a) ≡ w → f (cond (eqb w z) none (some a)) ≡ w
told_back z w f a empty full = go (eqb w z) refl
  where
    go : (b : Bool) → eqb w z ≡ b → f (cond b none (some a)) ≡ w
    go true e = empty ∙ sym (eqb-true w z e)
    go false e = full

-- every word is the word of the number that it says
pub word_number : (w : ℕ) → word (number w) ≡ w
unfolding number word
word_number w = told_back absent w word w refl refl

-- every word is the word of the cost that it says
pub word_cost : (w : ℕ) → cost_word (cost_of w) ≡ w
unfolding cost_of cost_word
word_cost w = told_back blank w cost_word w refl refl

-- every word is the word of the transition that it says
pub word_transition : (w : ℕ) → transition_word (transition_of w) ≡ w
unfolding transition_of transition_word
word_transition w =
    told_back blank w transition_word (record { target = w / costs; cost = w % costs }) refl (div-add-mod' w costs)

-- a word that is not the one for absent says its number
pub present_word : (o : Option ℕ) {w : ℕ} → w ≡ word o → (w ≡ absent → ⊥) → o ≡ some w
unfolding word
present_word none e present = absurd (present e)
present_word (some n) e present = ap some (sym e)

-- the word for absent says that there is none, where that is no number
pub absent_word : (o : Option ℕ) → ((n : ℕ) → o ≡ some n → n < absent) → {w : ℕ} → w ≡ word o → w ≡ absent → o ≡ none
unfolding word
absent_word none h e at = refl
absent_word (some n) h e at = absurd (omega (arith, h n refl))

-- a word that is not the one for no transition says its target and cost
pub present_transition : (o : Option Transition) → ((a : Transition) → o ≡ some a → a.cost < costs) → {w : ℕ} → w ≡ transition_word o → (w ≡ blank → ⊥)
    → o ≡ some (record { target = w / costs; cost = w % costs })
unfolding transition_word
present_transition none h e present = absurd (present e)
present_transition (some a) h {w} e present =
    let fits = h a refl in
    let target : a.target ≡ w / costs = omega arith in
    let cost : a.cost ≡ w % costs = omega arith in
    ap some (λ i. record { target = target i; cost = cost i })

pub blank_transition : (o : Option Transition) → ((a : Transition) → o ≡ some a → (a.target < nodes) × (a.cost < costs)) → {w : ℕ} → w ≡ transition_word o → w ≡ blank → o ≡ none
unfolding transition_word
blank_transition none h e at = refl
blank_transition (some a) h e at =
    let fits = h a refl in
    absurd (omega arith)

-- a number under its limit is not cut off
pub under_in : {A : Type 0} (limit i : ℕ) (o : Option A) → i < limit → under limit i o ≡ o
unfolding under
under_in limit i o h = rw (lt-ltb i limit h)

-- what is there under a limit is under it
pub under_some : {A : Type 0} (limit i : ℕ) (o : Option A) {a : A} → under limit i o ≡ some a → (i < limit) × (o ≡ some a)
unfolding under
under_some limit i o {a} e = go (ltb i limit) refl
  where
    go : (b : Bool) → ltb i limit ≡ b → (i < limit) × (o ≡ some a)
    go true small = (ltb-true i limit small, rw small at e)
    go false large = absurd (none_some refl (rw large at e))

-- what is read under a limit is o, where below the limit it is o and o has nothing beyond the limit
pub under_is : {A : Type 0} (limit i : ℕ) (p o : Option A) → (i < limit → p ≡ o) → ((a : A) → o ≡ some a → i < limit)
    → under limit i p ≡ o
unfolding under
under_is {A} limit i p o same inside = go (ltb i limit) o refl same inside
  where
    go : (b : Bool) (q : Option A) → ltb i limit ≡ b → (i < limit → p ≡ q) → ((a : A) → q ≡ some a → i < limit) → cond b p none ≡ q
    go true q e f g = f (ltb-true i limit e)
    go false none e f g = refl
    go false (some a) e f g = absurd (omega (arith, ltb-false i limit e, g a refl))

-- so a number is read back under a limit, where it stands below the limit and is not the word for absent
pub number_is : (limit i w : ℕ) (o : Option ℕ) → (i < limit → w ≡ word o) → ((n : ℕ) → o ≡ some n → (i < limit) × (n < absent))
    → under limit i (number w) ≡ o
number_is limit i w o same inside =
    under_is limit i (number w) o (λ h. ap number (same h) ∙ number_word o (λ n e. (inside n e).1)) (λ n e. (inside n e).0)

-- and a cost, where it stands below the limit and is not the word for blank
pub cost_is : (limit i w : ℕ) (o : Option ℕ) → (i < limit → w ≡ cost_word o) → ((c : ℕ) → o ≡ some c → (i < limit) × (c < blank))
    → under limit i (cost_of w) ≡ o
cost_is limit i w o same inside =
    under_is limit i (cost_of w) o (λ h. ap cost_of (same h) ∙ cost_word_lem o (λ n e. (inside n e).1)) (λ n e. (inside n e).0)

-- a mark is read back out of its word
mark_word : (b : Bool) → eqb (stale_word b) 1 ≡ b
unfolding stale_word
mark_word true = refl
mark_word false = refl

-- and under a limit, where it stands below the limit
pub mark_is : (limit i w : ℕ) (b : Bool) → (i < limit → w ≡ stale_word b) → (b ≡ true → i < limit)
    → cond (ltb i limit) (eqb w 1) false ≡ b
mark_is limit i w b same inside = go (ltb i limit) b refl same inside
  where
    go : (below c : Bool) → ltb i limit ≡ below → (i < limit → w ≡ stale_word c) → (c ≡ true → i < limit)
        → cond below (eqb w 1) false ≡ c
    go true c e f g = rw (f (ltb-true i limit e)) (mark_word c)
    go false true e f g = absurd (omega (arith, ltb-false i limit e, g refl))
    go false false e f g = refl

-- ---- trees and rows, field by field

-- two trees with the same root and the same fields at every number are one tree
pub same_tree : (t u : Tree) → t.root ≡ u.root → ((n : ℕ) → t.owner n ≡ u.owner n) → ((n : ℕ) → t.below n ≡ u.below n)
    → ((m : ℕ) → t.start m ≡ u.start m) → ((m : ℕ) → t.holder m ≡ u.holder m)
    → ((n x : ℕ) → t.transition n x ≡ u.transition n x) → ((n : ℕ) → t.hold n ≡ u.hold n) → ((m : ℕ) → t.leave m ≡ u.leave m) → t ≡ u
same_tree t u root owner below start holder transition hold leave =
    λ i.
    with_root
    (with_machines (with_nodes t (λ n. owner n i) (λ n. below n i) (λ n x. transition n x i) (λ n. hold n i)) (λ m. start m i)
    (λ m. holder m i) (λ m. leave m i))
    (root i)

-- two trees that differ at most in what they say of nodes, and say the same of every node, are one tree
pub same_nodes : (t u : Tree) → with_nodes t u.owner u.below u.transition u.hold ≡ u → ((n : ℕ) → t.owner n ≡ u.owner n)
    → ((n : ℕ) → t.below n ≡ u.below n) → ((n x : ℕ) → t.transition n x ≡ u.transition n x)
    → ((n : ℕ) → t.hold n ≡ u.hold n) → t ≡ u
same_nodes t u rest owner below transition hold =
    (λ i. with_nodes t (λ n. owner n i) (λ n. below n i) (λ n x. transition n x i) (λ n. hold n i)) ∙ rest

-- and so are two that differ at most in what they say of machines
pub same_machines : (t u : Tree) → with_machines t u.start u.holder u.leave ≡ u → ((m : ℕ) → t.start m ≡ u.start m)
    → ((m : ℕ) → t.holder m ≡ u.holder m) → ((m : ℕ) → t.leave m ≡ u.leave m) → t ≡ u
same_machines t u rest start holder leave = (λ i. with_machines t (λ m. start m i) (λ m. holder m i) (λ m. leave m i)) ∙ rest

-- two rows with the same fields at every number are the same
pub same_rows : (r q : Rows) → ((m : ℕ) → r.stale m ≡ q.stale m) → ((m x : ℕ) → r.exit m x ≡ q.exit m x)
    → ((m x : ℕ) → r.last m x ≡ q.last m x) → ((n : ℕ) → r.cost n ≡ q.cost n) → ((n : ℕ) → r.before n ≡ q.before n)
    → ((n : ℕ) → r.by n ≡ q.by n) → r ≡ q
same_rows r q stale exit last cost before by =
    λ i.
    record {
      stale = λ m. stale m i;
      exit = λ m x. exit m x i;
      last = λ m x. last m x i;
      cost = λ n. cost n i;
      before = λ n. before n i;
      by = λ n. by n i;
    }

-- ---- the numbers of a sound tree are in range

module _ (t : Tree) (s : Sound t) where
  -- a node in use and its machine
  pub owner_range : (n m : ℕ) → t.owner n ≡ some m → (n < nodes) × (m < machines)
  owner_range n m e =
      let start = s.owner_used n m e in
      (s.node_range n m e, s.machine_range m start.0 start.1)

  -- a machine in use and its start node
  pub start_range : (m k : ℕ) → t.start m ≡ some k → (m < machines) × (k < nodes)
  start_range m k e = (s.machine_range m k e, s.node_range k m (s.start_owned m k e))

  -- a machine and the node that holds it
  pub holder_range : (m n : ℕ) → t.holder m ≡ some n → (m < machines) × (n < nodes)
  holder_range m n e =
      let start = s.held_used m n e in
      let owner = s.holder_used m n e in
      (s.machine_range m start.0 start.1, s.node_range n owner.0 owner.1)

  -- a node and the machine below it
  pub below_range : (n m : ℕ) → t.below n ≡ some m → (n < nodes) × (m < machines)
  below_range n m e =
      let both = holder_range m n (s.below_held n m e) in
      (both.1, both.0)

  -- a node that has a transition, and the transition's target
  pub target_range : (n x : ℕ) (a : Transition) → t.transition n x ≡ some a → (n < nodes) × (a.target < nodes)
  target_range n x a e =
      let own = s.transition_owned n x a e in
      (s.node_range n own.0 own.1, s.node_range a.target own.0 own.2)

  -- the word for absent, in each field
  pub no_holder : (m : ℕ) {w : ℕ} → w ≡ word (t.holder m) → w ≡ absent → t.holder m ≡ none
  no_holder m = absent_word (t.holder m) (λ n e. omega (arith, (holder_range m n e).1))

  pub no_start : (m : ℕ) {w : ℕ} → w ≡ word (t.start m) → w ≡ absent → t.start m ≡ none
  no_start m = absent_word (t.start m) (λ n e. omega (arith, (start_range m n e).1))

  pub no_owner : (n : ℕ) {w : ℕ} → w ≡ word (t.owner n) → w ≡ absent → t.owner n ≡ none
  no_owner n = absent_word (t.owner n) (λ m e. omega (arith, (owner_range n m e).1))

  pub no_below : (n : ℕ) {w : ℕ} → w ≡ word (t.below n) → w ≡ absent → t.below n ≡ none
  no_below n = absent_word (t.below n) (λ m e. omega (arith, (below_range n m e).1))

  -- the word for no transition, and any other
  pub no_transition : (n x : ℕ) {w : ℕ} → w ≡ transition_word (t.transition n x) → w ≡ blank → t.transition n x ≡ none
  no_transition n x = blank_transition (t.transition n x) (λ a e. ((target_range n x a e).1, (s.transition_range n x a e).1))

  pub some_transition : (n x : ℕ) {w : ℕ} → w ≡ transition_word (t.transition n x) → (w ≡ blank → ⊥)
      → t.transition n x ≡ some (record { target = w / costs; cost = w % costs })
  some_transition n x = present_transition (t.transition n x) (λ a e. (s.transition_range n x a e).1)

  -- unused records are empty: a node that is not in use holds no machine
  pub unused_below : (n : ℕ) → t.owner n ≡ none → t.below n ≡ none
  unused_below n e =
      no_value (t.below n)
      (λ m f.
      let own = s.holder_used m n (s.below_held n m f) in
      none_some e own.1)

  -- a node that is not held has the hold 0, and one that is not in use has it
  pub hold_zero : (n : ℕ) → on_hold t n ≡ false → t.hold n ≡ 0
  hold_zero n off = let other : t.hold n ≡ 1 → ⊥ = eqb-false (t.hold n) 1 off in omega (arith, s.hold_range n)

  pub unused_hold : (n : ℕ) → t.owner n ≡ none → t.hold n ≡ 0
  unused_hold n e = hold_zero n (ne_eqb (t.hold n) 1 (λ one. none_some e (s.hold_used n one).1))

  -- and it has no transition
  pub unused_transition : (n x : ℕ) → t.owner n ≡ none → t.transition n x ≡ none
  unused_transition n x e =
      no_value (t.transition n x)
      (λ a f.
      let own = s.transition_owned n x a f in
      none_some e own.1)

  -- no node holds a machine that is not in use
  pub unused_holder : (m : ℕ) → t.start m ≡ none → t.holder m ≡ none
  unused_holder m e =
      no_value (t.holder m)
      (λ n f.
      let start = s.held_used m n f in
      none_some e start.1)

-- ---- a sound tree is read back out of its words

-- the tree that the words of a sound tree hold is that tree
pub tree_of_encode : (t : Tree) → Sound t → tree_of (encode t) ≡ t
unfolding tree_of
tree_of_encode t s =
    same_tree (tree_of (encode t)) t (root_word t)
    (λ n.
    number_is nodes n (node_word (encode t) n 0) (t.owner n) (λ h. node_word_lem t n 0 h (omega arith))
    (λ m e. omega (arith, owner_range t s n m e)))
    (λ n.
    number_is nodes n (node_word (encode t) n 1) (t.below n) (λ h. node_word_lem t n 1 h (omega arith))
    (λ m e. omega (arith, below_range t s n m e)))
    (λ m.
    number_is machines m (machine_word (encode t) m 1) (t.start m) (λ h. machine_word_lem t m 1 h (omega arith))
    (λ n e. omega (arith, start_range t s m n e)))
    (λ m.
    number_is machines m (machine_word (encode t) m 0) (t.holder m) (λ h. machine_word_lem t m 0 h (omega arith))
    (λ n e. omega (arith, holder_range t s m n e)))
    transition hold leave
  where
    hold : (n : ℕ) → cond (ltb n nodes) (hold_word (encode t) n) 0 ≡ t.hold n
    hold n = go (ltb n nodes) refl
      where
        go : (b : Bool) → ltb n nodes ≡ b → cond b (hold_word (encode t) n) 0 ≡ t.hold n
        go true e = hold_word_lem t n (ltb-true n nodes e)
        go false e = sym (unused_hold t s n (no_value (t.owner n) (λ m own. omega (arith, s.node_range n m own, ltb-false n nodes e))))

    leave : (m : ℕ) → cond (ltb m machines) (leave_word (encode t) m) 0 ≡ t.leave m
    leave m = go (ltb m machines) refl
      where
        go : (b : Bool) → ltb m machines ≡ b → cond b (leave_word (encode t) m) 0 ≡ t.leave m
        go true e = leave_word_lem t m (ltb-true m machines e)
        go false e = sym (s.leave_used m (no_value (t.start m) (λ n st. omega (arith, s.machine_range m n st, ltb-false m machines e))))

    transition : (n x : ℕ) → under nodes n (under commands x (transition_of (node_word (encode t) n (2 + x)))) ≡ t.transition n x
    transition n x =
        under_is nodes n (under commands x (transition_of (node_word (encode t) n (2 + x)))) (t.transition n x)
        (λ hn.
        under_is commands x (transition_of (node_word (encode t) n (2 + x))) (t.transition n x)
        (λ hx.
        let at : 2 + x ≡ suc (suc x) = omega arith in
        rw (at, node_word_lem t n (suc (suc x)) hn (omega arith))
        (transition_word_lem (t.transition n x) (λ a e. ((target_range t s n x a e).1, (s.transition_range n x a e).1))))
        (λ a e. (s.transition_range n x a e).0))
        (λ a e. (target_range t s n x a e).0)

-- ---- well-formed books

-- the words of a sound tree are a well-formed book
pub encode_well_formed : (t : Tree) → Sound t → WellFormed (encode t)
encode_well_formed t s = record { length = encode_length t; sound = rw (tree_of_encode t s) s }

-- a well-formed book is the encoding of exactly one tree, the one that its words hold
pub one_tree : (ws : List ℕ) → WellFormed ws → (t : Tree) → Sound t → encode t ≡ ws → t ≡ tree_of ws
one_tree ws w t s e = sym (tree_of_encode t s) ∙ ap tree_of e

-- the tree of a list has the words of the list, for every machine
pub tree_of_machine : (ws : List ℕ) (m k : ℕ) → m < machines → k < machine_fields → machine_field (tree_of ws) m k ≡ machine_word ws m k
unfolding tree_of
tree_of_machine ws m zero hm hk = simp (under_in, word_number)
tree_of_machine ws m (suc zero) hm hk = simp (under_in, word_number)
tree_of_machine ws m (suc (suc k)) hm hk = absurd (omega arith)

-- and for every node
pub tree_of_node : (ws : List ℕ) (n k : ℕ) → n < nodes → k < node_fields → node_field (tree_of ws) n k ≡ node_word ws n k
unfolding tree_of
tree_of_node ws n zero hn hk = simp (under_in, word_number)
tree_of_node ws n (suc zero) hn hk = simp (under_in, word_number)
tree_of_node ws n (suc (suc x)) hn hk =
    let at : 2 + x ≡ suc (suc x) = omega arith in
    let hx : x < commands = omega arith in
    simp (at, under_in, word_transition)

-- and for every hold
pub tree_of_hold : (ws : List ℕ) (n : ℕ) → n < nodes → (tree_of ws).hold n ≡ hold_word ws n
unfolding tree_of
tree_of_hold ws n hn = rw (lt-ltb n nodes hn)

-- and for every leaving cost
pub tree_of_leave : (ws : List ℕ) (m : ℕ) → m < machines → (tree_of ws).leave m ≡ leave_word ws m
unfolding tree_of
tree_of_leave ws m hm = rw (lt-ltb m machines hm)

-- any list of 5,057 words is the encoding of the tree that it holds
pub encode_tree_of : (ws : List ℕ) → length ws ≡ book_length → encode (tree_of ws) ≡ ws
unfolding tree_of
encode_tree_of ws l =
    sym
    (encode_is ws (tree_of ws) l refl (λ m k hm hk. sym (tree_of_machine ws m k hm hk)) (λ n k hn hk. sym (tree_of_node ws n k hn hk))
    (λ n hn. sym (tree_of_hold ws n hn)) (λ m hm. sym (tree_of_leave ws m hm)))

-- a well-formed book is the encoding of its tree
pub well_formed_words : (ws : List ℕ) → WellFormed ws → encode (tree_of ws) ≡ ws
well_formed_words ws w = encode_tree_of ws w.length

-- ---- rows are read back out of their words

-- what rows say stands at machines, nodes and commands, and is not a word for absent or blank
pub record InRange (r : Rows) : Type 0 where
  pub stale : (m : ℕ) → r.stale m ≡ true → m < machines
  pub exit : (m x c : ℕ) → r.exit m x ≡ some c → (m < machines) × (x < commands) × (c < blank)
  pub last : (m x n : ℕ) → r.last m x ≡ some n → (m < machines) × (x < commands) × (n < absent)
  pub cost : (n c : ℕ) → r.cost n ≡ some c → (n < nodes) × (c < blank)
  pub before : (n k : ℕ) → r.before n ≡ some k → (n < nodes) × (k < absent)
  pub by : (n x : ℕ) → r.by n ≡ some x → (n < nodes) × (x < absent)

-- the word of an exit cost in a machine's row
exit_place : (r : Rows) (m x : ℕ) → x < commands → machine_row r m (suc x) ≡ cost_word (r.exit m x)
unfolding machine_row
exit_place r m x h = rw (lt-ltb x commands h)

-- the word of a last node in a machine's row
last_place : (r : Rows) (m x : ℕ) → machine_row r m (suc (commands + x)) ≡ word (r.last m x)
unfolding machine_row
last_place r m x =
    let past : commands ≤ commands + x = omega arith in
    let back : commands + x - commands ≡ x = omega arith in
    rw (le-ltb (commands + x) commands past, back)

-- the rows that the words of rows in range hold are those rows
pub rows_of_encode_rows : (r : Rows) → InRange r → rows_of (encode_rows r) ≡ r
unfolding rows_of machine_row node_row
rows_of_encode_rows r s =
    same_rows (rows_of (encode_rows r)) r
    (λ m. mark_is machines m (machine_row_word (encode_rows r) m 0) (r.stale m) (λ h. machine_row_word_lem r m 0 h (omega arith)) (s.stale m))
    exit last
    (λ n. cost_is nodes n (node_row_word (encode_rows r) n 0) (r.cost n) (λ h. node_row_word_lem r n 0 h (omega arith)) (s.cost n))
    (λ n. number_is nodes n (node_row_word (encode_rows r) n 1) (r.before n) (λ h. node_row_word_lem r n 1 h (omega arith)) (s.before n))
    (λ n. number_is nodes n (node_row_word (encode_rows r) n 2) (r.by n) (λ h. node_row_word_lem r n 2 h (omega arith)) (s.by n))
  where
    exit : (m x : ℕ) → under machines m (under commands x (cost_of (machine_row_word (encode_rows r) m (1 + x)))) ≡ r.exit m x
    exit m x =
        let at : 1 + x ≡ suc x = omega arith in
        under_is machines m (under commands x (cost_of (machine_row_word (encode_rows r) m (1 + x)))) (r.exit m x)
        (λ hm.
        cost_is commands x (machine_row_word (encode_rows r) m (1 + x)) (r.exit m x)
        (λ hx. rw (at, machine_row_word_lem r m (suc x) hm (omega arith)) (exit_place r m x hx))
        (λ c e. omega (arith, s.exit m x c e)))
        (λ c e. (s.exit m x c e).0)

    last : (m x : ℕ) → under machines m (under commands x (number (machine_row_word (encode_rows r) m (1 + commands + x)))) ≡ r.last m x
    last m x =
        let at : 1 + commands + x ≡ suc (commands + x) = omega arith in
        under_is machines m (under commands x (number (machine_row_word (encode_rows r) m (1 + commands + x)))) (r.last m x)
        (λ hm.
        number_is commands x (machine_row_word (encode_rows r) m (1 + commands + x)) (r.last m x)
        (λ hx. rw (at, machine_row_word_lem r m (suc (commands + x)) hm (omega arith)) (last_place r m x))
        (λ n e. omega (arith, s.last m x n e)))
        (λ n e. (s.last m x n e).0)

-- ---- sheets whose marks are 0 or 1

-- a mark that is 0 or 1 is the word of what it says
word_mark : (w : ℕ) → (w ≡ 0) ⊎ (w ≡ 1) → stale_word (eqb w 1) ≡ w
unfolding stale_word
word_mark w (inl e) = rw e
word_mark w (inr e) = rw e

-- and the word of a mark is 0 or 1
mark_bit : (b : Bool) → (stale_word b ≡ 0) ⊎ (stale_word b ≡ 1)
unfolding stale_word
mark_bit true = inr refl
mark_bit false = inl refl

-- the rows of a list have the words of the list, for every machine whose mark is 0 or 1
pub rows_of_machine : (ws : List ℕ) (m k : ℕ) → m < machines → k < machine_row_length
    → (machine_row_word ws m 0 ≡ 0) ⊎ (machine_row_word ws m 0 ≡ 1) → machine_row (rows_of ws) m k ≡ machine_row_word ws m k
unfolding rows_of machine_row
rows_of_machine ws m zero hm hk mark = rw (lt-ltb m machines hm) (word_mark (machine_row_word ws m 0) mark)
rows_of_machine ws m (suc i) hm hk mark = go (ltb i commands) refl
  where
    go : (b : Bool) → ltb i commands ≡ b
        → cond b (cost_word ((rows_of ws).exit m i)) (word ((rows_of ws).last m (i - commands))) ≡ machine_row_word ws m (suc i)
    go true e =
        let hx : i < commands = ltb-true i commands e in
        let at : 1 + i ≡ suc i = omega arith in
        simp (at, under_in, word_cost)
    go false e =
        let past : commands ≤ i = ltb-false i commands e in
        let hx : i - commands < commands = omega arith in
        let at : 1 + commands + (i - commands) ≡ suc i = omega arith in
        simp (at, under_in, word_number)

-- and for every node
pub rows_of_node : (ws : List ℕ) (n k : ℕ) → n < nodes → k < node_row_length → node_row (rows_of ws) n k ≡ node_row_word ws n k
unfolding rows_of node_row
rows_of_node ws n zero hn hk = simp (under_in, word_cost)
rows_of_node ws n (suc zero) hn hk = simp (under_in, word_number)
rows_of_node ws n (suc (suc zero)) hn hk = simp (under_in, word_number)
rows_of_node ws n (suc (suc (suc k))) hn hk = absurd (omega arith)

-- a list of 2,880 words whose marks are 0 or 1 is the words of the rows that it holds
pub marks_words : (ws : List ℕ) → length ws ≡ sheet_length
    → ((m : ℕ) → m < machines → (machine_row_word ws m 0 ≡ 0) ⊎ (machine_row_word ws m 0 ≡ 1)) → encode_rows (rows_of ws) ≡ ws
marks_words ws l marks =
    sym
    (encode_rows_is ws (rows_of ws) l (λ m k hm hk. sym (rows_of_machine ws m k hm hk (marks m hm)))
    (λ n k hn hk. sym (rows_of_node ws n k hn hk)))

-- and only such a list is
pub words_marks : (ws : List ℕ) → encode_rows (rows_of ws) ≡ ws
    → (length ws ≡ sheet_length) × ((m : ℕ) → m < machines → (machine_row_word ws m 0 ≡ 0) ⊎ (machine_row_word ws m 0 ≡ 1))
unfolding machine_row
words_marks ws e = (rw e at (encode_rows_length (rows_of ws)), mark)
  where
    same : (m : ℕ) → m < machines → stale_word ((rows_of ws).stale m) ≡ machine_row_word ws m 0
    same m hm = sym (machine_row_word_lem (rows_of ws) m 0 hm (omega arith)) ∙ ap (λ (l : List ℕ). machine_row_word l m 0) e

    mark : (m : ℕ) → m < machines → (machine_row_word ws m 0 ≡ 0) ⊎ (machine_row_word ws m 0 ≡ 1)
    mark m hm = rw (same m hm) at (mark_bit ((rows_of ws).stale m))
