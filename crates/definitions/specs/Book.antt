-- Document 01, "Book and sheet in memory", with document 02's holds (W-205) and leaving charges (W-207): the 5,057 words of a book, section by
-- section, and when a book is well formed.
use Rattle.std.specs.Prelude.{◌≡◌, cond, List, ◌∷◌, ◌++◌, ℕ, zero, suc, ◌+◌, ◌*◌, ◌/◌, ◌%◌, eqb, ltb, length, get_or}
use Rattle.std.proofs.Math.Option.{Option, none, some}
use Rattle.definitions.specs.Basics.{tabulate}
use Rattle.definitions.specs.Limits.{machines, nodes, commands, costs, book_length, absent, blank}
use Rattle.definitions.specs.Tree.{Tree, Transition, Sound}

-- the word of a number that may be absent
unfoldable pub word : Option ℕ → ℕ
word none = absent
word (some n) = n

-- the word of a transition (document 01: target × 65,536 + charge)
unfoldable pub transition_word : Option Transition → ℕ
transition_word none = blank
transition_word (some a) = a.target * costs + a.cost

-- the words of one machine, by their place: holding node, start node
abbrev pub machine_field : Tree → ℕ → ℕ → ℕ
machine_field t m zero = word (t.holder m)
machine_field t m (suc k) = word (t.start m)

-- the words of one node, by their place: owner, machine below, then one for each command
abbrev pub node_field : Tree → ℕ → ℕ → ℕ
node_field t n zero = word (t.owner n)
node_field t n (suc zero) = word (t.below n)
node_field t n (suc (suc x)) = transition_word (t.transition n x)

abbrev pub machine_fields : ℕ
machine_fields = 2

abbrev pub node_fields : ℕ
node_fields = 18

-- where the machines' words, the nodes' words, the holds and the leaving charges begin
abbrev pub machine_base : ℕ
machine_base = 1

abbrev pub node_base : ℕ
node_base = 129

abbrev pub hold_base : ℕ
hold_base = 4737

abbrev pub leave_base : ℕ
leave_base = 4993

-- the sections of a book: the root, the machines, the nodes, the holds (document 02, W-205), and at its end the leaving charges (W-207)
unfoldable pub machine_words : Tree → List ℕ
machine_words t = tabulate (machines * machine_fields) (λ i. machine_field t (i / machine_fields) (i % machine_fields))

unfoldable pub node_words : Tree → List ℕ
node_words t = tabulate (nodes * node_fields) (λ i. node_field t (i / node_fields) (i % node_fields))

unfoldable pub hold_words : Tree → List ℕ
hold_words t = tabulate nodes t.hold

unfoldable pub leave_words : Tree → List ℕ
leave_words t = tabulate machines t.leave

-- the words of a tree (document 01: the book)
unfoldable pub encode : Tree → List ℕ
encode t = t.root ∷ (machine_words t ++ (node_words t ++ (hold_words t ++ leave_words t)))

-- what a word says: a number, a transition, or that it is absent
unfoldable pub number : ℕ → Option ℕ
number w = cond (eqb w absent) none (some w)

unfoldable pub transition_of : ℕ → Option Transition
transition_of w = cond (eqb w blank) none (some (record { target = w / costs; cost = w % costs }))

-- o for a number under its limit, and else nothing
unfoldable pub under : {A : Type 0} → ℕ → ℕ → Option A → Option A
under limit i o = cond (ltb i limit) o none

-- the word of machine m, of node n, at a place of its record
unfoldable pub machine_word : List ℕ → ℕ → ℕ → ℕ
machine_word ws m k = get_or ws (machine_base + m * machine_fields + k) 0

unfoldable pub node_word : List ℕ → ℕ → ℕ → ℕ
node_word ws n k = get_or ws (node_base + n * node_fields + k) 0

-- the hold of node n
unfoldable pub hold_word : List ℕ → ℕ → ℕ
hold_word ws n = get_or ws (hold_base + n) 0

-- what leaving machine m costs
unfoldable pub leave_word : List ℕ → ℕ → ℕ
leave_word ws m = get_or ws (leave_base + m) 0

-- the tree that a book's words hold
unfoldable pub tree_of : List ℕ → Tree
tree_of ws =
    record {
      root = get_or ws 0 0;
      owner = λ n. under nodes n (number (node_word ws n 0));
      below = λ n. under nodes n (number (node_word ws n 1));
      start = λ m. under machines m (number (machine_word ws m 1));
      holder = λ m. under machines m (number (machine_word ws m 0));
      transition = λ n x. under nodes n (under commands x (transition_of (node_word ws n (2 + x))));
      hold = λ n. cond (ltb n nodes) (hold_word ws n) 0;
      leave = λ m. cond (ltb m machines) (leave_word ws m) 0;
    }

-- a book is well formed: it has as many words as a book has, and its tree is sound (so unused records are empty, no start node is
-- held, and leaving the root costs 0: document 02, W-205, W-207)
pub record WellFormed (ws : List ℕ) : Type 0 where
  pub length : length ws ≡ book_length
  pub sound : Sound (tree_of ws)
