-- A book that is written word by word, the root first, then machine by machine and node by node, until it is a tree's. Assumes nothing.
use mathlib.Core.Path.{◌≡◌, refl, sym, ◌∙◌, ap, subst}
use mathlib.Core.Logic.{⊎_elim}
use mathlib.Core.List.{List}
use Prim.Native.Nat.{ℕ, zero, suc, ◌+◌, ◌<◌}
use native.Mathlib.Omega.{arith}
use Rattle.definitions.specs.Basics.{put}
use borrow.Author.Tests.{eq-eqb, ne_eqb}
use Rattle.definitions.specs.Limits.{machines, nodes}
use Rattle.definitions.specs.Tree.{Tree, with_root, with_node_hold, with_leave}
use Rattle.definitions.specs.Book.{word, number, machine_field, node_field, machine_fields, node_fields, encode, tree_of}
use Rattle.definitions.specs.Edit.{with_transition}
use Rattle.definitions.proofs.Options.{equal_or_not, put_same, put_other}
use Rattle.definitions.proofs.Words.{word_number, word_transition, encode_is, tree_of_machine, tree_of_node, tree_of_hold, tree_of_leave}
use Rattle.book.specs.Fields.{Holds, with_machine_field, with_node_field}
use Rattle.book.specs.Recorded.{Recorded}

-- ---- a tree with one word changed

-- the word that was written
machine_new : (t : Tree) (m k v : ℕ) → machine_field (with_machine_field t m k v) m k ≡ v
machine_new t m zero v = ap word (put_same t.holder m (number v)) ∙ word_number v
machine_new t m (suc k) v = ap word (put_same t.start m (number v)) ∙ word_number v

node_new : (t : Tree) (n k v : ℕ) → node_field (with_node_field t n k v) n k ≡ v
unfolding with_transition
node_new t n zero v = ap word (put_same t.owner n (number v)) ∙ word_number v
node_new t n (suc zero) v = ap word (put_same t.below n (number v)) ∙ word_number v
node_new t n (suc (suc x)) v = rw (eq-eqb n n refl, eq-eqb x x refl) (word_transition v)

-- the words of another machine, of another node, and at another place of the same record
machine_other : (t : Tree) (m k v i j : ℕ) → (i ≡ m → ⊥) → machine_field (with_machine_field t m k v) i j ≡ machine_field t i j
machine_other t m zero v i zero other = ap word (put_other t.holder m (number v) i other)
machine_other t m zero v i (suc j) other = refl
machine_other t m (suc k) v i zero other = refl
machine_other t m (suc k) v i (suc j) other = ap word (put_other t.start m (number v) i other)

node_other : (t : Tree) (n k v i j : ℕ) → (i ≡ n → j ≡ k → ⊥) → node_field (with_node_field t n k v) i j ≡ node_field t i j
unfolding with_transition
node_other t n zero v i zero other = ap word (put_other t.owner n (number v) i (λ e. other e refl))
node_other t n zero v i (suc zero) other = refl
node_other t n zero v i (suc (suc y)) other = refl
node_other t n (suc zero) v i zero other = refl
node_other t n (suc zero) v i (suc zero) other = ap word (put_other t.below n (number v) i (λ e. other e refl))
node_other t n (suc zero) v i (suc (suc y)) other = refl
node_other t n (suc (suc x)) v i zero other = refl
node_other t n (suc (suc x)) v i (suc zero) other = refl
node_other t n (suc (suc x)) v i (suc (suc y)) other =
    ⊎_elim (λ e. rw (eq-eqb i n e, ne_eqb y x (λ f. other e (ap suc (ap suc f))), e)) (λ ne. rw (ne_eqb i n ne)) (equal_or_not i n)

-- a node's word leaves the root and the machines, a machine's word leaves the root
node_root : (t : Tree) (n k v : ℕ) → (with_node_field t n k v).root ≡ t.root
unfolding with_transition
node_root t n zero v = refl
node_root t n (suc zero) v = refl
node_root t n (suc (suc x)) v = refl

node_machine : (t : Tree) (n k v i j : ℕ) → machine_field (with_node_field t n k v) i j ≡ machine_field t i j
unfolding with_transition
node_machine t n zero v i zero = refl
node_machine t n zero v i (suc j) = refl
node_machine t n (suc zero) v i zero = refl
node_machine t n (suc zero) v i (suc j) = refl
node_machine t n (suc (suc x)) v i zero = refl
node_machine t n (suc (suc x)) v i (suc j) = refl

-- it leaves the leaving costs; and a leaving cost leaves the machines
node_leave : (t : Tree) (n k v i : ℕ) → (with_node_field t n k v).leave i ≡ t.leave i
unfolding with_transition
node_leave t n zero v i = refl
node_leave t n (suc zero) v i = refl
node_leave t n (suc (suc x)) v i = refl

leave_machine : (t : Tree) (m c i j : ℕ) → machine_field (with_leave t m c) i j ≡ machine_field t i j
leave_machine t m c i zero = refl
leave_machine t m c i (suc j) = refl

-- it leaves the holds; and a hold leaves all else
node_hold : (t : Tree) (n k v i : ℕ) → (with_node_field t n k v).hold i ≡ t.hold i
unfolding with_transition
node_hold t n zero v i = refl
node_hold t n (suc zero) v i = refl
node_hold t n (suc (suc x)) v i = refl

hold_machine : (t : Tree) (n v i j : ℕ) → machine_field (with_node_hold t n v) i j ≡ machine_field t i j
hold_machine t n v i zero = refl
hold_machine t n v i (suc j) = refl

hold_node : (t : Tree) (n v i j : ℕ) → node_field (with_node_hold t n v) i j ≡ node_field t i j
hold_node t n v i zero = refl
hold_node t n v i (suc zero) = refl
hold_node t n v i (suc (suc x)) = refl

-- ---- a book that has a tree's words so far

-- the root
pub recorded_root : (ws : List ℕ) {after : List ℕ} (t : Tree) → Holds after (with_root (tree_of ws) t.root) → Recorded after t 0 0 0
recorded_root ws t stored =
    record {
      size = stored.length;
      root = ap (λ (u : Tree). u.root) stored.tree;
      machine = λ i j h. absurd (omega arith);
      leave = λ i h. absurd (omega arith);
      node = λ i j h. absurd (omega arith);
      hold = λ i h. absurd (omega arith);
      here = λ j h. absurd (omega arith);
    }

module _ {t : Tree} {ws after : List ℕ} where
  -- one machine more: both of its words, and what leaving it costs
  pub recorded_machine : {mid more : List ℕ} {m v w c : ℕ} → Recorded ws t m 0 0 → Holds mid (with_machine_field (tree_of ws) m 0 v)
      → Holds more (with_machine_field (tree_of mid) m 1 w) → Holds after (with_leave (tree_of more) m c) → v ≡ machine_field t m 0
      → w ≡ machine_field t m 1 → c ≡ t.leave m → Recorded after t (m + 1) 0 0
  recorded_machine {mid} {more} {m} {v} {w} {c} less first second third ev ew ec =
      let whole : tree_of after ≡ with_leave (with_machine_field (with_machine_field (tree_of ws) m 0 v) m 1 w) m c =
      third.tree ∙ ap (λ u. with_leave u m c) (second.tree ∙ ap (λ u. with_machine_field u m 1 w) first.tree) in
      record {
        size = third.length;
        root = ap (λ (u : Tree). u.root) whole ∙ less.root;
        leave = λ i h.
            ap (λ (u : Tree). u.leave i) whole
            ∙ ⊎_elim (λ same. ap (put (tree_of ws).leave m c) same ∙ put_same (tree_of ws).leave m c ∙ ec ∙ ap t.leave (sym same))
            (λ other. put_other (tree_of ws).leave m c i other ∙ less.leave i (omega (arith, other))) (equal_or_not i m);
        machine = λ i j h hj.
            ap (λ u. machine_field u i j) whole
            ∙ leave_machine (with_machine_field (with_machine_field (tree_of ws) m 0 v) m 1 w) m c i j
            ∙ ⊎_elim (λ e. rw e (both j hj))
            (λ other.
            machine_other (with_machine_field (tree_of ws) m 0 v) m 1 w i j other
            ∙ machine_other (tree_of ws) m 0 v i j other
            ∙ less.machine i j (omega (arith, other)) hj)
            (equal_or_not i m);
        node = λ i j h. absurd (omega arith);
        hold = λ i h. absurd (omega arith);
        here = λ j h. absurd (omega arith);
      }
    where
      both : (j : ℕ) → j < machine_fields → machine_field (with_machine_field (with_machine_field (tree_of ws) m 0 v) m 1 w) m j ≡ machine_field t m j
      both zero h = machine_new (tree_of ws) m 0 v ∙ ev
      both (suc zero) h = machine_new (with_machine_field (tree_of ws) m 0 v) m 1 w ∙ ew
      both (suc (suc j)) h = absurd (omega arith)

  -- one word more of node n
  pub recorded_word : {m n k v : ℕ} → Recorded ws t m n k → Holds after (with_node_field (tree_of ws) n k v) → v ≡ node_field t n k
      → Recorded after t m n (k + 1)
  recorded_word {m} {n} {k} {v} less stored e =
      record {
        size = stored.length;
        root = ap (λ (u : Tree). u.root) stored.tree ∙ node_root (tree_of ws) n k v ∙ less.root;
        machine = λ i j h hj. ap (λ u. machine_field u i j) stored.tree ∙ node_machine (tree_of ws) n k v i j ∙ less.machine i j h hj;
        leave = λ i h. ap (λ (u : Tree). u.leave i) stored.tree ∙ node_leave (tree_of ws) n k v i ∙ less.leave i h;
        node = λ i j h hj.
            ap (λ u. node_field u i j) stored.tree
            ∙ node_other (tree_of ws) n k v i j (λ same at. omega (arith, same, h))
            ∙ less.node i j h hj;
        hold = λ i h. ap (λ (u : Tree). u.hold i) stored.tree ∙ node_hold (tree_of ws) n k v i ∙ less.hold i h;
        here = λ j h.
            ap (λ u. node_field u n j) stored.tree
            ∙ ⊎_elim (λ same. rw same (node_new (tree_of ws) n k v ∙ e))
            (λ other. node_other (tree_of ws) n k v n j (λ at same. other same) ∙ less.here j (omega (arith, other)))
            (equal_or_not j k);
      }

  -- the whole record of node n, and its hold
  pub recorded_node : {m n v : ℕ} → Recorded ws t m n node_fields → Holds after (with_node_hold (tree_of ws) n v) → v ≡ t.hold n
      → Recorded after t m (n + 1) 0
  recorded_node {n = n} {v = v} less stored e =
      record {
        size = stored.length;
        root = ap (λ (u : Tree). u.root) stored.tree ∙ less.root;
        machine = λ i j h hj. ap (λ u. machine_field u i j) stored.tree ∙ hold_machine (tree_of ws) n v i j ∙ less.machine i j h hj;
        leave = λ i h. ap (λ (u : Tree). u.leave i) stored.tree ∙ less.leave i h;
        node = λ i j h hj.
            ap (λ u. node_field u i j) stored.tree
            ∙ hold_node (tree_of ws) n v i j
            ∙ ⊎_elim (λ same. rw same (less.here j (omega arith))) (λ other. less.node i j (omega (arith, other)) hj) (equal_or_not i n);
        hold = λ i h.
            ap (λ (u : Tree). u.hold i) stored.tree
            ∙ ⊎_elim (λ same. ap (put (tree_of ws).hold n v) same ∙ put_same (tree_of ws).hold n v ∙ e ∙ ap t.hold (sym same))
            (λ other. put_other (tree_of ws).hold n v i other ∙ less.hold i (omega (arith, other))) (equal_or_not i n);
        here = λ j h. absurd (omega arith);
      }

module _ {ws : List ℕ} {t : Tree} where
  pub recorded_nodes : {n : ℕ} → n ≡ nodes → Recorded ws t machines n 0 → Recorded ws t machines nodes 0
  recorded_nodes all less = subst (λ n. Recorded ws t machines n 0) all less

  -- with every record it is the tree's book
  pub recorded_all : Recorded ws t machines nodes 0 → ws ≡ encode t
  unfolding tree_of
  recorded_all all =
      encode_is ws t all.size all.root (λ m k hm hk. sym (tree_of_machine ws m k hm hk) ∙ all.machine m k hm hk)
      (λ n k hn hk. sym (tree_of_node ws n k hn hk) ∙ all.node n k hn hk)
      (λ n hn. sym (tree_of_hold ws n hn) ∙ all.hold n hn) (λ m hm. sym (tree_of_leave ws m hm) ∙ all.leave m hm)
