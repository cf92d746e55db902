-- The words of the merged tree: of the new root, its two nodes and the two old roots, and else those of the two trees beside each other. Assumes
-- nothing.
use mathlib.Core.Path.{◌≡◌, refl, ◌∙◌, subst}
use mathlib.Core.List.{List}
use Prim.Native.Nat.{ℕ, suc, ◌+◌}
use native.Mathlib.Omega.{arith}
use borrow.Author.Tests.{eq-eqb, ne_eqb}
use Rattle.definitions.specs.Limits.{machines}
use Rattle.definitions.specs.Tree.{with_root}
use Rattle.definitions.specs.Book.{word, transition_word, transition_of, machine_field, node_field, tree_of}
use Rattle.definitions.specs.Edit.{with_transition, edited}
use Rattle.definitions.specs.Merge.{beside, under_new_root}
use Rattle.book.specs.Fields.{Holds}
use Rattle.book.specs.Recorded.{Recorded}
use Rattle.book.proofs.Recorded.{recorded_root, recorded_word}
use Rattle.merging.specs.Merging.{beside_tree, rooted_tree}

module _ (first second : List ℕ) (r a b s : ℕ) where
  -- holders: the second's root by b, the first's by a
  pub holder_second : (m : ℕ) → m ≡ s → b ≡ machine_field (rooted_tree first second r a b s) m 0
  unfolding under_new_root edited beside word
  holder_second m e = rw (eq-eqb m s e)

  pub holder_first : (m : ℕ) → (m ≡ s → ⊥) → m ≡ (tree_of first).root → a ≡ machine_field (rooted_tree first second r a b s) m 0
  unfolding under_new_root edited beside word
  holder_first m other e = rw (ne_eqb m s other, eq-eqb m (tree_of first).root e)

  pub holder_else : (m : ℕ) → (m ≡ s → ⊥) → (m ≡ (tree_of first).root → ⊥)
      → machine_field (beside_tree first second s) m 0 ≡ machine_field (rooted_tree first second r a b s) m 0
  unfolding under_new_root edited beside
  holder_else m other also = rw (ne_eqb m s other, ne_eqb m (tree_of first).root also)

  -- starts: the new root's is a
  pub start_root : (m : ℕ) → m ≡ r → a ≡ machine_field (rooted_tree first second r a b s) m 1
  unfolding under_new_root edited beside word
  start_root m e = rw (eq-eqb m r e)

  pub start_else : (m : ℕ) → (m ≡ r → ⊥) → machine_field (beside_tree first second s) m 1 ≡ machine_field (rooted_tree first second r a b s) m 1
  unfolding under_new_root edited beside
  start_else m other = rw (ne_eqb m r other)

  -- owners: a and b belong to the new root
  pub owner_second : (n : ℕ) → n ≡ b → r ≡ node_field (rooted_tree first second r a b s) n 0
  unfolding under_new_root edited beside word
  owner_second n e = rw (eq-eqb n b e)

  pub owner_first : (n : ℕ) → (n ≡ b → ⊥) → n ≡ a → r ≡ node_field (rooted_tree first second r a b s) n 0
  unfolding under_new_root edited beside word
  owner_first n other e = rw (ne_eqb n b other, eq-eqb n a e)

  pub owner_else : (n : ℕ) → (n ≡ b → ⊥) → (n ≡ a → ⊥)
      → node_field (beside_tree first second s) n 0 ≡ node_field (rooted_tree first second r a b s) n 0
  unfolding under_new_root edited beside
  owner_else n other also = rw (ne_eqb n b other, ne_eqb n a also)

  -- machines below: b holds the second's root, a the first's
  pub below_second : (n : ℕ) → n ≡ b → s ≡ node_field (rooted_tree first second r a b s) n 1
  unfolding under_new_root edited beside word
  below_second n e = rw (eq-eqb n b e)

  pub below_first : (n : ℕ) → (n ≡ b → ⊥) → n ≡ a → (tree_of first).root ≡ node_field (rooted_tree first second r a b s) n 1
  unfolding under_new_root edited beside word
  below_first n other e = rw (ne_eqb n b other, eq-eqb n a e)

  pub below_else : (n : ℕ) → (n ≡ b → ⊥) → (n ≡ a → ⊥)
      → node_field (beside_tree first second s) n 1 ≡ node_field (rooted_tree first second r a b s) n 1
  unfolding under_new_root edited beside
  below_else n other also = rw (ne_eqb n b other, ne_eqb n a also)

  -- transitions are those of the two trees
  transition_else : (n x : ℕ)
      → transition_word ((beside_tree first second s).transition n x) ≡ node_field (rooted_tree first second r a b s) n (suc (suc x))
  unfolding under_new_root edited beside
  transition_else n x = refl

  -- and so are leaving costs, a new root's being 0, and holds
  pub leave_else : (m : ℕ) → (beside_tree first second s).leave m ≡ (rooted_tree first second r a b s).leave m
  unfolding under_new_root edited beside
  leave_else m = refl

  pub hold_else : (n : ℕ) → (beside_tree first second s).hold n ≡ (rooted_tree first second r a b s).hold n
  unfolding under_new_root edited beside
  hold_else n = refl

  -- a transition more of node n
  pub recorded_transition : (n x w : ℕ) {ws after : List ℕ} → Recorded ws (rooted_tree first second r a b s) machines n (x + 2)
      → Holds after (with_transition (tree_of ws) n x (transition_of w)) → w ≡ transition_word ((beside_tree first second s).transition n x)
      → Recorded after (rooted_tree first second r a b s) machines n (x + 1 + 2)
  recorded_transition n x w {ws} {after} less stored e =
      let t = rooted_tree first second r a b s in
      let at : x + 2 ≡ suc (suc x) = omega arith in
      let on : suc (suc x) + 1 ≡ x + 1 + 2 = omega arith in
      subst (λ k. Recorded after t machines n k) on
      (recorded_word {v = w} (subst (λ k. Recorded ws t machines n k) at less) stored (e ∙ transition_else n x))

  -- the root
  pub recorded_rooted : (ws : List ℕ) {after : List ℕ} → Holds after (with_root (tree_of ws) r) → Recorded after (rooted_tree first second r a b s) 0 0 0
  unfolding under_new_root edited beside
  recorded_rooted ws stored = recorded_root ws (rooted_tree first second r a b s) stored
