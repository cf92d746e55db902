-- One entry of the tables of a machine's moves. Assumes nothing.
use mathlib.Core.Path.{◌≡◌, refl, ◌∙◌, ap, ap₂}
use mathlib.Core.Option.{Option, none, some}
use mathlib.Core.List.{List}
use Prim.Native.Nat.{ℕ, ◌+◌, ◌/◌, ◌%◌}
use native.Mathlib.Omega.{arith}
use Rattle.definitions.specs.Limits.{nodes, costs, absent, blank}
use Rattle.definitions.specs.Tree.{Tree, Transition, Sound}
use Rattle.definitions.specs.Step.{counting}
use Rattle.definitions.specs.Book.{transition_word}
use Rattle.definitions.specs.Sheet.{Rows}
use Rattle.definitions.specs.Truth.{node_exit, move}
use Rattle.definitions.proofs.Local.{move_by}
use Rattle.book.proofs.Counts.{no_counting, some_counting, counting_node, counting_sibling}
use Rattle.search.specs.Search.{entry_move}
use Rattle.search.specs.Parts.{at}
use Rattle.search.proofs.Tables.{entry_none, entry_some}
use Rattle.refreshing.specs.Parts.{placed, Placing}

module _ {t : Tree} (sound : Sound t) (r : Rows) (places : List ℕ) (n x : ℕ) {w : ℕ} (says : w ≡ transition_word (counting t n x)) where
  -- a node without a transition has no move
  pub entry_blank : w ≡ blank → entry_move absent 0 ≡ placed (at places) (move t r n x)
  unfolding move
  entry_blank e = entry_none absent 0 refl ∙ rw (no_counting sound n x says e)

  -- nor has one that is never left
  pub entry_never : node_exit t r n x ≡ none → entry_move absent 0 ≡ placed (at places) (move t r n x)
  unfolding move
  entry_never e = go (counting t n x) refl
    where
      go : (o : Option Transition) → counting t n x ≡ o → entry_move absent 0 ≡ placed (at places) (move t r n x)
      go none free = entry_none absent 0 refl ∙ rw free
      go (some a) has = entry_none absent 0 refl ∙ rw (has, e)

  module _ (there : w ≡ blank → ⊥) where
    -- a move
    pub entry_costs : Placing t places n → {e v c : ℕ} → node_exit t r n x ≡ some e → v ≡ at places (w / costs % nodes)
        → c ≡ 0 + e + w % costs → entry_move v c ≡ placed (at places) (move t r n x)
    entry_costs placing {e} {v} {c} exit at_v sum =
        let small = placing.small (w / costs) (counting_sibling sound n x says there) in
        let target : w / costs % nodes ≡ w / costs = omega (arith, counting_node sound n x says there) in
        let here : v ≡ at places (w / costs) = at_v ∙ ap (at places) target in
        let same : c ≡ e + w % costs = omega arith in
        rw (move_by t r n x (some_counting sound n x says there) exit)
        (entry_some v c (omega arith) ∙ ap₂ (λ (u k : ℕ). some (record { node = u; cost = k })) here same)
