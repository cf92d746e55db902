-- What is promised of a book by node is promised of it by command. Assumes nothing.
use mathlib.Core.Path.{◌≡◌, sym, ◌∙◌, ap, subst}
use mathlib.Core.Logic.{⊎_elim}
use mathlib.Core.List.{List}
use Prim.Native.Nat.{ℕ}
use lib.ListN.{length}
use Rattle.definitions.specs.Limits.{book_length}
use Rattle.definitions.specs.ByCommand.{by_command, by_node}
use Rattle.definitions.proofs.Options.{equal_or_not}
use Rattle.definitions.proofs.Turned.{node_length, node_other, turns_back}

-- of a list of another length, which is handed on as it is
pub as_it_is_lem : (P : List ℕ → Type 0) (book : List ℕ) → (length book ≡ book_length → ⊥) → P book → P (by_node book)
as_it_is_lem P book other says = subst P (sym (node_other book other)) says

-- and where the call writes it
pub left_as_it_is : (P : List ℕ → List ℕ → Type 0) (book book' : List ℕ) → (length book ≡ book_length → ⊥) → length book' ≡ length book → P book book'
    → P (by_node book) (by_node book')
left_as_it_is P book book' other same says =
    as_it_is_lem (P (by_node book)) book' (λ e. other (sym same ∙ e)) (as_it_is_lem (λ ws. P ws book') book other says)

-- of a book that was turned, and turned back after the call
pub turned_back : (P : List ℕ → List ℕ → Type 0) (book : List ℕ) {ws ws' book' : List ℕ} → ws ≡ by_node book → book' ≡ by_command ws' → P ws ws'
    → P (by_node book) (by_node book')
turned_back P book {ws} {ws'} there back says =
    subst (P (by_node book)) (sym (ap by_node back ∙ (turns_back ws').0)) (subst (λ vs. P vs ws') there says)

-- turning changes no length
pub node_same : (vs : List ℕ) → length (by_node vs) ≡ length vs
node_same vs = ⊎_elim (λ len. node_length vs len ∙ sym len) (λ other. ap length (node_other vs other)) (equal_or_not (length vs) book_length)
