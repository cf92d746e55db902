-- The refusals of this crate's functions, and what is known where none is met.
use Rattle.std.specs.Prelude.{◌≡◌, false, List, ◌∷◌, ℕ}
use Rattle.std.proofs.Math.Option.{none}
use Rattle.definitions.specs.Tree.{UsedNode}
use Rattle.definitions.specs.Book.{tree_of, WellFormed}
use Rattle.definitions.specs.Sheet.{rows_of}
use Rattle.definitions.specs.Truth.{TrueSheet}
use Rattle.definitions.specs.Answer.{Refusal}
use Rattle.definitions.specs.Calls.{sheet_refusals, none_stale, state_refusals}

-- the refusals 1, 2, 3, 13, and then others
abbrev pub fresh_refusals : List ℕ → List ℕ → List Refusal → List Refusal
fresh_refusals book sheet rest = sheet_refusals book sheet (none_stale (rows_of sheet) ∷ rest)

-- the same, then 6, 7, 14, and then others
abbrev pub between_refusals : List ℕ → List ℕ → ℕ → ℕ → List Refusal → List Refusal
between_refusals book sheet a b rest = fresh_refusals book sheet (state_refusals (tree_of book) a b rest)

-- past those: a holding in which nothing is stale, and two states of it
pub record Ready (book sheet : List ℕ) (a b : ℕ) : Type 0 where
  pub formed : WellFormed book
  pub true_sheet : TrueSheet (tree_of book) sheet
  pub fresh : (m : ℕ) → (rows_of sheet).stale m ≡ false
  pub used_a : UsedNode (tree_of book) a
  pub plain_a : (tree_of book).below a ≡ none
  pub used_b : UsedNode (tree_of book) b
  pub plain_b : (tree_of book).below b ≡ none
