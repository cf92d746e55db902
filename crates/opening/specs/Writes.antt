-- What is written into a tree of a row that claims a machine or has a lower node; and what an opening of known rows leaves.
use Rattle.std.specs.Prelude.{◌≡◌, cond, ◌&&◌, List, [], ◌∷◌, ℕ, eqb, ltb}
use Rattle.std.proofs.Math.Option.{some}
use Rattle.definitions.specs.Limits.{machines, nodes}
use Rattle.definitions.specs.Tree.{Tree, with_holder, with_start_of}
use Rattle.definitions.specs.Edit.{with_transition}
use Rattle.definitions.specs.Book.{encode}
use Rattle.definitions.specs.Sheet.{encode_rows}
use Rattle.definitions.specs.Open.{open_rows}
use Rattle.opening.specs.Rows.{neighbour}
use Rattle.definitions.specs.Answer.{asks, InOrder}
use Rattle.definitions.specs.Calls.{RightLengths}

-- node n as the holder of the machine below it, where that is one
unfoldable pub with_held : Tree → ℕ → ℕ → Tree
with_held t n below = cond (ltb below machines) (with_holder t below (some n)) t

-- node n as the start of its machine, where its row says so
unfoldable pub with_started : Tree → ℕ → ℕ → ℕ → Tree
with_started t n owner start = cond (eqb start 1 && ltb owner machines) (with_start_of t owner (some n)) t

-- the transitions between node n and its next lower node, where that is one
unfoldable pub with_links : Tree → ℕ → ℕ → Tree
with_links t n lower =
    cond (ltb lower nodes) (with_transition (with_transition t n 0 (neighbour (some lower))) lower 1 (neighbour (some n))) t

-- both lists hold the opening of tree t; 1 where one of them has a wrong length, and then nothing is written
abbrev pub OpenedAs : Tree → List ℕ → List ℕ → ℕ → List ℕ → List ℕ → Type 0
OpenedAs t book sheet number book' sheet' =
    InOrder (asks 1 (RightLengths book sheet) ∷ [])
    (λ k. (number ≡ k) × (book' ≡ book) × (sheet' ≡ sheet))
    ((number ≡ 0) × (book' ≡ encode t) × (sheet' ≡ encode_rows (open_rows t)))
