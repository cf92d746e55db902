-- The customer's demand 2, its last clause, as one call: a book is written, and its stream loaded into another holding leaves the same
-- book there.
use Rattle.std.specs.Prelude.{◌≡◌, List, [], ◌∷◌, ◌++◌, ℕ, length, drop}
use Rattle.definitions.specs.Book.{tree_of}
use Rattle.definitions.specs.Sheet.{encode_rows}
use Rattle.definitions.specs.Open.{open_rows}
use Rattle.definitions.specs.Answer.{Answer, gives, refuses, asks_room, InOrder}
use Rattle.definitions.specs.Calls.{book_refusals, sheet_refusals}
use Rattle.definitions.specs.Write.{written}

-- It refuses what Load refuses of the other holding (1, 2, 3), then what Write refuses (1, 2, 15), with nothing changed. Else the stream
-- stands at the front of the output, the other book has the same words, and every machine in use is marked in its sheet, all else blank.
abbrev pub CopySays : List ℕ → List ℕ → List ℕ → List ℕ → Answer → List ℕ → List ℕ → List ℕ → Type 0
CopySays book out other sheet answer out' other' sheet' =
    InOrder (sheet_refusals other sheet (book_refusals book (asks_room 15 (length (written (tree_of book))) (length out) ∷ [])))
    (λ k. (answer ≡ refuses k) × (out' ≡ out) × (other' ≡ other) × (sheet' ≡ sheet))
    ((answer ≡ gives (length (written (tree_of book)) ∷ []))
    × (out' ≡ written (tree_of book) ++ drop (length (written (tree_of book))) out)
    × (other' ≡ book)
    × (sheet' ≡ encode_rows (open_rows (tree_of book))))
