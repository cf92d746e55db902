-- Demand 2, its last clause: the stream that Write gives for a book, loaded into any holding whose book is well formed and sheet true,
-- leaves the same book, every machine in use marked and all blank. Assumes nothing.
use mathlib.Core.Path.{◌≡◌, refl, sym, ap, ◌∙◌}
use mathlib.Core.List.{[], List, ◌∷◌}
use Prim.Native.Nat.{ℕ}
use lib.ListN.{length, take}
use Rattle.definitions.specs.Tree.{Tree}
use Rattle.definitions.specs.Sheet.{Rows, rows_of, encode_rows}
use Rattle.definitions.specs.Book.{tree_of, WellFormed, encode}
use Rattle.definitions.specs.Load.{load}
use Rattle.definitions.specs.Open.{open_rows}
use Rattle.definitions.specs.Answer.{gives, refuses}
use Rattle.definitions.specs.Calls.{book_refusals, LoadAnswer, LoadDone}
use Rattle.definitions.specs.Write.{written, WriteSays}
use Rattle.definitions.specs.Demand.{SameBook}
use Rattle.definitions.proofs.Answers.{given_refused, list_given, in_order_done, load_done}
use Rattle.definitions.proofs.Words.{well_formed_words}
use Rattle.samebook.proofs.Back.{WrittenBack, written_back}

-- what Write's answer says
pub wrote : (book out out' : List ℕ) (size : ℕ) → WriteSays book out (gives (size ∷ [])) out'
    → WellFormed book × (size ≡ length (written (tree_of book))) × (take size out' ≡ written (tree_of book))
wrote book out out' size says =
    let (passed, given) =
    in_order_done (book_refusals book []) refl {R = λ k. (gives (size ∷ []) ≡ refuses k) × (out' ≡ out)}
    (λ k other refused. given_refused refl refused.0) says in
    let (counted, stream) = list_given (written (tree_of book)) out out' size given in
    (passed.1.0, counted, stream)

-- the clause, where the book that is written is known to be well formed
back : (u : Tree) {r : Rows} {book book' sheet' : List ℕ} {answer : LoadAnswer} → WellFormed book
    → LoadDone u r (load u (written (tree_of book))) answer book' sheet'
    → (answer.bytes ≡ length (written (tree_of book))) × (answer.number ≡ 0) × (book' ≡ book)
    × (sheet' ≡ encode_rows (open_rows (tree_of book)))
back u {r} {book} formed done =
    let w : WrittenBack (tree_of book) u = written_back formed.sound u in (
      ap (λ (a : LoadAnswer). a.bytes) done.answered ∙ w.bytes,
      ap (λ (a : LoadAnswer). a.number) done.answered ∙ w.number,
      done.book ∙ ap encode w.tree ∙ well_formed_words book formed,
      done.sheet ∙ ap encode_rows (w.rows r done.rows done.done),
    )

pub same_book : SameBook
same_book book out out' other sheet book' sheet' size answer says formed true_sheet load_says =
    let (well, counted, stream) = wrote book out out' size says in
    let done : LoadDone (tree_of other) (rows_of sheet) (load (tree_of other) (written (tree_of book))) answer book' sheet' =
    rw stream at (load_done other sheet formed true_sheet (take size out') load_says) in
    let (bytes, number, same, rows) = back (tree_of other) well done in
    (bytes ∙ sym counted, number, same, rows)
