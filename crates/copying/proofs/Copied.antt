-- What Write and Load say together of a copy. Assumes nothing.
use mathlib.Core.Path.{◌≡◌, refl}
use mathlib.Core.List.{[], List, ◌∷◌, ◌++◌}
use Prim.Native.Nat.{ℕ}
use lib.ListN.{length, take, drop}
use Rattle.definitions.specs.Book.{tree_of, WellFormed}
use Rattle.definitions.specs.Sheet.{encode_rows}
use Rattle.definitions.specs.Truth.{TrueSheet}
use Rattle.definitions.specs.Open.{open_rows}
use Rattle.definitions.specs.Answer.{Answer, gives, refuses, Refusal, asks_room}
use Rattle.definitions.specs.Calls.{book_refusals, LoadAnswer, LoadSays}
use Rattle.definitions.specs.Write.{written, WriteSays}
use Rattle.definitions.proofs.Answers.{given_refused, in_order_map, lent_past, Keeps}
use Rattle.samebook.proofs.Same.{same_book}
use Rattle.copying.specs.Copy.{CopySays}

module _ (book out other sheet : List ℕ) where
  -- what Write refuses, what a refused copy says, and what a copy leaves
  abbrev write_refusals : List Refusal
  write_refusals = book_refusals book (asks_room 15 (length (written (tree_of book))) (length out) ∷ [])

  abbrev Refused : Answer → List ℕ → List ℕ → List ℕ → ℕ → Type 0
  Refused answer out' other' sheet' k = (answer ≡ refuses k) × (out' ≡ out) × (other' ≡ other) × (sheet' ≡ sheet)

  abbrev Copied : Answer → List ℕ → List ℕ → List ℕ → Type 0
  Copied answer out' other' sheet' =
      (answer ≡ gives (length (written (tree_of book)) ∷ []))
      × (out' ≡ written (tree_of book) ++ drop (length (written (tree_of book))) out)
      × (other' ≡ book)
      × (sheet' ≡ encode_rows (open_rows (tree_of book)))

  -- past what is refused, the other book is the same
  pub copied : WellFormed other → TrueSheet (tree_of other) sheet → {n : ℕ} {out' other' sheet' : List ℕ} {answer : LoadAnswer}
      → WriteSays book out (gives (n ∷ [])) out' → LoadSays other sheet (take n out') answer other' sheet'
      → CopySays book out other sheet (gives (n ∷ [])) out' other' sheet'
  copied formed filled {n} {out'} {other'} {sheet'} {answer} says load_says =
      let same = same_book book out out' other sheet other' sheet' n answer says formed filled load_says in
      lent_past other sheet write_refusals (Refused (gives (n ∷ [])) out' other' sheet') (Copied (gives (n ∷ [])) out' other' sheet') formed filled
      (in_order_map write_refusals {R = Keeps (gives (n ∷ [])) out out'} {S = Refused (gives (n ∷ [])) out' other' sheet'}
      {E = Copied (gives (n ∷ [])) out' other' sheet'} (λ j (e, untouched). absurd (given_refused refl e))
      (λ (given, bytes). (given, bytes, same.2, same.3)) says)
