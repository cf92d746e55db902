-- What Load says of a holding that is lent an empty stream, and Write of its stream's length. Assumes nothing.
use mathlib.Core.Path.{◌≡◌, ◌∙◌, ap, subst}
use mathlib.Core.Logic.{inl, inr}
use mathlib.Core.List.{[], List, ◌∷◌}
use Prim.Native.Nat.{ℕ, ◌≤◌}
use native.Mathlib.Omega.{arith}
use lib.ListN.{length, length-take}
use Rattle.definitions.specs.Tree.{Tree}
use Rattle.definitions.specs.Book.{tree_of, encode, WellFormed}
use Rattle.definitions.specs.Sheet.{rows_of, encode_rows}
use Rattle.definitions.specs.Truth.{TrueSheet}
use Rattle.definitions.specs.Load.{Outcome, load, stopped}
use Rattle.definitions.specs.Answer.{gives, Refusal, InOrder}
use Rattle.definitions.specs.Calls.{sheet_refusals, LoadAnswer, LoadDone, LoadSays}
use Rattle.definitions.specs.Write.{WriteSays}
use Rattle.definitions.proofs.Streams.{next_nothing, load_end}
use Rattle.definitions.proofs.Words.{well_formed_words, marks_words}
use Rattle.samebook.proofs.Same.{wrote}

-- ---- a holding judged by an empty stream

-- an empty stream does nothing
nothing_done : (t : Tree) → load t [] ≡ stopped 0 t
nothing_done t = load_end t [] (next_nothing t)

-- the number of a Load that is refused at once
number_of : {answer : LoadAnswer} {k : ℕ} → answer ≡ record { bytes = 0; commands = 0; number = k } → answer.number ≡ k
number_of e = ap (λ (a : LoadAnswer). a.number) e

module _ (other sheet : List ℕ) {answer : LoadAnswer} {other' sheet' : List ℕ} where
  -- where it is taken the number is 0 and both lists are as they were
  done_number : LoadDone (tree_of other) (rows_of sheet) (load (tree_of other) []) answer other' sheet' → answer.number ≡ 0
  done_number done =
      ap (λ (a : LoadAnswer). a.number) done.answered ∙ ap (λ (o : Outcome). o.number) (nothing_done (tree_of other))

  done_same : WellFormed other → TrueSheet (tree_of other) sheet
      → LoadDone (tree_of other) (rows_of sheet) (load (tree_of other) []) answer other' sheet' → (other' ≡ other) × (sheet' ≡ sheet)
  done_same formed filled done =
      let still = rw (nothing_done (tree_of other)) at done.done in (
        done.book ∙ ap (λ (o : Outcome). encode o.tree) (nothing_done (tree_of other)) ∙ well_formed_words other formed,
        done.sheet ∙ ap encode_rows still ∙ marks_words sheet filled.length filled.marks,
      )

  -- either way both lists are as they were
  pub judged_same : LoadSays other sheet [] answer other' sheet' → (other' ≡ other) × (sheet' ≡ sheet)
  judged_same (inl (wrong, (e, b, s))) = (b, s)
  judged_same (inr (right, inl (torn, (e, b, s)))) = (b, s)
  judged_same (inr (right, inr (formed, inl (untrue, (e, b, s))))) = (b, s)
  judged_same (inr (right, inr (formed, inr (filled, done)))) = done_same formed filled done

  -- a number that is not 0 is a refusal of this holding, whatever would come after
  pub judged_refused : LoadSays other sheet [] answer other' sheet' → (answer.number ≡ 0 → ⊥) → (rest : List Refusal) (Refused : ℕ → Type 0)
      (Else : Type 0) → Refused answer.number → InOrder (sheet_refusals other sheet rest) Refused Else
  judged_refused (inl (wrong, (e, b, s))) nonzero rest Refused Else p = inl (wrong, subst Refused (number_of e) p)
  judged_refused (inr (right, inl (torn, (e, b, s)))) nonzero rest Refused Else p = inr (right, inl (torn, subst Refused (number_of e) p))
  judged_refused (inr (right, inr (formed, inl (untrue, (e, b, s))))) nonzero rest Refused Else p =
      inr (right, inr (formed, inl (untrue, subst Refused (number_of e) p)))
  judged_refused (inr (right, inr (formed, inr (filled, done)))) nonzero rest Refused Else p = absurd (nonzero (done_number done))

  -- 0: it is a well-formed book with its true sheet
  pub judged_true : LoadSays other sheet [] answer other' sheet' → answer.number ≡ 0 → WellFormed other × TrueSheet (tree_of other) sheet
  judged_true (inl (wrong, (e, b, s))) zero = absurd (omega (arith, number_of e))
  judged_true (inr (right, inl (torn, (e, b, s)))) zero = absurd (omega (arith, number_of e))
  judged_true (inr (right, inr (formed, inl (untrue, (e, b, s))))) zero = absurd (omega (arith, number_of e))
  judged_true (inr (right, inr (formed, inr (filled, done)))) zero = (formed, filled)

-- ---- the copy's stream

-- a stream that is written stands within the output
pub within : (book out : List ℕ) {n : ℕ} {out' : List ℕ} → WriteSays book out (gives (n ∷ [])) out' → n ≤ length out'
within book out {n} {out'} says =
    let (formed, long, bytes) = wrote book out out' n says in
    omega (arith, ap length bytes, length-take n out', long)
