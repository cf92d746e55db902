-- Exit's answer, refusal by refusal: what ways out of the call have to show. Assumes nothing.
use mathlib.Core.Path.{◌≡◌, refl, subst}
use mathlib.Core.Logic.{inl, inr}
use mathlib.Core.Bool.{false}
use mathlib.Core.Option.{some}
use mathlib.Core.List.{[], List, ◌∷◌}
use Prim.Native.Nat.{ℕ, ◌<◌}
use Rattle.definitions.specs.Limits.{machines, commands, absent, blank}
use Rattle.definitions.specs.Tree.{UsedMachine}
use Rattle.definitions.specs.Costs.{ExitCost}
use Rattle.definitions.specs.Book.{word, tree_of}
use Rattle.definitions.specs.Sheet.{cost_word, rows_of}
use Rattle.definitions.specs.Answer.{Answer, gives, refuses, InOrder}
use Rattle.definitions.specs.Calls.{sheet_refusals, exit_refusals, ExitSays}
use Rattle.definitions.proofs.Answers.{Passed, in_order_after}
use Rattle.definitions.proofs.Words.{present_word, no_start}
use Rattle.sheet.specs.Fields.{Mark}
use Rattle.sheet.proofs.Reading.{rows_of_read, is_filled, cost_said, cost_unsaid}

-- past the refusals 1, 2 and 3
module _ (book sheet : List ℕ) (m x : ℕ) (past : Passed (sheet_refusals book sheet [])) where
  lent : {answer : Answer} → InOrder (exit_refusals (tree_of book) (rows_of sheet) m x) (λ k. answer ≡ refuses k)
      ((c : ℕ) × ExitCost (tree_of book) m x (some c) × (answer ≡ gives (c ∷ []))) → ExitSays book sheet m x answer
  lent {answer} =
      in_order_after (λ k. answer ≡ refuses k) ((c : ℕ) × ExitCost (tree_of book) m x (some c) × (answer ≡ gives (c ∷ [])))
      (sheet_refusals book sheet []) (exit_refusals (tree_of book) (rows_of sheet) m x) past

  module _ (range : (m < machines) × (x < commands)) {f : ℕ} (e : f ≡ word ((tree_of book).start m)) where
    pub says_unused : f ≡ absent → ExitSays book sheet m x (refuses 7)
    says_unused at = lent (inr (range, inl (no_start (tree_of book) past.1.0.sound m e at, refl)))

    module _ (present : f ≡ absent → ⊥) {b : ℕ} (mark : Mark sheet m b) (other : b ≡ 1 → ⊥) where
      -- the machine is in use, and not stale
      used : UsedMachine (tree_of book) m
      used = (f, present_word ((tree_of book).start m) e present)

      filled : (rows_of sheet).stale m ≡ false
      filled = is_filled mark other

      -- the exit cost that the sheet says is the least one
      least : ExitCost (tree_of book) m x ((rows_of sheet).exit m x)
      least = (past.1.1.0.rows.filled m used.0 used.1 filled).exit x range.1

      module _ {c : ℕ} (is : c ≡ cost_word ((rows_of sheet).exit m x)) where
        pub says_no_way : c ≡ blank → ExitSays book sheet m x (refuses 16)
        says_no_way at =
            let never = subst (ExitCost (tree_of book) m x) (cost_unsaid ((rows_of sheet).exit m x) ((rows_of_read sheet).exit m x) is at) least in
            lent (inr (range, inr (used, inr (filled, inl (never, refl)))))

        pub says_costs : (c ≡ blank → ⊥) → ExitSays book sheet m x (gives (c ∷ []))
        says_costs said =
            let cost = subst (ExitCost (tree_of book) m x) (cost_said ((rows_of sheet).exit m x) is said) least in
            lent (inr (range, inr (used, inr (filled, inr ((c, cost), (c, cost, refl))))))
