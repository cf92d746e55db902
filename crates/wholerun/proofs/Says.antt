-- The whole run's answer, refusal by refusal: what each way out of the call has to show. Assumes nothing.
use mathlib.Core.Path.{◌≡◌, refl, sym, ◌∙◌}
use mathlib.Core.Logic.{inr}
use mathlib.Core.List.{List}
use Prim.Native.Nat.{ℕ}
use lib.ListN.{length}
use Rattle.definitions.specs.Limits.{plan_buffer}
use Rattle.definitions.specs.Tree.{Tree}
use Rattle.definitions.specs.Load.{expected}
use Rattle.definitions.specs.Open.{Opening, ComesOf}
use Rattle.definitions.specs.Answer.{Answer}
use Rattle.definitions.specs.Calls.{open_refusals, OpenSays}
use Rattle.definitions.specs.Demand.{with_refresh}
use Rattle.wholerun.specs.Ends.{Rising, streams_of}
use Rattle.definitions.proofs.Answers.{in_order_done, in_order_all, open_numbered}
use Rattle.wholerun.specs.WholeRun.{PlanReady, PreparedSays, RunAnswered, ran, refused, RunSays}

-- what a refusal says of the number and both lists
abbrev Untouched : List ℕ → List ℕ → ℕ → List ℕ → List ℕ → ℕ → Type 0
Untouched book sheet number book' sheet' k = (number ≡ k) × (book' ≡ book) × (sheet' ≡ sheet)

-- an opening that does not refuse, whatever is then made ready
module _ (o : Opening) (streams : List (List ℕ)) (book sheet : List ℕ) where
  pub opens : (opened_book opened_sheet : List ℕ) {book' sheet' : List ℕ} → OpenSays o book sheet 0 opened_book opened_sheet
      → ((t : Tree) → ComesOf o t → PlanReady (expected t (with_refresh streams)) book' sheet') → PreparedSays o streams book sheet 0 book' sheet'
  opens opened_book opened_sheet {book'} {sheet'} says ready =
      let (passed, (t, comes, zero, written, filled)) =
      in_order_done (open_refusals o book sheet) (open_numbered o book sheet) {R = Untouched book sheet 0 opened_book opened_sheet}
      (λ k other said. other (sym said.0)) says
      in
      in_order_all (Untouched book sheet 0 book' sheet') ((u : Tree) × ComesOf o u × (◌≡◌ {A = ℕ} 0 0) × PlanReady (expected u (with_refresh streams)) book' sheet')
      (open_refusals o book sheet) passed (t, comes, refl, ready t comes)

module _ (o : Opening) (book sheet bytes ends : List ℕ) (a b : ℕ) (buffer : List ℕ) where
  module _ (right : length buffer ≡ plan_buffer) where
    module _ (rising : Rising 0 ends (length bytes)) {k : ℕ} {book' sheet' : List ℕ} where
      -- none of them
      pub says_answered : {answer : Answer} {buffer' : List ℕ} → k ≡ 0 → PreparedSays o (streams_of 0 ends bytes) book sheet k book' sheet'
          → ((t : Tree) → ComesOf o t → PlanReady (expected t (with_refresh (streams_of 0 ends bytes))) book' sheet'
          → RunAnswered (expected t (with_refresh (streams_of 0 ends bytes))) a b buffer answer book' sheet' buffer')
          → RunSays o book sheet bytes ends a b buffer (ran answer) book' sheet' buffer'
      says_answered {answer} {buffer'} zero says made =
          let (passed, (t, comes, same, ready)) =
          in_order_done (open_refusals o book sheet) (open_numbered o book sheet) {R = Untouched book sheet k book' sheet'}
          (λ j other said. other (sym said.0 ∙ zero)) says
          in
          inr (
            right,
            inr (
              rising,
              in_order_all (λ j. (ran answer ≡ refused j) × (book' ≡ book) × (sheet' ≡ sheet) × (buffer' ≡ buffer))
                  ((u : Tree) × ComesOf o u × ((given : Answer) × (ran answer ≡ ran given)
                  × RunAnswered (expected u (with_refresh (streams_of 0 ends bytes))) a b buffer given book' sheet' buffer'))
                  (open_refusals o book sheet) passed (t, comes, (answer, refl, made t comes ready)),
            ),
          )
