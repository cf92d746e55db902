-- The whole run meets demand 3 for every list of streams, of any number and length: its ends can be written down. Assumes nothing.
use mathlib.Core.Path.{◌≡◌}
use mathlib.Core.Logic.{inl, inr}
use mathlib.Core.List.{List}
use Prim.Native.Nat.{ℕ}
use lib.ListN.{length}
use Rattle.definitions.specs.Limits.{plan_buffer}
use Rattle.definitions.specs.Tree.{Tree}
use Rattle.definitions.specs.Load.{expected}
use Rattle.definitions.specs.Open.{Opening, ComesOf}
use Rattle.definitions.specs.Answer.{Answer}
use Rattle.definitions.specs.Calls.{open_refusals}
use Rattle.definitions.specs.Demand.{with_refresh}
use Rattle.definitions.proofs.Answers.{Passed, in_order_all, one_outcome, both_ways, open_exclusive}
use Rattle.definitions.proofs.Tables.{comes_one}
use Rattle.wholerun.specs.Ends.{together, ends_of}
use Rattle.wholerun.specs.WholeRun.{RunAnswered, Run, ran, refused, RunSays}
use Rattle.wholerun.proofs.Ends.{ends_formed, ends_streams}

-- where the opening refuses nothing
pub every_list : (o : Opening) (t : Tree) → ComesOf o t → (streams : List (List ℕ)) (book sheet : List ℕ) (a b : ℕ) (buffer : List ℕ) {run : Run}
    {book' sheet' buffer' : List ℕ} → length buffer ≡ plan_buffer → Passed (open_refusals o book sheet)
    → RunSays o book sheet (together streams) (ends_of 0 streams) a b buffer run book' sheet' buffer'
    → (answer : Answer) × (run ≡ ran answer) × RunAnswered (expected t (with_refresh streams)) a b buffer answer book' sheet' buffer'
every_list o t comes streams book sheet a b buffer room opens (inl wrong) = absurd (wrong.0 room)
every_list o t comes streams book sheet a b buffer room opens (inr (long, inl wrong)) = absurd (wrong.0 (ends_formed streams))
every_list o t comes streams book sheet a b buffer {run} {book'} {sheet'} {buffer'} room opens (inr (long, inr (formed, says))) =
    both_ways
    (one_outcome (open_refusals o book sheet) (open_exclusive o book sheet)
    {R = λ k. (run ≡ refused k) × (book' ≡ book) × (sheet' ≡ sheet) × (buffer' ≡ buffer)} {S = λ k. ⊥} says
    (in_order_all (λ k. ⊥) Unit (open_refusals o book sheet) opens tt))
    (λ k said never. absurd never) (λ (u, too, answered) all. rw (ends_streams streams, comes_one o u t too comes) at answered)
