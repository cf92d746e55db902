-- `choosing::choose` meets its contract: the front part that it gives back is the one that `choice` names, and that is within its list.
-- Assumes nothing.
use mathlib.Core.Path.{refl, sym, subst}
use Prim.Native.Nat.{ℕ}
use lib.Seq.{length-take-le}
use Rattle.definitions.specs.Choose.{first, second, ChoiceSays}
use Rattle.choosing.proofs.Says.{says_within}
use Rattle.choosing.proofs.choose.Goals.{In-Ok-First, In-Ok-Second}
use Rattle.choosing.proofs.choose.Goals as goal

-- what `choice` says where it chooses
says_first : (c : In-Ok-First) → let a = c.args in ChoiceSays a.book.now a.a a.b a.first.now a.second.now (first c.in-Ok-First.n) 0
says_first c = rw c.in-Ok-First.field-0-is at c.in-Ok-First.ensures

says_second : (c : In-Ok-Second) → let a = c.args in ChoiceSays a.book.now a.a a.b a.first.now a.second.now (second c.in-Ok-Second.n) 0
says_second c = rw c.in-Ok-Second.field-0-is at c.in-Ok-Second.ensures

pub slice_bounds-result-end : goal.slice_bounds-result-end
slice_bounds-result-end c =
    let a = c.args in
    sym
    (length-take-le c.in-Ok-First.n a.first.now
    (says_within a.book.now a.a a.b a.first.now a.second.now (says_first (goal.at.slice_bounds-result-end c).In-Ok-First)).0)

pub slice_bounds-result-end-in-Ok-Second : goal.slice_bounds-result-end-in-Ok-Second
slice_bounds-result-end-in-Ok-Second c =
    let a = c.args in
    sym
    (length-take-le c.in-Ok-Second.n a.second.now
    (says_within a.book.now a.a a.b a.first.now a.second.now (says_second (goal.at.slice_bounds-result-end-in-Ok-Second c).In-Ok-Second)).0)

pub returns-in-Ok-Second : goal.returns-in-Ok-Second
returns-in-Ok-Second c = (second c.in-Ok-Second.n, says_second (goal.at.returns-in-Ok-Second c).In-Ok-Second, refl, refl)

pub returns-in-Err : goal.returns-in-Err
returns-in-Err c =
    let a = c.args in
    let says : ℕ → Type 0 = ChoiceSays a.book.now a.a a.b a.first.now a.second.now (first 0) in
    (first 0, subst says (sym c.number.ensures) c.in-Err.ensures, refl, refl)
