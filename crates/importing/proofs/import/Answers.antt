-- `importing::import` meets its contract: of seconds taken, there is room for the bytes of arrow, or there is not. Assumes nothing.
use mathlib.Core.Path.{refl, ap}
use mathlib.Core.Logic.{inl, inr}
use mathlib.Core.Option.{some}
use mathlib.Core.List.{[], ◌∷◌}
use Prim.Native.Nat.{ℕ}
use Rattle.definitions.specs.Answer.{gives}
use Rattle.definitions.specs.Import.{difference}
use Rattle.storing.proofs.Laws.{stored_front}
use Rattle.importing.proofs.Rounding.{least_there}
use Rattle.importing.proofs.import.Goals as goal

pub returns-then-out-lt-ARROW_BYTES : goal.returns-then-out-lt-ARROW_BYTES
returns-then-out-lt-ARROW_BYTES c =
    let a = c.args in
    let (cost, least) = least_there (difference c.in-Taken.seconds a.timing.dead_time) in
    let o = some (record { target = a.target; cost = cost }) in
    rw c.in-Taken.is
    (inr (c.if-not-in_range.ensures, inr (c.if-not-admitted.ensures, (o, (cost, least, refl), inl (c.if-out-lt-ARROW_BYTES.true, (refl, refl))))))

pub returns-else-out-lt-ARROW_BYTES : goal.returns-else-out-lt-ARROW_BYTES
returns-else-out-lt-ARROW_BYTES c =
    let a = c.args in
    let (cost, least, stored) = c.put_taken.ensures in
    let (count, front) = stored_front stored c.if-out-lt-ARROW_BYTES.false in
    let o = some (record { target = a.target; cost = cost }) in
    rw c.in-Taken.is
    (inr (
      c.if-not-in_range.ensures,
      inr (
        c.if-not-admitted.ensures,
        (o, (cost, rw c.less-rest.ensures at least, refl), inr (c.if-out-lt-ARROW_BYTES.false, (ap (λ (k : ℕ). gives (k ∷ [])) count, front))),
      ),
    ))
