-- `importing::admitted` meets its contract: the four comparisons are what a timing is asked. Assumes nothing.
use mathlib.Core.Path.{◌≡◌, sym, ◌∙◌}
use mathlib.Core.Bool.{◌&&◌}
use lib.Ieee.{le, of_bits}
use Rattle.definitions.specs.Import.{difference}
use Rattle.definitions.proofs.Options.{and_true, true_false}
use Rattle.book.proofs.Decide.{decides_by}
use Rattle.importing.proofs.Floats.{zero_float, top_float, compared_admitted, admitted_compared, and_first, and_both}
use Rattle.importing.proofs.admitted.Goals.{then-seconds, else-seconds, then-dead, else-dead}
use Rattle.importing.proofs.admitted.Goals as goal

pub returns-then-rest : goal.returns-then-rest
unfolding of_bits
returns-then-rest c =
    let a = c.args in
    let two : c.if-seconds.value ≡ (le zero_float a.seconds && le zero_float a.dead) =
    elim c.if-seconds.branch [ then-seconds w ↦ and_both w.if-seconds.true w.value-is | else-seconds w ↦ and_first _ w.if-seconds.false w.value-is ] in
    let three : c.if-dead.value ≡ (c.if-seconds.value && le zero_float a.rest) =
    elim c.if-dead.branch [ then-dead w ↦ and_both w.if-dead.true w.value-is | else-dead w ↦ and_first _ w.if-dead.false w.value-is ] in
    let (second, third) = and_true c.if-seconds.value (le zero_float a.rest) (sym three ∙ c.if-rest.true) in
    let (first, dead) = and_true (le zero_float a.seconds) (le zero_float a.dead) (sym two ∙ second) in
    rw c.requires
    (decides_by (le (difference a.seconds a.dead) top_float)
    (λ under. compared_admitted a.seconds a.dead first dead (rw c.requires at third) under)
    (λ h. (admitted_compared a.seconds a.dead h).3))

pub returns-else-rest : goal.returns-else-rest
unfolding of_bits
returns-else-rest c =
    let a = c.args in
    let two : c.if-seconds.value ≡ (le zero_float a.seconds && le zero_float a.dead) =
    elim c.if-seconds.branch [ then-seconds w ↦ and_both w.if-seconds.true w.value-is | else-seconds w ↦ and_first _ w.if-seconds.false w.value-is ] in
    let three : c.if-dead.value ≡ (c.if-seconds.value && le zero_float a.rest) =
    elim c.if-dead.branch [ then-dead w ↦ and_both w.if-dead.true w.value-is | else-dead w ↦ and_first _ w.if-dead.false w.value-is ] in
    rw c.if-rest.false
    (λ h.
    let (first, dead, rest, top) = admitted_compared a.seconds a.dead h in
    true_false (three ∙ rw (two, first, dead, c.requires) rest) c.if-rest.false)
