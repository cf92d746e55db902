-- `merging::write_machines` meets its contract. The loop's invariant: the book has the records of the machines under `m`. Assumes nothing.
use mathlib.Core.Path.{◌∙◌}
use Rattle.book.proofs.Recorded.{recorded_machine}
use Rattle.merging.proofs.Rooted.{leave_else}
use Rattle.merging.proofs.write_machines.Goals as goal

pub loop-m-preserved : goal.loop-m-preserved
loop-m-preserved c =
    let h = c.args.h in
    recorded_machine c.loop-m.invariant c.set_holder.ensures c.set_start.ensures c.set_leave.ensures
    c.merged_holder-holder.ensures c.merged_start-start.ensures
    (c.beside_charge-leave.ensures h.top
    ∙ leave_else c.args.first.now c.args.second.now h.root h.first h.second h.top c.loop-m.m)
