-- `merging::write_node` meets its contract: the owner, the machine below, then the transitions and the hold. Assumes nothing.
use mathlib.Core.Path.{◌∙◌}
use Rattle.book.proofs.Recorded.{recorded_word, recorded_node}
use Rattle.merging.proofs.Rooted.{hold_else}
use Rattle.merging.proofs.write_node.Goals as goal

pub returns : goal.returns
returns c =
    let h = c.args.h in
    let owned = recorded_word {k = 0} c.requires.7 c.set_owner.ensures c.merged_owner-owner.ensures in
    let had =
    c.write_transitions.ensures h.root h.first h.second h.top
    (recorded_word {k = 1} owned c.set_below.ensures c.merged_below-below.ensures) in
    recorded_node had c.set_hold.ensures
    (c.beside_charge-hold.ensures h.top
    ∙ hold_else c.args.first.now c.args.second.now h.root h.first h.second h.top c.args.n)
