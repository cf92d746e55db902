-- `turning::turn_by_node` meets its contract: the sections of a book by node, one after the other. Assumes nothing.
use mathlib.Core.Path.{sym, ◌∙◌}
use Rattle.definitions.specs.ByCommand.{by_node}
use Rattle.definitions.proofs.Turned.{node_length, node_front, node_behind}
use Rattle.turning.proofs.Laws.{front_none, front_all, at_zero}
use Rattle.turning.proofs.turn_by_node.Goals as goal

pub all_records-requires : goal.all_records-requires
all_records-requires c =
    let vs = c.args.from.now in (
      c.requires.0,
      c.copy.ensures (by_node vs) (front_none (c.requires.1 ∙ sym (node_length vs c.requires.0))) (λ i h. sym (node_front vs c.requires.0 i h) ∙ sym (at_zero (by_node vs) i)),
    )

pub returns : goal.returns
returns c =
    let vs = c.args.from.now in
    front_all (sym (node_length vs c.requires.0))
    (c.copy-2.ensures (by_node vs) c.all_records.ensures (λ i h. sym (node_behind vs c.requires.0 i)))
