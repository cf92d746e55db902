-- `merging::write_book` meets its contract. The loop's invariant: the book has the records of the nodes under `n`. Assumes nothing.
use native.Mathlib.Omega.{arith}
use mathlib.Core.Path.{◌≡◌}
use Rattle.definitions.specs.Limits.{nodes}
use Rattle.book.proofs.Recorded.{recorded_nodes, recorded_all}
use Rattle.merging.proofs.Rooted.{recorded_rooted}
use Rattle.merging.proofs.write_book.Goals as goal

pub write_machines-requires : goal.write_machines-requires
write_machines-requires c =
    let a = c.args in
    let h = a.h in
    let lists = c.requires.0 in (
      lists.first_formed,
      lists.second_formed,
      lists.machines_came,
      lists.nodes_go,
      recorded_rooted a.first.now a.second.now h.root h.first h.second h.top a.book.now c.set_root.ensures,
    )

pub returns : goal.returns
returns c =
    let l = c.loop-n in
    let all : l.n ≡ nodes = omega arith in
    recorded_all (recorded_nodes all l.invariant)
