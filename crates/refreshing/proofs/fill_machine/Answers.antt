-- `refreshing::fill_machine` meets its contract: what the search found is written to the nodes' rows and the exits, and the mark is 0.
-- Assumes nothing.
use Rattle.refreshing.proofs.Machine.{searches_writable, searches_near, machine_filled}
use Rattle.refreshing.proofs.fill_machine.Goals as goal

pub write_nodes-requires : goal.write_nodes-requires
write_nodes-requires c =
    let p = c.requires in
    (p.1.length, searches_writable p.0.sound p.3.used.1 c.find-k.ensures p.1.rows p.3)

pub write_exits-requires : goal.write_exits-requires
write_exits-requires c =
    let p = c.requires in
    let done = c.write_nodes.ensures in (
      record { well_formed = p.0; long = done.leaves.length },
      p.2,
      searches_near p.0.sound p.3.used.1 c.find-k.ensures p.1.rows p.3
          (record { same = λ q x other. done.exit q x }),
    )

pub returns : goal.returns
returns c =
    let p = c.requires in
    machine_filled p.0.sound p.1 p.3 c.find-k.ensures c.write_nodes.ensures
    c.write_exits.ensures c.set_stale.ensures
