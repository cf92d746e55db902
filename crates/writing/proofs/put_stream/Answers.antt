-- `writing::put_stream` meets its contract: begin, the levels, the transitions, the holds and the leaving costs, one after the other. Assumes nothing.
use native.Mathlib.Omega.{arith}
use Rattle.definitions.specs.Book.{tree_of}
use Rattle.definitions.proofs.Words.{start_range}
use Rattle.storing.proofs.Laws.{stored_is, stored_then}
use Rattle.writing.proofs.Laws.{root_range, root_start, levels_short, all_arrows_short, all_holds_short, whole_stream}
use Rattle.writing.proofs.put_stream.Goals as goal

pub put_machine_pair-p-requires : goal.put_machine_pair-p-requires
put_machine_pair-p-requires c =
    let t = tree_of c.args.book.now in
    let st = root_start c.requires.sound c.root-m.ensures c.start-s.ensures in (
      omega arith,
      root_range c.requires.sound c.root-m.ensures,
      omega (arith, (start_range t c.requires.sound t.root c.start-s.result st).1),
    )

pub all_arrows-r-requires : goal.all_arrows-r-requires
all_arrows-r-requires c =
    (c.requires, omega (arith, c.put_machine_pair-p.ensures.place, c.all_levels-q.ensures.place, levels_short (tree_of c.args.book.now)))

pub all_holds-h-requires : goal.all_holds-h-requires
all_holds-h-requires c =
    let t = tree_of c.args.book.now in
    (c.requires, omega (arith, c.put_machine_pair-p.ensures.place, c.all_levels-q.ensures.place, c.all_arrows-r.ensures.place, levels_short t, all_arrows_short t))

pub all_leaves-requires : goal.all_leaves-requires
all_leaves-requires c =
    let t = tree_of c.args.book.now in (
      c.requires,
      omega (
        arith,
        c.put_machine_pair-p.ensures.place,
        c.all_levels-q.ensures.place,
        c.all_arrows-r.ensures.place,
        c.all_holds-h.ensures.place,
        levels_short t,
        all_arrows_short t,
        all_holds_short t,
      ),
    )

pub returns : goal.returns
returns c =
    let st = root_start c.requires.sound c.root-m.ensures c.start-s.ensures in
    stored_is
    (stored_then
    c.put_machine_pair-p.ensures
    (stored_then c.all_levels-q.ensures (stored_then c.all_arrows-r.ensures (stored_then c.all_holds-h.ensures c.all_leaves.ensures))))
    (whole_stream (tree_of c.args.book.now) c.root-m.ensures st)
