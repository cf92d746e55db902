-- `writing::all_leaves` meets its contract: its pieces are what is written of each machine. Assumes nothing.
use Rattle.std.proofs.Common.{rules, arith, ◌+◌, ◌^◌, ◌<◌}
use Rattle.definitions.specs.Book.{tree_of}
use Rattle.definitions.specs.Write.{written_leave}
use Rattle.storing.proofs.Pieces.{joined_short}
use Rattle.writing.proofs.Laws.{leave_short}
use Rattle.writing.proofs.all_leaves.Goals as goal

pub put_each-requires : goal.put_each-requires
put_each-requires c =
    let t = tree_of c.args.book.now in (
      written_leave t,
      λ i p out more place.
          let short = joined_short 4 i (written_leave t) (leave_short t) in
          let room : p + 4 < 2 ^ 64 = omega arith in
          search rules,
      λ i p end out out' more place e. search rules,
    )

pub returns : goal.returns
returns c =
    c.put_each.ensures (written_leave (tree_of c.args.book.now)) (λ i p end out out' more place e. search rules)
