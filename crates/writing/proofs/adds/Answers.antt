-- `writing::adds` meets its contract: its pieces are what is written of each node. Assumes nothing.
use Rattle.std.proofs.Common.{rules, arith, ◌+◌, ◌^◌, ◌<◌}
use Rattle.definitions.specs.Book.{tree_of}
use Rattle.definitions.specs.Write.{written_add}
use Rattle.storing.proofs.Pieces.{joined_short}
use Rattle.writing.proofs.Laws.{add_short}
use Rattle.writing.proofs.adds.Goals as goal

pub put_each-requires : goal.put_each-requires
put_each-requires c =
    let t = tree_of c.args.book.now in (
      written_add t c.args.l,
      λ i p out more place.
          let short = joined_short 4 i (written_add t c.args.l) (add_short t c.args.l) in
          let room : p + 4 < 2 ^ 64 = omega arith in
          search rules,
      λ i p end out out' more place e. search rules,
    )

pub returns : goal.returns
returns c =
    c.put_each.ensures (written_add (tree_of c.args.book.now) c.args.l) (λ i p end out out' more place e. search rules)
