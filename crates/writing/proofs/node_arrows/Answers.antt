-- `writing::node_arrows` meets its contract: its pieces are what is written of each command. Assumes nothing.
use Rattle.std.proofs.Common.{rules, arith, ◌+◌, ◌^◌, ◌<◌}
use Rattle.definitions.specs.Book.{tree_of}
use Rattle.definitions.specs.Write.{written_arrow}
use Rattle.storing.proofs.Pieces.{joined_short}
use Rattle.writing.proofs.Laws.{arrow_short}
use Rattle.writing.proofs.node_arrows.Goals as goal

pub put_each-requires : goal.put_each-requires
put_each-requires c =
    let t = tree_of c.args.book.now in (
      written_arrow t c.args.n,
      λ i p out more place.
          let short = joined_short 8 i (written_arrow t c.args.n) (arrow_short t c.args.n) in
          let room : p + 8 < 2 ^ 64 = omega arith in
          search rules,
      λ i p end out out' more place e. search rules,
    )

pub returns : goal.returns
returns c =
    c.put_each.ensures (written_arrow (tree_of c.args.book.now) c.args.n) (λ i p end out out' more place e. search rules)
