-- `writing::all_arrows` meets its contract: its pieces are what is written of each node. Assumes nothing.
use Rattle.std.proofs.Common.{rules, arith, ◌+◌, ◌^◌, ◌<◌}
use Rattle.definitions.specs.Book.{tree_of}
use Rattle.writing.specs.Meaning.{written_arrows}
use Rattle.storing.proofs.Pieces.{joined_short}
use Rattle.writing.proofs.Laws.{arrows_short}
use Rattle.writing.proofs.all_arrows.Goals as goal

pub put_each-requires : goal.put_each-requires
put_each-requires c =
    let t = tree_of c.args.book.now in (
      written_arrows t,
      λ i p out more place.
          let short = joined_short 128 i (written_arrows t) (arrows_short t) in
          let room : p + 128 < 2 ^ 64 = omega arith in
          search rules,
      λ i p end out out' more place e. search rules,
    )

pub returns : goal.returns
returns c =
    c.put_each.ensures (written_arrows (tree_of c.args.book.now)) (λ i p end out out' more place e. search rules)
