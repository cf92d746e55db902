-- `writing::refines` meets its contract: its pieces are what is written of each node. Assumes nothing.
use Rattle.std.proofs.Common.{rules, arith, ◌+◌, ◌^◌, ◌<◌}
use Rattle.definitions.specs.Book.{tree_of}
use Rattle.definitions.specs.Write.{written_refine}
use Rattle.storing.proofs.Pieces.{joined_short}
use Rattle.writing.proofs.Laws.{refine_short}
use Rattle.writing.proofs.refines.Goals as goal

pub put_each-requires : goal.put_each-requires
put_each-requires c =
    let t = tree_of c.args.book.now in (
      written_refine t c.args.l,
      λ i p out more place.
          let short = joined_short 6 i (written_refine t c.args.l) (refine_short t c.args.l) in
          let room : p + 6 < 2 ^ 64 = omega arith in
          search rules,
      λ i p end out out' more place e. search rules,
    )

pub returns : goal.returns
returns c =
    c.put_each.ensures (written_refine (tree_of c.args.book.now) c.args.l) (λ i p end out out' more place e. search rules)
