-- `writing::all_levels` meets its contract: its pieces are what is written of each level. Assumes nothing.
use Rattle.std.proofs.Common.{rules, arith, ◌+◌, ◌^◌, ◌<◌}
use Rattle.definitions.specs.Book.{tree_of}
use Rattle.writing.specs.Meaning.{written_level}
use Rattle.storing.proofs.Pieces.{joined_short}
use Rattle.writing.proofs.Laws.{level_short}
use Rattle.writing.proofs.all_levels.Goals as goal

pub put_each-requires : goal.put_each-requires
put_each-requires c =
    let t = tree_of c.args.book.now in (
      written_level t,
      λ i p out more place.
          let short = joined_short 2560 i (written_level t) (level_short t) in
          let room : p + 2560 < 2 ^ 64 = omega arith in
          search rules,
      λ i p end out out' more place e. search rules,
    )

pub returns : goal.returns
returns c =
    c.put_each.ensures (written_level (tree_of c.args.book.now)) (λ i p end out out' more place e. search rules)
