-- `merging::renumber` meets its contract: the lists of used numbers say which move and which are taken. Assumes nothing.
use mathlib.Core.Path.{◌∙◌}
use Rattle.definitions.specs.Book.{tree_of}
use Rattle.merging.specs.Merging.{size_of, used_of}
use Rattle.merging.proofs.Beside.{size_fits}
use Rattle.merging.proofs.Flags.{told_to, told_from, told_next, told_after, number_ranked}
use Rattle.merging.proofs.renumber.Goals as goal

pub returns : goal.returns
returns g c =
    let a = c.args in
    let size = size_of a.kind in
    let p = used_of a.kind (tree_of a.second.now) in
    let q = used_of a.kind (tree_of a.first.now) in
    let moving = c.marks-moving.ensures in
    let kept = c.marks-kept.ensures in
    record {
      there = told_to size p q moving kept c.moves-next.ensures.told;
      back = told_from size p q moving kept c.moves.ensures.told;
      next = c.number.ensures ∙ number_ranked size _ _ (size_fits a.kind) (told_next size p q moving kept c.moves-next.ensures.next);
      last = c.number-2.ensures ∙ number_ranked size _ _ (size_fits a.kind) (told_after size p q moving kept c.moves-next.ensures.next c.after-after.ensures);
    }
