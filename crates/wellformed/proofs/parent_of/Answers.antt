-- `wellformed::parent_of` meets its contract: the machine above is the owner of the holder. Assumes nothing.
use Rattle.wellformed.proofs.Reading.{tree_of_read, parent_word}
use Rattle.wellformed.proofs.parent_of.Goals as goal

pub returns : goal.returns
returns c =
    let a = c.args in
    parent_word (tree_of_read a.book.now) a.m c.holder_of.ensures c.owner_of.ensures
