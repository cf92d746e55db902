-- `expanding::name` meets its contract: the word at a node's place is the word of its name. Assumes nothing.
use mathlib.Core.Path.{sym, ◌∙◌, ap}
use lib.ListN.{get_or}
use Rattle.definitions.specs.Limits.{nodes}
use Rattle.definitions.specs.Book.{word, number}
use Rattle.definitions.proofs.Words.{under_in, word_number}
use Rattle.search.specs.Search.{name_of}
use Rattle.expanding.proofs.name.Goals as goal

pub returns : goal.returns
unfolding name_of
returns c =
    let w = get_or c.args.list.now c.args.v 0 in
    sym (ap word (under_in nodes c.args.v (number w) c.requires.1) ∙ word_number w)
