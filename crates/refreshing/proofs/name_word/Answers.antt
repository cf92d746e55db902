-- `refreshing::name_word` meets its contract: the word for no name, or the node at the place. Assumes nothing.
use mathlib.Core.Path.{refl}
use Rattle.refreshing.proofs.Nodes.{name_blank, name_fits, name_there}
use Rattle.refreshing.proofs.name_word.Goals as goal

pub returns-then-v-eq-ABSENT : goal.returns-then-v-eq-ABSENT
returns-then-v-eq-ABSENT c = name_blank c.args.members.now c.if-v-eq-ABSENT.true

pub bounds-members-v : goal.bounds-members-v
bounds-members-v c =
    name_fits c.requires c.if-v-eq-ABSENT.false

pub returns : goal.returns
returns c =
    name_there c.requires c.if-v-eq-ABSENT.false refl
