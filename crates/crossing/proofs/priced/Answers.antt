-- `crossing::priced` meets its contract: the word for nothing has the word for absent as its node. Assumes nothing.
use Rattle.sheet.proofs.Exits.{exits_none, exits_some}
use Rattle.inheriting.specs.Inheriting.{way_of}
use Rattle.inheriting.proofs.Inheriting.{way_entry}
use Rattle.crossing.proofs.Tabling.{priced_never}
use Rattle.crossing.proofs.priced.Goals as goal

pub returns-in-Some : goal.returns-in-Some
returns-in-Some c =
    rw (exits_some c.requires.0 c.in-Some.is).0 (way_entry c.args.w c.in-Some.e c.requires.1)

pub returns-in-None : goal.returns-in-None
returns-in-None c =
    rw (exits_none c.requires.0 c.in-None.is) (priced_never 0 (way_of c.args.w))
