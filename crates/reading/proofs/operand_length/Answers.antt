-- `reading::operand_length` meets its contract: its column passes the test, and so says the length of every opcode. Assumes nothing.
use mathlib.Core.Path.{refl, ◌∙◌}
use Rattle.definitions.specs.Stream.{operand_length}
use Rattle.definitions.proofs.Tests.{all_below}
use Rattle.reading.specs.Column.{place}
use Rattle.reading.proofs.Column.{column_right, column_right_lem}
use Rattle.reading.proofs.operand_length.Goals as goal

pub returns : goal.returns
unfolding column_right all_below place operand_length
returns c = c.look_up.ensures ∙ column_right_lem _ refl c.args.op
