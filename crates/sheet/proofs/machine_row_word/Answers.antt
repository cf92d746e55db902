-- `sheet::machine_row_word` meets its contract: the index is the one that the layout gives. Assumes nothing.
use mathlib.Core.Path.{refl}
use Rattle.definitions.specs.Sheet.{machine_row_word}
use Rattle.sheet.proofs.machine_row_word.Goals as goal

pub returns : goal.returns
unfolding machine_row_word
returns c = refl
