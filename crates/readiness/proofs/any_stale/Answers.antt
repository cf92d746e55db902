-- `readiness::any_stale` meets its contract. Assumes nothing.
use mathlib.Core.Path.{refl}
use Rattle.std.proofs.Common.{rules}
use Rattle.std.proofs.lemmas.Iterator.{YieldsList-from_range}
use Rattle.std.proofs.lemmas.Iterator.Search.{any_from_yields_List}
use Rattle.definitions.specs.Limits.{machines}
use Rattle.definitions.specs.Sheet.{rows_of}
use Rattle.readiness.proofs.Laws.{decides_stale}
use Rattle.readiness.proofs.any_stale.Goals as goal

pub returns : goal.returns
returns c =
    decides_stale c.args.sheet.now
    (any_from_yields_List (rows_of c.args.sheet.now).stale _ _ _ c.any.ensures.ran (YieldsList-from_range 0 machines machines refl refl) (λ x b q k. search rules))
