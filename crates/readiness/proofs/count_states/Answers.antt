-- `readiness::count_states` meets its contract. Assumes nothing.
use mathlib.Core.Path.{refl, ◌∙◌}
use Rattle.std.proofs.Common.{rules}
use Rattle.std.specs.List.{range_with_len}
use Rattle.std.proofs.lemmas.Iterator.{YieldsList-from_range}
use Rattle.std.proofs.lemmas.Iterator.Consumers.{YieldsList-from_filter, count_from_yields_List}
use Rattle.std.proofs.lemmas.List.Sums.{length-filter}
use Rattle.definitions.specs.Limits.{nodes}
use Rattle.definitions.specs.Tree.{is_state}
use Rattle.definitions.specs.Book.{tree_of}
use Rattle.readiness.proofs.Laws.{count_all}
use Rattle.readiness.proofs.count_states.Goals as goal

pub returns : goal.returns
returns c =
    let t = tree_of c.args.book.now in
    count_from_yields_List _ _ c.count.ensures.ran
    (YieldsList-from_filter _ (is_state t) (YieldsList-from_range 0 nodes nodes c.filter.ensures.source refl) c.filter.ensures.closure (λ x b q k. search rules))
    ∙ length-filter (is_state t) (range_with_len 0 nodes)
    ∙ count_all t
