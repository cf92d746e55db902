-- `stepping::step_from` meets its contract: what the climb finds is entered. Assumes nothing.
use mathlib.Core.Path.{refl, sym, subst}
use mathlib.Core.Logic.{inl, inr}
use Rattle.definitions.specs.Book.{tree_of}
use Rattle.definitions.proofs.Answers.{done_step}
use Rattle.definitions.specs.Step.{climb}
use Rattle.stepping.specs.Meaning.{ClimbSays}
use Rattle.stepping.proofs.Laws.{target_used, step_found, acting_found, step_passed}
use Rattle.stepping.proofs.step_from.Goals as goal

pub returns-in_default : goal.returns-in_default
returns-in_default c =
    let t = tree_of c.args.book.now in
    let (left, up) = subst (λ r. ClimbSays r (climb t t.root c.args.s c.args.x)) c.in_default.is c.climb.ensures in
    let stop = step_passed t c.args.s c.args.x (sym up) in
    done_step c.args.book.now c.requires.0 c.requires.1 c.requires.3 c.requires.2 (inl (stop, refl))

pub enter-requires : goal.enter-requires
enter-requires c =
    let t = tree_of c.args.book.now in
    let up = subst (λ r. ClimbSays r (climb t t.root c.args.s c.args.x)) c.in-Some.is c.climb.ensures in
    (c.requires.0, target_used t c.args.s c.args.x c.requires.0.sound (sym up))

pub returns : goal.returns
returns c =
    let t = tree_of c.args.book.now in
    let up = subst (λ r. ClimbSays r (climb t t.root c.args.s c.args.x)) c.in-Some.is c.climb.ensures in
    let moved = step_found t c.args.s c.args.x (sym up) c.enter.ensures in
    let acts = acting_found t c.args.s c.args.x (sym up) in
    done_step c.args.book.now c.requires.0 c.requires.1 c.requires.3 c.requires.2 (inr ((_, moved), (_, moved, _, acts, refl)))
