-- `stepping::step` meets its contract: each way out shows its refusal, or that none holds. Assumes nothing.
use mathlib.Core.List.{[]}
use mathlib.Core.Path.{refl}
use Rattle.definitions.specs.Book.{tree_of, WellFormed}
use Rattle.definitions.specs.Calls.{book_refusals}
use Rattle.definitions.proofs.Words.{no_below}
use Rattle.refusals.proofs.Judging.{judged_ok}
use Rattle.stepping.proofs.Says.{says_unused, says_refined, is_used}
use Rattle.stepping.proofs.step.Goals.{Else-command-ge-COMMANDS}
use Rattle.stepping.proofs.step.Goals as goal

-- the book is well formed past the first two refusals
formed : (c : Else-command-ge-COMMANDS) → WellFormed c.args.book.now
formed c = (judged_ok (book_refusals c.args.book.now []) c.judge.ensures c.in_ok-judge.was refl).1.0

pub returns-then-owner-eq-ABSENT : goal.returns-then-owner-eq-ABSENT
returns-then-owner-eq-ABSENT c =
    says_unused c.args.book.now c.args.state c.args.command (formed (goal.at.returns-then-owner-eq-ABSENT c).Else-command-ge-COMMANDS) (c.if-state-ge-NODES.false, c.if-command-ge-COMMANDS.false) c.owner.ensures c.if-owner-eq-ABSENT.true

pub returns-then-below-ne-ABSENT : goal.returns-then-below-ne-ABSENT
returns-then-below-ne-ABSENT c =
    says_refined c.args.book.now c.args.state c.args.command (formed (goal.at.returns-then-below-ne-ABSENT c).Else-command-ge-COMMANDS) (c.if-state-ge-NODES.false, c.if-command-ge-COMMANDS.false) c.owner.ensures c.if-owner-eq-ABSENT.false
    c.below.ensures c.if-below-ne-ABSENT.true

pub step_from-requires : goal.step_from-requires
step_from-requires c =
    let w = formed (goal.at.step_from-requires c).Else-command-ge-COMMANDS in (
      w,
      is_used c.args.book.now c.args.state c.args.command w (c.if-state-ge-NODES.false, c.if-command-ge-COMMANDS.false) c.owner.ensures c.if-owner-eq-ABSENT.false,
      no_below (tree_of c.args.book.now) w.sound c.args.state c.below.ensures c.if-below-ne-ABSENT.false,
      c.if-command-ge-COMMANDS.false,
    )
