-- `bycommand::on_turned` meets its contract: the call is made on the book by node, and what it leaves turned back. Assumes nothing.
use mathlib.Core.Path.{refl, sym, ap, ◌∙◌}
use Rattle.std.proofs.Common.{rules, ◌≡◌, length}
use Rattle.definitions.specs.ByCommand.{by_node}
use Rattle.definitions.proofs.Turned.{node_other, turns_back}
use Rattle.bycommand.proofs.on_turned.Goals as goal

pub returns-then-book-ne-TURNED : goal.returns-then-book-ne-TURNED
returns-then-book-ne-TURNED g c =
    let same : length c.call.new.arg2 ≡ length c.args.book.now = search rules in
    let other = c.if-book-ne-TURNED.true in
    (_, _, _, _, c.call.ensures, sym (node_other c.args.book.now other), refl, sym (node_other c.call.new.arg2 (λ e. other (sym same ∙ e))), refl)

pub returns : goal.returns
returns g c =
    (_, _, _, _, c.call-answer.ensures, c.turn_by_node.ensures, refl, sym (ap by_node c.turn_by_command.ensures ∙ (turns_back _).0), refl)
