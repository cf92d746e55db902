-- `lines::next_line` meets its contract: the end, a plan, or a refused command. Assumes nothing.
use mathlib.Core.Path.{◌≡◌, sym, ◌∙◌, ap, subst}
use Prim.Native.Nat.{ℕ}
use Rattle.std.proofs.Common.{Some}
use Rattle.refusals.proofs.Judging.{number_positive}
use Rattle.loading.specs.Loading.{number_in}
use Rattle.lines.specs.Meaning.{Stopped}
use Rattle.lines.proofs.Turns.{refused_inside, says_end, says_stopped}
use Rattle.lines.proofs.next_line.Goals.{In_ok-why}
use Rattle.lines.proofs.next_line.Goals as goal

-- what stands where no command is taken is refused
refused : (c : In_ok-why) → number_in c.take_commands-to.result.refusal ≡ 0 → ⊥
refused c e = number_positive c.in_ok-why.why (sym (ap number_in c.in_ok-why.was) ∙ e)

pub returns-in_err-why : goal.returns-in_err-why
returns-in_err-why c = rw c.from_residual.ensures (says_end c.take_commands-to.ensures (ap number_in c.in_err-why.was) c.args.list.now)

pub bounds-input-to : goal.bounds-input-to
bounds-input-to c = refused_inside c.take_commands-to.ensures (refused (goal.at.bounds-input-to c).In_ok-why)

pub stop_turn-requires : goal.stop_turn-requires
stop_turn-requires c =
    (refused_inside c.take_commands-to.ensures (refused (goal.at.stop_turn-requires c).In_ok-why), c.requires.3)

pub returns : goal.returns
returns c =
    says_stopped c.take_commands-to.ensures (refused (goal.at.returns c).In_ok-why) c.if-input-to-eq-PLAN.false
    (subst (λ (k : ℕ). Stopped c.args.input.now c.take_commands-to.result.at k c.args.list.now (Some c.stop_turn.result) c.stop_turn.new.list)
    (sym (ap number_in c.in_ok-why.was)) c.stop_turn.ensures)
