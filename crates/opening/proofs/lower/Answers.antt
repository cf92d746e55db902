-- `opening::lower` meets its contract: the loop goes down from n, and no node that it passed has n's owner. Assumes nothing.
use Rattle.definitions.specs.Book.{word}
use Rattle.opening.proofs.Reading.{lower_none, lower_last, lower_met, lower_passed}
use mathlib.Core.Path.{◌≡◌, sym, ◌∙◌, ap}
use Prim.Native.Nat.{ℕ}
use native.Mathlib.Omega.{arith}
use Rattle.definitions.specs.Basics.{is_at}
use Rattle.opening.specs.Rows.{last_under, row_owner}
use Rattle.opening.proofs.lower.Goals as goal

pub returns-then-owner-eq-ABSENT : goal.returns-then-owner-eq-ABSENT
unfolding word
returns-then-owner-eq-ABSENT c =
    let a = c.args in
    rw (lower_none a.rows.now a.n (sym c.row-owner.ensures ∙ c.if-owner-eq-ABSENT.true))

pub returns-then-row-owner : goal.returns-then-row-owner
unfolding word
returns-then-row-owner c =
    let a = c.args in
    let owner = c.row-owner in
    let found = lower_met a.rows.now c.loop-i.i owner.result c.if-owner-eq-ABSENT.false (omega arith)
    (sym c.row.ensures ∙ c.if-row-owner.true) in
    sym
    (ap word
    (lower_last a.rows.now a.n owner.result owner.ensures c.if-owner-eq-ABSENT.false ∙ c.loop-i.invariant ∙ found))

pub loop-i-preserved : goal.loop-i-preserved
loop-i-preserved c =
    c.loop-i.invariant
    ∙ lower_passed c.args.rows.now c.loop-i.i c.row-owner.result c.if-owner-eq-ABSENT.false (omega arith)
    (λ e. c.if-row-owner.false (c.row.ensures ∙ e))

pub returns : goal.returns
unfolding word last_under
returns c =
    let a = c.args in
    let owner = c.row-owner in
    let down : c.loop-i.i ≡ 0 = omega arith in
    sym
    (ap word
    (lower_last a.rows.now a.n owner.result owner.ensures c.if-owner-eq-ABSENT.false
    ∙ c.loop-i.invariant
    ∙ ap (λ (k : ℕ). last_under k (λ j. is_at (row_owner a.rows.now j) owner.result)) down))
