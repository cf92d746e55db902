-- `numbering::moves` meets its contract. The loop's invariant: the list has where each number under d moves, and next is where the next
-- one goes. Assumes nothing.
use mathlib.Core.Path.{◌≡◌, sym, subst}
use Prim.Native.Nat.{suc}
use borrow.Author.Tests.{eq-eqb, ne_eqb}
use Rattle.definitions.specs.Basics.{count_below}
use Rattle.definitions.specs.Book.{word}
use Rattle.definitions.specs.Merge.{ranked}
use Rattle.numbering.specs.Tests.{has}
use Rattle.numbering.proofs.Laws.{upto_none, upto_moves, upto_stays}
use Rattle.numbering.proofs.moves.Goals.{then-word-v, else-word-v}
use Rattle.numbering.proofs.moves.Goals as goal

pub loop-d-init : goal.loop-d-init
loop-d-init c =
    let q = has c.args.other.now c.args.w in
    upto_none c.requires.2 (subst (λ l. c.next_from-next.result ≡ word (ranked l q (count_below 0 q))) c.requires.1 c.next_from-next.ensures)

pub loop-d-preserved : goal.loop-d-preserved
loop-d-preserved c =
    let a = c.args in
    let h = c.loop-d-test.true in
    let p = has a.list.now a.v in
    let q = has a.other.now a.w in
    elim c.if-word-v.branch [
      | then-word-v w ↦
          rw (w.out-is, w.next-is)
          (upto_moves c.loop-d.invariant h (eq-eqb _ _ w.if-word-v.true)
          (subst (λ k. w.after-next.result ≡ word (ranked k q (suc (count_below c.loop-d.d p)))) c.requires.1
          (w.after-next.ensures (count_below c.loop-d.d p)
          (subst (λ k. c.loop-d.next ≡ word (ranked k q (count_below c.loop-d.d p))) (sym c.requires.1) c.loop-d.invariant.coming))))
      | else-word-v w ↦ rw (w.out-is, w.next-is) (upto_stays c.loop-d.invariant h (ne_eqb _ _ w.if-word-v.false))
    ]
