-- `book::machine_word` meets its contract: the index is the one that the layout gives. Assumes nothing.
use mathlib.Core.Path.{sym, ◌∙◌, ap}
use Prim.Native.Nat.{ℕ}
use native.Mathlib.Omega.{arith}
use lib.ListN.{get_or}
use Rattle.definitions.specs.Book.{machine_word}
use Rattle.definitions.proofs.Words.{tree_of_machine}
use Rattle.book.proofs.machine_word.Goals as goal

pub returns : goal.returns
unfolding machine_word
returns c =
    let a = c.args in
    let p = c.requires in
    ap (λ (i : ℕ). get_or a.book.now i 0) (omega arith) ∙ sym (tree_of_machine a.book.now a.m a.k p.1 p.2)
