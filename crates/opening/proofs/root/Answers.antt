-- `opening::root` meets its contract: r is the last machine passed that is in use and that no node holds. Assumes nothing.
use mathlib.Core.Path.{◌≡◌, refl, sym, ◌∙◌, ap}
use Prim.Native.Nat.{ℕ}
use native.Mathlib.Numerals.{add-one}
use native.Mathlib.Omega.{arith}
use Rattle.definitions.specs.Limits.{machines}
use Rattle.definitions.specs.Book.{word, tree_of}
use Rattle.opening.specs.Rows.{last_under, free, root_of}
use Rattle.opening.proofs.Last.{last_pass, last_skip}
use Rattle.opening.proofs.root.Goals.{then-is_free, else-is_free}
use Rattle.opening.proofs.root.Goals as goal

pub loop-m-init : goal.loop-m-init
unfolding word last_under
loop-m-init c = refl

pub loop-m-preserved : goal.loop-m-preserved
unfolding word
loop-m-preserved c =
    let loop = c.loop-m in
    let p = free (tree_of c.args.book.now) in
    let test = sym c.is_free.ensures in
    rw (add-one loop.m)
    (elim c.if-is_free.branch [
      | then-is_free w ↦ w.r-is ∙ ap word (sym (last_pass loop.m p (test ∙ w.if-is_free.true)))
      | else-is_free w ↦ w.r-is ∙ loop.invariant ∙ ap word (sym (last_skip loop.m p (test ∙ w.if-is_free.false)))
    ])

pub returns : goal.returns
unfolding root_of
returns c =
    let all : c.loop-m.m ≡ machines = omega arith in
    c.loop-m.invariant ∙ ap (λ (k : ℕ). word (last_under k (free (tree_of c.args.book.now)))) all
