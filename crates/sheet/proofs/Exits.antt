-- The own exit cost of a node, from the words that `own_exit` looks at. Assumes nothing.
use mathlib.Core.Path.{◌≡◌, refl, sym, ap, ◌∙◌}
use mathlib.Core.Bool.{cond}
use mathlib.Core.Option.{Option, none, some}
use Prim.Native.Nat.{ℕ, ◌+◌, ◌%◌, ◌≤◌, ◌<◌}
use native.Mathlib.Omega.{arith}
use lib.Dec.{eqb}
use borrow.Author.Tests.{eq-eqb, ne_eqb}
use Rattle.definitions.specs.Limits.{machines, absent, blank}
use Rattle.definitions.specs.Tree.{Tree, Sound}
use Rattle.definitions.specs.Book.{word}
use Rattle.definitions.specs.Sheet.{Rows, cost_word}
use Rattle.definitions.specs.Truth.{node_exit}
use Rattle.definitions.proofs.Options.{none_some, some_same}
use Rattle.definitions.proofs.Words.{present_word, below_range, no_below}
use Rattle.definitions.proofs.Local.{exit_plain, exit_refined}
use Rattle.std.proofs.Common.{Some, None}
use Rattle.std.proofs.Common as core
use Rattle.sheet.specs.Exits.{exit_limit, Exits}
use Rattle.refusals.specs.Meaning.{value_of}
use Rattle.sheet.proofs.Reading.{ReadRows, cost_said, cost_unsaid}

-- ---- what the answer says

pub exits_none : {o : Option ℕ} {a : core.Option ℕ} → Exits o a → a ≡ None → o ≡ none
exits_none e never = sym e.is ∙ ap value_of never

pub exits_some : {o : Option ℕ} {a : core.Option ℕ} {c : ℕ} → Exits o a → a ≡ Some c → (o ≡ some c) × (c < exit_limit)
exits_some {c = c} e costs = (sym e.is ∙ ap value_of costs, e.small c (ap value_of costs))

-- ---- how it is found

-- a refined node is never left where the machine below it is not
exit_never : (t : Tree) (r : Rows) (n x : ℕ) {b : ℕ} → t.below n ≡ some b → r.exit b x ≡ none → node_exit t r n x ≡ none
unfolding node_exit
exit_never t r n x bel e = rw (bel, e)

module _ {t : Tree} (s : Sound t) {r : Rows} (read : ReadRows r) (n x : ℕ) {b : ℕ} (below : b ≡ word (t.below n)) where
  -- a plain node is left at no cost
  pub exits_plain : b ≡ absent → {w l : ℕ} → w ≡ 0 → l ≡ cond (eqb b absent) 0 (t.leave (b % machines)) → Exits (node_exit t r n x) (Some (w + l))
  exits_plain z {w} {l} free left =
      let none_left : l ≡ 0 = left ∙ rw (eq-eqb b absent z) in
      let cost : w + l ≡ 0 = omega arith in
      record { is = ap some cost ∙ sym (exit_plain t r n x (no_below t s n below z)); small = λ e f. omega (arith, some_same refl f, cost) }

  -- a refined node is left as the machine below it is, and that machine is left
  module _ (other : b ≡ absent → ⊥) {e : ℕ} (exit : e ≡ cost_word (r.exit (b % machines) x)) where
    holds : t.below n ≡ some b
    holds = present_word (t.below n) below other

    machine : b % machines ≡ b
    machine = omega (arith, (below_range t s n b holds).1)

    below_exit : e ≡ cost_word (r.exit b x)
    below_exit = rw machine at exit

    pub exits_never : e ≡ blank → Exits (node_exit t r n x) None
    exits_never z =
        let free : r.exit b x ≡ none = cost_unsaid (r.exit b x) (read.exit b x) below_exit z in
        record { is = sym (exit_never t r n x holds free); small = λ e f. absurd (none_some refl f) }

    pub exits_costs : (e ≡ blank → ⊥) → {w l : ℕ} → w ≡ e → w ≤ blank → l ≡ cond (eqb b absent) 0 (t.leave (b % machines))
        → Exits (node_exit t r n x) (Some (w + l))
    exits_costs there {w} {l} same small left =
        let exit : node_exit t r n x ≡ some (e + t.leave b) = exit_refined t r n x holds (cost_said (r.exit b x) below_exit there) in
        let there_left : l ≡ t.leave b = left ∙ rw (ne_eqb b absent other, machine) in
        let cost : w + l ≡ e + t.leave b = omega arith in
        record { is = ap some cost ∙ sym exit; small = λ k f. omega (arith, some_same refl f, s.leave_range b) }
