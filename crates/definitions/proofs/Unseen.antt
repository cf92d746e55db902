-- W-210's claim: what is below a node may be replaced unseen. Assumes nothing.
use mathlib.Core.Path.{◌≡◌, sym, ◌∙◌, ap, subst}
use mathlib.Core.Logic.{⊎_elim}
use mathlib.Core.Bool.{true, false, not, or-true}
use mathlib.Core.Option.{Option, none, some}
use mathlib.Core.List.{List}
use Prim.Native.Nat.{ℕ, ◌≤◌, ◌<◌}
use native.Mathlib.Omega.{arith}
use lib.Dec.{eqb}
use borrow.Author.Tests.{ne_eqb, not-true}
use Rattle.definitions.specs.Basics.{is_some, any_of}
use Rattle.definitions.specs.Tree.{Tree, Sound, within}
use Rattle.definitions.specs.Step.{Moves}
use Rattle.definitions.specs.Limits.{commands}
use Rattle.definitions.specs.Costs.{LeastCost, ExitCost}
use Rattle.definitions.specs.Book.{tree_of}
use Rattle.definitions.specs.Sheet.{rows_of}
use Rattle.definitions.specs.Truth.{TrueSheet}
use Rattle.definitions.proofs.Options.{and_true, is_some_true, is_some_false, true_false, none_some, least_one}
use Rattle.definitions.proofs.Path.{deep, path_on, Inside, own, deeper}
use Rattle.definitions.proofs.Simple.{state_test}
use Rattle.definitions.proofs.Commands.{within_self}
use Rattle.definitions.specs.Replaced.{AlikeBut, and_leaving, SameExits, Outside, ReplacedUnseen, BooksUnseen, SheetsUnseen}
use Rattle.definitions.proofs.Pruned.{Out, out_owner, out_within, out_or_inside, out_owned, out_too, out_below}
use Rattle.definitions.proofs.Simulated.{follows}

-- what is inside the machine below n is within n
inside_within : {t : Tree} → Sound t → {n m d : ℕ} → t.below n ≡ some m → Inside t m d → within t n d ≡ true
unfolding within any_of
inside_within {t} sound {n} {m} {d} bel (own o) = rw (path_on sound o (sound.below_held n m bel), within_self t n) (or-true (eqb n d))
inside_within {t} sound {n} {m} {d} bel (deeper o apart hold inner) = rw (path_on sound o hold, inside_within sound bel inner) (or-true (eqb n d))

-- a state that is not within n is a node that is not below it
outside_out : {t : Tree} → Sound t → {n m : ℕ} (a : ℕ) → t.below n ≡ some m → Outside t n a → Out t n a
outside_out {t} sound {n} {m} a bel (state, off) =
    let (p, o) = is_some_true (t.owner a) (and_true (is_some (t.owner a)) (not (is_some (t.below a))) state).0 in
    let (f, used) = sound.owner_used a p o in
    let (k, small, way) = deep sound used in
    ⊎_elim (λ at. at) (λ inner. absurd (true_false (inside_within sound bel inner) off)) (out_or_inside sound bel o way)

-- and it is plain, so it is not n
outside_plain : (t : Tree) (n a : ℕ) → Outside t n a → t.below a ≡ none
outside_plain t n a (state, off) =
    is_some_false (t.below a) (not-true (is_some (t.below a)) (and_true (is_some (t.owner a)) (not (is_some (t.below a))) state).1)

module _ {t u : Tree} (sound : Sound t) (sound_too : Sound u) {n m k : ℕ} (but : AlikeBut t u n m k) where
  -- it is such a state of the other tree too
  outside_too : (a : ℕ) → Outside t n a → Outside u n a
  outside_too a at =
      let place = outside_out sound a but.refined at in
      let (p, o) = out_owner place in
      let plain = outside_plain t n a at in
      let other : a ≡ n → ⊥ = λ same. none_some plain (ap t.below same ∙ but.refined) in (
        state_test u (out_owned sound sound_too n but.alike place o) (sym (out_below sound sound_too n but.alike place other) ∙ plain),
        out_within sound_too (out_too sound sound_too n but.alike place) ∙ ne_eqb n a (λ e. other (sym e)),
      )

  -- whatever t does between two such states, u does for no more
  no_dearer : SameExits t u m k → (a b : ℕ) → Outside t n a → Outside t n b → (xs : List ℕ) (c : ℕ) → Moves t a b xs c
      → (ys : List ℕ) × (d : ℕ) × Moves u a b ys d × (d ≤ c)
  no_dearer exits a b at to xs c moves =
      let got = follows sound sound_too but exits (outside_out sound a but.refined at) xs moves (outside_out sound b but.refined to) in
      (got.list, got.at.cost, got.runs ∙ ap (λ (e : ℕ). some (record { node = e; cost = got.at.cost })) got.ends, got.small)

-- least costs of u from those of t, where each does for no more what the other does
same_least : (t u : Tree) (a b : ℕ)
    → ((xs : List ℕ) (c : ℕ) → Moves t a b xs c → (ys : List ℕ) × (d : ℕ) × Moves u a b ys d × (d ≤ c))
    → ((xs : List ℕ) (c : ℕ) → Moves u a b xs c → (ys : List ℕ) × (d : ℕ) × Moves t a b ys d × (d ≤ c))
    → (o : Option ℕ) → LeastCost t a b o → LeastCost u a b o
same_least t u a b there back none never = λ c (xs, moves). let (ys, d, way, small) = back xs c moves in never d (ys, way)
same_least t u a b there back (some c) ((xs, moves), least) =
    let (ys, d, way, small) = there xs c moves in
    let (zs, e, again, less) = back ys d way in
    let same : d ≡ c = omega (arith, small, less, least e (zs, again)) in (
      (ys, subst (Moves u a b ys) same way),
      λ f (ws, other). let (vs, g, mine, cheap) = back ws f other in omega (arith, cheap, least g (vs, mine)),
    )

pub replaced_unseen : ReplacedUnseen
replaced_unseen t u n m k sound sound_too but exits =
    let but_too : AlikeBut u t n k m = record { alike = sym but.alike; refined = but.refined_too; refined_too = but.refined } in
    let exits_too : SameExits u t k m = λ x range o p one two. sym (exits x range p o two one) in
    let there = no_dearer sound sound_too but exits in
    let back = no_dearer sound_too sound but_too exits_too in
    let over = outside_too sound sound_too but in
    record {
      states = λ a. (over a, outside_too sound_too sound but_too a);
      costs =
          λ a b at to o. (
            same_least t u a b (there a b at to) (back a b (over a at) (over b to)) o,
            same_least u t a b (back a b (over a at) (over b to)) (there a b at to) o,
          );
    }

pub books_unseen : BooksUnseen
books_unseen first second n m k formed formed_too but exits = replaced_unseen (tree_of first) (tree_of second) n m k formed.sound formed_too.sound but exits

-- a true sheet has the exit costs of an unmarked machine
sheet_exit : {t : Tree} {sheet : List ℕ} → TrueSheet t sheet → {m s : ℕ} → t.start m ≡ some s → (rows_of sheet).stale m ≡ false → (x : ℕ) → x < commands → (o : Option ℕ)
    → ExitCost t m x o → o ≡ (rows_of sheet).exit m x
sheet_exit {t} {sheet} true_sheet {m} {s} used full x range o cost = least_one _ o ((rows_of sheet).exit m x) cost ((true_sheet.rows.filled m s used full).exit x range)

pub sheets_unseen : SheetsUnseen
sheets_unseen first second sheet sheet_too n m k formed formed_too but true_sheet true_too full full_too words =
    let t = tree_of first in
    let u = tree_of second in
    let (s, used) = formed.sound.held_used m n (formed.sound.below_held n m but.refined) in
    let (s_too, used_too) = formed_too.sound.held_used k n (formed_too.sound.below_held n k but.refined_too) in
    books_unseen first second n m k formed formed_too but
    (λ x range o p one two.
    ap (and_leaving t m) (sheet_exit true_sheet used full x range o one)
    ∙ words x range
    ∙ sym (ap (and_leaving u k) (sheet_exit true_too used_too full_too x range p two)))
