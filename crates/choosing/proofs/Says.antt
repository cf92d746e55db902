-- The part chosen is within its list. Assumes nothing.
use mathlib.Core.Path.{◌≡◌, refl, sym, ap, subst}
use mathlib.Core.Bool.{Bool, true, false, cond}
use mathlib.Core.Option.{Option, none, some}
use mathlib.Core.List.{[], List, ◌∷◌}
use Prim.Native.Nat.{ℕ, suc, ◌+◌, ◌≤◌}
use native.Mathlib.Omega.{arith}
use lib.Dec.{eqb, ltb}
use lib.ListN.{length, take, length-take}
use Rattle.definitions.specs.Basics.{◌>>=◌}
use Rattle.definitions.specs.Limits.{commands, longest_list}
use Rattle.definitions.specs.Tree.{Tree}
use Rattle.definitions.specs.Step.{Arrival, step}
use Rattle.definitions.specs.Book.{tree_of}
use Rattle.definitions.specs.Answer.{wants}
use Rattle.definitions.specs.Calls.{book_refusals, state_refusals}
use Rattle.definitions.specs.Choose.{Used, used_part, used_of, Choice, first, second, cheaper, cheaper_of, ChoiceSays}
use Rattle.definitions.proofs.Answers.{in_order_done}
use Rattle.definitions.proofs.Options.{bind_some, none_some, some_same}

-- with the number 0 the choice is the cheaper part
says_done : (book : List ℕ) (a b : ℕ) (one two : List ℕ) {choice : Choice} → ChoiceSays book a b one two choice 0
    → cheaper_of (tree_of book) a b one two ≡ some choice
says_done book a b one two {choice} says =
    let t = tree_of book in
    (in_order_done (book_refusals book (state_refusals t a b (wants 18 (cheaper_of t a b one two) ∷ []))) refl
    {R = λ (k : ℕ). (choice ≡ first 0) × ◌≡◌ {A = ℕ} 0 k} (λ k other refused. other (sym refused.1)) says).1.0

-- equal used parts count the same
counted : {u v : Used} → ◌≡◌ {A = Option Used} (some u) (some v) → u.count ≡ v.count
counted e = ap (λ (w : Used). w.count) (some_same refl e)

-- no more commands are used than the list has
pub part_short : (t : Tree) (b s : ℕ) (xs : List ℕ) {u : Used} → used_part t b s xs ≡ some u → u.count ≤ length xs
unfolding used_part
part_short t b s [] {u} e = go (eqb s b) e
  where
    go : (arrived : Bool) → cond arrived (some (record { count = 0; cost = 0 })) none ≡ some u → u.count ≤ 0
    go true e = omega (arith, counted e)
    go false e = absurd (none_some refl e)
part_short t b s (x ∷ xs) {u} e = go (λ s₁ v. part_short t b s₁ xs {u = v}) (eqb s b) (ltb x commands) (step t s x) e
  where
    go : ((s₁ : ℕ) (v : Used) → used_part t b s₁ xs ≡ some v → v.count ≤ length xs) → (arrived inside : Bool) (o : Option Arrival)
        → cond arrived (some (record { count = 0; cost = 0 }))
        (cond inside (o >>= λ m. used_part t b m.node xs >>= λ v. some (record { count = suc v.count; cost = m.cost + v.cost })) none)
        ≡ some u
        → u.count ≤ suc (length xs)
    go shorter true inside o e = omega (arith, counted e)
    go shorter false false o e = absurd (none_some refl e)
    go shorter false true none e = absurd (none_some refl e)
    go shorter false true (some m) e =
        let (v, part, same) = bind_some (used_part t b m.node xs) _ e in
        omega (arith, shorter m.node v part, counted same)

-- so many commands are a front part of a list, no longer than what Choose looks at
abbrev pub Front : List ℕ → ℕ → Type 0
Front xs k = (k ≤ length xs) × (k ≤ longest_list)

-- the used part of a list is such a front part
used_short : (t : Tree) (a b : ℕ) (xs : List ℕ) {u : Used} → used_of t a b xs ≡ some u → Front xs u.count
used_short t a b xs e =
    let short = part_short t b a (take longest_list xs) e in
    (omega (arith, short, length-take longest_list xs), omega (arith, short, length-take longest_list xs))

-- and so is what a choice takes of its list
abbrev pub Within : List ℕ → List ℕ → Choice → Type 0
Within one two (first k) = Front one k
Within one two (second k) = Front two k

-- the cheaper of two used parts is within its list where both are, and so is what is chosen with the number 0
cheaper_within : (one two : List ℕ) (o p : Option Used) → ((u : Used) → o ≡ some u → Front one u.count)
    → ((v : Used) → p ≡ some v → Front two v.count) → {choice : Choice} → cheaper o p ≡ some choice → Within one two choice
cheaper_within one two none none f g e = absurd (none_some refl e)
cheaper_within one two (some u) none f g e = subst (Within one two) (some_same refl e) (f u refl)
cheaper_within one two none (some v) f g e = subst (Within one two) (some_same refl e) (g v refl)
cheaper_within one two (some u) (some v) f g e = subst (Within one two) (some_same refl e) (go (ltb v.cost u.cost))
  where
    go : (dearer : Bool) → Within one two (cond dearer (second v.count) (first u.count))
    go true = g v refl
    go false = f u refl

pub says_within : (book : List ℕ) (a b : ℕ) (one two : List ℕ) {choice : Choice} → ChoiceSays book a b one two choice 0 → Within one two choice
says_within book a b one two says =
    let t = tree_of book in
    cheaper_within one two (used_of t a b one) (used_of t a b two) (λ u e. used_short t a b one e) (λ v e. used_short t a b two e)
    (says_done book a b one two says)
