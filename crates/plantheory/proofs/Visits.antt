-- The states that a list of commands passes, for two lists in a row: the states before each command of the first, and then those that
-- the second passes. And lists in a row of which no element stands twice. Assumes nothing.
use mathlib.Core.Path.{◌≡◌, refl, sym, ◌∙◌, ap, fun_ext}
use mathlib.Core.Option.{Option, none, some}
use mathlib.Core.List.{[], List, ◌∷◌, ◌++◌, append_assoc}
use Prim.Native.Nat.{ℕ}
use Rattle.definitions.specs.Basics.{option, All, Distinct}
use Rattle.definitions.specs.Tree.{Tree}
use Rattle.definitions.specs.Step.{Arrival, step_in, run_in}
use Rattle.definitions.proofs.Options.{some_same}
use Rattle.definitions.proofs.Runs.{run_first, run_nil}
use Rattle.definitions.proofs.Simple.{trail, all_both}

-- ---- lists in a row

-- every element has a property that follows from one that every element has
pub all_map : {A : Type 0} (P Q : A → Type 0) → ((a : A) → P a → Q a) → (l : List A) → All P l → All Q l
all_map P Q f l all = all_both P P Q (λ a p q. f a p) l all all

-- every element of two lists in a row has a property
pub all_append : {A : Type 0} (P : A → Type 0) (xs ys : List A) → All P xs → All P ys → All P (xs ++ ys)
all_append P [] ys p q = q
all_append P (x ∷ xs) ys p q = (p.0, all_append P xs ys p.1 q)

-- no element stands twice in two lists in a row where none does in either, and what the one holds is never what the other holds
pub distinct_append : (P Q : ℕ → Type 0) → ((i j : ℕ) → P i → Q j → i ≡ j → ⊥) → (xs ys : List ℕ) → Distinct xs → Distinct ys
    → All P xs → All Q ys → Distinct (xs ++ ys)
distinct_append P Q apart [] ys dx dy px qy = dy
distinct_append P Q apart (x ∷ xs) ys dx dy px qy = (
  all_append (λ k. x ≡ k → ⊥) xs ys dx.0 (all_map Q (λ k. x ≡ k → ⊥) (λ k q. apart x k px.0 q) ys qy),
  distinct_append P Q apart xs ys dx.1 dy px.1 qy,
)

-- ---- the states before each command

-- the states from which a list gives its commands, with transitions in machine top or below it
unfoldable pub visits : Tree → ℕ → ℕ → List ℕ → List ℕ
visits t top s [] = []
visits t top s (x ∷ xs) = s ∷ option [] (λ a. visits t top a.node xs) (step_in t top s x)

visits_cons : (t : Tree) (top s x : ℕ) (xs : List ℕ) {a : Arrival} → step_in t top s x ≡ some a
    → visits t top s (x ∷ xs) ≡ s ∷ visits t top a.node xs
unfolding visits
visits_cons t top s x xs e = rw e

pub visits_nil : (t : Tree) (top s : ℕ) → visits t top s [] ≡ []
unfolding visits
visits_nil t top s = refl

-- two lists in a row
visits_append : (t : Tree) (top s : ℕ) (xs ys : List ℕ) {a : Arrival} → run_in t top s xs ≡ some a
    → visits t top s (xs ++ ys) ≡ visits t top s xs ++ visits t top a.node ys
visits_append t top s [] ys e =
    rw (visits_nil t top s) (ap (λ (a : Arrival). visits t top a.node ys) (some_same (run_nil (step_in t top) s) e))
visits_append t top s (x ∷ xs) ys {a} e =
    let first = run_first (step_in t top) s x xs e in
    visits_cons t top s x (xs ++ ys) first.step
    ∙ ap (λ (l : List ℕ). s ∷ l) (visits_append t top first.mid.node xs ys first.rest)
    ∙ ap (λ (l : List ℕ). l ++ visits t top first.end.node ys) (sym (visits_cons t top s x xs first.step))
    ∙ ap (λ (z : Arrival). visits t top s (x ∷ xs) ++ visits t top z.node ys) first.joins

-- a list passes the states from which it and one command more are given
visits_last : (t : Tree) (top s : ℕ) (xs : List ℕ) (x : ℕ) → visits t top s (xs ++ (x ∷ [])) ≡ trail t top s xs
unfolding visits trail
visits_last t top s [] x = ap (λ (l : List ℕ). s ∷ l) (go (step_in t top s x))
  where
    go : (o : Option Arrival) → option {B = List ℕ} [] (λ a. []) o ≡ []
    go none = refl
    go (some a) = refl
visits_last t top s (y ∷ xs) x =
    ap (λ (f : ℕ → List ℕ). s ∷ option [] (λ a. f a.node) (step_in t top s y))
    (fun_ext (λ n. visits_last t top n xs x))

-- so two lists in a row pass the states from which the first is given, and then those that the second passes
pub trail_append : (t : Tree) (top s : ℕ) (xs ys : List ℕ) {a : Arrival} → run_in t top s xs ≡ some a
    → trail t top s (xs ++ ys) ≡ visits t top s xs ++ trail t top a.node ys
trail_append t top s xs ys {a} e =
    sym (visits_last t top s (xs ++ ys) 0)
    ∙ ap (visits t top s) (append_assoc xs ys (0 ∷ []))
    ∙ visits_append t top s xs (ys ++ (0 ∷ [])) e
    ∙ ap (λ (l : List ℕ). visits t top s xs ++ l) (visits_last t top a.node ys 0)

-- and with one command more these are the states from which commands are given
pub visits_more : (t : Tree) (top s : ℕ) (xs ys : List ℕ) (x : ℕ) {a : Arrival} → run_in t top s xs ≡ some a
    → visits t top s (xs ++ (ys ++ (x ∷ []))) ≡ visits t top s xs ++ trail t top a.node ys
visits_more t top s xs ys x {a} e =
    visits_append t top s xs (ys ++ (x ∷ [])) e ∙ ap (λ (l : List ℕ). visits t top s xs ++ l) (visits_last t top a.node ys x)
