-- Each call that is lent a book gives the same on either layout (document 02, W-209): there and back changes no word, and the answer is one. Assumes
-- nothing.
use mathlib.Core.Path.{◌≡◌, sym, ap, ap₂, ◌∙◌, subst}
use mathlib.Core.Logic.{inl, inr}
use mathlib.Core.List.{List, ◌∷◌}
use Prim.Native.Nat.{ℕ}
use lib.ListN.{take}
use Rattle.definitions.specs.Answer.{Answer}
use Rattle.definitions.specs.ByCommand.{by_command, by_node, TurnSays, SameGiven, SameLeft, SameAnswers}
use Rattle.definitions.proofs.Answers.{open_one, load_one, exit_one, step_one, SamePlan, no_plan, same_cost, plan_one, write_one, choice_one, choose_one, merge_one}
use Rattle.definitions.proofs.Walks.{open_walkers_one, walk_one}
use Rattle.definitions.proofs.Turned.{turns_back}

-- a call whose answer is one as far as it is fixed
given : {A B : Type 0} (says : List ℕ → A → Type 0) (fixed : A → B) → ((ws : List ℕ) (a b : A) → says ws a → says ws b → fixed a ≡ fixed b)
    → SameGiven says fixed
given says fixed one ws a b by_node_lem by_command_lem =
    let allowed = subst (λ vs. says vs b) (turns_back ws).0 by_command_lem in
    (allowed, one ws a b by_node_lem allowed)

-- and one that leaves a book, of which there is one too
left : {A B : Type 0} (says : List ℕ → A → List ℕ → Type 0) (fixed : A → B)
    → ((ws ws' ws'' : List ℕ) (a b : A) → says ws a ws' → says ws b ws'' → (fixed a ≡ fixed b) × (ws' ≡ ws'')) → SameLeft says fixed
left says fixed one ws ws' vs' a b by_node_lem by_command_lem =
    let allowed = subst (λ vs. says vs b (by_node vs')) (turns_back ws).0 by_command_lem in
    let (same, book) = one ws ws' (by_node vs') a b by_node_lem allowed in
    (allowed, same, sym (turns_back vs').1 ∙ ap by_command (sym book))

-- a turn's number and output are one
pub turn_one : (turn : List ℕ → List ℕ) (from out : List ℕ) {k j : ℕ} {out' out'' : List ℕ} → TurnSays turn from out k out' → TurnSays turn from out j out''
    → (k ≡ j) × (out' ≡ out'')
turn_one turn from out (inl (bad, (a, b))) (inl (too, (c, d))) = (a ∙ sym c, b ∙ sym d)
turn_one turn from out (inl (bad, said)) (inr (good, done)) = absurd (bad good)
turn_one turn from out (inr (good, done)) (inl (bad, said)) = absurd (bad good)
turn_one turn from out (inr (good, (a, b))) (inr (too, (c, d))) = (a ∙ sym c, b ∙ sym d)

-- number and cost of two plans
plan_fixed : {answer other : Answer} → SamePlan answer other → answer.number ∷ take 1 answer.values ≡ other.number ∷ take 1 other.values
plan_fixed (no_plan k one two) = ap (λ (a : Answer). a.number ∷ take 1 a.values) (one ∙ sym two)
plan_fixed (same_cost cost count number one two) =
    ap (λ (a : Answer). a.number ∷ take 1 a.values) one ∙ sym (ap (λ (a : Answer). a.number ∷ take 1 a.values) two)

pair : {A B : Type 0} {a c : A} {b d : B} → (a ≡ c) × (b ≡ d) → ◌≡◌ {A = A × B} (a, b) (c, d)
pair {A} {B} (p, q) = ap₂ (λ (x : A) (y : B). (x, y)) p q

triple : {A B C : Type 0} {a d : A} {b e : B} {c f : C} → a ≡ d → b ≡ e → c ≡ f → ◌≡◌ {A = A × B × C} (a, b, c) (d, e, f)
triple {A} {B} {C} {d = d} {e = e} {c = c} p q r = ap₂ (λ (x : A) (y : B). (x, y, c)) p q ∙ ap (λ (z : C). (d, e, z)) r

pub same_answers : SameAnswers
same_answers =
    record {
      opens = λ o sheet. left _ _ (λ ws ws' ws'' a b p q. let (k, book, rest) = open_one o ws sheet p q in (pair (k, rest), book));
      loads = λ sheet stream. left _ _ (λ ws ws' ws'' a b p q. load_one ws sheet stream p q);
      exits = λ sheet m x. given _ _ (λ ws a b p q. exit_one ws sheet m x p q);
      steps = λ s x. given _ _ (λ ws a b p q. step_one ws s x p q);
      plans = λ sheet a b buffer. given _ _ (λ ws g h p q. plan_fixed (plan_one ws sheet a b buffer p q));
      writes = λ out. given _ _ (λ ws a b p q. pair (write_one ws out p q));
      choice = λ a b one two. given _ _ (λ ws g h p q. pair (choice_one ws a b one two p q));
      chooses =
          λ a b one two here there. given _ _
          (λ ws g h p q. let (part, place, k) = choose_one ws a b one two here there p q in triple part k place);
      merges =
          λ one two sheet. left _ _
          (λ ws ws' ws'' a b p q. let (k, book, rest) = merge_one (by_node one) (by_node two) ws sheet p q in (pair (k, rest), book));
      opens_walkers = λ n k states. given _ _ (λ ws a b p q. open_walkers_one ws n k states p q);
      walks = λ n k states w x. given _ _ (λ ws a b p q. pair (walk_one ws n k states w x p q));
    }
