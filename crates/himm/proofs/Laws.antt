-- What is stored of an answer. Assumes nothing.
use mathlib.Core.Path.{◌≡◌, refl, sym, ap, ◌∙◌}
use mathlib.Core.List.{List}
use Prim.Native.Nat.{ℕ, zero, suc, ◌≤◌}
use native.Mathlib.Omega.{arith}
use Rattle.std.proofs.Common.{Result, Ok, Err}
use Rattle.definitions.specs.Limits.{longest_list}
use Rattle.definitions.specs.Answer.{Answer, refuses}
use Rattle.definitions.specs.Choose.{first, ChoiceSays}
use Rattle.refusals.specs.Meaning.{number_of, status_of}
use Rattle.refusals.specs.declared.Refusal.{Refusal}
use Rattle.refusals.proofs.Judging.{number_positive}
use Rattle.choosing.specs.Meaning.{choice_of}
use Rattle.choosing.specs.declared.Chosen.{Chosen}
use Rattle.choosing.specs.declared.Chosen.TheVariants.{First, Second}
use Rattle.choosing.proofs.Says.{says_within}
use Rattle.himm.specs.Exports.{words_after, Stored, choice_gives, count_of}

-- a refusal is returned, and every word stays
pub stored_refused : {answer : Answer} {k : ℕ} (old : List ℕ) → answer ≡ refuses k → Stored answer old k old
stored_refused old e = record { returned = ap (λ (a : Answer). a.number) (sym e); words = ap (λ (a : Answer). words_after a.values old) (sym e) }

-- a choice that is refused gives nothing
refused_gives : (k : ℕ) → (k ≡ 0 → ⊥) → choice_gives (first 0) k ≡ refuses k
refused_gives zero nonzero = absurd (nonzero refl)
refused_gives (suc k) nonzero = refl

pub choice_refused : {a : Result Chosen Refusal} {r : Refusal} → a ≡ Err r → choice_gives (choice_of a) (status_of a) ≡ refuses (number_of r)
choice_refused {a} {r} e =
    ap (λ (c : Result Chosen Refusal). choice_gives (choice_of c) (status_of c)) e ∙ refused_gives (number_of r) (number_positive r)

-- how many commands are used fits its word
pub choice_fits : (book : List ℕ) (a b : ℕ) (one two : List ℕ) (r : Result Chosen Refusal) → ChoiceSays book a b one two (choice_of r) (status_of r)
    → count_of (choice_of r) ≤ longest_list
choice_fits book a b one two (Ok (First k)) says = (says_within book a b one two says).1
choice_fits book a b one two (Ok (Second k)) says = (says_within book a b one two says).1
choice_fits book a b one two (Err r) says = omega arith
