-- What is judged with `?`: a refusal is that of the call, whatever would come after, and past it every refusal is passed. Assumes nothing.
use mathlib.Core.Path.{◌≡◌, refl, subst}
use mathlib.Core.Bool.{true}
use mathlib.Core.List.{List, ◌++◌}
use Prim.Native.Nat.{ℕ}
use native.Mathlib.Omega.{arith}
use Rattle.std.proofs.Common.{Result, Ok, Err}
use Rattle.definitions.specs.Answer.{InOrder}
use Rattle.definitions.specs.Answer as asked
use Rattle.definitions.proofs.Answers.{Passed, numbered}
use Rattle.definitions.proofs.Answers as law
use Rattle.refusals.specs.Meaning.{number_of, Judged}
use Rattle.refusals.specs.declared.Refusal.{Refusal}

-- no refusal has the number 0
pub number_positive : (r : Refusal) → number_of r ≡ 0 → ⊥
number_positive Refusal.WrongLength e = omega (arith, e)
number_positive Refusal.NotWellFormed e = omega (arith, e)
number_positive Refusal.NotTrue e = omega (arith, e)
number_positive Refusal.CutShort e = omega (arith, e)
number_positive Refusal.UnknownOpcode e = omega (arith, e)
number_positive Refusal.OutOfRange e = omega (arith, e)
number_positive Refusal.NotInUse e = omega (arith, e)
number_positive Refusal.InUse e = omega (arith, e)
number_positive Refusal.AlreadyRefined e = omega (arith, e)
number_positive Refusal.IsStart e = omega (arith, e)
number_positive Refusal.OtherMachine e = omega (arith, e)
number_positive Refusal.TooDeep e = omega (arith, e)
number_positive Refusal.Stale e = omega (arith, e)
number_positive Refusal.NotPlain e = omega (arith, e)
number_positive Refusal.NoRoom e = omega (arith, e)
number_positive Refusal.NoWay e = omega (arith, e)
number_positive Refusal.Stops e = omega (arith, e)
number_positive Refusal.NoArrival e = omega (arith, e)
number_positive Refusal.TooFewLeft e = omega (arith, e)
number_positive Refusal.BadTiming e = omega (arith, e)
number_positive Refusal.StartHeld e = omega (arith, e)
number_positive Refusal.PastLimit e = omega (arith, e)
number_positive Refusal.LimitTooLarge e = omega (arith, e)
number_positive Refusal.BadDepth e = omega (arith, e)

-- Refusals judged before others: one that is met is answered, whatever would come after; where none is, each is passed.
module _ {A : Type 0} (rs : List asked.Refusal) {a : Result A Refusal} (judged : Judged rs a) where
  pub judged_err : {r : Refusal} → a ≡ Err r → (ss : List asked.Refusal) (R : ℕ → Type 0) (D : Type 0) → R (number_of r) → InOrder (rs ++ ss) R D
  judged_err {r} e ss R D p = law.judged_met rs (subst (Judged rs) e judged) (number_positive r) ss R D p

  pub judged_ok : {x : A} → a ≡ Ok x → numbered rs ≡ true → Passed rs
  judged_ok e nonzero = law.judged_passed rs (subst (Judged rs) e judged) nonzero refl
