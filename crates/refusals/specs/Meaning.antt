-- What a refusal, and an answer that may be one, says by the documents' number and values.
use Rattle.std.specs.Prelude.{◌≡◌, List, ℕ, Option, Some, None, Result, Ok, Err}
use Rattle.std.proofs.Math.Option as maybe
use Rattle.definitions.specs.Answer.{Answer, gives, refuses, InOrder}
use Rattle.definitions.specs.Answer as asked
use Rattle.refusals.specs.declared.Refusal.{Refusal}

-- the number of a refusal
abbrev pub number_of : Refusal → ℕ
number_of Refusal.WrongLength = 1
number_of Refusal.NotWellFormed = 2
number_of Refusal.NotTrue = 3
number_of Refusal.CutShort = 4
number_of Refusal.UnknownOpcode = 5
number_of Refusal.OutOfRange = 6
number_of Refusal.NotInUse = 7
number_of Refusal.InUse = 8
number_of Refusal.AlreadyRefined = 9
number_of Refusal.IsStart = 10
number_of Refusal.OtherMachine = 11
number_of Refusal.TooDeep = 12
number_of Refusal.Stale = 13
number_of Refusal.NotPlain = 14
number_of Refusal.NoRoom = 15
number_of Refusal.NoWay = 16
number_of Refusal.Stops = 17
number_of Refusal.NoArrival = 18
number_of Refusal.TooFewLeft = 19
number_of Refusal.BadTiming = 20
number_of Refusal.StartHeld = 21
number_of Refusal.PastLimit = 22
number_of Refusal.LimitTooLarge = 23
number_of Refusal.BadDepth = 24

-- the number of what is done, 0, or of a refusal
abbrev pub status_of : {A : Type 0} → Result A Refusal → ℕ
status_of (Ok a) = 0
status_of (Err r) = number_of r

-- what is judged has the first of the refusals that is met, and none where each is passed
abbrev pub Judged : {A : Type 0} → List asked.Refusal → Result A Refusal → Type 0
Judged rs r = InOrder rs (λ k. status_of r ≡ k) (status_of r ≡ 0)

-- the answer that gives these values of what is done, or refuses
abbrev pub answered : {A : Type 0} → (A → List ℕ) → Result A Refusal → Answer
answered values (Ok a) = gives (values a)
answered values (Err r) = refuses (number_of r)

-- a value that may not be there
abbrev pub value_of : {A : Type 0} → Option A → maybe.Option A
value_of (Some a) = maybe.some a
value_of None = maybe.none
