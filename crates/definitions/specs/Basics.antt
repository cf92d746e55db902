-- Small tools that the definitions share, with no word of document 01 in them.
use Rattle.std.specs.Prelude.{◌≡◌, Bool, true, false, cond, ◌||◌, List, [], ◌∷◌, ◌++◌, ℕ, zero, suc, ◌+◌, ◌≤◌, ◌<◌, eqb}
use Rattle.std.proofs.Math.Option.{Option, none, some}

-- a value as it is
abbrev pub as_it_is : {A : Type 0} → A → A
as_it_is a = a

infixl 20 ◌>>=◌
-- what f gives of the value that o holds; nothing where o holds none
abbrev pub ◌>>=◌ : {A B : Type 0} → Option A → (A → Option B) → Option B
none >>= f = none
some a >>= f = f a

-- what f gives of the value that o holds; d where it holds none
abbrev pub option : {A B : Type 0} → B → (A → B) → Option A → B
option d f none = d
option d f (some a) = f a

-- a value, or another where there is none
abbrev pub or_else : {A : Type 0} → Option A → Option A → Option A
or_else o p = option p some o

-- o, but nothing where the test holds
abbrev pub unless : {A : Type 0} → Bool → Option A → Option A
unless b o = cond b none o

-- whether there is a value
abbrev pub is_some : {A : Type 0} → Option A → Bool
is_some none = false
is_some (some a) = true

-- whether the value is there and is k
abbrev pub is_at : Option ℕ → ℕ → Bool
is_at none k = false
is_at (some n) k = eqb n k

-- f, but v at k
abbrev pub put : {A : Type 0} → (ℕ → A) → ℕ → A → ℕ → A
put f k v n = cond (eqb n k) v (f n)

-- f done k times, each time on what it gave before
unfoldable pub iterate : (ℕ → Option ℕ) → ℕ → ℕ → Option ℕ
iterate f zero n = some n
iterate f (suc k) n = f n >>= iterate f k

-- f 0, f 1, .. up to k of them
unfoldable pub tabulate : {A : Type 0} → ℕ → (ℕ → A) → List A
tabulate zero f = []
tabulate (suc k) f = f 0 ∷ tabulate k (λ i. f (suc i))

-- the lists f 0, f 1, .. up to k of them, one after the other
unfoldable pub joined : {A : Type 0} → ℕ → (ℕ → List A) → List A
joined zero f = []
joined (suc k) f = f 0 ++ joined k (λ i. f (suc i))

-- how many numbers under k pass the test
unfoldable pub count_below : ℕ → (ℕ → Bool) → ℕ
count_below zero p = 0
count_below (suc k) p = cond (p k) 1 0 + count_below k p

-- whether some element of the list passes the test
unfoldable pub any_of : (ℕ → Bool) → List ℕ → Bool
any_of p [] = false
any_of p (n ∷ ns) = p n || any_of p ns

-- whether some number under k passes the test
unfoldable pub any_below : ℕ → (ℕ → Bool) → Bool
any_below zero p = false
any_below (suc k) p = p k || any_below k p

-- every element has the property
abbrev pub All : {A : Type 0} → (A → Type 0) → List A → Type 0
All P [] = Unit
All P (a ∷ rest) = P a × All P rest

-- no element stands twice
abbrev pub Distinct : List ℕ → Type 0
Distinct [] = Unit
Distinct (n ∷ ns) = All (λ k. n ≡ k → ⊥) ns × Distinct ns

-- each element is greater than those before it
abbrev pub Rising : List ℕ → Type 0
Rising [] = Unit
Rising (n ∷ ns) = All (λ k. n < k) ns × Rising ns

-- o is the least number that has the property, none where no number has it
abbrev pub Least : (ℕ → Type 0) → Option ℕ → Type 0
Least P none = (c : ℕ) → P c → ⊥
Least P (some c) = P c × ((d : ℕ) → P d → c ≤ d)
