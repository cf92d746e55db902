-- A row that no taken command of a stream marked has every word that it had. Assumes nothing.
use mathlib.Core.Path.{◌≡◌, refl, sym, ◌∙◌}
use mathlib.Core.Bool.{false}
use mathlib.Core.Option.{some}
use mathlib.Core.List.{[], List, ◌∷◌}
use Prim.Native.Nat.{ℕ}
use Rattle.definitions.specs.Tree.{Tree}
use Rattle.definitions.specs.Sheet.{Rows}
use Rattle.definitions.specs.Stream.{Edit, Command, edit, refresh}
use Rattle.definitions.specs.Edit.{edited, touches, with_stale, edited_rows}
use Rattle.definitions.specs.Load.{RowsAfterAll}

-- the commands touch machine m nowhere, it is in use after each of them, and node n is one of its nodes all the time
abbrev pub Spared : Tree → List Command → ℕ → ℕ → Type 0
Spared t [] m n = Unit
Spared t (edit e ∷ cs) m n =
    (touches t e m ≡ false) × ((s : ℕ) × ((edited t e).start m ≡ some s)) × ((edited t e).owner n ≡ some m) × Spared (edited t e) cs m n
Spared t (refresh ∷ cs) m n = (t.owner n ≡ some m) × Spared t cs m n

-- the words of machine m's row and of node n's are the same
pub record SameWords (r q : Rows) (m n : ℕ) : Type 0 where
  pub stale : q.stale m ≡ r.stale m
  pub exit : (x : ℕ) → q.exit m x ≡ r.exit m x
  pub last : (x : ℕ) → q.last m x ≡ r.last m x
  pub cost : q.cost n ≡ r.cost n
  pub before : q.before n ≡ r.before n
  pub by : q.by n ≡ r.by n

same_again : {r mid q : Rows} {m n : ℕ} → SameWords r mid m n → SameWords mid q m n → SameWords r q m n
same_again a b =
    record {
      stale = b.stale ∙ a.stale;
      exit = λ x. b.exit x ∙ a.exit x;
      last = λ x. b.last x ∙ a.last x;
      cost = b.cost ∙ a.cost;
      before = b.before ∙ a.before;
      by = b.by ∙ a.by;
    }

-- an edit that does not touch the machine
edit_same : (t : Tree) (e : Edit) (r : Rows) {m n s : ℕ} → touches t e m ≡ false → (edited t e).start m ≡ some s → (edited t e).owner n ≡ some m
    → SameWords r (edited_rows t e r) m n
unfolding edited_rows with_stale
edit_same t e r off used own =
    record {
      stale = rw (off, used);
      exit = λ x. rw (off, used);
      last = λ x. rw (off, used);
      cost = rw (own, off);
      before = rw (own, off);
      by = rw (own, off);
    }

-- so a machine that was not stale and that no command touches has its words after all of them
pub spared_same : (t : Tree) (cs : List Command) {r q : Rows} (m n : ℕ) → r.stale m ≡ false → Spared t cs m n → RowsAfterAll t cs r q
    → SameWords r q m n
spared_same t [] m n fresh spared same = rw same (record { stale = refl; exit = λ x. refl; last = λ x. refl; cost = refl; before = refl; by = refl })
spared_same t (edit e ∷ cs) {r} m n fresh (off, (s, used), own, rest) (mid, after, on) =
    let here : SameWords r mid m n = rw after (edit_same t e r off used own) in
    same_again here (spared_same (edited t e) cs m n (here.stale ∙ fresh) rest on)
spared_same t (refresh ∷ cs) {r} m n fresh (own, rest) (mid, after, on) =
    let here : SameWords r mid m n =
    record {
      stale = after.fresh m ∙ sym fresh;
      exit = λ x. after.exit_kept m x fresh;
      last = λ x. after.last_kept m x fresh;
      cost = after.cost_kept n m own fresh;
      before = after.before_kept n m own fresh;
      by = after.by_kept n m own fresh;
    } in
    same_again here (spared_same t cs m n (after.fresh m) rest on)
