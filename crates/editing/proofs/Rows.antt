-- The rows that an edit leaves, from the rows before it with the machines over a node marked, and a new machine marked. Assumes nothing.
use mathlib.Core.Path.{◌≡◌, refl, sym, ◌∙◌, ap, fun_ext}
use mathlib.Core.Logic.{⊎_elim}
use mathlib.Core.Bool.{Bool, true, false, not, ◌&&◌, ◌||◌, or-false}
use mathlib.Core.Option.{Option, none, some}
use mathlib.Core.List.{List}
use Prim.Native.Nat.{ℕ}
use lib.Dec.{eqb}
use borrow.Author.Tests.{eq-eqb, ne_eqb}
use Rattle.definitions.specs.Basics.{option, unless, is_some, put}
use Rattle.definitions.specs.Tree.{Tree, with_start_of, Sound, over}
use Rattle.definitions.specs.Sheet.{Rows, rows_of}
use Rattle.definitions.specs.Truth.{BlankRule}
use Rattle.definitions.specs.Stream.{Edit}
use Rattle.definitions.specs.Edit.{edited, touches, with_stale, edited_rows, with_transition, with_start}
use Rattle.definitions.proofs.Options.{none_some, true_false, equal_or_not}
use Rattle.definitions.proofs.Words.{same_rows}
use Rattle.definitions.proofs.Commands.{TakenAdd, TakenRefine, TakenCrown}
use Rattle.rows.proofs.Edits.{over_own}
use Rattle.sheet.specs.Fields.{with_mark}
use Rattle.marking.proofs.Climb.{idle}

-- two trees with the same machines in use, whose nodes' rows are blank by the same test, are marked alike
same_stale : (t u : Tree) (a : ℕ → Bool) (r : Rows) → ((p : ℕ) → is_some (u.start p) ≡ is_some (t.start p))
    → ((k : ℕ) → option true a (u.owner k) ≡ option true a (t.owner k)) → with_stale t a r ≡ with_stale u a r
unfolding with_stale
same_stale t u a r used owned =
    same_rows _ _ (λ p. rw (used p)) (λ p x. rw (used p)) (λ p x. rw (used p)) (λ k. rw (owned k)) (λ k. rw (owned k)) (λ k. rw (owned k))

-- a tree with one machine more, m, whose one node f is new: m is marked, and its rows were blank
module _ (t u : Tree) (sound : Sound t) (a : ℕ → Bool) (r : Rows) {m f : ℕ} (machine_new : t.start m ≡ none) (node_new : t.owner f ≡ none)
    (start : (p : ℕ) → u.start p ≡ put t.start m (some f) p) (owner : (k : ℕ) → u.owner k ≡ put t.owner f (some m) k) where
  -- its mark
  new_mark : (p : ℕ) → put (with_stale t a r).stale m true p ≡ (is_some (u.start p) && (eqb p m || a p || r.stale p))
  unfolding with_stale
  new_mark p =
      ⊎_elim (λ e. rw (start p, eq-eqb p m e)) (λ ne. rw (start p, ne_eqb p m ne)) (equal_or_not p m)

  -- which machines' rows are blank
  new_machine : (p : ℕ) → (not (is_some (t.start p)) || a p) ≡ (not (is_some (u.start p)) || (eqb p m || a p))
  new_machine p =
      ⊎_elim (λ e. rw (start p, eq-eqb p m e, ap t.start e ∙ machine_new)) (λ ne. rw (start p, ne_eqb p m ne)) (equal_or_not p m)

  -- no node of t belongs to m
  others : (o : Option ℕ) (k : ℕ) → t.owner k ≡ o → option true a o ≡ option true (λ p. eqb p m || a p) o
  others none k own = refl
  others (some p) k own =
      rw (ne_eqb p m (λ e. none_some (ap t.start e ∙ machine_new) (sound.owner_used k p own).1))

  -- which nodes' rows are blank
  new_node : (k : ℕ) → option true a (t.owner k) ≡ option true (λ p. eqb p m || a p) (u.owner k)
  new_node k =
      ⊎_elim (λ e. rw (owner k, eq-eqb k f e, ap t.owner e ∙ node_new, eq-eqb m m refl))
      (λ ne. rw (owner k, ne_eqb k f ne) (others (t.owner k) k refl)) (equal_or_not k f)

  -- all rows
  new_stale : with_mark (with_stale t a r) m true ≡ with_stale u (λ p. eqb p m || a p) r
  unfolding with_stale
  new_stale =
      same_rows _ _ new_mark (λ p x. ap (λ b. unless b (r.exit p x)) (new_machine p))
      (λ p x. ap (λ b. unless b (r.last p x)) (new_machine p))
      (λ k. ap (λ b. unless b (r.cost k)) (new_node k)) (λ k. ap (λ b. unless b (r.before k)) (new_node k))
      (λ k. ap (λ b. unless b (r.by k)) (new_node k))

-- ---- each edit

-- add: the new node's row is blank, being the row of a node of a marked machine
pub add_rows : {t : Tree} → Sound t → (m n f : ℕ) → TakenAdd t m n → t.start m ≡ some f → (r : Rows)
    → with_stale t (λ p. over t p f) r ≡ edited_rows t (Edit.add m n) r
unfolding edited edited_rows touches
add_rows {t} sound m n f taken st r =
    same_stale t (edited t (Edit.add m n)) (λ p. over t p f) r (λ p. refl)
    (λ k.
    ⊎_elim (λ e. rw (eq-eqb k n e, ap t.owner e ∙ taken.node_new, over_own sound (sound.start_owned m f st))) (λ ne. rw (ne_eqb k n ne))
    (equal_or_not k n))
    ∙ ap (λ (o : Option ℕ). with_stale (edited t (Edit.add m n)) (λ p. option false (over t p) o) r) (sym st)

-- refine: the new machine is marked with those over the node
pub refine_rows : {t : Tree} → Sound t → (n m f : ℕ) → TakenRefine t n m f → (r : Rows)
    → with_mark (with_stale t (λ p. over t p n) r) m true ≡ edited_rows t (Edit.refine n m f) r
unfolding edited edited_rows touches
refine_rows {t} sound n m f taken r =
    new_stale t (edited t (Edit.refine n m f)) sound (λ p. over t p n) r taken.machine_new taken.first_new (λ p. refl) (λ k. refl)

-- arrow, clear, hold and leave: machines and nodes stay
pub arrow_rows : (t : Tree) (n x v c : ℕ) (r : Rows) → with_stale t (λ p. over t p n) r ≡ edited_rows t (Edit.arrow n x v c) r
unfolding edited edited_rows touches with_stale with_transition
arrow_rows t n x v c r = refl

pub clear_rows : (t : Tree) (n x : ℕ) (r : Rows) → with_stale t (λ p. over t p n) r ≡ edited_rows t (Edit.clear n x) r
unfolding edited edited_rows touches with_stale with_transition
clear_rows t n x r = refl

pub hold_rows : (t : Tree) (n b : ℕ) (r : Rows) → with_stale t (λ p. over t p n) r ≡ edited_rows t (Edit.hold n b) r
unfolding edited edited_rows touches with_stale
hold_rows t n b r = refl

pub leave_rows : (t : Tree) (m c f : ℕ) → t.start m ≡ some f → (r : Rows) → with_stale t (λ p. over t p f) r ≡ edited_rows t (Edit.leave m c) r
unfolding edited edited_rows touches with_stale
leave_rows t m c f st r = ap (λ (o : Option ℕ). with_stale t (λ p. option false (over t p) o) r) (sym st)

-- start: the same machines are in use
pub start_rows : {t : Tree} → Sound t → (n m : ℕ) → t.owner n ≡ some m → (r : Rows)
    → with_stale t (λ p. over t p n) r ≡ edited_rows t (Edit.start n) r
unfolding edited edited_rows touches with_start
start_rows {t} sound n m own r =
    rw own
    (same_stale t (with_start_of t m (some n)) (λ p. over t p n) r
    (λ p. ⊎_elim (λ e. rw (eq-eqb p m e, ap t.start e ∙ (sound.owner_used n m own).1)) (λ ne. rw (ne_eqb p m ne)) (equal_or_not p m))
    (λ k. refl))

-- crown: only the new machine is marked
pub crown_rows : {t : Tree} → Sound t → (m n : ℕ) → TakenCrown t m n → (ws : List ℕ) → BlankRule t (rows_of ws)
    → with_mark (rows_of ws) m true ≡ edited_rows t (Edit.crown m n) (rows_of ws)
unfolding edited edited_rows touches
crown_rows {t} sound m n taken ws blanks =
    ap (λ r. with_mark r m true) (sym (idle t (λ p. false) ws blanks (λ p e. absurd (true_false e refl))))
    ∙ new_stale t (edited t (Edit.crown m n)) sound (λ p. false) (rows_of ws) taken.machine_new taken.node_new (λ p. refl) (λ k. refl)
    ∙ ap (λ (b : ℕ → Bool). with_stale (edited t (Edit.crown m n)) b (rows_of ws)) (fun_ext λ p. or-false (eqb p m))
