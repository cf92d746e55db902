-- Every edit touches machines with all above them and leaves every other machine in use as it was, so it keeps the rows true.
-- Assumes nothing.
use mathlib.Core.Path.{◌≡◌, refl, sym, ◌∙◌, ap, subst}
use mathlib.Core.Logic.{◌⊎◌, inl, inr, ⊎_elim}
use mathlib.Core.Bool.{true, false, ◌||◌, or-true}
use mathlib.Core.Option.{Option, none, some}
use Prim.Native.Nat.{ℕ, suc}
use lib.Dec.{eqb}
use borrow.Author.Tests.{eqb-true, eqb-false, ne_eqb}
use Rattle.definitions.specs.Basics.{option, iterate}
use Rattle.definitions.specs.Tree.{Tree, Transition, Sound, on_hold, parent, within, over}
use Rattle.definitions.specs.Step.{counting}
use Rattle.definitions.specs.Sheet.{Rows}
use Rattle.definitions.specs.Truth.{TrueRows}
use Rattle.definitions.specs.Stream.{Edit, edit}
use Rattle.definitions.specs.Edit.{refusal, edited, touches, edited_rows}
use Rattle.definitions.specs.Open.{open_rows}
use Rattle.definitions.proofs.Options.{iterate_more, bind_some, present, none_some, some_same, decided, true_false, equal_or_not}
use Rattle.definitions.proofs.Path.{counting_some, counting_shut, counting_none}
use Rattle.definitions.proofs.Commands.{neither, not_true_false, over_climbs, climbs_over, HeldWithin, free_test}
use Rattle.definitions.proofs.Commands.{Changed, Begun, Added, Refined, Removed, OneTransition, Started, HoldSet, LeaveSet, Crowned, Does, does}
use Rattle.definitions.proofs.Commands.{TakenRefine, TakenCrown, taken_add, taken_refine, taken_remove}
use Rattle.definitions.proofs.Commands.{taken_arrow, taken_clear, taken_crown, taken_hold}
use Rattle.definitions.proofs.Kept.{kept_down, CostInRange, edited_sound}
use Rattle.rows.proofs.Locality.{SameMachine}
use Rattle.rows.proofs.Open.{open_true}
use Rattle.rows.proofs.Touched.{Spares, spared_true}

-- ---- the machines over a node

-- the machine just above, by the node that holds a machine
parent_parts : (t : Tree) (m : ℕ) {p : ℕ} → parent t m ≡ some p → (h : ℕ) × (t.holder m ≡ some h) × (t.owner h ≡ some p)
unfolding parent
parent_parts t m e = bind_some (t.holder m) t.owner e

parts_parent : (t : Tree) (m : ℕ) {h p : ℕ} → t.holder m ≡ some h → t.owner h ≡ some p → parent t m ≡ some p
unfolding parent
parts_parent t m held own = rw held own

module _ {t : Tree} (s : Sound t) {n m : ℕ} (own : t.owner n ≡ some m) where
  -- a node's own machine is over it
  pub over_own : over t m n ≡ true
  unfolding iterate
  over_own = climbs_over s m own 0 refl

  -- the machine just above a machine over it is over it
  pub over_parent : (q p : ℕ) → over t q n ≡ true → parent t q ≡ some p → over t p n ≡ true
  over_parent q p ov above =
      let (j, climb) = over_climbs s q own ov in
      climbs_over s p own (suc j) (iterate_more (parent t) j m climb above)

  -- a machine that is not over it is not its own machine
  not_owner : {p : ℕ} → over t p n ≡ false → p ≡ m → ⊥
  not_owner off same = true_false (rw same over_own) off

  -- and does not have it
  not_node : {p k : ℕ} → over t p n ≡ false → t.owner k ≡ some p → k ≡ n → ⊥
  not_node off own_k same = not_owner off (some_same own_k (ap t.owner same ∙ own))

-- ---- a machine that is the same in two trees

-- where a node's transition and the holds of its machine's nodes are the same, the transition that counts is
counting_same : {t : Tree} → Sound t → (u : Tree) (n x : ℕ) {p : ℕ} → t.owner n ≡ some p → u.transition n x ≡ t.transition n x
    → ((k : ℕ) → t.owner k ≡ some p → u.hold k ≡ t.hold k) → counting u n x ≡ counting t n x
counting_same {t} s u n x {p} own same hold = ⊎_elim absent there (present (t.transition n x))
  where
    absent : t.transition n x ≡ none → counting u n x ≡ counting t n x
    absent e = counting_none u n x (same ∙ e) ∙ sym (counting_none t n x e)

    there : (a : Transition) × (t.transition n x ≡ some a) → counting u n x ≡ counting t n x
    there (a, e) =
        let (m, here, target) = s.transition_owned n x a e in
        let held : on_hold u a.target ≡ on_hold t a.target = ap (λ (h : ℕ). eqb h 1) (hold a.target (cc)) in
        ⊎_elim (λ shut. counting_shut u n x a (same ∙ e) (held ∙ shut) ∙ sym (counting_shut t n x a e shut))
        (λ free. counting_some u n x a (same ∙ e) (held ∙ free) ∙ sym (counting_some t n x a e free)) (decided (on_hold t a.target))

-- a machine whose fields are the same
fields_same : {t : Tree} → Sound t → {u : Tree} {p : ℕ} → u.start p ≡ t.start p → ((k : ℕ) → t.owner k ≡ some p → u.owner k ≡ some p)
    → ((k : ℕ) → u.owner k ≡ some p → t.owner k ≡ some p) → ((k : ℕ) → t.owner k ≡ some p → u.below k ≡ t.below k)
    → ((k x : ℕ) → t.owner k ≡ some p → u.transition k x ≡ t.transition k x)
    → ((k : ℕ) → t.owner k ≡ some p → u.hold k ≡ t.hold k)
    → ((k b : ℕ) → t.owner k ≡ some p → t.below k ≡ some b → u.leave b ≡ t.leave b) → SameMachine t u p
fields_same {t} s {u} start owned owner below transition hold leave =
    record {
      start = start;
      owned = owned;
      owner = owner;
      below = below;
      counting = λ n x own range. counting_same s u n x own (transition n x own) hold;
      leave = leave;
    }

-- a function changed at a number, as far as its values are not the new one
module _ {f g : ℕ → Option ℕ} {k v : ℕ} (c : Changed f k (some v) g) where
  -- an old value stays, if the number had none
  changed_kept : f k ≡ none → (i : ℕ) {a : ℕ} → f i ≡ some a → g i ≡ some a
  changed_kept new i e = c.elsewhere i (λ same. none_some (ap f same ∙ new) e) ∙ e

  -- so what had a value has the same
  changed_back : f k ≡ none → (i : ℕ) {a b : ℕ} → f i ≡ some a → g i ≡ some b → f i ≡ some b
  changed_back new i e after = e ∙ sym (changed_kept new i e) ∙ after

  -- a value other than the new one is an old one
  changed_old : (i : ℕ) {a : ℕ} → (a ≡ v → ⊥) → g i ≡ some a → f i ≡ some a
  changed_old i other e = sym (c.elsewhere i (λ same. other (some_same e (ap g same ∙ c.here)))) ∙ e

-- ---- each edit

-- an edit that touches the machines over node n: it moves no machine to another node or machine, and leaves the others as they were
over_spares : {t : Tree} → Sound t → (u : Tree) {n m : ℕ} → t.owner n ≡ some m
    → ((q h p : ℕ) → u.holder q ≡ some h → u.owner h ≡ some p → (t.holder q ≡ some h) × (t.owner h ≡ some p))
    → ((p f : ℕ) → u.start p ≡ some f → over t p n ≡ false → SameMachine t u p) → Spares t u (λ p. over t p n)
over_spares {t} s u own stays same =
    record {
      up = λ q p ov above.
          let (h, held, up) = parent_parts u q above in
          let (held_t, up_t) = stays q h p held up in
          over_parent s own q p ov (parts_parent t q held_t up_t);
      same = same;
    }

-- begin: no other machine is in use
begin_spares : (t : Tree) {m n : ℕ} {u : Tree} {r q : Rows} → Begun m n u r q → Spares t u (λ p. eqb p m)
begin_spares t {m} {n} {u} law =
    record {
      up = λ q p on above. absurd (none_some (law.holder q) (parent_parts u q above).1);
      same = λ p f used off. absurd (none_some (law.start.elsewhere p (eqb-false p m off)) used);
    }

-- add: a machine that is not over m's start is not m, and has no new node
add_spares : {t : Tree} → Sound t → {m n f : ℕ} {u : Tree} {r q : Rows} → t.start m ≡ some f → t.owner n ≡ none → Added t m n f u r q
    → Spares t u (λ p. over t p f)
add_spares {t} s {m} {n} {f} {u} st new law =
    let own : t.owner f ≡ some m = s.start_owned m f st in
    over_spares s u own
    (λ q h p held up.
    let held_t : t.holder q ≡ some h = sym (law.holder q) ∙ held in
    (held_t, changed_back law.owner new h (s.holder_used q h held_t).1 up))
    (λ p g used off.
    fields_same s (law.start p) (λ k e. changed_kept law.owner new k e) (λ k e. changed_old law.owner k (not_owner s own off) e)
    (λ k e. law.below k) (λ k x e. law.transition k x) (λ k e. law.hold k) (λ k b e down. law.leave b))

-- refine: a machine that is not the new one and not over node n has neither the new node nor n
refine_spares : {t : Tree} → Sound t → {n m f : ℕ} {u : Tree} {r q : Rows} → TakenRefine t n m f → Refined t n m f u r q
    → Spares t u (λ p. eqb p m || over t p n)
refine_spares {t} s {n} {m} {f} {u} taken law =
    let (o, own) = taken.node_used in
    record {
      up = λ q p on above.
          let (h, held, up) = parent_parts u q above in
          rw (over_up q p h on held up (equal_or_not q m)) (or-true (eqb p m));
      same = λ p g used off.
          let (old, away) = neither off in
          let other : p ≡ m → ⊥ = eqb-false p m old in
          fields_same s (law.start.elsewhere p other) (λ k e. changed_kept law.owner taken.first_new k e)
          (λ k e. changed_old law.owner k other e) (λ k e. law.below.elsewhere k (not_node s own away e))
          (λ k x e. law.transition k x) (λ k e. law.hold k) (λ k b e down. law.leave b);
    }
  where
    over_up : (q p h : ℕ) → (eqb q m || over t q n) ≡ true → u.holder q ≡ some h → u.owner h ≡ some p → (q ≡ m) ⊎ (q ≡ m → ⊥)
        → over t p n ≡ true
    over_up q p h on held up (inl same) =
        let (o, own) = taken.node_used in
        let at_n : h ≡ n = some_same held (ap u.holder same ∙ law.holder.here) in
        over_own s (changed_back law.owner taken.first_new n own (rw at_n at up))
    over_up q p h on held up (inr other) =
        let (o, own) = taken.node_used in
        let held_t : t.holder q ≡ some h = sym (law.holder.elsewhere q other) ∙ held in
        over_parent s own q p (rw (ne_eqb q m other) at on)
        (parts_parent t q held_t (changed_back law.owner taken.first_new h (s.holder_used q h held_t).1 up))

-- remove: a machine in use after it that is not over node n has lost no node and no transition
remove_spares : {t : Tree} → Sound t → {n o : ℕ} {u : Tree} {r q : Rows} → t.owner n ≡ some o → Removed t n u r q
    → Spares t u (λ p. over t p n)
remove_spares {t} s {n} {o} {u} own law =
    over_spares s u own (λ q h p held up. (sym (law.holder_kept q (λ w. none_some (law.holder_gone q w) held)) ∙ held, was h p up))
    (λ p g used off.
    fields_same s (law.start_kept p (free p g used)) (λ k e. law.owner_kept k (left p g used off k e) ∙ e) (λ k e. was k p e)
    (λ k e. law.below_kept k (left p g used off k e))
    (λ k x e. law.transition_kept k x (left p g used off k e) (λ a has. not_node s own off (stays p k x e a has)))
    (λ k e. law.hold_kept k (left p g used off k e))
    (λ k b e down.
    law.leave_kept b
    (λ w.
    true_false (subst (λ (h : ℕ). within t n h ≡ true) (some_same w.held (s.below_held k b down)) w.inside) (left p g used off k e))))
  where
    -- a node in use after it was in use
    was : (k p : ℕ) → u.owner k ≡ some p → t.owner k ≡ some p
    was k p e = sym (law.owner_kept k (not_true_false (λ w. none_some (law.owner_gone k w) e))) ∙ e

    -- a machine in use after it is not held within n
    free : (p f : ℕ) → u.start p ≡ some f → HeldWithin t n p → ⊥
    free p f used w = none_some (law.start_gone p w) used

    -- and its nodes, if it is not over n, are not within n
    left : (p f : ℕ) → u.start p ≡ some f → over t p n ≡ false → (k : ℕ) → t.owner k ≡ some p → within t n k ≡ false
    left p f used off k e = kept_down s n e (λ same. not_node s own off e (sym same)) (free_test t n p (free p f used))

    -- a transition stays in its machine
    stays : (p k x : ℕ) → t.owner k ≡ some p → (a : Transition) → t.transition k x ≡ some a → t.owner a.target ≡ some p
    stays p k x e a has = let (m, here, there) = s.transition_owned k x a has in cc

-- arrow and clear: a machine that is not over node n does not have it
transition_spares : {t : Tree} → Sound t → {n x p : ℕ} {o : Option Transition} {u : Tree} {r q : Rows} → t.owner n ≡ some p
    → OneTransition t n x o u r q → Spares t u (λ p. over t p n)
transition_spares {t} s {n} {x} {p} {o} {u} own law =
    over_spares s u own (λ q h p held up. (sym (law.holder q) ∙ held, sym (law.owner h) ∙ up))
    (λ p g used off.
    fields_same s (law.start p) (λ k e. law.owner k ∙ e) (λ k e. sym (law.owner k) ∙ e) (λ k e. law.below k)
    (λ k y e. law.elsewhere k y (λ at. not_node s own off e at.0)) (λ k e. law.hold k) (λ k b e down. law.leave b))

-- start: a machine that is not over node n is not its machine
start_spares : {t : Tree} → Sound t → {n m : ℕ} {u : Tree} {r q : Rows} → t.owner n ≡ some m → Started t n m u r q
    → Spares t u (λ p. over t p n)
start_spares {t} s {n} {m} {u} own law =
    over_spares s u own (λ q h p held up. (sym (law.holder q) ∙ held, sym (law.owner h) ∙ up))
    (λ p g used off.
    fields_same s (law.start.elsewhere p (not_owner s own off)) (λ k e. law.owner k ∙ e) (λ k e. sym (law.owner k) ∙ e)
    (λ k e. law.below k) (λ k x e. law.transition k x) (λ k e. law.hold k) (λ k b e down. law.leave b))

-- hold: a machine that is not over node n does not have it
hold_spares : {t : Tree} → Sound t → {n b p : ℕ} {u : Tree} {r q : Rows} → t.owner n ≡ some p → HoldSet t n b u r q
    → Spares t u (λ p. over t p n)
hold_spares {t} s {n} {b} {p} {u} own law =
    over_spares s u own (λ q h p held up. (sym (law.holder q) ∙ held, sym (law.owner h) ∙ up))
    (λ p g used off.
    fields_same s (law.start p) (λ k e. law.owner k ∙ e) (λ k e. sym (law.owner k) ∙ e) (λ k e. law.below k)
    (λ k x e. law.transition k x) (λ k e. law.hold.elsewhere k (not_node s own off e)) (λ k b e down. law.leave b))

-- leave: a machine that is not over m's start does not hold m
leave_spares : {t : Tree} → Sound t → {m f c : ℕ} {u : Tree} {r q : Rows} → t.start m ≡ some f → LeaveSet t m f c u r q
    → Spares t u (λ p. over t p f)
leave_spares {t} s {m} {f} {c} {u} st law =
    let own : t.owner f ≡ some m = s.start_owned m f st in
    over_spares s u own (λ q h p held up. (sym (law.holder q) ∙ held, sym (law.owner h) ∙ up))
    (λ p g used off.
    fields_same s (law.start p) (λ k e. law.owner k ∙ e) (λ k e. sym (law.owner k) ∙ e) (λ k e. law.below k)
    (λ k x e. law.transition k x) (λ k e. law.hold k)
    (λ k b e down.
    law.leave.elsewhere b
    (λ same. true_false (over_parent s own m p (over_own s own) (parts_parent t m (rw same at (s.below_held k b down)) e)) off)))

-- crown: nothing holds the new machine, and every other is as it was
crown_spares : {t : Tree} → Sound t → {m n : ℕ} {u : Tree} {r q : Rows} → TakenCrown t m n → Crowned t m n u r q → Spares t u (λ p. eqb p m)
crown_spares {t} s {m} {n} {u} taken law =
    record {
      up = λ q p on above. absurd (none_some (ap u.holder (eqb-true q m on) ∙ law.root_free) (parent_parts u q above).1);
      same = λ p f used off.
          let other : p ≡ m → ⊥ = eqb-false p m off in
          fields_same s (law.start.elsewhere p other) (λ k e. changed_kept law.owner taken.node_new k e)
          (λ k e. changed_old law.owner k other e)
          (λ k e. law.below.elsewhere k (λ same. none_some (ap t.owner same ∙ taken.node_new) e)) (λ k x e. law.transition k x)
          (λ k e. law.hold k) (λ k b e down. law.leave b);
    }

-- ---- all edits

-- what is known of an edit by the laws of the commands
does_spares : {t : Tree} → Sound t → (e : Edit) → refusal t (edit e) ≡ 0 → (r q : Rows) → Does t (edit e) (edited t e) r q
    → Spares t (edited t e) (touches t e)
unfolding touches
does_spares {t} s (Edit.begin m n) ok r q law = begin_spares t law
does_spares {t} s (Edit.add m n) ok r q law =
    let (f, st, law) = law in
    subst (λ (o : Option ℕ). Spares t (edited t (Edit.add m n)) (λ p. option false (over t p) o)) (sym st)
    (add_spares s st (taken_add t m n ok).node_new law)
does_spares {t} s (Edit.refine n m f) ok r q law = refine_spares s (taken_refine t n m f ok) law
does_spares {t} s (Edit.remove n) ok r q law = remove_spares s (taken_remove t n ok).node_used.1 law
does_spares {t} s (Edit.arrow n x v c) ok r q law = transition_spares s (taken_arrow t n x v c ok).one_machine.1 law
does_spares {t} s (Edit.clear n x) ok r q law = transition_spares s (taken_clear t n x ok).node_used.1 law
does_spares {t} s (Edit.start n) ok r q law = start_spares s law.1 law.2
does_spares {t} s (Edit.crown m n) ok r q law = crown_spares s (taken_crown t m n ok) law
does_spares {t} s (Edit.hold n b) ok r q law = hold_spares s (taken_hold t n b ok).node_used.1 law
does_spares {t} s (Edit.leave m c) ok r q law =
    let (f, st, law) = law in
    subst (λ (o : Option ℕ). Spares t (edited t (Edit.leave m c)) (λ p. option false (over t p) o)) (sym st) (leave_spares s st law)

-- an edit that is taken leaves every machine that it does not touch as it was
pub edit_spares : {t : Tree} → Sound t → (e : Edit) → refusal t (edit e) ≡ 0 → Spares t (edited t e) (touches t e)
edit_spares {t} s e ok =
    let r = open_rows t in
    let q = edited_rows t e r in
    does_spares s e ok r q (does t (edit e) r q s (open_true s).blanks ok refl)

-- and true rows true
pub edited_true : {t : Tree} → Sound t → (e : Edit) → CostInRange e → refusal t (edit e) ≡ 0 → (r : Rows) → TrueRows t r
    → TrueRows (edited t e) (edited_rows t e r)
unfolding edited_rows
edited_true s e range ok r rows = spared_true s (edited_sound s e range ok) (edit_spares s e ok) rows
