-- What the tests of this crate's functions decide, from the words that they look at. Assumes nothing.
use mathlib.Core.Path.{◌≡◌, sym, ap, ◌∙◌}
use mathlib.Core.Logic.{inr, ⊎_elim}
use mathlib.Core.Bool.{Bool, not}
use mathlib.Core.Option.{some}
use Prim.Native.Nat.{ℕ, ◌/◌, ◌<◌}
use native.Mathlib.Omega.{arith}
use lib.Dec.{eqb}
use Rattle.definitions.specs.Limits.{machines, nodes, levels, costs, absent, blank}
use Rattle.definitions.specs.Tree.{Tree, UsedNode, UsedMachine}
use Rattle.definitions.specs.Book.{word, transition_word}
use Rattle.definitions.proofs.Options.{some_same}
use Rattle.definitions.proofs.Words.{present_word}
use Rattle.book.specs.Decides.{Decides}
use Rattle.wellformed.specs.Fits.{Climbs, RootFits, StartFits, HolderFits, LeaveFits}
use Rattle.wellformed.specs.Fits.{OwnerFits, BelowFits, HoldFits, TransitionFits}
use Rattle.book.proofs.Decide.{decides_same, decides_if, decides_equal, decides_other}
use Rattle.wellformed.proofs.Fits.{Read}
use Rattle.book.proofs.Said.{said_is, unsaid_is, unsaid, said_all, unsaid_all}
use Rattle.wellformed.proofs.Reading.{transition_said, transition_target}

module _ {t : Tree} (read : Read t) where
  -- whether a machine is in use
  pub machine_unused : (m : ℕ) {s : ℕ} → s ≡ word (t.start m) → s ≡ absent → UsedMachine t m → ⊥
  machine_unused m es z (f, e) = unsaid_all (read.start m) es z f e

  pub machine_used : (m : ℕ) {s : ℕ} → s ≡ word (t.start m) → (s ≡ absent → ⊥) → UsedMachine t m
  machine_used m {s} es other = (s, present_word (t.start m) es other)

  -- the root
  pub root_unused : {r s : ℕ} → r ≡ t.root → s ≡ word (t.start r) → s ≡ absent → RootFits t → ⊥
  root_unused {r} er es z fits = machine_unused r es z (rw er fits.used)

  pub root_decides : {r s h : ℕ} → r ≡ t.root → s ≡ word (t.start r) → (s ≡ absent → ⊥) → h ≡ word (t.holder r)
      → Decides (eqb h absent) (RootFits t)
  root_decides {r} {s} {h} er es other eh =
      decides_equal h absent
      (λ z. record { used = rw er at (machine_used r es other); free = rw er at (unsaid (read.holder r) eh z) })
      (λ fits. unsaid_is eh (rw er fits.free))

  -- the start node of a machine
  pub start_other : (m : ℕ) {s o : ℕ} → s ≡ word (t.start m) → (s ≡ absent → ⊥) → o ≡ word (t.owner s) → (o ≡ m → ⊥)
      → StartFits t m → ⊥
  start_other m {s} es other eo wrong fits = wrong (said_is (t.owner s) eo (fits s (present_word (t.start m) es other)).0)

  pub start_decides : (m : ℕ) {s o : ℕ} (b : Bool) → m < machines → s ≡ word (t.start m) → (s ≡ absent → ⊥)
      → o ≡ word (t.owner s) → o ≡ m → Decides b (Climbs t levels m) → Decides b (StartFits t m)
  start_decides m {s} {o} b small es other eo right =
      decides_same b (λ c. said_all (λ k. (t.owner k ≡ some m) × Climbs t levels m) (t.start m) es (own, c))
      (λ fits. (fits s (present_word (t.start m) es other)).1)
    where
      own : t.owner s ≡ some m
      own = present_word (t.owner s) (sym right ∙ eo) (λ z. omega arith)

  -- the hold of a node that is not in use, and of one that is
  pub hold_unused : (n : ℕ) {h o : ℕ} → h ≡ t.hold n → (h ≡ 0 → ⊥) → o ≡ word (t.owner n) → o ≡ absent → HoldFits t n → ⊥
  hold_unused n eh other eo z fits =
      ⊎_elim (λ free. other (eh ∙ free)) (λ rest. let (m, own, inner) = rest.1 in unsaid_all (read.owner n) eo z m own) fits

  pub hold_decides : (n : ℕ) {h m f : ℕ} → n < nodes → h ≡ t.hold n → h ≡ 1 → m ≡ word (t.owner n) → (m ≡ absent → ⊥)
      → f ≡ word (t.start m) → Decides (not (eqb f n)) (HoldFits t n)
  hold_decides n {h} {m} {f} small eh one em used ef =
      let own : t.owner n ≡ some m = present_word (t.owner n) em used in
      decides_other f n (λ inner. inr (sym eh ∙ one, (m, own, λ first. inner (said_is (t.start m) ef first))))
      (λ fits same.
      ⊎_elim (λ free. omega (arith, eh))
      (λ rest.
      let (p, own_p, inner) = rest.1 in
      let first : t.start m ≡ some n = present_word (t.start m) (sym same ∙ ef) (λ z. omega arith) in
      inner (ap t.start (some_same own_p own) ∙ first)) fits)

  -- what leaving a machine costs that is not in use, and one that is
  pub leave_unused : (m : ℕ) {c s : ℕ} → c ≡ t.leave m → (c ≡ 0 → ⊥) → s ≡ word (t.start m) → s ≡ absent → LeaveFits t m → ⊥
  leave_unused m ec charged es z fits = ⊎_elim (λ free. charged (ec ∙ free)) (λ rest. machine_unused m es z rest.1) fits

  pub leave_decides : (m : ℕ) {c s r : ℕ} → c ≡ t.leave m → (c ≡ 0 → ⊥) → c < costs → s ≡ word (t.start m) → (s ≡ absent → ⊥) → r ≡ t.root
      → Decides (not (eqb r m)) (LeaveFits t m)
  leave_decides m {c} {s} {r} ec charged small es used er =
      decides_other r m (λ other. inr (omega arith, machine_used m es used, λ same. other (er ∙ sym same)))
      (λ fits same. ⊎_elim (λ free. charged (ec ∙ free)) (λ rest. rest.2 (sym same ∙ er)) fits)

  -- the node that holds a machine
  pub holder_other : (m : ℕ) {h b : ℕ} → h ≡ word (t.holder m) → (h ≡ absent → ⊥) → b ≡ word (t.below h) → (b ≡ m → ⊥)
      → HolderFits t m → ⊥
  holder_other m {h} eh other eb wrong fits = wrong (said_is (t.below h) eb (fits h (present_word (t.holder m) eh other)).0)

  pub holder_unused : (m : ℕ) {h o : ℕ} → h ≡ word (t.holder m) → (h ≡ absent → ⊥) → o ≡ word (t.owner h) → o ≡ absent
      → HolderFits t m → ⊥
  holder_unused m {h} eh other eo z fits =
      let (p, e) = (fits h (present_word (t.holder m) eh other)).1 in
      unsaid_all (read.owner h) eo z p e

  pub holder_decides : (m : ℕ) {h b o s : ℕ} → m < machines → h ≡ word (t.holder m) → (h ≡ absent → ⊥)
      → b ≡ word (t.below h) → b ≡ m → o ≡ word (t.owner h) → (o ≡ absent → ⊥)
      → s ≡ word (t.start m) → Decides (not (eqb s absent)) (HolderFits t m)
  holder_decides m {h} {b} {o} {s} small eh other eb right eo owned es =
      decides_other s absent
      (λ here.
      said_all (λ k. (t.below k ≡ some m) × UsedNode t k × UsedMachine t m) (t.holder m) eh
      (present_word (t.below h) (sym right ∙ eb) (λ z. omega arith), (o, present_word (t.owner h) eo owned), machine_used m es here))
      (λ fits z. machine_unused m es z (fits h (present_word (t.holder m) eh other)).2)

  -- the machine that a node belongs to
  pub owner_decides : (n : ℕ) {m s : ℕ} → m ≡ word (t.owner n) → (m ≡ absent → ⊥) → s ≡ word (t.start m)
      → Decides (not (eqb s absent)) (OwnerFits t n)
  owner_decides n {m} {s} em other es =
      decides_other s absent (λ here. said_all (UsedMachine t) (t.owner n) em (machine_used m es here))
      (λ fits z. machine_unused m es z (fits m (present_word (t.owner n) em other)))

  -- the machine below a node
  pub below_decides : (n : ℕ) {b h : ℕ} → n < nodes → b ≡ word (t.below n) → (b ≡ absent → ⊥) → h ≡ word (t.holder b)
      → Decides (eqb h n) (BelowFits t n)
  below_decides n {b} {h} small eb other eh =
      decides_equal h n
      (λ right. said_all (λ k. t.holder k ≡ some n) (t.below n) eb (present_word (t.holder b) (sym right ∙ eh) (λ z. omega arith)))
      (λ fits. said_is (t.holder b) eh (fits b (present_word (t.below n) eb other)))

  -- a transition of a node
  module _ (n x : ℕ) {w m : ℕ} (ew : w ≡ transition_word (t.transition n x)) (em : m ≡ word (t.owner n)) where
    blank_fits : w ≡ blank → TransitionFits t n x
    blank_fits z a e = absurd ((transition_target read n x a ew e).1 z)

    -- a node that is not in use has none
    pub transition_unused : m ≡ absent → Decides (eqb w blank) (TransitionFits t n x)
    transition_unused free =
        decides_if w blank blank_fits
        (λ other fits.
        let (a, e) = transition_said (t.transition n x) ew other in
        let (k, own, to) = fits a e in
        unsaid_all (read.owner n) em free k own)

    module _ {v o : ℕ} (eo : o ≡ word (t.owner v)) where
      -- where there is none the node itself is looked at
      pub transition_blank : w ≡ blank → v ≡ n → Decides (eqb o m) (TransitionFits t n x)
      transition_blank z here = decides_equal o m (λ same. blank_fits z) (λ fits. eo ∙ ap (λ (k : ℕ). word (t.owner k)) here ∙ sym em)

      pub transition_decides : (m ≡ absent → ⊥) → (w ≡ blank → ⊥) → v ≡ w / costs → Decides (eqb o m) (TransitionFits t n x)
      transition_decides owned other there =
          decides_equal o m
          (λ right a e.
          let to : v ≡ a.target = there ∙ (transition_target read n x a ew e).0 in
          let at : t.owner v ≡ some m = present_word (t.owner v) (sym right ∙ eo) owned in
          (m, present_word (t.owner n) em owned, rw to at at))
          (λ fits.
          let (a, e) = transition_said (t.transition n x) ew other in
          let to : v ≡ a.target = there ∙ (transition_target read n x a ew e).0 in
          let (k, own, in_k) = fits a e in
          said_is (t.owner v) eo (rw to in_k) ∙ sym (said_is (t.owner n) em own))
