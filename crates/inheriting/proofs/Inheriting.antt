-- What a command finds, node by node: a node's own transition, or else what its machine inherits. And the list of what machines inherit,
-- word by word. Assumes nothing.
use mathlib.Core.Path.{◌≡◌, refl, sym, ◌∙◌, ap, subst}
use mathlib.Core.Logic.{⊎_elim}
use mathlib.Core.Bool.{cond}
use mathlib.Core.Option.{Option, none, some}
use mathlib.Core.List.{List}
use Prim.Native.Nat.{ℕ, ◌+◌, ◌*◌, ◌-◌, ◌/◌, ◌%◌, ◌≤◌, ◌<◌}
use native.Mathlib.Omega.{arith}
use lib.Dec.{eqb}
use lib.ListN.{get_or, set, replicate}
use lib.Seq.{get_or-set_same, get_or-set_other}
use borrow.Author.Tests.{eq-eqb, ne_eqb}
use Rattle.definitions.specs.Basics.{◌>>=◌}
use Rattle.definitions.specs.Limits.{machines, nodes, commands, costs, levels, blank, largest_step_cost}
use Rattle.definitions.specs.Tree.{Tree, Transition, Sound}
use Rattle.definitions.specs.Step.{counting, Climb, found, passed, past, climb}
use Rattle.definitions.specs.Book.{transition_word, tree_of, WellFormed}
use Rattle.definitions.proofs.Options.{equal_or_not, none_some, some_same}
use Rattle.definitions.proofs.Path.{climb_own, climb_found}
use Rattle.definitions.proofs.Simple.{Cheap, climb_cheap}
use Rattle.search.specs.Search.{unreached, entry_move}
use Rattle.search.specs.Parts.{at}
use Rattle.search.proofs.Tables.{entry_none, entry_some}
use Rattle.book.proofs.Chosen.{zeros_at}
use Rattle.book.proofs.Counts.{no_counting, some_counting, counting_node}
use Rattle.stepping.proofs.Climbing.{climb_ends, climb_up}
use Rattle.stepping.proofs.Upward.{top}
use Rattle.inheriting.specs.Inheriting.{way_costs, way_of, WayFits, after, NodeList, landed, finds, inherits, UpRoom, Inherited, RootRow, Handed}

-- ---- what a command finds

module _ {t : Tree} (s : Sound t) (lands : List ℕ) {n m : ℕ} (x : ℕ) (own : t.owner n ≡ some m) where
  -- a node's own transition
  finds_own : {a : Transition} → counting t n x ≡ some a → finds t lands n x ≡ some (record { target = at lands a.target; cost = a.cost })
  unfolding finds
  finds_own {a} has = ap (landed lands) (climb_own t t.root n x a has)

  -- or else what its machine inherits
  finds_inherited : counting t n x ≡ none → finds t lands n x ≡ inherits t lands m x
  unfolding finds inherits
  finds_inherited free = go (t.holder m) refl
    where
      go : (o : Option ℕ) → t.holder m ≡ o → landed lands (climb t t.root n x) ≡ (o >>= λ h. landed lands (past (t.leave m) (climb t t.root h x)))
      go none top = ap (landed lands) (climb_ends s x own free top)
      go (some h) hold = ap (landed lands) (climb_up s x own free hold)

-- the word of what leads to node v
word_says : (v c : ℕ) → v < nodes → c < way_costs → way_of (v * way_costs + c) ≡ some (record { target = v; cost = c })
unfolding way_of
word_says v c node cost =
    let target : (v * way_costs + c) / way_costs ≡ v = omega arith in
    let price : (v * way_costs + c) % way_costs ≡ c = omega arith in
    rw (ne_eqb (v * way_costs + c) unreached (λ e. omega arith), target, price)

-- the same, from what the words say
module _ (book : List ℕ) (w : WellFormed book) (lands : List ℕ) (n x : ℕ) {m a : ℕ} (own_n : (tree_of book).owner n ≡ some m)
    (is : a ≡ transition_word (counting (tree_of book) n x)) where
  find_inherited : a ≡ blank → (up : ℕ) → way_of up ≡ inherits (tree_of book) lands m x → way_of up ≡ finds (tree_of book) lands n x
  find_inherited free up says = says ∙ sym (finds_inherited w.sound lands x own_n (no_counting w.sound n x is free))

  find_own : NodeList lands → (a ≡ blank → ⊥) → way_of (at lands (a / costs % nodes) * way_costs + a % costs) ≡ finds (tree_of book) lands n x
  find_own list there =
      let has = some_counting w.sound n x is there in
      let target : a / costs < nodes = counting_node w.sound n x is there in
      let same : a / costs % nodes ≡ a / costs = omega arith in
      let says : way_of (at lands (a / costs) * way_costs + a % costs) ≡ some (record { target = at lands (a / costs); cost = a % costs }) =
      word_says (at lands (a / costs)) (a % costs) (list.inside (a / costs) target) (omega arith) in
      rw same (says ∙ sym (finds_own w.sound lands x own_n has))

  pub find_first : NodeList lands → (up : ℕ) → way_of up ≡ inherits (tree_of book) lands m x → {mine r : ℕ}
      → mine ≡ at lands (a / costs % nodes) * way_costs + a % costs → r ≡ cond (eqb a blank) up mine → way_of r ≡ finds (tree_of book) lands n x
  find_first list up says made picked =
      ap way_of (picked ∙ ap (cond (eqb a blank) up) made)
      ∙ ⊎_elim (λ (free : a ≡ blank). rw (eq-eqb a blank free) (find_inherited free up says))
      (λ (there : a ≡ blank → ⊥). rw (ne_eqb a blank there) (find_own list there)) (equal_or_not a blank)

-- ---- the list of what machines inherit, word by word

-- a machine that node h holds inherits what is found from h, after it was left
pub inherits_held : (t : Tree) (lands : List ℕ) (m x : ℕ) {h : ℕ} → t.holder m ≡ some h
    → inherits t lands m x ≡ after (t.leave m) (finds t lands h x)
unfolding finds inherits
inherits_held t lands m x {h} hold = rw hold (go (climb t t.root h x))
  where
    go : (k : Climb) → landed lands (past (t.leave m) k) ≡ after (t.leave m) (landed lands k)
    go (found u v c) = refl
    go (passed c) = refl

-- the word for that
pub after_none : (w l : ℕ) → w ≡ unreached → way_of w ≡ after l (way_of w)
unfolding way_of
after_none w l free = rw (eq-eqb w unreached free)

pub after_some : (w l : ℕ) → (w ≡ unreached → ⊥) → WayFits w → l < 4294967296 → (w + l < unreached) × (way_of (w + l) ≡ after l (way_of w))
unfolding way_of
after_some w l there fits small =
    let (node, cheap) = fits (record { target = w / way_costs; cost = w % way_costs }) (rw (ne_eqb w unreached there)) in
    let target : (w + l) / way_costs ≡ w / way_costs = omega arith in
    let price : (w + l) % way_costs ≡ l + w % way_costs = omega arith in
    (omega arith, rw (ne_eqb w unreached there, ne_eqb (w + l) unreached (λ e. omega arith), target, price))

module _ {t : Tree} {lands : List ℕ} {m : ℕ} where
  module _ {j : ℕ} {old up : List ℕ} (to : Handed t lands (λ p x. (p ≡ m) × (x < j)) old up) where
    -- one word more
    pub handed_more : UpRoom up → m < machines → j < commands → (w : ℕ) → w ≤ unreached → way_of w ≡ inherits t lands m j
        → Handed t lands (λ p x. (p ≡ m) × (x < j + 1)) old (set up (commands * m + j) (unreached - w))
    handed_more room machine small w fits says =
        record {
          told = λ p x range e.
              ⊎_elim (λ (same : x ≡ j). stored p x range (omega (arith, e.0)))
              (λ (apart : x ≡ j → ⊥). stays p x range (to.told p x range (e.0, omega (arith, e.1)))) (equal_or_not x j);
          kept = λ p x range e. stays p x range (to.kept p x range e);
        }
      where
        -- the word stored
        stored : (p x : ℕ) → x < commands → commands * p + x ≡ commands * m + j → Inherited t lands (set up (commands * m + j) (unreached - w)) p x
        stored p x range at_it =
            let machine_same : p ≡ m = omega arith in
            let command_same : x ≡ j = omega arith in
            let here : get_or (set up (commands * m + j) (unreached - w)) (commands * m + j) 0 ≡ unreached - w =
            get_or-set_same up (commands * m + j) (unreached - w) 0 (omega (arith, room)) in
            let back : unreached - (unreached - w) ≡ w = omega arith in
            rw (machine_same, command_same, here, back) says

        -- a word that was right
        stays : (p x : ℕ) → x < commands → Inherited t lands up p x → Inherited t lands (set up (commands * m + j) (unreached - w)) p x
        stays p x range right =
            ⊎_elim (λ (same : commands * p + x ≡ commands * m + j). stored p x range same)
            (λ (apart : commands * p + x ≡ commands * m + j → ⊥). rw (get_or-set_other up (commands * m + j) (commands * p + x) (unreached - w) 0 apart) right)
            (equal_or_not (commands * p + x) (commands * m + j))

module _ {t : Tree} (s : Sound t) {lands : List ℕ} where
  -- what is found leads to a node, and at no more than a step costs
  pub finds_fits : NodeList lands → (n x w : ℕ) → way_of w ≡ finds t lands n x → WayFits w
  unfolding finds
  finds_fits list n x w says a e = go (climb t t.root n x) refl (sym says ∙ e)
    where
      go : (k : Climb) → climb t t.root n x ≡ k → landed lands k ≡ some a → (a.target < nodes) × (a.cost ≤ largest_step_cost)
      go (passed c) up f = absurd (none_some {a = a} refl f)
      go (found u v c) up f =
          let at_v = climb_found s t.root n x up in
          subst (λ (b : Transition). (b.target < nodes) × (b.cost ≤ largest_step_cost)) (some_same refl f) (
            list.inside v (s.node_range v at_v.machine at_v.target_owner),
            subst (Cheap levels) up (climb_cheap s t.root n x),
          )

-- the move of a node left at cost e, from the word of what is found: the word for nothing has the word for absent as its node
pub way_entry : (w e : ℕ) → WayFits w
    → entry_move (w / way_costs) (e + w % way_costs) ≡ (way_of w >>= λ a. some (record { node = a.target; cost = e + a.cost }))
unfolding way_of
way_entry w e inside =
    ⊎_elim
    (λ (free : w ≡ unreached). entry_none (w / way_costs) (e + w % way_costs) (omega arith) ∙ rw (eq-eqb w unreached free))
    (λ (there : w ≡ unreached → ⊥).
    let node : w / way_costs < nodes = (inside (record { target = w / way_costs; cost = w % way_costs }) (rw (ne_eqb w unreached there))).0 in
    entry_some (w / way_costs) (e + w % way_costs) (λ z. omega arith) ∙ rw (ne_eqb w unreached there))
    (equal_or_not w unreached)

-- a list of zeros has the root's row
pub root_zeros : {t : Tree} → Sound t → (lands : List ℕ) (k : ℕ) → RootRow t lands (replicate k 0)
unfolding inherits way_of
root_zeros {t} s lands k x range = rw (zeros_at k (commands * t.root + x), s.root_free)
