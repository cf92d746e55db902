-- The used part of a list, one command at a time, as the loop goes. Assumes nothing.
use mathlib.Core.Path.{◌≡◌, refl, sym, ◌∙◌, ap}
use mathlib.Core.Option.{Option, none, some}
use mathlib.Core.List.{[], List, ◌∷◌}
use Prim.Native.Nat.{ℕ, suc, ◌+◌, ◌*◌, ◌≤◌, ◌<◌}
use native.Mathlib.Omega.{arith}
use lib.ListN.{length, get_or, take, drop, length-take, drop_of_length-le}
use lib.Seq.{drop-cons}
use borrow.Author.Tests.{eq-eqb, ne_eqb, lt-ltb, le-ltb}
use Rattle.definitions.specs.Basics.{◌>>=◌}
use Rattle.definitions.specs.Limits.{commands, largest_step_cost, longest_list}
use Rattle.definitions.specs.Tree.{Tree, UsedNode, Sound}
use Rattle.definitions.specs.Step.{Arrival, step}
use Rattle.definitions.specs.Choose.{Used, used_part, used_of}
use Rattle.definitions.proofs.Simple.{step_cost, step_state}

-- a used part with i commands at cost c before it
abbrev pub shifted : ℕ → ℕ → Option Used → Option Used
shifted i c o = o >>= λ u. some (record { count = i + u.count; cost = c + u.cost })

used : (i : ℕ) {j c d : ℕ} → i ≡ j → c ≡ d → ◌≡◌ {A = Option Used} (some (record { count = i; cost = c })) (some (record { count = j; cost = d }))
used i p q = λ k. some (record { count = p k; cost = q k })

pub shifted_more : (i c d : ℕ) (o : Option Used) → shifted i c (shifted 1 d o) ≡ shifted (i + 1) (c + d) o
shifted_more i c d none = refl
shifted_more i c d (some u) = used (i + (1 + u.count)) (omega arith) (omega arith)

module _ (t : Tree) {s b : ℕ} where
  -- at b
  pub part_arrives : s ≡ b → (xs : List ℕ) → used_part t b s xs ≡ some (record { count = 0; cost = 0 })
  unfolding used_part
  part_arrives e [] = rw (eq-eqb s b e)
  part_arrives e (x ∷ xs) = rw (eq-eqb s b e)

  -- before b: at the list's end, at a byte over 15, at a stop
  pub part_ends : (s ≡ b → ⊥) → used_part t b s [] ≡ none
  unfolding used_part
  part_ends e = rw (ne_eqb s b e)

  pub part_over : (s ≡ b → ⊥) → (x : ℕ) (xs : List ℕ) → commands ≤ x → used_part t b s (x ∷ xs) ≡ none
  unfolding used_part
  part_over e x xs h = rw (ne_eqb s b e, le-ltb x commands h)

  pub part_stops : (s ≡ b → ⊥) → (x : ℕ) (xs : List ℕ) → x < commands → step t s x ≡ none → used_part t b s (x ∷ xs) ≡ none
  unfolding used_part
  part_stops e x xs h stop = rw (ne_eqb s b e, lt-ltb x commands h, stop)

  -- before b, by one command
  pub part_moves : (s ≡ b → ⊥) → (x : ℕ) (xs : List ℕ) {a : Arrival} → x < commands → step t s x ≡ some a
      → used_part t b s (x ∷ xs) ≡ shifted 1 a.cost (used_part t b a.node xs)
  unfolding used_part
  part_moves e x xs {a} h moved = rw (ne_eqb s b e, lt-ltb x commands h, moved) (one (used_part t b a.node xs))
    where
      one : (o : Option Used) → (o >>= λ u. some (record { count = suc u.count; cost = a.cost + u.cost })) ≡ shifted 1 a.cost o
      one none = refl
      one (some u) = used (suc u.count) (omega arith) refl

-- ---- the loop

-- The loop's invariant: s is a state, i commands of those looked at, at this cost, lead to it, and what is used from there on, with these before
-- it, is what is used of all.
pub record Upto (t : Tree) (a b : ℕ) (looked : List ℕ) (s i cost : ℕ) : Type 0 where
  pub used : UsedNode t s
  pub plain : t.below s ≡ none
  pub short : i ≤ length looked
  pub cheap : cost ≤ i * largest_step_cost
  pub same : used_part t b a looked ≡ shifted i cost (used_part t b s (drop i looked))

module _ {t : Tree} (sound : Sound t) {a b : ℕ} (list : List ℕ) {looked : List ℕ} (front : looked ≡ take longest_list list) {s i cost : ℕ}
    (upto : Upto t a b looked s i cost) where
  -- what is used of all is what is used of the list
  of_list : {o : Option Used} → used_part t b a looked ≡ o → o ≡ used_of t a b list
  of_list e = sym (ap (used_part t b a) (sym front) ∙ e)

  -- where s is b
  pub upto_arrives : s ≡ b → some (record { count = i; cost = cost }) ≡ used_of t a b list
  upto_arrives e = of_list (upto.same ∙ ap (shifted i cost) (part_arrives t e (drop i looked)) ∙ used (i + 0) (omega arith) (omega arith))

  -- where nothing more is looked at
  pub upto_ends : (s ≡ b → ⊥) → length looked ≤ i → none ≡ used_of t a b list
  upto_ends e end =
      of_list
      (upto.same ∙ ap (λ (xs : List ℕ). shifted i cost (used_part t b s xs)) (drop_of_length-le looked end) ∙ ap (shifted i cost) (part_ends t e))

  module _ (e : s ≡ b → ⊥) (inside : i < length looked) (x : ℕ) (at : x ≡ get_or looked i 0) where
    here : used_part t b a looked ≡ shifted i cost (used_part t b s (x ∷ drop (i + 1) looked))
    here =
        let next : suc i ≡ i + 1 = omega arith in
        upto.same
        ∙ ap (λ (xs : List ℕ). shifted i cost (used_part t b s xs)) (drop-cons looked i 0 inside)
        ∙ ap (λ (j : ℕ). shifted i cost (used_part t b s (get_or looked i 0 ∷ drop j looked))) next
        ∙ ap (λ (y : ℕ). shifted i cost (used_part t b s (y ∷ drop (i + 1) looked))) (sym at)

    -- a byte over 15
    pub upto_over : commands ≤ x → none ≡ used_of t a b list
    upto_over over = of_list (here ∙ ap (shifted i cost) (part_over t e x (drop (i + 1) looked) over))

    -- a stop
    pub upto_stops : x < commands → step t s x ≡ none → none ≡ used_of t a b list
    upto_stops range stop = of_list (here ∙ ap (shifted i cost) (part_stops t e x (drop (i + 1) looked) range stop))

    -- one command more
    pub upto_moves : x < commands → {n c : ℕ} → step t s x ≡ some (record { node = n; cost = c }) → Upto t a b looked n (i + 1) (cost + c)
    upto_moves range {n} {c} moved =
        let cheap = step_cost sound t.root s x moved in
        let (m, own, plain) = step_state sound t.root s x moved in
        record {
          used = (m, own);
          plain = plain;
          short = omega (arith, inside);
          cheap = omega (arith, upto.cheap);
          same =
              here
              ∙ ap (shifted i cost) (part_moves t e x (drop (i + 1) looked) range moved)
              ∙ shifted_more i cost c (used_part t b n (drop (i + 1) looked));
        }

    -- the sum of costs fits
    pub upto_fits : x < commands → {n c : ℕ} → step t s x ≡ some (record { node = n; cost = c }) → cost + c ≤ 65536 * largest_step_cost
    upto_fits range moved =
        let few : length looked ≤ longest_list = omega (arith, ap length front, length-take longest_list list) in
        omega (arith, upto.cheap, step_cost sound t.root s x moved)
