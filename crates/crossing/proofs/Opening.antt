-- The list of opened machines: the walk up from a node, machine by machine, and what the list says in the end. Assumes nothing.
use mathlib.Core.Path.{◌≡◌, refl, sym, ◌∙◌, ap, fun_ext}
use mathlib.Core.Logic.{◌⊎◌, inl, inr}
use mathlib.Core.Bool.{Bool, true, false, ◌||◌, or-true, or-false, or_comm}
use mathlib.Core.Option.{some}
use mathlib.Core.List.{List}
use Prim.Native.Nat.{ℕ, ◌<◌}
use native.Mathlib.Omega.{arith}
use lib.Dec.{eqb}
use lib.ListN.{length, get_or, set, replicate, length-set}
use Rattle.definitions.specs.Limits.{machines, absent}
use Rattle.definitions.specs.Tree.{Tree, UsedNode, over}
use Rattle.definitions.specs.Book.{word, tree_of, WellFormed}
use Rattle.definitions.proofs.Words.{present_word, no_owner, owner_range}
use Rattle.definitions.proofs.Commands.{over_top, over_up}
use Rattle.plantheory.specs.Search.{opened_for}
use Rattle.book.proofs.Chosen.{zeros_at, chosen_more}
use Rattle.stepping.proofs.Upward.{own, top, held, used_holder}
use Rattle.crossing.specs.Parts.{is_open, MachinesOpened, OpenedFor, in_opened}

-- ---- one machine more

-- a list in which machine o is opened
open_set : (words : List ℕ) (o m : ℕ) → o < length words → is_open (set words o 1) m ≡ (eqb o m || is_open words m)
unfolding is_open
open_set words o m room = chosen_more words o m room

-- of three tests the first two may change places
swapped : (a b c : Bool) → (a || (b || c)) ≡ ((b || a) || c)
swapped a true c = or-true a
swapped a false c = refl

-- of two tests one holds
pub either : (a b : Bool) → (a || b) ≡ true → (a ≡ true) ⊎ (b ≡ true)
either true b e = inl refl
either false b e = inr e

-- ---- the walk up

-- the walk has come from node s to node n: what is opened, with the machines over n, is what was opened, with the machines over s
pub record Walking (t : Tree) (old new : List ℕ) (s n : ℕ) : Type 0 where
  pub room : length new ≡ machines
  pub used : UsedNode t n
  pub rest : (m : ℕ) → (over t m n || is_open new m) ≡ (over t m s || is_open old m)

module _ (book : List ℕ) (w : WellFormed book) {old new : List ℕ} {s n : ℕ} (walk : Walking (tree_of book) old new s n) where
  module _ {o : ℕ} (owner : o ≡ word ((tree_of book).owner n)) where
    own_n : (tree_of book).owner n ≡ some o
    own_n = own book w n walk.used owner

    -- and so is its machine, which has its word
    pub machine_range : o < machines
    machine_range = (owner_range (tree_of book) w.sound n o own_n).1

    pub machine_room : o < length new
    machine_room = omega (arith, machine_range, walk.room)

    module _ {h : ℕ} (holder : h ≡ word ((tree_of book).holder o)) where
      -- no node holds it
      pub walk_ends : h ≡ absent → MachinesOpened (tree_of book) s old (set new o 1)
      walk_ends free =
          record {
            says = λ m.
                open_set new o m machine_room
                ∙ ap (λ (b : Bool). b || is_open new m) (sym (over_top (tree_of book) m own_n (top book w n walk.used owner holder free)))
                ∙ walk.rest m;
          }

      module _ (there : h ≡ absent → ⊥) where
        -- node h holds it: on from there
        pub walk_on : Walking (tree_of book) old (set new o 1) s h
        walk_on =
            record {
              room = length-set new o 1 ∙ walk.room;
              used = used_holder book w n walk.used owner holder there;
              rest = λ m.
                  ap (λ (b : Bool). over (tree_of book) m h || b) (open_set new o m machine_room)
                  ∙ swapped (over (tree_of book) m h) (eqb o m) (is_open new m)
                  ∙ ap (λ (b : Bool). b || is_open new m) (sym (over_up w.sound m own_n (held book w n walk.used owner holder there)))
                  ∙ walk.rest m;
            }

-- ---- what the list says

-- a list of zeros opens no machine
pub closed : (k m : ℕ) → is_open (replicate k 0) m ≡ false
unfolding is_open
closed k m = rw (zeros_at k m)

-- after two walks from such a list the machines above a or b are opened
pub opened_both : {t : Tree} {a b : ℕ} {none_open first both : List ℕ} → ((m : ℕ) → is_open none_open m ≡ false) → MachinesOpened t a none_open first
    → MachinesOpened t b first both → OpenedFor t a b both
unfolding opened_for
opened_both {t} {a} {b} none_yet one two =
    fun_ext λ m.
    two.says m
    ∙ ap (λ (c : Bool). over t m b || c) (one.says m ∙ ap (λ (c : Bool). over t m a || c) (none_yet m) ∙ or-false (over t m a))
    ∙ or_comm (over t m b) (over t m a)

-- ---- a node's machine

module _ (book : List ℕ) (w : WellFormed book) (words : List ℕ) (n : ℕ) {o : ℕ} (owner : o ≡ word ((tree_of book).owner n)) where
  -- a node that is not in use belongs to no machine
  pub in_none : o ≡ absent → false ≡ in_opened (tree_of book) (is_open words) n
  unfolding in_opened
  in_none e = rw (no_owner (tree_of book) w.sound n owner e)

  module _ (there : o ≡ absent → ⊥) where
    -- another to its owner
    owned : (tree_of book).owner n ≡ some o
    owned = present_word ((tree_of book).owner n) owner there

    pub in_range : o < machines
    in_range = (owner_range (tree_of book) w.sound n o owned).1

    pub in_some : eqb (get_or words o 0) 1 ≡ in_opened (tree_of book) (is_open words) n
    unfolding in_opened is_open
    in_some = rw owned
