-- Landing, one node at a time, as the loop goes down: a node that holds an opened machine lands where the start node of this machine does.
-- And the list of where all nodes land: only nodes that hold an opened machine do not land where they are.
-- Assumes nothing.
use mathlib.Core.Path.{◌≡◌, refl, sym, ◌∙◌, ap, subst}
use mathlib.Core.Logic.{◌⊎◌, inl, inr, ⊎_elim}
use mathlib.Core.Bool.{Bool, true, false, cond}
use mathlib.Core.Option.{Option, none, some}
use mathlib.Core.List.{List}
use Prim.Native.Nat.{ℕ, zero, suc, ◌-◌, ◌<◌}
use native.Mathlib.Omega.{arith}
use lib.Dec.{eqb}
use lib.ListN.{length, get_or, set, length-set}
use lib.Seq.{get_or-set_same, get_or-set_other}
use borrow.Author.Tests.{eq-eqb, ne_eqb, eqb-true}
use Rattle.definitions.specs.Basics.{◌>>=◌, option}
use Rattle.definitions.specs.Limits.{nodes, levels, absent}
use Rattle.definitions.specs.Tree.{Tree, UsedNode, Sound, level, over}
use Rattle.definitions.specs.Book.{word, tree_of, WellFormed}
use Rattle.definitions.proofs.Options.{bind_some, none_some, some_same, equal_or_not}
use Rattle.definitions.proofs.Words.{present_word, no_below}
use Rattle.definitions.proofs.Commands.{over_top, over_up}
use Rattle.plantheory.specs.Search.{opened_for, land_f, land}
use Rattle.plantheory.proofs.Landing.{land_there}
use Rattle.stepping.proofs.Laws.{used_range, down_told}
use Rattle.stepping.proofs.Upward.{own, top, held, used_holder}
use Rattle.crossing.specs.Parts.{is_open, OpenedFor, Itself, LandsAt, LandedAbove, Landings}
use Rattle.crossing.proofs.Opening.{either}

-- ---- in a tree

module _ (t : Tree) (opened : ℕ → Bool) where
  -- a plain node lands where it is
  land_plain : (v : ℕ) → t.below v ≡ none → land t opened v ≡ some v
  unfolding land land_f
  land_plain v bel = rw bel

  -- and so does one that holds a machine which is not opened
  land_shut : (v : ℕ) {b : ℕ} → t.below v ≡ some b → opened b ≡ false → land t opened v ≡ some v
  unfolding land land_f
  land_shut v bel off = rw (bel, off)

  -- more fuel changes nothing
  land_f_more : (k v : ℕ) {w : ℕ} → land_f k t opened v ≡ some w → land_f (suc k) t opened v ≡ some w
  unfolding land_f
  land_f_more zero v {w} e = absurd (none_some {a = w} refl e)
  land_f_more (suc k) v {w} e = on_below (t.below v) e (λ f u. land_f_more k f)
    where
      on_opened : (b : ℕ) (c : Bool) → cond c (t.start b >>= land_f k t opened) (some v) ≡ some w
          → ((f u : ℕ) → land_f k t opened f ≡ some u → land_f (suc k) t opened f ≡ some u)
          → cond c (t.start b >>= land_f (suc k) t opened) (some v) ≡ some w
      on_opened b true e' more =
          let (f, st, rest) = bind_some (t.start b) (land_f k t opened) e' in
          rw st (more f w rest)
      on_opened b false e' more = e'

      on_below : (o : Option ℕ) → option (some v) (λ b. cond (opened b) (t.start b >>= land_f k t opened) (some v)) o ≡ some w
          → ((f u : ℕ) → land_f k t opened f ≡ some u → land_f (suc k) t opened f ≡ some u)
          → option (some v) (λ b. cond (opened b) (t.start b >>= land_f (suc k) t opened) (some v)) o ≡ some w
      on_below none e' more = e'
      on_below (some b) e' more = on_opened b (opened b) e' more

  land_f_down : (k v : ℕ) {b f : ℕ} → t.below v ≡ some b → opened b ≡ true → t.start b ≡ some f → land_f (suc k) t opened v ≡ land_f k t opened f
  unfolding land_f
  land_f_down k v bel on st = rw (bel, on, st)

  -- one that holds an opened machine lands where the start node of this machine does
  land_down : Sound t → {v m b f : ℕ} → t.owner v ≡ some m → t.below v ≡ some b → opened b ≡ true → t.start b ≡ some f
      → land t opened v ≡ land t opened f
  unfolding land
  land_down s {v} {b = b} {f} own bel on st =
      let (w, there) = land_there s opened own in
      let (u, lower) = land_there s opened (s.start_owned b f st) in
      let same : w ≡ u = some_same (land_f_more levels v there) (land_f_down levels v bel on st ∙ lower) in
      there ∙ ap {B = Option ℕ} some same ∙ sym lower

-- ---- the same, from what the words say

module _ (book : List ℕ) (w : WellFormed book) (words : List ℕ) (v : ℕ) (used : UsedNode (tree_of book) v) {b : ℕ}
    (below : b ≡ word ((tree_of book).below v)) where
  pub lands_plain : b ≡ absent → land (tree_of book) (is_open words) v ≡ some v
  lands_plain free = land_plain (tree_of book) (is_open words) v (no_below (tree_of book) w.sound v below free)

  module _ (there : b ≡ absent → ⊥) where
    holds : (tree_of book).below v ≡ some b
    holds = present_word ((tree_of book).below v) below there

    pub lands_shut : (get_or words b 0 ≡ 1 → ⊥) → land (tree_of book) (is_open words) v ≡ some v
    unfolding is_open
    lands_shut off = land_shut (tree_of book) (is_open words) v holds (ne_eqb (get_or words b 0) 1 off)

    -- node f, where v is entered next, lands where v does
    pub record LandsOn (f : ℕ) : Type 0 where
      pub used_start : UsedNode (tree_of book) f
      pub same : land (tree_of book) (is_open words) v ≡ land (tree_of book) (is_open words) f
      pub lower : levels - level (tree_of book) f < levels - level (tree_of book) v

    pub lands_on : get_or words b 0 ≡ 1 → {f : ℕ} → f ≡ word ((tree_of book).start b) → LandsOn f
    unfolding is_open word
    lands_on on {f} start =
        let s = w.sound in
        let (g, st) = s.held_used b v (s.below_held v b holds) in
        let is : f ≡ g = start ∙ ap word st in
        let next = down_told book w v used below there start in
        record {
          used_start = next.used_start;
          same = land_down (tree_of book) (is_open words) s used.1 holds (eq-eqb (get_or words b 0) 1 on) (st ∙ ap {B = Option ℕ} some (sym is));
          lower = next.lower;
        }

-- ---- the list of landings

-- where node h lands is stored
module _ (t : Tree) (opened : ℕ → Bool) (lands : List ℕ) (room : length lands ≡ nodes) (h : ℕ) {w : ℕ} (small : h < nodes)
    (lands_w : (land t opened h ≡ some w) × (w < nodes)) where
  stored : LandsAt t opened (set lands h w) h
  stored = rw (get_or-set_same lands h w 0 (omega (arith, room))) lands_w

  -- what was right still is
  stays : (v : ℕ) → LandsAt t opened lands v → LandsAt t opened (set lands h w) v
  stays v right =
      ⊎_elim (λ (same : v ≡ h). subst (LandsAt t opened (set lands h w)) (sym same) stored)
      (λ (apart : v ≡ h → ⊥). rw (get_or-set_other lands h v w 0 apart) right) (equal_or_not v h)

-- the walk from s has come to node n: of the nodes that hold a machine above s, those that hold none above n have where they land
pub record LandingWalk (t : Tree) (opened : ℕ → Bool) (s n : ℕ) (old new : List ℕ) : Type 0 where
  pub room : length new ≡ nodes
  pub used : UsedNode t n
  pub told : (v b : ℕ) → t.below v ≡ some b → over t b s ≡ true → (over t b n ≡ true) ⊎ LandsAt t opened new v
  pub kept : (v : ℕ) → LandsAt t opened old v → LandsAt t opened new v

module _ (book : List ℕ) (w : WellFormed book) {opened : ℕ → Bool} {s n : ℕ} {old new : List ℕ}
    (walk : LandingWalk (tree_of book) opened s n old new) {o h : ℕ} (owner : o ≡ word ((tree_of book).owner n))
    (holder : h ≡ word ((tree_of book).holder o)) where
  own_n : (tree_of book).owner n ≡ some o
  own_n = own book w n walk.used owner

  -- no node holds n's machine
  pub landing_ends : h ≡ absent → LandedAbove (tree_of book) opened s old new
  landing_ends free =
      let top_o = top book w n walk.used owner holder free in
      record {
        told = λ v b bel on.
            ⊎_elim
            (λ (on_n : over (tree_of book) b n ≡ true).
            let same : o ≡ b = eqb-true o b (sym (over_top (tree_of book) b own_n top_o) ∙ on_n) in
            absurd (none_some top_o (subst (λ (m : ℕ). (tree_of book).holder m ≡ some v) (sym same) (w.sound.below_held v b bel))))
            (λ right. right) (walk.told v b bel on);
        kept = walk.kept;
      }

  -- node h does
  pub landing_on : (h ≡ absent → ⊥) → {v : ℕ} → (land (tree_of book) opened h ≡ some v) × (v < nodes)
      → LandingWalk (tree_of book) opened s h old (set new h v)
  landing_on there {v} lands_v =
      let held_o = held book w n walk.used owner holder there in
      let used_h = used_holder book w n walk.used owner holder there in
      let right = stored (tree_of book) opened new walk.room h (used_range book w h used_h) lands_v in
      let still = stays (tree_of book) opened new walk.room h (used_range book w h used_h) lands_v in
      record {
        room = length-set new h v ∙ walk.room;
        used = used_h;
        told = λ u b bel on.
            ⊎_elim
            (λ (on_n : over (tree_of book) b n ≡ true).
            ⊎_elim
            (λ (same : eqb o b ≡ true).
            let is : h ≡ u =
            some_same held_o (subst (λ (m : ℕ). (tree_of book).holder m ≡ some u) (sym (eqb-true o b same)) (w.sound.below_held u b bel)) in
            inr (subst (LandsAt (tree_of book) opened (set new h v)) is right))
            inl (either (eqb o b) (over (tree_of book) b h) (sym (over_up w.sound b own_n held_o) ∙ on_n)))
            (λ was. inr (still u was)) (walk.told u b bel on);
        kept = λ u was. still u (walk.kept u was);
      }

-- after two walks every node has where it lands
pub landings_both : (book : List ℕ) → WellFormed book → (words : List ℕ) (a b : ℕ) {first one both : List ℕ} → OpenedFor (tree_of book) a b words
    → length both ≡ nodes → Itself first → LandedAbove (tree_of book) (is_open words) a first one → LandedAbove (tree_of book) (is_open words) b one both
    → Landings (tree_of book) (is_open words) both
unfolding opened_for
landings_both book w words a b {both = both} says room same walk_a walk_b =
    record { list = record { room = room; inside = λ v small. (all v small).1 }; says = λ v small. (all v small).0 }
  where
    t : Tree
    t = tree_of book

    -- a node that lands where it is
    stays_put : (v : ℕ) → v < nodes → land t (is_open words) v ≡ some v → LandsAt t (is_open words) both v
    stays_put v small lands_v = walk_b.kept v (walk_a.kept v (rw (same v small) (lands_v, small)))

    on_opened : (v b' : ℕ) → v < nodes → t.below v ≡ some b' → (c : Bool) → is_open words b' ≡ c → LandsAt t (is_open words) both v
    on_opened v b' small bel false off = stays_put v small (land_shut t (is_open words) v bel off)
    on_opened v b' small bel true on =
        ⊎_elim (λ (over_a : over t b' a ≡ true). walk_b.kept v (walk_a.told v b' bel over_a)) (λ (over_b : over t b' b ≡ true). walk_b.told v b' bel over_b)
        (either (over t b' a) (over t b' b) (sym (ap (λ (f : ℕ → Bool). f b') says) ∙ on))

    on_below : (v : ℕ) → v < nodes → (o : Option ℕ) → t.below v ≡ o → LandsAt t (is_open words) both v
    on_below v small none bel = stays_put v small (land_plain t (is_open words) v bel)
    on_below v small (some b') bel = on_opened v b' small bel (is_open words b') refl

    all : (v : ℕ) → v < nodes → LandsAt t (is_open words) both v
    all v small = on_below v small (t.below v) refl
