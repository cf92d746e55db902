-- Marking from a node up. The machines over the node that were not stale yet are listed one by one; to mark these and to blank their rows
-- and their nodes' rows is to mark and blank all over the node. Assumes nothing.
use mathlib.Core.Path.{◌≡◌, refl, ap, sym, ◌∙◌, fun_ext, subst}
use mathlib.Core.Logic.{◌⊎◌, inl, inr, ⊎_elim}
use mathlib.Core.Bool.{Bool, true, false, not, ◌&&◌, ◌||◌, or-true, or-false}
use mathlib.Core.Option.{Option, none, some}
use mathlib.Core.List.{List}
use Prim.Native.Nat.{ℕ, zero, suc, ◌+◌, ◌≤◌, ◌<◌}
use native.Mathlib.Omega.{arith}
use lib.Dec.{eqb}
use lib.ListN.{length, set, replicate, length-set, length-replicate}
use native.Mathlib.Decide.{dec_lt}
use borrow.Author.Tests.{eq-eqb, ne_eqb}
use Rattle.definitions.specs.Basics.{option, unless, is_some, put, iterate}
use Rattle.definitions.specs.Limits.{machines, commands, sheet_length, absent}
use Rattle.definitions.specs.Tree.{Tree, UsedNode, Sound, used_machine, parent, level, over}
use Rattle.definitions.specs.Book.{word, number, tree_of, WellFormed}
use Rattle.definitions.specs.Sheet.{Rows, cost_of, machine_row_word, rows_of}
use Rattle.definitions.specs.Truth.{BlankMachine, BlankNode, BlankRule, TrueSheet}
use Rattle.definitions.specs.Edit.{with_stale}
use Rattle.definitions.proofs.Options.{none_some, bind_some, some_same, true_false, decided, equal_or_not}
use Rattle.definitions.proofs.Path.{Deep, at_root, under, deep, deep_unique, level_on}
use Rattle.definitions.proofs.Words.{same_rows, present_word, no_holder, owner_range}
use Rattle.definitions.proofs.Commands.{over_top, over_up, over_climbs}
use Rattle.book.proofs.Places.{grid_past}
use Rattle.rows.proofs.Edits.{over_own}
use Rattle.sheet.specs.Fields.{Mark, Leaves, with_mark, with_blank_machine}
use Rattle.sheet.proofs.Stores.{leaves_then}
use Rattle.stepping.proofs.Laws.{owner_told}
use Rattle.book.specs.Chosen.{chosen}
use Rattle.sheet.specs.Fields.{with_blank_nodes}
use Rattle.marking.specs.Stale.{with_marked, owned_by, fresh_over, LeavesBlank, MarkedOver, LeavesStaleOver}
use Rattle.book.proofs.Chosen.{zeros, chosen_more}
use Rattle.sheet.proofs.Stores.{untouched, leaves_same}

-- ---- rows where nothing is left to mark

-- a blank machine's row has nothing for any number
module _ (ws : List ℕ) (m x : ℕ) (blank : BlankMachine (rows_of ws) m) where
  pub blank_exit : (rows_of ws).exit m x ≡ none
  unfolding rows_of
  blank_exit =
      elim (dec_lt x commands) [
        | yes range ↦ blank.exit x range
        | no past ↦ grid_past machines commands m x (cost_of (machine_row_word ws m (1 + x))) (omega arith)
      ]

  pub blank_last : (rows_of ws).last m x ≡ none
  unfolding rows_of
  blank_last =
      elim (dec_lt x commands) [
        | yes range ↦ blank.last x range
        | no past ↦ grid_past machines commands m x (number (machine_row_word ws m (17 + x))) (omega arith)
      ]

-- the same is left by two tests where the one passes only what the other does, and what the other alone passes is blank
same_left : (b c : Bool) (v : Option ℕ) → (b ≡ true → c ≡ true) → (c ≡ true → b ≡ false → v ≡ none) → unless b v ≡ unless c v
same_left true true v more blank = refl
same_left true false v more blank = absurd (true_false (more refl) refl)
same_left false true v more blank = blank refl refl
same_left false false v more blank = refl

-- a machine that is not in use or touched, by its start node
not_used_or : (o : Option ℕ) {b : Bool} → (not (is_some o) || b) ≡ true → (o ≡ none) ⊎ (b ≡ true)
not_used_or none e = inl refl
not_used_or (some f) e = inr e

-- Where every touched machine is fresh or stale already, and the fresh ones are in use and touched, it is enough to mark the fresh ones
-- and to blank their rows and their nodes' rows.
module _ (t : Tree) (touched fresh : ℕ → Bool) (ws : List ℕ) (blanks : BlankRule t (rows_of ws))
    (rest : (p : ℕ) → touched p ≡ true → fresh p ≡ false → (rows_of ws).stale p ≡ true)
    (some_touched : (p : ℕ) → fresh p ≡ true → (touched p ≡ true) × (used_machine t p ≡ true)) where
  mark : (m : ℕ) (o : Option ℕ) → t.start m ≡ o → (b c : Bool) → fresh m ≡ b → touched m ≡ c
      → (b || (rows_of ws).stale m) ≡ (is_some o && (c || (rows_of ws).stale m))
  mark m none e true c on over = absurd (true_false (some_touched m on).1 (ap is_some e))
  mark m none e false c off over = blanks.unused_stale m e
  mark m (some f) e true true on over = refl
  mark m (some f) e true false on over = absurd (true_false (some_touched m on).0 over)
  mark m (some f) e false true off over = rest m over off
  mark m (some f) e false false off over = refl

  machine : (m : ℕ) → (not (is_some (t.start m)) || touched m) ≡ true → fresh m ≡ false → BlankMachine (rows_of ws) m
  machine m e off =
      ⊎_elim (blanks.unused_machine_lem m) (λ on. blanks.stale_machine m (rest m on off)) (not_used_or (t.start m) e)

  more : (m : ℕ) → fresh m ≡ true → (not (is_some (t.start m)) || touched m) ≡ true
  more m on = rw (some_touched m on).0 (or-true (not (is_some (t.start m))))

  node : (n : ℕ) (o : Option ℕ) → t.owner n ≡ o → option true touched o ≡ true → option false fresh o ≡ false → BlankNode (rows_of ws) n
  node n none own e off = blanks.unused_node_lem n own
  node n (some m) own e off = blanks.stale_node n m own (rest m e off)

  more_nodes : (o : Option ℕ) → option false fresh o ≡ true → option true touched o ≡ true
  more_nodes none on = refl
  more_nodes (some m) on = (some_touched m on).0

  pub marks_fresh : with_blank_nodes (with_marked (rows_of ws) fresh) (owned_by t fresh) ≡ with_stale t touched (rows_of ws)
  unfolding with_stale
  marks_fresh =
      same_rows _ _ (λ m. mark m (t.start m) refl (fresh m) (touched m) refl refl)
      (λ m x. same_left _ _ ((rows_of ws).exit m x) (more m) (λ e off. blank_exit ws m x (machine m e off)))
      (λ m x. same_left _ _ ((rows_of ws).last m x) (more m) (λ e off. blank_last ws m x (machine m e off)))
      (λ n. same_left _ _ ((rows_of ws).cost n) (more_nodes (t.owner n)) (λ e off. (node n (t.owner n) refl e off).cost))
      (λ n. same_left _ _ ((rows_of ws).before n) (more_nodes (t.owner n)) (λ e off. (node n (t.owner n) refl e off).before))
      (λ n. same_left _ _ ((rows_of ws).by n) (more_nodes (t.owner n)) (λ e off. (node n (t.owner n) refl e off).by))

-- where every touched machine is stale already, the rows stay
pub idle : (t : Tree) (touched : ℕ → Bool) (ws : List ℕ) → BlankRule t (rows_of ws)
    → ((p : ℕ) → touched p ≡ true → (rows_of ws).stale p ≡ true) → with_stale t touched (rows_of ws) ≡ rows_of ws
idle t touched ws blanks marked =
    sym (marks_fresh t touched (λ p. false) ws blanks (λ p on off. marked p on) (λ p on. absurd (true_false on refl)))
    ∙ ap (with_blank_nodes (rows_of ws)) (fun_ext λ n. nobody (t.owner n))
  where
    nobody : (o : Option ℕ) → option false (λ p. false) o ≡ false
    nobody none = refl
    nobody (some m) = refl

-- ---- one machine more

-- a machine that is marked after others is one of those that are marked
one_more : (r : Rows) (a : ℕ → Bool) (m : ℕ) → with_blank_machine (with_mark (with_marked r a) m true) m ≡ with_marked r (λ p. eqb m p || a p)
one_more r a m =
    same_rows _ _
    (λ p.
    ⊎_elim (λ e. rw (eq-eqb p m e, eq-eqb m p (sym e))) (λ ne. rw (ne_eqb p m ne, ne_eqb m p (λ e. ne (sym e)))) (equal_or_not p m))
    (λ p x. row p x r.exit) (λ p x. row p x r.last) (λ n. refl) (λ n. refl) (λ n. refl)
  where
    row : (p x : ℕ) (f : ℕ → ℕ → Option ℕ)
        → put {A = ℕ → Option ℕ} (λ q y. unless (a q) (f q y)) m (λ y. none) p x ≡ unless (eqb m p || a p) (f p x)
    row p x f =
        ⊎_elim (λ e. rw (eq-eqb p m e, eq-eqb m p (sym e))) (λ ne. rw (ne_eqb p m ne, ne_eqb m p (λ e. ne (sym e))))
        (equal_or_not p m)

-- ---- machines over a node

-- a machine that climbs to another is no higher
climbs_deep : {t : Tree} → Sound t → (j : ℕ) {p q k : ℕ} → iterate (parent t) j p ≡ some q → Deep t p k → (i : ℕ) × (i ≤ k) × Deep t q i
unfolding iterate parent
climbs_deep {t} s zero {k = k} e d = (k, omega arith, rw (some_same refl e) at d)
climbs_deep {t} s (suc j) {p} {q} e (at_root top) =
    let free : t.holder p ≡ none = rw top s.root_free in
    absurd (none_some {a = q} refl (rw free at e))
climbs_deep {t} s (suc j) e (under held own d) =
    let (i, small, way) = climbs_deep s j (rw (held, own) at e) d in
    (i, omega arith, way)

-- a machine over a node is no deeper than the node's machine
over_deep : {t : Tree} → Sound t → (p : ℕ) {n m k : ℕ} → t.owner n ≡ some m → Deep t m k → over t p n ≡ true → (i : ℕ) × (i ≤ k) × Deep t p i
over_deep s p own way ov = let (j, climb) = over_climbs s p own ov in climbs_deep s j climb way

-- and is in use
over_used : {t : Tree} → Sound t → (p : ℕ) {n m : ℕ} → t.owner n ≡ some m → over t p n ≡ true → used_machine t p ≡ true
over_used {t} s p {n} {m} own ov =
    let (k, small, way) = deep s (s.owner_used n m own).1 in
    let (i, high, way_p) = over_deep s p own way ov in
    go way_p
  where
    go : {q i : ℕ} → Deep t q i → used_machine t q ≡ true
    go (at_root top) = rw (top, s.root_used.1)
    go (under {m = q} {h = h} held own d) = rw (s.held_used q h held).1

-- a machine is not over the node that holds it
not_over_holder : {t : Tree} → Sound t → {m h : ℕ} → t.holder m ≡ some h → over t m h ≡ true → ⊥
not_over_holder {t} s {m} {h} held ov =
    let (p, own) = s.holder_used m h held in
    let (f, used) = s.owner_used h p own in
    let (k, small, way) = deep s used in
    let (i, high, way_m) = over_deep s m own way ov in
    let same : i ≡ suc k = deep_unique s way_m (under held own way) in
    omega arith

-- ---- the climb

-- The machines over node n are those listed and the rest. No listed one is of the rest, and none was stale.
pub record Parted (t : Tree) (r : Rows) (n : ℕ) (listed rest : ℕ → Bool) : Type 0 where
  pub both : (p : ℕ) → over t p n ≡ (listed p || rest p)
  pub apart : (p : ℕ) → listed p ≡ true → rest p ≡ false
  pub were_fresh : (p : ℕ) → listed p ≡ true → r.stale p ≡ false

module _ {t : Tree} {r : Rows} {n : ℕ} {listed rest : ℕ → Bool} (parted : Parted t r n listed rest) where
  -- one machine of the rest more, which was not stale, is listed
  parted_more : (m : ℕ) (others : ℕ → Bool) → ((p : ℕ) → rest p ≡ (eqb m p || others p)) → others m ≡ false → r.stale m ≡ false
      → Parted t r n (λ p. eqb m p || listed p) others
  parted_more m others split off fresh =
      record {
        both = λ p. parted.both p ∙ ap (λ b. listed p || b) (split p) ∙ regroup (listed p) (eqb m p) (others p);
        apart = λ p on. one_of others p on off (λ was. right (eqb m p) (sym (split p) ∙ parted.apart p was));
        were_fresh = λ p on. one_of r.stale p on fresh (parted.were_fresh p);
      }
    where
      regroup : (a b c : Bool) → (a || (b || c)) ≡ ((b || a) || c)
      regroup true b c = sym (ap (λ d. d || c) (or-true b))
      regroup false b c = sym (ap (λ d. d || c) (or-false b))

      right : (a : Bool) {b : Bool} → (a || b) ≡ false → b ≡ false
      right true e = absurd (true_false refl e)
      right false e = e

      -- what holds of m and of a listed machine
      one_of : (test : ℕ → Bool) (p : ℕ) → (eqb m p || listed p) ≡ true → test m ≡ false → (listed p ≡ true → test p ≡ false)
          → test p ≡ false
      one_of test p on here there =
          ⊎_elim (λ same. ap test (sym same) ∙ here) (λ other. there (rw (ne_eqb m p other) at on)) (equal_or_not m p)

  -- where the rest was stale already, those listed are the machines over n that were not
  parted_all : ((p : ℕ) → rest p ≡ true → r.stale p ≡ true) → (p : ℕ) → listed p ≡ fresh_over t n r p
  parted_all stale p =
      go (listed p) (rest p) (r.stale p) (parted.were_fresh p) (stale p) ∙ ap (λ b. b && not (r.stale p)) (sym (parted.both p))
    where
      go : (a b c : Bool) → (a ≡ true → c ≡ false) → (b ≡ true → c ≡ true) → a ≡ ((a || b) && not c)
      go true b true fresh on = absurd (true_false refl (fresh refl))
      go true b false fresh on = refl
      go false true true fresh on = refl
      go false true false fresh on = absurd (true_false (on refl) refl)
      go false false c fresh on = refl

-- The climb has come from node n to a node: what it has marked is in the list, and the machines over that node are the rest.
pub record Climbing (t : Tree) (before after : List ℕ) (n : ℕ) (list : List ℕ) (rest : ℕ → Bool) : Type 0 where
  pub size : length list ≡ machines
  pub left : Leaves before after (with_marked (rows_of before) (chosen list))
  pub parted : Parted t (rows_of before) n (chosen list) rest

-- at first
pub climb_starts : (t : Tree) (ws : List ℕ) (n : ℕ) → length ws ≡ sheet_length
    → Climbing t ws ws n (replicate machines 0) (λ p. over t p n)
climb_starts t ws n l =
    record {
      size = length-replicate {A = ℕ} machines 0;
      left = leaves_same (untouched ws l) (ap (with_marked (rows_of ws)) (sym (zeros machines)));
      parted =
          record {
            both = λ p. ap (λ (g : ℕ → Bool). g p || over t p n) (sym (zeros machines));
            apart = λ p on. absurd (nobody p on);
            were_fresh = λ p on. absurd (nobody p on);
          };
    }
  where
    nobody : (p : ℕ) → chosen (replicate machines 0) p ≡ true → ⊥
    nobody p on = true_false on (ap (λ (g : ℕ → Bool). g p) (zeros machines))

-- above a stale machine of a true sheet all are stale
stale_up : {t : Tree} {ws : List ℕ} → TrueSheet t ws → (j q : ℕ) {p : ℕ} → (rows_of ws).stale q ≡ true
    → iterate (parent t) j q ≡ some p → (rows_of ws).stale p ≡ true
unfolding iterate
stale_up sheet zero q on e = rw (some_same refl e) at on
stale_up {t} sheet (suc j) q on e =
    let (p, above, rest) = bind_some (parent t q) (iterate (parent t) j) e in
    stale_up sheet j p (sheet.rows.stale_above q p on above) rest

-- so where the machine of a node is stale, all over the node are
all_stale : {t : Tree} → Sound t → {ws : List ℕ} → TrueSheet t ws → {k m : ℕ} → t.owner k ≡ some m → (rows_of ws).stale m ≡ true
    → (p : ℕ) → over t p k ≡ true → (rows_of ws).stale p ≡ true
all_stale s sheet {m = m} own on p ov = let (j, climb) = over_climbs s p own ov in stale_up sheet j m on climb

module _ {t : Tree} (s : Sound t) {before after : List ℕ} (sheet : TrueSheet t before) {n k m : ℕ} (own : t.owner k ≡ some m)
    {list : List ℕ} (c : Climbing t before after n list (λ p. over t p k)) where
  -- the machine in hand is not listed, so that its mark is what it was
  mark_kept : (rows_of after).stale m ≡ (rows_of before).stale m
  mark_kept =
      ap (λ (r : Rows). r.stale m) c.left.rows
      ∙ ap (λ b. b || (rows_of before).stale m)
      (⊎_elim (λ on. absurd (true_false (over_own s own) (c.parted.apart m on))) (λ off. off) (decided (chosen list m)))

  -- it is stale already: nothing is left to mark
  pub climb_stops : (rows_of after).stale m ≡ true → MarkedOver t n before after list
  climb_stops on =
      record { listed = parted_all c.parted (all_stale s sheet own (sym mark_kept ∙ on)); left = c.left }

  module _ (fresh : (rows_of after).stale m ≡ false) {last : List ℕ}
      (marked : Leaves after last (with_blank_machine (with_mark (rows_of after) m true) m)) where
    -- it is marked, and others are the rest
    climb_marks : (others : ℕ → Bool) → ((p : ℕ) → over t p k ≡ (eqb m p || others p)) → others m ≡ false
        → Climbing t before last n (set list m 1) others
    climb_marks others split off =
        let under : m < length list = omega (arith, c.size, (owner_range t s k m own).1) in
        let more : (λ p. eqb m p || chosen list p) ≡ chosen (set list m 1) = fun_ext λ p. sym (chosen_more list m p under) in
        record {
          size = length-set list m 1 ∙ c.size;
          left =
              leaves_same (leaves_then (λ r. with_blank_machine (with_mark r m true) m) c.left marked)
              (one_more (rows_of before) (chosen list) m ∙ ap (with_marked (rows_of before)) more);
          parted =
              subst (λ (g : ℕ → Bool). Parted t (rows_of before) n g others) more
              (parted_more c.parted m others split off (sym mark_kept ∙ fresh));
        }

    -- it was the root: all are marked
    pub climb_ends : t.holder m ≡ none → MarkedOver t n before last (set list m 1)
    climb_ends free =
        let all = climb_marks (λ p. false) (λ p. over_top t p own free ∙ sym (or-false (eqb m p))) refl in
        record { listed = parted_all all.parted (λ p on. absurd (true_false on refl)); left = all.left }

    -- node h holds it: on from there
    pub climb_goes_on : {h : ℕ} → t.holder m ≡ some h → Climbing t before last n (set list m 1) (λ p. over t p h)
    climb_goes_on {h} held =
        climb_marks (λ p. over t p h) (λ p. over_up s p own held)
        (⊎_elim (λ on. absurd (not_over_holder s held on)) (λ off. off) (decided (over t m h)))

-- ---- the same, from what the words say

module _ (book : List ℕ) (w : WellFormed book) {before : List ℕ} (sheet : TrueSheet (tree_of book) before) (k : ℕ)
    (used : UsedNode (tree_of book) k) {o : ℕ} (owner : o ≡ word ((tree_of book).owner k)) where
  -- the machine of the node in hand is in range
  pub machine_range : o < machines
  machine_range = (owner_told book w k used owner).1

  -- which owns it
  own : (tree_of book).owner k ≡ some o
  own = (owner_told book w k used owner).0

  -- its mark is 1 at first: nothing is to be marked
  pub idle_told : {b : ℕ} → Mark before o b → b ≡ 1 → LeavesStaleOver (tree_of book) k before before
  idle_told {b} word on =
      leaves_same (untouched before sheet.length)
      (sym
      (idle (tree_of book) (λ p. over (tree_of book) p k) before sheet.rows.blanks
      (all_stale w.sound sheet own (word.says ∙ eq-eqb b 1 on))))

  -- the node that holds that machine is in use and a level higher
  module _ {h : ℕ} (holder : h ≡ word ((tree_of book).holder o)) (present : h ≡ absent → ⊥) where
    held : (tree_of book).holder o ≡ some h
    held = present_word ((tree_of book).holder o) holder present

    pub holder_used : UsedNode (tree_of book) h
    holder_used = w.sound.holder_used o h held

    pub higher_told : level (tree_of book) h < level (tree_of book) k
    higher_told = omega (arith, level_on w.sound own held)

  module _ {after : List ℕ} {n : ℕ} {list : List ℕ} (c : Climbing (tree_of book) before after n list (λ p. over (tree_of book) p k)) {b : ℕ}
      (mark : Mark after o b) where
    -- its mark is 1
    pub stops_told : b ≡ 1 → MarkedOver (tree_of book) n before after list
    stops_told on = climb_stops w.sound sheet own c (mark.says ∙ eq-eqb b 1 on)

    module _ (off : b ≡ 1 → ⊥) {last : List ℕ} (marked : Leaves after last (with_blank_machine (with_mark (rows_of after) o true) o)) {h : ℕ}
        (holder : h ≡ word ((tree_of book).holder o)) where
      -- no node holds it
      pub ends_told : h ≡ absent → MarkedOver (tree_of book) n before last (set list o 1)
      ends_told free =
          climb_ends w.sound sheet own c (mark.says ∙ ne_eqb b 1 off) marked (no_holder (tree_of book) w.sound o holder free)

      -- node h holds it: on from there
      pub goes_on_told : (h ≡ absent → ⊥) → Climbing (tree_of book) before last n (set list o 1) (λ p. over (tree_of book) p h)
      goes_on_told present = climb_goes_on w.sound sheet own c (mark.says ∙ ne_eqb b 1 off) marked (held holder present)

-- ---- the whole

-- a machine is one of those that are over a node and not stale
is_over : (a b : Bool) → (a && not b) ≡ true → a ≡ true
is_over true b e = refl
is_over false b e = absurd (true_false e refl)

is_stale : (a b : Bool) → a ≡ true → (a && not b) ≡ false → b ≡ true
is_stale true true on e = refl
is_stale true false on e = absurd (true_false refl e)
is_stale false b on e = absurd (true_false on refl)

-- the climb, and then the nodes of the machines that it marked
pub touched_told : (book : List ℕ) → WellFormed book → (n : ℕ) → UsedNode (tree_of book) n → (list : List ℕ) {before after last : List ℕ}
    → TrueSheet (tree_of book) before → MarkedOver (tree_of book) n before after list
    → LeavesBlank after last (owned_by (tree_of book) (chosen list)) → LeavesStaleOver (tree_of book) n before last
touched_told book w n used list {before} sheet marked blanked =
    leaves_same (leaves_then (λ r. with_blank_nodes r (owned_by (tree_of book) (chosen list))) marked.left blanked)
    (marks_fresh (tree_of book) (λ p. over (tree_of book) p n) (chosen list) before sheet.rows.blanks
    (λ p ov off. is_stale (over (tree_of book) p n) ((rows_of before).stale p) ov (sym (marked.listed p) ∙ off))
    (λ p on.
    let ov : over (tree_of book) p n ≡ true = is_over (over (tree_of book) p n) ((rows_of before).stale p) (sym (marked.listed p) ∙ on) in
    (ov, over_used w.sound p used.1 ov)))
