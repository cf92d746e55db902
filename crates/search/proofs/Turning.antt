-- From what the search asks of its tables and lists to what its parts ask, and one turn over lists of words. Assumes nothing.
use mathlib.Core.Path.{◌≡◌, refl, sym, ◌∙◌, ap}
use mathlib.Core.List.{List}
use Prim.Native.Nat.{ℕ, ◌+◌, ◌≤◌, ◌<◌}
use native.Mathlib.Omega.{arith}
use lib.ListN.{length}
use Rattle.definitions.specs.Basics.{put}
use Rattle.definitions.specs.Limits.{nodes, commands}
use Rattle.search.specs.Search.{unreached, row_move, move_of, Tables, Room, Searched}
use Rattle.search.specs.Parts.{at, Labels, labels, Blank, Relaxed, Row, Listing, Grown, Places, Brought}
use Rattle.search.proofs.Reading.{row_words, move_row, move_some}
use Rattle.search.proofs.Stores.{put_put}
use Rattle.search.proofs.Listing.{few}
use Rattle.search.proofs.Settling.{waiting, Picked, Moves, Settling, begins, hand_cheap, turn}
use Rattle.search.proofs.Frontier.{Frontier, frontier_first, brought_picked, brought_frontier, turn_frontier, frontier_over}
use Rattle.search.proofs.Ended.{AtGoal, ended}

-- what holds before each turn: n nodes are settled, and the list has the reached nodes
pub record Turns (k s : ℕ) (target price : List ℕ) (first : Labels) (dist before by order : List ℕ) (count n : ℕ) : Type 0 where
  pub rank : ℕ → ℕ
  pub settling : Settling k s (move_of k target price) first (labels dist before by) rank n
  pub frontier : Frontier k (at dist) rank (at order) n count

module _ {k s : ℕ} {target price : List ℕ} (tables : Tables k s target price) where
  -- the tables' moves
  pub tables_moves : Moves k (move_of k target price)
  tables_moves =
      record {
        from = λ u x b e. (move_some target price u x k e).0;
        range = λ u x b e. (row_words target price u x (move_some target price u x k e).1).0;
        inside = tables.inside;
        cheap = tables.cheap;
      }

  -- no node is settled, and the source is listed
  pub turns_first : (dist before by order : List ℕ) → Blank k s (labels dist before by) → at order 0 ≡ s
      → Turns k s target price (labels dist before by) dist before by order 1 0
  turns_first dist before by order blank first =
      record {
        rank = λ v. waiting;
        settling = begins tables.has_source blank (λ v h. refl) _;
        frontier = frontier_first tables.has_source tables.small blank (λ v h. refl) first;
      }

  module _ {first : Labels} {count n : ℕ} {dist before by order : List ℕ} (t : Turns k s target price first dist before by order count n) where
    -- no more than k nodes are settled
    pub turns_few : n ≤ k
    turns_few = omega (arith, t.settling.count)

    -- what picking asks
    pub turns_places : n < count → k ≤ length dist → nodes ≤ length order → Places n count order dist
    turns_places some_wait room places =
        record {
          some_wait = some_wait;
          few = omega (arith, few t.frontier.listing);
          inside = λ i h. omega (arith, t.frontier.inside i h);
        }

    module _ {order' : ℕ → ℕ} {u : ℕ} (b : Brought (at dist) (at order) order' n count u) where
      picked : Picked k (at dist) t.rank u
      picked = brought_picked t.frontier b (omega (arith, turns_few, tables.small))

      -- what relaxing the node in hand asks
      pub turns_row : Room k dist before by → Row u target price dist before by
      turns_row room =
          let in_u = picked.inside in
          record {
            small = omega (arith, tables.small);
            room = (omega (arith, room), omega (arith, room), omega (arith, room));
            near = omega (arith, hand_cheap tables_moves t.settling picked, turns_few, tables.small);
            targets = omega (arith, tables.targets);
            prices = omega (arith, tables.prices);
            range = λ x b e. omega (arith, tables.inside u x b (move_row target price u x k in_u ∙ e), tables.small);
            inside =
                λ x b e.
                let inside = tables.inside u x b (move_row target price u x k in_u ∙ e) in
                (omega (arith, room), omega (arith, room), omega (arith, room));
            cheap = λ x b e. tables.cheap u x b (move_row target price u x k in_u ∙ e);
          }

      pub turns_listing : Listing (at dist) order' count
      turns_listing = (brought_frontier t.frontier b).listing

      -- one turn
      pub turned : (dist' before' by' order'' : List ℕ) {count' : ℕ}
          → Relaxed (row_move target price u) u commands (labels dist before by) (labels dist' before' by') × Listing (at dist') (at order'') count'
          × Grown (at dist) (at dist') order' (at order'') count count' → Turns k s target price first dist' before' by' order'' count' (n + 1)
      turned dist' before' by' order'' (r, l, g) =
          let same_row : (x : ℕ) → move_of k target price u x ≡ row_move target price u x = λ x. move_row target price u x k picked.inside in
          record {
            rank = put t.rank u n;
            settling = turn tables.small tables_moves t.settling picked (put_put t.rank u n) same_row r;
            frontier =
                turn_frontier tables.small tables_moves t.settling (brought_frontier t.frontier b)
                (omega (arith, b.nearest.from, b.nearest.below)) (b.swapped.first ∙ sym b.node) (put_put t.rank u n) same_row r l g;
          }

  -- what is left where no node that waits is nearer than the goal
  module _ {goal count n : ℕ} {dist before by dist' before' by' order : List ℕ}
      (t : Turns k s target price (labels dist before by) dist' before' by' order count n) where
    searched : ((v : ℕ) → v < k → t.rank v ≡ waiting → at dist' v < unreached → AtGoal k goal (at dist') v)
        → Searched k s goal target price dist before by dist' before' by'
    searched over =
        let inv = t.settling in
        record {
          certificate = ended dist' before' by' tables.small tables.has_source tables_moves inv over;
          rest = λ v h. ((inv.rest v h).dist, (inv.rest v h).before, (inv.rest v h).by);
        }

    -- after the last turn: none that waits is reached
    pub searched_all : count ≤ n → Searched k s goal target price dist before by dist' before' by'
    searched_all over =
        searched
        (λ v h waits near. absurd (omega (arith, frontier_over t.frontier (omega (arith, turns_few t, tables.small)) over v h waits)))

    -- where the nearest node that waits is the goal
    pub searched_goal : {order' : ℕ → ℕ} {u : ℕ} → Brought (at dist') (at order) order' n count u → u ≡ goal
        → Searched k s goal target price dist before by dist' before' by'
    searched_goal b same =
        let pick = picked t b in
        searched
        (λ v h waits near.
        record {
          inside = omega (arith, pick.inside);
          reached = omega (arith, ap (at dist') same, pick.reached);
          nearer = omega (arith, ap (at dist') same, pick.least v h waits);
        })
