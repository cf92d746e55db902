-- One machine filled: what the search found can be written, and once it is written the sheet is true with the machine's row filled.
-- Assumes nothing.
use mathlib.Core.Path.{◌≡◌, refl, sym, ◌∙◌, ap, subst}
use mathlib.Core.Bool.{false}
use mathlib.Core.Option.{Option, none, some}
use mathlib.Core.List.{List}
use Prim.Native.Nat.{ℕ, ◌<◌}
use native.Mathlib.Omega.{arith}
use Rattle.definitions.specs.Limits.{nodes, commands}
use Rattle.definitions.specs.Tree.{Tree, Sound}
use Rattle.definitions.specs.Book.{word, number}
use Rattle.definitions.specs.Sheet.{Rows, rows_of}
use Rattle.definitions.specs.Truth.{TrueRows, TrueSheet}
use Rattle.definitions.proofs.Options.{none_some, some_same, put_same, put_other}
use Rattle.definitions.proofs.Words.{under_in, start_range}
use Rattle.search.specs.Search.{Certificate, Searched, Tables, reached, distance_of, name_of, move_of}
use Rattle.search.specs.Parts.{at}
use Rattle.search.proofs.Reading.{move_row}
use Rattle.sheet.specs.Fields.{Leaves, with_mark}
use Rattle.search.specs.Tables.{Tabled, TableRoom, FoundRoom}
use Rattle.refreshing.specs.Parts.{Fills, ExitsKept, Members, Gathered, Searches, member_move}
use Rattle.refreshing.specs.Parts.{NodesFilled, Writable, NodesWritten, ExitFilled, IsNear, NearOut, ExitsWritten}
use Rattle.refreshing.specs.Refresh.{Fillable, Filled}
use Rattle.refreshing.proofs.Gathering.{gathered_members}
use Rattle.definitions.proofs.Reached.{reached_bound}
use Rattle.refreshing.proofs.Certified.{far_relaxed, far_reached}
use Rattle.refreshing.proofs.Row.{kept_exit, cheapest_kept, exits_bound, moves_tables, searched_true}
use Rattle.refreshing.proofs.Exits.{near_kept}

-- ---- the words of the first k places

distance_at : (k : ℕ) (dist : List ℕ) {i : ℕ} → i < k → distance_of k dist i ≡ reached (at dist i)
unfolding distance_of
distance_at k dist {i} small = under_in k i (reached (at dist i)) small

name_at : (k : ℕ) (names : List ℕ) {i : ℕ} → i < k → name_of k names i ≡ number (at names i)
unfolding name_of
name_at k names {i} small = under_in k i (number (at names i)) small

-- ---- before the search

-- the source is a place, and the tables are what the search asks
pub search_ready : {t : Tree} → Sound t → {r : Rows} → TrueRows t r → {m s k : ℕ} → t.start m ≡ some s → Fillable t m r
    → {members places target price : List ℕ} → Gathered t m nodes k members places → TableRoom target price
    → Tabled (member_move t r (at members) (at places)) k target price → Tables k (at places s) target price
search_ready sound rows used able g room table =
    moves_tables sound rows used able.stale able.below (gathered_members sound g) table (omega (arith, room.target_room, g.many))
    (omega (arith, room.price_room, g.many))

-- the start node of a machine that can be filled, by its word
pub start_told : {t : Tree} → Sound t → {m w : ℕ} {r : Rows} → Fillable t m r → w ≡ word (t.start m) → (t.start m ≡ some w) × (w < nodes)
unfolding word
start_told {t} sound {m} {w} able says =
    let (s, used) = able.used in
    let same : w ≡ s = says ∙ ap word used in
    let is : t.start m ≡ some w = used ∙ ap {B = Option ℕ} some (sym same) in
    (is, (start_range t sound m w is).1)

-- ---- after it

-- the search is done
pub searched_found : {t : Tree} {r : Rows} {m k w source : ℕ} {members places target price dist before by dist' before' by' : List ℕ}
    → Gathered t m nodes k members places → Tabled (member_move t r (at members) (at places)) k target price → w ≡ word (t.start m) → source ≡ at places w
    → FoundRoom dist' before' by' → Searched k source k target price dist before by dist' before' by'
    → Searches t r m k members places target price dist' before' by'
unfolding word
searched_found {t} {m = m} {k} {w} {source} {places = places} {target} {price} {dist' = dist'} {before'} {by'} g table says here room done =
    record {
      gathered = g;
      room = room;
      tabled = table;
      certificate = λ s used.
          let same : source ≡ at places s = here ∙ ap (at places) (says ∙ ap word used) in
          subst (λ (v : ℕ). Certificate k v k (move_of k target price) (distance_of k dist') (name_of k before') (name_of k by')) same
          done.certificate;
    }

module _ {t : Tree} (sound : Sound t) {r : Rows} {m s k : ℕ} (used : t.start m ≡ some s)
    {members places target price dist before by : List ℕ}
    (found : Searches t r m k members places target price dist before by) where
  cert : Certificate k (at places s) k (move_of k target price) (distance_of k dist) (name_of k before) (name_of k by)
  cert = found.certificate s used

  group : Members t m k (at members) (at places)
  group = gathered_members sound found.gathered

  -- a node at one of the places is in range
  member_range : (i : ℕ) → i < k → at members i < nodes
  member_range i small = sound.node_range (at members i) m (group.owned i small)

  -- a name is a place
  name_place : (i j : ℕ) → name_of k before i ≡ some j → j < k
  name_place i j name = go (distance_of k dist i) refl
    where
      go : (o : Option ℕ) → distance_of k dist i ≡ o → j < k
      go none far = absurd (none_some (cert.unreached i far).0 name)
      go (some c) near =
          let led = cert.named i c (λ same. none_some (ap (name_of k before) same ∙ cert.start_before) name) near in
          omega (arith, some_same name led.names_node, led.node_range)

  module _ (rows : TrueRows t r) (able : Fillable t m r) where
    -- the moves of the tables are those of the machine
    steps : (i x : ℕ) → i < k → x < commands → move_of k target price i x ≡ member_move t r (at members) (at places) i x
    steps i x small range = move_row target price i x k small ∙ found.tabled.moves i x small range

    -- a distance is no more than the largest cost of a plan
    distance_near : (i : ℕ) → i < k → IsNear (at dist i)
    distance_near i small =
        record {
          near = λ c e.
              let own = group.owned i small in
              let there : distance_of k dist (at places (at members i)) ≡ some c =
              ap (distance_of k dist) (group.back i small) ∙ distance_at k dist small ∙ e in
              reached_bound sound r rows used able.below (λ n. distance_of k dist (at places n)) cert.start_distance
              (far_relaxed sound r used group steps cert) own there (far_reached sound r used group steps cert (at members i) c own there);
        }

    -- what is found can be written
    pub searches_writable : Writable k members dist before by
    searches_writable =
        record {
          members_room = found.gathered.members_room;
          room = found.room;
          small = group.small;
          inside = member_range;
          apart = λ i j low high same. sym (group.back i low) ∙ ap (at places) same ∙ group.back j high;
          costs = λ i small. record { fits = λ c e. omega (arith, (distance_near i small).near c e) };
          names = λ i small. record {
            room = found.gathered.members_room;
            fits = λ j e.
                let inside : j < k = name_place i j (name_at k before small ∙ e) in
                (omega (arith, group.small), member_range j inside);
          };
        }

    -- the nodes are near, and their own exits bounded, whatever the machine's own row says
    pub searches_near : {q : Rows} → ExitsKept m r q → NearOut t q m k members dist
    searches_near kept =
        near_kept sound kept (record {
          reach = record {
            members_room = found.gathered.members_room;
            dist_room = found.room.dist_room;
            small = group.small;
            inside = member_range;
            near = distance_near;
          };
          owned = group.owned;
          out = exits_bound sound rows used able.stale able.below group;
        })

-- the nodes' rows, then the exits, then the mark
pub machine_filled : {t : Tree} → Sound t → {m k : ℕ} {members places target price dist before by a b c d : List ℕ} → TrueSheet t a
    → Fillable t m (rows_of a) → Searches t (rows_of a) m k members places target price dist before by
    → NodesWritten k members dist before by a b → ExitsWritten t m k commands members dist b c → Leaves c d (with_mark (rows_of c) m false)
    → Filled t m a d
machine_filled {t} sound {m} {k} {members} {places} {dist = dist} {before} {by} {a} {b} {c} {d} holds able found nodes_done exits_done mark =
    let group : Members t m k (at members) (at places) = gathered_members sound found.gathered in
    let (s, used) = able.used in
    let kept_b : ExitsKept m (rows_of b) (rows_of a) = record { same = λ p x other. sym (nodes_done.exit p x) } in
    let alone : (n : ℕ) → (t.owner n ≡ some m → ⊥) → (j : ℕ) → j < k → n ≡ at members j → ⊥ =
    λ n other j small same. other (ap t.owner same ∙ group.owned j small) in
    let cost : (n : ℕ) → (rows_of d).cost n ≡ (rows_of b).cost n = λ n. ap (λ (r : Rows). r.cost n) mark.rows ∙ exits_done.cost n in
    let name : (n : ℕ) → (rows_of d).before n ≡ (rows_of b).before n =
    λ n. ap (λ (r : Rows). r.before n) mark.rows ∙ exits_done.before_kept n in
    let command : (n : ℕ) → (rows_of d).by n ≡ (rows_of b).by n = λ n. ap (λ (r : Rows). r.by n) mark.rows ∙ exits_done.by_kept n in
    let fills : Fills t m (rows_of a) (rows_of d) =
    record {
      fresh = ap (λ (r : Rows). r.stale m) mark.rows ∙ put_same (rows_of c).stale m false;
      stale = λ p other.
          ap (λ (r : Rows). r.stale p) mark.rows
          ∙ put_other (rows_of c).stale m false p other
          ∙ exits_done.stale p
          ∙ nodes_done.stale p;
      exit = λ p x other. ap (λ (r : Rows). r.exit p x) mark.rows ∙ exits_done.exit.same p x other ∙ nodes_done.exit p x;
      last = λ p x other. ap (λ (r : Rows). r.last p x) mark.rows ∙ exits_done.last p x other ∙ nodes_done.last p x;
      cost = λ n other. cost n ∙ nodes_done.cost n (alone n other);
      before = λ n other. name n ∙ nodes_done.before_kept n (alone n other);
      by = λ n other. command n ∙ nodes_done.by_kept n (alone n other);
    } in
    let filled : NodesFilled k (at members) (distance_of k dist) (name_of k before) (name_of k by) (rows_of d) =
    record {
      cost = λ i small. cost (at members i) ∙ nodes_done.filled.cost i small ∙ sym (distance_at k dist small);
      before = λ i small. name (at members i) ∙ nodes_done.filled.before i small ∙ rw (name_at k before small);
      by = λ i small. command (at members i) ∙ nodes_done.filled.by i small ∙ sym (name_at k by small);
    } in
    let exits : (x : ℕ) → x < commands
    → ExitFilled t (rows_of a) (at members) (distance_of k dist) k x ((rows_of d).exit m x) ((rows_of d).last m x) =
    λ x range.
    let e = exits_done.each x range in
    record {
      least = e.least;
      node = e.node;
      cheapest = cheapest_kept (λ i small. distance_at k dist small)
          (λ i small. kept_exit sound kept_b (at members i) x (group.owned i small) range) e.cheapest;
      says_exit = ap (λ (r : Rows). r.exit m x) mark.rows ∙ e.says_exit;
      says_last = ap (λ (r : Rows). r.last m x) mark.rows ∙ e.says_last;
    } in
    record {
      holds = record {
        length = mark.length;
        marks = mark.marks (exits_done.leaves.marks (nodes_done.leaves.marks holds.marks));
        rows =
            searched_true sound holds.rows used able.stale able.below group found.tabled (found.certificate s used) fills filled
            exits;
      };
      fills = fills;
    }
