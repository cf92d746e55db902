-- What a machine's row reads: its nodes and its start, their transitions and the machines below them, and the exit costs of those
-- machines. Two trees and rows that agree there agree on the row. Assumes nothing.
use mathlib.Core.Path.{◌≡◌, refl, sym, ◌∙◌, ap}
use mathlib.Core.Logic.{⊎_elim}
use mathlib.Core.Option.{Option, none, some}
use Prim.Native.Nat.{ℕ, zero, suc, ◌<◌}
use Rattle.definitions.specs.Basics.{iterate}
use Rattle.definitions.specs.Limits.{commands}
use Rattle.definitions.specs.Tree.{Tree, Sound}
use Rattle.definitions.specs.Step.{counting}
use Rattle.definitions.specs.Sheet.{Rows}
use Rattle.definitions.specs.Truth.{node_exit, move}
use Rattle.definitions.proofs.Options.{bind_some, none_some, some_same, equal_or_not}
use Rattle.definitions.proofs.Path.{counting_range}
use Rattle.definitions.proofs.Local.{Relaxed, Attained, move_parts}
use Rattle.definitions.proofs.LocalTruth.{move_owned}

-- machine m is the same in both trees: its start, its nodes, and what each of them has and holds
pub record SameMachine (t u : Tree) (m : ℕ) : Type 0 where
  pub start : u.start m ≡ t.start m
  pub owned : (n : ℕ) → t.owner n ≡ some m → u.owner n ≡ some m
  pub owner : (n : ℕ) → u.owner n ≡ some m → t.owner n ≡ some m
  pub below : (n : ℕ) → t.owner n ≡ some m → u.below n ≡ t.below n
  pub counting : (n x : ℕ) → t.owner n ≡ some m → x < commands → counting u n x ≡ counting t n x
  pub leave : (n b : ℕ) → t.owner n ≡ some m → t.below n ≡ some b → u.leave b ≡ t.leave b

-- and the machines just below its nodes have the same exit costs in both rows
pub record SameMoves (t u : Tree) (r q : Rows) (m : ℕ) : Type 0 where
  pub machine : SameMachine t u m
  pub below : (n b x : ℕ) → t.owner n ≡ some m → t.below n ≡ some b → x < commands → q.exit b x ≡ r.exit b x

-- and the row of machine m itself is the same
pub record SameRow (t u : Tree) (r q : Rows) (m : ℕ) : Type 0 where
  pub moves : SameMoves t u r q m
  pub exit : (x : ℕ) → x < commands → q.exit m x ≡ r.exit m x
  pub last : (x : ℕ) → x < commands → q.last m x ≡ r.last m x
  pub cost : (n : ℕ) → t.owner n ≡ some m → q.cost n ≡ r.cost n
  pub before : (n : ℕ) → t.owner n ≡ some m → q.before n ≡ r.before n
  pub by : (n : ℕ) → t.owner n ≡ some m → q.by n ≡ r.by n

-- a machine is the same where the tree is
pub same_machine_lem : (t : Tree) (m : ℕ) → SameMachine t t m
same_machine_lem t m =
    record {
      start = refl;
      owned = λ n own. own;
      owner = λ n own. own;
      below = λ n own. refl;
      counting = λ n x own range. refl;
      leave = λ n b own down. refl;
    }

-- ---- the moves of a machine

module _ {t u : Tree} {r q : Rows} {m : ℕ} (same : SameMoves t u r q m) where
  -- a node's exit cost, by the machine below it
  exit_by_lem : (n x : ℕ) → t.owner n ≡ some m → x < commands → (o : Option ℕ) → t.below n ≡ o → node_exit u q n x ≡ node_exit t r n x
  unfolding node_exit
  exit_by_lem n x own range none e = rw (same.machine.below n own, e)
  exit_by_lem n x own range (some b) e = rw (same.machine.below n own, e, same.below n b x own e range, same.machine.leave n b own e)

  -- the nodes of the machine are left at the same cost
  pub same_exit : (n x : ℕ) → t.owner n ≡ some m → x < commands → node_exit u q n x ≡ node_exit t r n x
  same_exit n x own range = exit_by_lem n x own range (t.below n) refl

  -- and so it has the same moves
  pub same_move : (n x : ℕ) → t.owner n ≡ some m → x < commands → move u q n x ≡ move t r n x
  unfolding move
  same_move n x own range = rw (same.machine.counting n x own range, same_exit n x own range)

-- ---- the row

module _ {t u : Tree} {r q : Rows} {m s : ℕ} (same : SameRow t u r q m) (first : t.owner s ≡ some m) where
  -- nothing is cheaper than what stands in the row
  same_relaxed : Sound u → Relaxed t r m s → Relaxed u q m s
  same_relaxed sound row =
      record {
        start_cost = same.cost s first ∙ row.start_cost;
        moves = λ n c x b own_u cost step.
            let own : t.owner n ≡ some m = same.moves.machine.owner n own_u in
            let range : x < commands = counting_range sound n x _ (move_parts u q n x step).has in
            let (d, there, small) =
            row.moves n c x b own (sym (same.cost n own) ∙ cost) (sym (same_move same.moves n x own range) ∙ step) in
            (d, same.cost b.node (same.moves.machine.owner b.node (move_owned sound q n x own_u step)) ∙ there, small);
        exits = λ n c x e own_u cost range free exit.
            let own : t.owner n ≡ some m = same.moves.machine.owner n own_u in
            let (d, there, small) =
            row.exits n c x e own (sym (same.cost n own) ∙ cost) range
            (sym (same.moves.machine.counting n x own range) ∙ free) (sym (same_exit same.moves n x own range) ∙ exit) in
            (d, same.exit x range ∙ there, small);
      }

  -- the names that lead from a node of the row to the start
  same_chain : Attained t r m s → (k n c : ℕ) → t.owner n ≡ some m → r.cost n ≡ some c → iterate r.before k n ≡ some s
      → iterate q.before k n ≡ some s
  unfolding iterate
  same_chain row zero n c own cost e = e
  same_chain row (suc k) n c own cost e =
      let (v, named, rest) = bind_some (r.before n) (iterate r.before k) e in
      ⊎_elim (λ start. absurd (none_some (ap r.before start ∙ row.start_before) named))
      (λ other.
      let name = row.named n c own other cost in
      let there : r.before n ≡ some name.node = name.before in
      let on : iterate r.before k name.node ≡ some s = rw (some_same named there) at rest in
      rw (same.before n own ∙ there) (same_chain row k name.node name.node_cost name.owned name.reached on))
      (equal_or_not n s)

  -- what stands in the row can be had
  same_attained : Attained t r m s → Attained u q m s
  same_attained row =
      record {
        start_cost = same.cost s first ∙ row.start_cost;
        start_before = same.before s first ∙ row.start_before;
        start_by = same.by s first ∙ row.start_by;
        named = λ n c own_u other cost.
            let own : t.owner n ≡ some m = same.moves.machine.owner n own_u in
            let name = row.named n c own other (sym (same.cost n own) ∙ cost) in
            record {
              node = name.node;
              command = name.command;
              node_cost = name.node_cost;
              step_cost = name.step_cost;
              before = same.before n own ∙ name.before;
              by = same.by n own ∙ name.by;
              command_range = name.command_range;
              owned = same.moves.machine.owned name.node name.owned;
              reached = same.cost name.node name.owned ∙ name.reached;
              moves = same_move same.moves name.node name.command name.owned name.command_range ∙ name.moves;
              exact = name.exact;
            };
        chain = λ n c own_u cost.
            let own : t.owner n ≡ some m = same.moves.machine.owner n own_u in
            let there : r.cost n ≡ some c = sym (same.cost n own) ∙ cost in
            let (k, short, way) = row.chain n c own there in
            (k, short, same_chain row k n c own there way);
        unreached = λ n own_u cost.
            let own : t.owner n ≡ some m = same.moves.machine.owner n own_u in
            let blank = row.unreached n own (sym (same.cost n own) ∙ cost) in
            record { cost = cost; before = same.before n own ∙ blank.before; by = same.by n own ∙ blank.by };
        ended = λ x c range exit.
            let end = row.ended x c range (sym (same.exit x range) ∙ exit) in
            record {
              node = end.node;
              node_cost = end.node_cost;
              node_exit_cost = end.node_exit_cost;
              last = same.last x range ∙ end.last;
              owned = same.moves.machine.owned end.node end.owned;
              free = same.moves.machine.counting end.node x end.owned range ∙ end.free;
              reached = same.cost end.node end.owned ∙ end.reached;
              exits = same_exit same.moves end.node x end.owned range ∙ end.exits;
              exact = end.exact;
            };
        no_exit = λ x range exit. same.last x range ∙ row.no_exit x range (sym (same.exit x range) ∙ exit);
      }

  -- the row is true of the one tree where it is so of the other
  pub same_row : Sound u → (Relaxed t r m s → Relaxed u q m s) × (Attained t r m s → Attained u q m s)
  same_row sound = (same_relaxed sound, same_attained)
