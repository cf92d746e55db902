-- Document 01: "then expands: a node opens into its machine's path, and a path opens into its nodes". The commands that a plan is made
-- of, from the names of the search and of the rows.
use Rattle.std.proofs.Math.Option.{Option}
use Rattle.std.specs.Prelude.{List, [], ◌∷◌, ◌++◌, ℕ, zero, suc}
use Rattle.definitions.specs.Basics.{option}
use Rattle.definitions.specs.Limits.{nodes, levels}
use Rattle.definitions.specs.Tree.{Tree}
use Rattle.definitions.specs.Sheet.{Rows}

-- The commands by which names lead to node n from the node where they begin, which has none: those that lead to the node before n, the
-- part of that node for the command that leads on to n, and this command. The part of a node for x: the commands given before x to
-- leave the node by x.
unfoldable pub chain_part : ℕ → (before by : ℕ → Option ℕ) → (ℕ → ℕ → List ℕ) → ℕ → List ℕ
chain_part zero before by part n = []
chain_part (suc k) before by part n =
    option [] (λ u. option [] (λ x. chain_part k before by part u ++ (part u x ++ (x ∷ []))) (by n)) (before n)

-- the commands given before x to leave machine m by x from its start: those that lead to its last node, and that node's part
unfoldable pub path_by : Rows → (ℕ → ℕ → List ℕ) → ℕ → ℕ → List ℕ
path_by r part m x = option [] (λ u. chain_part nodes r.before r.by part u ++ part u x) (r.last m x)

-- the part of node n for x: nothing for a plain node, the path of the machine below for a refined one
unfoldable pub node_part : ℕ → Tree → Rows → ℕ → ℕ → List ℕ
node_part zero t r n x = []
node_part (suc k) t r n x = option [] (λ m. path_by r (node_part k t r) m x) (t.below n)

-- the path of machine m for x
abbrev pub path_part : ℕ → Tree → Rows → ℕ → ℕ → List ℕ
path_part k t r = path_by r (node_part k t r)

-- the whole plan, by the names of the search, to node b
unfoldable pub plan_part : Tree → Rows → (before by : ℕ → Option ℕ) → ℕ → List ℕ
plan_part t r before by b = chain_part nodes before by (node_part levels t r) b
