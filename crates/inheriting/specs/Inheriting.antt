-- What every machine inherits: what a command finds from the node that holds it, after the machine was left. Handed down from the root, it gives what
-- every command finds from every node without a climb for each. Where a target lands is any list's to say.
use Rattle.std.specs.Prelude.{◌≡◌, cond, List, ℕ, ◌+◌, ◌*◌, ◌-◌, ◌/◌, ◌%◌, ◌≤◌, ◌<◌, eqb, length}
use Rattle.std.proofs.Math.Option.{Option, none, some}
use Rattle.definitions.specs.Basics.{◌>>=◌}
use Rattle.definitions.specs.Limits.{machines, nodes, commands, largest_step_cost}
use Rattle.definitions.specs.Tree.{Tree, Transition}
use Rattle.definitions.specs.Step.{Climb, found, passed, past, climb}
use Rattle.search.specs.Search.{unreached}
use Rattle.search.specs.Parts.{at}

-- a list with a word for every node, each the number of a node
pub record NodeList (words : List ℕ) : Type 0 where
  pub room : length words ≡ nodes
  pub inside : (v : ℕ) → v < nodes → at words v < nodes

-- one word for where it leads and what it costs: the node times this, and the cost; the word for none has the word for absent as its node
abbrev pub way_costs : ℕ
way_costs = 281474976710656

unfoldable pub way_of : ℕ → Option Transition
way_of w = cond (eqb w unreached) none (some (record { target = w / way_costs; cost = w % way_costs }))

-- a word that leads, if anywhere, to a node, and at no more than a step costs
abbrev pub WayFits : ℕ → Type 0
WayFits w = (a : Transition) → way_of w ≡ some a → (a.target < nodes) × (a.cost ≤ largest_step_cost)

-- where it leads, if anywhere, after a machine was left at this cost
abbrev pub after : ℕ → Option Transition → Option Transition
after l way = way >>= λ a. some (record { target = a.target; cost = l + a.cost })

-- what a climb finds, with the node where its target lands by the list for target
abbrev pub landed : List ℕ → Climb → Option Transition
landed lands (found u v c) = some (record { target = at lands v; cost = c })
landed lands (passed c) = none

-- what command x finds from node n: the transition that document 01 has it use, its target landed
unfoldable pub finds : Tree → List ℕ → ℕ → ℕ → Option Transition
finds t lands n x = landed lands (climb t t.root n x)

-- what a node of machine m that has no transition which counts for x takes over: what x finds from the node that holds m, after m was left,
-- and for the root nothing
unfoldable pub inherits : Tree → List ℕ → ℕ → ℕ → Option Transition
inherits t lands m x = t.holder m >>= λ h. landed lands (past (t.leave m) (climb t t.root h x))

-- the list has a word for every machine and command
abbrev pub UpRoom : List ℕ → Type 0
UpRoom up = length up ≡ commands * machines

-- its word for m and x says what m inherits for x: it is the word of that taken from the word for none, so 0 for nothing
abbrev pub Inherited : Tree → List ℕ → List ℕ → ℕ → ℕ → Type 0
Inherited t lands up m x = way_of (unreached - at up (commands * m + x)) ≡ inherits t lands m x

-- and so do all words of machine m's row; of the row of node n's machine; of the root's row
abbrev pub MachineRow : Tree → List ℕ → List ℕ → ℕ → Type 0
MachineRow t lands up m = (x : ℕ) → x < commands → Inherited t lands up m x

abbrev pub OwnerRow : Tree → List ℕ → List ℕ → ℕ → Type 0
OwnerRow t lands up n = (m : ℕ) → t.owner n ≡ some m → MachineRow t lands up m

abbrev pub RootRow : Tree → List ℕ → List ℕ → Type 0
RootRow t lands up = MachineRow t lands up t.root

-- the words that are told of say what is inherited, and so do those that said it before
pub record Handed (t : Tree) (lands : List ℕ) (Told : ℕ → ℕ → Type 0) (old new : List ℕ) : Type 0 where
  pub told : (m x : ℕ) → x < commands → Told m x → Inherited t lands new m x
  pub kept : (m x : ℕ) → x < commands → Inherited t lands old m x → Inherited t lands new m x

-- those of machine m
abbrev pub HandedTo : Tree → List ℕ → ℕ → List ℕ → List ℕ → Type 0
HandedTo t lands m = Handed t lands (λ p x. p ≡ m)
