-- What the inner functions of this crate decide: the conditions of a sound tree, sorted by what they are about: the root, one machine,
-- one node. A node that is not in use and holds a machine is caught at that machine. The public contract names none of these.
use Rattle.std.specs.Prelude.{◌≡◌, ◌⊎◌, ℕ, ◌<◌}
use Rattle.std.proofs.Math.Option.{none, some}
use Rattle.definitions.specs.Basics.{iterate}
use Rattle.definitions.specs.Limits.{machines, nodes, commands, costs, levels}
use Rattle.definitions.specs.Tree.{Tree, Transition, UsedMachine, UsedNode, parent}

-- machine m climbs to the root in fewer than k steps
abbrev pub Climbs : Tree → ℕ → ℕ → Type 0
Climbs t k m = (j : ℕ) × (j < k) × (iterate (parent t) j m ≡ some t.root)

-- the root is in use and no node holds it
pub record RootFits (t : Tree) : Type 0 where
  pub used : UsedMachine t t.root
  pub free : t.holder t.root ≡ none

-- machine m, where it is in use, owns its start node and climbs to the root
abbrev pub StartFits : Tree → ℕ → Type 0
StartFits t m = (s : ℕ) → t.start m ≡ some s → (t.owner s ≡ some m) × Climbs t levels m

-- the node that holds machine m, where there is one, names m, and both are in use
abbrev pub HolderFits : Tree → ℕ → Type 0
HolderFits t m = (n : ℕ) → t.holder m ≡ some n → (t.below n ≡ some m) × UsedNode t n × UsedMachine t m

-- what leaving machine m costs is 0, or less than 65,536 where m is in use and not the root
abbrev pub LeaveFits : Tree → ℕ → Type 0
LeaveFits t m = (t.leave m ≡ 0) ⊎ ((t.leave m < costs) × UsedMachine t m × (m ≡ t.root → ⊥))

-- what machine m says fits
pub record MachineFits (t : Tree) (m : ℕ) : Type 0 where
  pub start : StartFits t m
  pub holder : HolderFits t m
  pub leave : LeaveFits t m

-- node n, where it is in use, belongs to a machine in use
abbrev pub OwnerFits : Tree → ℕ → Type 0
OwnerFits t n = (m : ℕ) → t.owner n ≡ some m → UsedMachine t m

-- the machine below node n, where there is one, names n
abbrev pub BelowFits : Tree → ℕ → Type 0
BelowFits t n = (m : ℕ) → t.below n ≡ some m → t.holder m ≡ some n

-- the hold of node n is 0, or 1 where n is in use and not the start of its machine
abbrev pub HoldFits : Tree → ℕ → Type 0
HoldFits t n = (t.hold n ≡ 0) ⊎ ((t.hold n ≡ 1) × ((m : ℕ) × (t.owner n ≡ some m) × (t.start m ≡ some n → ⊥)))

-- the transition of node n for x, where there is one, leads to a node of the machine that n belongs to
abbrev pub TransitionFits : Tree → ℕ → ℕ → Type 0
TransitionFits t n x =
    (a : Transition) → t.transition n x ≡ some a → (m : ℕ) × (t.owner n ≡ some m) × (t.owner a.target ≡ some m)

-- and so for every command
abbrev pub TransitionsFit : Tree → ℕ → Type 0
TransitionsFit t n = (x : ℕ) → x < commands → TransitionFits t n x

-- what node n says fits
pub record NodeFits (t : Tree) (n : ℕ) : Type 0 where
  pub owner : OwnerFits t n
  pub below : BelowFits t n
  pub hold : HoldFits t n
  pub transitions : TransitionsFit t n

-- every machine, every node fits
abbrev pub MachinesFit : Tree → Type 0
MachinesFit t = (m : ℕ) → m < machines → MachineFits t m

abbrev pub NodesFit : Tree → Type 0
NodesFit t = (n : ℕ) → n < nodes → NodeFits t n
