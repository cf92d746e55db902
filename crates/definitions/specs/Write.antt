-- Document 01, "Writing, choosing, the session", with document 02's holds (W-205) and leaving charges (W-207): the one stream that Write gives for
-- a tree.
use Rattle.std.specs.Prelude.{◌≡◌, cond, not, ◌&&◌, List, [], ◌∷◌, ◌++◌, ℕ, suc, ◌/◌, ◌%◌, eqb, length, drop}
use Rattle.definitions.specs.Basics.{option, joined}
use Rattle.definitions.specs.Limits.{machines, nodes, commands, levels}
use Rattle.definitions.specs.Tree.{Tree, on_hold, level}
use Rattle.definitions.specs.Edit.{is_start}
use Rattle.definitions.specs.Book.{tree_of}
use Rattle.definitions.specs.Answer.{Answer, gives, refuses, asks_room, InOrder}
use Rattle.definitions.specs.Calls.{book_refusals}

-- two bytes, high byte first
abbrev pub pair : ℕ → List ℕ
pair n = n / 256 ∷ n % 256 ∷ []

-- begin with root and start
unfoldable pub written_begin : Tree → List ℕ
written_begin t = option [] (λ s. 0x10 ∷ t.root ∷ pair s) (t.start t.root)

-- add, for node n where its machine stands at level l and n is not its start
unfoldable pub written_add : Tree → ℕ → ℕ → List ℕ
written_add t l n =
    option [] (λ m. cond (eqb (level t n) l && not (is_start t n)) (0x11 ∷ m ∷ pair n) []) (t.owner n)

-- refine, for node n where its machine stands at level l and n is refined
unfoldable pub written_refine : Tree → ℕ → ℕ → List ℕ
written_refine t l n =
    option [] (λ m. option [] (λ s. cond (eqb (level t n) l) (0x12 ∷ (pair n ++ m ∷ pair s)) []) (t.start m)) (t.below n)

-- the bytes of arrow
abbrev pub arrow_bytes : (node command target cost : ℕ) → List ℕ
arrow_bytes n x v c = 0x14 ∷ (pair n ++ x ∷ (pair v ++ pair c))

-- arrow, for node n and command x where there is one
unfoldable pub written_arrow : Tree → ℕ → ℕ → List ℕ
written_arrow t n x = option [] (λ a. arrow_bytes n x a.target a.cost) (t.transition n x)

-- hold, for node n where it is held
unfoldable pub written_hold : Tree → ℕ → List ℕ
written_hold t n = cond (on_hold t n) (0x1A ∷ (pair n ++ 1 ∷ [])) []

-- leave, for machine m where leaving it costs something
unfoldable pub written_leave : Tree → ℕ → List ℕ
written_leave t m = cond (eqb (t.leave m) 0) [] (0x1B ∷ m ∷ pair (t.leave m))

-- the whole stream: begin; for each level first add, then refine, both by rising node; then all arrows by node, then command; then the holds
-- of 1, by node (document 02, W-205), and last the leaving charges that are not 0, by machine (W-207)
unfoldable pub written : Tree → List ℕ
written t =
    written_begin t
    ++ (joined levels (λ l. joined nodes (written_add t (suc l)) ++ joined nodes (written_refine t (suc l)))
    ++ (joined nodes (λ n. joined commands (written_arrow t n))
    ++ (joined nodes (written_hold t)
    ++ joined machines (written_leave t))))

-- a list is given: its length, and itself at the front of the output, the rest untouched; 15 where the output is shorter, writing nothing
abbrev pub GivesList : List ℕ → List ℕ → Answer → List ℕ → Type 0
GivesList list out answer out' =
    InOrder (asks_room 15 (length list) (length out) ∷ [])
    (λ k. (answer ≡ refuses k) × (out' ≡ out))
    ((answer ≡ gives (length list ∷ [])) × (out' ≡ list ++ drop (length list) out))

-- Write gives the stream. It refuses 1, 2 and 15, writing nothing
abbrev pub WriteSays : List ℕ → List ℕ → Answer → List ℕ → Type 0
WriteSays book out answer out' =
    InOrder (book_refusals book [])
    (λ k. (answer ≡ refuses k) × (out' ≡ out))
    (GivesList (written (tree_of book)) out answer out')
