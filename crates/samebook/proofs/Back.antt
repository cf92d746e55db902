-- Write's stream for a sound tree, loaded into any tree, is taken whole, gives back that very tree, and leaves every machine in use
-- marked and all else blank. Assumes nothing.
use mathlib.Core.Path.{◌≡◌, ap, subst, ◌∙◌}
use mathlib.Core.List.{[], List, ◌∷◌, ◌++◌}
use mathlib.Core.Option.{some}
use Prim.Native.Nat.{ℕ, suc, ◌+◌, ◌<◌}
use native.Mathlib.Omega.{arith}
use lib.ListN.{length}
use Rattle.definitions.specs.Limits.{machines, nodes, commands, levels}
use Rattle.definitions.specs.Tree.{Tree, Sound}
use Rattle.definitions.specs.Sheet.{Rows}
use Rattle.definitions.specs.Stream.{Command, edit, begin, add, refine, arrow, hold, leave}
use Rattle.definitions.specs.Edit.{single, edited}
use Rattle.definitions.specs.Load.{Outcome, after, load, RowsAfterAll}
use Rattle.definitions.specs.Open.{open_rows}
use Rattle.definitions.specs.Write.{pair, written_add, written_refine, written_arrow, written_hold, written_leave, written}
use Rattle.definitions.proofs.Words.{start_range}
use Rattle.definitions.proofs.Commands.{begin_taken, add_taken, refine_taken, arrow_taken, hold_taken, leave_taken}
use Rattle.definitions.proofs.Spelling.{spells_begin, spells_add, spells_refine, spells_arrow, spells_hold, spells_leave, whole, TakenAs, load_step}
use Rattle.samebook.proofs.Taken.{Takes, done, takes_one, takes_both, takes_load, takes_rows}
use Rattle.samebook.proofs.Clock.{add_at, refine_at, arrow_at, hold_at, leave_at, after_begin}
use Rattle.samebook.proofs.Grown.{grown, grown_begin, grown_end, add_none, add_may, add_done}
use Rattle.samebook.proofs.Grown.{refine_none, refine_may, refine_done, arrow_none, arrow_may, arrow_done, hold_none, hold_may, hold_done}
use Rattle.samebook.proofs.Grown.{leave_none, leave_may, leave_done}
use Rattle.samebook.proofs.Marks.{begin_opens, add_opens, refine_opens, arrow_opens, hold_opens, leave_opens}
use Rattle.samebook.proofs.Written.{AddCase, no_add, one_add, add_case, RefineCase, no_refine, one_refine, refine_case}
use Rattle.samebook.proofs.Written.{ArrowCase, no_arrow, one_arrow, arrow_case, HoldCase, no_hold, one_hold, hold_case}
use Rattle.samebook.proofs.Written.{LeaveCase, no_leave, one_leave, leave_case}
use Rattle.samebook.proofs.Written.{body, written_parts, Piecewise, body_all}

-- the bytes between two places of the stream lead from the tree before the one to the tree before the other
abbrev Leads : Tree → ℕ → List ℕ → ℕ → Type 0
Leads t a bytes b = (cs : List Command) × Takes (grown t a) bytes cs (grown t b)

-- no bytes, where nothing comes
leads_none : (t : Tree) (a : ℕ) {bytes : List ℕ} → bytes ≡ [] → grown t a ≡ grown t (suc a) → Leads t a bytes (suc a)
leads_none t a empty same = rw empty ([], subst (Takes (grown t a) [] []) same done)

-- what stands at each place leads to the next
leads_add : {t : Tree} → Sound t → (l i : ℕ) → l < levels → i < nodes
    → Leads t (add_at (suc l) i) (written_add t (suc l) i) (suc (add_at (suc l) i))
leads_add {t} s l i high small = go (add_case t (suc l) i)
  where
    go : AddCase t (suc l) i → Leads t (add_at (suc l) i) (written_add t (suc l) i) (suc (add_at (suc l) i))
    go (no_add empty not_here) = leads_none t (add_at (suc l) i) empty (add_none s l i high small not_here)
    go (one_add {m = m} bytes own other at) =
        rw bytes (
          edit (add m i) ∷ [],
          takes_one (record { spells = spells_add m i; taken = add_taken (add_may s l i high small own other at) })
              (add_opens (grown t (add_at (suc l) i)) m i) (add_done s l i high small own other at),
        )

leads_refine : {t : Tree} → Sound t → (l i : ℕ) → l < levels → i < nodes
    → Leads t (refine_at (suc l) i) (written_refine t (suc l) i) (suc (refine_at (suc l) i))
leads_refine {t} s l i high small = go (refine_case s (suc l) i)
  where
    go : RefineCase t (suc l) i → Leads t (refine_at (suc l) i) (written_refine t (suc l) i) (suc (refine_at (suc l) i))
    go (no_refine empty not_here) = leads_none t (refine_at (suc l) i) empty (refine_none s l i high small not_here)
    go (one_refine {b = b} {f = f} bytes holds first at) =
        rw bytes (
          edit (refine i b f) ∷ [],
          takes_one (record { spells = spells_refine i b f; taken = refine_taken (refine_may s l i high small holds first at) })
              (refine_opens (grown t (refine_at (suc l) i)) i b f) (refine_done s l i high small holds first at),
        )

leads_arrow : {t : Tree} → Sound t → (n x : ℕ) → n < nodes → x < commands
    → Leads t (arrow_at n x) (written_arrow t n x) (suc (arrow_at n x))
leads_arrow {t} s n x small known = go (arrow_case t n x)
  where
    go : ArrowCase t n x → Leads t (arrow_at n x) (written_arrow t n x) (suc (arrow_at n x))
    go (no_arrow empty free) = leads_none t (arrow_at n x) empty (arrow_none s n x small known free)
    go (one_arrow {a = a} bytes drawn) =
        rw bytes (
          edit (arrow n x a.target a.cost) ∷ [],
          takes_one
              (record {
                spells = spells_arrow n x a.target a.cost;
                taken = arrow_taken (arrow_may s n x small known drawn) a.cost;
              })
              (arrow_opens (grown t (arrow_at n x)) n x a.target a.cost) (arrow_done s n x small known drawn),
        )

leads_hold : {t : Tree} → Sound t → (n : ℕ) → n < nodes → Leads t (hold_at n) (written_hold t n) (suc (hold_at n))
leads_hold {t} s n small = go (hold_case s n)
  where
    go : HoldCase t n → Leads t (hold_at n) (written_hold t n) (suc (hold_at n))
    go (no_hold empty free) = leads_none t (hold_at n) empty (hold_none s n small free)
    go (one_hold bytes one) =
        rw bytes (
          edit (hold n 1) ∷ [],
          takes_one (record { spells = spells_hold n 1; taken = hold_taken (hold_may s n small one) })
              (hold_opens (grown t (hold_at n)) n 1) (hold_done s n small one),
        )

leads_leave : {t : Tree} → Sound t → (m : ℕ) → m < machines → Leads t (leave_at m) (written_leave t m) (suc (leave_at m))
leads_leave {t} s m small = go (leave_case t m)
  where
    go : LeaveCase t m → Leads t (leave_at m) (written_leave t m) (suc (leave_at m))
    go (no_leave empty free) = leads_none t (leave_at m) empty (leave_none s m small free)
    go (one_leave bytes charged) =
        rw bytes (
          edit (leave m (t.leave m)) ∷ [],
          takes_one (record { spells = spells_leave m (t.leave m); taken = leave_taken (t.leave m) (leave_may s m small charged) })
              (leave_opens (grown t (leave_at m)) m (t.leave m)) (leave_done s m small charged),
        )

-- so what follows begin leads from begin's one machine to the whole tree
pub body_takes : {t : Tree} → Sound t → {f : ℕ} → t.start t.root ≡ some f
    → (cs : List Command) × Takes (single t.root f) (body t) cs t
body_takes {t} s {f} first =
    let (cs, way) = body_all pieces t (leads_add s) (leads_refine s) (leads_arrow s) (leads_hold s) (leads_leave s) in
    (cs, rw (grown_begin s f first) (subst (Takes (grown t after_begin) (body t) cs) (grown_end s) way))
  where
    pieces : Piecewise (Leads t)
    pieces =
        record {
          empty = λ a. ([], done);
          both = λ a b c xs ys first_part second_part.
              (first_part.0 ++ second_part.0, takes_both first_part.1 second_part.1);
        }

-- begin is taken on any tree, and then what follows it
begun : {t : Tree} → Sound t → (u : Tree) {f : ℕ} → t.start t.root ≡ some f → {cs : List Command}
    → Takes (single t.root f) (body t) cs t → load u (written t) ≡ whole (written t) (edit (begin t.root f) ∷ cs) t
unfolding edited
begun {t} s u {f} first {cs} way =
    let (machine, node) = start_range t s t.root f first in
    let step : TakenAs u (begin t.root f) (0x10 ∷ t.root ∷ pair f) = record {
      spells = spells_begin t.root f;
      taken = begin_taken u (record { machine_range = machine; node_range = node });
    } in
    let size : ℕ = length (body t) in
    let four : 4 + size ≡ suc (suc (suc (suc size))) = omega arith in
    rw (written_parts t first)
    (load_step step (body t) ∙ ap (after (edit (begin t.root f)) 4) (takes_load way) ∙ rw four)

-- what loading Write's stream for t into u comes to
pub record WrittenBack (t u : Tree) : Type 0 where
  -- it is taken whole
  pub bytes : (load u (written t)).bytes ≡ length (written t)
  pub number : (load u (written t)).number ≡ 0
  -- it leaves the same tree
  pub tree : (load u (written t)).tree ≡ t
  -- and rows with every machine in use marked and all blank, whatever they were
  pub rows : (r q : Rows) → RowsAfterAll u (load u (written t)).commands r q → q ≡ open_rows t

pub written_back : {t : Tree} → Sound t → (u : Tree) → WrittenBack t u
unfolding edited
written_back {t} s u =
    let (f, first) = s.root_used in
    let (cs, way) = body_takes s first in
    let loaded : load u (written t) ≡ whole (written t) (edit (begin t.root f) ∷ cs) t = begun s u first way in
    record {
      bytes = ap (λ (o : Outcome). o.bytes) loaded;
      number = ap (λ (o : Outcome). o.number) loaded;
      tree = ap (λ (o : Outcome). o.tree) loaded;
      rows = λ r q left.
          let (mid, here, rest) = subst (λ (o : Outcome). RowsAfterAll u o.commands r q) loaded left in
          takes_rows way q
          (subst (λ (m : Rows). RowsAfterAll (single t.root f) cs m q) (here ∙ begin_opens u r t.root f) rest);
    }
