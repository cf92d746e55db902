-- `merging::merge_sound` meets its contract: the tests say whether it is refused, and else the book is written, and its sheet as that of an
-- opening. Assumes nothing.
use mathlib.Core.Path.{◌≡◌, sym, ◌∙◌, ap}
use mathlib.Core.Option.{Option, some}
use Prim.Native.Nat.{ℕ}
use Rattle.std.proofs.Common.{Some, rules}
use Rattle.refusals.specs.Meaning.{status_of, value_of}
use Rattle.merging.proofs.Says.{Numbered, missing, too_few, no_root, no_lower, no_higher, all_move, done}
use Rattle.merging.proofs.merge_sound.Goals.{After-renumber-nodes}
use Rattle.merging.proofs.merge_sound.Goals as goal

-- the numbers that are left, if there are any
abbrev Left : (c : After-renumber-nodes) → (r a b : Option ℕ) → Type 0
Left c =
    let m = c.renumber-machines.result in
    let n = c.renumber-nodes.result in
    Numbered c.args.first.now c.args.second.now m.to m.from n.to n.from

left : (c : After-renumber-nodes) → Left c (value_of c.renumber-machines.result.next) (value_of c.renumber-nodes.result.next) (value_of c.renumber-nodes.result.after)
left c =
    let m = c.renumber-machines.ensures in
    let n = c.renumber-nodes.ensures in
    record {
      lists = record {
        first_formed = c.requires.0;
        second_formed = c.requires.1;
        machines_go = m.there;
        machines_came = m.back;
        nodes_go = n.there;
        nodes_came = n.back;
      };
      root = m.next;
      lower = n.next;
      higher = n.last;
    }

-- all three are there
all_left : (c : After-renumber-nodes) {r a b : ℕ} → c.renumber-machines.result.next ≡ Some r → c.renumber-nodes.result.next ≡ Some a
    → c.renumber-nodes.result.after ≡ Some b → Left c (some r) (some a) (some b)
all_left c root lower higher =
    let n = left c in
    record { lists = n.lists; root = sym (ap value_of root) ∙ n.root; lower = sym (ap value_of lower) ∙ n.lower; higher = sym (ap value_of higher) ∙ n.higher }

pub returns-in_err-ok_or : goal.returns-in_err-ok_or
returns-in_err-ok_or c =
    let e : status_of c.from_residual.result ≡ 19 = search rules in
    too_few c.args.first.now c.args.second.now (sym c.too_deep.ensures ∙ c.if-too_deep.false) (no_root (left (goal.at.returns-in_err-ok_or c).After-renumber-nodes) (missing _ c.in_err-ok_or.ensures.variant)) e c.args.book.now c.args.sheet.now

pub returns-in_err-ok_or-2 : goal.returns-in_err-ok_or-2
returns-in_err-ok_or-2 c =
    let e : status_of c.from_residual-in_err-ok_or-2.result ≡ 19 = search rules in
    too_few c.args.first.now c.args.second.now (sym c.too_deep.ensures ∙ c.if-too_deep.false) (no_lower (left (goal.at.returns-in_err-ok_or-2 c).After-renumber-nodes) (missing _ c.in_err-ok_or-2.ensures.variant)) e c.args.book.now c.args.sheet.now

pub returns-in_err-ok_or-3 : goal.returns-in_err-ok_or-3
returns-in_err-ok_or-3 c =
    let e : status_of c.from_residual-in_err-ok_or-3.result ≡ 19 = search rules in
    too_few c.args.first.now c.args.second.now (sym c.too_deep.ensures ∙ c.if-too_deep.false) (no_higher (left (goal.at.returns-in_err-ok_or-3 c).After-renumber-nodes) (missing _ c.in_err-ok_or-3.ensures.variant)) e c.args.book.now c.args.sheet.now

pub write_book-requires : goal.write_book-requires
write_book-requires c =
    let n = all_left (goal.at.write_book-requires c).After-renumber-nodes c.in_ok-ok_or.ensures.ok_part c.in_ok-ok_or-2.ensures.ok_part c.in_ok-ok_or-3.ensures.ok_part in
    (n.lists, all_move n, c.requires.2.0)

pub returns : goal.returns
returns c =
    done (all_left (goal.at.returns c).After-renumber-nodes c.in_ok-ok_or.ensures.ok_part c.in_ok-ok_or-2.ensures.ok_part c.in_ok-ok_or-3.ensures.ok_part) (sym c.too_deep.ensures ∙ c.if-too_deep.false) c.root.ensures c.write_book.ensures c.open_sheet.ensures
