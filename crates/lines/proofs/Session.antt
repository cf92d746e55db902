-- Turns repeated to the end print what the session prints. Assumes nothing.
use mathlib.Core.Path.{◌≡◌, refl, sym, ◌∙◌, ap}
use mathlib.Core.List.{[], List, ◌∷◌}
use Prim.Native.Nat.{ℕ, ◌+◌}
use native.Mathlib.Omega.{arith}
use lib.ListN.{length, take, drop}
use lib.Seq.{drop-drop, drop-length}
use Rattle.definitions.specs.Limits.{longest_input}
use Rattle.definitions.specs.Tree.{Tree}
use Rattle.definitions.specs.Sheet.{Rows}
use Rattle.definitions.specs.Stream.{ended}
use Rattle.definitions.specs.Edit.{tree_after}
use Rattle.definitions.specs.Open.{fresh_tree, open_rows}
use Rattle.definitions.specs.Session.{Request, stream, plan_size, stop_line, request, Prints, finished, does, SessionPrints}
use Rattle.definitions.specs.Session.{stops as prints_stop, plans as prints_plan}
use Rattle.lines.specs.Turn.{Takes, here, on, Given, line, end, Gives, finishes, stops, plans, Turns, Repeats, over, again}
use Rattle.lines.proofs.Turns.{request_end}

-- commands before what is printed from where they end
takes_print : {input : List ℕ} {t : Tree} {r : Rows} {at : ℕ} {u : Tree} {q : Rows} {to : ℕ} {lines : List (List ℕ)} → Takes input t r at u q to
    → Prints u q to (drop to input) lines → Prints t r at (drop at input) lines
takes_print here rest = rest
takes_print {input} {t} {at = at} {lines = lines} (on c size mid e rows more) rest =
    let after : Prints (tree_after t c) mid (at + size) (drop size (drop at input)) lines = rw (drop-drop size at input) (takes_print more rest) in
    does c size mid e rows after

-- at the end of the input no command is taken, and nothing is given but the end
nothing_left : (input : List ℕ) (t : Tree) {x : Request} → request t (drop (length input) input) ≡ x → x ≡ stream ended
nothing_left input t e = sym e ∙ ap (request t) (drop-length input) ∙ request_end t

gives_nothing : {input : List ℕ} {t : Tree} {r : Rows} {given : Given} → Gives input t r (length input) given → given ≡ end
gives_nothing (finishes e) = refl
gives_nothing {input} {t} (stops k e) = let no_stop = nothing_left input t e in let z : ◌≡◌ {A = ℕ} 0 1 = cc in absurd (omega arith)
gives_nothing {input} {t} (plans a b l e p) = let no_plan = nothing_left input t e in let z : ◌≡◌ {A = ℕ} 0 1 = cc in absurd (omega arith)

turns_nothing : {input : List ℕ} {t : Tree} {r : Rows} {given : Given} {u : Tree} {q : Rows} → Turns input t r (length input) given u q → given ≡ end
turns_nothing {input} {t} {given = given} turn = go turn.takes refl turn.gives
  where
    go : {r : Rows} {at : ℕ} {u : Tree} {q : Rows} {to : ℕ} → Takes input t r at u q to → at ≡ length input → Gives input u q to given → given ≡ end
    go here same gives = gives_nothing (rw same at gives)
    go (on c size mid e rows more) same gives =
        let no_command = nothing_left input t (rw same at e) in
        let z : ◌≡◌ {A = ℕ} 0 1 = cc in
        absurd (omega arith)

repeats_nothing : {input : List ℕ} {t : Tree} {r : Rows} {lines : List (List ℕ)} {v : Tree} {p : Rows} → Repeats input t r (length input) lines v p
    → lines ≡ []
repeats_nothing (over turn) = refl
repeats_nothing (again turn more) = let no_line_lem = turns_nothing turn in let z : ◌≡◌ {A = ℕ} 0 1 = cc in absurd (omega arith)

-- ---- what is given is what is printed

end_prints : {input : List ℕ} {t : Tree} {r : Rows} {at : ℕ} {given : Given} → Gives input t r at given → given ≡ end
    → Prints t r at (drop at input) []
end_prints (finishes e) same = finished e
end_prints (stops k e) same = let z : ◌≡◌ {A = ℕ} 0 1 = cc in absurd (omega arith)
end_prints (plans a b l e p) same = let z : ◌≡◌ {A = ℕ} 0 1 = cc in absurd (omega arith)

line_prints : {input : List ℕ} {t : Tree} {r : Rows} {at : ℕ} {given : Given} → Gives input t r at given → {bytes : List ℕ} {next : ℕ}
    → given ≡ line bytes next → {lines : List (List ℕ)} {v : Tree} {p : Rows} → Repeats input t r next lines v p → Prints t r next (drop next input) lines
    → Prints t r at (drop at input) (bytes ∷ lines)
line_prints (finishes e) same more rest = let z : ◌≡◌ {A = ℕ} 0 1 = cc in absurd (omega arith)
line_prints {input} {at = at} (stops k e) {bytes} {next} same {lines} more rest =
    let first : bytes ≡ stop_line k at = cc in
    let last : next ≡ length input = cc in
    let none_left : lines ≡ [] = repeats_nothing (rw last at more) in
    rw (first, none_left) (prints_stop k e)
line_prints {input} {t} {r} {at} (plans a b l e p) {bytes} {next} same {lines} more rest =
    let first : bytes ≡ l = cc in
    let last : next ≡ at + plan_size = cc in
    let rest' : Prints t r (at + plan_size) (drop plan_size (drop at input)) lines = rw (drop-drop plan_size at input) (rw last at rest) in
    rw first (prints_plan {lines = lines} a b l e p rest')

-- turns repeated from an offset to the end print what the session prints from there on
pub session_lines : {input : List ℕ} {t : Tree} {r : Rows} {at : ℕ} {lines : List (List ℕ)} {v : Tree} {p : Rows} → Repeats input t r at lines v p
    → Prints t r at (drop at input) lines
session_lines (over turn) = takes_print turn.takes (end_prints turn.gives refl)
session_lines (again turn more) = takes_print turn.takes (line_prints turn.gives refl more (session_lines more))

-- so from the start on they print the lines of the session
pub session_prints : (input : List ℕ) {lines : List (List ℕ)} {v : Tree} {p : Rows}
    → Repeats (take longest_input input) fresh_tree (open_rows fresh_tree) 0 lines v p → SessionPrints input lines
session_prints input turns = session_lines turns
