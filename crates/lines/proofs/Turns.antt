-- A turn of the session: commands one by one, and what stands where they end. Assumes nothing.
use mathlib.Core.Path.{◌≡◌, refl, sym, ◌∙◌, ap}
use mathlib.Core.Bool.{Bool, true, false}
use mathlib.Core.Option.{some}
use mathlib.Core.List.{[], List, ◌∷◌}
use Prim.Native.Nat.{ℕ, suc, ◌+◌, ◌-◌, ◌≤◌, ◌<◌}
use native.Mathlib.Numerals.{add-one}
use native.Mathlib.Omega.{arith}
use lib.Dec.{ltb}
use lib.ListN.{length, drop, length-drop, drop_of_length-le}
use lib.Seq.{drop-cons}
use borrow.Author.Tests.{eq-eqb, ne_eqb, le-leb, lt-leb, ltb-true, ltb-false}
use Rattle.definitions.specs.Tree.{Tree}
use Rattle.definitions.specs.Book.{tree_of, WellFormed}
use Rattle.definitions.specs.Sheet.{Rows}
use Rattle.definitions.specs.Truth.{TrueSheet}
use Rattle.definitions.specs.Stream.{Command, Next, ended, taken, refused, operand_length, byte_at, pair_at}
use Rattle.definitions.specs.Edit.{tree_after, RowsAfter}
use Rattle.definitions.specs.Load.{Outcome, next, stopped, load}
use Rattle.definitions.specs.Session.{stream, plan, plan_size, read_plan, request}
use Rattle.definitions.proofs.Options.{none_some}
use Rattle.definitions.proofs.Streams.{ended_refused, next_nothing, next_taken, next_refused, next_ended, next_size, read_taken, load_end, load_refused, load_taken}
use Rattle.loading.specs.Loading.{TookNext, Stays}
use Rattle.lines.specs.Turn.{Takes, here, on, finishes, stops, plans}
use Rattle.lines.specs.Meaning.{PlanWritten, Taken, Halted, TurnFits, Stopped, AnsweredAt, TurnSays}
use Rattle.lines.specs.declared.Line.{Line}
use Rattle.std.proofs.Common.{Option, Some, None}

-- ---- what stands next in the input

-- nothing
pub request_end : (t : Tree) → request t [] ≡ stream ended
unfolding request
request_end t = refl

-- what stands next in a stream, where the opcode is not a plan's
request_other : (t : Tree) {op : ℕ} (rest : List ℕ) → (op ≡ 0x19 → ⊥) → request t (op ∷ rest) ≡ stream (next t (op ∷ rest))
unfolding request
request_other t {op} rest other = rw (ne_eqb op 0x19 other)

-- a plan
request_plan : (t : Tree) {op : ℕ} (rest : List ℕ) → op ≡ 0x19 → 4 ≤ length rest → request t (op ∷ rest) ≡ plan (pair_at rest 0) (pair_at rest 2)
unfolding request read_plan
request_plan t {op} rest is there = rw (eq-eqb op 0x19 is, le-leb 4 (length rest) there)

-- a plan that is cut short
request_cut : (t : Tree) {op : ℕ} (rest : List ℕ) → op ≡ 0x19 → length rest < 4 → request t (op ∷ rest) ≡ stream (refused 4)
unfolding request read_plan
request_cut t {op} rest is short = rw (eq-eqb op 0x19 is, lt-leb 4 (length rest) short)

-- a command that is taken of a stream is taken of the input
known_other : {op k : ℕ} → operand_length op ≡ some k → op ≡ 0x19 → ⊥
unfolding operand_length
known_other {op} {k} known is = none_some refl (rw is at known)

request_taken : (t : Tree) (bytes : List ℕ) {c : Command} {size : ℕ} → next t bytes ≡ taken c size → request t bytes ≡ stream (taken c size)
request_taken t bytes e =
    let r = read_taken bytes (next_taken t bytes e).0 in
    ap (request t) r.split ∙ request_other t r.rest (known_other r.known) ∙ ap (λ (l : List ℕ). stream (next t l)) (sym r.split) ∙ ap stream e

-- the bytes from an offset on, where there is one
at_offset : (input : List ℕ) (at : ℕ) → at < length input → drop at input ≡ byte_at input at ∷ drop (at + 1) input
at_offset input at inside = rw (add-one at) (drop-cons input at 0 inside)

-- ---- commands, one by one

-- one command more, at the end
takes_more : {input : List ℕ} {t : Tree} {r : Rows} {at : ℕ} {u : Tree} {q : Rows} {to : ℕ} → Takes input t r at u q to → {c : Command} {size : ℕ} {q' : Rows}
    → request u (drop to input) ≡ stream (taken c size) → RowsAfter u c q q' → Takes input t r at (tree_after u c) q' (to + size)
takes_more here {c} {size} {q'} e rows = on c size q' e rows here
takes_more (on d n mid e rows rest) f last = on d n mid e rows (takes_more rest f last)

module _ {input b s : List ℕ} {at : ℕ} where
  -- at first none is taken
  pub taken_starts : WellFormed b → TrueSheet (tree_of b) s → at ≤ length input → Taken input b s at at b s
  taken_starts formed filled within = record { formed = formed; filled = filled; takes = here; onward = omega arith; within = within }

  module _ {to : ℕ} {b' s' : List ℕ} (before : Taken input b s at to b' s') where
    -- a command that is done takes one byte at least, and none that is not there
    pub taken_size : {size : ℕ} {b'' s'' : List ℕ} → TookNext b' s' (drop to input) size b'' s'' → (0 < size) × (to + size ≤ length input)
    taken_size took = omega (arith, next_size (tree_of b') (drop to input) took.stands, length-drop to input, before.within)

    -- and then it is among those that are taken
    pub taken_on : {size : ℕ} {b'' s'' : List ℕ} → TookNext b' s' (drop to input) size b'' s'' → Taken input b s at (to + size) b'' s''
    taken_on {size} {b''} {s''} took =
        record {
          formed = took.done.formed;
          filled = took.done.filled;
          takes = rw took.done.tree (takes_more before.takes (request_taken (tree_of b') (drop to input) took.stands) took.done.rows);
          onward = omega (arith, before.onward);
          within = (taken_size took).1;
        }

-- where a stream stops at once, nothing stands next or what does is refused
module _ (t : Tree) (bytes : List ℕ) {k : ℕ} (e : load t bytes ≡ stopped k t) where
  stops_at : (x : Next) → next t bytes ≡ x → (k ≡ 0 → x ≡ ended) × ((k ≡ 0 → ⊥) → x ≡ refused k)
  stops_at ended f =
      let same : k ≡ 0 = ap (λ (o : Outcome). o.number) (sym e ∙ load_end t bytes f) in
      (λ zero. refl, λ other. absurd (other same))
  stops_at (taken c size) f =
      let some : ◌≡◌ {A = ℕ} 0 (suc (length (load (tree_after t c) (drop size bytes)).commands)) =
      ap (λ (o : Outcome). length o.commands) (sym e ∙ load_taken t bytes f) in
      absurd (omega arith)
  stops_at (refused j) f =
      let same : k ≡ j = ap (λ (o : Outcome). o.number) (sym e ∙ load_refused t bytes f) in
      (λ zero. absurd (next_refused t bytes f (sym same ∙ zero)), λ other. ap refused (sym same))

-- no command more is taken
pub taken_halts : {input b s : List ℕ} {at to : ℕ} {b' s' : List ℕ} → Taken input b s at to b' s' → {k : ℕ} {b'' s'' : List ℕ}
    → Stays b' s' (drop to input) k b'' s'' → Halted input b s at to k b'' s''
taken_halts {input} {b} {s} {at} {to} {b'} {s'} before {k} stays =
    let (ends, refuses) = stops_at (tree_of b') (drop to input) stays.stops (next (tree_of b') (drop to input)) refl in
    rw (stays.book, stays.sheet) (record { taken = before; ends = ends; refuses = refuses })

-- ---- what is given where they end

-- what lies further on than an offset lies further on than one before it
fits_earlier : (input : List ℕ) {at to : ℕ} (list : List ℕ) (turn : Option Line) (list' : List ℕ) → at ≤ to → TurnFits input to list turn list' → TurnFits input at list turn list'
fits_earlier input list (Some l) list' before fits = (omega arith, fits.1, fits.2, fits.3)
fits_earlier input list None list' before fits = fits

-- the line of a refused command is given where the command stands
stopped_answers : {input b s : List ℕ} {at k : ℕ} {list : List ℕ} {turn : Option Line} {list' : List ℕ}
    → request (tree_of b) (drop at input) ≡ stream (refused k) → Stopped input at k list turn list' → AnsweredAt input b s at list turn list'
stopped_answers {k = k} e stopped = record { gives = rw stopped.given (stops k e); fits = stopped.fits }

-- a plan that stands at an offset
module _ {input b s : List ℕ} {at : ℕ} {list : List ℕ} (inside : at < length input) (is : byte_at input at ≡ 0x19) where
  -- it is cut short
  pub plan_cut : length input - at < plan_size → {turn : Option Line} {list' : List ℕ} → Stopped input at 4 list turn list'
      → AnsweredAt input b s at list turn list'
  plan_cut short stopped =
      let rest = drop (at + 1) input in
      stopped_answers
      (ap (request (tree_of b)) (at_offset input at inside) ∙ request_cut (tree_of b) rest is (omega (arith, length-drop (at + 1) input))) stopped

  -- its line is given
  pub plan_whole : plan_size ≤ length input - at → {x y size : ℕ} {list' : List ℕ} → x ≡ pair_at (drop (at + 1) input) 0
      → y ≡ pair_at (drop (at + 1) input) 2 → PlanWritten b s x y list size list' → AnsweredAt input b s at list (Some (record { size = size; next = at + plan_size })) list'
  plan_whole whole {x} {y} from to written =
      let rest = drop (at + 1) input in
      let e : request (tree_of b) (drop at input) ≡ plan x y =
      ap (request (tree_of b)) (at_offset input at inside) ∙ request_plan (tree_of b) rest is (omega (arith, length-drop (at + 1) input)) ∙ (λ i. plan (sym from i) (sym to i)) in
      record {
        gives = rw written.written.front (plans x y written.bytes e written.prints);
        fits = (omega arith, omega arith, written.written.room, written.written.rest);
      }

module _ {input b s : List ℕ} {at to k : ℕ} {b' s' : List ℕ} (halted : Halted input b s at to k b' s') where
  -- what is refused stands in the input
  pub refused_inside : (k ≡ 0 → ⊥) → to < length input
  refused_inside other = go (ltb to (length input)) refl
    where
      go : (x : Bool) → ltb to (length input) ≡ x → to < length input
      go true e = ltb-true to (length input) e
      go false e =
          let nothing : drop to input ≡ [] = drop_of_length-le input (ltb-false to (length input) e) in
          let end : next (tree_of b') (drop to input) ≡ ended = ap (next (tree_of b')) nothing ∙ next_nothing (tree_of b') in
          absurd (ended_refused end (halted.refuses other))

  -- the end
  pub says_end : k ≡ 0 → (list : List ℕ) → TurnSays input b s at list None b' s' list
  says_end done list =
      let empty = next_ended (tree_of b') (drop to input) (halted.ends done) in
      record {
        formed = halted.taken.formed;
        filled = halted.taken.filled;
        turns = record { to = to; takes = halted.taken.takes; gives = finishes (ap (request (tree_of b')) empty ∙ request_end (tree_of b')) };
        fits = refl;
      }

  -- what is given at the offset where they end
  pub says_answered : {list : List ℕ} {turn : Option Line} {list' : List ℕ} → AnsweredAt input b' s' to list turn list'
      → TurnSays input b s at list turn b' s' list'
  says_answered {list} {turn} {list'} given =
      record {
        formed = halted.taken.formed;
        filled = halted.taken.filled;
        turns = record { to = to; takes = halted.taken.takes; gives = given.gives };
        fits = fits_earlier input list turn list' halted.taken.onward given.fits;
      }

  -- a refused command
  pub says_stopped : (k ≡ 0 → ⊥) → (byte_at input to ≡ 0x19 → ⊥) → {list : List ℕ} {turn : Option Line} {list' : List ℕ} → Stopped input to k list turn list'
      → TurnSays input b s at list turn b' s' list'
  says_stopped refuses other stopped =
      let inside = refused_inside refuses in
      let t = tree_of b' in
      let rest = drop (to + 1) input in
      let stands = at_offset input to inside in
      let e : request t (drop to input) ≡ stream (refused k) =
      ap (request t) stands ∙ request_other t rest other ∙ ap (λ (l : List ℕ). stream (next t l)) (sym stands) ∙ ap stream (halted.refuses refuses) in
      says_answered (stopped_answers e stopped)
