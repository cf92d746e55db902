-- Laws of streams: the next command, and a whole stream on a tree as its next command and then the rest. After the laws of this file
-- nobody looks at the fuel of `load`. Assumes nothing.
use mathlib.Core.Path.{◌≡◌, refl, ap, ◌∙◌}
use mathlib.Core.Logic.{◌⊎◌, inl, inr, ⊎_elim}
use mathlib.Core.Bool.{Bool, true, false, cond}
use mathlib.Core.Option.{Option, none, some}
use mathlib.Core.List.{[], List, ◌∷◌}
use Prim.Native.Nat.{ℕ, zero, suc, ◌≤◌, ◌<◌}
use native.Mathlib.Omega.{arith}
use lib.Dec.{eqb, leb}
use lib.ListN.{length, drop, length-drop}
use borrow.Author.Tests.{leb-true, leb-false, le-leb, lt-leb, ne_eqb}
use Rattle.definitions.specs.Tree.{Tree}
use Rattle.definitions.specs.Stream.{Command, operand_length, decode, Next, ended, taken, refused, read_next}
use Rattle.definitions.specs.Edit.{refusal, tree_after}
use Rattle.definitions.specs.Load.{next, Outcome, stopped, after, onward, load_f, load}
use Rattle.definitions.proofs.Options.{none_some, equal_or_not}

-- the end, a command that is taken and a refusal are three things: none is another
taken_refused : {x : Next} {c : Command} {size k : ℕ} → x ≡ taken c size → x ≡ refused k → ⊥
taken_refused p q = let z : ◌≡◌ {A = ℕ} 0 1 = cc in omega arith

taken_ended : {x : Next} {c : Command} {size : ℕ} → x ≡ taken c size → x ≡ ended → ⊥
taken_ended p q = let z : ◌≡◌ {A = ℕ} 0 1 = cc in omega arith

pub ended_refused : {x : Next} {k : ℕ} → x ≡ ended → x ≡ refused k → ⊥
ended_refused p q = let z : ◌≡◌ {A = ℕ} 0 1 = cc in omega arith

-- ---- the next command as it is written

-- what holds of two values and of two others holds where one test picks from both
either_both : {A B : Type 0} (P : A → B → Type 0) (test : Bool) {x y : A} {u v : B} → P x u → P y v → P (cond test x y) (cond test u v)
either_both P true p q = p
either_both P false p q = q

-- an opcode that has operands has a command, and one that has none is the opcode of none
abbrev Decodes : Option ℕ → Option Command → Type 0
Decodes operands command =
    ((k : ℕ) → operands ≡ some k → (c : Command) × (command ≡ some c)) × (operands ≡ none → command ≡ none)

decodes : (k : ℕ) (c : Command) → Decodes (some k) (some c)
decodes k c = (λ j e. (c, refl), λ e. absurd (none_some e refl))

opcode_decodes : (op : ℕ) (bytes : List ℕ) → Decodes (operand_length op) (decode op bytes)
unfolding operand_length decode
opcode_decodes op bytes =
    either_both Decodes (eqb op 0x10) (decodes _ _)
    (either_both Decodes (eqb op 0x11) (decodes _ _)
    (either_both Decodes (eqb op 0x12) (decodes _ _)
    (either_both Decodes (eqb op 0x13) (decodes _ _)
    (either_both Decodes (eqb op 0x14) (decodes _ _)
    (either_both Decodes (eqb op 0x15) (decodes _ _)
    (either_both Decodes (eqb op 0x16) (decodes _ _)
    (either_both Decodes (eqb op 0x17) (decodes _ _)
    (either_both Decodes (eqb op 0x18) (decodes _ _)
    (either_both Decodes (eqb op 0x1A) (decodes _ _)
    (either_both Decodes (eqb op 0x1B) (decodes _ _) (λ j e. absurd (none_some refl e), λ e. refl)))))))))))

pub known_decodes : (op : ℕ) (bytes : List ℕ) {k : ℕ} → operand_length op ≡ some k → (c : Command) × (decode op bytes ≡ some c)
known_decodes op bytes {k} = (opcode_decodes op bytes).0 k

pub unknown_undecoded : (op : ℕ) (bytes : List ℕ) → operand_length op ≡ none → decode op bytes ≡ none
unknown_undecoded op bytes = (opcode_decodes op bytes).1

-- an empty stream is at its end
pub read_nothing : read_next [] ≡ ended
unfolding read_next
read_nothing = refl

-- an unknown opcode is refused
pub read_unknown : (op : ℕ) (rest : List ℕ) → operand_length op ≡ none → read_next (op ∷ rest) ≡ refused 5
unfolding read_next
read_unknown op rest unknown = rw unknown

-- a command that is cut short is refused
pub read_cut : (op : ℕ) (rest : List ℕ) {k : ℕ} → operand_length op ≡ some k → length rest < k → read_next (op ∷ rest) ≡ refused 4
unfolding read_next
read_cut op rest {k} known short = rw (known, (known_decodes op rest known).1, lt-leb k (length rest) short)

-- a command with all its operands is read
pub read_whole : (op : ℕ) (rest : List ℕ) {k : ℕ} {c : Command} → operand_length op ≡ some k → k ≤ length rest → decode op rest ≡ some c
    → read_next (op ∷ rest) ≡ taken c (suc k)
unfolding read_next
read_whole op rest {k} known there says = rw (known, says, le-leb k (length rest) there)

-- what may stand next
pub data Reads : List ℕ → Next → Type 0 where
  nothing : Reads [] ended
  unknown : {op : ℕ} {rest : List ℕ} → operand_length op ≡ none → Reads (op ∷ rest) (refused 5)
  cut : {op : ℕ} {rest : List ℕ} {k : ℕ} → operand_length op ≡ some k → length rest < k → Reads (op ∷ rest) (refused 4)
  whole : {op : ℕ} {rest : List ℕ} {k : ℕ} {c : Command} → operand_length op ≡ some k → k ≤ length rest → decode op rest ≡ some c
      → Reads (op ∷ rest) (taken c (suc k))

-- what stands next is one of these
pub reads : (bytes : List ℕ) → Reads bytes (read_next bytes)
reads [] = rw read_nothing nothing
reads (op ∷ rest) = go (operand_length op) refl
  where
    fits : (k : ℕ) → operand_length op ≡ some k → (b : Bool) → leb k (length rest) ≡ b → Reads (op ∷ rest) (read_next (op ∷ rest))
    fits k known true e =
        let there : k ≤ length rest = leb-true k (length rest) e in
        let (c, says) = known_decodes op rest known in
        rw (read_whole op rest known there says) (whole known there says)
    fits k known false e = let short : length rest < k = leb-false k (length rest) e in rw (read_cut op rest known short) (cut known short)

    go : (o : Option ℕ) → operand_length op ≡ o → Reads (op ∷ rest) (read_next (op ∷ rest))
    go none e = rw (read_unknown op rest e) (unknown e)
    go (some k) e = fits k e (leb k (length rest)) refl

-- a command that is read: its opcode is known, its operands are there, and it is what they say
pub record Read (bytes : List ℕ) (c : Command) (size : ℕ) : Type 0 where
  pub opcode : ℕ
  pub rest : List ℕ
  pub split : bytes ≡ opcode ∷ rest
  pub operands : ℕ
  pub known : operand_length opcode ≡ some operands
  pub there : operands ≤ length rest
  pub command : decode opcode rest ≡ some c
  pub counted : size ≡ suc operands

-- every command that is taken as it is written is read so
pub read_taken : (bytes : List ℕ) {c : Command} {size : ℕ} → read_next bytes ≡ taken c size → Read bytes c size
read_taken bytes {c} {size} e = go (reads bytes) e
  where
    go : {l : List ℕ} {x : Next} → Reads l x → x ≡ taken c size → Read l c size
    go nothing e = absurd (taken_ended e refl)
    go (unknown u) e = absurd (taken_refused e refl)
    go (cut known short) e = absurd (taken_refused e refl)
    go (whole {op = op} {rest = rest} {k = k} known there says) e =
        record { opcode = op; rest = rest; split = refl; operands = k; known = known; there = there; command = cc; counted = cc }

-- a command that is read takes one byte at least, and none that is not there
pub read_size : (bytes : List ℕ) {c : Command} {size : ℕ} → read_next bytes ≡ taken c size → (0 < size) × (size ≤ length bytes)
read_size bytes {c} {size} e =
    let r : Read bytes c size = read_taken bytes e in
    omega (arith, ap length r.split)

-- what is refused as it is written is refused with 5 or 4
pub read_refused : (bytes : List ℕ) {k : ℕ} → read_next bytes ≡ refused k → (k ≡ 5) ⊎ (k ≡ 4)
read_refused bytes {k} e = go (reads bytes) e
  where
    go : {l : List ℕ} {x : Next} → Reads l x → x ≡ refused k → (k ≡ 5) ⊎ (k ≡ 4)
    go nothing e = absurd (ended_refused refl e)
    go (unknown u) e = inl (cc)
    go (cut known short) e = inr (cc)
    go (whole known there says) e = absurd (taken_refused refl e)

-- only an empty stream is at its end
pub read_ended : (bytes : List ℕ) → read_next bytes ≡ ended → bytes ≡ []
read_ended bytes e = go (reads bytes) e
  where
    go : {l : List ℕ} {x : Next} → Reads l x → x ≡ ended → l ≡ []
    go nothing e = refl
    go (unknown u) e = absurd (ended_refused e refl)
    go (cut known short) e = absurd (ended_refused e refl)
    go (whole known there says) e = absurd (taken_ended refl e)

-- ---- the next command on a tree

-- an empty stream is at its end
pub next_nothing : (t : Tree) → next t [] ≡ ended
unfolding next
next_nothing t = rw read_nothing

-- what is refused as it is written is refused
pub next_unread : (t : Tree) (bytes : List ℕ) {k : ℕ} → read_next bytes ≡ refused k → next t bytes ≡ refused k
unfolding next
next_unread t bytes e = rw e

-- a command that is refused on the tree
pub next_refuses : (t : Tree) (bytes : List ℕ) {c : Command} {size k : ℕ} → read_next bytes ≡ taken c size → refusal t c ≡ k → (k ≡ 0 → ⊥)
    → next t bytes ≡ refused k
unfolding next
next_refuses t bytes {k = k} e off other = rw (e, off, ne_eqb k 0 other)

-- a command that is taken
pub next_takes : (t : Tree) (bytes : List ℕ) {c : Command} {size : ℕ} → read_next bytes ≡ taken c size → refusal t c ≡ 0
    → next t bytes ≡ taken c size
unfolding next
next_takes t bytes e ok = rw (e, ok)

-- what may stand next on a tree
pub data Nexts (t : Tree) (bytes : List ℕ) : Next → Type 0 where
  at_end : bytes ≡ [] → Nexts t bytes ended
  unread : {k : ℕ} → read_next bytes ≡ refused k → Nexts t bytes (refused k)
  forbidden : {c : Command} {size k : ℕ} → read_next bytes ≡ taken c size → refusal t c ≡ k → (k ≡ 0 → ⊥) → Nexts t bytes (refused k)
  allowed : {c : Command} {size : ℕ} → read_next bytes ≡ taken c size → refusal t c ≡ 0 → Nexts t bytes (taken c size)

-- what stands next on a tree is one of these
pub nexts : (t : Tree) (bytes : List ℕ) → Nexts t bytes (next t bytes)
nexts t bytes = go (read_next bytes) refl
  where
    go : (x : Next) → read_next bytes ≡ x → Nexts t bytes (next t bytes)
    go ended e =
        let empty : bytes ≡ [] = read_ended bytes e in
        let end : next t bytes ≡ ended = ap (next t) empty ∙ next_nothing t in
        rw end (at_end empty)
    go (taken c size) e =
        ⊎_elim (λ ok. rw (next_takes t bytes e ok) (allowed e ok))
        (λ other. rw (next_refuses t bytes e refl other) (forbidden e refl other)) (equal_or_not (refusal t c) 0)
    go (refused k) e = rw (next_unread t bytes e) (unread e)

-- what is taken was read, and no refusal holds for it
pub next_taken : (t : Tree) (bytes : List ℕ) {c : Command} {size : ℕ} → next t bytes ≡ taken c size
    → (read_next bytes ≡ taken c size) × (refusal t c ≡ 0)
next_taken t bytes {c} {size} e = go (nexts t bytes) e
  where
    go : {x : Next} → Nexts t bytes x → x ≡ taken c size → (read_next bytes ≡ taken c size) × (refusal t c ≡ 0)
    go (at_end l) e = absurd (taken_ended e refl)
    go (unread r) e = absurd (taken_refused e refl)
    go (forbidden r off other) e = absurd (taken_refused e refl)
    go (allowed {c = d} r ok) e = let same : d ≡ c = cc in (r ∙ e, rw (← same) ok)

-- a refusal is never 0
pub next_refused : (t : Tree) (bytes : List ℕ) {k : ℕ} → next t bytes ≡ refused k → k ≡ 0 → ⊥
next_refused t bytes {k} e = go (nexts t bytes) e
  where
    go : {x : Next} → Nexts t bytes x → x ≡ refused k → k ≡ 0 → ⊥
    go (at_end l) e z = ended_refused refl e
    go (unread {k = j} r) e z = let same : j ≡ k = cc in ⊎_elim (λ five. omega arith) (λ four. omega arith) (read_refused bytes r)
    go (forbidden {k = j} r off other) e z = let same : j ≡ k = cc in other (same ∙ z)
    go (allowed r ok) e z = taken_refused refl e

-- only an empty stream is at its end
pub next_ended : (t : Tree) (bytes : List ℕ) → next t bytes ≡ ended → bytes ≡ []
next_ended t bytes e = go (nexts t bytes) e
  where
    go : {x : Next} → Nexts t bytes x → x ≡ ended → bytes ≡ []
    go (at_end l) e = l
    go (unread r) e = absurd (ended_refused e refl)
    go (forbidden r off other) e = absurd (ended_refused e refl)
    go (allowed r ok) e = absurd (taken_ended refl e)

-- a command that is taken takes one byte at least, and none that is not there
pub next_size : (t : Tree) (bytes : List ℕ) {c : Command} {size : ℕ} → next t bytes ≡ taken c size → (0 < size) × (size ≤ length bytes)
next_size t bytes e = read_size bytes (next_taken t bytes e).0

-- ---- a whole stream

-- two ways on that agree on the command that stands next lead to the same
onward_same : (t : Tree) (x : Next) (go on : Command → ℕ → Outcome) → ((c : Command) (size : ℕ) → x ≡ taken c size → go c size ≡ on c size)
    → onward t x go ≡ onward t x on
onward_same t ended go on same = refl
onward_same t (taken c size) go on same = ap (after c size) (same c size refl)
onward_same t (refused k) go on same = refl

-- fuel for the bytes is enough
load_f_enough : (i j : ℕ) (t : Tree) (bytes : List ℕ) → length bytes ≤ i → length bytes ≤ j → load_f i t bytes ≡ load_f j t bytes
unfolding load_f
load_f_enough zero zero t bytes hi hj = refl
load_f_enough zero (suc j) t [] hi hj = rw (next_nothing t)
load_f_enough zero (suc j) t (op ∷ rest) hi hj = absurd (omega arith)
load_f_enough (suc i) zero t [] hi hj = rw (next_nothing t)
load_f_enough (suc i) zero t (op ∷ rest) hi hj = absurd (omega arith)
load_f_enough (suc i) (suc j) t bytes hi hj =
    onward_same t (next t bytes) (λ c size. load_f i (tree_after t c) (drop size bytes)) (λ c size. load_f j (tree_after t c) (drop size bytes))
    (λ c size e.
    let (some_byte, room) = next_size t bytes e in
    let shorter = length-drop size bytes in
    load_f_enough i j (tree_after t c) (drop size bytes) (omega arith) (omega arith))

-- a stream is what stands next, and then the rest of it on the tree after that
pub load_onward : (t : Tree) (bytes : List ℕ)
    → load t bytes ≡ onward t (next t bytes) (λ c size. load (tree_after t c) (drop size bytes))
unfolding load load_f
load_onward t [] = rw (next_nothing t)
load_onward t (op ∷ rest) =
    onward_same t (next t (op ∷ rest)) (λ c size. load_f (length rest) (tree_after t c) (drop size (op ∷ rest)))
    (λ c size. load (tree_after t c) (drop size (op ∷ rest)))
    (λ c size e.
    let (some_byte, room) = next_size t (op ∷ rest) e in
    let shorter = length-drop size (op ∷ rest) in
    load_f_enough (length rest) (length (drop size (op ∷ rest))) (tree_after t c) (drop size (op ∷ rest)) (omega arith) (omega arith))

-- at its end nothing more is taken
pub load_end : (t : Tree) (bytes : List ℕ) → next t bytes ≡ ended → load t bytes ≡ stopped 0 t
load_end t bytes e = load_onward t bytes ∙ rw e

-- nor at a command that is refused
pub load_refused : (t : Tree) (bytes : List ℕ) {k : ℕ} → next t bytes ≡ refused k → load t bytes ≡ stopped k t
load_refused t bytes e = load_onward t bytes ∙ rw e

-- a command that is taken comes before what is taken of the rest
pub load_taken : (t : Tree) (bytes : List ℕ) {c : Command} {size : ℕ} → next t bytes ≡ taken c size
    → load t bytes ≡ after c size (load (tree_after t c) (drop size bytes))
load_taken t bytes e = load_onward t bytes ∙ rw e

-- what holds where nothing is taken, and of a command before what it holds of, holds of every stream
pub load_induction : (P : Tree → List ℕ → Outcome → Type 0) → ((t : Tree) → P t [] (stopped 0 t))
    → ((t : Tree) (bytes : List ℕ) (k : ℕ) → next t bytes ≡ refused k → P t bytes (stopped k t))
    → ((t : Tree) (bytes : List ℕ) (c : Command) (size : ℕ) (o : Outcome) → next t bytes ≡ taken c size
    → P (tree_after t c) (drop size bytes) o → P t bytes (after c size o))
    → (t : Tree) (bytes : List ℕ) → P t bytes (load t bytes)
load_induction P empty refusing taking t bytes = go (length bytes) t bytes (omega arith)
  where
    step : (t : Tree) (bytes : List ℕ) (x : Next) → next t bytes ≡ x
        → ((c : Command) (size : ℕ) → x ≡ taken c size → P (tree_after t c) (drop size bytes) (load (tree_after t c) (drop size bytes)))
        → P t bytes (load t bytes)
    step t bytes ended e rest = rw (load_end t bytes e, next_ended t bytes e) (empty t)
    step t bytes (taken c size) e rest =
        rw (load_taken t bytes e) (taking t bytes c size (load (tree_after t c) (drop size bytes)) e (rest c size refl))
    step t bytes (refused k) e rest = rw (load_refused t bytes e) (refusing t bytes k e)

    go : (fuel : ℕ) (t : Tree) (bytes : List ℕ) → length bytes ≤ fuel → P t bytes (load t bytes)
    go zero t bytes room = step t bytes (next t bytes) refl (λ c size e. absurd (omega (arith, next_size t bytes e)))
    go (suc fuel) t bytes room =
        step t bytes (next t bytes) refl
        (λ c size e.
        let (some_byte, fits) = next_size t bytes e in
        let shorter = length-drop size bytes in
        go fuel (tree_after t c) (drop size bytes) (omega arith))
