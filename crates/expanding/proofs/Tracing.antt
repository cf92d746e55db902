-- Following names and noting the steps: what holds on the way, at its start, after one name more, and where the names begin. Assumes nothing.
use mathlib.Core.Path.{◌≡◌, refl, sym, ◌∙◌, ap, subst}
use mathlib.Core.Logic.{◌⊎◌, inl, inr}
use mathlib.Core.Option.{Option, none, some}
use mathlib.Core.List.{[], List, ◌++◌, append_assoc, append-nil}
use Prim.Native.Nat.{ℕ, zero, suc, ◌+◌, ◌≤◌, ◌<◌}
use native.Mathlib.Omega.{arith}
use native.Mathlib.Numerals.{add-one}
use lib.ListN.{length, get_or, set, length-set}
use lib.Seq.{get_or-set_same, get_or-set_other}
use Rattle.definitions.specs.Limits.{nodes, commands, longest_chain, absent}
use Rattle.definitions.specs.Book.{word}
use Rattle.definitions.proofs.Options.{equal_or_not, some_same}
use Rattle.definitions.proofs.Words.{present_word, absent_word}
use Rattle.plantheory.specs.Expand.{chain_part}
use Rattle.plantheory.proofs.Chain.{chain_first, chain_next}
use Rattle.expanding.specs.Names.{Traceable}
use Rattle.expanding.specs.Expanding.{leave_part, steps_part, Steps, Traced}
use Rattle.expanding.proofs.Traceable.{traceable_name, traceable_next}

-- ---- the steps in two lists

-- one step more is given before the others
steps_on : (part : ℕ → ℕ → List ℕ) (left given : List ℕ) (k : ℕ)
    → steps_part part left given (suc k) ≡ leave_part part (get_or left k 0) (get_or given k 0) ++ steps_part part left given k
unfolding steps_part
steps_on part left given k = refl

pub steps_down : (part : ℕ → ℕ → List ℕ) (left given : List ℕ) {j k u x : ℕ} → j ≡ suc k → u ≡ get_or left k 0 → x ≡ get_or given k 0
    → steps_part part left given j ≡ leave_part part u x ++ steps_part part left given k
steps_down part left given {j} {k} more node command = rw (more, node, command) (steps_on part left given k)

-- no steps give no commands
pub steps_over : (part : ℕ → ℕ → List ℕ) (left given : List ℕ) (k : ℕ) → k ≤ 0 → steps_part part left given k ≡ []
unfolding steps_part
steps_over part left given zero none_left = refl
steps_over part left given (suc k) none_left = absurd (omega arith)

-- what is stored past the steps changes nothing
steps_kept : (part : ℕ → ℕ → List ℕ) (left given : List ℕ) (i u x k : ℕ) → k ≤ i
    → steps_part part (set left i u) (set given i x) k ≡ steps_part part left given k
unfolding steps_part
steps_kept part left given i u x zero le = refl
steps_kept part left given i u x (suc k) le =
    rw (
      get_or-set_other left i k u 0 (λ e. omega arith),
      get_or-set_other given i k x 0 (λ e. omega arith),
      steps_kept part left given i u x k (omega arith),
    )

-- a step that is stored after the others is given before them
pub steps_stored : (part : ℕ → ℕ → List ℕ) (left given : List ℕ) (u x k : ℕ) → k < length left → k < length given
    → steps_part part (set left k u) (set given k x) (suc k) ≡ leave_part part u x ++ steps_part part left given k
steps_stored part left given u x k fits also =
    steps_on part (set left k u) (set given k x) k
    ∙ rw (get_or-set_same left k u 0 fits, get_or-set_same given k x 0 also, steps_kept part left given k u x k (omega arith))

-- what holds of the places below k and of what is stored at k holds of the places below k + 1
below_stored : (P : ℕ → Type 0) (words : List ℕ) (k w : ℕ) → k < length words → P w → ((i : ℕ) → i < k → P (get_or words i 0))
    → (i : ℕ) → i < suc k → P (get_or (set words k w) i 0)
below_stored P words k w fits here below i less = go (equal_or_not i k)
  where
    go : (i ≡ k) ⊎ (i ≡ k → ⊥) → P (get_or (set words k w) i 0)
    go (inl same) = subst P (sym (ap (λ (j : ℕ). get_or (set words k w) j 0) same ∙ get_or-set_same words k w 0 fits)) here
    go (inr other) = subst P (sym (get_or-set_other words k i w 0 other)) (below i (omega arith))

-- no step stands in lists with room for them
pub steps_none : {left given : List ℕ} → length left ≡ nodes → length given ≡ nodes → Steps left given 0
steps_none left_room given_room =
    record {
      left_room = left_room;
      given_room = given_room;
      small = omega arith;
      node = λ i less. absurd (omega arith);
      command = λ i less. absurd (omega arith);
    }

-- one more
pub steps_more : {left given : List ℕ} {k : ℕ} (u x : ℕ) → Steps left given k → k < nodes → u < nodes → x < commands
    → Steps (set left k u) (set given k x) (suc k)
steps_more {left} {given} {k} u x st room node command =
    record {
      left_room = length-set left k u ∙ st.left_room;
      given_room = length-set given k x ∙ st.given_room;
      small = omega arith;
      node = below_stored (λ v. v < nodes) left k u (omega (arith, st.left_room)) node st.node;
      command = below_stored (λ y. y < commands) given k x (omega (arith, st.given_room)) command st.command;
    }

-- ---- following names

-- With k steps in the lists the names are followed to node v: those that lead to v and then the k steps are those that lead to n and then
-- the j steps that stood there before.
pub record Tracing (before by : ℕ → Option ℕ) (n j : ℕ) (left given : List ℕ) (v k : ℕ) (left' given' : List ℕ) : Type 0 where
  pub ahead : Traceable before by v
  pub room : k + ahead.steps ≤ nodes
  pub more : j ≤ k
  pub steps : Steps left' given' k
  pub whole : (part : ℕ → ℕ → List ℕ)
      → chain_part nodes before by part v ++ steps_part part left' given' k ≡ chain_part nodes before by part n ++ steps_part part left given j

module _ {before by : ℕ → Option ℕ} {n j : ℕ} {left given : List ℕ} where
  pub tracing_none : Traceable before by n → Steps left given j → j + longest_chain ≤ nodes → Tracing before by n j left given n j left given
  tracing_none tr st room =
      record { ahead = tr; room = omega (arith, tr.short); more = omega arith; steps = st; whole = λ part. refl }

  module _ {v k : ℕ} {left' given' : List ℕ} (now : Tracing before by n j left given v k left' given') where
    -- a node with a name finds room for its step
    pub tracing_room : {u : ℕ} → before v ≡ some u → k < nodes
    tracing_room e = let (next, same) = traceable_next before by now.ahead e in omega (arith, now.room, same)

    -- a word other than the one for absent names the next node, and the one for absent says that there is none
    pub tracing_next : {w : ℕ} → w ≡ word (before v) → (w ≡ absent → ⊥) → before v ≡ some w
    tracing_next = present_word (before v)

    pub tracing_over : {w : ℕ} → w ≡ word (before v) → w ≡ absent → before v ≡ none
    tracing_over = absent_word (before v) (λ u e. omega (arith, (traceable_name before by now.ahead e).0))

    -- the step is noted, and its node is the next
    tracing_more : {u x : ℕ} → before v ≡ some u → by v ≡ some x
        → Tracing before by n j left given u (k + 1) (set left' k u) (set given' k x)
    tracing_more {u} {x} e f =
        let (next, same) = traceable_next before by now.ahead e in
        let room : k < nodes = tracing_room e in
        let (range, (y, also, command)) = traceable_name before by now.ahead e in
        let st = now.steps in
        rw (add-one k)
        (record {
          ahead = next;
          room = omega (arith, now.room, same);
          more = omega (arith, now.more);
          steps = steps_more u x st room range (rw (some_same f also) command);
          whole =
              λ part.
              ap (λ (l : List ℕ). chain_part nodes before by part u ++ l)
              (steps_stored part left' given' u x k (omega (arith, st.left_room)) (omega (arith, st.given_room)))
              ∙ sym (append_assoc (chain_part nodes before by part u) (leave_part part u x) (steps_part part left' given' k))
              ∙ ap (λ (l : List ℕ). l ++ steps_part part left' given' k)
              (sym
              (chain_next before by part next.ended next.steps nodes (omega (arith, next.short)) next.way e f))
              ∙ now.whole part;
        })

    -- and so it is where the command is read
    pub tracing_noted : {u x : ℕ} {left'' given'' : List ℕ} → before v ≡ some u → x ≡ word (by v) → left'' ≡ set left' k u → given'' ≡ set given' k x
        → Tracing before by n j left given u (k + 1) left'' given''
    unfolding word
    tracing_noted e same noted also =
        let (y, named, range) = (traceable_name before by now.ahead e).1 in
        rw (noted, also) (tracing_more e (named ∙ ap some (sym (same ∙ ap word named))))

    -- where the names begin all steps are noted
    pub tracing_done : before v ≡ none → Traced before by n j left given k left' given'
    tracing_done e =
        record {
          more = now.more;
          steps = now.steps;
          whole =
              λ part.
              ap (λ (l : List ℕ). l ++ steps_part part left' given' k) (sym (chain_first before by part nodes v e)) ∙ now.whole part;
        }

-- where no steps stood before, the noted ones are the whole chain
pub traced_all : {before by : ℕ → Option ℕ} {n : ℕ} {left given : List ℕ} {k : ℕ} {left' given' : List ℕ} (part : ℕ → ℕ → List ℕ)
    → Traced before by n 0 left given k left' given' → steps_part part left' given' k ≡ chain_part nodes before by part n
traced_all {before} {by} {n} {left} {given} part traced =
    traced.whole part
    ∙ ap (λ (l : List ℕ). chain_part nodes before by part n ++ l) (steps_over part left given 0 (omega arith))
    ∙ append-nil (chain_part nodes before by part n)
