-- Two trees that are alike but for what is below one node: what they share. Assumes nothing.
use mathlib.Core.Path.{◌≡◌, refl, sym, ◌∙◌, ap, ap₂, subst}
use mathlib.Core.Logic.{◌⊎◌, inl, inr, ⊎_elim}
use mathlib.Core.Bool.{Bool, true, false, cond, not, ◌&&◌, ◌||◌, or-false}
use mathlib.Core.Option.{Option, none, some}
use Prim.Native.Nat.{ℕ}
use lib.Dec.{eqb}
use borrow.Author.Tests.{ne_eqb}
use Rattle.definitions.specs.Basics.{option, unless, put, any_of}
use Rattle.definitions.specs.Tree.{Tree, Transition, Sound, on_hold, within, unless_into}
use Rattle.definitions.specs.Step.{enter, counting, found, past, climb}
use Rattle.definitions.specs.Edit.{held_within}
use Rattle.definitions.proofs.Options.{unless_some, some_same, equal_or_not, put_other}
use Rattle.definitions.proofs.Path.{Deep, at_root, under, root_holder, path_on, path_root, Inside, own, deeper, climb_own, climb_top, climb_on, counting_owned, passed_found, past_found}
use Rattle.definitions.proofs.Path.{Enters, plain, down, enter_plain, enter_down}
use Rattle.definitions.specs.Replaced.{beneath, pruned}

-- node d is in use and no node above it is n: it is not below n, but may be n itself
pub data Out (t : Tree) (n : ℕ) : ℕ → Type 0 where
  rooted : {d p : ℕ} → t.owner d ≡ some p → p ≡ t.root → Out t n d
  upper : {d p h : ℕ} → t.owner d ≡ some p → t.holder p ≡ some h → (h ≡ n → ⊥) → Out t n h → Out t n d

-- the machine of such a node
pub out_owner : {t : Tree} {n d : ℕ} → Out t n d → (p : ℕ) × (t.owner d ≡ some p)
out_owner (rooted {p = p} o e) = (p, o)
out_owner (upper {p = p} o hold other up) = (p, o)

-- its siblings are such nodes too
pub out_sibling : {t : Tree} {n d v p : ℕ} → Out t n d → t.owner d ≡ some p → t.owner v ≡ some p → Out t n v
out_sibling {t} {v = v} (rooted {p = q} o e) mine f =
    let there : t.owner v ≡ some q = cc in
    rooted there e
out_sibling {t} {v = v} (upper {p = q} o hold other up) mine f =
    let there : t.owner v ≡ some q = cc in
    upper there hold other up

and_not : (b : Bool) → (b && not b) ≡ false
and_not true = refl
and_not false = refl

-- of such nodes n alone is within n
pub out_within : {t : Tree} → Sound t → {n d : ℕ} → Out t n d → within t n d ≡ eqb n d
unfolding within any_of
out_within {t} sound {n} {d} (rooted o e) =
    let free : t.holder t.root ≡ none = sound.root_free in
    rw (path_root t o (ap t.holder e ∙ free)) (or-false (eqb n d))
out_within {t} sound {n} {d} (upper {h = h} o hold other up) =
    rw (path_on sound o hold) (ap (λ (b : Bool). eqb n d || b) (out_within sound up ∙ ne_eqb n h (λ same. other (sym same))) ∙ or-false (eqb n d))

pub out_beneath : {t : Tree} → Sound t → {n d : ℕ} → Out t n d → beneath t n d ≡ false
out_beneath {t} sound {n} {d} out = ap (λ (b : Bool). b && not (eqb n d)) (out_within sound out) ∙ and_not (eqb n d)

-- nor is the machine of such a node held within n
pub out_held : {t : Tree} → Sound t → {n d p : ℕ} → Out t n d → t.owner d ≡ some p → held_within t n p ≡ false
out_held {t} sound {n} {d} {p} (rooted {p = q} o e) mine =
    let same : p ≡ q = cc in
    let free : t.holder p ≡ none = ap t.holder (same ∙ e) ∙ sound.root_free in
    ap (option false (within t n)) free
out_held {t} sound {n} {d} {p} (upper {p = q} {h = h} o hold other up) mine =
    let same : p ≡ q = cc in
    ap (option false (within t n)) (ap t.holder same ∙ hold) ∙ out_within sound up ∙ ne_eqb n h (λ e. other (sym e))

-- every node in use is such a node or inside the machine below n
pub out_or_inside : {t : Tree} → Sound t → {n m : ℕ} → t.below n ≡ some m → {d p k : ℕ} → t.owner d ≡ some p → Deep t p k → Out t n d ⊎ Inside t m d
out_or_inside sound bel o (at_root e) = inl (rooted o e)
out_or_inside {t} sound {n} {m} bel {d} {p} o (under {h = h} hold up deeper_still) =
    ⊎_elim
    (λ same.
    let held : t.below n ≡ some p = subst (λ (j : ℕ). t.below j ≡ some p) same (sound.held_below p h hold) in
    let here : t.owner d ≡ some m = cc in
    inr (own here))
    (λ other.
    ⊎_elim (λ out. inl (upper o hold other out))
    (λ inner.
    ⊎_elim (λ same. let here : t.owner d ≡ some m = cc in inr (own here)) (λ apart. inr (deeper o apart hold inner)) (equal_or_not p m))
    (out_or_inside sound bel up deeper_still))
    (equal_or_not h n)

-- what a climb from such a node finds leads to such a node
found_own : {t : Tree} → Sound t → {n d : ℕ} → Out t n d → (x : ℕ) (o : Option Transition) → counting t d x ≡ o → {w v c : ℕ} → climb t t.root d x ≡ found w v c
    → (counting t d x ≡ none → Out t n v) → Out t n v
found_own {t} sound {n} {d} out x (some a) has {v = v} e on =
    let (p, o) = out_owner out in
    let first = climb_own t t.root d x a has in
    let target : a.target ≡ v = cc in
    out_sibling out o (subst (λ (w : ℕ). t.owner w ≡ some p) target (counting_owned sound d x a has o))
found_own sound out x none has e on = on has

pub out_found : {t : Tree} → Sound t → {n d : ℕ} → Out t n d → (x : ℕ) {w v c : ℕ} → climb t t.root d x ≡ found w v c → Out t n v
out_found {t} sound {n} {d} (rooted o e) x found_it =
    found_own sound (rooted o e) x (counting t d x) refl found_it (λ no. absurd (passed_found (climb_top t t.root d x (o ∙ ap some e) no) found_it))
out_found {t} sound {n} {d} (upper {p = p} {h = h} o hold other up) x found_it =
    found_own sound (upper o hold other up) x (counting t d x) refl found_it
    (λ no.
    let on = climb_on sound t.root x o (λ same. root_holder sound same hold) hold no in
    let (c, above, sum) = past_found (t.leave p) (climb t t.root h x) (sym on ∙ found_it) in
    out_found sound up x above)

-- such a node is not inside the machine below n
pub out_inside : {t : Tree} → Sound t → {n m d : ℕ} → t.below n ≡ some m → Out t n d → Inside t m d → ⊥
out_inside {t} sound {n} {m} bel (rooted {p = p} o e) (own f) =
    let same : m ≡ p = cc in
    root_holder sound (same ∙ e) (sound.below_held n m bel)
out_inside {t} sound {n} {m} bel (upper {p = p} {h = h} o hold other up) (own f) =
    let same : m ≡ p = cc in
    let held : t.holder p ≡ some n = subst (λ (q : ℕ). t.holder q ≡ some n) same (sound.below_held n m bel) in
    other (some_same hold held)
out_inside sound bel (rooted {p = p} o e) (deeper {m = q} f apart hold inner) =
    let same : q ≡ p = cc in
    root_holder sound (same ∙ e) hold
out_inside {t} sound {n} {m} bel (upper {p = p} {h = h} o hold other up) (deeper {m = q} {h = g} f apart held inner) =
    let same : g ≡ h = cc in
    out_inside sound bel up (subst (Inside t m) same inner)

-- ---- what two trees share that are the same but for what is below n

module _ {t u : Tree} (sound : Sound t) (sound_too : Sound u) (n : ℕ) (alike : pruned t n ≡ pruned u n) where
  -- a record of t that is kept is a record of u
  kept : {A : Type 0} (b c : Bool) (o p : Option A) {a : A} → unless b o ≡ unless c p → b ≡ false → o ≡ some a → (c ≡ false) × (p ≡ some a)
  kept b c o p same out e = unless_some c p (sym same ∙ ap (λ (d : Bool). unless d o) out ∙ e)

  owner_shared : (d : ℕ) → unless (beneath t n d) (t.owner d) ≡ unless (beneath u n d) (u.owner d)
  unfolding pruned
  owner_shared d = ap (λ (w : Tree). w.owner d) alike

  below_shared : (d : ℕ) → put (λ j. unless (beneath t n j) (t.below j)) n none d ≡ put (λ j. unless (beneath u n j) (u.below j)) n none d
  unfolding pruned
  below_shared d = ap (λ (w : Tree). w.below d) alike

  start_shared : (m : ℕ) → unless (held_within t n m) (t.start m) ≡ unless (held_within u n m) (u.start m)
  unfolding pruned
  start_shared m = ap (λ (w : Tree). w.start m) alike

  holder_shared : (m : ℕ) → unless (held_within t n m) (t.holder m) ≡ unless (held_within u n m) (u.holder m)
  unfolding pruned
  holder_shared m = ap (λ (w : Tree). w.holder m) alike

  transition_shared : (d x : ℕ) → unless (beneath t n d) (t.transition d x) ≡ unless (beneath u n d) (u.transition d x)
  unfolding pruned
  transition_shared d x = ap (λ (w : Tree). w.transition d x) alike

  hold_shared : (d : ℕ) → cond (beneath t n d) 0 (t.hold d) ≡ cond (beneath u n d) 0 (u.hold d)
  unfolding pruned
  hold_shared d = ap (λ (w : Tree). w.hold d) alike

  leave_shared : (m : ℕ) → cond (held_within t n m) 0 (t.leave m) ≡ cond (held_within u n m) 0 (u.leave m)
  unfolding pruned
  leave_shared m = ap (λ (w : Tree). w.leave m) alike

  root_shared : t.root ≡ u.root
  unfolding pruned
  root_shared = ap (λ (w : Tree). w.root) alike

  -- a node that is not below n in t is not in u, with the same owner
  pub out_owned : {d p : ℕ} → Out t n d → t.owner d ≡ some p → u.owner d ≡ some p
  out_owned {d} out o = (kept (beneath t n d) (beneath u n d) (t.owner d) (u.owner d) (owner_shared d) (out_beneath sound out) o).1

  pub out_too : {d : ℕ} → Out t n d → Out u n d
  out_too {d} (rooted o e) = rooted (out_owned (rooted o e) o) (e ∙ root_shared)
  out_too {d} (upper {p = p} o hold other up) =
      let out = upper o hold other up in
      upper (out_owned out o)
      (kept (held_within t n p) (held_within u n p) (t.holder p) (u.holder p) (holder_shared p) (out_held sound out o) hold).1 other (out_too up)

  -- the same transition
  out_transition : {d : ℕ} → Out t n d → (x : ℕ) → t.transition d x ≡ u.transition d x
  out_transition {d} out x =
      ap (λ (b : Bool). unless b (t.transition d x)) (sym (out_beneath sound out))
      ∙ transition_shared d x
      ∙ ap (λ (b : Bool). unless b (u.transition d x)) (out_beneath sound_too (out_too out))

  out_hold : {d : ℕ} → Out t n d → t.hold d ≡ u.hold d
  out_hold {d} out =
      ap (λ (b : Bool). cond b 0 (t.hold d)) (sym (out_beneath sound out))
      ∙ hold_shared d
      ∙ ap (λ (b : Bool). cond b 0 (u.hold d)) (out_beneath sound_too (out_too out))

  -- the same machine: its start and what leaving it costs
  out_start : {d p : ℕ} → Out t n d → t.owner d ≡ some p → t.start p ≡ u.start p
  out_start {d} {p} out o =
      ap (λ (b : Bool). unless b (t.start p)) (sym (out_held sound out o))
      ∙ start_shared p
      ∙ ap (λ (b : Bool). unless b (u.start p)) (out_held sound_too (out_too out) (out_owned out o))

  out_leave : {d p : ℕ} → Out t n d → t.owner d ≡ some p → t.leave p ≡ u.leave p
  out_leave {d} {p} out o =
      ap (λ (b : Bool). cond b 0 (t.leave p)) (sym (out_held sound out o))
      ∙ leave_shared p
      ∙ ap (λ (b : Bool). cond b 0 (u.leave p)) (out_held sound_too (out_too out) (out_owned out o))

  -- and but for n the same machine below
  pub out_below : {d : ℕ} → Out t n d → (d ≡ n → ⊥) → t.below d ≡ u.below d
  out_below {d} out other =
      ap (λ (b : Bool). unless b (t.below d)) (sym (out_beneath sound out))
      ∙ sym (put_other (λ j. unless (beneath t n j) (t.below j)) n none d other)
      ∙ below_shared d
      ∙ put_other (λ j. unless (beneath u n j) (u.below j)) n none d other
      ∙ ap (λ (b : Bool). unless b (u.below d)) (out_beneath sound_too (out_too out))

  -- the same transition counts
  pub out_counting : {d : ℕ} → Out t n d → (x : ℕ) → counting t d x ≡ counting u d x
  unfolding counting
  out_counting {d} out x = go (t.transition d x) refl ∙ ap (unless_into (on_hold u)) (out_transition out x)
    where
      go : (o : Option Transition) → t.transition d x ≡ o → unless_into (on_hold t) (t.transition d x) ≡ unless_into (on_hold u) (t.transition d x)
      go none e = rw e
      go (some a) e =
          let (p, o, to) = sound.transition_owned d x a e in
          let held : t.hold a.target ≡ u.hold a.target = out_hold (out_sibling out o to) in
          rw (e, held)

  -- the transition of a node is found in both, or the climb goes on in both
  own_or_on : {d : ℕ} → Out t n d → (x : ℕ) (o : Option Transition) → counting t d x ≡ o
      → (counting t d x ≡ none → counting u d x ≡ none → climb t t.root d x ≡ climb u u.root d x) → climb t t.root d x ≡ climb u u.root d x
  own_or_on {d} out x (some a) e on = climb_own t t.root d x a e ∙ sym (climb_own u u.root d x a (sym (out_counting out x) ∙ e))
  own_or_on {d} out x none e on = on e (sym (out_counting out x) ∙ e)

  -- so the same is found on the way up
  pub out_climb : {d : ℕ} → Out t n d → (x : ℕ) → climb t t.root d x ≡ climb u u.root d x
  out_climb {d} (rooted o e) x =
      let out = rooted o e in
      own_or_on out x (counting t d x) refl
      (λ no too.
      climb_top t t.root d x (o ∙ ap some e) no
      ∙ sym (climb_top u u.root d x (out_owned out o ∙ ap some (e ∙ root_shared)) too))
  out_climb {d} (upper {p = p} {h = h} o hold other up) x =
      let out = upper o hold other up in
      let held = (kept (held_within t n p) (held_within u n p) (t.holder p) (u.holder p) (holder_shared p) (out_held sound out o) hold).1 in
      own_or_on out x (counting t d x) refl
      (λ no too.
      climb_on sound t.root x o (λ same. root_holder sound same hold) hold no
      ∙ ap₂ past (out_leave out o) (out_climb up x)
      ∙ sym (climb_on sound_too u.root x (out_owned out o) (λ same. root_holder sound_too same held) held too))

  -- a node that is not below n is entered at one state in both, or in both by way of n
  abbrev pub EnterBoth : ℕ → Type 0
  EnterBoth v = ((e : ℕ) × (enter t v ≡ some e) × (enter u v ≡ some e) × Out t n e × (e ≡ n → ⊥)) ⊎ ((enter t v ≡ enter t n) × (enter u v ≡ enter u n))

  pub enter_both : {v e : ℕ} → Out t n v → Enters t v e → EnterBoth v
  enter_both {v} out (plain b) =
      ⊎_elim (λ same. inr (ap (enter t) same, ap (enter u) same))
      (λ other. inl (v, enter_plain t v b, enter_plain u v (sym (out_below out other) ∙ b), out, other)) (equal_or_not v n)
  enter_both {v} out (down {b = b} {f = f} bel st en) =
      ⊎_elim (λ same. inr (ap (enter t) same, ap (enter u) same))
      (λ other.
      let (p, o) = out_owner out in
      let lower : Out t n f = upper (sound.start_owned b f st) (sound.below_held v b bel) other out in
      let there = enter_down sound o bel st in
      let st_too : u.start b ≡ some f = sym (out_start lower (sound.start_owned b f st)) ∙ st in
      let too = enter_down sound_too (out_owned out o) (sym (out_below out other) ∙ bel) st_too in
      ⊎_elim (λ (e, one, two, at, apart). inl (e, there ∙ one, too ∙ two, at, apart)) (λ (one, two). inr (there ∙ one, too ∙ two)) (enter_both lower en))
      (equal_or_not v n)
