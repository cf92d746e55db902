-- General laws of the tools in Basics: values that may be absent, lists that are given place by place, and tables of records that lie
-- one after the other.
-- Assumes nothing.
use mathlib.Core.Path.{◌≡◌, refl, ap, ap₂, ◌∙◌}
use mathlib.Core.Option.{Option, none, some}
use mathlib.Core.List.{List, ◌++◌}
use Prim.Native.Nat.{ℕ, zero, suc, ◌+◌, ◌*◌, ◌-◌, ◌/◌, ◌%◌, ◌≤◌, ◌<◌}
use native.Mathlib.Nat.{not-suc-le-zero, le_of_suc-le-suc, zero-lt-suc}
use native.Mathlib.Nat.{div-add-mod', mod-lt, div-lt_iff_lt-mul}
use native.Mathlib.Omega.{arith}
use lib.Arith.{digits_lt, digits_div, digits_mod}
use lib.ListN.{length, get_or, get_or-append}
use lib.Seq.{get_or-append-add}
use Rattle.definitions.specs.Basics.{tabulate}

-- ---- values that may be absent

-- what has no value is none
pub no_value : {A : Type 0} (o : Option A) → ((a : A) → o ≡ some a → ⊥) → o ≡ none
no_value none h = refl
no_value (some a) h = absurd (h a refl)

-- ---- tabulate

-- a list of k places has k elements
pub tabulate_length : {A : Type 0} (k : ℕ) (f : ℕ → A) → length (tabulate k f) ≡ k
unfolding tabulate
tabulate_length zero f = refl
tabulate_length (suc k) f = ap suc (tabulate_length k (λ i. f (suc i)))

-- place i of the list holds f i
pub tabulate_at : {A : Type 0} (k : ℕ) (f : ℕ → A) (i : ℕ) (d : A) → i < k → get_or (tabulate k f) i d ≡ f i
unfolding tabulate
tabulate_at zero f i d h = absurd (not-suc-le-zero h)
tabulate_at (suc k) f zero d h = refl
tabulate_at (suc k) f (suc i) d h = tabulate_at k (λ j. f (suc j)) i d (le_of_suc-le-suc h)

-- ---- tables of records

-- `count` records of `width` elements, one after the other: element k of record i is `field i k`
abbrev pub table : {A : Type 0} → ℕ → ℕ → (ℕ → ℕ → A) → List A
table width count field = tabulate (count * width) (λ i. field (i / width) (i % width))

-- a table is as long as its records together
pub table_length : {A : Type 0} (width count : ℕ) (field : ℕ → ℕ → A) → length (table width count field) ≡ count * width
table_length width count field = tabulate_length (count * width) (λ i. field (i / width) (i % width))

-- the table gives each element of each record back
pub table_at : {A : Type 0} (width count : ℕ) (field : ℕ → ℕ → A) (i k : ℕ) (d : A) → i < count → k < width
    → get_or (table width count field) (i * width + k) d ≡ field i k
table_at width count field i k d hi hk =
    tabulate_at (count * width) (λ j. field (j / width) (j % width)) (i * width + k) d (digits_lt hi hk)
    ∙ ap₂ field (digits_div i hk) (digits_mod i hk)

-- and so does a list in which the table stands behind `base` other elements, whatever follows it
pub section_at : {A : Type 0} (width count : ℕ) (field : ℕ → ℕ → A) (before after : List A) (base i k : ℕ) (d : A)
    → length before ≡ base → i < count → k < width
    → get_or (before ++ (table width count field ++ after)) (base + i * width + k) d ≡ field i k
section_at width count field before after base i k d e hi hk =
    let rows = table width count field in
    let at : base + i * width + k ≡ length before + (i * width + k) = omega arith in
    let inside : i * width + k < length rows = omega (arith, table_length width count field, digits_lt hi hk) in
    rw at
    (get_or-append-add before (rows ++ after) (i * width + k) d
    ∙ get_or-append rows after d (i * width + k) inside
    ∙ table_at width count field i k d hi hk)

-- two lists that agree at each element of each record of a section agree at every place of the section
pub section_same : {A : Type 0} (width count base : ℕ) (v w : List A) (d : A)
    → ((i k : ℕ) → i < count → k < width → get_or v (base + i * width + k) d ≡ get_or w (base + i * width + k) d)
    → (j : ℕ) → base ≤ j → j < base + count * width → get_or v j d ≡ get_or w j d
section_same zero count base v w d h j lo hi = absurd (omega arith)
section_same (suc width) count base v w d h j lo hi =
    let i : ℕ = (j - base) / suc width in
    let k : ℕ = (j - base) % suc width in
    let here : base + i * suc width + k ≡ j = omega (arith, div-add-mod' (j - base) (suc width)) in
    let record_inside : i < count = (div-lt_iff_lt-mul (zero-lt-suc width)).1 (omega arith) in
    rw here at (h i k record_inside (mod-lt (j - base) (zero-lt-suc width)))
