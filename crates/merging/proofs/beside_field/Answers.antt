-- `merging::beside_field` meets its contract: the first book's word, or else the second's at its new number. Assumes nothing.
use mathlib.Core.Path.{◌∙◌}
use native.Mathlib.Omega.{arith}
use Rattle.definitions.specs.Book.{tree_of}
use Rattle.merging.proofs.Beside.{number_at_lem, joins, own_word, none_word, from_under, other_under, moved_number}
use Rattle.merging.proofs.beside_field.Goals as goal

pub returns-then-own-ne-ABSENT : goal.returns-then-own-ne-ABSENT
returns-then-own-ne-ABSENT c =
    let a = c.args in
    λ s.
    own_word (joins a.kind c.requires.0 c.requires.1 s a.k c.requires.5) a.i
    (c.field-own.ensures ∙ number_at_lem a.kind (tree_of a.first.now) a.i a.k c.requires.5) c.if-own-ne-ABSENT.true

pub returns-then-d-eq-ABSENT : goal.returns-then-d-eq-ABSENT
returns-then-d-eq-ABSENT c =
    let a = c.args in
    λ s.
    none_word (joins a.kind c.requires.0 c.requires.1 s a.k c.requires.5) a.i
    (c.field-own.ensures ∙ number_at_lem a.kind (tree_of a.first.now) a.i a.k c.requires.5) c.if-own-ne-ABSENT.false
    (c.requires.2.word a.i c.requires.4) c.if-d-eq-ABSENT.true

pub field-requires : goal.field-requires
field-requires c =
    let a = c.args in (
      c.requires.1,
      from_under (joins a.kind c.requires.0 c.requires.1 0 a.k c.requires.5) a.i
          (c.field-own.ensures ∙ number_at_lem a.kind (tree_of a.first.now) a.i a.k c.requires.5) c.if-own-ne-ABSENT.false
          (c.requires.2.word a.i c.requires.4) c.if-d-eq-ABSENT.false,
      c.requires.5,
    )

pub moved_word-requires : goal.moved_word-requires
moved_word-requires c =
    let a = c.args in
    λ present.
    omega (
      arith,
      c.requires.3.length,
      other_under (joins a.kind c.requires.0 c.requires.1 0 a.k c.requires.5) a.i
          (c.field-own.ensures ∙ number_at_lem a.kind (tree_of a.first.now) a.i a.k c.requires.5) c.if-own-ne-ABSENT.false
          (c.requires.2.word a.i c.requires.4) (c.field.ensures ∙ number_at_lem a.kind (tree_of a.second.now) _ a.k c.requires.5) present,
    )

pub returns : goal.returns
returns c =
    let a = c.args in
    λ s.
    moved_number (joins a.kind c.requires.0 c.requires.1 s a.k c.requires.5) a.i
    (c.field-own.ensures ∙ number_at_lem a.kind (tree_of a.first.now) a.i a.k c.requires.5) c.if-own-ne-ABSENT.false
    (c.requires.2.word a.i c.requires.4) c.if-d-eq-ABSENT.false
    (c.field.ensures ∙ number_at_lem a.kind (tree_of a.second.now) _ a.k c.requires.5) c.requires.3 c.moved_word.ensures
