-- `flattening::inherit_at` meets its contract: a machine that is held at the level has its row. Assumes nothing.
use mathlib.Core.Path.{◌∙◌, ap}
use native.Mathlib.Omega.{arith}
use Rattle.definitions.specs.Tree.{level}
use Rattle.definitions.specs.Book.{tree_of}
use Rattle.definitions.proofs.Options.{none_some, some_same}
use Rattle.definitions.proofs.Words.{no_holder, present_word}
use Rattle.flattening.proofs.Laws.{handed_off}
use Rattle.flattening.proofs.inherit_at.Goals as goal

pub returns-then-h-eq-ABSENT : goal.returns-then-h-eq-ABSENT
returns-then-h-eq-ABSENT c =
    let t = tree_of c.args.book.now in
    let top = no_holder t c.requires.0.sound c.args.m c.holder-h.ensures c.if-h-eq-ABSENT.true in
    handed_off c.args.m c.args.up.now (λ (h, hold, at). none_some top hold)

pub level-requires : goal.level-requires
level-requires c =
    let t = tree_of c.args.book.now in
    (c.requires.0, c.requires.0.sound.holder_used c.args.m c.holder-h.result (present_word (t.holder c.args.m) c.holder-h.ensures c.if-h-eq-ABSENT.false))

pub returns-then-level-l : goal.returns-then-level-l
returns-then-level-l c =
    let t = tree_of c.args.book.now in
    let held = present_word (t.holder c.args.m) c.holder-h.ensures c.if-h-eq-ABSENT.false in
    handed_off c.args.m c.args.up.now (λ (h, hold, at). c.if-level-l.true (c.level.ensures ∙ ap (level t) (some_same held hold) ∙ at))

pub inherit-requires : goal.inherit-requires
inherit-requires c =
    let t = tree_of c.args.book.now in
    let held = present_word (t.holder c.args.m) c.holder-h.ensures c.if-h-eq-ABSENT.false in
    let used = c.requires.0.sound.holder_used c.args.m c.holder-h.result held in
    (c.requires.0, c.requires.1, c.requires.2, held, c.requires.4 c.holder-h.result used (omega (arith, c.level.ensures, c.if-level-l.false)))
