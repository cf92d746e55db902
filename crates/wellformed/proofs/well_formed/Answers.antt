-- `wellformed::well_formed` meets its contract: a book of the right length is well formed exactly where its root, machines and nodes fit.
-- Assumes nothing.
use mathlib.Core.Path.{◌≡◌}
use native.Mathlib.Omega.{arith}
use lib.ListN.{length}
use Rattle.definitions.specs.Limits.{book_length}
use Rattle.book.proofs.Decide.{passed, refused, decides_same}
use Rattle.wellformed.proofs.Fits.{sound_fits}
use Rattle.wellformed.proofs.Reading.{tree_of_read}
use Rattle.std.proofs.lemmas.Bool.{not_from_false, not_from_true}
use Rattle.wellformed.proofs.well_formed.Goals as goal

pub returns-then-not-machines_fit : goal.returns-then-not-machines_fit
returns-then-not-machines_fit c =
    let ws = c.args.book.now in
    let m = c.machines_fit in
    λ w. refused m.result m.ensures (not_from_false _ c.if-not-machines_fit.true) ((sound_fits (tree_of_read ws)).0 w.sound).1

pub returns : goal.returns
returns c =
    let ws = c.args.book.now in
    let right : length ws ≡ book_length = omega arith in
    decides_same c.nodes_fit.result
    (λ n.
    record {
      length = right;
      sound =
          (sound_fits (tree_of_read ws)).1 (
            passed c.root_fits.result c.root_fits.ensures (not_from_true _ c.if-not-root_fits.false),
            passed c.machines_fit.result c.machines_fit.ensures (not_from_true _ c.if-not-machines_fit.false),
            n,
          );
    })
    (λ w. ((sound_fits (tree_of_read ws)).0 w.sound).2) c.nodes_fit.ensures
