-- `truesheet::true_sheet` meets its contract: a list of the right length is a true sheet exactly where machines, nodes and chains fit.
-- Assumes nothing.
use mathlib.Core.Path.{◌≡◌}
use native.Mathlib.Omega.{arith}
use lib.ListN.{length}
use Rattle.definitions.specs.Limits.{sheet_length}
use Rattle.book.proofs.Decide.{passed, refused, decides_same}
use Rattle.sheet.proofs.Reading.{rows_of_read}
use Rattle.truesheet.proofs.Fits.{names_fit, true_fits}
use Rattle.std.proofs.lemmas.Bool.{not_from_false, not_from_true}
use Rattle.truesheet.proofs.true_sheet.Goals as goal

pub returns-then-not-machines_fit : goal.returns-then-not-machines_fit
returns-then-not-machines_fit c =
    let long : length c.args.sheet.now ≡ sheet_length = omega arith in
    let m = c.machines_fit in
    λ sheet. refused m.result m.ensures (not_from_false _ c.if-not-machines_fit.true) ((true_fits c.requires.sound long).0 sheet).0

pub returns-then-not-nodes_fit : goal.returns-then-not-nodes_fit
returns-then-not-nodes_fit c =
    let long : length c.args.sheet.now ≡ sheet_length = omega arith in
    let n = c.nodes_fit in
    λ sheet. refused n.result n.ensures (not_from_false _ c.if-not-nodes_fit.true) ((true_fits c.requires.sound long).0 sheet).1

pub chains_fit-requires : goal.chains_fit-requires
chains_fit-requires c =
    let n = c.nodes_fit in
    let nodes = passed n.result n.ensures (not_from_true _ c.if-not-nodes_fit.false) in
    record { long = omega arith; names = names_fit c.requires.sound (rows_of_read c.args.sheet.now) nodes }

pub returns : goal.returns
returns c =
    let long : length c.args.sheet.now ≡ sheet_length = omega arith in
    let m = c.machines_fit in
    let n = c.nodes_fit in
    let machines = passed m.result m.ensures (not_from_true _ c.if-not-machines_fit.false) in
    let nodes = passed n.result n.ensures (not_from_true _ c.if-not-nodes_fit.false) in
    let both = true_fits c.requires.sound long in
    decides_same c.chains_fit.result (λ chains. both.1 (machines, nodes, chains)) (λ sheet. (both.0 sheet).2) c.chains_fit.ensures
