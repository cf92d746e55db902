-- `choosing::looked_at` meets its contract: a list longer than what is looked at is cut. Assumes nothing.
use mathlib.Core.Path.{◌≡◌, ap, ◌∙◌}
use Prim.Native.Nat.{ℕ, min}
use native.Mathlib.Omega.{arith}
use lib.ListN.{length, take}
use Rattle.std.proofs.lemmas.List.{take_min}
use Rattle.definitions.specs.Limits.{longest_list}
use Rattle.choosing.proofs.looked_at.Goals as goal

pub returns : goal.returns
returns c =
    let cut : c.min.result ≡ min longest_list (length c.args.list.now) = omega (arith, c.min.ensures) in
    ap (λ (n : ℕ). take n c.args.list.now) cut ∙ take_min longest_list c.args.list.now
