-- `search::relax_all` meets its contract: the moves of the commands passed are relaxed. Assumes nothing.
use mathlib.Core.Path.{sym, ◌∙◌, ap}
use mathlib.Core.Option.{some}
use Prim.Native.Nat.{ℕ, ◌+◌, ◌*◌}
use native.Mathlib.Omega.{arith}
use lib.ListN.{get_or}
use Rattle.definitions.specs.Limits.{commands}
use Rattle.search.specs.Search.{row_move}
use Rattle.search.proofs.Reading.{row_is, row_none}
use Rattle.search.proofs.Stores.{change_less, Leads, along, nowhere, relaxed_more, leads_range, leads_inside}
use Rattle.search.proofs.Listing.{listing_room, goes}
use Rattle.search.proofs.relax_all.Goals.{Joined-t-eq-ABSENT, then-t-eq-ABSENT, else-t-eq-ABSENT}
use Rattle.search.proofs.relax_all.Goals as goal

-- where the command in hand leads
leads : (c : Joined-t-eq-ABSENT)
    → let a = c.args in
    Leads (row_move a.target.now a.price.now a.u) a.u c.loop-x.x c.if-t-eq-ABSENT.v (get_or a.price.now (commands * a.u + c.loop-x.x) 0)
leads c =
    let a = c.args in
    let p = get_or a.price.now (commands * a.u + c.loop-x.x) 0 in
    let same = c.word-t.ensures in
    elim c.if-t-eq-ABSENT.branch [
      | then-t-eq-ABSENT w ↦ nowhere (row_none a.target.now a.price.now a.u c.loop-x.x (sym same ∙ w.if-t-eq-ABSENT.true)) w.v-is
      | else-t-eq-ABSENT w ↦
          along
          (row_is a.target.now a.price.now a.u c.loop-x.x (omega (arith, c.loop-x-test.true))
          (λ e. w.if-t-eq-ABSENT.false (same ∙ e))
          ∙ ap (λ (v : ℕ). some (record { node = v; cost = p })) (sym (w.v-is ∙ same)))
    ]

pub bounds-dist-v : goal.bounds-dist-v
bounds-dist-v c =
    omega (arith, leads_inside c.requires.0 (leads (goal.at.bounds-dist-v c).Joined-t-eq-ABSENT), c.loop-x.auto.dist)

pub list-listed-requires : goal.list-listed-requires
list-listed-requires c =
    let p = c.requires in
    (omega (arith, p.2, c.loop-x.auto.order), listing_room c.loop-x.invariant.1 (leads_range p.0 (leads (goal.at.list-listed-requires c).Joined-t-eq-ABSENT)))

pub relax-requires : goal.relax-requires
relax-requires c =
    let inside = leads_inside c.requires.0 (leads (goal.at.relax-requires c).Joined-t-eq-ABSENT) in
    let same = c.loop-x.auto in
    (omega (arith, inside, same.dist), omega (arith, inside, same.before), omega (arith, inside, same.by))

pub loop-x-preserved : goal.loop-x-preserved
loop-x-preserved c =
    let p = c.requires in
    let i = c.loop-x.invariant in
    let same = c.loop-x.auto in
    let to = leads (goal.at.loop-x-preserved c).Joined-t-eq-ABSENT in
    let room = leads_inside p.0 to in
    let step =
    goes c.loop-x.dist c.loop-x.order i.1 i.2 (change_less (i.0.each _)) (leads_range p.0 to) (omega (arith, room, same.dist))
    (omega (arith, p.2, same.order)) (omega (arith, p.0.near, c.price_at.ensures.0)) c.relax.ensures.0
    (c.list-listed.ensures.0, c.list-listed.ensures.1) in (
      relaxed_more to c.loop-x.dist c.loop-x.before c.loop-x.by c.relax.new.dist c.relax.new.before c.relax.new.by
          (omega (arith, room, same.dist), omega (arith, room, same.before), omega (arith, room, same.by)) i.0 (omega arith)
          (λ move. omega (arith, c.price_at.ensures.1 (p.0.cheap _ _ move)))
          (c.relax.ensures.0, c.relax.ensures.1, c.relax.ensures.2),
      step.0,
      step.1,
    )
