-- `storing::put_each` meets its contract: each piece is stored where those before it end. Assumes nothing.
use Rattle.storing.proofs.Pieces.{pieces_none, pieces_more}
use Rattle.storing.proofs.put_each.Goals as goal

pub loop-i-init : goal.loop-i-init
loop-i-init g c = λ piece each. pieces_none piece c.args.out.now c.args.at

pub step-p-requires : goal.step-p-requires
step-p-requires g c =
    let (piece, takes, stores) = c.requires in
    takes c.loop-i.i c.loop-i.p _ c.loop-i-test.true (c.loop-i.invariant piece stores).place

pub loop-i-preserved : goal.loop-i-preserved
loop-i-preserved g c =
    λ piece stores.
    let before = c.loop-i.invariant piece stores in
    pieces_more piece before (stores c.loop-i.i c.loop-i.p c.step-p.result _ _ c.loop-i-test.true before.place c.step-p.ensures)
