-- `loading::do_command` meets its contract: each command by its own function. Assumes nothing.
use mathlib.Core.Path.{refl}
use Rattle.loading.proofs.Commands.{narrow, begin_range, ready, edit_done, refresh_done}
use Rattle.loading.proofs.do_command.Goals as goal

pub do_begin-requires : goal.do_begin-requires
do_begin-requires c =
    let p = c.requires in
    let range = begin_range p c.in-Begin.is refl in
    (record { book = p.formed.length; sheet = p.filled.length }, p.filled.marks, range.machine_range, range.node_range)

pub do_add-requires : goal.do_add-requires
do_add-requires c = ready c.requires c.in-Add.is refl

pub do_refine-requires : goal.do_refine-requires
do_refine-requires c = ready c.requires c.in-Refine.is refl

pub do_remove-requires : goal.do_remove-requires
do_remove-requires c = ready c.requires c.in-Remove.is refl

pub do_arrow-requires : goal.do_arrow-requires
do_arrow-requires c =
    let p = c.requires in
    let told = c.in-Arrow.is in
    (ready p told refl, (narrow p told).3)

pub do_clear-requires : goal.do_clear-requires
do_clear-requires c = ready c.requires c.in-Clear.is refl

pub do_start-requires : goal.do_start-requires
do_start-requires c = ready c.requires c.in-Start.is refl

pub do_crown-requires : goal.do_crown-requires
do_crown-requires c = ready c.requires c.in-Crown.is refl

pub refresh-requires : goal.refresh-requires
refresh-requires c = let p = c.requires in (p.formed, p.filled)

pub do_hold-requires : goal.do_hold-requires
do_hold-requires c = ready c.requires c.in-Hold.is refl

pub do_leave-requires : goal.do_leave-requires
do_leave-requires c = ready c.requires c.in-Leave.is refl

pub returns-in-Begin : goal.returns-in-Begin
returns-in-Begin c =
    let p = c.requires in
    let told = c.in-Begin.is in
    edit_done p told refl tt c.do_begin.ensures

pub returns-in-Add : goal.returns-in-Add
returns-in-Add c =
    let p = c.requires in
    let told = c.in-Add.is in
    edit_done p told refl tt c.do_add.ensures

pub returns-in-Refine : goal.returns-in-Refine
returns-in-Refine c =
    let p = c.requires in
    let told = c.in-Refine.is in
    edit_done p told refl tt c.do_refine.ensures

pub returns-in-Remove : goal.returns-in-Remove
returns-in-Remove c =
    let p = c.requires in
    let told = c.in-Remove.is in
    edit_done p told refl tt c.do_remove.ensures

pub returns-in-Arrow : goal.returns-in-Arrow
returns-in-Arrow c =
    let p = c.requires in
    let told = c.in-Arrow.is in
    edit_done p told refl (narrow p told).3 c.do_arrow.ensures

pub returns-in-Clear : goal.returns-in-Clear
returns-in-Clear c =
    let p = c.requires in
    let told = c.in-Clear.is in
    edit_done p told refl tt c.do_clear.ensures

pub returns-in-Start : goal.returns-in-Start
returns-in-Start c =
    let p = c.requires in
    let told = c.in-Start.is in
    edit_done p told refl tt c.do_start.ensures

pub returns-in-Crown : goal.returns-in-Crown
returns-in-Crown c =
    let p = c.requires in
    let told = c.in-Crown.is in
    edit_done p told refl tt c.do_crown.ensures

pub returns-in-Refresh : goal.returns-in-Refresh
returns-in-Refresh c =
    refresh_done c.requires c.in-Refresh.is refl c.refresh.ensures

pub returns-in-Hold : goal.returns-in-Hold
returns-in-Hold c =
    let p = c.requires in
    let told = c.in-Hold.is in
    edit_done p told refl tt c.do_hold.ensures

pub returns-in-Leave : goal.returns-in-Leave
returns-in-Leave c =
    let p = c.requires in
    let told = c.in-Leave.is in
    edit_done p told refl (narrow p told).1 c.do_leave.ensures
