use Rattle.std.proofs.Common.{arith}
use Rattle.calls_distinct.proofs.Earlier.{search_start, search_up, search_down}
use Rattle.calls_distinct.proofs.Earlier.{first_fault_is}
use Rattle.calls_distinct.proofs.deciding.first_fault.Goals as goal

pub loop-high-init : goal.loop-high-init
loop-high-init c = search_start c.args.events.now c.len-high.result c.args.fault
    c.len-high.ensures c.requires.shows

pub loop-high-preserved-in-None : goal.loop-high-preserved-in-None
loop-high-preserved-in-None c = search_up c.args.events.now c.loop-high.low
    c.next_between-n.result c.loop-high.high c.loop-high.fault _ c.loop-high.invariant
    c.in_ok-fault_of_beginning.ensures c.in-None.is c.next_between-n.ensures.below

pub loop-high-preserved : goal.loop-high-preserved
loop-high-preserved c = search_down c.args.events.now c.loop-high.low c.next_between-n.result
    c.loop-high.high c.loop-high.fault c.in-Some.earlier _ c.loop-high.invariant
    c.in_ok-fault_of_beginning.ensures c.in-Some.is c.next_between-n.ensures.above
    c.next_between-n.ensures.below

pub returns : goal.returns
returns c =
    let s = c.loop-high.invariant in
    first_fault_is c.args.events.now c.loop-high.low c.loop-high.high c.loop-high.fault
    c.requires.store s.apart (omega (arith, c.loop-high-test.false)) s.within s.order s.shows
