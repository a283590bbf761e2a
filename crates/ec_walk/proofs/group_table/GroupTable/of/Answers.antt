use Rattle.std.proofs.Common.{◌+◌, sym, ap, ◌∙◌, arith, rules}
use Rattle.ec_core.specs.declared.act.Act.TheVariants.{Read, Ticket, Get}
use Rattle.ec_walk.proofs.WalkLemmas.{covers_at, on_event, on_cell, event_at, sequencer_at, cell_at}
use Rattle.ec_walk.specs.Walks.{names}
use Rattle.ec_walk.proofs.group_table.GroupTable.of.Goals as goal

pub returns-in-Advance : goal.returns-in-Advance
returns-in-Advance c = λ groups t.
    (let n = c.get-in-Advance.result in
    covers_at groups c.args.self.now c.args.act.now (Read n) n _ t (omega arith) (search rules) (event_at n (omega arith))
    (λ g. on_event c.in-Advance.event c.args.act.now g c.in-Advance.is ∙ ap (λ e. names g (Read e)) (sym c.get-in-Advance.ensures.value)))

pub returns-in-Ticket : goal.returns-in-Ticket
returns-in-Ticket c = λ groups t.
    (let n = c.get.result in
    covers_at groups c.args.self.now c.args.act.now (Ticket n) (32 + n) _ t (omega arith) (search rules) (sequencer_at n (omega arith))
    (λ g. ap (names g) c.in-Ticket.is ∙ ap (λ q. names g (Ticket q)) (sym c.get.ensures.value)))

pub returns-in-Put : goal.returns-in-Put
returns-in-Put c = λ groups t.
    (let n = c.get-in-Put.result in
    covers_at groups c.args.self.now c.args.act.now (Get n) (64 + n) _ t (omega arith) (search rules) (cell_at n)
    (λ g. on_cell c.in-Put.cell c.args.act.now g c.in-Put.is ∙ ap (λ y. names g (Get y)) (sym c.get-in-Put.ensures.value)))
