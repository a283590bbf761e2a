use Rattle.std.proofs.Common.{length}
use Rattle.calls_turns.proofs.Leads.{first_leads}
use Rattle.calls_turns.proofs.chaining.steps_of.Goals as goal

pub all_steps-requires-clause-leads : goal.all_steps-requires-clause-leads
all_steps-requires-clause-leads c =
    first_leads c.args.end c.args.turns.now c.args.takers.now c.args.fills.now c.args.demand.at
    (length c.args.fills.now) (record { steps = c.new.result; needed = c.args.needed })
    c.add_link.new.lead c.new.ensures.items c.requires.sized c.in_ok-add_link.ensures
