use Rattle.std.proofs.Common.{◌-◌, ◌<◌, arith, length, refl, sym, ◌∙◌, false}
use Rattle.std.proofs.lemmas.List.{get_or_read}
use Rattle.calls_turns.specs.Sweeps.{fill_at}
use Rattle.calls_turns.proofs.Leads.{more_lead, same_lead, whole_lead}
use Rattle.calls_turns.proofs.chaining.all_steps.Goals as goal

pub loop-k-preserved-in-Continue-1 : goal.loop-k-preserved-in-Continue-1
loop-k-preserved-in-Continue-1 c =
    let fills = c.args.fills.now in
    let k = c.loop-k.k - 1 in
    record {
      within = omega arith;
      leads = more_lead c.args.end c.args.turns.now c.args.takers.now fills
          (fill_at fills k).demand.at k c.loop-k.k c.args.begun.needed.items
          c.args.begun.steps.items c.loop-k.lead c.add_link.new.lead (omega arith) (omega arith)
          refl c.in_ok-add_link.ensures c.loop-k.invariant.leads;
    }

pub loop-k-preserved : goal.loop-k-preserved
loop-k-preserved c =
    let marks = c.loop-k.lead.needed.items in
    let k = c.loop-k.k - 1 in
    let below : k < length marks = omega (arith, c.loop-k.invariant.leads.sized) in
    record {
      within = omega arith;
      leads = same_lead c.args.end c.args.turns.now c.args.takers.now c.args.fills.now
          k c.loop-k.k c.args.begun.needed.items c.args.begun.steps.items c.loop-k.lead
          (omega arith) (sym (get_or_read marks k c.index.result.now below c.index.ensures false)
          ∙ c.if-index.false) c.loop-k.invariant.leads;
    }

pub returns-clause-reaching : goal.returns-clause-reaching
returns-clause-reaching c =
    whole_lead c.args.end c.args.turns.now c.args.takers.now c.args.fills.now c.loop-k.k
    c.args.begun.needed.items c.args.begun.steps.items c.loop-k.lead
    (omega (arith, c.loop-k-test.false)) c.loop-k.invariant.leads
