use Rattle.std.proofs.Common.{◌∙◌, ap, sym, arith}
use Rattle.calls_core.proofs.Lists.{each_weaker}
use Rattle.calls_turns.specs.Steps.{others_by, IsShortage}
use Rattle.calls_turns.specs.Shortages.{IsFound}
use Rattle.calls_turns.proofs.Shortfalls.{found_shortage}
use Rattle.calls_turns.proofs.clash.few.Goals as goal

pub returns : goal.returns
returns c =
    let turns = c.args.turns.now in
    let takers = c.args.takers.now in
    let fills = c.args.fills.now in
    let p = c.args.demand.at in
    let lack = c.in_ok-shortages.field-0 in
    let needed = lack.needed.items in
    let steps = c.in_ok-steps.steps.items in
    let lead = c.in_ok-steps.ensures in
    let is = c.in_ok-shortages.ensures in
    record {
      steps = lead.reaching.steps;
      clashes = record {
        each = each_weaker (IsFound turns takers fills p needed) (IsShortage turns takers steps)
            (λ s. found_shortage c.args.end turns takers fills p needed steps s lead)
            lack.shortages.items is.each;
        apart = is.apart;
        come = c.count_others-others.ensures ∙ ap (others_by takers) (sym lead.at);
        more = omega (arith, is.more, c.count_others-others.ensures);
      };
    }
