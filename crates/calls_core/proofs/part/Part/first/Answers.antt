use Rattle.std.proofs.Common.{◌∙◌, ap, sym, take}
use Rattle.std.proofs.lemmas.List.{take-map}
use Rattle.calls_core.specs.Parts.{event_at, chosen_events}
use Rattle.calls_core.proofs.part.Part.first.Goals as goal

pub returns-in-At : goal.returns-in-At
returns-in-At c =
    let events = c.self.inside.events.now in
    c.by.ensures ∙ sym (take-map (event_at events) c.args.n c.in-At.indices.now)
    ∙ ap (take c.args.n) (ap (chosen_events events) (sym c.in-At.is) ∙ c.self.view_is)
