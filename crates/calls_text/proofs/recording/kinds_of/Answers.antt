use Rattle.std.proofs.Common.{length, ap, ◌∙◌}
use Rattle.ec_count.specs.Tables.{Tables}
use Rattle.calls_text.proofs.Adding.{are_kinds}
use Rattle.calls_text.proofs.recording.kinds_of.Goals as goal

pub returns : goal.returns
returns c =
    let setup = c.setup-setup.ensures in
    are_kinds c.args.heading.now c.args.from.now c.new-kinds.result.items
    c.add_events.new.kinds.items c.add_sequencers.new.kinds.items c.add_cells.new.kinds.items
    c.add_semaphores.new.kinds.items c.add_groups.new.kinds.items _ _ _ _ _
    (ap length c.new-kinds.ensures.items)
    (c.events.ensures ∙ ap (λ (t : Tables). length t.events) setup)
    (c.sequencers.ensures ∙ ap (λ (t : Tables). length t.takers) setup)
    (c.cells.ensures ∙ ap (λ (t : Tables). length t.cells) setup)
    c.groups.ensures c.groups-2.ensures
    c.in_ok-add_events.ensures.grows c.in_ok-add_events.ensures.are
    c.in_ok-add_sequencers.ensures.grows c.in_ok-add_sequencers.ensures.are
    c.in_ok-add_cells.ensures.grows c.in_ok-add_cells.ensures.are
    c.in_ok-add_semaphores.ensures.grows c.in_ok-add_semaphores.ensures.are
    c.in_ok-add_groups.ensures.grows c.in_ok-add_groups.ensures.are
