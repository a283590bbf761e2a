use Rattle.std.proofs.Common.{◌≡◌, ℕ, List, ap, ◌∙◌, ◌++◌}
use Rattle.ec_count.specs.Tables.{Tables, event_fault, with_fixed_event}
use Rattle.ec_count.specs.Declares.{with_sequencer}
use Rattle.ec_count.proofs.shared.Adding.{ok_of}
use Rattle.ec_database.proofs.Declaring.{free_of, result_of}
use Rattle.ec_database.proofs.shape.add_database.Goals as goal

pub unwrap-done-requires : goal.unwrap-done-requires
unwrap-done-requires c =
    let free = free_of c.args.setup.now c.args.n c.args.write.now c.args.read.now c.requires.declared c.requires.free in
    let both = c.as_slice.ensures.value ∙ c.concat-both.ensures in
    let first : c.add_fixed_event.new.self ≡ with_fixed_event c.args.setup.now c.args.write.now c.args.read.now = result_of c.add_fixed_event.result c.unwrap-start.result c.unwrap-start.ensures c.add_fixed_event.ensures.ok in
    ok_of _ (c.add_fixed_event-2.ensures.fault ∙ ap (λ (ws : List ℕ). event_fault c.add_fixed_event.new.self c.args.write.now ws) both
    ∙ ap (λ (t : Tables). event_fault t c.args.write.now (c.args.write.now ++ c.args.read.now)) first ∙ free.done)

pub unwrap-first_cell-requires : goal.unwrap-first_cell-requires
unwrap-first_cell-requires c =
    let free = free_of c.args.setup.now c.args.n c.args.write.now c.args.read.now c.requires.declared c.requires.free in
    let one : c.add_fixed_event.new.self ≡ with_fixed_event c.args.setup.now c.args.write.now c.args.read.now = result_of c.add_fixed_event.result c.unwrap-start.result c.unwrap-start.ensures c.add_fixed_event.ensures.ok in
    let two : c.add_fixed_event-2.new.self ≡ with_fixed_event c.add_fixed_event.new.self c.args.write.now c.as_slice.result.now = result_of c.add_fixed_event-2.result c.unwrap-done.result c.unwrap-done.ensures c.add_fixed_event-2.ensures.ok in
    let three : c.add_sequencer.new.self ≡ with_sequencer c.add_fixed_event-2.new.self c.args.write.now = result_of c.add_sequencer.result c.unwrap-turn.result c.unwrap-turn.ensures c.add_sequencer.ensures.ok in
    let workers : c.add_sequencer.new.self.workers ≡ c.args.setup.now.workers = ap (λ (t : Tables). t.workers) three ∙ ap (λ (t : Tables). t.workers) two ∙ ap (λ (t : Tables). t.workers) one in
    let cells : c.add_sequencer.new.self.cells ≡ c.args.setup.now.cells = ap (λ (t : Tables). t.cells) three ∙ ap (λ (t : Tables). t.cells) two ∙ ap (λ (t : Tables). t.cells) one in
    ok_of _ (c.add_cells.ensures.fault ∙ free.cells c.add_sequencer.new.self workers cells)
