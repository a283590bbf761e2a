use Rattle.std.proofs.Common.{◌≡◌, ℕ, List, ap, ◌∙◌, ◌++◌}
use Rattle.ec_count.specs.Tables.{Tables, event_fault, with_fixed_event}
use Rattle.ec_count.specs.Declares.{with_sequencer}
use Rattle.ec_count.proofs.shared.Adding.{ok_of}
use Rattle.ec_buffer.proofs.Declaring.{free_of, result_of}
use Rattle.ec_buffer.proofs.shape.add_buffer.Goals as goal

pub unwrap-in_count-requires : goal.unwrap-in_count-requires
unwrap-in_count-requires c =
    let free = free_of c.args.setup.now c.args.n c.args.produce.now c.args.consume.now c.requires.declared c.requires.free in
    let both = c.as_slice.ensures.value ∙ c.concat-both.ensures in
    ok_of _ (c.add_fixed_event.ensures.fault ∙ ap (λ (ws : List ℕ). event_fault c.args.setup.now c.args.produce.now ws) both ∙ free.in_count)

pub unwrap-out_count-requires : goal.unwrap-out_count-requires
unwrap-out_count-requires c =
    let free = free_of c.args.setup.now c.args.n c.args.produce.now c.args.consume.now c.requires.declared c.requires.free in
    let both = c.as_slice.ensures.value ∙ c.concat-both.ensures in
    let again = c.as_slice-2.ensures.value ∙ c.concat-both.ensures in
    let first : c.add_fixed_event.new.self ≡ with_fixed_event c.args.setup.now c.args.produce.now (c.args.produce.now ++ c.args.consume.now) =
    result_of c.add_fixed_event.result c.unwrap-in_count.result c.unwrap-in_count.ensures c.add_fixed_event.ensures.ok ∙ ap (λ (ws : List ℕ). with_fixed_event c.args.setup.now c.args.produce.now ws) both in
    ok_of _ (c.add_fixed_event-2.ensures.fault ∙ ap (λ (ws : List ℕ). event_fault c.add_fixed_event.new.self c.args.consume.now ws) again ∙ ap (λ (t : Tables). event_fault t c.args.consume.now (c.args.produce.now ++ c.args.consume.now)) first ∙ free.out_count)

pub unwrap-first_cell-requires : goal.unwrap-first_cell-requires
unwrap-first_cell-requires c =
    let free = free_of c.args.setup.now c.args.n c.args.produce.now c.args.consume.now c.requires.declared c.requires.free in
    let one : c.add_fixed_event.new.self ≡ with_fixed_event c.args.setup.now c.args.produce.now c.as_slice.result.now = result_of c.add_fixed_event.result c.unwrap-in_count.result c.unwrap-in_count.ensures c.add_fixed_event.ensures.ok in
    let two : c.add_fixed_event-2.new.self ≡ with_fixed_event c.add_fixed_event.new.self c.args.consume.now c.as_slice-2.result.now = result_of c.add_fixed_event-2.result c.unwrap-out_count.result c.unwrap-out_count.ensures c.add_fixed_event-2.ensures.ok in
    let three : c.add_sequencer.new.self ≡ with_sequencer c.add_fixed_event-2.new.self c.args.produce.now = result_of c.add_sequencer.result c.unwrap-put_seq.result c.unwrap-put_seq.ensures c.add_sequencer.ensures.ok in
    let four : c.add_sequencer-2.new.self ≡ with_sequencer c.add_sequencer.new.self c.args.consume.now = result_of c.add_sequencer-2.result c.unwrap-take_seq.result c.unwrap-take_seq.ensures c.add_sequencer-2.ensures.ok in
    let workers : c.add_sequencer-2.new.self.workers ≡ c.args.setup.now.workers = ap (λ (t : Tables). t.workers) four ∙ ap (λ (t : Tables). t.workers) three ∙ ap (λ (t : Tables). t.workers) two ∙ ap (λ (t : Tables). t.workers) one in
    let cells : c.add_sequencer-2.new.self.cells ≡ c.args.setup.now.cells = ap (λ (t : Tables). t.cells) four ∙ ap (λ (t : Tables). t.cells) three ∙ ap (λ (t : Tables). t.cells) two ∙ ap (λ (t : Tables). t.cells) one in
    ok_of _ (c.add_cells.ensures.fault ∙ free.cells c.add_sequencer-2.new.self workers cells)
