use Rattle.std.proofs.Common.{◌≡◌, ap, sym, ◌∙◌, arith}
use Rattle.calls_buffers.specs.Counts.{item, returned_takes, completed_puts, pending_puts}
use Rattle.calls_buffers.proofs.Unproduced.{never_unproduced}
use Rattle.calls_buffers.proofs.testing.unproduced.Goals as goal

pub returns-in_err-put-clause-found : goal.returns-in_err-put-clause-found
returns-in_err-put-clause-found c = λ h.
    let done = c.args.calls.now.done.items in
    let pending = c.args.calls.now.pending.items in
    let x = c.index.result.now in
    let v = c.in_ok-taken_item.field-0 in
    let taken : c.returned_takes-taken.result ≡ returned_takes (item v) x.last done =
    c.returned_takes-taken.ensures ∙ ap (returned_takes (item v) x.last) c.deref.ensures.value in
    let completed : c.completed_puts-completed.result ≡ completed_puts (item v) x.last done =
    c.completed_puts-completed.ensures
    ∙ ap (completed_puts (item v) x.last) c.deref-2.ensures.value in
    let waiting : c.pending_puts-waiting.result ≡ pending_puts (item v) x.last pending =
    c.pending_puts-waiting.ensures ∙ ap (pending_puts (item v) x.last) c.deref-3.ensures.value in
    absurd (never_unproduced done pending c.args.i x x v h c.index.ensures
    (sym c.in_ok-taken_item.ensures)
    (omega (arith, c.in_err-put.ensures, taken, completed, waiting)))
