use Rattle.std.proofs.Common.{◌≡◌, [], Ok, sym, ap, ◌∙◌}
use Rattle.ec_core.specs.RunModel.{RunModel}
use Rattle.ec_trace.specs.EntrySinks.{history_of}
use Rattle.ec_trace.specs.TraceModel.{TraceModel}
use Rattle.ec_trace.proofs.shared.KnownInputs.{if_known, known}
use Rattle.ec_trace.proofs.read.read_into_run.Goals as goal

pub invariant_of-result : goal.invariant_of-result
invariant_of-result g c =
    let begun : c.in-Ok-open.run' ≡ history_of c.in-Ok.opened.heading [] = c.in-Ok-open.ensures ∙ ap (λ s. let r : RunModel = record { setup = s; entries = [] } in r) (c.copy.ensures ∙ c.setup.ensures) in
    ap (λ (h : RunModel). h.setup) (c.in-Ok-read_entries.ensures.represents c.in-Ok-open.run' begun).1

pub returns-in-Ok-read_entries : goal.returns-in-Ok-read_entries
returns-in-Ok-read_entries g c = if_known (g.R.Read.remaining c.args.reader.now) _ (λ xs is.
    let begun : c.in-Ok-open.run' ≡ history_of c.in-Ok.opened.heading [] = c.in-Ok-open.ensures ∙ ap (λ s. let r : RunModel = record { setup = s; entries = [] } in r) (c.copy.ensures ∙ c.setup.ensures) in
    let returned = c.in-Ok-read_entries.ensures.recounts xs c.in-Ok-open.run' (known (g.R.Read.remaining c.args.reader.now) _ xs c.in-Ok.ensures is) begun in
    returned.1 ∙ ap (λ (h : RunModel). let t : TraceModel = record { heading = c.in-Ok.opened.heading; entries = h.entries } in Ok t) (sym returned.2))

pub returns-in-Err-read_entries : goal.returns-in-Err-read_entries
returns-in-Err-read_entries g c = if_known (g.R.Read.remaining c.args.reader.now) _ (λ xs is.
    let begun : c.in-Ok-open.run' ≡ history_of c.in-Ok.opened.heading [] = c.in-Ok-open.ensures ∙ ap (λ s. let r : RunModel = record { setup = s; entries = [] } in r) (c.copy.ensures ∙ c.setup.ensures) in
    c.in-Err-read_entries.ensures.recounts xs c.in-Ok-open.run' (known (g.R.Read.remaining c.args.reader.now) _ xs c.in-Ok.ensures is) begun)
