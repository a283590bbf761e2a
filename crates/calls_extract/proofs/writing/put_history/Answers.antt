use Rattle.std.proofs.Common.{ap, subst, sym, ◌∙◌}
use Rattle.std.specs.List.{flat_map}
use Rattle.ec_text.specs.Puts.{Puts}
use Rattle.ec_text.proofs.shared.PutLemmas.{puts_then}
use Rattle.ec_heading.specs.HeadingModel.{HeadingModel}
use Rattle.ec_heading.specs.Spelling.{NameTable}
use Rattle.calls_extract.specs.kept.Entries.{entry_text}
use Rattle.calls_extract.proofs.Events.{calls_found}
use Rattle.calls_extract.proofs.writing.put_history.Goals as goal

pub returns : goal.returns
returns g c = λ o is e w.
    let names = w ∙ ap (λ (h : HeadingModel). h.words) (sym e) in
    subst (Puts c.args.out.now c.put-2.new.self) (calls_found o c.args.run.now.entries)
    (puts_then _ _ _ _ _
    (puts_then _ _ _ _ _
    (puts_then _ _ _ _ _
    c.put.ensures.puts
    (c.put_heading.ensures.outline o is e w))
    (subst (λ (n : NameTable). Puts c.put_heading.new.out c.put_events.new.out
    (flat_map (entry_text n) c.args.run.now.entries)) names c.put_events.ensures))
    c.put-2.ensures.puts)
