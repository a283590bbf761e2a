use Rattle.std.proofs.Common.{◌≡◌, ℕ, List, [], ◌∷◌, ◌++◌, sym, ◌∙◌, ap, subst, codes, decimal}
use Rattle.std.specs.List.{range_with_len}
use Rattle.ec_count.specs.Tables.{Tables}
use Rattle.ec_text.specs.Puts.{Puts}
use Rattle.ec_text.proofs.shared.PutLemmas.{puts_then}
use Rattle.ec_heading.specs.HeadingModel.{HeadingModel}
use Rattle.ec_heading.specs.Spelling.{NameTable, heading_lines, lines_text}
use Rattle.ec_heading.specs.Recalled.{with_spaces, names_of, heading_text}
use Rattle.ec_trace.proofs.shared.LineParts.{heading_parts}
use Rattle.ec_trace.proofs.TraceText.{heading_found}
use Rattle.ec_trace.proofs.write_heading.put_heading.Goals as goal

pub returns-clause-words : goal.returns-clause-words
returns-clause-words g c =
    let limit : c.get.result ≡ c.args.heading.now.setup.limit = c.get.ensures.value ∙ c.limit.ensures ∙ ap (λ (t : Tables). t.limit) c.setup-setup.ensures in
    let workers : c.workers.result ≡ c.args.heading.now.setup.workers = c.workers.ensures.value ∙ ap (λ (t : Tables). t.workers) c.setup-setup.ensures in
    subst (Puts c.args.out.now c.put-3.new.self)
    (sym (heading_parts c.args.spellings.now c.args.heading.now []))
    (puts_then _ _ _ _ _
    (puts_then _ _ _ _ _
    (puts_then _ _ _ _ _
    (puts_then _ _ _ _ _
    (puts_then _ _ _ _ _
    (puts_then _ _ _ _ _
    c.put.ensures.puts
    (subst (λ (n : ℕ). Puts c.put.new.self c.put_number.new.self (decimal n)) limit c.put_number.ensures.puts))
    c.put-2.ensures.puts)
    (subst (λ (n : ℕ). Puts c.put-2.new.self c.put_workers.new.out (with_spaces (names_of c.args.spellings.now (range_with_len 0 n)))) workers c.put_workers.ensures))
    c.put_byte.ensures.puts)
    c.put_targets.ensures)
    c.put-3.ensures.puts)

pub returns-clause-outline : goal.returns-clause-outline
returns-clause-outline g c = λ o is e w.
    let same : heading_text c.args.spellings.now c.args.heading.now ≡ lines_text (heading_lines o ++ codes "run" ∷ []) =
    ap (λ (names : NameTable). heading_text names c.args.heading.now) w ∙ ap (λ (h : HeadingModel). heading_text h.words h) (sym e) ∙ heading_found o is in
    subst (Puts c.args.out.now c.put-3.new.self) same (returns-clause-words g c)
