-- An upgraded trace is as long as the trace, and is read as the same history under version 2.
use Rattle.std.proofs.Common.{◌≡◌, ℕ, List, [], ◌∷◌, ◌++◌, length, length-append, Ok, map, refl, sym, ap, subst, ◌∙◌, arith, append_assoc, codes, reverse}
use Rattle.ec_core.specs.Acceptance.{IsAccepted}
use Rattle.ec_core.specs.declared.act.Entry.{Entry}
use Rattle.ec_heading.specs.declared.version.Version.{Version}
use Rattle.ec_heading.specs.declared.version.Version.TheVariants.{One, Two}
use Rattle.ec_heading.specs.HeadingModel.{HeadingModel}
use Rattle.ec_heading.specs.HeaderTree.{HeaderTree, heading_of_tree}
use Rattle.ec_heading.specs.Upgrade.{upgraded_outline}
use Rattle.ec_heading.specs.Spelling.{heading_lines, trace_header, entry_line, trace_lines, trace_text, lines_text}
use Rattle.ec_heading.proofs.shared.Upgrades.{upgraded_headed, upgraded_is}
use Rattle.ec_heading.proofs.shared.VersionFacts.{two_spells_all}
use Rattle.ec_trace.specs.Grammar.{IsTrace}
use Rattle.ec_trace.specs.ReadingLaws.{TracesAreUpgraded}
use Rattle.ec_trace.proofs.shared.ReadTraces.{trace_is_read}

-- the lines after the first
abbrev behind : HeaderTree → List Entry → List (List ℕ)
behind o es = heading_lines o ++ codes "run" ∷ map (entry_line (heading_of_tree o).words) es ++ codes "end" ∷ []

upgraded_lines : (o : HeaderTree) (es : List Entry) → trace_lines (upgraded_outline o) es ≡ trace_header Two ∷ behind o es
upgraded_lines o es = ap (λ (h : HeadingModel). trace_header Two ∷ heading_lines o ++ codes "run" ∷ map (entry_line h.words) es ++ codes "end" ∷ []) (upgraded_headed o)

first_long : (v : Version) → length (trace_header v) ≡ 11
first_long One = refl
first_long Two = refl

lines_long : (a b : List ℕ) (lines : List (List ℕ)) → length a ≡ length b → length (lines_text (a ∷ lines)) ≡ length (lines_text (b ∷ lines))
lines_long a b lines same =
    omega (arith, same, length-append (a ++ 10 ∷ []) (lines_text lines), length-append (b ++ 10 ∷ []) (lines_text lines), length-append a (10 ∷ []), length-append b (10 ∷ []))

as_long : (o : HeaderTree) (es : List Entry) → length (trace_text (upgraded_outline o) es) ≡ length (trace_text o es)
unfolding trace_text
as_long o es =
    ap (λ (ls : List (List ℕ)). length (lines_text ls)) (upgraded_lines o es)
    ∙ lines_long (trace_header Two) (trace_header o.version) (behind o es) (first_long Two ∙ sym (first_long o.version))

-- the bytes after the first line, from its LF on
abbrev bytes_behind : HeaderTree → List Entry → List ℕ
bytes_behind o es = 10 ∷ lines_text (behind o es)

first_then : (o : HeaderTree) (es : List Entry) → trace_text o es ≡ trace_header o.version ++ bytes_behind o es
unfolding trace_text
first_then o es = append_assoc (trace_header o.version) (10 ∷ []) (lines_text (behind o es))

upgraded_then : (o : HeaderTree) (es : List Entry) → trace_text (upgraded_outline o) es ≡ trace_header Two ++ bytes_behind o es
unfolding trace_text
upgraded_then o es = ap lines_text (upgraded_lines o es) ∙ append_assoc (trace_header Two) (10 ∷ []) (lines_text (behind o es))

-- upgrading a syntax tree of version 2 changes nothing
same_outline : (o : HeaderTree) → o.version ≡ Two → upgraded_outline o ≡ o
same_outline o e =
    ap (λ (v : Version). (let p : HeaderTree = record o { version = v } in p)) (sym e)

pub traces_are_upgraded : TracesAreUpgraded
traces_are_upgraded bytes o es is =
    let long : length (trace_text (upgraded_outline o) es) ≡ length bytes = as_long o es ∙ ap length (sym is.text) in
    let trace : IsTrace (trace_text (upgraded_outline o) es) (upgraded_outline o) es = record {
      heading = upgraded_is o is.heading;
      accepted = subst (λ (h : HeadingModel). IsAccepted h.setup (reverse es)) (sym (upgraded_headed o)) is.accepted;
      spelled = two_spells_all es;
      text = refl;
      within = omega (arith, long, is.within);
    } in
    record {
      trace = trace;
      behind = bytes_behind o es;
      was = is.text ∙ first_then o es;
      is_now = upgraded_then o es;
      as_long = long;
      returned = trace_is_read (trace_text (upgraded_outline o) es) (upgraded_outline o) es trace ∙ ap (λ (h : HeadingModel). Ok (record { heading = h; entries = es })) (upgraded_headed o);
      as_it_was = λ e. ap (λ (p : HeaderTree). trace_text p es) (same_outline o e) ∙ sym is.text;
    }
