-- The fault of the first faulty line of a text is reported.
use Rattle.std.proofs.Common.{Ok, ◌≡◌, ◌≢◌, ℕ, ◌+◌, List, ◌++◌, length, take, false, ltb, refl, sym, ap, ◌∙◌, arith, Err, le-ltb, inl, inr, ◌⊎◌}
use Rattle.std.specs.List.{All}
use Rattle.ec_trace.specs.declared.fault.LineFault.{LineFault}
use Rattle.ec_trace.specs.Stages.{Stage, Opening}
use Rattle.ec_trace.specs.declared.read.TheConstants.{TRACE_MAX}
use Rattle.ec_trace.specs.Outcome.{parse_from, goes_from, lines_of_text, fault_of_line, start, parse_result, trace_or_fault}
use Rattle.ec_trace.specs.FirstFault.{IsTooLong, IsBehindTheEnd, IsRefusedThere, IsFirstFault, FirstFaultWins, FailedReadHasNoFault}
use Rattle.ec_trace.proofs.Goes.{goes_line, goes_long, goes_after_end}
use Rattle.ec_trace.proofs.Leads.{goes_lines}

-- at the faulty line
at_fault : (n : ℕ) (s : Stage) (line behind : List ℕ) (f : LineFault) → All (λ b. b ≢ 10) line → IsTooLong line f ⊎ (IsBehindTheEnd s line behind f ⊎ IsRefusedThere s line behind f) → parse_from n s (lines_of_text (line ++ behind)) ≡ Err (fault_of_line n f)
at_fault n s line behind f clean (inl long) = goes_long n s line behind clean long.0 ∙ ap (λ (g : LineFault). Err (fault_of_line n g)) (sym long.1)
at_fault n s line behind f clean (inr (inl h)) =
    goes_after_end n s line behind clean h.1 h.2 ∙ ap (λ (g : LineFault). Err (fault_of_line n g)) (sym h.3)
at_fault n s line behind f clean (inr (inr h)) =
    let l : ltb 8192 (length line) ≡ false = le-ltb _ _ h.0 in
    ap (λ (r : List ℕ). parse_from n s (lines_of_text (line ++ r))) h.2 ∙ goes_line n s line h.1 clean ∙ rw (l, h.3) refl

text_told : (text : List ℕ) (n : ℕ) (f : LineFault) → IsFirstFault text n f → goes_from start text ≡ Err (fault_of_line n f)
unfolding start
text_told text n f h =
    let k : 1 + length h.before ≡ n = omega (arith, h.number) in
    ap (λ (t : List ℕ). parse_from 1 Opening (lines_of_text t)) h.whole
    ∙ goes_lines 1 Opening h.stage h.before (h.line ++ h.behind) h.each h.leads
    ∙ at_fault (1 + length h.before) h.stage h.line h.behind f h.no_lf h.why
    ∙ ap (λ m. Err (fault_of_line m f)) k

pub first_fault_wins : FirstFaultWins
unfolding parse_result
first_fault_wins bytes n f h = ap (trace_or_fault TRACE_MAX bytes) (text_told (take TRACE_MAX bytes) n f h)

pub failed_read_has_no_fault : FailedReadHasNoFault
failed_read_has_no_fault bytes left failed n f h = (let e : Err (fault_of_line n f) ≡ Ok failed.place = sym (text_told failed.given n f h) ∙ failed.goes in cc)
