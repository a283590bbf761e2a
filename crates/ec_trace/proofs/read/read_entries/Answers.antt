use Rattle.std.proofs.Common.{◌≡◌, true, false, Ok, Err, codes, refl, ap, sym, ◌∙◌, subst}
use Rattle.std.specs.Prelude.{bytes_eq}
use Rattle.ec_trace.specs.EntrySinks.{history_of}
use Rattle.ec_trace.specs.Reading.{TakesEntry, TakesLine}
use Rattle.ec_trace.specs.Outcome.{Returns, fault_at}
use Rattle.ec_trace.specs.Stages.{Running}
use Rattle.ec_trace.specs.Step.{entry_step, is_ended}
use Rattle.ec_trace.specs.declared.read.TheConstants.{TRACE_MAX}
use Rattle.ec_trace.proofs.EntrySteps.{entry_line_taken, entry_line_refused, end_line_taken, recounts}
use Rattle.ec_trace.proofs.read.read_entries.Goals as goal

pub returns-in-Err-clause-recounts : goal.returns-in-Err-clause-recounts
unfolding is_ended
returns-in-Err-clause-recounts g c = λ xs first begun represents.
    let i = c.loop-fault.invariant.represents first represents in
    c.in-Err.ensures.comes xs (Running (record { heading = c.args.heading.now; entries = i.0 })) refl (i.2 xs begun)

pub returns-in-Some-Err-clause-recounts : goal.returns-in-Some-Err-clause-recounts
unfolding is_ended
returns-in-Some-Err-clause-recounts g c = λ xs first begun represents.
    let i = c.loop-fault.invariant.represents first represents in
    let came = c.in_default.ensures.comes xs (Running (record { heading = c.args.heading.now; entries = i.0 })) refl (i.2 xs begun) in
    let other : bytes_eq c.next.new.self.line (codes "end") ≡ false = ap (λ l. bytes_eq l (codes "end")) (sym c.line-line.ensures) ∙ ap (bytes_eq c.line-line.result.now) (sym c.as_slice.ensures) ∙ sym c.if-eq.ensures in
    let takes : TakesLine g.H.EntrySink.represents c.args.heading.now c.loop-fault.history c.enter_cached.new.history c.line-line.result.now (Err c.in-Some-Err.fault) = rw c.in-Some-Err.field-0-is at c.in-Some-Err.ensures.takes in
    let fails = subst (λ l. TakesEntry c.args.heading.now (λ es. g.H.EntrySink.represents first c.enter_cached.new.history (history_of c.args.heading.now es)) (entry_step (record { heading = c.args.heading.now; entries = i.0 }) l) (Err c.in-Some-Err.fault)) c.line-line.ensures (takes first i.0 i.1) in
    subst (λ f. Returns TRACE_MAX xs (g.R.Read.remaining c.next.new.reader) (Err f)) (sym (c.fault_at.ensures ∙ ap (fault_at c.number.result) c.in-Some-Err.fault-is ∙ ap (λ n. fault_at n c.in-Some-Err.fault) c.number.ensures))
    (entry_line_refused xs (g.R.Read.remaining c.next.new.reader) c.next.new.self c.args.heading.now i.0 (λ es. g.H.EntrySink.represents first c.enter_cached.new.history (history_of c.args.heading.now es)) c.in-Some-Err.fault came other c.in_default.ensures.more.1 fails)

pub returns-in-Err-enter_parsed-clause-recounts : goal.returns-in-Err-enter_parsed-clause-recounts
unfolding is_ended
returns-in-Err-enter_parsed-clause-recounts g c = λ xs first begun represents.
    let i = c.loop-fault.invariant.represents first represents in
    let came = c.in_default.ensures.comes xs (Running (record { heading = c.args.heading.now; entries = i.0 })) refl (i.2 xs begun) in
    let other : bytes_eq c.next.new.self.line (codes "end") ≡ false = ap (λ l. bytes_eq l (codes "end")) (sym c.line-line.ensures) ∙ ap (bytes_eq c.line-line.result.now) (sym c.as_slice.ensures) ∙ sym c.if-eq.ensures in
    let before = subst (λ h. g.H.EntrySink.represents first h (history_of c.args.heading.now i.0)) (sym (c.in-None.ensures.none refl)) i.1 in
    let fails = subst (λ l. TakesEntry c.args.heading.now (λ es. g.H.EntrySink.represents first c.enter_parsed.new.history (history_of c.args.heading.now es)) (entry_step (record { heading = c.args.heading.now; entries = i.0 }) l) (Err c.in-Err-enter_parsed.fault)) c.line-line.ensures (c.in-Err-enter_parsed.ensures.takes first i.0 before) in
    subst (λ f. Returns TRACE_MAX xs (g.R.Read.remaining c.next.new.reader) (Err f)) (sym (c.fault_at-in-Err-enter_parsed.ensures ∙ ap (λ n. fault_at n c.in-Err-enter_parsed.fault) c.number-in-Err-enter_parsed.ensures))
    (entry_line_refused xs (g.R.Read.remaining c.next.new.reader) c.next.new.self c.args.heading.now i.0 (λ es. g.H.EntrySink.represents first c.enter_parsed.new.history (history_of c.args.heading.now es)) c.in-Err-enter_parsed.fault came other c.in_default.ensures.more.1 fails)

pub loop-fault-preserved-in-Some-Ok : goal.loop-fault-preserved-in-Some-Ok
unfolding is_ended
loop-fault-preserved-in-Some-Ok g c = record {
  kept = c.loop-fault.invariant.kept;
  represents = λ first represents.
      let i = c.loop-fault.invariant.represents first represents in
      let other : bytes_eq c.next.new.self.line (codes "end") ≡ false = ap (λ l. bytes_eq l (codes "end")) (sym c.line-line.ensures) ∙ ap (bytes_eq c.line-line.result.now) (sym c.as_slice.ensures) ∙ sym c.if-eq.ensures in
      let takes : TakesLine g.H.EntrySink.represents c.args.heading.now c.loop-fault.history c.enter_cached.new.history c.line-line.result.now (Ok tt) = rw c.in-Some-Ok.field-0-is at c.in-Some-Ok.ensures.takes in
      let taken = takes first i.0 i.1 in
      let step : entry_step (record { heading = c.args.heading.now; entries = i.0 }) c.next.new.self.line ≡ Ok (record { heading = c.args.heading.now; entries = taken.0 }) =
      ap (entry_step (record { heading = c.args.heading.now; entries = i.0 })) (sym c.line-line.ensures) ∙ taken.1 in (
        taken.0,
        taken.2,
        λ xs begun.
            let came = c.in_default.ensures.comes xs (Running (record { heading = c.args.heading.now; entries = i.0 })) refl (i.2 xs begun) in
            entry_line_taken xs (g.R.Read.remaining c.next.new.reader) c.next.new.self c.args.heading.now i.0 taken.0 came other step,
      );
}

pub loop-fault-preserved : goal.loop-fault-preserved
unfolding is_ended
loop-fault-preserved g c = record {
  kept = c.in_default-enter_parsed.ensures.kept;
  represents = λ first represents.
      let i = c.loop-fault.invariant.represents first represents in
      let other : bytes_eq c.next.new.self.line (codes "end") ≡ false = ap (λ l. bytes_eq l (codes "end")) (sym c.line-line.ensures) ∙ ap (bytes_eq c.line-line.result.now) (sym c.as_slice.ensures) ∙ sym c.if-eq.ensures in
      let before = subst (λ h. g.H.EntrySink.represents first h (history_of c.args.heading.now i.0)) (sym (c.in-None.ensures.none refl)) i.1 in
      let taken = c.in_default-enter_parsed.ensures.takes first i.0 before in
      let step : entry_step (record { heading = c.args.heading.now; entries = i.0 }) c.next.new.self.line ≡ Ok (record { heading = c.args.heading.now; entries = taken.0 }) =
      ap (entry_step (record { heading = c.args.heading.now; entries = i.0 })) (sym c.line-line.ensures) ∙ taken.1 in (
        taken.0,
        taken.2,
        λ xs begun.
            let came = c.in_default.ensures.comes xs (Running (record { heading = c.args.heading.now; entries = i.0 })) refl (i.2 xs begun) in
            entry_line_taken xs (g.R.Read.remaining c.next.new.reader) c.next.new.self c.args.heading.now i.0 taken.0 came other step,
      );
}

pub returns-clause-recounts : goal.returns-clause-recounts
unfolding is_ended
returns-clause-recounts g c = λ xs first begun represents.
    let i = c.loop-fault.invariant.represents first represents in
    let came = c.in_default.ensures.comes xs (Running (record { heading = c.args.heading.now; entries = i.0 })) refl (i.2 xs begun) in
    let is_end : bytes_eq c.next.new.self.line (codes "end") ≡ true = ap (λ l. bytes_eq l (codes "end")) (sym c.line-line.ensures) ∙ ap (bytes_eq c.line-line.result.now) (sym c.as_slice.ensures) ∙ sym c.if-eq.ensures in
    recounts xs (g.R.Read.remaining c.end.new.reader) c.args.heading.now i.0 (g.H.EntrySink.represents first c.loop-fault.history) _
    (c.end.ensures xs (record { heading = c.args.heading.now; entries = i.0 }) (end_line_taken xs (g.R.Read.remaining c.next.new.reader) c.next.new.self c.args.heading.now i.0 came is_end)) i.1
