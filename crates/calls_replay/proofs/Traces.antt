-- The trace of a linearization.
use Rattle.std.proofs.Common.{◌≡◌, ℕ, ◌≤◌, true, List, length, reverse, Ok}
use Rattle.std.proofs.Common.{refl, sym, ap, ◌∙◌, subst, codes, get_or}
use Rattle.std.specs.Io.KnownBytes.{Appends}
use Rattle.std.proofs.lemmas.List.{length-reverse}
use Rattle.ec_count.specs.Tables.{Tables}
use Rattle.ec_text.specs.Puts.{Puts, AppendsPrefix}
use Rattle.ec_core.specs.declared.act.Act.{Act}
use Rattle.ec_core.specs.declared.act.Act.TheVariants as acts
use Rattle.ec_core.specs.declared.act.Entry.{Entry}
use Rattle.ec_core.specs.Acceptance.{IsAccepted}
use Rattle.ec_core.specs.RunModel as runs
use Rattle.ec_order.specs.Calls.{finished_calls}
use Rattle.ec_heading.specs.HeadingModel.{HeadingModel}
use Rattle.ec_heading.specs.HeaderTree.{HeaderTree, IsHeaderTree, heading_of_tree}
use Rattle.ec_heading.specs.Spelling.{trace_text}
use Rattle.ec_heading.specs.Versions.{CanSpellAll, can_spell}
use Rattle.ec_heading.specs.declared.version.Version.{Version}
use Rattle.ec_heading.specs.declared.version.Version.TheVariants.{Two}
use Rattle.ec_heading.proofs.shared.TreeFound.{version_found}
use Rattle.ec_trace.specs.Outcome.{parse_result}
use Rattle.ec_trace.specs.declared.read.TheConstants.{TRACE_MAX}
use Rattle.ec_trace.proofs.shared.ReadTraces.{written_is_read}
use Rattle.calls_core.specs.declared.history.Placed.{Placed}
use Rattle.calls_kernel.specs.Made.{AreInARow}
use Rattle.calls_text.specs.Recordings.{RecordingModel}
use Rattle.calls_text.specs.Rules.{KeepsRules}
use Rattle.calls_report.specs.declared.status.Status.TheVariants.{Done, InputOutput}
use Rattle.calls_report.specs.Checks.{Outputs}
use Rattle.calls_replay.specs.Made.{made_of}
use Rattle.calls_replay.specs.Replays.{IsTraceOfOrder, TracesOfOrdersAreRead, left_out, left_note}
use Rattle.calls_replay.specs.kept.Going.{AreMadeIn}
use Rattle.calls_replay.specs.kept.Ends.{WritesSteps}
use Rattle.ec_heading.proofs.shared.VersionFacts.{two_spells as can_spell_any}

can_spell_all : (v : Version) (entries : List Entry) → v ≡ Two → CanSpellAll v entries
can_spell_all v entries is = λ i d lt.
    let x : Entry = get_or entries i d in
    ap (λ (u : Version). can_spell u x.act) is ∙ can_spell_any x.act

-- the trace of a run that has made the calls of an order is that of the order
pub trace_of_order : (r : RecordingModel) (order : List Placed) (run : runs.RunModel)
    → (keeps : KeepsRules r) → run.setup ≡ r.heading.setup
    → IsAccepted run.setup (reverse run.entries)
    → AreMadeIn r.heading.setup (made_of r.heading.setup.limit order) (reverse run.entries)
    → IsTraceOfOrder r order (trace_text keeps.heading.outline run.entries)
trace_of_order r order run keeps same accepted made =
    let t : Tables = r.heading.setup in
    let past : List Entry = reverse run.entries in
    record {
      outline = keeps.heading.outline;
      is = keeps.heading.is;
      declares = keeps.heading.declares;
      made = record {
        steps = run.entries;
        accepted = subst (λ (s : Tables). IsAccepted s past) same accepted;
        calls = made.calls;
        in_a_row = subst (AreInARow 0 (finished_calls t past)) (length-reverse run.entries)
            made.in_a_row;
        ended = made.free;
      };
      spells = refl;
    }

-- the writing of the trace of a run, with a header
module _ (r : RecordingModel) (order : List Placed) (run : runs.RunModel) (h : HeadingModel) (is : h ≡ r.heading)
    (keeps : KeepsRules r) (same : run.setup ≡ h.setup)
    (accepted : IsAccepted run.setup (reverse run.entries))
    (made : AreMadeIn h.setup (made_of h.setup.limit order) (reverse run.entries))
    (old new : Outputs) where
  abbrev trace : List ℕ
  trace = trace_text keeps.heading.outline run.entries

  of_order : IsTraceOfOrder r order trace
  of_order =
      trace_of_order r order run keeps (same ∙ ap (λ (k : HeadingModel). k.setup) is) accepted
      (subst (λ (k : HeadingModel). AreMadeIn k.setup (made_of k.setup.limit order) (reverse run.entries))
      is made)

  pub all_written : ((o : HeaderTree) → IsHeaderTree o → heading_of_tree o ≡ h
      → Appends old.out new.out (trace_text o run.entries))
      → Puts old.notes new.notes (left_note (left_out r order)) → WritesSteps r order Done old new
  all_written writes puts = (
    trace,
    of_order,
    writes keeps.heading.outline keeps.heading.is (keeps.heading.declares ∙ sym is),
    puts,
  )

  pub part_written : ((o : HeaderTree) → IsHeaderTree o → heading_of_tree o ≡ h
      → AppendsPrefix old.out new.out (trace_text o run.entries))
      → Puts old.notes new.notes (codes "write fault\n")
      → WritesSteps r order InputOutput old new
  part_written writes puts = (
    trace,
    of_order,
    writes keeps.heading.outline keeps.heading.is (keeps.heading.declares ∙ sym is),
    puts,
  )

pub traces_of_orders_are_read : TracesOfOrdersAreRead
traces_of_orders_are_read text read order trace x within =
    let o : HeaderTree = x.trace_is.outline in
    let h : HeadingModel = read.recorded.heading in
    let steps : List Entry = x.trace_is.made.steps in
    let spells : trace ≡ trace_text o steps = x.trace_is.spells in
    let version : o.version ≡ Two =
    sym (version_found o) ∙ ap (λ (k : HeadingModel). k.version) x.trace_is.declares
    ∙ x.begins.spelled.keeps.version in
    let accepted : IsAccepted (heading_of_tree o).setup (reverse steps) =
    subst (λ (k : HeadingModel). IsAccepted k.setup (reverse steps)) (sym x.trace_is.declares)
    x.trace_is.made.accepted in
    let small : length (trace_text o steps) ≤ TRACE_MAX =
    subst (λ (l : List ℕ). length l ≤ TRACE_MAX) spells within in
    ap (parse_result TRACE_MAX) spells
    ∙ written_is_read o steps x.trace_is.is accepted (can_spell_all o.version steps version) small
    ∙ ap (λ (k : HeadingModel). Ok (record { heading = k; entries = steps })) x.trace_is.declares
