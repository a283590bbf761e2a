-- The lines that are read as a history are its text.
use Rattle.std.proofs.Common.{◌≡◌, ℕ, ◌<◌, ◌≤◌, List, [], ◌∷◌, ◌++◌, true, false, cond, Result, Ok}
use Rattle.std.proofs.Common.{Err, length, refl, sym, ap, ap₂, ◌∙◌, subst, codes, append_assoc}
use Rattle.std.proofs.Common.{append-nil, bytes_eq}
use Rattle.std.proofs.lemmas.Slice.Eq.{bytes_eq-Decides}
use Rattle.ec_heading.specs.declared.version.Version.TheVariants.{Two}
use Rattle.ec_heading.specs.Versions.{greatest_limit}
use Rattle.ec_heading.specs.HeadingModel.{HeadingModel}
use Rattle.ec_heading.specs.HeaderTree.{empty_heading}
use Rattle.ec_heading.specs.HeadingInvariant.{HasHeaderTree}
use Rattle.ec_heading.specs.Recalled.{outline_of}
use Rattle.ec_heading.specs.Spelling.{heading_lines, limit_line}
use Rattle.calls_core.specs.declared.history.Event.{Event}
use Rattle.calls_text.specs.declared.fault.FaultKind.{FaultKind}
use Rattle.calls_text.specs.declared.fault.FaultKind.TheVariants as kinds
use Rattle.calls_text.specs.Recordings.{RecordingModel}
use Rattle.calls_text.specs.Reading.{Draft, Stage, Opening, Limiting, Declaring, Running, Ended}
use Rattle.calls_text.specs.Reading.{step}
use Rattle.calls_text.specs.Reading.{draft_of, limit_step, map_running, event_step, recorded_of}
use Rattle.calls_text.specs.Grammar.{from_lines, event_line, event_lines, history_lines}
use Rattle.calls_text.specs.kept.Leading.{Leads}
use Rattle.calls_text.specs.Rules.{AreStarts, GrowsBy, KeepsRules}
use Rattle.calls_text.proofs.EventLines.{Extends, Adds, line_adds}
use Rattle.calls_text.proofs.OpeningLines.{SaysLimit, limit_said, HeadsRun, heads_back}
use Rattle.calls_text.proofs.OpeningLines.{StartsSpelled, starts_spelled, starts_heading}
use Rattle.calls_text.proofs.OpeningLines.{HeadingSpelled, heading_spelled, drafted_back}

-- EVENTS

-- the lines are those of these events, and `end`
pub record EventsRun (r : RecordingModel) (lines : List (List ℕ)) (t : RecordingModel) : Type 0 where
  pub events : List Event
  pub heading : t.heading ≡ r.heading
  pub from : t.from ≡ r.from
  pub are : t.events ≡ r.events ++ events
  pub lists : Extends r.lists t.lists
  pub grows : GrowsBy (length events) r t
  pub spelled : lines ≡ event_lines r.heading t.lists r.events events ++ codes "end" ∷ []

event_run : (r s t : RecordingModel) (line : List ℕ) (lines : List (List ℕ)) → Adds r line s
    → EventsRun s lines t → EventsRun r (line ∷ lines) t
event_run r s t line lines one rest =
    let more : List (List ℕ) = rest.lists.0 in
    let after : event_lines s.heading t.lists s.events rest.events
    ≡ event_lines r.heading t.lists (r.events ++ one.event ∷ []) rest.events =
    ap₂ (λ (h : HeadingModel) (es : List Event). event_lines h t.lists es rest.events) one.heading
    one.events in
    record {
      events = one.event ∷ rest.events;
      heading = rest.heading ∙ one.heading;
      from = rest.from ∙ one.from;
      are = rest.are ∙ ap (λ (es : List Event). es ++ rest.events) one.events
          ∙ append_assoc r.events (one.event ∷ []) rest.events;
      lists = (
        one.lists.0 ++ rest.lists.0,
        rest.lists.1 ∙ ap (λ (ls : List (List ℕ)). ls ++ rest.lists.0) one.lists.1
            ∙ append_assoc r.lists one.lists.0 rest.lists.0,
      );
      grows = (s, one.grows, rest.grows);
      spelled = ap₂ (λ (x : List ℕ) (xs : List (List ℕ)). x ∷ xs)
          (one.spelled rest.lists.0
          ∙ ap (λ (ls : List (List ℕ)). event_line r.heading ls r.events one.event)
          (sym rest.lists.1))
          (rest.spelled ∙ ap (λ (xs : List (List ℕ)). xs ++ codes "end" ∷ []) after);
    }

ran_back : (r : Result RecordingModel FaultKind) (s : Stage) → map_running r ≡ Ok s
    → (t : RecordingModel) × (r ≡ Ok t) × (s ≡ Running t)
ran_back (Ok t) s is = (t, refl, cc)
ran_back (Err kind) s is = cc

nothing_after : (r t : RecordingModel) (lines : List (List ℕ)) → Leads (Ended r) lines (Ended t)
    → (lines ≡ []) × (r ≡ t)
unfolding step
nothing_after r t [] leads = (refl, cc)
nothing_after r t (line ∷ lines) leads =
    let never : Err kinds.BadLine ≡ Ok leads.0 = leads.1 in cc

end_run : (r t : RecordingModel) (line : List ℕ) (lines : List (List ℕ)) → line ≡ codes "end"
    → Leads (Ended r) lines (Ended t) → EventsRun r (line ∷ lines) t
end_run r t line lines is leads =
    let none = nothing_after r t lines leads in
    subst (EventsRun r (line ∷ lines)) none.1 (record {
      events = [];
      heading = refl;
      from = refl;
      are = sym (append-nil r.events);
      lists = ([], sym (append-nil r.lists));
      grows = refl;
      spelled = ap₂ (λ (x : List ℕ) (xs : List (List ℕ)). x ∷ xs) is none.0;
    })

ended_is : (r : RecordingModel) (s : Stage) → ◌≡◌ {A = Result Stage FaultKind} (Ok (Ended r)) (Ok s)
    → s ≡ Ended r
ended_is r s is = cc

pub events_run : (r t : RecordingModel) (lines : List (List ℕ)) → HasHeaderTree r.heading
    → Leads (Running r) lines (Ended t) → EventsRun r lines t
unfolding step
events_run r t [] has leads = cc
events_run r t (line ∷ lines) has (next, taken, leads) =
    elim (bytes_eq line (codes "end")) as (λ b. bytes_eq line (codes "end") ≡ b
    → cond b (Ok (Ended r)) (map_running (event_step r line)) ≡ Ok next
    → EventsRun r (line ∷ lines) t) [
      | true ↦ λ q ends.
          end_run r t line lines ((bytes_eq-Decides line (codes "end")).0 q)
          (subst (λ (s : Stage). Leads s lines (Ended t)) (ended_is r next ends) leads)
      | false ↦ λ q runs.
          (let e = ran_back (event_step r line) next runs in
          let one : Adds r line e.0 = line_adds r e.0 line has e.1 in
          event_run r e.0 t line lines one
          (events_run e.0 t lines (subst HasHeaderTree (sym one.heading) has)
          (subst (λ (s : Stage). Leads s lines (Ended t)) e.2 leads)))
    ] refl taken

-- ALL LINES

header_back : (line : List ℕ) (s : Stage) → step Opening line ≡ Ok s
    → (line ≡ codes "evc-calls 1") × (s ≡ Limiting)
unfolding step
header_back line s is =
    elim (bytes_eq line (codes "evc-calls 1")) as (λ b. bytes_eq line (codes "evc-calls 1") ≡ b
    → cond b (Ok Limiting) (Err kinds.BadHeader) ≡ Ok s
    → (line ≡ codes "evc-calls 1") × (s ≡ Limiting)) [
      | true ↦ λ q here. ((bytes_eq-Decides line (codes "evc-calls 1")).0 q, cc)
      | false ↦ λ q none. cc
    ] refl is

limit_back : (line : List ℕ) (s : Stage) → step Limiting line ≡ Ok s
    → (d : Draft) × SaysLimit line d × (s ≡ Declaring d)
unfolding step
limit_back line s is =
    let d = drafted_back (limit_step line) s is in (d.0, limit_said line d.0 d.1, d.2)

-- the lines of a history with these parts
abbrev lines_with : HeadingModel → List (ℕ × ℕ) → List Event → List (List ℕ) → List (List ℕ)
lines_with h from events lists =
    codes "evc-calls 1" ∷ (heading_lines (outline_of h)
    ++ (from_lines h from ++ codes "run"
    ∷ (event_lines h lists [] events ++ codes "end" ∷ [])))

lines_same : (h g : HeadingModel) (from counts : List (ℕ × ℕ)) (events xs : List Event)
    (lists : List (List ℕ)) → g ≡ h → counts ≡ from → xs ≡ events
    → lines_with h from events lists ≡ lines_with g counts xs lists
lines_same h g from counts events xs lists p q s =
    ap (λ (k : HeadingModel). lines_with k from events lists) (sym p)
    ∙ ap₂ (λ (c : List (ℕ × ℕ)) (es : List Event). lines_with g c es lists) (sym q) (sym s)

-- the lines after that of the limit: a header, initial counts and events
record HasBody (limit : ℕ) (lines : List (List ℕ)) (t : RecordingModel) : Type 0 where
  keeps : KeepsRules t
  spelled : codes "evc-calls 1" ∷ limit_line limit ∷ lines ≡ history_lines t

grown_from : (t : RecordingModel) (h : HeadingModel) (from : List (ℕ × ℕ)) (k n : ℕ) → k ≡ n
    → h ≡ t.heading → from ≡ t.from
    → GrowsBy k (record { heading = h; from = from; events = []; lists = [] }) t
    → GrowsBy n (record { heading = t.heading; from = t.from; events = []; lists = [] }) t
grown_from t h from k n count heading counts grows =
    subst (λ (c : List (ℕ × ℕ)).
    GrowsBy n (record { heading = t.heading; from = c; events = []; lists = [] }) t) counts
    (subst (λ (g : HeadingModel).
    GrowsBy n (record { heading = g; from = from; events = []; lists = [] }) t) heading (subst (λ (i : ℕ).
    GrowsBy i (record { heading = h; from = from; events = []; lists = [] }) t) count grows))

body_back : (limit : ℕ) (lines : List (List ℕ)) (t : RecordingModel) → 1 ≤ limit
    → limit ≤ greatest_limit Two → HeadsRun (empty_heading Two limit []) lines t
    → HasBody limit lines t
body_back limit lines t low high run =
    let same : run.last.heading ≡ run.heading =
    starts_heading (draft_of run.heading) run.last run.starts run.start_lead in
    let some : 0 < run.heading.setup.workers =
    subst (λ (h : HeadingModel). 0 < h.setup.workers) same run.some in
    let top : HeadingSpelled limit run.heads run.heading =
    heading_spelled limit run.heads run.heading low high some run.head_lead in
    let starts : StartsSpelled (draft_of run.heading) run.starts run.last =
    starts_spelled (draft_of run.heading) run.last run.starts top.has run.start_lead in
    let events : EventsRun (recorded_of run.last) run.rest t =
    events_run (recorded_of run.last) t run.rest (subst HasHeaderTree (sym same) top.has) run.runs in
    let heading : t.heading ≡ run.heading = events.heading ∙ same in
    let from : t.from ≡ starts.counts = events.from ∙ starts.from in
    let ending : run.rest
    ≡ event_lines run.heading t.lists [] events.events ++ codes "end" ∷ [] =
    events.spelled
    ∙ ap (λ (h : HeadingModel). event_lines h t.lists [] events.events ++ codes "end" ∷ []) same in
    let all : codes "evc-calls 1" ∷ limit_line limit ∷ lines
    ≡ lines_with run.heading starts.counts events.events t.lists =
    ap (λ (ls : List (List ℕ)). codes "evc-calls 1" ∷ limit_line limit ∷ ls) run.are
    ∙ ap (λ (ls : List (List ℕ)). codes "evc-calls 1" ∷ limit_line limit
    ∷ (run.heads ++ (run.starts ++ codes "run" ∷ ls))) ending
    ∙ ap₂ (λ (hs : List (List ℕ)) (ss : List (List ℕ)). codes "evc-calls 1" ∷ (hs
    ++ (ss ++ codes "run" ∷ (event_lines run.heading t.lists [] events.events
    ++ codes "end" ∷ [])))) top.spelled starts.spelled in
    record {
      keeps = record {
        heading = subst HasHeaderTree (sym heading) top.has;
        version = ap (λ (h : HeadingModel). h.version) heading ∙ top.version;
        starts = subst (λ (h : HeadingModel). AreStarts h [] t.from) (sym heading)
            (subst (AreStarts run.heading []) (sym from) starts.are);
        grows = grown_from t run.last.heading run.last.from (length events.events)
            (length t.events) (ap length (sym events.are)) (sym events.heading) (sym events.from)
            events.grows;
      };
      spelled = all ∙ lines_same run.heading t.heading starts.counts t.from events.events t.events
          t.lists heading from events.are;
    }

-- what the lines of a history say
pub record IsHistory (lines : List (List ℕ)) (t : RecordingModel) : Type 0 where
  pub keeps : KeepsRules t
  pub spelled : lines ≡ history_lines t

limit_lines : (line : List ℕ) (lines : List (List ℕ)) (t : RecordingModel) (d : Draft)
    → SaysLimit line d → Leads (Declaring d) lines (Ended t)
    → IsHistory (codes "evc-calls 1" ∷ line ∷ lines) t
limit_lines line lines t d says leads =
    let b : HasBody says.limit lines t =
    body_back says.limit lines t says.low says.high (heads_back (empty_heading Two says.limit []) lines t
    (subst (λ (e : Draft). Leads (Declaring e) lines (Ended t)) says.opens leads)) in
    record {
      keeps = b.keeps;
      spelled = ap (λ (x : List ℕ). codes "evc-calls 1" ∷ x ∷ lines) says.spelled ∙ b.spelled;
    }

header_lines : (line : List ℕ) (lines : List (List ℕ)) (t : RecordingModel)
    → line ≡ codes "evc-calls 1" → Leads Limiting lines (Ended t) → IsHistory (line ∷ lines) t
header_lines line [] t is leads = cc
header_lines line (next ∷ lines) t is (s, taken, leads) =
    let d = limit_back next s taken in
    subst (λ (x : List ℕ). IsHistory (x ∷ next ∷ lines) t) (sym is)
    (limit_lines next lines t d.0 d.1
    (subst (λ (k : Stage). Leads k lines (Ended t)) d.2 leads))

-- lines that lead to a history are those of its text, and it keeps the rules
pub history_back : (lines : List (List ℕ)) (t : RecordingModel) → Leads Opening lines (Ended t)
    → IsHistory lines t
history_back [] t leads = cc
history_back (line ∷ lines) t (s, taken, leads) =
    let b = header_back line s taken in
    header_lines line lines t b.0 (subst (λ (k : Stage). Leads k lines (Ended t)) b.1 leads)

pub lines_back : (lines : List (List ℕ)) (t : RecordingModel) → Leads Opening lines (Ended t)
    → lines ≡ history_lines t
lines_back lines t leads = (history_back lines t leads).spelled
