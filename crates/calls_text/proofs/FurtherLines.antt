-- A history after some events and at its end: the same header, and perhaps more events.
use Rattle.std.proofs.Common.{◌≡◌, ℕ, ◌+◌, true, false, cond, List, [], ◌∷◌, ◌++◌, Result, Ok, Err}
use Rattle.std.proofs.Common.{refl, ap, sym, ◌∙◌, append_assoc, append-nil, bytes_eq, codes}
use Rattle.calls_core.specs.declared.history.Event.{Event}
use Rattle.calls_text.specs.declared.fault.FaultKind.{FaultKind}
use Rattle.calls_text.specs.declared.fault.FaultKind.TheVariants as kinds
use Rattle.calls_text.specs.Recordings.{RecordingModel}
use Rattle.calls_text.specs.Reading.{Stage, Running, Ended, step, is_ended, event_step, map_running}
use Rattle.calls_text.specs.Outcomes.{OneRead, ParseResult, parse_from, after_line, parse_end, fault_in}
use Rattle.calls_text.proofs.TextParts.{not_at_end as rest_ends, by_line, by_rest}
use Rattle.calls_text.proofs.FollowingLines.{IsGrown, event_grown}

-- the same header, and the events with perhaps more after them
pub record GoesFurther (r t : RecordingModel) : Type 0 where
  pub heading : r.heading ≡ t.heading
  pub from : r.from ≡ t.from
  pub late : List Event
  pub events : t.events ≡ r.events ++ late

ended_same : (n : ℕ) (r : RecordingModel) (ps : List (List ℕ)) (o : OneRead)
    → parse_from n (Ended r) ps ≡ Ok o → r ≡ o.recorded
unfolding parse_from
ended_same n r ps o is =
    let same : ◌≡◌ {A = ParseResult} (Ok (record { recorded = r; number = n; rest = ps })) (Ok o) =
    is in
    let read : record { recorded = r; number = n; rest = ps } ≡ o = cc in
    ap (λ (x : OneRead). x.recorded) read

no_further : (r t : RecordingModel) → r ≡ t → GoesFurther r t
no_further r t same = record {
  heading = ap (λ (x : RecordingModel). x.heading) same;
  from = ap (λ (x : RecordingModel). x.from) same;
  late = [];
  events = sym (ap (λ (x : RecordingModel). x.events) same) ∙ sym (append-nil r.events);
}

one_further : (r q t : RecordingModel) → IsGrown r q → GoesFurther q t → GoesFurther r t
one_further r q t one more = record {
  heading = one.heading ∙ more.heading;
  from = one.from ∙ more.from;
  late = one.event ∷ more.late;
  events = more.events ∙ ap (λ (es : List Event). es ++ more.late) one.events
      ∙ append_assoc r.events (one.event ∷ []) more.late;
}

open_running : (r : RecordingModel) → is_ended (Running r) ≡ false
unfolding is_ended
open_running r = refl

ran_further : (n : ℕ) (line : List ℕ) (x : Result RecordingModel FaultKind) (others : Stage
    → ParseResult)
    (o : OneRead) (P : Type 0) → ((q : RecordingModel) → x ≡ Ok q → others (Running q) ≡ Ok o → P)
    → after_line n line (map_running x) others ≡ Ok o → P
ran_further n line (Ok q) others o P more is = more q refl is
ran_further n line (Err kind) others o P more is = absurd (let never : ⊥ = cc in never)

line_further : (n : ℕ) (r : RecordingModel) (line : List ℕ) (others : Stage
    → ParseResult) (o : OneRead)
    (P : Type 0) → (others (Ended r) ≡ Ok o → P)
    → ((q : RecordingModel) → IsGrown r q → others (Running q) ≡ Ok o → P)
    → after_line n line (step (Running r) line) others ≡ Ok o → P
unfolding step
line_further n r line others o P over more is =
    elim (bytes_eq line (codes "end")) as (λ b.
    after_line n line (cond b (Ok (Ended r)) (map_running (event_step r line))) others ≡ Ok o → P) [
      | true ↦ λ e. over e
      | false ↦ λ e. ran_further n line (event_step r line) others o P
          (λ q steps goes_on. more q (event_grown r line q steps) goes_on) e
    ] is

pub goes_further : (ps : List (List ℕ)) (n : ℕ) (r : RecordingModel) (o : OneRead)
    → parse_from n (Running r) ps ≡ Ok o → GoesFurther r o.recorded
unfolding parse_from
goes_further [] n r o is = absurd (rest_ends n (Running r) [] o is)
goes_further (rest ∷ []) n r o is =
    absurd (rest_ends n (Running r) rest o (sym (by_rest n (Running r) rest (open_running r)) ∙ is))
goes_further (line ∷ next ∷ others) n r o is =
    line_further n r line (λ t. parse_from (n + 1) t (next ∷ others)) o (GoesFurther r o.recorded)
    (λ e. no_further r o.recorded (ended_same (n + 1) r (next ∷ others) o e))
    (λ q one e. one_further r q o.recorded one (goes_further (next ∷ others) (n + 1) q o e))
    (sym (by_line n (Running r) line next others (open_running r)) ∙ is)
