-- A fault that a history shows, it shows with one more event too.
use Rattle.std.proofs.Common.{◌≡◌, ℕ, ◌+◌, ◌<◌, ◌≤◌, false, ◌&&◌, nat_le, List, ◌∷◌, arith}
use Rattle.std.specs.List.{Contains}
use Rattle.std.proofs.lemmas.Bool.{lt-leb, and_right}
use Rattle.std.proofs.lemmas.List.Elements.{All-contains, Contains-append_right}
use Rattle.calls_core.specs.declared.history.Kind.TheVariants.{Eventcount}
use Rattle.calls_core.specs.declared.history.Event.{Event}
use Rattle.calls_core.specs.declared.history.Call.{Call}
use Rattle.calls_counts.specs.declared.fault.Fault.{Fault}
use Rattle.calls_counts.specs.declared.fault.Fault.TheVariants.{Below, Few, Many, Since}
use Rattle.calls_core.specs.Histories.{clock, pending_of, pending_calls, ended_call}
use Rattle.calls_core.specs.Histories.{completed_calls, IsHistoryOf}
use Rattle.calls_counts.specs.Faults.{invokes_advance, lies_between, made_between, SaysAtMost}
use Rattle.calls_counts.specs.Faults.{Shows}
use Rattle.calls_core.proofs.Counting.{one_no, count_cons, count_append}
use Rattle.calls_counts.proofs.Events.{Spans, all_span}

module _ (start : ℕ) (x : Event) (past : List Event) where
  stays : (c : Call) → Contains (completed_calls past) c → Contains (completed_calls (x ∷ past)) c
  stays c h = Contains-append_right (ended_call x x.action
      (pending_of x.worker (pending_calls past))) (completed_calls past) c h

  number_stays : (c : Call) (n : ℕ) → SaysAtMost past c n → SaysAtMost (x ∷ past) c n
  number_stays c n t = record { known = stays c t.known; reading = t.reading; number = t.number }

  made_stays : (a d : ℕ) → made_between a d (completed_calls past) ≤ made_between a d
      (completed_calls (x ∷ past))
  made_stays a d = omega (
    arith,
    count_append (lies_between a d)
        (ended_call x x.action (pending_of x.worker (pending_calls past))) (completed_calls past),
  )

  pub shows_next : (f : Fault) → IsHistoryOf (Eventcount start) (x ∷ past) → Shows start past f
      → Shows start (x ∷ past) f
  shows_next (Below c) h f = record { known = stays c f.known; below = f.below }
  shows_next (Few c) h f =
      (let span : Spans (clock past) c = All-contains (Spans (clock past)) (completed_calls past) c
      (all_span (Eventcount start) past h.2) f.known in
      let early : c.last < clock past = span.1 in
      let later : clock past ≤ x.at = h.0 in
      let none : (invokes_advance x.action && nat_le x.at c.last) ≡ false =
      and_right (invokes_advance x.action) (nat_le x.at c.last)
      (lt-leb x.at c.last (omega arith)) in
      record {
        known = stays c f.known;
        reading = f.reading;
        more =
            omega (
              arith,
              f.more,
              one_no (invokes_advance x.action && nat_le x.at c.last) none,
              count_cons (λ (y : Event). invokes_advance y.action && nat_le y.at c.last) x past,
            );
      })
  shows_next (Many c) h f = record {
    number = f.number;
    call = number_stays c f.number f.call;
    fewer = omega (arith, f.fewer, made_stays 0 c.first);
  }
  shows_next (Since c s) h f = record {
    number = f.number;
    call = number_stays c f.number f.call;
    known = stays s f.known;
    reading = f.reading;
    before = f.before;
    fewer = omega (arith, f.fewer, made_stays (s.last + 1) c.first);
  }
