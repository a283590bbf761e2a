-- Calls of neither class stay so.
use Rattle.std.proofs.Common.{◌≡◌, ℕ, ◌≤◌, List, [], ◌∷◌, ◌++◌, ap, arith}
use Rattle.std.proofs.Common.{subst, sym, ◌∙◌, count_by, drop, reverse, take}
use Rattle.std.proofs.lemmas.Bool.{le-leb, leb-true}
use Rattle.std.proofs.lemmas.List.{take-take}
use Rattle.calls_core.specs.declared.history.Kind.TheVariants.{Cell}
use Rattle.calls_core.specs.declared.history.Event.{Event}
use Rattle.calls_core.specs.Beginnings.{past_at}
use Rattle.calls_core.specs.Histories.{pending_of, ended_call, pending_calls, completed_calls}
use Rattle.calls_core.specs.Histories.{IsHistoryOf}
use Rattle.calls_core.proofs.Beginnings.{history_at, past_split}
use Rattle.calls_core.proofs.Counting.{count_append}
use Rattle.calls_distinct.specs.Cells.{gets}
use Rattle.calls_distinct.proofs.Earlier.{times_more}
use Rattle.calls_cells.specs.declared.outcome.Undecided.{Undecided}
use Rattle.calls_cells.specs.Faults.{IsOutside}

pub stays : (x : Event) (past : List Event) (u : Undecided) → IsHistoryOf Cell (x ∷ past)
    → IsOutside past u → IsOutside (x ∷ past) u
stays x past u h s =
    let ended = ended_call x x.action (pending_of x.worker (pending_calls past)) in
    let done = completed_calls past in
    let v = u.value in
    let some = leb-true 1 (count_by (gets v) done) s.repeated.got in
    let le = times_more Cell v x past h in
    record {
      repeated = record {
        got = le-leb 1 (count_by (gets v) (ended ++ done))
            (omega (arith, count_append (gets v) ended done));
        twice = λ d. s.repeated.twice (let once = d.once in record {
          once = omega arith;
          zero_never = λ e. (let none = d.zero_never e in omega arith);
        });
      };
      overlap = record {
        late = x ∷ s.overlap.late;
        earlier = s.overlap.earlier;
        is = ap (λ zs. x ∷ zs) s.overlap.is;
        both = s.overlap.both;
      };
    }

stays_on : (late past : List Event) (u : Undecided) → IsHistoryOf Cell (late ++ past)
    → IsOutside past u → IsOutside (late ++ past) u
stays_on [] past u h s = s
stays_on (x ∷ late) past u h s = stays x (late ++ past) u h (stays_on late past u h.2 s)

-- a prefix of the events, split at a shorter one
pub longer_split : (events : List Event) (i j : ℕ) → i ≤ j
    → past_at j events ≡ reverse (drop i (take j events)) ++ past_at i events
longer_split events i j le = past_split i (take j events)
    ∙ ap (λ zs. reverse (drop i (take j events)) ++ reverse zs) (take-take i j events le)

-- so do those of a prefix of the events, with more events
pub stays_at : (events : List Event) (i j : ℕ) (u : Undecided) → IsHistoryOf Cell (reverse events)
    → i ≤ j → IsOutside (past_at i events) u → IsOutside (past_at j events) u
stays_at events i j u h le s =
    let split = longer_split events i j le in
    subst (λ zs. IsOutside zs u) (sym split)
    (stays_on (reverse (drop i (take j events))) (past_at i events) u
    (subst (IsHistoryOf Cell) split (history_at Cell j events h)) s)
