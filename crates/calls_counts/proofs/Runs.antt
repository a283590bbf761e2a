-- A legal sequential history of an eventcount by its count is one by the numbers of an object.
use Rattle.std.proofs.Common.{ℕ, ◌+◌, List, [], ◌∷◌, Some}
use Rattle.std.specs.List.Sorted.{IsPermutation}
use Rattle.std.proofs.lemmas.List.Sorted.{All-permutation}
use Rattle.calls_core.proofs.Lists.{all_from_each}
use Rattle.calls_core.proofs.Filters.{each_from_all}
use Rattle.calls_core.specs.declared.history.Kind.TheVariants.{Eventcount}
use Rattle.calls_core.specs.declared.history.Op.{Op}
use Rattle.calls_core.specs.declared.history.Op.TheVariants.{Advance, Read, Await, Ticket, P, V}
use Rattle.calls_core.specs.declared.history.Op.TheVariants.{PBoth, Put, Get, Produce, Consume}
use Rattle.calls_core.specs.declared.history.Reply.{Reply}
use Rattle.calls_core.specs.declared.history.Reply.TheVariants.{Done, Number, Timeout}
use Rattle.calls_core.specs.declared.history.Call.{Call}
use Rattle.calls_core.specs.Histories.{Takes}
use Rattle.calls_core.specs.Linearizations.{Gives, after, set_at, IsLegalHistory}
use Rattle.calls_core.specs.Lists.{Each}
use Rattle.calls_counts.specs.CountRuns.{CountGives, count_after, IsCountRun}
use Rattle.calls_counts.proofs.Events.{CallFits}

pub each_moved : {X : Type 0} (Q : X → Type 0) (xs ys : List X) → IsPermutation xs ys → Each Q xs
    → Each Q ys
each_moved Q xs ys m h = each_from_all Q ys (All-permutation Q xs ys m (all_from_each Q xs h))

-- one step, in each direction
step_to : (start : ℕ) (m : ℕ → ℕ) (op : Op) (r : Reply) (cs : List Call)
    → Takes (Some (Eventcount start)) op
    → ((n : ℕ → ℕ) → IsCountRun (n 0) cs → IsLegalHistory n cs)
    → CountGives (m 0) op r × IsCountRun (count_after (m 0) op) cs → Gives m op r
    × IsLegalHistory (after m op r) cs
step_to start m Advance r cs fits rest h = (h.0, rest (set_at 0 (m 0 + 1) m) h.1)
step_to start m Read r cs fits rest h = (h.0, rest m h.1)
step_to start m (Await v) Done cs fits rest h = (h.0, rest m h.1)
step_to start m (Await v) (Number n) cs fits rest h = (h.0, rest m h.1)
step_to start m (Await v) Timeout cs fits rest h = (h.0, rest m h.1)
step_to start m Ticket r cs fits rest h = absurd fits
step_to start m (P i) r cs fits rest h = absurd fits
step_to start m (V i) r cs fits rest h = absurd fits
step_to start m (PBoth i j) r cs fits rest h = absurd fits
step_to start m (Put v) r cs fits rest h = absurd fits
step_to start m Get r cs fits rest h = absurd fits
step_to start m (Produce v) r cs fits rest h = absurd fits
step_to start m Consume r cs fits rest h = absurd fits

step_from : (start : ℕ) (m : ℕ → ℕ) (op : Op) (r : Reply) (cs : List Call)
    → Takes (Some (Eventcount start)) op
    → ((n : ℕ → ℕ) → IsLegalHistory n cs → IsCountRun (n 0) cs)
    → Gives m op r × IsLegalHistory (after m op r) cs → CountGives (m 0) op r
    × IsCountRun (count_after (m 0) op) cs
step_from start m Advance r cs fits rest h = (h.0, rest (set_at 0 (m 0 + 1) m) h.1)
step_from start m Read r cs fits rest h = (h.0, rest m h.1)
step_from start m (Await v) Done cs fits rest h = (h.0, rest m h.1)
step_from start m (Await v) (Number n) cs fits rest h = (h.0, rest m h.1)
step_from start m (Await v) Timeout cs fits rest h = (h.0, rest m h.1)
step_from start m Ticket r cs fits rest h = absurd fits
step_from start m (P i) r cs fits rest h = absurd fits
step_from start m (V i) r cs fits rest h = absurd fits
step_from start m (PBoth i j) r cs fits rest h = absurd fits
step_from start m (Put v) r cs fits rest h = absurd fits
step_from start m Get r cs fits rest h = absurd fits
step_from start m (Produce v) r cs fits rest h = absurd fits
step_from start m Consume r cs fits rest h = absurd fits

pub sequential : (start : ℕ) (cs : List Call) → Each (CallFits (Eventcount start)) cs → (m : ℕ → ℕ)
    → IsCountRun (m 0) cs → IsLegalHistory m cs
sequential start [] fits m h = tt
sequential start (c ∷ cs) fits m h = step_to start m c.op c.reply cs fits.0
    (sequential start cs fits.1) h

pub counting : (start : ℕ) (cs : List Call) → Each (CallFits (Eventcount start)) cs → (m : ℕ → ℕ)
    → IsLegalHistory m cs → IsCountRun (m 0) cs
counting start [] fits m h = tt
counting start (c ∷ cs) fits m h = step_from start m c.op c.reply cs fits.0
    (counting start cs fits.1) h
