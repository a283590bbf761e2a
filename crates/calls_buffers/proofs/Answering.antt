-- What the ranks of items decide.
use Rattle.std.proofs.Common.{◌≡◌, ℕ, zero, suc, ◌<◌, ◌≤◌, ◌⊎◌, inl, inr, nat_le, nat_lt, true}
use Rattle.std.proofs.Common.{List, [], ◌∷◌, arith, subst, sym, refl}
use Rattle.std.proofs.Common.{reverse, Result, Ok, Err, IfOk, Option, Some, None, MatchOption}
use Rattle.std.specs.List.{Contains, filter}
use Rattle.std.proofs.lemmas.Bool.{cases_lt, le-leb, lt-leb, ltb-true}
use Rattle.calls_core.specs.declared.history.Kind.TheVariants.{Buffer}
use Rattle.calls_core.specs.declared.history.Event.{Event}
use Rattle.calls_core.specs.declared.history.PendingCall.{PendingCall}
use Rattle.calls_core.specs.declared.history.Call.{Call}
use Rattle.calls_core.specs.Lists.{Each}
use Rattle.calls_core.specs.Histories.{IsHistoryOf, clock, completed_calls, pending_calls}
use Rattle.calls_core.proofs.Lists.{each_weaker, each_filter, each_kept, each_pair_filter}
use Rattle.calls_core.proofs.Counting.{one_yes, one_no, count_cons}
use Rattle.calls_schedule.specs.declared.job.Job.{Job}
use Rattle.calls_buffers.specs.declared.windows.Window.{Window}
use Rattle.calls_buffers.specs.declared.accesses.Place.{Place}
use Rattle.calls_buffers.specs.declared.deciding.Outcome.{Outcome}
use Rattle.calls_buffers.specs.declared.deciding.Outcome.TheVariants.{Ordered, Refused, NotDecided}
use Rattle.calls_buffers.specs.Faults.{ShowsIn}
use Rattle.calls_buffers.specs.Counts.{item, all_puts}
use Rattle.calls_buffers.specs.Jobs.{AreJobs}
use Rattle.calls_buffers.specs.Outcomes.{AreAnswered, AreDistinct, AreInTurn, AreTakenInTurn}
use Rattle.calls_buffers.specs.Outcomes.{IsOutcome}
use Rattle.calls_buffers.specs.kept.Windows.{in_by}
use Rattle.calls_buffers.specs.kept.Windows.{IsWindow, IsWithin, AreWindows}
use Rattle.calls_buffers.specs.Accesses.{AreWithin}
use Rattle.calls_buffers.specs.kept.Jobs.{AreJobsFrom}
use Rattle.calls_buffers.specs.kept.Ranks.{AreFit}
use Rattle.calls_buffers.specs.kept.Pairs.{IsUnproduced}
use Rattle.calls_buffers.specs.kept.Decisions.{AllReturned, NoneAsked, Fits, AreSimple, IsAnswer}
use Rattle.calls_buffers.proofs.Deciders.{order_of_found}
use Rattle.calls_buffers.proofs.JobsOf.{whole_sound, sound_if_returned}
use Rattle.calls_buffers.proofs.RanksOf.{are_fit}
use Rattle.calls_buffers.proofs.AreWindows.{one_of}

each_returned : (ws : List Window) (end : ℕ) → AllReturned ws end
    → Each (λ (w : Window). w.take_last < end) ws
each_returned [] end none = tt
each_returned (w ∷ ws) end none =
    let parts = count_cons (λ (x : Window). nat_le end x.take_last) w ws in
    elim (cases_lt w.take_last end) [
      | inl lt ↦ (lt, each_returned ws end (omega (arith, none, parts)))
      | inr le ↦ absurd (omega (
        arith,
        none,
        parts,
        one_yes (nat_le end w.take_last)
            (le-leb end w.take_last le),
      ))
    ]

all_returned : (ws : List Window) (end : ℕ) → Each (λ (w : Window). w.take_last < end) ws
    → AllReturned ws end
all_returned [] end h = refl
all_returned (w ∷ ws) end h = omega (
  arith,
  count_cons (λ (x : Window). nat_le end x.take_last) w ws,
  one_no (nat_le end w.take_last) (lt-leb end w.take_last h.0),
  all_returned ws end h.1,
)

-- the jobs of all items, if no pending consume may have taken one
pub all_sound : (end : ℕ) (done : List Call) (pending : List PendingCall) (ws : List Window)
    (js : List Job) → AreWindows done pending end ws
    → AllReturned ws end ⊎ NoneAsked pending → AreJobsFrom ws ws js → AreJobs done pending end js
all_sound end done pending ws js are (inr none) h =
    whole_sound end done pending ws js are none h
all_sound end done pending ws js are (inl all) h =
    sound_if_returned end done pending ws ws js are (λ w k. k) are.ascend (each_returned ws end all) h

-- of calls that are always decided, no pending consume may have taken an item
pub is_settled : (end : ℕ) (done : List Call) (pending : List PendingCall) (ws : List Window)
    → AreWithin end done pending → AreWindows done pending end ws → AreAnswered done pending
    → AllReturned ws end ⊎ NoneAsked pending
is_settled end done pending ws within are (inl none) = inr none
is_settled end done pending ws within are (inr taken) =
    inl (all_returned ws end (each_weaker (IsWindow done pending end)
    (λ (w : Window). w.take_last < end) with_take ws are.each))
  where
    with_take : (w : Window) → IsWindow done pending end w → w.take_last < end
    with_take w k = elim k.take [
      | inl t ↦ (let e = (one_of (λ (c : Call). (c.first < c.last) × (c.last < end)) done
          t.call within.completed t.consume.known).1 in omega (arith, e, t.last))
      | inr u ↦ elim k.put [
        | inl p ↦ absurd (omega (arith, u.none, taken w.item p.call p.produce))
        | inr o ↦ absurd (let i : ℕ = in_by w in omega (arith, k.some, o.last, u.last))
      ]
    ]

-- what holds of a result holds of what follows from it
pub if_ok : {T E : Type 0} (P Q : T → Type 0) → ((x : T) → P x → Q x) → (r : Result T E)
    → IfOk r P → IfOk r Q
if_ok P Q f (Ok x) h = f x h
if_ok P Q f (Err e) h = h

abbrev AreItems : List Call → List PendingCall → Type 0
AreItems done pending =
    AreDistinct done pending ⊎ AreInTurn done pending ⊎ AreTakenInTurn done pending

-- what is answered of the calls of a history is its outcome
pub outcome : (n t : ℕ) (events : List Event) (done : List Call) (pending : List PendingCall)
    (o : Outcome) → IsHistoryOf (Buffer n) (reverse events) → clock (reverse events) ≤ t
    → done ≡ completed_calls (reverse events) → pending ≡ pending_calls (reverse events)
    → IsAnswer n done pending t o → IsOutcome n events t o
outcome n t events done pending (Ordered cs) h le d p a =
    order_of_found n t (reverse events) done pending cs h le d p a
outcome n t events done pending (Refused f) h le d p a =
    subst (λ zs. ShowsIn n zs (pending_calls (reverse events)) f) d
    (subst (λ os. ShowsIn n done os f) p a)
outcome n t events done pending NotDecided h le d p a = λ fits simple. a fits (record {
  room = simple.room;
  items = subst (λ zs. AreItems zs pending) (sym d)
      (subst (AreItems (completed_calls (reverse events))) (sym p) simple.items);
})

-- items do not differ that are not paired, if no consume is unproduced
pub not_distinct : (done : List Call) (pending : List PendingCall) (alone : Option Place)
    → (((v : ℕ) → all_puts (item v) done pending ≤ 1)
    → MatchOption alone ⊥ (IsUnproduced done pending))
    → ((place : Place) → alone ≡ Some place → IsUnproduced done pending place → ⊥)
    → AreDistinct done pending → ⊥
not_distinct done pending None known none distinct = known distinct.once
not_distinct done pending (Some place) known none distinct =
    none place refl (known distinct.once)

-- calls are of no class that is always decided, if neither their items differ nor they are in turn
pub not_simple : (n end : ℕ) (done : List Call) (pending : List PendingCall)
    → (Fits end → AreDistinct done pending → ⊥)
    → (AreInTurn done pending ⊎ AreTakenInTurn done pending → ⊥)
    → Fits end → AreSimple n done pending → ⊥
not_simple n end done pending distinct turns fits simple = elim simple.items [
  | inl h ↦ distinct fits h
  | inr h ↦ turns h
]

-- WHAT WAS RETURNED

abbrev pub returned : List Window → ℕ → List Window
returned ws end = filter (λ (w : Window). nat_lt w.take_last end) ws

pub returned_each : (ws : List Window) (end : ℕ)
    → Each (λ (w : Window). w.take_last < end) (returned ws end)
returned_each ws end = each_weaker (λ (w : Window). Unit {0} × (nat_lt w.take_last end ≡ true))
    (λ (w : Window). w.take_last < end) (λ w k. ltb-true w.take_last end k.1) (returned ws end)
    (each_filter (λ (w : Window). Unit {0}) (λ (w : Window). nat_lt w.take_last end) ws (units ws))
  where
    units : (xs : List Window) → Each (λ (w : Window). Unit {0}) xs
    units [] = tt
    units (x ∷ xs) = (tt, units xs)

pub returned_fit : (ws : List Window) (end : ℕ) → AreFit end ws → AreFit end (returned ws end)
returned_fit ws end h =
    let test = λ (w : Window). nat_lt w.take_last end in
    record {
      ascend = each_pair_filter (λ (x y : Window). x.item < y.item) test ws h.ascend;
      within = each_kept (IsWithin end) test ws h.within;
      some = each_kept (λ (w : Window). in_by w < end) test ws h.some;
      begun = each_kept (λ (w : Window). w.put_first ≤ in_by w) test ws h.begun;
    }

pub returned_sound : (end : ℕ) (done : List Call) (pending : List PendingCall) (ws : List Window)
    (js : List Job) → AreWindows done pending end ws
    → AreJobsFrom (returned ws end) (returned ws end) js → AreJobs done pending end js
returned_sound end done pending ws js are h =
    sound_if_returned end done pending ws (returned ws end) js are known
    (returned_fit ws end (are_fit end done pending ws are)).ascend (returned_each ws end) h
  where
    self : (xs : List Window) → ((w : Window) → Contains xs w → Contains ws w)
        → Each (Contains ws) xs
    self [] f = tt
    self (x ∷ xs) f = (
      f x (zero, omega arith, refl),
      self xs (λ w c. f w (suc c.0, (let s = c.1 in omega arith), c.2)),
    )

    known : (w : Window) → Contains (returned ws end) w → Contains ws w
    known w c = one_of (Contains ws) (returned ws end) w
        (each_kept (Contains ws) (λ (x : Window). nat_lt x.take_last end) ws
        (self ws (λ x k. k))) c
