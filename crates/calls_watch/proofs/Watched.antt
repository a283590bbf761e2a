-- Which events are judged when their lines come.
use Rattle.std.proofs.Common.{◌≡◌, ◌≤◌, ℕ, ◌+◌, ◌-◌, ◌==◌, ◌&&◌, not, nat_le, Bool, true, false, cond}
use Rattle.std.proofs.Common.{List, [], ◌∷◌, length, slice_get, Option, Some, None, refl, ap, sym, ◌∙◌}
use Rattle.std.proofs.Common.{subst, arith}
use Rattle.std.proofs.lemmas.Bool.{eq-eqb, eqb-true, leb-true}
use Rattle.std.proofs.lemmas.Option.{none-some, same_Some}
use Rattle.std.specs.Option.{option_map_or}
use Rattle.std.specs.Global.{Vec}
use Rattle.ec_count.specs.Tables.{Tables}
use Rattle.ec_heading.specs.HeadingModel.{HeadingModel}
use Rattle.ec_heading.specs.declared.group.Group.{Group}
use Rattle.ec_heading.specs.declared.group.Group.TheVariants as groups
use Rattle.calls_core.specs.declared.history.Kind.{Kind}
use Rattle.calls_core.specs.declared.history.Kind.TheVariants.{Eventcount, Sequencer, Semaphores}
use Rattle.calls_core.specs.declared.history.Kind.TheVariants.{Cell, Database, Buffer}
use Rattle.calls_core.specs.declared.history.Op.{Op}
use Rattle.calls_core.specs.declared.history.Op.TheVariants.{Advance, Read, Await, Ticket, P, V}
use Rattle.calls_core.specs.declared.history.Op.TheVariants.{PBoth, Put, Get, Produce, Consume}
use Rattle.calls_core.specs.declared.history.Action.{Action}
use Rattle.calls_core.specs.declared.history.Action.TheVariants.{Invoke, Respond}
use Rattle.calls_core.specs.declared.history.Event.{Event}
use Rattle.calls_core.specs.declared.history.PendingCall.{PendingCall}
use Rattle.calls_core.specs.Histories.{pending_of, pending_calls, is_on, part, Takes, IsNext}
use Rattle.calls_core.specs.Histories.{IsHistory}
use Rattle.calls_local.proofs.Parts.{a_part_is_a_history}
use Rattle.calls_monitor.specs.declared.monitor.Monitor.{Monitor}
use Rattle.calls_monitor.specs.declared.monitor.Refused.{Refused as Report}
use Rattle.calls_monitor.specs.declared.object.Watch.{Watch}
use Rattle.calls_monitor.specs.declared.object.Watch.TheVariants as watches
use Rattle.calls_monitor.specs.Watched.{is_listed, is_watched, has_fit_room}
use Rattle.calls_monitor.specs.Monitors.{IsOf, IsRefused, IsUnwatched}
use Rattle.calls_monitor.specs.kept.Watching.{WatchesOf, Watches, has_monitor}
use Rattle.calls_text.specs.Recordings.{AreKinds, first_group, kind_of_group}
use Rattle.calls_watch.specs.Spsc.{is_spsc, is_spsc_group, has_one_taker, AreListed}
use Rattle.calls_watch.specs.Watches.{is_of_cells, invokes_cells, no_object, CallNone, AreWatched}
use Rattle.calls_watch.proofs.Uncalled.{BeginsWithNone, cell_begins, database_begins, buffer_begins}
use Rattle.calls_watch.proofs.Uncalled.{uncalled, part_calls_none}

and_left : (a b : Bool) → (a && b) ≡ true → a ≡ true
and_left true b is = refl
and_left false b is = is

and_right : (a b : Bool) → (a && b) ≡ true → b ≡ true
and_right true b is = is
and_right false b is = let never : false ≡ true = is in cc

and_false : (a : Bool) → (a && false) ≡ false
and_false true = refl
and_false false = refl

and_left_false : (a : Bool) → (a && true) ≡ false → a ≡ false
and_left_false true is = is
and_left_false false is = refl

le_by : (m n : ℕ) → nat_le m n ≡ true → m ≤ n
le_by m n is = leb-true m n is

-- BUFFERS WITH ONE PRODUCER AND ONE CONSUMER

-- the room of such a buffer
pub record IsFit (kinds : List Kind) (k : ℕ) : Type 0 where
  pub room : ℕ
  pub is : slice_get kinds k ≡ Some (Buffer room)
  pub fits : has_fit_room room ≡ true

fit_group : (t : Tables) (kinds : List Kind) (k : ℕ) (g : Group) → is_spsc_group t g ≡ true
    → slice_get kinds k ≡ Some (kind_of_group g) → IsFit kinds k
fit_group t kinds k (groups.Buffer b) is at = record {
  room = b.cells;
  is = at;
  fits = and_right (has_one_taker t b.put_seq && has_one_taker t b.take_seq)
      (has_fit_room b.cells) is;
}
fit_group t kinds k (groups.Semaphore s) is at = absurd (let never : false ≡ true = is in cc)
fit_group t kinds k (groups.Both b) is at = absurd (let never : false ≡ true = is in cc)
fit_group t kinds k (groups.Database d) is at = absurd (let never : false ≡ true = is in cc)

pub is_fit : (h : HeadingModel) (from : List (ℕ × ℕ)) (kinds : List Kind) (k : ℕ)
    → AreKinds h from kinds → is_spsc h k ≡ true → IsFit kinds k
is_fit h from kinds k are is =
    let le : first_group h ≤ k = le_by (first_group h) k (and_left _ _ is) in
    let at : first_group h + (k - first_group h) ≡ k = omega (arith, le) in
    elim (slice_get h.groups (k - first_group h)) as (λ o.
    slice_get h.groups (k - first_group h) ≡ o
    → option_map_or (is_spsc_group h.setup) o false ≡ true → IsFit kinds k) [
      | None ↦ λ e none. absurd (let never : false ≡ true = none in cc)
      | Some g ↦ λ e some. fit_group h.setup kinds k g some
          (subst (λ n. slice_get kinds n ≡ Some (kind_of_group g)) at
          (are.by_group (k - first_group h) g e))
    ] refl (and_right _ _ is)

module _ (h : HeadingModel) (from : List (ℕ × ℕ)) (kinds : List Kind) (spsc : List ℕ)
    (are : AreKinds h from kinds) (listed : AreListed h spsc) where
  -- an object that has no monitor is none of them
  not_spsc : (k : ℕ) (kind : Kind) → slice_get kinds k ≡ Some kind
      → is_watched spsc k kind ≡ false → is_spsc h k ≡ false
  not_spsc k kind at unwatched =
      elim (is_spsc h k) as (λ b. is_spsc h k ≡ b → b ≡ false) [
        | true ↦ λ is.
            (let f : IsFit kinds k = is_fit h from kinds k are is in
            let same : kind ≡ Buffer f.room = same_Some kind (Buffer f.room) (sym at ∙ f.is) in
            let none : (is_listed k spsc && has_fit_room f.room) ≡ false =
            ap (is_watched spsc k) (sym same) ∙ unwatched in
            let never : true ≡ false =
            sym (ap (λ b. b && has_fit_room f.room) (listed k ∙ is) ∙ f.fits) ∙ none in
            cc)
        | false ↦ λ is. refl
      ] refl

  begins_unwatched : (k : ℕ) (kind : Kind) → is_watched spsc k kind ≡ false → BeginsWithNone kind
  begins_unwatched k (Eventcount n) is = absurd (let never : true ≡ false = is in cc)
  begins_unwatched k Sequencer is = absurd (let never : true ≡ false = is in cc)
  begins_unwatched k (Semaphores units) is = absurd (let never : true ≡ false = is in cc)
  begins_unwatched k Cell is = cell_begins
  begins_unwatched k (Database n) is = database_begins n
  begins_unwatched k (Buffer n) is = buffer_begins n

  module _ (past : List Event) (x : Event) (history : IsHistory kinds (x ∷ past)) where
    -- an event that is not for a monitor is one of a call of such an object
    pub unwatched_called : IsUnwatched kinds spsc past x → AreWatched h (x ∷ past) → ⊥
    unwatched_called u w =
        let none : part u.object (x ∷ past) ≡ [] =
        uncalled u.kind (begins_unwatched u.object u.kind u.unwatched) (part u.object (x ∷ past))
        ((a_part_is_a_history kinds u.object (x ∷ past) history).4 u.kind u.of.at)
        (part_calls_none (is_spsc h) u.object (not_spsc u.object u.kind u.of.at u.unwatched)
        (x ∷ past) w) in
        let never : x ∷ part u.object past ≡ [] = sym u.of.own ∙ none in
        cc

  -- OPERATIONS

  count_plain : (n : ℕ) (op : Op) → Takes (Some (Eventcount n)) op → is_of_cells op ≡ false
  count_plain n Advance t = refl
  count_plain n Read t = refl
  count_plain n (Await v) t = refl
  count_plain n Ticket t = refl
  count_plain n (P i) t = refl
  count_plain n (V i) t = refl
  count_plain n (PBoth i j) t = refl
  count_plain n (Put v) t = absurd t
  count_plain n Get t = absurd t
  count_plain n (Produce v) t = absurd t
  count_plain n Consume t = absurd t

  ticket_plain : (op : Op) → Takes (Some Sequencer) op → is_of_cells op ≡ false
  ticket_plain Ticket t = refl
  ticket_plain Advance t = absurd t
  ticket_plain Read t = absurd t
  ticket_plain (Await v) t = absurd t
  ticket_plain (P i) t = absurd t
  ticket_plain (V i) t = absurd t
  ticket_plain (PBoth i j) t = absurd t
  ticket_plain (Put v) t = absurd t
  ticket_plain Get t = absurd t
  ticket_plain (Produce v) t = absurd t
  ticket_plain Consume t = absurd t

  unit_plain : (units : Vec ℕ) (op : Op) → Takes (Some (Semaphores units)) op
      → is_of_cells op ≡ false
  unit_plain units (P i) t = refl
  unit_plain units (V i) t = refl
  unit_plain units (PBoth i j) t = refl
  unit_plain units Advance t = absurd t
  unit_plain units Read t = absurd t
  unit_plain units (Await v) t = absurd t
  unit_plain units Ticket t = absurd t
  unit_plain units (Put v) t = absurd t
  unit_plain units Get t = absurd t
  unit_plain units (Produce v) t = absurd t
  unit_plain units Consume t = absurd t

  plain : (k : ℕ) (op : Op) → is_of_cells op ≡ false → invokes_cells (is_spsc h) (Invoke k op) ≡ false
  plain k op is = ap (λ b. b && not (is_spsc h k)) is

  -- a call of an object that has a monitor
  watched_op : (k : ℕ) (kind : Kind) (op : Op) → is_watched spsc k kind ≡ true → Takes (Some kind) op
      → invokes_cells (is_spsc h) (Invoke k op) ≡ false
  watched_op k (Eventcount n) op is t = plain k op (count_plain n op t)
  watched_op k Sequencer op is t = plain k op (ticket_plain op t)
  watched_op k (Semaphores units) op is t = plain k op (unit_plain units op t)
  watched_op k Cell op is t = absurd (let never : false ≡ true = is in cc)
  watched_op k (Database n) op is t = absurd (let never : false ≡ true = is in cc)
  watched_op k (Buffer n) op is t =
      let one : is_spsc h k ≡ true =
      sym (listed k) ∙ and_left (is_listed k spsc) (has_fit_room n) is in
      ap (λ b. is_of_cells op && not b) one ∙ and_false (is_of_cells op)

  -- EVENTS

  takes_by : (k : ℕ) (op : Op) (o : Option PendingCall) → IsNext kinds (Invoke k op) o
      → Takes (slice_get kinds k) op
  takes_by k op None next = next
  takes_by k op (Some p) next = absurd next

  kind_by : (t : Option Kind) (op : Op) → Takes t op → (kind : Kind) × (t ≡ Some kind)
  kind_by None op t = absurd t
  kind_by (Some kind) op t = (kind, refl)

  longer : (x : Event) (xs : List Event) → xs ≡ x ∷ xs → ⊥
  longer x xs same = omega (arith, ap length same)

  has_monitor_by : (kind : Kind) (x : Event) (xs : List Event) (v : Watch)
      → WatchesOf kind (x ∷ xs) v → has_monitor v ≡ true
  has_monitor_by kind x xs (watches.Count m) w = refl
  has_monitor_by kind x xs (watches.Ticket m) w = refl
  has_monitor_by kind x xs (watches.Units m) w = refl
  has_monitor_by kind x xs (watches.Items m) w = refl
  has_monitor_by (Eventcount n) x xs watches.Nothing w = absurd w
  has_monitor_by Sequencer x xs watches.Nothing w = absurd w
  has_monitor_by (Semaphores units) x xs watches.Nothing w = absurd w
  has_monitor_by Cell x xs watches.Nothing w = cc
  has_monitor_by (Database n) x xs watches.Nothing w = cc
  has_monitor_by (Buffer n) x xs watches.Nothing w = cc

  module _ (past : List Event) (x : Event) (history : IsHistory kinds (x ∷ past)) where
    abbrev his : Option PendingCall
    his = pending_of x.worker (pending_calls past)

    takes : (k : ℕ) (op : Op) → x.action ≡ Invoke k op → Takes (slice_get kinds k) op
    takes k op is = takes_by k op his (subst (λ a. IsNext kinds a his) is history.1)

    on_own : (k j : ℕ) (op : Op) → x.action ≡ Invoke j op → is_on k x.action his ≡ (j == k)
    on_own k j op is = ap (λ a. is_on k a his) is

    -- an event whose object has a monitor
    by_object : (k j : ℕ) (kind : Kind) (op : Op) → x.action ≡ Invoke j op → IsOf kinds past x k kind
        → is_watched spsc k kind ≡ true → invokes_cells (is_spsc h) (Invoke j op) ≡ false
    by_object k j kind op is of watched =
        elim (j == k) as (λ b. (j == k) ≡ b
        → invokes_cells (is_spsc h) (Invoke j op) ≡ false) [
          | true ↦ λ same.
              (let one : j ≡ k = eqb-true j k same in
              let at : slice_get kinds j ≡ Some kind = ap (slice_get kinds) one ∙ of.at in
              watched_op j kind op (ap (λ n. is_watched spsc n kind) one ∙ watched)
              (subst (λ t. Takes t op) at (takes j op is)))
          | false ↦ λ apart.
              (let none : is_on k x.action his ≡ false = on_own k j op is ∙ apart in
              absurd (longer x (part k past)
              (sym (ap (λ b. cond b (x ∷ part k past) (part k past)) none) ∙ of.own)))
        ] refl

    pub refused_watched : (report : Report) → IsRefused kinds spsc past x report
        → invokes_cells (is_spsc h) x.action ≡ false
    refused_watched report r =
        elim x.action as (λ a. x.action ≡ a → invokes_cells (is_spsc h) a ≡ false) [
          | Invoke j op ↦ λ is. by_object report.object j r.kind op is r.of r.watched
          | Respond reply ↦ λ is. refl
        ] refl

    by_monitor : (m : Monitor) → Watches kinds spsc (x ∷ past) m → (k : ℕ) (op : Op)
        → x.action ≡ Invoke k op → invokes_cells (is_spsc h) (Invoke k op) ≡ false
    by_monitor m w k op is =
        let some = kind_by (slice_get kinds k) op (takes k op is) in
        let own : part k (x ∷ past) ≡ x ∷ part k past =
        ap (λ b. cond b (x ∷ part k past) (part k past))
        (on_own k k op is ∙ eq-eqb k k refl) in
        let each = w.each k some.0 some.1 in
        by_object k k some.0 op is (record { at = some.1; own = own })
        (sym each.1.made ∙ has_monitor_by some.0 x (part k past) each.0
        (subst (λ (es : List Event). WatchesOf some.0 es each.0) own each.1.watches))

    pub taken_watched : (m : Monitor) → Watches kinds spsc (x ∷ past) m
        → invokes_cells (is_spsc h) x.action ≡ false
    taken_watched m w =
        elim x.action as (λ a. x.action ≡ a → invokes_cells (is_spsc h) a ≡ false) [
          | Invoke k op ↦ λ is. by_monitor m w k op is
          | Respond reply ↦ λ is. refl
        ] refl

-- what is called of these objects is called of all of them
pub calls_more : (others : ℕ → Bool) (past : List Event) → CallNone no_object past
    → CallNone others past
calls_more others [] none = tt
calls_more others (x ∷ past) none = (fewer x.action none.0, calls_more others past none.1)
  where
    fewer : (a : Action) → invokes_cells no_object a ≡ false → invokes_cells others a ≡ false
    fewer (Invoke k op) is =
        ap (λ b. b && not (others k)) (and_left_false (is_of_cells op) is)
    fewer (Respond r) is = refl
