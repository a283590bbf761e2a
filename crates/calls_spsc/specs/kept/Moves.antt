-- What the functions of a monitor return.
use Rattle.std.specs.Prelude.{◌≡◌, ◌⊎◌, ℕ, ◌<◌, ◌≤◌, ◌==◌, Bool, true, false, Option, Some, None}
use Rattle.std.specs.Prelude.{IfSome, Result, Ok, Err, List, [], ◌∷◌, ◌++◌, length}
use Rattle.std.specs.Prelude.{if◌then◌else◌}
use Rattle.calls_core.specs.declared.history.Op.{Op}
use Rattle.calls_core.specs.declared.history.Op.TheVariants.{Produce, Consume}
use Rattle.calls_core.specs.declared.history.Reply.{Reply}
use Rattle.calls_core.specs.declared.history.Reply.TheVariants.{Done, Number, Timeout}
use Rattle.calls_core.specs.declared.history.Action.TheVariants.{Respond}
use Rattle.calls_core.specs.declared.history.Event.{Event}
use Rattle.calls_core.specs.declared.history.PendingCall.{PendingCall}
use Rattle.calls_core.specs.declared.history.Call.{Call}
use Rattle.calls_spsc.specs.declared.monitor.TheConstants.{ROOM_MAX}
use Rattle.calls_spsc.specs.declared.monitor.PendingPut.{PendingPut}
use Rattle.calls_spsc.specs.declared.monitor.PendingTake.{PendingTake}
use Rattle.calls_spsc.specs.declared.monitor.Monitor.{Monitor}
use Rattle.calls_spsc.specs.declared.monitor.Refused.{Refused}
use Rattle.calls_spsc.specs.declared.monitor.Refusal.{Refusal}
use Rattle.calls_spsc.specs.declared.monitor.Refusal.TheVariants.{NotNext, Empty, Full, Needed}
use Rattle.calls_spsc.specs.Monitors.{Judges}

-- INVOCATIONS

abbrev pub put_asked : PendingCall → Op → Option PendingPut → Option PendingPut
put_asked o (Produce v) put = Some (record { call = o; item = v; returned = false })
put_asked o op put = put

abbrev pub take_asked : PendingCall → Op → Option PendingTake → Option PendingTake
take_asked o Consume take = Some (record { call = o; taken = None })
take_asked o op take = take

pub record Asks (o : PendingCall) (old new : Monitor) : Type 0 where
  pub room : new.room ≡ old.room
  pub items : new.items.items ≡ old.items.items
  pub put : new.put ≡ put_asked o o.op old.put
  pub take : new.take ≡ take_asked o o.op old.take

-- RESPONSES

pub record KeepsRoomAndPut (old new : Monitor) : Type 0 where
  pub room : new.room ≡ old.room
  pub put : new.put ≡ old.put

pub record KeepsRoomAndTake (old new : Monitor) : Type 0 where
  pub room : new.room ≡ old.room
  pub take : new.take ≡ old.take

-- the pending consume takes the oldest item v, and the others are left
pub record Holds (v : ℕ) (items rest : List ℕ) (take later : Option PendingTake) : Type 0 where
  pub call : PendingCall
  pub before : take ≡ Some (record { call = call; taken = None })
  pub oldest : items ≡ v ∷ rest
  pub after : later ≡ Some (record { call = call; taken = Some v })

-- there is no item to be taken, or no pending consume that could take it
abbrev pub CannotHold : List ℕ → Option PendingTake → Type 0
CannotHold items take =
    (items ≡ []) ⊎ IfSome take (λ (t : PendingTake). t.taken ≡ None → ⊥)

abbrev pub MakesRoom : List ℕ → List ℕ → Option PendingTake → Option PendingTake → Bool → Type 0
MakesRoom items rest take later true = (v : ℕ) × Holds v items rest take later
MakesRoom items rest take later false = CannotHold items take

-- the item is put in, after the oldest one was taken if there was no room
abbrev pub IsPutIn : ℕ → List ℕ → List ℕ → Option PendingTake → Option PendingTake → ℕ → Type 0
IsPutIn room items more take later item =
    ((length items < room) × (more ≡ items ++ item ∷ []) × (later ≡ take))
    ⊎ ((room ≤ length items) × ((v : ℕ) × (rest : List ℕ) × Holds v items rest take later
    × (more ≡ rest ++ item ∷ [])))

-- there is no room; or so much room that no history is represented
abbrev pub HasNoRoom : ℕ → List ℕ → Option PendingTake → Type 0
HasNoRoom room items take =
    ((room ≤ length items) × CannotHold items take)
    ⊎ ((ROOM_MAX < room) ⊎ (ROOM_MAX < length items))

abbrev pub PutsIn :
    ℕ → List ℕ → List ℕ → Option PendingTake → Option PendingTake → ℕ → Result Unit Refusal → Type 0
PutsIn room items more take later item (Ok u) = IsPutIn room items more take later item
PutsIn room items more take later item (Err e) = (e ≡ Full) × HasNoRoom room items take

-- nothing changes
abbrev pub Stays : List ℕ → List ℕ → {X : Type 0} → X → X → Result Unit Refusal → Type 0
Stays items more x later result = (result ≡ Ok tt) × (more ≡ items) × (later ≡ x)

abbrev pub EndsPut :
    ℕ → List ℕ → List ℕ → Option PendingTake → Option PendingTake → ℕ → Reply → Bool
    → Result Unit Refusal → Type 0
EndsPut room items more take later item Done false result =
    PutsIn room items more take later item result
EndsPut room items more take later item Done true result = Stays items more take later result
EndsPut room items more take later item Timeout false result = Stays items more take later result
EndsPut room items more take later item Timeout true result = result ≡ Err Needed
EndsPut room items more take later item (Number v) returned result = Unit {0}

-- the pending produce's item v is returned
pub record IsEarly (v : ℕ) (put later : Option PendingPut) : Type 0 where
  pub call : PendingCall
  pub before : put ≡ Some (record { call = call; item = v; returned = false })
  pub after : later ≡ Some (record { call = call; item = v; returned = true })

-- v is taken out: it is the oldest item, or that of the pending produce
abbrev pub IsNextItem : List ℕ → List ℕ → Option PendingPut → Option PendingPut → ℕ → Type 0
IsNextItem items rest put later v =
    ((items ≡ v ∷ rest) × (later ≡ put)) ⊎ ((items ≡ []) × (rest ≡ []) × IsEarly v put later)

abbrev pub HasNoNext : List ℕ → Option PendingPut → Type 0
HasNoNext items put = (items ≡ []) × IfSome put (λ (p : PendingPut). p.returned ≡ true)

abbrev pub NextIs :
    List ℕ → List ℕ → Option PendingPut → Option PendingPut → Result ℕ Refusal → Type 0
NextIs items rest put later (Ok v) = IsNextItem items rest put later v
NextIs items rest put later (Err e) = (e ≡ Empty) × HasNoNext items put

abbrev pub expected : ℕ → ℕ → Result Unit Refusal
expected next v = if v == next then Ok tt else Err (NotNext next)

-- the consume returned v
abbrev pub Compares :
    List ℕ → List ℕ → Option PendingPut → Option PendingPut → ℕ → Result Unit Refusal → Type 0
Compares items rest put later v result =
    ((next : ℕ) × IsNextItem items rest put later next × (result ≡ expected next v))
    ⊎ ((result ≡ Err Empty) × HasNoNext items put)

abbrev pub EndsTake :
    List ℕ → List ℕ → Option PendingPut → Option PendingPut → Reply → Option ℕ
    → Result Unit Refusal → Type 0
EndsTake items rest put later (Number v) None result = Compares items rest put later v result
EndsTake items rest put later (Number v) (Some h) result =
    (result ≡ expected h v) × (rest ≡ items) × (later ≡ put)
EndsTake items rest put later Timeout None result = Stays items rest put later result
EndsTake items rest put later Timeout (Some h) result = result ≡ Err Needed
EndsTake items rest put later Done taken result = Unit {0}

abbrev pub verdict_on : Call → Result Unit Refusal → Result Unit Refused
verdict_on c (Ok u) = Ok u
verdict_on c (Err e) = Err (record { call = c; refusal = e })

abbrev pub Responds : Event → Reply → Monitor → Monitor → Result Unit Refused → Type 0
Responds x r old new result = x.action ≡ Respond r → Judges old new x result
