-- Produces paired with consumes.
use Rattle.std.specs.Prelude.{◌≡◌, ℕ, ◌<◌, nat_le, nat_lt, ◌⊎◌, MatchOption, Bool, true, false}
use Rattle.std.specs.Prelude.{Option, Some, None}
use Rattle.std.specs.Prelude.{List, [], ◌++◌, ◌∷◌, length, slice_index_or, if◌then◌else◌}
use Rattle.std.specs.List.{Contains}
use Rattle.calls_core.specs.declared.history.PendingCall.{PendingCall}
use Rattle.calls_core.specs.declared.history.Call.{Call}
use Rattle.calls_core.specs.Lists.{Each}
use Rattle.calls_buffers.specs.declared.accesses.Place.{Place}
use Rattle.calls_buffers.specs.declared.accesses.Place.TheVariants.{Completed}
use Rattle.calls_buffers.specs.declared.accesses.Access.{Access}
use Rattle.calls_buffers.specs.declared.windows.Window.{Window}
use Rattle.calls_buffers.specs.Counts.{item, returned_takes, invoked_puts}
use Rattle.calls_buffers.specs.Jobs.{IsConsumeOf}
use Rattle.calls_buffers.specs.kept.Accesses.{find_access, Ascend, IsRepeated, later}

-- the window of an item with this produce and this consume
abbrev pub with_take : Access → Access → Window
with_take p t = record {
  item = p.item;
  put = p.place;
  put_first = p.first;
  put_last = p.last;
  take = Some t.place;
  take_first = t.first;
  take_last = t.last;
}

-- and with no consume
abbrev pub without_take : ℕ → Access → Window
without_take end p = record {
  item = p.item;
  put = p.place;
  put_first = p.first;
  put_last = p.last;
  take = None;
  take_first = end;
  take_last = end;
}

-- a pending produce whose item nobody returned is left out
abbrev pub window_of : ℕ → Access → Option Access → List Window
window_of end p (Some t) = with_take p t ∷ []
window_of end p None = if nat_lt p.last end then without_take end p ∷ [] else []

abbrev pub window_list : ℕ → List Access → List Access → List Window
window_list end takes [] = []
window_list end takes (p ∷ puts) =
    window_of end p (find_access takes p.item) ++ window_list end takes puts

-- whether a consume returned after its produce was invoked
abbrev pub fits_put : Access → Option Access → Bool
fits_put t None = false
fits_put t (Some p) = nat_le p.first t.last

abbrev pub fits : List Access → Access → Bool
fits puts t = fits_put t (find_access puts t.item)

-- the place of a consume that does not
pub record IsUnfit (puts takes : List Access) (place : Place) : Type 0 where
  pub take : Access
  pub known : Contains takes take
  pub at : take.place ≡ place
  pub not : fits puts take ≡ false

-- up to the response of the call there, more consumes had returned its item than produces of it
-- were invoked
pub record IsUnproduced (done : List Call) (pending : List PendingCall) (place : Place) : Type 0
  where
    pub index : ℕ
    pub at : place ≡ Completed index
    pub call : Call
    pub is : (d : Call) → slice_index_or done index d ≡ call
    pub within : index < length done
    pub value : ℕ
    pub consume : IsConsumeOf done value call
    pub more : invoked_puts (item value) call.last done pending
        < returned_takes (item value) call.last done

-- each item is put in once and taken once, when it was put in, and these are the windows
pub record ArePaired (end : ℕ) (puts takes : List Access) (ws : List Window) : Type 0 where
  pub puts_ascend : Ascend puts
  pub takes_ascend : Ascend takes
  pub fit : Each (λ (t : Access). fits puts t ≡ true) takes
  pub is : ws ≡ window_list end takes puts

-- an item was put in twice, or taken twice, or taken before it was put in
pub record IsTwicePut (puts : List Access) : Type 0 where
  pub index : ℕ
  pub repeated : IsRepeated puts index

pub record IsTwiceTaken (takes : List Access) (alone : Option Place) : Type 0 where
  pub index : ℕ
  pub repeated : IsRepeated takes index
  pub at : alone ≡ Some (later takes index)

pub record IsTakenEarly (puts takes : List Access) (alone : Option Place) : Type 0 where
  pub ascend : Ascend puts
  pub unfit : MatchOption alone ⊥ (IsUnfit puts takes)

abbrev pub AreNotPaired : List Access → List Access → Option Place → Type 0
AreNotPaired puts takes alone =
    IsTwicePut puts ⊎ (IsTwiceTaken takes alone ⊎ IsTakenEarly puts takes alone)
