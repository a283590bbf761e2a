-- A call that is being made, step by step. Histories have the newest entry first.
use Rattle.std.specs.Prelude.{◌≡◌, ◌≢◌, ℕ, ◌+◌, ◌-◌, ◌<◌, ◌≤◌, List, [], ◌∷◌, ◌++◌, length}
use Rattle.std.specs.Prelude.{Some, None}
use Rattle.ec_count.specs.Tables.{Tables}
use Rattle.ec_core.specs.declared.act.Act.{Act}
use Rattle.ec_core.specs.declared.act.Reply.{Reply}
use Rattle.ec_core.specs.declared.act.Reply.TheVariants.{Done, Number, Pending}
use Rattle.ec_core.specs.declared.act.Entry.{Entry}
use Rattle.ec_core.specs.Calls.{under_way}
use Rattle.ec_core.specs.Rounds.{position_of}
use Rattle.ec_order.specs.declared.call.Call.{Call as FinishedCall}
use Rattle.ec_order.specs.Calls.{finished_calls}
use Rattle.calls_core.specs.declared.history.Call.{Call}
use Rattle.calls_kernel.specs.Made.{AreMadeAs, AreInARow}

abbrev pub IsFree : List Entry → Type 0
IsFree past = (w : ℕ) → under_way w past ≡ None

-- these calls were made so far, and nothing else
pub record AreMadeIn (t : Tables) (cs : List Call) (past : List Entry) : Type 0 where
  pub calls : AreMadeAs t (finished_calls t past) cs
  pub in_a_row : AreInARow 0 (finished_calls t past) (length past)
  pub free : IsFree past

-- the call of worker w that the act began after the history past is pending
pub record IsGoing (t : Tables) (past : List Entry) (w : ℕ) (act : Act) (late : List Entry)
    : Type 0 where
  pub moments : List (List Entry)
  pub own : under_way w late ≡ Some (record { op = act; moments = moments })
  pub some : 0 < length moments
  pub first : position_of moments (length moments - 1) ≡ length past
  pub others : (v : ℕ) → v ≢ w → under_way v late ≡ None
  pub finished : finished_calls t late ≡ finished_calls t past
  pub longer : length past < length late

-- the call is completed, and returned this
pub record HasGone (t : Tables) (past : List Entry) (w : ℕ) (act : Act) (late : List Entry)
    (reply : Reply) : Type 0 where
  pub call : FinishedCall
  pub finished : finished_calls t late ≡ finished_calls t past ++ call ∷ []
  pub worker : call.worker ≡ w
  pub op : call.op ≡ act
  pub reply_is : call.reply ≡ reply
  pub first : call.first ≡ length past
  pub rises : call.first ≤ call.last
  pub last : call.last + 1 ≡ length late
  pub free : IsFree late

abbrev pub Goes : Tables → List Entry → ℕ → Act → List Entry → Reply → Type 0
Goes t past w act late Pending = IsGoing t past w act late
Goes t past w act late Done = HasGone t past w act late Done
Goes t past w act late (Number n) = HasGone t past w act late (Number n)
