-- Pending calls. A worker's entries are cut, in order, into calls: a read or an await continues
-- with the worker's next goes, up to its first entry whose reply is not Pending; every other act is
-- a call of one entry.
use Rattle.std.specs.Prelude.{ℕ, Bool, true, false, ◌==◌, ◌&&◌, List, [], ◌∷◌, Option, Some, None, if◌then◌else◌}
use Rattle.ec_core.specs.declared.act.Act.{Act}
use Rattle.ec_core.specs.declared.act.Act.TheVariants.{Go}
use Rattle.ec_core.specs.declared.act.Reply.{Reply}
use Rattle.ec_core.specs.declared.act.Reply.TheVariants.{Pending}
use Rattle.ec_core.specs.declared.act.Entry.{Entry}

abbrev pub is_pending : Reply → Bool
is_pending Pending = true
is_pending _ = false

abbrev pub is_go : Act → Bool
is_go Go = true
is_go _ = false

-- whether an entry continues a call, and does not end it
abbrev pub is_intermediate : Entry → Bool
is_intermediate x = is_go x.act && is_pending x.reply

-- a call so far: the act that began it, and for each of its entries, the newest first, the reversed
-- history before it
pub record CallSoFar : Type 0 where
  pub op : Act
  pub moments : List (List Entry)

-- the call after an act that follows the reversed history past: a go continues the call, and any
-- other act begins one
abbrev pub call_with_act : Act → List Entry → Option CallSoFar → Option CallSoFar
call_with_act Go past None = None
call_with_act Go past (Some call) = Some (record { op = call.op; moments = past ∷ call.moments })
call_with_act act past call = Some (record { op = act; moments = past ∷ [] })

-- the call of w that is pending after past: none if the reply of its latest entry is not Pending
unfoldable pub under_way : ℕ → List Entry → Option CallSoFar
under_way w [] = None
under_way w (x ∷ past) =
    if x.worker == w
    then (if is_pending x.reply then call_with_act x.act past (under_way w past) else None)
    else under_way w past

-- the call so far that an entry after past belongs to, with this entry
abbrev pub call_with : Entry → List Entry → Option CallSoFar
call_with x past = call_with_act x.act past (under_way x.worker past)
