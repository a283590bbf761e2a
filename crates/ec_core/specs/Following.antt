-- What a worker's calls on a group of objects have to be: lists of calls joined end to end, the
-- last of which may be incomplete.
use Rattle.std.specs.Prelude.{◌≡◌, ℕ, ◌+◌, Bool, true, ◌==◌, ◌||◌, not, List, [], ◌∷◌, ◌++◌, Option, Some, None, if◌then◌else◌, slice_get}
use Rattle.ec_core.specs.declared.act.Act.{Act}
use Rattle.ec_core.specs.declared.act.Act.TheVariants.{Go}
use Rattle.ec_core.specs.declared.act.Reply.{Reply}
use Rattle.ec_core.specs.declared.act.Reply.TheVariants.{Pending}
use Rattle.ec_core.specs.declared.act.Entry.{Entry}
use Rattle.ec_core.specs.Counts.{past_at}
use Rattle.ec_core.specs.Calls.{CallSoFar, under_way}

-- a completed call: the act that began it and its last reply
pub record CompletedCall : Type 0 where
  pub op : Act
  pub reply : Reply

-- a list of calls that a worker repeats. Each test is given the completed calls of the worker's
-- current list
pub record Rule : Type 0 where
  pub concerns : List CompletedCall → Act → Bool  -- whether a call that the act begins is one of the list's at all
  pub fits : List CompletedCall → Act → Bool  -- whether it is the call that the list has next
  pub ends : List CompletedCall → Bool  -- whether the calls are the whole list

-- the act that began the call that an act is part of, if this call of its worker is pending
abbrev pub opening_act : Act → Option CallSoFar → Act
opening_act Go None = Go
opening_act Go (Some call) = call.op
opening_act act o = act

abbrev pub extend_list : Rule → List CompletedCall → CompletedCall → List CompletedCall
extend_list r b c =
    if r.concerns b c.op then (if r.ends (b ++ c ∷ []) then [] else b ++ c ∷ []) else b

abbrev pub block_after : Rule → List CompletedCall → Act → Reply → List CompletedCall
block_after r b op Pending = b
block_after r b op reply = extend_list r b (record { op = op; reply = reply })

-- the completed calls of w's current list after past, in order
unfoldable pub block : Rule → ℕ → List Entry → List CompletedCall
block r w [] = []
block r w (x ∷ past) =
    if x.worker == w
    then block_after r (block r w past) (opening_act x.act (under_way w past)) x.reply
    else block r w past

-- whether an act is right there: it continues a call, or does not concern the list, or is next in
-- it
abbrev pub is_right : Rule → List CompletedCall → Act → Bool
is_right r b Go = true
is_right r b act = not (r.concerns b act) || r.fits b act

-- a history conforms: each entry is right by its worker's rule
abbrev pub Follow : (ℕ → Rule) → List Entry → Type 0
Follow rules [] = Unit {0}
Follow rules (x ∷ past) =
    (is_right (rules x.worker) (block (rules x.worker) x.worker past) x.act ≡ true) × Follow rules past

-- entry k, which w made, is the first violation: the entries before it conform, and with it they
-- don't
pub record BreaksAt (rules : ℕ → Rule) (h : List Entry) (w k : ℕ) : Type 0 where
  pub entry : Entry
  pub is : slice_get h k ≡ Some entry
  pub by : entry.worker ≡ w
  pub before : Follow rules (past_at k h)
  pub breaks : Follow rules (past_at (k + 1) h) → ⊥
