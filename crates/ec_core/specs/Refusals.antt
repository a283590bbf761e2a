-- The numbers and names of refusals, as notes print them.
use Rattle.std.specs.Prelude.{ℕ, List, codes}
use Rattle.ec_core.specs.declared.act.Refusal.{Refusal}
use Rattle.ec_core.specs.declared.act.Refusal.TheVariants.{UnknownWorker, Busy, Idle, UnknownObject, NoRight, ValueTooLarge, AtLimit, NotHandable, AlreadySignals}

-- the position of a refusal in their order, from 1
abbrev pub refusal_number : Refusal → ℕ
refusal_number UnknownWorker = 1
refusal_number Busy = 2
refusal_number Idle = 3
refusal_number UnknownObject = 4
refusal_number NoRight = 5
refusal_number ValueTooLarge = 6
refusal_number AtLimit = 7
refusal_number NotHandable = 8
refusal_number AlreadySignals = 9

-- the bytes of its name
abbrev pub refusal_name : Refusal → List ℕ
refusal_name UnknownWorker = codes "UnknownWorker"
refusal_name Busy = codes "Busy"
refusal_name Idle = codes "Idle"
refusal_name UnknownObject = codes "UnknownObject"
refusal_name NoRight = codes "NoRight"
refusal_name ValueTooLarge = codes "ValueTooLarge"
refusal_name AtLimit = codes "AtLimit"
refusal_name NotHandable = codes "NotHandable"
refusal_name AlreadySignals = codes "AlreadySignals"
