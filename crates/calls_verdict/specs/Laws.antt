-- Theorems about every history of calls.
use Rattle.std.specs.Prelude.{◌≡◌, ◌+◌, ◌<◌, ◌∷◌, ◌⊎◌, ℕ, List, ◌++◌}
use Rattle.calls_core.specs.declared.history.Kind.{Kind}
use Rattle.calls_core.specs.declared.history.Event.{Event}
use Rattle.calls_core.specs.Histories.{IsHistory}
use Rattle.calls_core.specs.Beginnings.{until}
use Rattle.calls_core.specs.Completions.{IsLinearizable}
use Rattle.calls_verdict.specs.declared.verdict.Fault.{Fault}
use Rattle.calls_verdict.specs.Verdicts.{HasFault, IsFaultyOn, AreDecided, AreSettled}
use Rattle.calls_verdict.specs.Verdicts.{IsFirstRefusal}

-- if an object has a fault, no history that begins with these events has a linearization
abbrev pub AFaultLeavesNoLinearization : Type 0
AFaultLeavesNoLinearization =
    (kinds : List Kind) (late past : List Event) (k : ℕ) → IsHistory kinds (late ++ past)
    → IsFaultyOn kinds past k → IsLinearizable kinds (late ++ past) → ⊥

-- a fault that the events of an object show is a fault of the object
abbrev pub WhatIsShownIsAFault : Type 0
WhatIsShownIsAFault =
    (kinds : List Kind) (past : List Event) (k : ℕ) (f : Fault) → HasFault kinds past k f
    → IsFaultyOn kinds past k

-- a history whose objects are all decided has a linearization, or an object of it has a fault; and
-- not both, by the first theorem. A buffer counts as decided only if its calls have a linearization
abbrev pub EveryHistoryIsDecided : Type 0
EveryHistoryIsDecided =
    (kinds : List Kind) (past : List Event) → IsHistory kinds past → AreDecided kinds past
    → IsLinearizable kinds past ⊎ ((k : ℕ) × IsFaultyOn kinds past k)

-- no prefix that contains the refused event is linearizable
abbrev pub ARefusalIsFinal : Type 0
ARefusalIsFinal =
    (kinds : List Kind) (past : List Event) (at k : ℕ) (f : Fault) (m : ℕ) → IsHistory kinds past
    → IsFirstRefusal kinds past at k f → at < m → IsLinearizable kinds (until m past) → ⊥

-- if the events up to x have no linearization and those before it have one, then x is the first
-- faulty event. So a monitor, which decides after each event, stops at the event that is refused.
-- The events up to x are decided; or, of a buffer, its calls up to x and up to each later event are
-- of the class that is always decided
abbrev pub TheFirstFaultIsOne : Type 0
TheFirstFaultIsOne =
    (kinds : List Kind) (late past : List Event) (x : Event) (at k : ℕ) (f : Fault)
    → IsHistory kinds (late ++ x ∷ past) → AreSettled kinds (late ++ x ∷ past) (x.at + 1)
    → IsLinearizable kinds past → (IsLinearizable kinds (x ∷ past) → ⊥)
    → IsFirstRefusal kinds (late ++ x ∷ past) at k f → at ≡ x.at
