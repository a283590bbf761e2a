-- The first position after the events.
use Rattle.std.proofs.Common.{◌≡◌, ℕ, ◌+◌, ◌-◌, ◌<◌, List, length, get_or, reverse, ap, sym, ◌∙◌}
use Rattle.std.proofs.Common.{arith}
use Rattle.calls_core.specs.declared.history.Event.{Event}
use Rattle.calls_core.specs.Histories.{clock}
use Rattle.calls_core.proofs.Beginnings.{past_all}
use Rattle.calls_distinct.proofs.Earlier.{clock_is}

pub last_clock : (events : List Event) (n : ℕ) (x : Event) → n ≡ length events → 0 < n
    → x ≡ get_or events (n - 1) x → clock (reverse events) ≡ x.at + 1
last_clock events n x is some read =
    sym (ap clock (past_all events n (omega arith)))
    ∙ clock_is (n - 1) n events x (omega arith) (omega arith) ∙ ap (λ y. y.at + 1) (sym read)
