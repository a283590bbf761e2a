-- Two lists of workers, each with a role of its own.
use Rattle.std.specs.Prelude.{ℕ, Bool, ◌==◌, ◌||◌, nat_lt, List, [], ◌∷◌, length, Option}
use Rattle.std.specs.List.{list_any}
use Rattle.ec_count.specs.declared.setup.SetupFault.{SetupFault}
use Rattle.ec_count.specs.declared.setup.SetupFault.TheVariants.{TooMany, UnknownWorker, Repeated, Empty, TwoRoles}
use Rattle.ec_count.specs.Members.{has_repeat, is_member}
use Rattle.ec_count.specs.Tables.{Tables, first_that, names_unknown}

-- whether a worker is in both lists
abbrev pub shares_worker : List ℕ → List ℕ → Bool
shares_worker first second = list_any (λ w. is_member w second) first

-- why an object with these two roles can't be declared, if it can't; full says that a table has too
-- little room for it, none that it would have no cell
abbrev pub roles_fault : Tables → Bool → List ℕ → List ℕ → Bool → Option SetupFault
roles_fault t full first second none = first_that (
    (full || nat_lt 16 (length first) || nat_lt 16 (length second), TooMany)
    ∷ (names_unknown t first || names_unknown t second, UnknownWorker)
    ∷ (has_repeat first || has_repeat second, Repeated)
    ∷ (none || length first == 0 || length second == 0, Empty)
    ∷ (shares_worker first second, TwoRoles)
    ∷ [])
