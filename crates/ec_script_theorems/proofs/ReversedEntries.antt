-- The entries of a worker in a reversed history.
use Rattle.std.proofs.Common.{◌≡◌, Bool, true, false, ◌==◌, cond, List, [], ◌∷◌, ◌++◌, reverse, refl, sym, ◌∙◌, ap}
use Rattle.std.proofs.lemmas.List.{append-nil, reverse-append}
use Rattle.ec_core.specs.declared.act.Entry.{Entry}
use Rattle.ec_machine.specs.Steps.{own}
use Rattle.ec_machine.proofs.shared.OwnSteps.{own_append}
use Rattle.ec_script_theorems.specs.Laws.{OwnEntriesAreReversed}

turn_first : (b : Bool) (x : Entry) (past : List Entry) → reverse past ++ cond b (x ∷ []) [] ≡ reverse (cond b (x ∷ past) past)
turn_first true x past = sym (reverse-append (x ∷ []) past)
turn_first false x past = append-nil (reverse past)

pub own_turned : OwnEntriesAreReversed
own_turned w [] = refl
own_turned w (x ∷ h) =
    ap (own w) (reverse-append (x ∷ []) h)
    ∙ own_append w (reverse h) (x ∷ [])
    ∙ ap (λ past. past ++ cond (x.worker == w) (x ∷ []) []) (own_turned w h)
    ∙ turn_first (x.worker == w) x (own w h)
