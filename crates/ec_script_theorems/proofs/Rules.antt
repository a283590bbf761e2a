-- The list of calls of which a rule is made suits the rule, whatever values it puts.
use Rattle.std.proofs.Common.{◌≡◌, Bool, true, not, List, [], ◌∷◌, ◌++◌, Option, Some, None, is_some, option_map, refl, ◌∙◌, ap}
use Rattle.ec_core.specs.declared.act.Act.{Act}
use Rattle.ec_core.specs.Following.{CompletedCall}
use Rattle.ec_core.specs.CallLists.{without_value, is_due, rule_of}
use Rattle.ec_core.proofs.shared.Following.{is_act-same}
use Rattle.ec_script_theorems.proofs.Suiting.{Suits, suits_own}

-- the list of the rule has the same calls, with 0 for the values that are put
abbrev pub IsFree : (List CompletedCall → Option Act) → (List CompletedCall → Option Act) → Type 0
IsFree rule list = (calls : List CompletedCall) → rule calls ≡ option_map without_value (list calls)

-- all calls of the list are on the group
abbrev pub IsOn : (Act → Bool) → (List CompletedCall → Option Act) → Type 0
IsOn on list = (calls : List CompletedCall) (op : Act) → list calls ≡ Some op → on op ≡ true

some_kept : (o : Option Act) → is_some (option_map without_value o) ≡ is_some o
some_kept None = refl
some_kept (Some act) = refl

pub due_free : (rule list : List CompletedCall → Option Act) → IsFree rule list → (calls : List CompletedCall) (op : Act) → list calls ≡ Some op → is_due (rule calls) (without_value op) ≡ true
due_free rule list free calls op is =
    ap (λ (o : Option Act). is_due o (without_value op)) (free calls ∙ ap (option_map without_value) is) ∙ is_act-same (without_value op)

pub ends_free : (rule list : List CompletedCall → Option Act) → IsFree rule list → (calls : List CompletedCall) → is_some (rule calls) ≡ is_some (list calls)
ends_free rule list free calls = ap is_some (free calls) ∙ some_kept (list calls)

pub suits_free : (may : Act → Type 0) (on : Act → Bool) (rule list : List CompletedCall → Option Act) → IsFree rule list → IsOn on list → Suits may (rule_of on rule) list
suits_free may on rule list free all = suits_own may (rule_of on rule) list (record {
  concerns = all;
  fits = due_free rule list free;
  ends = λ calls c is. ap not (ends_free rule list free (calls ++ c ∷ []));
})
