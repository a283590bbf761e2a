-- Why items of a buffer can't be put in or taken out in the order that is known, in words.
use Rattle.std.specs.Prelude.{ℕ, ◌+◌, ◌-◌, List, [], ◌∷◌, ◌++◌, codes, decimal, Option, Some, None}
use Rattle.std.specs.Prelude.{min, nat_lt, ◌^◌, ◌==◌, if◌then◌else◌, length, slice_get}
use Rattle.std.specs.List.{flat_map}
use Rattle.std.specs.Option.{option_map_or}
use Rattle.calls_buffers.specs.declared.fault.Flow.{Flow}
use Rattle.calls_buffers.specs.declared.fault.Flow.TheVariants.{In, Out}
use Rattle.calls_turns.specs.declared.turn.Step.{Step}
use Rattle.calls_turns.specs.declared.turn.Reason.{Reason}
use Rattle.calls_turns.specs.declared.turn.Reason.TheVariants.{Due, Takers}
use Rattle.calls_turns.specs.declared.turn.Shortage.{Shortage}
use Rattle.calls_turns.specs.declared.turn.Clash.{Clash}
use Rattle.calls_turns.specs.declared.turn.Share.{Share}
use Rattle.calls_turns.specs.declared.turn.Crowd.{Crowd}
use Rattle.calls_turns.specs.declared.turn.Clash.TheVariants.{Closed, Few, Full}
use Rattle.calls_report.specs.Sites.{SiteModel, line_of}
use Rattle.calls_report.specs.Items.{some, by_line, room_in, room_text}

-- n and m more, as far as that is a number
abbrev pub plus : ℕ → ℕ → ℕ
plus n m = min (n + m) (2 ^ 64 - 1)

abbrev pub moved_text : Flow → List ℕ
moved_text In = codes "put in"
moved_text Out = codes "taken"

-- so many items had been put in or taken
abbrev pub least_text : Flow → ℕ → List ℕ
least_text flow n =
    codes "at least " ++ some n (codes "item") ++ codes " had been " ++ moved_text flow

-- THE LAST OF THEM IS DUE: its consume had returned, or the produce that needs its room

abbrev pub due_put_text : ℕ → List ℕ
due_put_text n = some n (codes "consume") ++ codes " had returned, so " ++ least_text In n

abbrev pub due_taken_text : SiteModel → ℕ → List ℕ
due_taken_text s n =
    some (plus n (room_in s)) (codes "produce") ++ codes " had returned, so with "
    ++ room_text s ++ codes " " ++ least_text Out n

abbrev pub due_text : SiteModel → Flow → ℕ → List ℕ
due_text s In n = due_put_text n
due_text s Out n = due_taken_text s n

-- CALLS OF AN ITEM HAD RETURNED

abbrev pub since_text : SiteModel → Option ℕ → List ℕ
since_text s None = []
since_text s (Some p) = codes " called after line " ++ line_of s p

abbrev pub calls_text : Flow → ℕ → List ℕ
calls_text In n = some n (codes "produce")
calls_text Out n = some n (codes "consume")

abbrev pub takers_text : SiteModel → Flow → ℕ → Option ℕ → ℕ → List ℕ
takers_text s flow v after n =
    calls_text flow n ++ codes " of " ++ decimal v ++ since_text s after ++ codes " had returned"

-- STEPS

abbrev pub needed_text : SiteModel → Flow → ℕ → ℕ → Option ℕ → ℕ → List ℕ
needed_text s flow n v after calls =
    takers_text s flow v after calls ++ codes ", so " ++ least_text flow n

abbrev pub reason_text : SiteModel → Flow → ℕ → Reason → List ℕ
reason_text s flow n Due = due_text s flow n
reason_text s flow n (Takers v after calls) = needed_text s flow n v after calls

abbrev pub step_text : SiteModel → Flow → Step → List ℕ
step_text s flow x = by_line s x.at ++ reason_text s flow x.count x.reason

abbrev pub next_step : SiteModel → Flow → Step → List ℕ
next_step s flow x = codes "; " ++ step_text s flow x

abbrev pub further_steps : SiteModel → Flow → List Step → List ℕ
further_steps s flow xs = flat_map (λ (x : Step). next_step s flow x) xs

abbrev pub chain_text : SiteModel → Flow → Step → List Step → List ℕ
chain_text s flow x xs = step_text s flow x ++ further_steps s flow xs

abbrev pub steps_text : SiteModel → Flow → List Step → List ℕ
steps_text s flow [] = []
steps_text s flow (x ∷ xs) = chain_text s flow x xs

-- BUT THAT CAN'T BE

abbrev pub no_calls : Flow → List ℕ
no_calls In = codes "no produce"
no_calls Out = codes "no consume"

abbrev pub up_to : Flow → ℕ → List ℕ
up_to flow n = codes "no more than " ++ calls_text flow n

abbrev pub no_more : Flow → ℕ → List ℕ
no_more flow n = if n == 0 then no_calls flow else up_to flow n

abbrev pub full_text : SiteModel → ℕ → List ℕ
full_text s k =
    codes ", but " ++ no_more Out (k - room_in s) ++ codes " had been called by then, with "
    ++ room_text s

abbrev pub empty_text : ℕ → List ℕ
empty_text k =
    codes ", but " ++ no_more In k ++ codes " had been called by then"

abbrev pub closed_text : SiteModel → Flow → ℕ → List ℕ
closed_text s In k = full_text s k
closed_text s Out k = empty_text k

-- CALLS OF SOME ITEMS ARE TOO FEW, each by a line

abbrev pub was_text : ℕ → List ℕ
was_text n = if n == 1 then codes " was " else codes " were "

abbrev pub only_calls : Flow → ℕ → List ℕ
only_calls flow n = codes "only " ++ calls_text flow n

abbrev pub few_calls : Flow → ℕ → List ℕ
few_calls flow n = if n == 0 then no_calls flow else only_calls flow n

abbrev pub shortage_text : SiteModel → Flow → Shortage → List ℕ
shortage_text s flow x =
    codes "of the first " ++ some (plus x.turn 1) (codes "item") ++ codes ", " ++ decimal x.turns
    ++ was_text x.turns ++ decimal x.item ++ codes ", and " ++ few_calls flow x.takers
    ++ codes " of it had been called by line " ++ line_of s x.at

abbrev pub next_shortage : SiteModel → Flow → Shortage → List ℕ
next_shortage s flow x = codes "; " ++ shortage_text s flow x

abbrev pub further_shortages : SiteModel → Flow → List Shortage → List ℕ
further_shortages s flow xs = flat_map (λ (x : Shortage). next_shortage s flow x) xs

abbrev pub listed_text : SiteModel → Flow → Shortage → List Shortage → List ℕ
listed_text s flow x xs = shortage_text s flow x ++ further_shortages s flow xs

abbrev pub shortages_text : SiteModel → Flow → List Shortage → List ℕ
shortages_text s flow [] = []
shortages_text s flow (x ∷ xs) = listed_text s flow x xs

-- and so are the pending calls, if there are some, by the line of the last step

abbrev pub asked_text : Flow → ℕ → List ℕ
asked_text In n = some n (codes "pending produce")
asked_text Out n = some n (codes "pending consume")

abbrev pub asking_text : SiteModel → Flow → ℕ → ℕ → List ℕ
asking_text s flow p n =
    codes "; and only " ++ asked_text flow n ++ codes " had been called by line " ++ line_of s p

abbrev pub others_text : SiteModel → Flow → ℕ → ℕ → List ℕ
others_text s flow p n = if n == 0 then [] else asking_text s flow p n

abbrev pub last_position : List Step → ℕ
last_position xs = option_map_or (λ (x : Step). x.at) (slice_get xs (length xs - 1)) 0

abbrev pub few_text : SiteModel → Flow → List Step → List Shortage → ℕ → List ℕ
few_text s flow steps xs n =
    codes ", but " ++ shortages_text s flow xs ++ others_text s flow (last_position steps) n

-- ITEMS THAT CONSUMES DON'T RETURN ARE TOO MANY

abbrev pub most_taken : ℕ → List ℕ
most_taken n = codes "at most " ++ decimal n

abbrev pub taken_text : ℕ → List ℕ
taken_text n = if nat_lt 0 n then most_taken n else codes "none"

abbrev pub share_text : SiteModel → Flow → Share → List ℕ
share_text s flow x =
    takers_text s flow x.item x.after x.takers ++ codes ", and consumes return "
    ++ taken_text x.turns ++ codes " of these items"

abbrev pub next_share : SiteModel → Flow → Share → List ℕ
next_share s flow x = codes "; " ++ share_text s flow x

abbrev pub further_shares : SiteModel → Flow → List Share → List ℕ
further_shares s flow xs = flat_map (λ (x : Share). next_share s flow x) xs

abbrev pub listed_shares : SiteModel → Flow → Share → List Share → List ℕ
listed_shares s flow x xs = share_text s flow x ++ further_shares s flow xs

abbrev pub shares_text : SiteModel → Flow → List Share → List ℕ
shares_text s flow [] = []
shares_text s flow (x ∷ xs) = listed_shares s flow x xs

-- what joins steps, if there are some, and what follows
abbrev pub joint_text : List Step → List ℕ
joint_text [] = []
joint_text (x ∷ xs) = codes "; "

abbrev pub total_text : Flow → ℕ → ℕ → List ℕ
total_text flow n k =
    codes ", so with the " ++ decimal n ++ codes " that they return " ++ least_text flow (plus k 1)

abbrev pub crowd_text : SiteModel → Flow → List Step → Crowd → List ℕ
crowd_text s flow steps x =
    joint_text steps ++ by_line s x.at ++ shares_text s flow x.shares.items
    ++ total_text flow x.known x.turn ++ closed_text s flow x.turn

abbrev pub clash_text : SiteModel → Flow → List Step → Clash → List ℕ
clash_text s flow steps (Closed k) = closed_text s flow k
clash_text s flow steps (Few shortages n) = few_text s flow steps shortages.items n
clash_text s flow steps (Full crowd) = crowd_text s flow steps crowd

abbrev pub outrun_text : SiteModel → Flow → List Step → Clash → List ℕ
outrun_text s flow steps clash = steps_text s flow steps ++ clash_text s flow steps clash
