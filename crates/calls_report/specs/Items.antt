-- The certificate of a buffer in words.
use Rattle.std.specs.Prelude.{ℕ, ◌-◌, ◌==◌, nat_le, List, [], ◌∷◌, ◌++◌, codes, decimal, slice_get}
use Rattle.std.specs.Prelude.{if◌then◌else◌}
use Rattle.std.specs.Option.{option_map_or}
use Rattle.std.specs.List.{flat_map}
use Rattle.ec_heading.specs.declared.group.Group.{Group}
use Rattle.ec_heading.specs.declared.group.Group.TheVariants as groups
use Rattle.calls_core.specs.declared.history.Op.{Op}
use Rattle.calls_core.specs.declared.history.Op.TheVariants.{Produce}
use Rattle.calls_core.specs.declared.history.Reply.{Reply}
use Rattle.calls_core.specs.declared.history.Reply.TheVariants.{Number}
use Rattle.calls_core.specs.declared.history.Call.{Call}
use Rattle.calls_schedule.specs.declared.job.Bound.{Bound}
use Rattle.calls_text.specs.Recordings.{first_group}
use Rattle.calls_text.specs.Spelling.{store_word}
use Rattle.calls_report.specs.Sites.{SiteModel, line_of, earlier_text}

-- how many items a buffer has room for
abbrev pub room_of : Group → ℕ
room_of (groups.Buffer b) = b.cells
room_of _ = 0

abbrev pub room_in : SiteModel → ℕ
room_in s = option_map_or room_of (slice_get s.heading.groups (s.object - first_group s.heading)) 0

-- the item of a produce, and that which a consume returned
abbrev pub put_item : Op → ℕ
put_item (Produce v) = v
put_item _ = 0

abbrev pub taken_item : Reply → ℕ
taken_item (Number v) = v
taken_item _ = 0

abbrev pub returned_item : Call → List ℕ
returned_item c = codes "returned " ++ decimal (taken_item c.reply)

-- a number, and a noun in the singular or the plural
abbrev pub some : ℕ → List ℕ → List ℕ
some n noun = decimal n ++ codes " " ++ noun ++ (if n == 1 then [] else codes "s")

abbrev pub by_line : SiteModel → ℕ → List ℕ
by_line s n = codes "by line " ++ line_of s n ++ codes ", "

abbrev pub room_text : SiteModel → List ℕ
room_text s = codes "room for " ++ decimal (room_in s)

-- how many of the consumes called up to a position are pending, and how much room there is
abbrev pub pending_text : SiteModel → ℕ → List ℕ
pending_text s n = codes ", with " ++ decimal n ++ codes " of these pending and " ++ room_text s

-- an item was returned more often than it was put in
abbrev pub unproduced_text : SiteModel → Call → ℕ → ℕ → List ℕ
unproduced_text s c taken put =
    by_line s c.last ++ some taken (codes "consume") ++ codes " had returned "
    ++ decimal (taken_item c.reply) ++ codes ", but only " ++ some put (codes "produce")
    ++ codes " called by then can have put it in"

-- more was put in than there was room for
abbrev pub overfull_text : SiteModel → Call → ℕ → ℕ → List ℕ
overfull_text s c put taken =
    by_line s c.last ++ some put (codes "produce") ++ codes " had returned done, but only "
    ++ some taken (codes "consume") ++ codes " called by then can have taken an item, with "
    ++ room_text s

-- more items were left than there was room for
abbrev pub crowded_text : SiteModel → Call → ℕ → ℕ → List ℕ
crowded_text s c left pending =
    by_line s c.last ++ some left (codes "item")
    ++ codes " had been put in that no consume called by then has returned"
    ++ pending_text s pending

-- the counts of an item
abbrev pub counts_text : SiteModel → Call → Call → ℕ → ℕ → ℕ → List ℕ
counts_text s p c before later all =
    codes ": " ++ some before (codes "produce") ++ codes " by line " ++ line_of s p.last
    ++ codes " and " ++ some later (codes "consume") ++ codes " after line " ++ line_of s c.last
    ++ codes ", of " ++ some all (codes "produce") ++ codes " in all"

-- these counts, if it has not one produce
abbrev pub of_all : SiteModel → Call → Call → ℕ → ℕ → ℕ → List ℕ
of_all s p c before later all = if all == 1 then [] else counts_text s p c before later all

-- an item was taken after one that was put in later
abbrev pub overtaken_text : SiteModel → Call → Call → ℕ → ℕ → ℕ → List ℕ
overtaken_text s p c before later all =
    by_line s p.last ++ decimal (put_item p.op) ++ codes " was produced before "
    ++ decimal (taken_item c.reply) ++ codes ", but consumed after line " ++ line_of s c.last
    ++ codes " had returned that" ++ of_all s p c before later all

-- items that no consume called up to a position has returned
abbrev pub untaken_text : SiteModel → ℕ → ℕ → List ℕ
untaken_text s left n =
    some left (codes "item") ++ codes " had been put in that no consume called by line "
    ++ line_of s n ++ codes " has returned"

-- the item of the consume was not yet produced
abbrev pub unmade_text : SiteModel → Call → Call → List ℕ
unmade_text s p c =
    codes ", but by line " ++ line_of s p.last ++ codes ", before any "
    ++ decimal (taken_item c.reply) ++ codes " was produced, "

-- how many of the consumes are pending
abbrev pub only_pending : ℕ → List ℕ
only_pending n = codes ", with only " ++ decimal n ++ codes " of these consumes pending"

-- this, if any is
abbrev pub any_pending : ℕ → List ℕ
any_pending n = if n == 0 then [] else only_pending n

-- items were not taken, and one that was put in later was
abbrev pub passed_text : SiteModel → Call → Call → ℕ → ℕ → List ℕ
passed_text s p c left pending =
    earlier_text s c.last ++ returned_item c ++ unmade_text s p c ++ untaken_text s left c.last
    ++ any_pending pending

-- the buffer was full, and one item more was put in
abbrev pub squeezed_text : SiteModel → Call → Call → ℕ → ℕ → List ℕ
squeezed_text s q p left pending =
    by_line s q.last ++ untaken_text s left p.last ++ pending_text s pending ++ codes "; and "
    ++ decimal (put_item p.op) ++ codes ", put in once, by then, was not taken by line "
    ++ line_of s q.last

-- how many items at most had been taken
abbrev pub most_text : ℕ → List ℕ
most_text n = codes ", so at most " ++ decimal n ++ codes " had"

-- these, if they can be so few
abbrev pub at_most : Bound → List ℕ
at_most b = if nat_le b.jobs b.due then most_text (b.due - b.jobs) else []

-- items that had not been taken before a line are among the first ones
abbrev pub bound_text : SiteModel → Bound → List ℕ
bound_text s b =
    codes "of the first " ++ some b.due (codes "item") ++ codes ", " ++ decimal b.jobs
    ++ codes " had not been taken before line " ++ line_of s b.at ++ at_most b

abbrev pub next_bound : SiteModel → Bound → List ℕ
next_bound s b = codes "; " ++ bound_text s b

abbrev pub further_bounds : SiteModel → List Bound → List ℕ
further_bounds s bs = flat_map (λ (b : Bound). next_bound s b) bs

abbrev pub chain_text : SiteModel → Bound → List Bound → List ℕ
chain_text s b bs = bound_text s b ++ further_bounds s bs

-- the items have to be among more of the first ones than there can be
abbrev pub overdue_text : SiteModel → List Bound → List ℕ
overdue_text s [] = []
overdue_text s (b ∷ bs) = chain_text s b bs

-- BUFFERS THAT ARE JUDGED EVENT BY EVENT

-- the name of the buffer
abbrev pub in_buffer : SiteModel → List ℕ
in_buffer s = codes " in " ++ store_word s.heading s.object

-- a consume returned an item, and this one was next
abbrev pub not_next_text : SiteModel → Call → ℕ → List ℕ
not_next_text s c next =
    returned_item c ++ codes ", but the next item" ++ in_buffer s ++ codes " was " ++ decimal next

-- a consume returned an item, and none was left
abbrev pub no_item_text : SiteModel → Call → List ℕ
no_item_text s c = returned_item c ++ codes ", but no item was left" ++ in_buffer s

-- a produce returned, and there was no room for its item
abbrev pub no_room_text : SiteModel → Call → List ℕ
no_room_text s c =
    codes "put " ++ decimal (put_item c.op) ++ codes " in, but no room was left" ++ in_buffer s

-- a produce gave up, and a consume had returned its item
abbrev pub gave_up_on_text : ℕ → List ℕ
gave_up_on_text v = codes "gave up on " ++ decimal v ++ codes ", but a consume had returned it"

-- a consume gave up, and a produce had needed the room that it made
abbrev pub made_room_text : SiteModel → List ℕ
made_room_text s =
    codes "gave up, but there was room" ++ in_buffer s ++ codes " only if it took an item"

-- a call gave up, and must have taken effect
abbrev pub gave_up_text : SiteModel → Op → List ℕ
gave_up_text s (Produce v) = gave_up_on_text v
gave_up_text s _ = made_room_text s
