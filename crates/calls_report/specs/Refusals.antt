-- A certificate in words.
use Rattle.std.specs.Prelude.{ℕ, ◌+◌, ◌-◌, ◌^◌, ◌==◌, ◌%◌, nat_lt, nat_le, min, Bool, true, false, ◌||◌, ◌&&◌, List}
use Rattle.std.specs.Prelude.{[]}
use Rattle.std.specs.Prelude.{◌∷◌, ◌++◌}
use Rattle.std.specs.Prelude.{length, codes, decimal, if◌then◌else◌}
use Rattle.std.specs.List.{flat_map}
use Rattle.ec_heading.specs.HeadingModel.{HeadingModel}
use Rattle.calls_core.specs.declared.history.Op.{Op}
use Rattle.calls_core.specs.declared.history.Op.TheVariants as ops
use Rattle.calls_core.specs.declared.history.Reply.{Reply}
use Rattle.calls_core.specs.declared.history.Reply.TheVariants as replies
use Rattle.calls_core.specs.declared.history.Call.{Call}
use Rattle.calls_tickets.specs.Faults.{number}
use Rattle.calls_text.specs.Recordings.{first_sequencer, first_group}
use Rattle.calls_text.specs.Spelling.{event_word, sequencer_word, group_word, store_word, numbers_of_value}
use Rattle.calls_text.specs.Spelling.{numbers_after_spaces}
use Rattle.calls_report.specs.Sites.{SiteModel, line_of, earlier_text}
use Rattle.calls_report.specs.Items.{not_next_text, no_item_text, no_room_text, gave_up_text}
use Rattle.calls_report.specs.Faults.{item_text}
use Rattle.calls_report.specs.declared.certificate.Certificate.{Certificate}
use Rattle.calls_report.specs.declared.certificate.Certificate.TheVariants as shows

-- EVENTCOUNTS

abbrev pub advances_word : ℕ → List ℕ
advances_word n = if n == 1 then codes " advance of " else codes " advances of "

abbrev pub advances_text : SiteModel → ℕ → List ℕ
advances_text s n = decimal n ++ advances_word n ++ event_word s.heading s.object

-- the initial count, if it is not 0
abbrev pub start_text : ℕ → List ℕ
start_text n = if n == 0 then [] else codes ", from " ++ decimal n

-- what a read or an await returned, awaited or gave up on
abbrev pub counted_text : Op → Reply → List ℕ
counted_text op (replies.Number n) = codes "returned " ++ decimal n
counted_text (ops.Await n) replies.Timeout = codes "gave up on " ++ decimal n
counted_text (ops.Await n) replies.Done = codes "awaited " ++ decimal n
counted_text _ _ = codes "returned"

abbrev pub count_text : Call → List ℕ
count_text c = counted_text c.op c.reply

abbrev pub threshold : Op → ℕ
threshold (ops.Await n) = n
threshold _ = 0

abbrev pub returned_text : Reply → List ℕ
returned_text (replies.Number n) = codes "returned " ++ decimal n
returned_text _ = codes "returned timeout"

-- an await returned a number below its threshold, or gave up on 0
abbrev pub below_text : Call → List ℕ
below_text c = returned_text c.reply ++ (codes ", but it awaited " ++ decimal (threshold c.op))

abbrev pub only_text : SiteModel → ℕ → List ℕ
only_text s n = codes ", but only " ++ advances_text s n ++ codes " had been called"

-- there were too few advances for the count
abbrev pub few_text : SiteModel → Call → ℕ → ℕ → List ℕ
few_text s c n start = count_text c ++ only_text s n ++ start_text start

-- there were too many advances for the count; the words say which
abbrev pub many_text : SiteModel → Call → ℕ → List ℕ → ℕ → List ℕ
many_text s c n words start =
    count_text c ++ codes ", but when it was called (line " ++ line_of s c.first ++ codes ") "
    ++ advances_text s n ++ words ++ start_text start

-- the line of an earlier response
abbrev pub but_line : SiteModel → ℕ → List ℕ
but_line s n = codes ", but line " ++ line_of s n

abbrev pub before_text : SiteModel → Call → List ℕ
before_text s c = codes " before it was called (line " ++ line_of s c.first ++ codes ")"

-- that no advance lies between two calls, or how many do
abbrev pub between_text : SiteModel → Call → ℕ → List ℕ
between_text s c n =
    if n == 0 then before_text s c
    else codes ", and " ++ advances_text s n
    ++ codes " were called and returned between it and line " ++ line_of s c.first

abbrev pub had_text : SiteModel → Call → List ℕ
had_text s d = but_line s d.last ++ codes " had " ++ count_text d

-- an earlier call shows a greater count, with the advances between the two
abbrev pub since_text : SiteModel → Call → Call → ℕ → List ℕ
since_text s c d n = count_text c ++ had_text s d ++ between_text s c n

-- too many advances had surely taken effect
abbrev pub raised_text : SiteModel → Call → ℕ → ℕ → List ℕ
raised_text s c n start = many_text s c n (codes " had surely taken effect") start

-- SEQUENCERS

abbrev pub number_text : Call → List ℕ
number_text c = codes "returned " ++ decimal (number c)

-- two calls returned one number
abbrev pub twice_text : SiteModel → Call → Call → List ℕ
twice_text s a b =
    number_text a ++ codes ", as line " ++ line_of s (min a.last b.last) ++ codes " had"

abbrev pub had_number : SiteModel → Call → List ℕ
had_number s a = but_line s a.last ++ codes " had " ++ number_text a

-- a greater number was returned before
abbrev pub turned_text : SiteModel → Call → Call → List ℕ
turned_text s a b = number_text b ++ had_number s a ++ before_text s b

abbrev pub tickets_word : ℕ → List ℕ
tickets_word n = if n == 1 then codes " ticket of " else codes " tickets of "

abbrev pub tickets_text : SiteModel → ℕ → List ℕ
tickets_text s n =
    codes ", but only " ++ decimal n ++ tickets_word n
    ++ sequencer_word s.heading (s.object - first_sequencer s.heading)

-- so few tickets can have drawn the numbers up to this one
abbrev pub drawn_text : SiteModel → Call → ℕ → List ℕ
drawn_text s c n =
    earlier_text s c.last ++ number_text c ++ tickets_text s n
    ++ (codes " can have drawn 0 to " ++ decimal (number c))

-- no order of the tickets gives the number
abbrev pub unordered_text : SiteModel → Call → List ℕ
unordered_text s c =
    number_text c ++ codes ", which no order of the tickets of "
    ++ sequencer_word s.heading (s.object - first_sequencer s.heading) ++ codes " gives"

-- SEMAPHORES

-- the suffix of an ordinal number, such as `th`
abbrev pub ordinal : ℕ → List ℕ
ordinal n =
    if nat_le 11 (n % 100) && nat_le (n % 100) 13 then codes "th"
    else (if n % 10 == 1 then codes "st"
    else (if n % 10 == 2 then codes "nd"
    else (if n % 10 == 3 then codes "rd" else codes "th")))

abbrev pub nth_text : ℕ → List ℕ
nth_text n = codes "the " ++ decimal n ++ ordinal n

abbrev pub units_text : ℕ → ℕ → List ℕ
units_text units added =
    codes ", with " ++ decimal units ++ codes " at first and " ++ decimal added

-- more units were taken than there were
abbrev pub unit_text : SiteModel → ℕ → ℕ → ℕ → ℕ → List ℕ
unit_text s place taken units added =
    nth_text taken ++ (codes " p of " ++ group_word s.heading place) ++ units_text units added
    ++ codes " v called"

-- a unit was taken, and none was left
abbrev pub no_unit_text : SiteModel → ℕ → List ℕ
no_unit_text s place = codes "no unit of " ++ group_word s.heading place ++ codes " was left"

-- CELLS AND DATABASES

abbrev pub is_cell : SiteModel → Bool
is_cell s = nat_lt s.object (first_group s.heading)

abbrev pub stored_value : Op → Reply → ℕ
stored_value (ops.Put n) r = n
stored_value op (replies.Number n) = n
stored_value op _ = 0

-- the value of a put or a get, each number after a space
abbrev pub value_text : SiteModel → Call → List ℕ
value_text s c =
    numbers_after_spaces (numbers_of_value s.heading s.lists s.object (stored_value c.op c.reply))

-- the cell or database, and what a get of it returned
abbrev pub got_text : SiteModel → Call → List ℕ
got_text s c = store_word s.heading s.object ++ codes " returned" ++ value_text s c

-- the words for a cell, or those for a database
abbrev pub by_store : SiteModel → List ℕ → List ℕ → List ℕ
by_store s cell database = if is_cell s then cell else database

unfoldable pub no_put : SiteModel → List ℕ
no_put s = by_store s (codes ", but no put of") (codes ", but no write of")

unfoldable pub called_words : List ℕ
called_words = codes " had been called"

-- no put of the value had been called
abbrev pub nowhere_text : SiteModel → Call → List ℕ
nowhere_text s c = got_text s c ++ no_put s ++ value_text s c ++ called_words

abbrev pub had_stored : SiteModel → Op → List ℕ
had_stored s (ops.Put n) = by_store s (codes " had put") (codes " had written")
had_stored s _ = codes " had returned"

abbrev pub stored_text : SiteModel → Call → List ℕ
stored_text s c = had_stored s c.op ++ value_text s c

-- a call of another value was completed before the get was called
abbrev pub stale_text : SiteModel → Call → Call → List ℕ
stale_text s c d = got_text s d ++ but_line s c.last ++ stored_text s c ++ before_text s d

-- the line of a position, after a space
abbrev pub line_text : SiteModel → ℕ → List ℕ
line_text s n = 32 ∷ line_of s n

abbrev pub two_text : SiteModel → Call → Call → List ℕ
two_text s c d =
    got_text s c ++ codes ", but" ++ value_text s c ++ codes " and" ++ value_text s d
    ++ codes " alternate: lines"

abbrev pub is_get : Op → Bool
is_get ops.Get = true
is_get _ = false

-- whether the first faulty event is the response of c, or of the get b of the same value
abbrev pub ends_second : SiteModel → Call → Call → Bool
ends_second s b c = (c.last == s.at) || (is_get b.op && (b.last == s.at))

-- the values of a and c: the one that was returned last comes first
abbrev pub values_text : SiteModel → Call → Call → Call → List ℕ
values_text s a b c = if ends_second s b c then two_text s c a else two_text s a c

-- two values alternate
abbrev pub alternate_text : SiteModel → Call → Call → Call → Call → List ℕ
alternate_text s a b c d =
    values_text s a b c ++ line_text s a.last ++ line_text s b.first ++ line_text s c.last
    ++ line_text s d.first

-- the lines of responses
abbrev pub response_lines : SiteModel → List Call → List ℕ
response_lines s cs = flat_map (λ (c : Call). line_text s c.last) cs

-- the lines of the other gets, if there are any
abbrev pub by_text : SiteModel → List Call → List ℕ
by_text s cs = if length cs == 0 then [] else codes ", by lines" ++ response_lines s cs

-- no put is left for the first of these gets
abbrev pub none_left_text : SiteModel → List Call → List ℕ
none_left_text s [] = []
none_left_text s (c ∷ cs) =
    got_text s c
    ++ by_store s (codes ", but no put is left for it") (codes ", but no write is left for it")
    ++ by_text s cs

-- ANY CERTIFICATE

abbrev pub certificate_text : SiteModel → Certificate → List ℕ
certificate_text s (shows.Below c) = below_text c
certificate_text s (shows.Few c n start) = few_text s c n start
certificate_text s (shows.Many c n start) = many_text s c n (codes " had returned") start
certificate_text s (shows.Since c d n) = since_text s c d n
certificate_text s (shows.Sure c n start) = raised_text s c n start
certificate_text s (shows.Unordered c) = unordered_text s c
certificate_text s (shows.NoUnit place) = no_unit_text s place
certificate_text s (shows.Twice a b) = twice_text s a b
certificate_text s (shows.Turned a b) = turned_text s a b
certificate_text s (shows.Drawn c n) = drawn_text s c n
certificate_text s (shows.Units place taken units added) = unit_text s place taken units added
certificate_text s (shows.Nowhere c) = nowhere_text s c
certificate_text s (shows.Stale c d) = stale_text s c d
certificate_text s (shows.Alternate a b c d) = alternate_text s a b c d
certificate_text s (shows.NoneLeft gets) = none_left_text s gets.now
certificate_text s (shows.Items f) = item_text s f.now
certificate_text s (shows.NotNext c next) = not_next_text s c next
certificate_text s (shows.NoItem c) = no_item_text s c
certificate_text s (shows.NoRoom c) = no_room_text s c
certificate_text s (shows.Needed c) = gave_up_text s c.op
