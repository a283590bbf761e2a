-- A packed entry: the tag of its act and the tag of its reply. Its numbers are among the words of
-- many entries, one entry after another.
use Rattle.std.specs.Prelude.{◌≡◌, ℕ, ◌+◌, ◌*◌, ◌/◌, ◌%◌, ◌^◌, ◌<◌, ◌≤◌, List, [], ◌∷◌, ◌++◌, drop, take, All, length, nat_lt, slice_index, if◌then◌else◌, Option, Some, None}
use Rattle.ec_core.specs.declared.act.Act.{Act}
use Rattle.ec_core.specs.declared.act.Act.TheVariants as acts
use Rattle.ec_core.specs.declared.act.Reply.{Reply}
use Rattle.ec_core.specs.declared.act.Reply.TheVariants as replies
use Rattle.ec_core.specs.declared.act.Entry.{Entry}
use Rattle.ec_core.specs.declared.packed.ActTag.{ActTag}
use Rattle.ec_core.specs.declared.packed.ActTag.TheVariants as verbs
use Rattle.ec_core.specs.declared.packed.ReplyTag.{ReplyTag}
use Rattle.ec_core.specs.declared.packed.ReplyTag.TheVariants as answers
use Rattle.ec_core.specs.declared.packed.PackedEntry.{PackedEntry}
use Rattle.std.specs.List.{flat_map}

-- the words of a number: one if it is below 2 ^ 32, else two, the low one first
abbrev pub words_of_number : ℕ → List ℕ
words_of_number n = if nat_lt n (2 ^ 32) then n ∷ [] else (n % 2 ^ 32) ∷ (n / 2 ^ 32) ∷ []

-- the words of a number, if there is one
abbrev pub words_of_option : Option ℕ → List ℕ
words_of_option None = []
words_of_option (Some n) = words_of_number n

-- the number of one word, the first of a list, and that of two words
abbrev pub word_number : List ℕ → ℕ
word_number words = slice_index words 0

abbrev pub two_word_number : List ℕ → ℕ
two_word_number words = word_number words + 2 ^ 32 * word_number (drop 1 words)

-- the tag of an act
abbrev pub act_tag : Act → ActTag
act_tag (acts.Advance e) = verbs.Advance e
act_tag (acts.Read e) = verbs.Read e
act_tag (acts.Await e v) = if nat_lt v (2 ^ 32) then verbs.Await e else verbs.AwaitLong e
act_tag acts.Go = verbs.Go
act_tag (acts.Ticket q) = verbs.Ticket q
act_tag (acts.Put x v) = if nat_lt v (2 ^ 32) then verbs.Put x else verbs.PutLong x
act_tag (acts.Get x) = verbs.Get x
act_tag (acts.Hand e b) = verbs.Hand e

-- the value of an act, if it has one
abbrev pub value_in : Act → Option ℕ
value_in (acts.Await e v) = Some v
value_in (acts.Put x v) = Some v
value_in (acts.Hand e b) = Some b
value_in act = None

-- the receiver of a hand; 0 for another act
abbrev pub receiver_in : Act → ℕ
receiver_in (acts.Hand e b) = b
receiver_in act = 0

-- the worker of a number; worker 0 if there is none
abbrev pub receiver_of : ℕ → ℕ
receiver_of n = if nat_lt n 16 then n else 0

-- the act with a tag; the words begin with its value
abbrev pub unpack_act : ActTag → List ℕ → Act
unpack_act (verbs.Advance e) words = acts.Advance e
unpack_act (verbs.Read e) words = acts.Read e
unpack_act (verbs.Await e) words = acts.Await e (word_number words)
unpack_act (verbs.AwaitLong e) words = acts.Await e (two_word_number words)
unpack_act verbs.Go words = acts.Go
unpack_act (verbs.Ticket q) words = acts.Ticket q
unpack_act (verbs.Put x) words = acts.Put x (word_number words)
unpack_act (verbs.PutLong x) words = acts.Put x (two_word_number words)
unpack_act (verbs.Get x) words = acts.Get x
unpack_act (verbs.Hand e) words = acts.Hand e (receiver_of (word_number words))

-- the tag of a reply
abbrev pub reply_tag : Reply → ReplyTag
reply_tag replies.Done = answers.Done
reply_tag (replies.Number n) = if nat_lt n (2 ^ 32) then answers.Number else answers.LongNumber
reply_tag replies.Pending = answers.Pending

-- the number of a reply, if it has one
abbrev pub number_in : Reply → Option ℕ
number_in (replies.Number n) = Some n
number_in reply = None

-- the reply with a tag; the words begin with its number
abbrev pub unpack_reply : ReplyTag → List ℕ → Reply
unpack_reply answers.Done words = replies.Done
unpack_reply answers.Number words = replies.Number (word_number words)
unpack_reply answers.LongNumber words = replies.Number (two_word_number words)
unpack_reply answers.Pending words = replies.Pending

-- the words of an entry's numbers, in order
abbrev pub words_in : Entry → List ℕ
words_in entry = words_of_option (value_in entry.act) ++ words_of_option (number_in entry.reply)

-- the rest of an entry
abbrev pub pack_entry : Entry → PackedEntry
pack_entry entry = record { worker = entry.worker; answer = reply_tag entry.reply; verb = act_tag entry.act }

-- how many words the value of an act with a tag has
abbrev pub value_word_count : ActTag → ℕ
value_word_count (verbs.Await e) = 1
value_word_count (verbs.AwaitLong e) = 2
value_word_count (verbs.Put x) = 1
value_word_count (verbs.PutLong x) = 2
value_word_count (verbs.Hand e) = 1
value_word_count verb = 0

-- how many words the number of a reply with a tag has
abbrev pub number_word_count : ReplyTag → ℕ
number_word_count answers.Number = 1
number_word_count answers.LongNumber = 2
number_word_count answer = 0

-- how many words the numbers of an entry take, and how many those of some entries do
abbrev pub word_count : PackedEntry → ℕ
word_count s = value_word_count s.verb + number_word_count s.answer

unfoldable pub total_word_count : List PackedEntry → ℕ
total_word_count [] = 0
total_word_count (s ∷ rest) = word_count s + total_word_count rest

-- the entry of a packed one; the words begin with its numbers
abbrev pub unpack_entry : List ℕ → PackedEntry → Entry
unpack_entry words s = record { worker = s.worker; act = unpack_act s.verb words; reply = unpack_reply s.answer (drop (value_word_count s.verb) words) }

-- the entries of packed ones; their numbers follow one another in the words
unfoldable pub unpack_entries : List ℕ → List PackedEntry → List Entry
unpack_entries words [] = []
unpack_entries words (s ∷ rest) =
    unpack_entry words s ∷ unpack_entries (drop (word_count s) words) rest

-- these are the positions at which the words of entries 0, 16, 32, .. begin; that of the next entry
-- may be there already, if it is one of these
pub record AreStarts (stored : List PackedEntry) (starts : List ℕ) : Type 0 where
  pub each : (k : ℕ) → k < length starts
      → slice_index starts k ≡ total_word_count (take (16 * k) stored)
  pub many : length stored ≤ 16 * length starts
  pub few : 16 * length starts ≤ length stored + 16

-- the words are those of the entries, and entries 0, 16, 32, .. have a start; there is room for
-- 4096 entries, and for the words of all entries before the next start
pub record IsSegment (words : List ℕ) (stored : List PackedEntry) (starts : List ℕ) (capacity words_capacity : ℕ) : Type 0 where
  pub whole : length words ≡ total_word_count stored
  pub begun : AreStarts stored starts
  pub room : 4096 ≤ capacity
  pub spare : length words + 64 * length starts ≤ words_capacity + 4 * length stored

-- A LIST IN SEGMENTS: full ones of 4096 elements each, and the last, perhaps shorter

-- the elements of the full segments, one after another, then those of the last
abbrev pub concat_segments : {X : Type 0} → List (List X) → List X → List X
concat_segments full last = flat_map (λ xs. xs) full ++ last

-- each full segment is full
pub record IsSegmented {X : Type 0} (full : List (List X)) (last : List X) : Type 0 where
  pub whole : All (λ xs. length xs ≡ 4096) full
  pub few : length full ≤ 2 ^ 51
  pub begun : length last ≤ 4096
