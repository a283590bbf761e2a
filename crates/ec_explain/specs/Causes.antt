-- What is wrong with a line: each cause is a test of the line and of what came before it, and the
-- first that holds is reported.
use Rattle.std.specs.Prelude.{ℕ, ◌+◌, ◌-◌, ◌==◌, ◌||◌, ◌&&◌, not, Bool, true, false, nat_lt, List}
use Rattle.std.specs.Prelude.{[], ◌∷◌, length, take, Option, Some, None, is_some, is_none}
use Rattle.std.specs.Prelude.{unwrap_or, bytes_eq, codes, if◌then◌else◌}
use Rattle.std.specs.List.{list_all}
use Rattle.std.specs.Char.{is_ascii_alphabetic}
use Rattle.ec_count.specs.Tables.{first_that}
use Rattle.ec_count.specs.Reserved.{is_name, is_name_byte}
use Rattle.ec_text.specs.Words.{words_of, number_in_word, is_number_form}
use Rattle.ec_heading.specs.declared.heading.HeadFault.{HeadFault}
use Rattle.ec_heading.specs.declared.heading.HeadFault.TheVariants as heads
use Rattle.ec_heading.specs.HeadingModel.{HeadingModel}
use Rattle.ec_heading.specs.Lists.{worker_in}
use Rattle.ec_heading.specs.EntryWords.{NameTable, event_in, sequencer_in, cell_in_word}
use Rattle.ec_heading.specs.DeclKinds.{sort_of}
use Rattle.ec_heading.specs.Versions.{has_transfer}
use Rattle.ec_explain.specs.declared.cause.Cause.{Cause}
use Rattle.ec_explain.specs.declared.cause.Cause.TheVariants as causes
use Rattle.ec_explain.specs.declared.site.Site.{Site}
use Rattle.ec_explain.specs.declared.site.Site.TheVariants as sites
use Rattle.ec_explain.specs.TextLines.{position_or_end}
use Rattle.ec_explain.specs.Places.{word_at, behind_first, word_start, is_among, is_full}
use Rattle.ec_explain.specs.Places.{is_listed, words_before}
use Rattle.calls_text.specs.Causes.{last_byte, has_space as has_blank, has_tab}

-- ANY LINE

-- whether a line begins with these bytes
abbrev pub begins_with : List ℕ → List ℕ → Bool
begins_with bytes line = bytes_eq (take (length bytes) line) bytes

-- whether it begins as comments do elsewhere
abbrev pub is_comment : List ℕ → Bool
is_comment line = begins_with (codes "#") line || begins_with (codes "//") line
    || begins_with (codes ";") line

-- what is wrong with the bytes of a line, wherever the line is
abbrev pub line_cause : List ℕ → Option Cause
line_cause line = first_that (
    (nat_lt 8192 (length line), causes.Long)
    ∷ (begins_with (239 ∷ 187 ∷ 191 ∷ []) line, causes.Mark)
    ∷ (bytes_eq (last_byte line) (13 ∷ []), causes.Return)
    ∷ (has_tab line, causes.Tab)
    ∷ (length line == 0, causes.Empty)
    ∷ (is_comment line, causes.Comment)
    ∷ (begins_with (32 ∷ []) line, causes.SpaceBefore)
    ∷ (bytes_eq (last_byte line) (32 ∷ []), causes.SpaceAfter)
    ∷ (has_blank line, causes.TwoSpaces)
    ∷ [])

-- THE FIRST LINE

-- it begins as the first line of some version does, or not
abbrev pub first_cause : List ℕ → Cause
first_cause line =
    if begins_with (codes "evc-trace") line || begins_with (codes "evc-script") line
    || begins_with (codes "evc-calls") line then causes.OtherVersion else causes.NoHeader

-- THE LIMIT

abbrev pub limit_cause : List ℕ → Cause
limit_cause line = unwrap_or (first_that (
    (not (bytes_eq (word_at 0 line) (codes "limit")), causes.NoLimit)
    ∷ (not (length (words_of line) == 2), causes.LimitWords)
    ∷ (not (is_number_form (word_at 1 line)), causes.LimitNoNumber)
    ∷ (bytes_eq (word_at 1 line) (codes "0"), causes.LimitZero)
    ∷ [])) causes.LimitLarge

-- NAMES

-- whether a word is a letter, followed by letters, digits and underscores
abbrev pub has_name_form : List ℕ → Bool
has_name_form [] = false
has_name_form (b ∷ bs) = is_ascii_alphabetic b && list_all is_name_byte bs

-- what is wrong with a word that is no name: it is too long; or it has the form, and so is
-- reserved; or it lacks the form
abbrev pub name_cause : List ℕ → Cause
name_cause w =
    if nat_lt 16 (length w) then causes.LongName
    else (if has_name_form w then causes.ReservedName else causes.BadName)

-- what is wrong with a line of a header, by its lowest fault and its new name
abbrev pub head_cause : HeadFault → List ℕ → Cause
head_cause heads.BadLine w = causes.DeclarationForm
head_cause heads.BadName w = name_cause w
head_cause heads.NameTaken w = causes.NameTaken
head_cause heads.UnknownName w = causes.UnknownName
head_cause heads.BadNumber w = causes.BadNumber
head_cause heads.TooMany w = causes.TooMany
head_cause heads.TwoRoles w = causes.TwoRoles
head_cause heads.Memory w = causes.Other

-- the index of the first word that is no name, after the word `workers`
abbrev pub bad_name_place : List ℕ → ℕ
bad_name_place line = 1 + words_before is_name (behind_first (words_of line))

-- the index of the new name in a line of a header that has one, or of the first word that should
-- be one
abbrev pub new_name_place : List ℕ → ℕ
new_name_place line = if bytes_eq (word_at 0 line) (codes "workers") then bad_name_place line else 1

abbrev pub workers_cause : HeadFault → List ℕ → Cause
workers_cause fault line =
    if not (bytes_eq (word_at 0 line) (codes "workers")) || length (words_of line) == 1
    then causes.NoWorkers else head_cause fault (word_at (bad_name_place line) line)

-- DECLARATIONS

abbrev pub declaration_cause : HeadingModel → HeadFault → List ℕ → Cause
declaration_cause h fault line = unwrap_or (first_that (
    (is_some (worker_in h.words (word_at 0 line)), causes.EntryBeforeRun)
    ∷ (is_none (sort_of (word_at 0 line)), causes.NoDeclaration)
    ∷ [])) (head_cause fault (word_at 1 line))

-- ENTRIES

-- how many words an act has that begins with this one
abbrev pub act_words : List ℕ → Option ℕ
act_words verb =
    if bytes_eq verb (codes "go") then Some 1
    else (if is_among (codes "advance" ∷ codes "read" ∷ codes "ticket" ∷ codes "get" ∷ []) verb
    then Some 2
    else (if is_among (codes "await" ∷ codes "put" ∷ codes "hand" ∷ []) verb then Some 3 else None))

-- the index at which a line has the word `=`, by its act
abbrev pub equals_place : List ℕ → ℕ
equals_place line = 1 + unwrap_or (act_words (word_at 1 line)) 1

-- whether a word is an object that the act may name: none, a sequencer, a cell or an eventcount
abbrev pub has_object : NameTable → List ℕ → List ℕ → Bool
has_object names verb w =
    if bytes_eq verb (codes "go") then true
    else (if bytes_eq verb (codes "ticket") then is_some (sequencer_in names w)
    else (if is_among (codes "put" ∷ codes "get" ∷ []) verb then is_some (cell_in_word names w)
    else is_some (event_in names w)))

abbrev pub is_reply : List ℕ → Bool
is_reply w = is_among (codes "done" ∷ codes "pending" ∷ []) w || is_some (number_in_word w)

-- what is wrong with the worker, the act and its object
abbrev pub act_cause : HeadingModel → List ℕ → Option Cause
act_cause h line = first_that (
    (is_none (worker_in h.words (word_at 0 line)), causes.NoWorker)
    ∷ (is_none (act_words (word_at 1 line)), causes.NoAct)
    ∷ (bytes_eq (word_at 1 line) (codes "hand") && not (has_transfer h.version), causes.HandInOne)
    ∷ (not (has_object h.words (word_at 1 line) (word_at 2 line)), causes.NoObject)
    ∷ [])

-- what is wrong with what follows the object
abbrev pub reply_cause : HeadingModel → List ℕ → Cause
reply_cause h line = unwrap_or (first_that ((
  is_among (codes "await" ∷ codes "put" ∷ []) (word_at 1 line)
      && is_none (number_in_word (word_at 3 line)),
  causes.NoValue,
)
    ∷ (
      bytes_eq (word_at 1 line) (codes "hand") && is_none (worker_in h.words (word_at 3 line)),
      causes.NoReceiver,
    )
    ∷ (not (bytes_eq (word_at (equals_place line) line) (codes "=")), causes.NoEquals)
    ∷ (not (is_reply (word_at (equals_place line + 1) line)), causes.NoReply)
    ∷ [])) causes.EntryWords

abbrev pub entry_cause : HeadingModel → List ℕ → Cause
entry_cause h line = unwrap_or (act_cause h line) (reply_cause h line)

-- A LINE AT ITS SITE

-- what is wrong with a line at its site, if its bytes don't show it by themselves
abbrev pub site_cause : Site → List ℕ → Cause
site_cause sites.First line = first_cause line
site_cause sites.Limit line = limit_cause line
site_cause (sites.Workers fault) line = workers_cause fault line
site_cause (sites.Declaration h fault) line = declaration_cause h.now fault line
site_cause (sites.Entry h) line = entry_cause h.now line
site_cause sites.Behind line = causes.AfterEnd
site_cause sites.Unknown line = causes.Other

-- what is wrong with a line at its site
abbrev pub cause_at : Site → List ℕ → Cause
cause_at site line = unwrap_or (line_cause line) (site_cause site line)

-- WHERE IT IS WRONG

abbrev pub name_place : Site → List ℕ → ℕ
name_place (sites.Workers fault) line = bad_name_place line
name_place _ line = 1

-- the index of the first word after a declaration's name that fails a test
abbrev pub first_failing : (List ℕ → Bool) → List ℕ → ℕ
first_failing p line = 2 + words_before p (behind_first (behind_first (words_of line)))

abbrev pub unknown_place : Site → List ℕ → ℕ
unknown_place (sites.Declaration h fault) line = first_failing (is_listed h.now.words) line
unknown_place _ line = 2

-- the index of the word that shows the cause
abbrev pub word_place : Site → Cause → List ℕ → ℕ
word_place site causes.TwoSpaces line = words_before is_full (words_of line)
word_place site causes.LimitWords line = 2
word_place site causes.LimitNoNumber line = 1
word_place site causes.LimitZero line = 1
word_place site causes.LimitLarge line = 1
word_place site causes.LongName line = name_place site line
word_place site causes.ReservedName line = name_place site line
word_place site causes.BadName line = name_place site line
word_place site causes.NameTaken line = 1
word_place site causes.UnknownName line = unknown_place site line
word_place site causes.BadNumber line = 2
word_place site causes.NoAct line = 1
word_place site causes.HandInOne line = 1
word_place site causes.NoObject line = 2
word_place site causes.NoValue line = 3
word_place site causes.NoReceiver line = 3
word_place site causes.NoEquals line = equals_place line
word_place site causes.NoReply line = equals_place line + 1
word_place site causes.EntryWords line = equals_place line + 2
word_place site _ line = 0

-- where a line shows the cause, as the number of bytes before it: at a byte that may not be there,
-- or where a word begins
abbrev pub place_at : Site → Cause → List ℕ → ℕ
place_at site causes.Long line = 8192
place_at site causes.Return line = length line - 1
place_at site causes.SpaceAfter line = length line - 1
place_at site causes.Tab line = position_or_end 9 line
place_at site cause line = word_start (word_place site cause line) line
