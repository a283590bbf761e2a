-- The text that `audit` writes: what the audit of each group found, in the order of the declarations.
use Rattle.std.specs.Prelude.{ℕ, ◌+◌, ◌-◌, Bool, false, ◌==◌, List, [], ◌∷◌, ◌++◌, map, codes, decimal, if◌then◌else◌, unwrap_or}
use Rattle.std.specs.List.{flat_map}
use Rattle.ec_count.specs.Names.{name_of}
use Rattle.ec_count.specs.declared.target.Target.TheVariants as targets
use Rattle.ec_buffer.specs.declared.delivery.Delivery.{Delivery}
use Rattle.ec_database.specs.Tries.{AcceptedTry}
use Rattle.ec_semaphore.specs.declared.parts.Balance.{Balance}
use Rattle.ec_semaphore.specs.declared.pair.Pair.{Pair}
use Rattle.ec_heading.specs.declared.group.Group.{Group}
use Rattle.ec_heading.specs.declared.group.Group.TheVariants as groups
use Rattle.ec_heading.specs.HeadingModel.{HeadingModel}
use Rattle.ec_heading.specs.Spelling.{NameTable, target_name, lines_text}
use Rattle.evc_engine.specs.declared.audit_result.AuditResult.{AuditResult}
use Rattle.evc_engine.specs.declared.audit_result.AuditResult.TheVariants as audits

-- a word after a space
abbrev pub word_after_space : List ℕ → List ℕ
word_after_space word = codes " " ++ word

abbrev pub worker_word : NameTable → ℕ → List ℕ
worker_word words w = target_name words (targets.Worker w)

-- LINES

-- what follows the name of the buffer
abbrev pub delivered_words : NameTable → Delivery → List ℕ
delivered_words words d =
    word_after_space (decimal d.number) ++ word_after_space (worker_word words d.producer) ++ word_after_space (worker_word words d.consumer) ++ word_after_space (decimal d.item)

abbrev pub delivery_line : NameTable → List ℕ → Delivery → List ℕ
delivery_line words name d = codes "delivery " ++ name ++ delivered_words words d

-- numbers, each after a space
abbrev pub spaced_numbers : List ℕ → List ℕ
spaced_numbers numbers = flat_map (λ n. word_after_space (decimal n)) numbers

-- what follows the name of the database
abbrev pub version_words : NameTable → AcceptedTry → List ℕ
version_words words a = word_after_space (decimal a.version) ++ word_after_space (worker_word words a.worker) ++ spaced_numbers a.values

abbrev pub version_line : NameTable → List ℕ → AcceptedTry → List ℕ
version_line words name a = codes "version " ++ name ++ version_words words a

-- the balance of its parts; it is never negative if the workers follow the semaphore's rules
abbrev pub balance_of : Balance → ℕ
balance_of b = b.initial + b.ups - b.downs

-- the parts of a balance, and the balance
abbrev pub balance_line : List ℕ → Balance → ℕ → List ℕ
balance_line name b now =
    codes "balance " ++ name ++ word_after_space (decimal b.initial) ++ word_after_space (decimal b.downs) ++ word_after_space (decimal b.ups) ++ word_after_space (decimal now)

-- the name of a semaphore, and a ticket of it
abbrev pub ticket_words : List ℕ → ℕ → List ℕ
ticket_words semaphore ticket = word_after_space semaphore ++ word_after_space (decimal ticket)

-- the two tickets of a pair, in the order in which they were drawn
abbrev pub pair_line : NameTable → (ℕ → List ℕ) → Pair → List ℕ
pair_line words semaphore p =
    codes "pair" ++ word_after_space (worker_word words p.worker) ++ ticket_words (semaphore p.first) p.first_ticket ++ ticket_words (semaphore p.second) p.second_ticket

-- NAMES OF GROUPS

-- the name of a group; the one without a name is `both`
abbrev pub group_word : NameTable → ℕ → List ℕ
group_word names i = unwrap_or (name_of (targets.Group i) names) (codes "both")

-- whether the group is the semaphore of this sequencer
abbrev pub is_line_of : ℕ → Group → Bool
is_line_of q (groups.Semaphore s) = s.line == q
is_line_of q _ = false

-- the name of the semaphore of a sequencer, among the groups from number i on
unfoldable pub semaphore_word : NameTable → ℕ → List Group → ℕ → List ℕ
semaphore_word names i [] q = []
semaphore_word names i (g ∷ gs) q = if is_line_of q g then group_word names i else semaphore_word names (i + 1) gs q

-- THE TEXT

-- the lines of what the audit of a group found
abbrev pub audited_lines : HeadingModel → List ℕ → AuditResult → List (List ℕ)
audited_lines h name (audits.Deliveries list) = map (delivery_line h.words name) list.items
audited_lines h name (audits.Versions tries) = map (version_line h.words name) tries.list
audited_lines h name (audits.Balances balance now) = balance_line name balance now ∷ []
audited_lines h name (audits.Pairs balance now list) = balance_line name balance now ∷ map (pair_line h.words (semaphore_word h.names 0 h.groups)) list.items

-- the lines of what the audits of the groups from number i on found
unfoldable pub groups_lines : HeadingModel → ℕ → List AuditResult → List (List ℕ)
groups_lines h i [] = []
groups_lines h i (a ∷ rest) = audited_lines h (group_word h.names i) a ++ groups_lines h (i + 1) rest

-- the text, for a header and what the audits of its groups found
unfoldable pub audit_text : HeadingModel → List AuditResult → List ℕ
audit_text h found = lines_text (codes "evc-audit 1" ∷ groups_lines h 0 found ++ codes "end" ∷ [])
