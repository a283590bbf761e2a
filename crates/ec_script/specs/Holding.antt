-- Which kinds of fault hold of a line in its place, each by its own definition; and that the least
-- that holds is reported.
use Rattle.std.specs.Prelude.{◌≡◌, ◌≢◌, ◌⊎◌, ◌↔◌, ℕ, ◌+◌, ◌<◌, ◌≤◌, true, false, List, [], ◌∷◌, ◌++◌, length, Some, None, Err, decimal}
use Rattle.std.specs.List.{Any, Contains}
use Rattle.ec_count.specs.Names.{find_name}
use Rattle.ec_count.specs.Reserved.{is_name}
use Rattle.ec_count.specs.Tables.{Tables}
use Rattle.ec_database.specs.Shapes.{Database}
use Rattle.ec_machine.specs.declared.command.Value.{Value}
use Rattle.ec_machine.specs.Limits.{is_value}
use Rattle.ec_heading.specs.declared.group.Group.{Group}
use Rattle.ec_heading.specs.Form as headings
use Rattle.ec_heading.specs.declared.version.Version.{Version}
use Rattle.ec_heading.specs.Versions.{greatest_limit}
use Rattle.ec_heading.specs.HeadingModel.{HeadingModel}
use Rattle.ec_heading.specs.Kinds.{second_list, declaration_of}
use Rattle.ec_heading.specs.Lists.{worker_in, ids_in}
use Rattle.ec_heading.specs.HeaderTree.{with_declaration}
use Rattle.ec_heading.specs.DeclKinds.{has_number, is_called, is_in_range, needs_disjoint_lists}
use Rattle.ec_script.specs.Headers.{script_header}
use Rattle.ec_script.specs.declared.fault.Kind.{Kind}
use Rattle.ec_script.specs.declared.fault.Kind.TheVariants as kinds
use Rattle.ec_script.specs.declared.object.Object.{Object}
use Rattle.ec_script.specs.declared.object.Object.TheVariants.{Worker, OfDatabase}
use Rattle.ec_script.specs.declared.script.OpenBlock.{OpenBlock}
use Rattle.ec_script.specs.declared.stage.Stage.{Stage}
use Rattle.ec_script.specs.declared.stage.Stage.TheVariants.{Opening, Limiting, Naming, Reading}
use Rattle.ec_script.specs.declared.verb.Tail.{Tail}
use Rattle.ec_script.specs.declared.verb.Tail.TheVariants as tails
use Rattle.ec_script.specs.declared.verb.LineWord.{LineWord}
use Rattle.ec_script.specs.declared.verb.LineWord.TheVariants as verbs
use Rattle.ec_script.specs.Faults.{kind_number}
use Rattle.ec_script.specs.Forms.{Phrase}
use Rattle.ec_script.specs.Grammar.{Leads}
use Rattle.ec_script.specs.Kinds.{greatest, has_right}
use Rattle.ec_script.specs.Objects.{object_in, owns}
use Rattle.ec_script.specs.Placed.{IsLimitLine, IsWorkersLine, IsDeclaration, IsOther}
use Rattle.ec_script.specs.Reading.{step}
use Rattle.ec_script.specs.ScriptModel.{ScriptModel}
use Rattle.ec_script.specs.Spelling.{value_word}
use Rattle.ec_script.specs.Verbs.{tail_of, is_update, is_counted}

-- an element is at two places of a list
abbrev pub OccursTwice : {A : Type 0} → List A → Type 0
OccursTwice {A} xs = (x : A) × (prefix : List A) × (between : List A) × (rest : List A) × (xs ≡ prefix ++ x ∷ (between ++ x ∷ rest))

-- THE LIMIT

-- these digits are the decimal encoding of no number from 1 to the greatest limit of the version
abbrev pub LimitHas : Version → List ℕ → Kind → Type 0
LimitHas v digits kinds.BadNumber = (n : ℕ) → 1 ≤ n → n ≤ greatest_limit v → digits ≢ decimal n
LimitHas v digits _ = ⊥

-- THE WORKERS

-- a word is no name, a word occurs twice, there are more than 16
abbrev pub WorkersHave : List (List ℕ) → Kind → Type 0
WorkersHave names kinds.BadName = Any (λ w. is_name w ≡ false) names
WorkersHave names kinds.NameTaken = OccursTwice names
WorkersHave names kinds.TooMany = 16 < length names
WorkersHave names _ = ⊥

-- A DECLARATION

-- the name is in the symbol table of the header already, or a list names a worker twice
abbrev pub IsTaken : HeadingModel → headings.Phrase → Type 0
IsTaken h p = (find_name p.name h.words ≢ None) ⊎ (OccursTwice (ids_in h.words p.first) ⊎ OccursTwice (ids_in h.words (second_list p)))

-- more than 32 eventcounts, 32 sequencers or 256 cells
abbrev pub IsOver : Tables → Type 0
IsOver t = (32 < length t.events) ⊎ ((32 < length t.takers) ⊎ (256 < length t.cells))

-- a list names more than 16 workers, or with these objects there would be too many
abbrev pub PassesBounds : HeadingModel → headings.Phrase → Type 0
PassesBounds h p =
    ((16 < length (ids_in h.words p.first)) ⊎ (16 < length (ids_in h.words (second_list p)))) ⊎ IsOver (with_declaration h (declaration_of h.words p)).setup

-- some worker is in both lists
abbrev pub SharesWorker : HeadingModel → headings.Phrase → Type 0
SharesWorker h p = (w : ℕ) × Contains (ids_in h.words p.first) w × Contains (ids_in h.words (second_list p)) w

-- the new name is none; it is taken; a word of a list is no worker's name; its digits are the
-- decimal encoding of no number in range; bounds are passed; and of a buffer or a database, a
-- worker has both roles
abbrev pub DeclarationHas : HeadingModel → headings.Phrase → Kind → Type 0
DeclarationHas h p kinds.BadName = is_called p.sort p.name ≡ false
DeclarationHas h p kinds.NameTaken = IsTaken h p
DeclarationHas h p kinds.UnknownName = Any (λ w. worker_in h.words w ≡ None) p.first ⊎ Any (λ w. worker_in h.words w ≡ None) (second_list p)
DeclarationHas h p kinds.BadNumber = (has_number p.sort ≡ true) × ((n : ℕ) → is_in_range p.sort n ≡ true → p.number ≢ decimal n)
DeclarationHas h p kinds.TooMany = PassesBounds h p
DeclarationHas h p kinds.TwoRoles = (needs_disjoint_lists p.sort ≡ true) × SharesWorker h p
DeclarationHas h p _ = ⊥

-- LINES AFTER THE DECLARATIONS

-- a block is open, and this holds of it; a declared object of the right kind is named, and this
-- holds of it
abbrev pub InBlock : ScriptModel → (OpenBlock → Type 0) → Type 0
InBlock s T = (b : OpenBlock) × (s.block ≡ Some b) × T b

abbrev pub About : ScriptModel → Phrase → (Object → Type 0) → Type 0
About s p T = (o : Object) × (object_in s.heading p ≡ Some o) × T o

-- it is a worker whose block began before
abbrev pub IsBegun : List ℕ → Object → Type 0
IsBegun named (Worker w) = Contains named w
IsBegun named _ = ⊥

-- the word is the canonical encoding of no value in its range
abbrev pub IsNoValue : List ℕ → Type 0
IsNoValue w = (v : Value) → is_value v ≡ true → w ≢ value_word v

-- a value is none in its range; or, of a `write`, the database has another number of cells; a count
-- of tries or of a repeat is none in its range
abbrev pub IsBadNumber : Tail → HeadingModel → Phrase → Type 0
IsBadNumber tails.Value h p = (w : List ℕ) × (p.rest ≡ w ∷ []) × IsNoValue w
IsBadNumber tails.Values h p = Any IsNoValue p.rest ⊎ ((d : Database) → object_in h p ≡ Some (OfDatabase d) → length p.rest ≢ d.cells)
IsBadNumber tails.Digits h p = (n : ℕ) → 1 ≤ n → n ≤ greatest p.verb → p.rest ≢ decimal n ∷ []
IsBadNumber _ h p = ⊥

-- the schedule passes 65536 names, or the commands of the block pass 4096
abbrev pub IsTooLong : ScriptModel → Phrase → Type 0
IsTooLong s p =
    ((p.verb ≡ verbs.Schedule) × (65536 < length s.schedule + length p.rest))
    ⊎ InBlock s (λ b. (is_counted p.verb ≡ true) × (4096 < b.draft.commands + 1))

-- a `worker` or `schedule` line; a fifth repeat in the others; an `end` of a repeat without a command
abbrev pub IsMisplaced : OpenBlock → LineWord → Type 0
IsMisplaced b verbs.Worker = Unit {0}
IsMisplaced b verbs.Schedule = Unit {0}
IsMisplaced b verbs.Repeat = 4 ≤ b.draft.depth
IsMisplaced b verbs.End = (0 < b.draft.depth) × (b.draft.is_empty ≡ true)
IsMisplaced b _ = ⊥

-- a `worker` line names a worker whose block began before; a word names no declared object of the
-- right kind, or a name of the schedule is no worker's; a number is bad; bounds are passed; a raw
-- command names an object of a group; a `pboth` line names one semaphore twice; the worker of the
-- block lacks the right; and in a block, the line is misplaced
abbrev pub OtherHas : ScriptModel → Phrase → Kind → Type 0
OtherHas s p kinds.NameTaken = About s p (IsBegun s.named)
OtherHas s p kinds.UnknownName = (object_in s.heading p ≡ None) ⊎ ((p.verb ≡ verbs.Schedule) × Any (λ w. worker_in s.heading.words w ≡ None) p.rest)
OtherHas s p kinds.BadNumber = IsBadNumber (tail_of p.verb) s.heading p
OtherHas s p kinds.TooMany = IsTooLong s p
OtherHas s p kinds.Hidden = About s p (λ o. Any (λ (g : Group). owns o g ≡ true) s.heading.groups)
OtherHas s p kinds.TwoRoles = (p.verb ≡ verbs.DownBoth) × (p.rest ≡ p.object ∷ []) × (object_in s.heading p ≢ None)
OtherHas s p kinds.NoRight = InBlock s (λ b. About s p (λ o. has_right s.heading.version s.heading.setup b.worker (is_update p.verb) o ≡ false))
OtherHas s p kinds.BadNesting = InBlock s (λ b. IsMisplaced b p.verb)
OtherHas s p _ = ⊥

-- ANY LINE

-- for BadLine it has none of the forms; for another kind it has one, and the kind holds of it in
-- that form
abbrev pub OfForm : {F : Type 0} → (F → Type 0) → (F → Kind → Type 0) → Kind → Type 0
OfForm {F} Is Has kinds.BadLine = (f : F) → Is f → ⊥
OfForm {F} Is Has kind = (f : F) × Is f × Has f kind

-- after the line of workers a line is a declaration or another line
abbrev pub OfEither : ScriptModel → List ℕ → Kind → Type 0
OfEither s line kinds.BadLine = ((p : headings.Phrase) → IsDeclaration s line p → ⊥) × ((p : Phrase) → IsOther s line p → ⊥)
OfEither s line kind =
    ((p : headings.Phrase) × IsDeclaration s line p × DeclarationHas s.heading p kind) ⊎ ((p : Phrase) × IsOther s line p × OtherHas s p kind)

-- the kind holds of the line in its place: line 1 is the first line of no version; a later line is
-- judged by its form
abbrev pub HasKind : Stage → List ℕ → Kind → Type 0
HasKind Opening line kinds.BadHeader = (v : Version) → line ≢ script_header v
HasKind Opening line _ = ⊥
HasKind (Limiting v) line kind = OfForm (IsLimitLine line) (LimitHas v) kind
HasKind (Naming b) line kind = OfForm (IsWorkersLine line) WorkersHave kind
HasKind (Reading s) line kind = OfEither s line kind

-- the least that holds, by their numbers
abbrev pub IsLeast : Stage → List ℕ → Kind → Type 0
IsLeast stage line kind = HasKind stage line kind × ((less : Kind) → kind_number less < kind_number kind → HasKind stage line less → ⊥)

-- THEOREMS

-- a kind is reported for a line exactly if it is the least that holds
abbrev pub LeastKindWins : Type 0
LeastKindWins = (before : List (List ℕ)) (stage : Stage) (line : List ℕ) (kind : Kind) → Leads Opening before stage → (step stage line ≡ Err kind) ↔ IsLeast stage line kind
