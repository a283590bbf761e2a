-- Why a line of a header is rejected: each kind of fault has a test.
use Rattle.std.specs.Prelude.{ℕ, ◌+◌, Bool, ◌&&◌, ◌||◌, not, nat_lt, List, [], ◌∷◌, length, Option, Some, None, is_some, unwrap_or}
use Rattle.std.specs.List.{list_any}
use Rattle.ec_count.specs.Tables.{Tables, first_that}
use Rattle.ec_count.specs.Members.{is_member, has_repeat}
use Rattle.ec_count.specs.Names.{find_name}
use Rattle.ec_count.specs.Reserved.{is_name}
use Rattle.ec_buffer.specs.Shapes as buffers
use Rattle.ec_database.specs.Shapes as databases
use Rattle.ec_text.specs.Words.{number_in_word}
use Rattle.ec_heading.specs.declared.decl_kind.DeclKind.{DeclKind}
use Rattle.ec_heading.specs.declared.decl_kind.DeclKind.TheVariants as sorts
use Rattle.ec_heading.specs.declared.heading.HeadFault.{HeadFault}
use Rattle.ec_heading.specs.declared.heading.HeadFault.TheVariants as faults
use Rattle.ec_heading.specs.DeclKinds.{has_number, needs_disjoint_lists, is_called, is_in_range}
use Rattle.ec_heading.specs.HeaderTree.{Declaration}
use Rattle.ec_heading.specs.Form.{Phrase}
use Rattle.ec_heading.specs.Lists.{NameTable, ids_in, has_unknown, has_word_twice}

-- the number of each kind of fault, among the kinds of errors of scripts; out of memory is no fault
-- of a line
abbrev pub fault_number : HeadFault → Option ℕ
fault_number faults.BadLine = Some 2
fault_number faults.BadName = Some 3
fault_number faults.NameTaken = Some 4
fault_number faults.UnknownName = Some 5
fault_number faults.BadNumber = Some 6
fault_number faults.TooMany = Some 7
fault_number faults.TwoRoles = Some 9
fault_number faults.Memory = None

-- A LINE OF WORKERS

-- the lowest fault of the names of workers
abbrev pub workers_fault : List (List ℕ) → Option HeadFault
workers_fault ws = first_that (
    (list_any (λ w. not (is_name w)) ws, faults.BadName)
    ∷ (has_word_twice ws, faults.NameTaken)
    ∷ (nat_lt 16 (length ws), faults.TooMany)
    ∷ [])

-- A DECLARATION

abbrev pub second_list : Phrase → List (List ℕ)
second_list p = unwrap_or p.second []

-- the number; 0 if the form has none, or if it has more than 18 digits
abbrev pub size_in : Phrase → ℕ
size_in p = unwrap_or (number_in_word p.number) 0

-- the declaration that such a line makes, by the words of the header
abbrev pub declaration_of : NameTable → Phrase → Declaration
declaration_of words p = record { sort = p.sort; name = p.name; number = size_in p; first = ids_in words p.first; second = ids_in words (second_list p) }

-- whether the name is in use, or a list names a worker twice
abbrev pub is_taken : NameTable → Declaration → Bool
is_taken words d = is_some (find_name d.name words) || (has_repeat d.first || has_repeat d.second)

-- whether a word of a list is no worker's name
abbrev pub has_unknown_word : NameTable → Phrase → Bool
has_unknown_word words p = has_unknown words p.first || has_unknown words (second_list p)

-- whether the number is out of its range; one of more than 18 digits is
abbrev pub is_bad_number : DeclKind → Option ℕ → Bool
is_bad_number s None = has_number s
is_bad_number s (Some n) = has_number s && not (is_in_range s n)

-- whether there is no room for the objects
abbrev pub is_full_for : DeclKind → Tables → ℕ → Bool
is_full_for sorts.EventCount t n = nat_lt 31 (length t.events)
is_full_for sorts.Sequencer t n = nat_lt 31 (length t.takers)
is_full_for sorts.Cells t n = nat_lt 256 (length t.cells + n)
is_full_for sorts.Buffer t n = buffers.lacks_room t n
is_full_for sorts.Database t n = databases.lacks_room t n
is_full_for _ t n = nat_lt 31 (length t.events) || nat_lt 31 (length t.takers)

abbrev pub is_too_many : Tables → Declaration → Bool
is_too_many t d = (nat_lt 16 (length d.first) || nat_lt 16 (length d.second)) || is_full_for d.sort t d.number

-- whether a worker is in both lists, which have to be disjoint
abbrev pub has_two_roles : Declaration → Bool
has_two_roles d = needs_disjoint_lists d.sort && list_any (λ w. is_member w d.second) d.first

-- the lowest fault of a declaration, of a line that has one of the forms
abbrev pub kind_of : Tables → NameTable → Phrase → Declaration → Option HeadFault
kind_of t words p d = first_that (
    (not (is_called d.sort d.name), faults.BadName)
    ∷ (is_taken words d, faults.NameTaken)
    ∷ (has_unknown_word words p, faults.UnknownName)
    ∷ (is_bad_number p.sort (number_in_word p.number), faults.BadNumber)
    ∷ (is_too_many t d, faults.TooMany)
    ∷ (has_two_roles d, faults.TwoRoles)
    ∷ [])

abbrev pub declaration_fault : Tables → NameTable → Phrase → Option HeadFault
declaration_fault t words p = kind_of t words p (declaration_of words p)
