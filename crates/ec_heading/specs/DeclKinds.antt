-- The forms of declarations, as a table over their kinds.
use Rattle.std.specs.Prelude.{ℕ, Bool, true, false, ◌&&◌, nat_le, List, [], ◌∷◌, map, Option, Some, None, if◌then◌else◌, bytes_eq, codes}
use Rattle.ec_count.specs.Tables.{first_that}
use Rattle.ec_count.specs.Reserved.{is_name}
use Rattle.ec_semaphore.specs.declared.shape.TheConstants.{INITIAL_MAX}
use Rattle.ec_heading.specs.declared.decl_kind.DeclKind.{DeclKind}
use Rattle.ec_heading.specs.declared.decl_kind.DeclKind.TheVariants as sorts

-- the word that opens a declaration
abbrev pub sort_word : DeclKind → List ℕ
sort_word sorts.EventCount = codes "eventcount"
sort_word sorts.Sequencer = codes "sequencer"
sort_word sorts.Cells = codes "cells"
sort_word sorts.Buffer = codes "buffer"
sort_word sorts.Database = codes "database"
sort_word sorts.Semaphore = codes "semaphore"
sort_word sorts.Both = codes "both"

-- the kind of declaration that a word opens
abbrev pub sort_of : List ℕ → Option DeclKind
sort_of w =
    first_that (map (λ (s : DeclKind). (bytes_eq w (sort_word s), s))
    (sorts.EventCount ∷ sorts.Sequencer ∷ sorts.Cells ∷ sorts.Buffer ∷ sorts.Database ∷ sorts.Semaphore ∷ sorts.Both ∷ []))

-- whether a name follows it
abbrev pub has_name : DeclKind → Bool
has_name sorts.Both = false
has_name _ = true

-- whether a number follows the name
abbrev pub has_number : DeclKind → Bool
has_number sorts.EventCount = false
has_number sorts.Sequencer = false
has_number sorts.Both = false
has_number _ = true

-- the least and the greatest number of such a declaration; 0 if its form has none
abbrev pub least : DeclKind → ℕ
least sorts.Cells = 1
least sorts.Buffer = 1
least sorts.Database = 1
least _ = 0

abbrev pub greatest : DeclKind → ℕ
greatest sorts.Cells = 256
greatest sorts.Buffer = 256
greatest sorts.Database = 256
greatest sorts.Semaphore = INITIAL_MAX
greatest _ = 0

-- whether a declaration of this kind may have this number
abbrev pub is_in_range : DeclKind → ℕ → Bool
is_in_range s n = nat_le (least s) n && nat_le n (greatest s)

-- whether a declaration of this kind may be called so: by a name, or by the kind's own word if its
-- form has no name
abbrev pub is_called : DeclKind → List ℕ → Bool
is_called s name = if has_name s then is_name name else bytes_eq name (sort_word s)

-- the word before the first list
abbrev pub opener : DeclKind → List ℕ
opener sorts.EventCount = codes "signal"
opener sorts.Sequencer = codes "take"
opener sorts.Cells = codes "write"
opener sorts.Buffer = codes "produce"
opener sorts.Database = codes "write"
opener sorts.Semaphore = codes "use"
opener sorts.Both = codes "use"

-- the word before the second list
abbrev pub second_opener : DeclKind → Option (List ℕ)
second_opener sorts.EventCount = Some (codes "observe")
second_opener sorts.Cells = Some (codes "read")
second_opener sorts.Buffer = Some (codes "consume")
second_opener sorts.Database = Some (codes "read")
second_opener _ = None

-- whether the second list must be there
abbrev pub needs_second : DeclKind → Bool
needs_second sorts.Buffer = true
needs_second sorts.Database = true
needs_second _ = false

-- whether no worker may be in both lists
abbrev pub needs_disjoint_lists : DeclKind → Bool
needs_disjoint_lists sorts.Buffer = true
needs_disjoint_lists sorts.Database = true
needs_disjoint_lists _ = false
