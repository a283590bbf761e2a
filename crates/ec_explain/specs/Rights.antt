-- Which right the act of a line needs, and who has it.
use Rattle.std.specs.Prelude.{ℕ, zero, suc, List, [], ◌∷◌, ◌++◌, Option, Some, None, option_map}
use Rattle.std.specs.Prelude.{bytes_eq, codes, if◌then◌else◌}
use Rattle.std.specs.Option.{option_and_then}
use Rattle.ec_count.specs.Tables.{Tables}
use Rattle.ec_core.specs.Acceptance.{has_right}
use Rattle.ec_core.specs.declared.act.Act.{Act}
use Rattle.ec_core.specs.declared.act.Act.TheVariants as acts
use Rattle.ec_core.specs.declared.act.Entry.{Entry}
use Rattle.ec_heading.specs.HeadingModel.{HeadingModel}
use Rattle.ec_heading.specs.Lists.{worker_in}
use Rattle.ec_heading.specs.EntryWords.{NameTable, event_in, sequencer_in, cell_in_word}
use Rattle.ec_explain.specs.declared.rights.Asked.{Asked}
use Rattle.ec_explain.specs.Places.{word_at, is_among}

-- WHICH RIGHT IT NEEDS

-- an act that needs the same right as that of a verb on what a word names: for a `hand` the
-- advance, for an await the read, and for a put that of 0
abbrev pub parse_act : NameTable → List ℕ → List ℕ → Option Act
parse_act names verb w =
    if bytes_eq verb (codes "go") then Some acts.Go
    else (if is_among (codes "advance" ∷ codes "hand" ∷ []) verb
    then option_map acts.Advance (event_in names w)
    else (if is_among (codes "read" ∷ codes "await" ∷ []) verb
    then option_map acts.Read (event_in names w)
    else (if bytes_eq verb (codes "ticket") then option_map acts.Ticket (sequencer_in names w)
    else (if bytes_eq verb (codes "put") then option_map (λ x. acts.Put x 0) (cell_in_word names w)
    else (if bytes_eq verb (codes "get") then option_map acts.Get (cell_in_word names w)
    else None)))))

-- the worker of a line, and the right that its act needs
unfoldable pub asked_in : HeadingModel → List ℕ → Option Asked
asked_in h line =
    option_and_then (λ w. option_map (λ a. record { worker = w; act = a })
    (parse_act h.words (word_at 1 line) (word_at 2 line))) (worker_in h.words (word_at 0 line))

-- WHO HAS IT

-- those of the first n workers that have the right to an act after a reversed history
unfoldable pub holders_of : Tables → List Entry → Act → ℕ → List ℕ
holders_of t past act zero = []
holders_of t past act (suc n) =
    holders_of t past act n ++ (if has_right t past n act then n ∷ [] else [])

-- those of all workers
abbrev pub holders : Tables → List Entry → Act → List ℕ
holders t past act = holders_of t past act t.workers
