-- Which workers and objects are drawn: those that some name chooses; without names all are.
use Rattle.std.specs.Prelude.{ℕ, Bool, true, ◌==◌, ◌&&◌, ◌||◌, List, map, length, Option, Some}
use Rattle.std.specs.Prelude.{None, slice_get}
use Rattle.std.specs.Borrow.{Bor}
use Rattle.std.specs.List.{list_any, filter, starts_with}
use Rattle.ec_count.specs.Targets.{same_target}
use Rattle.ec_count.specs.declared.target.Target.{Target}
use Rattle.ec_count.specs.declared.target.Target.TheVariants.{Worker, Event, Sequencer}
use Rattle.ec_core.specs.declared.act.Act.{Act}
use Rattle.ec_core.specs.declared.act.Act.TheVariants as acts
use Rattle.ec_heading.specs.Spelling.{NameTable, cell_in}
use Rattle.ec_draw.specs.declared.curve.CurveSource.{CurveSource}
use Rattle.ec_draw.specs.declared.curve.CurveSource.TheVariants as plotted
use Rattle.ec_draw.specs.declared.curve.Counter.TheVariants as counted
use Rattle.ec_draw.specs.declared.arrow.Arrow.{Arrow}
use Rattle.ec_draw.specs.declared.chosen.NameFilter.{NameFilter}
use Rattle.ec_draw.specs.Shades.{ShadeModel}

-- CHOSEN NAMES

-- the word ends after the name, or a dot follows
abbrev pub ends_name : Option ℕ → Bool
ends_name None = true
ends_name (Some b) = b == 46

-- whether a name chooses a word: it is the word, or that of the word's group, as B is of B.in
abbrev pub is_name_of : List ℕ → List ℕ → Bool
is_name_of word name =
    starts_with (λ a b. a == b) word name && ends_name (slice_get word (length name))

-- whether a word is chosen: some name chooses it; if there is no name all are
abbrev pub is_chosen : List (Bor (List ℕ)) → List ℕ → Bool
is_chosen names word = (length names == 0) || list_any (λ name. is_name_of word name.now) names

-- the names that can choose a target
abbrev pub names_for : NameFilter → Target → List (Bor (List ℕ))
names_for n (Worker w) = n.workers.now
names_for n _ = n.objects.now

-- whether the target of a word is drawn
abbrev pub is_drawn : NameFilter → List ℕ × Target → Bool
is_drawn n e = is_chosen (names_for n e.1) e.0

-- the targets of a symbol table that are drawn
abbrev pub chosen_targets : NameFilter → NameTable → List Target
chosen_targets n words = map (λ (e : List ℕ × Target). e.1) (filter (is_drawn n) words)

-- WHAT IS DRAWN IF THESE TARGETS ARE CHOSEN

abbrev pub draws_worker : List Target → ℕ → Bool
draws_worker ts w = list_any (λ t. same_target t (Worker w)) ts

abbrev pub draws_event : List Target → ℕ → Bool
draws_event ts e = list_any (λ t. same_target t (Event e)) ts

abbrev pub draws_sequencer : List Target → ℕ → Bool
draws_sequencer ts q = list_any (λ t. same_target t (Sequencer q)) ts

abbrev pub draws_cell : List Target → ℕ → Bool
draws_cell ts x = list_any (cell_in x) ts

-- the object of an act
abbrev pub draws_object : List Target → Act → Bool
draws_object ts (acts.Advance e) = draws_event ts e
draws_object ts (acts.Read e) = draws_event ts e
draws_object ts (acts.Await e v) = draws_event ts e
draws_object ts acts.Go = true
draws_object ts (acts.Ticket q) = draws_sequencer ts q
draws_object ts (acts.Put x v) = draws_cell ts x
draws_object ts (acts.Get x) = draws_cell ts x
draws_object ts (acts.Hand e b) = draws_event ts e

-- a call: its worker and its object are chosen
abbrev pub draws : List Target → ℕ → Act → Bool
draws ts w act = draws_worker ts w && draws_object ts act

-- a curve; that of a balance by its semaphore's eventcount
abbrev pub draws_curve : List Target → CurveSource → Bool
draws_curve ts (plotted.Count (counted.Event e)) = draws_event ts e
draws_curve ts (plotted.Count (counted.Sequencer q)) = draws_sequencer ts q
draws_curve ts (plotted.Balance e) = draws_event ts e

-- a shade, by its reader and its database's eventcount of starts
abbrev pub draws_shade : List Target → ShadeModel → Bool
draws_shade ts s = draws_worker ts s.accepted.worker && draws_event ts s.count

-- an arrow, by its producer, its consumer and its buffer's eventcount of puts
abbrev pub draws_arrow : List Target → Arrow → Bool
draws_arrow ts a = (draws_worker ts a.delivery.producer && draws_worker ts a.delivery.consumer)
    && draws_event ts a.count
