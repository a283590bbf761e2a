-- The object of a call is of the sort that the call needs.
use Rattle.std.proofs.Common.{◌≡◌, ℕ, List, Option, Some, None, slice_get, refl, subst}
use Rattle.std.proofs.lemmas.Option.{slice_get_within}
use Rattle.std.specs.Prelude.{option_map}
use Rattle.std.specs.Option.{option_and_then}
use Rattle.ec_count.specs.Names.{find_name}
use Rattle.ec_buffer.specs.Shapes as buffers
use Rattle.ec_database.specs.Shapes as databases
use Rattle.ec_semaphore.specs.Shapes.{Semaphore}
use Rattle.ec_heading.specs.declared.group.Group.{Group}
use Rattle.ec_heading.specs.declared.group.Group.TheVariants as groups
use Rattle.ec_heading.specs.HeadingModel.{HeadingModel}
use Rattle.ec_heading.specs.EntryWords.{event_in, sequencer_in, cell_in_word}
use Rattle.calls_text.specs.declared.verb.OpWord.{OpWord}
use Rattle.calls_text.specs.declared.verb.OpWord.TheVariants as verbs
use Rattle.calls_text.specs.declared.object.Object.{Object}
use Rattle.calls_text.specs.declared.object.Object.TheVariants as objects
use Rattle.calls_text.specs.Objects.{group_place, group_at, group_in, placed_semaphore}
use Rattle.calls_text.specs.Objects.{placed_database, placed_buffer}
use Rattle.calls_text.specs.Objects.{semaphore_in, database_in, buffer_in}
use Rattle.ec_heading.specs.Groups.{both_of}
use Rattle.calls_text.specs.Objects.{semaphore_pair, as_semaphore, as_database, as_buffer}
use Rattle.calls_text.specs.Objects.{object_in}
use Rattle.calls_text.specs.kept.Runs.{Fits, IsPlaced}
use Rattle.calls_text.proofs.CellWords.{and_then_back as bound}

pub mapped : {A B : Type 0} (f : A → B) (o : Option A) (y : B) → option_map f o ≡ Some y
    → (x : A) × (o ≡ Some x) × (f x ≡ y)
mapped f None y is = cc
mapped f (Some x) y is = (x, refl, cc)

-- GROUPS

group_found : (h : HeadingModel) (w : List ℕ) (p : ℕ × Group) → group_in h w ≡ Some p
    → slice_get h.groups p.0 ≡ Some p.1
group_found h w p is =
    let b = bound (group_at h.groups) (option_and_then group_place (find_name w h.names)) p is in
    let m = mapped (λ (g : Group). (b.0, g)) (slice_get h.groups b.0) p b.2 in
    subst (λ (q : ℕ × Group). slice_get h.groups q.0 ≡ Some q.1) m.2 m.1

as_one : (h : HeadingModel) (i : ℕ) (g : Group) (p : ℕ × Semaphore) → slice_get h.groups i ≡ Some g
    → placed_semaphore (i, g) ≡ Some p → slice_get h.groups p.0 ≡ Some (groups.Semaphore p.1)
as_one h i (groups.Semaphore s) p at is =
    let e : (let q : ℕ × Semaphore = (i, s) in q) ≡ p = cc in
    subst (λ (q : ℕ × Semaphore). slice_get h.groups q.0 ≡ Some (groups.Semaphore q.1)) e at
as_one h i (groups.Both s) p at is = cc
as_one h i (groups.Buffer b) p at is = cc
as_one h i (groups.Database d) p at is = cc

as_data : (h : HeadingModel) (i : ℕ) (g : Group) (p : ℕ × databases.Database)
    → slice_get h.groups i ≡ Some g → placed_database (i, g) ≡ Some p
    → slice_get h.groups p.0 ≡ Some (groups.Database p.1)
as_data h i (groups.Database d) p at is =
    let e : (let q : ℕ × databases.Database = (i, d) in q) ≡ p = cc in
    subst (λ (q : ℕ × databases.Database). slice_get h.groups q.0 ≡ Some (groups.Database q.1)) e at
as_data h i (groups.Semaphore s) p at is = cc
as_data h i (groups.Both s) p at is = cc
as_data h i (groups.Buffer b) p at is = cc

as_queue : (h : HeadingModel) (i : ℕ) (g : Group) (p : ℕ × buffers.Buffer)
    → slice_get h.groups i ≡ Some g → placed_buffer (i, g) ≡ Some p
    → slice_get h.groups p.0 ≡ Some (groups.Buffer p.1)
as_queue h i (groups.Buffer b) p at is =
    let e : (let q : ℕ × buffers.Buffer = (i, b) in q) ≡ p = cc in
    subst (λ (q : ℕ × buffers.Buffer). slice_get h.groups q.0 ≡ Some (groups.Buffer q.1)) e at
as_queue h i (groups.Database d) p at is = cc
as_queue h i (groups.Semaphore s) p at is = cc
as_queue h i (groups.Both s) p at is = cc

semaphore_found : (h : HeadingModel) (w : List ℕ) (p : ℕ × Semaphore) → semaphore_in h w ≡ Some p
    → slice_get h.groups p.0 ≡ Some (groups.Semaphore p.1)
semaphore_found h w p is =
    let b = bound placed_semaphore (group_in h w) p is in
    as_one h b.0.0 b.0.1 p (group_found h w b.0 b.1) b.2

database_found : (h : HeadingModel) (w : List ℕ) (p : ℕ × databases.Database)
    → database_in h w ≡ Some p → slice_get h.groups p.0 ≡ Some (groups.Database p.1)
database_found h w p is =
    let b = bound placed_database (group_in h w) p is in
    as_data h b.0.0 b.0.1 p (group_found h w b.0 b.1) b.2

buffer_found : (h : HeadingModel) (w : List ℕ) (p : ℕ × buffers.Buffer)
    → buffer_in h w ≡ Some p → slice_get h.groups p.0 ≡ Some (groups.Buffer p.1)
buffer_found h w p is =
    let b = bound placed_buffer (group_in h w) p is in
    as_queue h b.0.0 b.0.1 p (group_found h w b.0 b.1) b.2

-- OBJECTS

pair_fits : (h : HeadingModel) (w : List ℕ) (other : Option (List ℕ)) (a : Option Semaphore)
    (b c : Option (ℕ × Semaphore)) (o : Object) → semaphore_in h w ≡ b
    → option_and_then (semaphore_in h) other ≡ c → semaphore_pair a b c ≡ Some o
    → Fits h verbs.PBoth o
pair_fits h w other (Some s) (Some p) (Some q) o one two is =
    let m = bound (semaphore_in h) other q two in
    let e : objects.Pair p.0 p.1 q.0 q.1 s ≡ o = cc in
    subst (Fits h verbs.PBoth) e (semaphore_found h w p one, semaphore_found h m.0 q m.2)
pair_fits h w other None b c o one two is = cc
pair_fits h w other (Some s) None c o one two is = cc
pair_fits h w other (Some s) (Some p) None o one two is = cc

event_fits : (h : HeadingModel) (v : OpWord) (w : List ℕ) (o : Object)
    → ((e : ℕ) → Fits h v (objects.Event e))
    → option_map objects.Event (event_in h.words w) ≡ Some o → Fits h v o
event_fits h v w o all is =
    let m = mapped objects.Event (event_in h.words w) o is in subst (Fits h v) m.2 (all m.0)

cell_fits : (h : HeadingModel) (v : OpWord) (w : List ℕ) (o : Object)
    → ((x : ℕ) → Fits h v (objects.Cell x))
    → option_map objects.Cell (cell_in_word h.words w) ≡ Some o → Fits h v o
cell_fits h v w o all is =
    let m = mapped objects.Cell (cell_in_word h.words w) o is in subst (Fits h v) m.2 (all m.0)

pub object_fits : (h : HeadingModel) (v : OpWord) (w : List ℕ) (other : Option (List ℕ)) (o : Object)
    → object_in h v w other ≡ Some o → Fits h v o
object_fits h verbs.Advance w other o is = event_fits h verbs.Advance w o (λ e. tt) is
object_fits h verbs.Read w other o is = event_fits h verbs.Read w o (λ e. tt) is
object_fits h verbs.Await w other o is = event_fits h verbs.Await w o (λ e. tt) is
object_fits h verbs.Ticket w other o is =
    let m = mapped objects.Sequencer (sequencer_in h.words w) o is in
    subst (Fits h verbs.Ticket) m.2 tt
object_fits h verbs.Put w other o is = cell_fits h verbs.Put w o (λ x. tt) is
object_fits h verbs.Get w other o is = cell_fits h verbs.Get w o (λ x. tt) is
object_fits h verbs.P w other o is =
    let m = mapped as_semaphore (semaphore_in h w) o is in
    subst (Fits h verbs.P) m.2 (semaphore_found h w m.0 m.1)
object_fits h verbs.V w other o is =
    let m = mapped as_semaphore (semaphore_in h w) o is in
    subst (Fits h verbs.V) m.2 (semaphore_found h w m.0 m.1)
object_fits h verbs.PBoth w other o is =
    pair_fits h w other (both_of h.groups) (semaphore_in h w)
    (option_and_then (semaphore_in h) other) o refl refl is
object_fits h verbs.Write w other o is =
    let m = mapped as_database (database_in h w) o is in
    subst (Fits h verbs.Write) m.2 (database_found h w m.0 m.1)
object_fits h verbs.Snapshot w other o is =
    let m = mapped as_database (database_in h w) o is in
    subst (Fits h verbs.Snapshot) m.2 (database_found h w m.0 m.1)
object_fits h verbs.Produce w other o is =
    let m = mapped as_buffer (buffer_in h w) o is in
    subst (Fits h verbs.Produce) m.2 (buffer_found h w m.0 m.1)
object_fits h verbs.Consume w other o is =
    let m = mapped as_buffer (buffer_in h w) o is in
    subst (Fits h verbs.Consume) m.2 (buffer_found h w m.0 m.1)

-- a database or a buffer is among the groups
pub fits_placed : (h : HeadingModel) (v : OpWord) (o : Object) → Fits h v o → IsPlaced h o
fits_placed h verbs.Write (objects.Database i d) fits =
    slice_get_within h.groups i (groups.Database d) fits
fits_placed h verbs.Snapshot (objects.Database i d) fits =
    slice_get_within h.groups i (groups.Database d) fits
fits_placed h v (objects.Database i d) fits = absurd fits
fits_placed h verbs.Produce (objects.Buffer i b) fits =
    slice_get_within h.groups i (groups.Buffer b) fits
fits_placed h verbs.Consume (objects.Buffer i b) fits =
    slice_get_within h.groups i (groups.Buffer b) fits
fits_placed h v (objects.Buffer i b) fits = absurd fits
fits_placed h v o fits = tt
