-- A word that names a worker, an object or a group is the word of that.
use Rattle.std.proofs.Common.{◌≡◌, ℕ, ◌+◌, ◌<◌, ◌≤◌, List, length, true, nat_lt, Option, Some, None}
use Rattle.std.proofs.Common.{refl, subst, arith, slice_get}
use Rattle.std.specs.Prelude.{option_map}
use Rattle.std.specs.Option.{option_and_then}
use Rattle.std.proofs.lemmas.Bool.{ltb-true, lt-ltb, leb-true}
use Rattle.ec_count.specs.Names.{find_name}
use Rattle.ec_count.specs.declared.target.Target.{Target}
use Rattle.ec_count.specs.declared.target.Target.TheVariants as target
use Rattle.ec_buffer.specs.Shapes as buffers
use Rattle.ec_database.specs.Shapes as databases
use Rattle.ec_semaphore.specs.Shapes.{Semaphore}
use Rattle.ec_heading.specs.declared.group.Group.{Group}
use Rattle.ec_heading.specs.declared.group.Group.TheVariants as groups
use Rattle.ec_heading.specs.HeadingModel.{HeadingModel}
use Rattle.ec_heading.specs.Lists.{target_worker, worker_in}
use Rattle.ec_heading.specs.HeadingInvariant.{HasHeaderTree}
use Rattle.ec_heading.specs.EntryWords.{target_event, target_sequencer, event_in, sequencer_in}
use Rattle.ec_heading.specs.EntryWords.{cell_in_word}
use Rattle.ec_heading.proofs.shared.AddedObjects.{is_below}
use Rattle.ec_heading.proofs.shared.ReadHeadings.{IsSound, sound}
use Rattle.ec_heading.proofs.shared.ReadNames.{found_all, word_back}
use Rattle.calls_text.specs.Objects.{group_place, group_at, group_in, placed_semaphore}
use Rattle.calls_text.specs.Objects.{placed_database, placed_buffer}
use Rattle.calls_text.specs.Objects.{semaphore_in, database_in, buffer_in}
use Rattle.calls_text.specs.Spelling.{worker_word, event_word, sequencer_word, cell_name}
use Rattle.calls_text.specs.Spelling.{group_word}
use Rattle.calls_text.proofs.Groups.{group_back}
use Rattle.calls_text.proofs.CellWords.{and_then_back, cell_spelled, IsCell, cell_is}
use Rattle.calls_text.proofs.Fitting.{mapped as map_back}

pub sound_of : (h : HeadingModel) → HasHeaderTree h → IsSound h
sound_of h has = subst IsSound has.declares (sound has.outline has.is)

-- WORKERS, EVENTCOUNTS, SEQUENCERS

worker_found : (o : Option Target) (w : ℕ) → option_and_then target_worker o ≡ Some w
    → o ≡ Some (target.Worker w)
worker_found None w is = cc
worker_found (Some (target.Worker v)) w is = cc
worker_found (Some _) w is = cc

event_found : (o : Option Target) (e : ℕ) → option_and_then target_event o ≡ Some e
    → o ≡ Some (target.Event e)
event_found None e is = cc
event_found (Some (target.Event d)) e is = cc
event_found (Some _) e is = cc

sequencer_found : (o : Option Target) (q : ℕ) → option_and_then target_sequencer o ≡ Some q
    → o ≡ Some (target.Sequencer q)
sequencer_found None q is = cc
sequencer_found (Some (target.Sequencer p)) q is = cc
sequencer_found (Some _) q is = cc

below : (h : HeadingModel) (w : List ℕ) (t : Target) → IsSound h → find_name w h.words ≡ Some t
    → is_below h t ≡ true
below h w t is found = found_all (λ u. is_below h u ≡ true) h.words w t is.below found

pub worker_below : (h : HeadingModel) (w : List ℕ) (i : ℕ) → HasHeaderTree h
    → worker_in h.words w ≡ Some i → i < h.setup.workers
worker_below h w i has is =
    ltb-true _ _ (below h w (target.Worker i) (sound_of h has)
    (worker_found (find_name w h.words) i is))

pub event_below : (h : HeadingModel) (w : List ℕ) (e : ℕ) → HasHeaderTree h
    → event_in h.words w ≡ Some e → e < length h.setup.events
event_below h w e has is =
    ltb-true _ _ (below h w (target.Event e) (sound_of h has)
    (event_found (find_name w h.words) e is))

pub sequencer_below : (h : HeadingModel) (w : List ℕ) (q : ℕ) → HasHeaderTree h
    → sequencer_in h.words w ≡ Some q → q < length h.setup.takers
sequencer_below h w q has is =
    ltb-true _ _ (below h w (target.Sequencer q) (sound_of h has)
    (sequencer_found (find_name w h.words) q is))

pub worker_spelled : (h : HeadingModel) (w : List ℕ) (i : ℕ) → HasHeaderTree h
    → worker_in h.words w ≡ Some i → worker_word h i ≡ w
worker_spelled h w i has is =
    let s : IsSound h = sound_of h has in
    let found : find_name w h.words ≡ Some (target.Worker i) =
    worker_found (find_name w h.words) i is in
    let declared : i < h.setup.workers = worker_below h w i has is in
    let few : i < 16 = omega (arith, s.kept.few_workers) in
    let small : nat_lt i 16 ≡ true = lt-ltb _ _ few in
    rw small (word_back h.words w (target.Worker i) s.apart refl found)

pub event_spelled : (h : HeadingModel) (w : List ℕ) (e : ℕ) → HasHeaderTree h
    → event_in h.words w ≡ Some e → event_word h e ≡ w
event_spelled h w e has is =
    let s : IsSound h = sound_of h has in
    let found : find_name w h.words ≡ Some (target.Event e) =
    event_found (find_name w h.words) e is in
    let declared : e < length h.setup.events = event_below h w e has is in
    let few : e < 32 = omega (arith, s.bounds.events) in
    let small : nat_lt e 32 ≡ true = lt-ltb _ _ few in
    rw small (word_back h.words w (target.Event e) s.apart refl found)

pub sequencer_spelled : (h : HeadingModel) (w : List ℕ) (q : ℕ) → HasHeaderTree h
    → sequencer_in h.words w ≡ Some q → sequencer_word h q ≡ w
sequencer_spelled h w q has is =
    let s : IsSound h = sound_of h has in
    let found : find_name w h.words ≡ Some (target.Sequencer q) =
    sequencer_found (find_name w h.words) q is in
    let declared : q < length h.setup.takers = sequencer_below h w q has is in
    let few : q < 32 = omega (arith, s.bounds.sequencers) in
    let small : nat_lt q 32 ≡ true = lt-ltb _ _ few in
    rw small (word_back h.words w (target.Sequencer q) s.apart refl found)

-- CELLS

pub cell_below : (h : HeadingModel) (w : List ℕ) (x : ℕ) → HasHeaderTree h
    → cell_in_word h.words w ≡ Some x → x < length h.setup.cells
cell_below h w x has is =
    let s : IsSound h = sound_of h has in
    let c : IsCell h.words w x = cell_is h.words w x is in
    let there : c.first + c.count ≤ length h.setup.cells =
    leb-true _ _ (below h c.block (target.Cells c.first c.count) s c.found) in
    omega (arith, c.inside, c.is)

pub cell_again : (h : HeadingModel) (w : List ℕ) (x : ℕ) → HasHeaderTree h
    → cell_in_word h.words w ≡ Some x → cell_name h x ≡ w
cell_again h w x has is =
    let s : IsSound h = sound_of h has in
    let declared : x < length h.setup.cells = cell_below h w x has is in
    let few : x < 256 = omega (arith, s.bounds.cells) in
    let small : nat_lt x 256 ≡ true = lt-ltb _ _ few in
    rw small (cell_spelled h.words w x s.apart is)

-- GROUPS

place_found : (o : Option Target) (i : ℕ) → option_and_then group_place o ≡ Some i
    → o ≡ Some (target.Group i)
place_found None i is = cc
place_found (Some (target.Group j)) i is = cc
place_found (Some _) i is = cc

-- the word names the group at this index
record IsGroup (h : HeadingModel) (w : List ℕ) (p : ℕ × Group) : Type 0 where
  there : slice_get h.groups p.0 ≡ Some p.1
  word : group_word h p.0 ≡ w

group_named : (h : HeadingModel) (w : List ℕ) (p : ℕ × Group) → HasHeaderTree h
    → group_in h w ≡ Some p → IsGroup h w p
group_named h w p has is =
    let b = and_then_back (group_at h.groups) (option_and_then group_place (find_name w h.names)) p
    is in
    let m = map_back (λ (g : Group). (b.0, g)) (slice_get h.groups b.0) p b.2 in
    let named : find_name w h.names ≡ Some (target.Group b.0) =
    place_found (find_name w h.names) b.0 b.1 in
    subst (IsGroup h w) m.2 (record { there = m.1; word = group_back h w b.0 has named })

-- the word names the semaphore at this index
pub record IsSemaphoreAt (h : HeadingModel) (w : List ℕ) (p : ℕ × Semaphore) : Type 0 where
  pub there : slice_get h.groups p.0 ≡ Some (groups.Semaphore p.1)
  pub word : group_word h p.0 ≡ w

one_semaphore : (h : HeadingModel) (w : List ℕ) (i : ℕ) (g : Group) (p : ℕ × Semaphore)
    → IsGroup h w (i, g) → placed_semaphore (i, g) ≡ Some p → IsSemaphoreAt h w p
one_semaphore h w i (groups.Semaphore s) p at is =
    let e : (let q : ℕ × Semaphore = (i, s) in q) ≡ p = cc in
    subst (IsSemaphoreAt h w) e (record { there = at.there; word = at.word })
one_semaphore h w i (groups.Both s) p at is = cc
one_semaphore h w i (groups.Buffer b) p at is = cc
one_semaphore h w i (groups.Database d) p at is = cc

pub semaphore_named : (h : HeadingModel) (w : List ℕ) (p : ℕ × Semaphore) → HasHeaderTree h
    → semaphore_in h w ≡ Some p → IsSemaphoreAt h w p
semaphore_named h w p has is =
    let b = and_then_back placed_semaphore (group_in h w) p is in
    one_semaphore h w b.0.0 b.0.1 p (group_named h w b.0 has b.1) b.2

-- the word names the database at this index
pub record IsDatabaseAt (h : HeadingModel) (w : List ℕ) (p : ℕ × databases.Database) : Type 0 where
  pub there : slice_get h.groups p.0 ≡ Some (groups.Database p.1)
  pub word : group_word h p.0 ≡ w

one_database : (h : HeadingModel) (w : List ℕ) (i : ℕ) (g : Group) (p : ℕ × databases.Database)
    → IsGroup h w (i, g) → placed_database (i, g) ≡ Some p → IsDatabaseAt h w p
one_database h w i (groups.Database d) p at is =
    let e : (let q : ℕ × databases.Database = (i, d) in q) ≡ p = cc in
    subst (IsDatabaseAt h w) e (record { there = at.there; word = at.word })
one_database h w i (groups.Semaphore s) p at is = cc
one_database h w i (groups.Both s) p at is = cc
one_database h w i (groups.Buffer b) p at is = cc

pub database_named : (h : HeadingModel) (w : List ℕ) (p : ℕ × databases.Database) → HasHeaderTree h
    → database_in h w ≡ Some p → IsDatabaseAt h w p
database_named h w p has is =
    let b = and_then_back placed_database (group_in h w) p is in
    one_database h w b.0.0 b.0.1 p (group_named h w b.0 has b.1) b.2

-- the word names the buffer at this index
pub record IsBufferAt (h : HeadingModel) (w : List ℕ) (p : ℕ × buffers.Buffer) : Type 0 where
  pub there : slice_get h.groups p.0 ≡ Some (groups.Buffer p.1)
  pub word : group_word h p.0 ≡ w

one_buffer : (h : HeadingModel) (w : List ℕ) (i : ℕ) (g : Group) (p : ℕ × buffers.Buffer)
    → IsGroup h w (i, g) → placed_buffer (i, g) ≡ Some p → IsBufferAt h w p
one_buffer h w i (groups.Buffer b) p at is =
    let e : (let q : ℕ × buffers.Buffer = (i, b) in q) ≡ p = cc in
    subst (IsBufferAt h w) e (record { there = at.there; word = at.word })
one_buffer h w i (groups.Database d) p at is = cc
one_buffer h w i (groups.Semaphore s) p at is = cc
one_buffer h w i (groups.Both s) p at is = cc

pub buffer_named : (h : HeadingModel) (w : List ℕ) (p : ℕ × buffers.Buffer) → HasHeaderTree h
    → buffer_in h w ≡ Some p → IsBufferAt h w p
buffer_named h w p has is =
    let b = and_then_back placed_buffer (group_in h w) p is in
    one_buffer h w b.0.0 b.0.1 p (group_named h w b.0 has b.1) b.2
