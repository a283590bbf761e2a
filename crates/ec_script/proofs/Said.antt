-- What the lines of a block say.
use Rattle.std.proofs.Common.{◌≡◌, ℕ, ◌+◌, ◌<◌, ◌≤◌, List, [], ◌∷◌, ◌++◌, Bool, true, false, ◌&&◌, Option, Some, None, option_map, is_none, nat_le, nat_lt, refl, sym, ap, ◌∙◌, subst, arith, lt-ltb}
use Rattle.std.proofs.lemmas.Bool.{not-false, leb-false}
use Rattle.ec_buffer.specs.Shapes.{Buffer}
use Rattle.ec_database.specs.Shapes.{Database}
use Rattle.ec_semaphore.specs.Shapes.{Semaphore}
use Rattle.ec_text.specs.Words.{words_of}
use Rattle.ec_heading.specs.HeadingModel.{HeadingModel}
use Rattle.ec_heading.specs.Heading.{is_no_line}
use Rattle.ec_heading.specs.EntryWords.{event_in, sequencer_in, cell_in_word}
use Rattle.ec_script.specs.declared.verb.LineWord.{LineWord}
use Rattle.ec_script.specs.declared.verb.LineWord.TheVariants as verbs
use Rattle.ec_script.specs.declared.object.Object.{Object}
use Rattle.ec_script.specs.declared.object.Object.TheVariants.{Event, Sequencer, Cell, Handed, OfBuffer, OfDatabase, OfSemaphore, SemaphorePair}
use Rattle.ec_script.specs.declared.block_item.BlockItem.{BlockItem}
use Rattle.ec_script.specs.declared.block_item.BlockItem.TheVariants.{Do, Write, Begin, End}
use Rattle.ec_script.specs.declared.kinds.BlockContext.{BlockContext}
use Rattle.ec_script.specs.Verbs.{is_update, is_outer}
use Rattle.ec_script.specs.Forms.{phrase_in}
use Rattle.ec_script.specs.Objects.{object_for, buffer_in, database_in, semaphore_in, semaphore_pair, transfer_object}
use Rattle.ec_heading.specs.Groups.{both_of}
use Rattle.ec_script.specs.Kinds.{LineContextModel, lacks_right}
use Rattle.ec_script.specs.BlockItems.{command_in}
use Rattle.ec_script.specs.DraftModel.{DraftModel, draft_with_item}
use Rattle.ec_script.specs.Layout.{item_by, IsLineOfItem, AreNested, commands_in}
use Rattle.ec_script.proofs.PhraseWords.{made}
use Rattle.ec_script.proofs.Room.{Passes}

-- THE ITEM OF A COMMAND

-- a command, which begins and ends no repeat
abbrev pub IsStep : BlockItem → Type 0
IsStep (Do c) = Unit {0}
IsStep (Write d vs) = Unit {0}
IsStep (Begin n) = ⊥
IsStep End = ⊥

-- the verb is that of a command
abbrev pub IsCommand : LineWord → Type 0
IsCommand verbs.Repeat = ⊥
IsCommand verbs.End = ⊥
IsCommand verbs.Worker = ⊥
IsCommand verbs.Schedule = ⊥
IsCommand v = Unit {0}

pub record Ordered (v : LineWord) (o : Object) (ws : List (List ℕ)) : Type 0 where
  pub item : BlockItem
  pub is : command_in v (is_update v) o ws ≡ Some item
  pub step : IsStep item

of_event : (v : LineWord) (ws : List (List ℕ)) (o : Object) (x : Option ℕ) → ((e : ℕ) → Ordered v (Event e) ws) → option_map Event x ≡ Some o → Ordered v o ws
of_event v ws o None f is = cc
of_event v ws o (Some e) f is = let same : Event e ≡ o = cc in subst (λ x. Ordered v x ws) same (f e)

of_sequencer : (v : LineWord) (ws : List (List ℕ)) (o : Object) (x : Option ℕ) → ((q : ℕ) → Ordered v (Sequencer q) ws) → option_map Sequencer x ≡ Some o → Ordered v o ws
of_sequencer v ws o None f is = cc
of_sequencer v ws o (Some e) f is = let same : Sequencer e ≡ o = cc in subst (λ x. Ordered v x ws) same (f e)

of_cell : (v : LineWord) (ws : List (List ℕ)) (o : Object) (x : Option ℕ) → ((c : ℕ) → Ordered v (Cell c) ws) → option_map Cell x ≡ Some o → Ordered v o ws
of_cell v ws o None f is = cc
of_cell v ws o (Some e) f is = let same : Cell e ≡ o = cc in subst (λ x. Ordered v x ws) same (f e)

of_handed : (v : LineWord) (ws : List (List ℕ)) (o : Object) (x y : Option ℕ) → ((e b : ℕ) → Ordered v (Handed e b) ws) → transfer_object x y ≡ Some o → Ordered v o ws
of_handed v ws o (Some e) (Some b) f is = let same : Handed e b ≡ o = cc in subst (λ x. Ordered v x ws) same (f e b)
of_handed v ws o _ _ f is = cc

of_buffer : (v : LineWord) (ws : List (List ℕ)) (o : Object) (x : Option Buffer) → ((b : Buffer) → Ordered v (OfBuffer b) ws) → option_map OfBuffer x ≡ Some o → Ordered v o ws
of_buffer v ws o None f is = cc
of_buffer v ws o (Some e) f is = let same : OfBuffer e ≡ o = cc in subst (λ x. Ordered v x ws) same (f e)

of_database : (v : LineWord) (ws : List (List ℕ)) (o : Object) (x : Option Database) → ((d : Database) → Ordered v (OfDatabase d) ws) → option_map OfDatabase x ≡ Some o → Ordered v o ws
of_database v ws o None f is = cc
of_database v ws o (Some e) f is = let same : OfDatabase e ≡ o = cc in subst (λ x. Ordered v x ws) same (f e)

of_semaphore : (v : LineWord) (ws : List (List ℕ)) (o : Object) (x : Option Semaphore) → ((s : Semaphore) → Ordered v (OfSemaphore s) ws) → option_map OfSemaphore x ≡ Some o → Ordered v o ws
of_semaphore v ws o None f is = cc
of_semaphore v ws o (Some e) f is = let same : OfSemaphore e ≡ o = cc in subst (λ x. Ordered v x ws) same (f e)

of_three : (v : LineWord) (ws : List (List ℕ)) (o : Object) (x y z : Option Semaphore) → ((r s t : Semaphore) → Ordered v (SemaphorePair r s t) ws) → semaphore_pair x y z ≡ Some o → Ordered v o ws
of_three v ws o (Some r) (Some s) (Some t) f is = let same : SemaphorePair r s t ≡ o = cc in subst (λ x. Ordered v x ws) same (f r s t)
of_three v ws o _ _ _ f is = cc

pub ordered_of : (h : HeadingModel) (v : LineWord) (w : List ℕ) (ws : List (List ℕ)) (o : Object) → IsCommand v → object_for h v w ws ≡ Some o → Ordered v o ws
ordered_of h verbs.Advance w ws o command is = of_event verbs.Advance ws o (event_in h.words w) (λ e. record { item = _; is = refl; step = tt }) is
ordered_of h verbs.Read w ws o command is = of_event verbs.Read ws o (event_in h.words w) (λ e. record { item = _; is = refl; step = tt }) is
ordered_of h verbs.Await w ws o command is = of_event verbs.Await ws o (event_in h.words w) (λ e. record { item = _; is = refl; step = tt }) is
ordered_of h verbs.Ticket w ws o command is = of_sequencer verbs.Ticket ws o (sequencer_in h.words w) (λ e. record { item = _; is = refl; step = tt }) is
ordered_of h verbs.Put w ws o command is = of_cell verbs.Put ws o (cell_in_word h.words w) (λ e. record { item = _; is = refl; step = tt }) is
ordered_of h verbs.Get w ws o command is = of_cell verbs.Get ws o (cell_in_word h.words w) (λ e. record { item = _; is = refl; step = tt }) is
ordered_of h verbs.Hand w ws o command is = of_handed verbs.Hand ws o (event_in h.words w) _ (λ e b. record { item = _; is = refl; step = tt }) is
ordered_of h verbs.Produce w ws o command is = of_buffer verbs.Produce ws o (buffer_in h w) (λ e. record { item = _; is = refl; step = tt }) is
ordered_of h verbs.Consume w ws o command is = of_buffer verbs.Consume ws o (buffer_in h w) (λ e. record { item = _; is = refl; step = tt }) is
ordered_of h verbs.Write w ws o command is = of_database verbs.Write ws o (database_in h w) (λ e. record { item = _; is = refl; step = tt }) is
ordered_of h verbs.Snapshot w ws o command is = of_database verbs.Snapshot ws o (database_in h w) (λ e. record { item = _; is = refl; step = tt }) is
ordered_of h verbs.Down w ws o command is = of_semaphore verbs.Down ws o (semaphore_in h w) (λ e. record { item = _; is = refl; step = tt }) is
ordered_of h verbs.Up w ws o command is = of_semaphore verbs.Up ws o (semaphore_in h w) (λ e. record { item = _; is = refl; step = tt }) is
ordered_of h verbs.DownBoth w ws o command is = of_three verbs.DownBoth ws o (both_of h.groups) (semaphore_in h w) _ (λ r s t. record { item = _; is = refl; step = tt }) is
ordered_of h verbs.Repeat w ws o command is = absurd command
ordered_of h verbs.End w ws o command is = absurd command
ordered_of h verbs.Worker w ws o command is = absurd command
ordered_of h verbs.Schedule w ws o command is = absurd command

-- A LINE THAT SAYS AN ITEM

pub some_object : (o : Option Object) → is_none o ≡ false → (x : Object) × (o ≡ Some x)
some_object None is = cc
some_object (Some x) is = (x, refl)

pub said : (s : LineContextModel) (n : BlockContext) (line : List ℕ) (v : LineWord) (w : List ℕ) (ws : List (List ℕ)) (o : Object) (item : BlockItem) → is_no_line line ≡ false → phrase_in (words_of line) ≡ Some (made v w ws) → is_outer v ≡ false → s.block ≡ Some n
    → object_for s.heading v w ws ≡ Some o → Passes s (made v w ws) (object_for s.heading v w ws) → item_by v o ws ≡ Some item → IsLineOfItem s.heading n.worker line item
said s n line v w ws o item whole form inner nest is h says =
    let g : Passes s (made v w ws) (Some o) = subst (Passes s (made v w ws)) is h in
    record {
      whole = whole;
      phrase = made v w ws;
      form = form;
      inner = inner;
      version = g.version;
      object = o;
      declared = is;
      range = g.range;
      apart = g.apart;
      differ = g.differ;
      right = not-false _ (ap (λ m. lacks_right s.heading m v o) (sym nest) ∙ g.right);
      says = says;
    }

-- NESTING

-- an item may come next in a builder
abbrev pub MayNest : DraftModel → BlockItem → Type 0
MayNest d (Do c) = d.commands < 4096
MayNest d (Write b vs) = d.commands < 4096
MayNest d (Begin n) = (d.depth < 4) × (d.commands < 4096)
MayNest d End = (0 < d.depth) × (d.is_empty ≡ false)

pub step_may : (d : DraftModel) (o : BlockItem) → IsStep o → d.commands < 4096 → MayNest d o
step_may d (Do c) step room = room
step_may d (Write b vs) step room = room
step_may d (Begin n) step room = absurd step
step_may d End step room = absurd step

pub nested_more : (d : DraftModel) (o : BlockItem) (os : List BlockItem) → MayNest d o → AreNested (draft_with_item d o).depth (draft_with_item d o).is_empty os → AreNested d.depth d.is_empty (o ∷ os)
nested_more d (Do c) os may n = n
nested_more d (Write b vs) os may n = n
nested_more d (Begin k) os may n = (may.0, n)
nested_more d End os may n = (may.0, may.1, n)

pub few_more : (d : DraftModel) (o : BlockItem) (os : List BlockItem) → (draft_with_item d o).commands + commands_in os ≤ 4096 → d.commands + commands_in (o ∷ os) ≤ 4096
few_more d (Do c) os few = omega (arith, few)
few_more d (Write b vs) os few = omega (arith, few)
few_more d (Begin k) os few = omega (arith, few)
few_more d End os few = few

pub room_more : (d : DraftModel) (o : BlockItem) → MayNest d o → d.commands ≤ 4096 → (draft_with_item d o).commands ≤ 4096
room_more d (Do c) may few = omega (arith, may)
room_more d (Write b vs) may few = omega (arith, may)
room_more d (Begin k) may few = omega (arith, may.1)
room_more d End may few = few
