-- The counts of the builder of the open block are those of its lines.
use Rattle.std.proofs.Common.{◌≡◌, ◌≢◌, ℕ, ◌+◌, ◌<◌, ◌==◌, ◌&&◌, List, [], ◌∷◌, ◌++◌, length, Bool, true, false, not, cond, Option, Some, None, Result, Ok, Err, refl, sym, ap, ◌∙◌, subst, arith, nat_lt, slice_set}
use Rattle.std.specs.Option.{IfSome}
use Rattle.std.proofs.lemmas.Bool.{eqb-false}
use Rattle.std.proofs.lemmas.Option.{same_Some}
use Rattle.ec_text.specs.Words.{words_of, number_in_word}
use Rattle.ec_heading.specs.Versions.{is_limit, version_of}
use Rattle.ec_script.specs.Headers.{script_header, version_limit}
use Rattle.ec_heading.specs.declared.version.Version.{Version}
use Rattle.ec_heading.specs.declared.heading.HeadFault.{HeadFault}
use Rattle.ec_heading.specs.HeadingModel.{HeadingModel}
use Rattle.ec_heading.specs.Heading.{head_step, is_no_line}
use Rattle.ec_heading.specs.HeaderTree.{empty_heading as heading_opened}
use Rattle.ec_machine.specs.declared.command.Value as amounts
use Rattle.ec_database.specs.Shapes.{Database}
use Rattle.ec_semaphore.specs.Shapes.{Semaphore}
use Rattle.ec_script.specs.declared.fault.Kind.TheVariants as kinds
use Rattle.ec_script.specs.declared.object.Object.{Object}
use Rattle.ec_script.specs.declared.object.Object.TheVariants.{Nothing, Worker, Event, Sequencer, Cell, Handed, OfBuffer, OfDatabase, OfSemaphore, SemaphorePair}
use Rattle.ec_script.specs.declared.block_item.BlockItem.{BlockItem}
use Rattle.ec_script.specs.declared.block_item.BlockItem.TheVariants.{Do, Write, Begin, End}
use Rattle.ec_script.specs.declared.script.OpenBlock.{OpenBlock}
use Rattle.ec_script.specs.declared.stage.Stage.{Stage}
use Rattle.ec_script.specs.declared.stage.Stage.TheVariants.{Opening, Limiting, Naming, Reading}
use Rattle.ec_script.specs.declared.verb.LineWord.{LineWord}
use Rattle.ec_script.specs.declared.verb.LineWord.TheVariants as verbs
use Rattle.ec_script.specs.Counted.{begins_in, ends_in, EndsInBegin, HasCounts, BlocksAreCounted}
use Rattle.ec_script.specs.DraftModel.{DraftModel, empty_draft, draft_with_item}
use Rattle.ec_script.specs.Forms.{Phrase, phrase_in}
use Rattle.ec_script.specs.Grammar.{Leads}
use Rattle.ec_script.specs.Kinds.{phrase_fault, or_nothing}
use Rattle.ec_script.specs.Layout.{commands_in}
use Rattle.ec_script.specs.Objects.{object_in}
use Rattle.ec_script.specs.BlockItems.{size_in, event_item, database_item, semaphore_item, command_in}
use Rattle.ec_script.specs.Reading.{context_of_script, with_worker_block, block_with_item, after_command, with_block_end, after_verb, after, fault_or, after_phrase, map_heading, is_declaring, opens_outer, script_step, stage_of_version, after_limit, limit_digits, limit_or, limit_step, script_of, stage_of_heading, step}
use Rattle.ec_script.specs.ScriptModel.{ScriptModel}
use Rattle.ec_script.specs.Verbs.{is_update}
use Rattle.ec_script.proofs.Passing.{read_back}
use Rattle.ec_script.proofs.shared.Keeping.{unfaulted}
use Rattle.ec_script.proofs.Said.{IsStep}

-- ONE MORE LINE

commands_push : (os : List BlockItem) (o : BlockItem) → commands_in (os ++ o ∷ []) ≡ commands_in os + commands_in (o ∷ [])
commands_push [] o = omega arith
commands_push (Do c ∷ os) o = omega (arith, commands_push os o)
commands_push (Write d vs ∷ os) o = omega (arith, commands_push os o)
commands_push (Begin n ∷ os) o = omega (arith, commands_push os o)
commands_push (End ∷ os) o = commands_push os o

begins_push : (os : List BlockItem) (o : BlockItem) → begins_in (os ++ o ∷ []) ≡ begins_in os + begins_in (o ∷ [])
begins_push [] o = omega arith
begins_push (Do c ∷ os) o = begins_push os o
begins_push (Write d vs ∷ os) o = begins_push os o
begins_push (Begin n ∷ os) o = omega (arith, begins_push os o)
begins_push (End ∷ os) o = begins_push os o

ends_push : (os : List BlockItem) (o : BlockItem)
    → ends_in (os ++ o ∷ []) ≡ ends_in os + ends_in (o ∷ [])
ends_push [] o = omega arith
ends_push (Do c ∷ os) o = ends_push os o
ends_push (Write d vs ∷ os) o = ends_push os o
ends_push (Begin n ∷ os) o = ends_push os o
ends_push (End ∷ os) o = omega (arith, ends_push os o)

abbrev last_of : List BlockItem → Option BlockItem
last_of [] = None
last_of (o ∷ []) = Some o
last_of (o ∷ p ∷ os) = last_of (p ∷ os)

last_push : (os : List BlockItem) (o : BlockItem) → last_of (os ++ o ∷ []) ≡ Some o
last_push [] o = refl
last_push (p ∷ []) o = refl
last_push (p ∷ q ∷ os) o = last_push (q ∷ os) o

last_is : (os : List BlockItem) (o : BlockItem) (t : EndsInBegin (os ++ o ∷ [])) → o ≡ Begin t.1
last_is os o t = same_Some o (Begin t.1) (sym (last_push os o) ∙ ap last_of t.2 ∙ last_push t.0 (Begin t.1))

counted_more : (d : DraftModel) (o : BlockItem) → HasCounts d → (o ≡ End → 0 < d.depth) → HasCounts (draft_with_item d o)
counted_more d (Do c) is deep = record {
  commands = omega (arith, is.commands, commands_push d.block_items (Do c));
  repeats = omega (arith, is.repeats, begins_push d.block_items (Do c), ends_push d.block_items (Do c));
  last = λ some. ((λ e. cc), λ t. (let e = last_is d.block_items (Do c) t in cc));
}
counted_more d (Write b vs) is deep = record {
  commands = omega (arith, is.commands, commands_push d.block_items (Write b vs));
  repeats = omega (arith, is.repeats, begins_push d.block_items (Write b vs), ends_push d.block_items (Write b vs));
  last = λ some. ((λ e. cc), λ t. (let e = last_is d.block_items (Write b vs) t in cc));
}
counted_more d (Begin n) is deep = record {
  commands = omega (arith, is.commands, commands_push d.block_items (Begin n));
  repeats = omega (arith, is.repeats, begins_push d.block_items (Begin n), ends_push d.block_items (Begin n));
  last = λ some. ((λ e. (d.block_items, n, refl)), λ t. refl);
}
counted_more d End is deep = record {
  commands = omega (arith, is.commands, commands_push d.block_items End);
  repeats = omega (arith, is.repeats, begins_push d.block_items End, ends_push d.block_items End, deep refl);
  last = λ some. ((λ e. cc), λ t. (let e = last_is d.block_items End t in cc));
}

none_counted : HasCounts empty_draft
none_counted = record { commands = refl; repeats = refl; last = λ some. absurd (omega (arith, some)) }

-- COMMANDS BEGIN AND END NO REPEAT

event_steps : (v : LineWord) (e : ℕ) (a : amounts.Value) → IsStep (event_item v e a)
event_steps verbs.Advance e a = tt
event_steps verbs.Read e a = tt
event_steps _ e a = tt

database_steps : (v : LineWord) (d : Database) (ws : List (List ℕ)) → IfSome (database_item v d ws) IsStep
database_steps verbs.Write d ws = tt
database_steps verbs.Snapshot d ws = tt
database_steps _ d ws = tt

semaphore_steps : (v : LineWord) (s : Semaphore) → IsStep (semaphore_item v s)
semaphore_steps verbs.Down s = tt
semaphore_steps _ s = tt

command_steps : (v : LineWord) (update : Bool) (o : Object) (ws : List (List ℕ)) → IfSome (command_in v update o ws) IsStep
command_steps v update (Event e) ws = event_steps v e _
command_steps v update (Sequencer q) ws = tt
command_steps v true (Cell x) ws = tt
command_steps v false (Cell x) ws = tt
command_steps v update (Handed e b) ws = tt
command_steps v true (OfBuffer b) ws = tt
command_steps v false (OfBuffer b) ws = tt
command_steps v update (OfDatabase d) ws = database_steps v d ws
command_steps v update (OfSemaphore s) ws = semaphore_steps v s
command_steps v update (SemaphorePair common one other) ws = tt
command_steps v update Nothing ws = tt
command_steps v update (Worker w) ws = tt

-- A LINE

abbrev BlockCounts : Option OpenBlock → Type 0
BlockCounts None = Unit {0}
BlockCounts (Some b) = HasCounts b.draft

ordered_counts : (s : ScriptModel) (o : BlockItem) (b : Option OpenBlock) → s.block ≡ b → BlockCounts s.block → ((x : OpenBlock) → b ≡ Some x → o ≡ End → 0 < x.draft.depth) → BlockCounts (block_with_item s b o).block
ordered_counts s o None is counts deep = counts
ordered_counts s o (Some x) is counts deep = counted_more x.draft o (subst BlockCounts is counts) (deep x refl)

no_end : (o : BlockItem) → IsStep o → o ≡ End → ⊥
no_end o step is = subst IsStep is step

commanded_counts : (s : ScriptModel) (o : Option BlockItem) → BlockCounts s.block → IfSome o IsStep → BlockCounts (after_command s o).block
commanded_counts s None counts step = counts
commanded_counts s (Some o) counts step = ordered_counts s o s.block refl counts (λ x at is. absurd (no_end o step is))

ended_counts : (s : ScriptModel) (b : Option OpenBlock) → s.block ≡ b → BlockCounts s.block → BlockCounts (with_block_end s b).block
ended_counts s None is counts = counts
ended_counts s (Some x) is counts =
    (elim (x.draft.depth == 0) as (λ t. (x.draft.depth == 0) ≡ t → BlockCounts (cond t (record s { programs = slice_set s.programs x.worker x.draft.block_items; block = None }) (block_with_item s (Some x) End)).block) [
      | true ↦ λ e. tt
      | false ↦ λ e. counted_more x.draft End (subst BlockCounts is counts) (λ end. (let other : x.draft.depth ≢ 0 = eqb-false x.draft.depth 0 e in omega (arith, other)))
    ]) refl

began_counts : (s : ScriptModel) (o : Object) → BlockCounts s.block
    → BlockCounts (with_worker_block s o).block
began_counts s (Worker w) counts = none_counted
began_counts s _ counts = counts

after_counts : (s : ScriptModel) (v : LineWord) (o : Object) (ws : List (List ℕ)) → BlockCounts s.block → BlockCounts (after_verb v s o ws).block
after_counts s verbs.Worker o ws counts = began_counts s o counts
after_counts s verbs.Schedule o ws counts = counts
after_counts s verbs.Repeat o ws counts = ordered_counts s (Begin (size_in ws)) s.block refl counts (λ x at is. cc)
after_counts s verbs.End o ws counts = ended_counts s s.block refl counts
after_counts s v o ws counts = commanded_counts s (command_in v (is_update v) o ws) counts (command_steps v (is_update v) o ws)

phrased_counts : (s t : ScriptModel) (o : Option Phrase) → BlockCounts s.block → after_phrase s o ≡ Ok t → BlockCounts t.block
phrased_counts s t None counts is = cc
phrased_counts s t (Some p) counts is =
    subst (λ (x : ScriptModel). BlockCounts x.block) (unfaulted (phrase_fault (context_of_script s) p (object_in s.heading p)) (after s p) t is).1 (after_counts s p.verb (or_nothing (object_in s.heading p)) p.rest counts)

headed_counts : (s t : ScriptModel) (r : Result HeadingModel HeadFault) → BlockCounts s.block → map_heading s r ≡ Ok t → BlockCounts t.block
headed_counts s t (Ok h) counts is = (let same : record s { heading = h } ≡ t = cc in subst (λ (x : ScriptModel). BlockCounts x.block) same counts)
headed_counts s t (Err f) counts is = cc

whole_counts : (s t : ScriptModel) (b : Bool) (o : Option Phrase) → BlockCounts s.block → cond b (Err kinds.BadLine) (after_phrase s o) ≡ Ok t → BlockCounts t.block
whole_counts s t true o counts is = cc
whole_counts s t false o counts is = phrased_counts s t o counts is

either_counts : (s t : ScriptModel) (a b : Bool) (r : Result HeadingModel HeadFault) (o : Option Phrase) → BlockCounts s.block → cond a (map_heading s r) (cond b (Err kinds.BadLine) (after_phrase s o)) ≡ Ok t → BlockCounts t.block
either_counts s t true b r o counts is = headed_counts s t r counts is
either_counts s t false b r o counts is = whole_counts s t b o counts is

line_counts : (s t : ScriptModel) (line : List ℕ) → BlockCounts s.block → script_step s line ≡ Ok t → BlockCounts t.block
unfolding script_step
line_counts s t line counts is = either_counts s t (is_declaring s && not (opens_outer (words_of line))) (is_no_line line) (head_step s.heading line) (phrase_in (words_of line)) counts is

-- STAGES

abbrev StageCounts : Stage → Type 0
StageCounts (Reading s) = BlockCounts s.block
StageCounts _ = Unit {0}

opening_counts : (o : Option Version) (t : Stage) → stage_of_version o ≡ Ok t → StageCounts t
opening_counts (Some v) t is = (let e : Limiting v ≡ t = cc in subst StageCounts e tt)
opening_counts None t is = cc

range_counts : (b : Bool) (v : Version) (n : ℕ) (t : Stage) → cond b (Ok (Naming (version_limit v n))) (Err kinds.BadNumber) ≡ Ok t → StageCounts t
range_counts true v n t is = (let e : Naming (version_limit v n) ≡ t = cc in subst StageCounts e tt)
range_counts false v n t is = cc

limited_counts : (v : Version) (o : Option ℕ) (t : Stage) → after_limit v o ≡ Ok t → StageCounts t
limited_counts v None t is = cc
limited_counts v (Some n) t is = range_counts (is_limit v n) v n t is

limit_counts : (v : Version) (b : Bool) (o : Option (List ℕ)) (t : Stage) → cond b (Err kinds.BadLine) (limit_or v o) ≡ Ok t → StageCounts t
limit_counts v true o t is = cc
limit_counts v false None t is = cc
limit_counts v false (Some digits) t is = limited_counts v (number_in_word digits) t is

limit_line_counts : (v : Version) (line : List ℕ) (t : Stage) → limit_step v line ≡ Ok t → StageCounts t
unfolding limit_step
limit_line_counts v line t is = limit_counts v (nat_lt 8192 (length line)) (limit_digits (words_of line)) t is

named_counts : (r : Result HeadingModel HeadFault) (t : Stage) → stage_of_heading r ≡ Ok t
    → StageCounts t
named_counts (Ok h) t is = (let e : Reading (script_of h) ≡ t = cc in subst StageCounts e tt)
named_counts (Err f) t is = cc

step_counts : (s t : Stage) (line : List ℕ) → StageCounts s → step s line ≡ Ok t → StageCounts t
unfolding step
step_counts Opening t line counts is = opening_counts (version_of script_header line) t is
step_counts (Limiting v) t line counts is = limit_line_counts v line t is
step_counts (Naming b) t line counts is = named_counts (head_step (heading_opened b.version b.limit []) line) t is
step_counts (Reading s) t line counts is =
    let r = read_back (script_step s line) t is in
    subst StageCounts (sym r.2) (line_counts s r.0 line counts r.1)

leads_counts : (s : Stage) (lines : List (List ℕ)) (t : Stage) → StageCounts s → Leads s lines t → StageCounts t
leads_counts s [] t counts leads = subst StageCounts leads counts
leads_counts s (line ∷ lines) t counts leads = leads_counts leads.0 lines t (step_counts s leads.0 line counts leads.1) leads.2

pub blocks_counted : BlocksAreCounted
blocks_counted before s b leads is = subst BlockCounts is (leads_counts Opening before (Reading s) tt leads)
