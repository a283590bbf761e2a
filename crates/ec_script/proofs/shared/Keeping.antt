-- Invariants of the parser: its programs are confined, and of commands that the version has. So
-- every plan is.
use Rattle.std.proofs.Common.{◌≡◌, ℕ, ◌<◌, List, [], ◌∷◌, ◌++◌, length, replicate, zero, suc, Bool, true, false, cond, not, ◌&&◌, eqb, Option, Some, None, Result, Ok, Err, refl, sym, ap, ◌∙◌, subst, arith, nat_lt, eqb-true, length-append, length-set, slice_set}
use Rattle.std.specs.List.{AllByRecursion}
use Rattle.std.specs.Option.{IfSome}
use Rattle.std.specs.Result.{IfOk}
use Rattle.std.proofs.lemmas.Bool.{and_parts}
use Rattle.std.proofs.lemmas.List.{length-replicate}
use Rattle.std.proofs.lemmas.List.Elements.{All-from_recursion, recursion_from_All, All-set}
use Rattle.ec_text.specs.Words.{words_of, number_in_word}
use Rattle.ec_heading.specs.Versions.{is_limit, version_of}
use Rattle.ec_script.specs.Headers.{script_header, version_limit}
use Rattle.ec_heading.specs.declared.version.Version.{Version}
use Rattle.ec_heading.specs.declared.heading.HeadFault.{HeadFault}
use Rattle.ec_heading.specs.HeadingModel.{HeadingModel}
use Rattle.ec_heading.specs.HeaderTree.{empty_heading}
use Rattle.ec_heading.specs.Heading.{head_step, is_no_line}
use Rattle.ec_heading.specs.Lists.{ids_in}
use Rattle.ec_script.specs.declared.fault.Kind.{Kind}
use Rattle.ec_script.specs.declared.fault.Kind.TheVariants as kinds
use Rattle.ec_script.specs.declared.fault.ScriptFault.{ScriptFault}
use Rattle.ec_script.specs.declared.plan.Plan.{Plan}
use Rattle.ec_script.specs.declared.verb.LineWord.{LineWord}
use Rattle.ec_script.specs.declared.verb.LineWord.TheVariants as verbs
use Rattle.ec_script.specs.declared.object.Object.{Object}
use Rattle.ec_script.specs.declared.object.Object.TheVariants.{Worker}
use Rattle.ec_script.specs.declared.block_item.BlockItem.{BlockItem}
use Rattle.ec_script.specs.declared.block_item.BlockItem.TheVariants.{Do, Write, Begin, End}
use Rattle.ec_script.specs.declared.script.OpenBlock.{OpenBlock}
use Rattle.ec_script.specs.declared.stage.Stage.{Stage}
use Rattle.ec_script.specs.declared.stage.Stage.TheVariants.{Opening, Limiting, Naming, Reading}
use Rattle.ec_script.specs.Verbs.{has_verb, is_update}
use Rattle.ec_script.specs.Forms.{Phrase, phrase_in}
use Rattle.ec_script.specs.Objects.{object_for, object_in, is_owned}
use Rattle.ec_script.specs.DraftModel.{DraftModel, draft_with_item}
use Rattle.ec_script.specs.Kinds.{phrase_fault, or_nothing, has_two_roles}
use Rattle.ec_script.specs.BlockItems.{size_in, command_in}
use Rattle.ec_script.specs.ScriptModel.{ScriptModel, PlanModel}
use Rattle.ec_script.specs.Reading.{context_of_script, with_worker_block, block_with_item, after_command, with_block_end, after_verb, after, fault_or, after_phrase, map_heading, is_declaring, opens_outer, script_step, stage_of_version, after_limit, limit_digits, limit_or, limit_step, script_of, stage_of_heading, read_on, step}
use Rattle.ec_script.specs.Outcome.{plan_or, plan_in, parse_result, Returns, shown_plan}
use Rattle.ec_script.specs.Grammar.{Leads, IsScript}
use Rattle.ec_script.specs.Confined.{IsConfined, AreConfined, IsPlan, AreConfinedPrograms, HasItem, HasItems, HasPrograms}
use Rattle.ec_script.proofs.Room.{passes}
use Rattle.ec_script.proofs.shared.Texts.{read_is_script}
use Rattle.ec_script.proofs.shared.WrittenOut.{confined_lines, had_lines}
use Rattle.ec_heading.proofs.shared.Each.{each_append as every_append}
use Rattle.ec_script.proofs.Declaring.{HeadKeeps, Grows, first_keeps, head_grows, ids_below}
use Rattle.ec_script.proofs.Confining.{object_fits, IsProper, command_proper}

-- LISTS

every_set : {X : Type 0} (P : X → Type 0) (xs : List X) (i : ℕ) (x : X) → P x → AllByRecursion P xs → AllByRecursion P (slice_set xs i x)
every_set P xs i x one all = recursion_from_All P (slice_set xs i x) (All-set P xs i x one (All-from_recursion P xs all))

-- each of two that hold of each element
firsts : {X : Type 0} (P Q : X → Type 0) (xs : List X) → AllByRecursion (λ x. P x × Q x) xs → AllByRecursion P xs
firsts P Q [] all = tt
firsts P Q (x ∷ xs) all = (all.0.0, firsts P Q xs all.1)

seconds : {X : Type 0} (P Q : X → Type 0) (xs : List X) → AllByRecursion (λ x. P x × Q x) xs → AllByRecursion Q xs
seconds P Q [] all = tt
seconds P Q (x ∷ xs) all = (all.0.1, seconds P Q xs all.1)

-- items that the programs of a script with this header may have
abbrev AreProper : HeadingModel → List BlockItem → Type 0
AreProper h os = AllByRecursion (IsProper h.groups h.version) os

none_proper : (h : HeadingModel) (n : ℕ) → AllByRecursion (AreProper h) (replicate n [])
none_proper h zero = tt
none_proper h (suc n) = (tt, none_proper h n)

all_confined : (h : HeadingModel) (programs : List (List BlockItem)) → AllByRecursion (AreProper h) programs → AreConfined h.groups programs
all_confined h [] all = tt
all_confined h (os ∷ programs) all = (firsts (IsConfined h.groups) (HasItem h.version) os all.0, all_confined h programs all.1)

all_had : (h : HeadingModel) (programs : List (List BlockItem)) → AllByRecursion (AreProper h) programs → HasItems h.version programs
all_had h [] all = tt
all_had h (os ∷ programs) all = (seconds (IsConfined h.groups) (HasItem h.version) os all.0, all_had h programs all.1)

-- THE INVARIANT

abbrev BlockKeeps : HeadingModel → Option OpenBlock → Type 0
BlockKeeps h None = Unit {0}
BlockKeeps h (Some b) = AreProper h b.draft.block_items

-- no block is open and every program is empty
abbrev IsBare : ScriptModel → Type 0
IsBare s = (s.block ≡ None) × (s.programs ≡ replicate s.heading.setup.workers [])

pub record Keeps (s : ScriptModel) : Type 0 where
  pub head : HeadKeeps s.heading
  pub programs : length s.programs ≡ s.heading.setup.workers
  pub proper : AllByRecursion (AreProper s.heading) s.programs
  pub block : BlockKeeps s.heading s.block
  pub schedule : AllByRecursion (λ w. w < s.heading.setup.workers) s.schedule
  pub early : length s.named ≡ 0 → IsBare s

script_keeps : (h : HeadingModel) → HeadKeeps h → Keeps (script_of h)
script_keeps h head = record {
  head = head;
  programs = length-replicate h.setup.workers [];
  proper = none_proper h h.setup.workers;
  block = tt;
  schedule = tt;
  early = λ none. (refl, refl);
}

-- A DECLARATION

grown_keeps : (s : ScriptModel) (h : HeadingModel) → Keeps s → length s.named ≡ 0 → Grows s.heading h → Keeps (record s { heading = h })
grown_keeps s h keeps none grows =
    let bare : IsBare s = keeps.early none in
    let same : s.programs ≡ replicate h.setup.workers [] = bare.1 ∙ ap (λ (n : ℕ). replicate n []) (sym grows.workers) in
    record {
      head = grows.keeps;
      programs = keeps.programs ∙ sym grows.workers;
      proper = subst (AllByRecursion (AreProper h)) (sym same) (none_proper h h.setup.workers);
      block = subst (BlockKeeps h) (sym bare.0) tt;
      schedule = subst (λ (n : ℕ). AllByRecursion (λ w. w < n) s.schedule) (sym grows.workers) keeps.schedule;
      early = λ none. (bare.0, same);
    }

declared_keeps : (s t : ScriptModel) (r : Result HeadingModel HeadFault) → Keeps s → length s.named ≡ 0 → ((h : HeadingModel) → r ≡ Ok h → Grows s.heading h) → map_heading s r ≡ Ok t → Keeps t
declared_keeps s t (Ok h) keeps none grows is = let e : record s { heading = h } ≡ t = cc in subst Keeps e (grown_keeps s h keeps none (grows h refl))
declared_keeps s t (Err f) keeps none grows is = cc

-- A LINE OF A BLOCK

pub with_item_adds : (d : DraftModel) (o : BlockItem)
    → (draft_with_item d o).block_items ≡ d.block_items
    ++ o ∷ []
with_item_adds d (Do c) = refl
with_item_adds d (Write b vs) = refl
with_item_adds d (Begin n) = refl
with_item_adds d End = refl

pub not_bare : (s : ScriptModel) (b : OpenBlock) → s.block ≡ Some b → IsBare s → ⊥
not_bare s b is bare = let e : s.block ≡ None = bare.0 in cc

ordered_keeps : (s : ScriptModel) (o : BlockItem) (b : Option OpenBlock) → s.block ≡ b → Keeps s → IsProper s.heading.groups s.heading.version o → Keeps (block_with_item s b o)
ordered_keeps s o None is keeps one = keeps
ordered_keeps s o (Some b) is keeps one = record {
  head = keeps.head;
  programs = keeps.programs;
  proper = keeps.proper;
  block = subst (AreProper s.heading) (sym (with_item_adds b.draft o))
      (every_append (IsProper s.heading.groups s.heading.version) b.draft.block_items (o ∷ []) (subst (BlockKeeps s.heading) is keeps.block) (one, tt));
  schedule = keeps.schedule;
  early = λ none. absurd (not_bare s b is (keeps.early none));
}

commanded_keeps : (s : ScriptModel) (o : Option BlockItem) → Keeps s → IfSome o (IsProper s.heading.groups s.heading.version) → Keeps (after_command s o)
commanded_keeps s None keeps one = keeps
commanded_keeps s (Some o) keeps one = ordered_keeps s o s.block refl keeps one

closed_keeps : (s : ScriptModel) (b : OpenBlock) → s.block ≡ Some b → Keeps s → Keeps (record s { programs = slice_set s.programs b.worker b.draft.block_items; block = None })
closed_keeps s b is keeps = record {
  head = keeps.head;
  programs = length-set s.programs b.worker b.draft.block_items ∙ keeps.programs;
  proper = every_set (AreProper s.heading) s.programs b.worker b.draft.block_items (subst (BlockKeeps s.heading) is keeps.block) keeps.proper;
  block = tt;
  schedule = keeps.schedule;
  early = λ none. absurd (not_bare s b is (keeps.early none));
}

ended_keeps : (s : ScriptModel) (b : Option OpenBlock) → s.block ≡ b → Keeps s
    → Keeps (with_block_end s b)
ended_keeps s None is keeps = keeps
ended_keeps s (Some b) is keeps =
    let P : Bool → Type 0 = λ t. Keeps (cond t (record s { programs = slice_set s.programs b.worker b.draft.block_items; block = None }) (block_with_item s (Some b) End)) in
    let go : P (eqb b.draft.depth 0) = elim (eqb b.draft.depth 0) as P [ true ↦ closed_keeps s b is keeps | false ↦ ordered_keeps s End (Some b) is keeps (tt, refl) ] in
    go

began_keeps : (s : ScriptModel) (o : Object) → Keeps s → Keeps (with_worker_block s o)
began_keeps s (Worker w) keeps = record {
  head = keeps.head;
  programs = keeps.programs;
  proper = keeps.proper;
  block = tt;
  schedule = keeps.schedule;
  early = λ none. absurd (omega (arith, length-append s.named (w ∷ []), none));
}
began_keeps s _ keeps = keeps

scheduled_keeps : (s : ScriptModel) (ws : List (List ℕ)) → Keeps s → Keeps (record s { schedule = s.schedule ++ ids_in s.heading.words ws })
scheduled_keeps s ws keeps = record {
  head = keeps.head;
  programs = keeps.programs;
  proper = keeps.proper;
  block = keeps.block;
  schedule = every_append (λ w. w < s.heading.setup.workers) s.schedule (ids_in s.heading.words ws) keeps.schedule (ids_below s.heading.setup.workers s.heading.words ws keeps.head.words);
  early = keeps.early;
}

-- BY ITS VERB

command_keeps : (s : ScriptModel) (v : LineWord) (w : List ℕ) (ws : List (List ℕ)) → Keeps s → has_verb s.heading.version v ≡ true → is_owned s.heading.groups (or_nothing (object_for s.heading v w ws)) ≡ false → has_two_roles (or_nothing (object_for s.heading v w ws)) ≡ false
    → Keeps (after_command s (command_in v (is_update v) (or_nothing (object_for s.heading v w ws)) ws))
command_keeps s v w ws keeps has free roles =
    commanded_keeps s (command_in v (is_update v) (or_nothing (object_for s.heading v w ws)) ws) keeps
    (command_proper s.heading.groups s.heading.version v (is_update v) (or_nothing (object_for s.heading v w ws)) ws (object_fits s.heading v w ws keeps.head.apart.apart has free roles))

after_keeps : (s : ScriptModel) (v : LineWord) (w : List ℕ) (ws : List (List ℕ)) → Keeps s → has_verb s.heading.version v ≡ true → is_owned s.heading.groups (or_nothing (object_for s.heading v w ws)) ≡ false → has_two_roles (or_nothing (object_for s.heading v w ws)) ≡ false
    → Keeps (after_verb v s (or_nothing (object_for s.heading v w ws)) ws)
after_keeps s verbs.Worker w ws keeps has free roles = began_keeps s (or_nothing (object_for s.heading verbs.Worker w ws)) keeps
after_keeps s verbs.Schedule w ws keeps has free roles = scheduled_keeps s ws keeps
after_keeps s verbs.Repeat w ws keeps has free roles = ordered_keeps s (Begin (size_in ws)) s.block refl keeps (tt, refl)
after_keeps s verbs.End w ws keeps has free roles = ended_keeps s s.block refl keeps
after_keeps s v w ws keeps has free roles = command_keeps s v w ws keeps has free roles

pub unfaulted : (o : Option Kind) (s t : ScriptModel) → fault_or o s ≡ Ok t → (o ≡ None) × (s ≡ t)
unfaulted None s t is = (refl, cc)
unfaulted (Some k) s t is = cc

phrased_keeps : (s t : ScriptModel) (o : Option Phrase) → Keeps s → after_phrase s o ≡ Ok t
    → Keeps t
phrased_keeps s t None keeps is = cc
phrased_keeps s t (Some p) keeps is =
    let f = unfaulted (phrase_fault (context_of_script s) p (object_in s.heading p)) (after s p) t is in
    let n = passes (context_of_script s) p (object_in s.heading p) f.0 in
    subst Keeps f.1 (after_keeps s p.verb p.object p.rest keeps n.version n.apart n.differ)

-- LINES

pub not_refused : {S : Type 0} (b : Bool) (k : Kind) (r : Result S Kind) (t : S) → cond b (Err k) r ≡ Ok t → r ≡ Ok t
not_refused true k r t is = cc
not_refused false k r t is = is

line_keeps : (s t : ScriptModel) (line : List ℕ) → Keeps s → script_step s line ≡ Ok t → Keeps t
unfolding script_step
line_keeps s t line keeps is =
    (elim (is_declaring s && not (opens_outer (words_of line))) as (λ b.
    (is_declaring s && not (opens_outer (words_of line))) ≡ b
    → cond b (map_heading s (head_step s.heading line)) (cond (is_no_line line) (Err kinds.BadLine) (after_phrase s (phrase_in (words_of line)))) ≡ Ok t
    → Keeps t) [
      | true ↦ λ e h.
          let p = and_parts (is_declaring s) (not (opens_outer (words_of line))) e in
          let q = and_parts (eqb (length s.named) 0) (eqb (length s.schedule) 0) p.0 in
          declared_keeps s t (head_step s.heading line) keeps (eqb-true _ _ q.0) (λ g is. head_grows s.heading line g keeps.head is) h
      | false ↦ λ e h. phrased_keeps s t (phrase_in (words_of line)) keeps (not_refused (is_no_line line) kinds.BadLine _ t h)
    ]) refl is

-- STAGES

abbrev pub StageKeeps : Stage → Type 0
StageKeeps (Reading s) = Keeps s
StageKeeps _ = Unit {0}

opening_keeps : (o : Option Version) (t : Stage) → stage_of_version o ≡ Ok t → StageKeeps t
opening_keeps (Some v) t is = let e : Limiting v ≡ t = cc in subst StageKeeps e tt
opening_keeps None t is = cc

naming_keeps : (b : Bool) (v : Version) (n : ℕ) (t : Stage) → cond b (Ok (Naming (version_limit v n))) (Err kinds.BadNumber) ≡ Ok t → StageKeeps t
naming_keeps true v n t is = let e : Naming (version_limit v n) ≡ t = cc in subst StageKeeps e tt
naming_keeps false v n t is = cc

limited_keeps : (v : Version) (o : Option ℕ) (t : Stage) → after_limit v o ≡ Ok t → StageKeeps t
limited_keeps v None t is = cc
limited_keeps v (Some n) t is = naming_keeps (is_limit v n) v n t is

limit_keeps : (v : Version) (o : Option (List ℕ)) (t : Stage) → limit_or v o ≡ Ok t → StageKeeps t
limit_keeps v None t is = cc
limit_keeps v (Some digits) t is = limited_keeps v (number_in_word digits) t is

limit_line_keeps : (v : Version) (line : List ℕ) (t : Stage) → limit_step v line ≡ Ok t → StageKeeps t
unfolding limit_step
limit_line_keeps v line t is = limit_keeps v (limit_digits (words_of line)) t (not_refused (nat_lt 8192 (length line)) kinds.BadLine _ t is)

named_keeps : (r : Result HeadingModel HeadFault) (t : Stage) → ((h : HeadingModel) → r ≡ Ok h → HeadKeeps h) → stage_of_heading r ≡ Ok t → StageKeeps t
named_keeps (Ok h) t keeps is = let e : Reading (script_of h) ≡ t = cc in subst StageKeeps e (script_keeps h (keeps h refl))
named_keeps (Err f) t keeps is = cc

read_keeps : (r : Result ScriptModel Kind) (t : Stage) → ((s : ScriptModel) → r ≡ Ok s → Keeps s) → read_on r ≡ Ok t → StageKeeps t
read_keeps (Ok s) t keeps is = let e : Reading s ≡ t = cc in subst StageKeeps e (keeps s refl)
read_keeps (Err k) t keeps is = cc

step_keeps : (s t : Stage) (line : List ℕ) → StageKeeps s → step s line ≡ Ok t → StageKeeps t
unfolding step
step_keeps Opening t line keeps is = opening_keeps (version_of script_header line) t is
step_keeps (Limiting v) t line keeps is = limit_line_keeps v line t is
step_keeps (Naming b) t line keeps is = named_keeps (head_step (empty_heading b.version b.limit []) line) t (λ h e. first_keeps b.version b.limit line h e) is
step_keeps (Reading s) t line keeps is = read_keeps (script_step s line) t (λ u e. line_keeps s u line keeps e) is

pub leads_keeps : (s : Stage) (lines : List (List ℕ)) (t : Stage) → StageKeeps s → Leads s lines t → StageKeeps t
leads_keeps s [] t keeps leads = subst StageKeeps leads keeps
leads_keeps s (line ∷ lines) t keeps leads = leads_keeps leads.0 lines t (step_keeps s leads.0 line keeps leads.1) leads.2

-- PLANS

plan_of : (s : ScriptModel) (b : Option OpenBlock) (p : PlanModel) → Keeps s → plan_or s b ≡ Some p → IsPlan p
plan_of s None p keeps is =
    let e : (let q : PlanModel = record { heading = s.heading; programs = s.programs; schedule = s.schedule } in q) ≡ p = cc in
    subst IsPlan e (record { some = keeps.head.some; apart = keeps.head.apart.apart; programs = keeps.programs; confined = all_confined s.heading s.programs keeps.proper; version = all_had s.heading s.programs keeps.proper; schedule = keeps.schedule })
plan_of s (Some b) p keeps is = cc

plan_keeps : (t : Stage) (p : PlanModel) → StageKeeps t → plan_in t ≡ Some p → IsPlan p
plan_keeps (Reading s) p keeps is = plan_of s s.block p keeps is
plan_keeps _ p keeps is = cc

-- the plan of a text has groups apart, confined programs, one for each worker and of its version,
-- and a schedule of these
pub plans_are_confined : (bytes : List ℕ) (p : PlanModel) → parse_result bytes ≡ Ok p → IsPlan p
plans_are_confined bytes p is =
    let r : IsScript bytes p = read_is_script bytes p is in
    plan_keeps r.stage p (leads_keeps Opening r.lines r.stage tt r.leads) r.plan

-- so has a plan that is returned for a text
pub told_plan : (bytes : List ℕ) (result : Result Plan ScriptFault) → Returns (parse_result bytes) result → IfOk result (λ plan. IsPlan (shown_plan plan))
told_plan bytes (Ok plan) tells = plans_are_confined bytes (shown_plan plan) tells
told_plan bytes (Err f) tells = tt

pub told_commands : (bytes : List ℕ) (result : Result Plan ScriptFault) → Returns (parse_result bytes) result → IfOk result (λ plan. AreConfinedPrograms plan.heading.groups plan.programs.items)
told_commands bytes (Ok plan) tells = confined_lines plan.heading.groups plan.programs.items (plans_are_confined bytes (shown_plan plan) tells).confined
told_commands bytes (Err f) tells = tt

pub told_version : (bytes : List ℕ) (result : Result Plan ScriptFault) → Returns (parse_result bytes) result → IfOk result (λ plan. HasPrograms plan.heading.version plan.programs.items)
told_version bytes (Ok plan) tells = had_lines plan.heading.version plan.programs.items (plans_are_confined bytes (shown_plan plan) tells).version
told_version bytes (Err f) tells = tt
