-- What the lines of a script have declared is a header.
use Rattle.std.proofs.Common.{◌≡◌, inr, ℕ, ◌≤◌, ◌==◌, ◌&&◌, cond, Bool, true, false, not, List, [], ◌∷◌, Option, Some, None, Result, Ok, Err, slice_set, refl, sym, ap, ◌∙◌, subst}
use Rattle.ec_text.specs.Words.{words_of, number_in_word}
use Rattle.ec_heading.specs.Versions.{greatest_limit, is_limit, version_of}
use Rattle.ec_script.specs.Headers.{script_header, version_limit}
use Rattle.ec_heading.specs.declared.version.Version.{Version}
use Rattle.ec_heading.proofs.shared.VersionFacts.{limit_parts}
use Rattle.ec_heading.specs.HeadingModel.{HeadingModel}
use Rattle.ec_heading.specs.Heading.{head_step, is_no_line}
use Rattle.ec_heading.specs.HeaderTree.{empty_heading}
use Rattle.ec_heading.specs.HeadingInvariant.{HasHeaderTree}
use Rattle.ec_heading.specs.declared.heading.HeadFault.{HeadFault}
use Rattle.ec_heading.proofs.shared.LeadLines.{named_outlined, declared_outlined}
use Rattle.ec_script.specs.declared.fault.Kind.{Kind}
use Rattle.ec_script.specs.declared.fault.Kind.TheVariants as kinds
use Rattle.ec_script.specs.declared.verb.LineWord.{LineWord}
use Rattle.ec_script.specs.declared.verb.LineWord.TheVariants as verbs
use Rattle.ec_script.specs.declared.object.Object.{Object}
use Rattle.ec_script.specs.declared.object.Object.TheVariants.{Worker}
use Rattle.ec_script.specs.declared.block_item.BlockItem.{BlockItem}
use Rattle.ec_script.specs.declared.block_item.BlockItem.TheVariants.{End}
use Rattle.ec_script.specs.declared.script.OpenBlock.{OpenBlock}
use Rattle.ec_script.specs.declared.stage.Stage.{Stage}
use Rattle.ec_script.specs.declared.stage.Stage.TheVariants.{Opening, Limiting, Naming, Reading}
use Rattle.ec_script.specs.Verbs.{is_update}
use Rattle.ec_script.specs.Forms.{Phrase, phrase_in}
use Rattle.ec_script.specs.Objects.{object_in}
use Rattle.ec_script.specs.Kinds.{phrase_fault, or_nothing}
use Rattle.ec_script.specs.BlockItems.{command_in}
use Rattle.ec_script.specs.ScriptModel.{ScriptModel}
use Rattle.ec_script.specs.Reading.{context_of_script, with_worker_block, block_with_item, after_command, with_block_end, after_verb, after, fault_or, after_phrase, map_heading, is_declaring, opens_outer, script_step, stage_of_version, after_limit, limit_digits, limit_or, limit_step, script_of, stage_of_heading, read_on, step}
use Rattle.ec_script.specs.Grammar.{Leads}
use Rattle.ec_script.specs.Pairs.{LinesLeadToHeadings}
use Rattle.ec_script.proofs.shared.Keeping.{not_refused, unfaulted}

-- LINES THAT DECLARE NOTHING

began_same : (s : ScriptModel) (o : Object) → (with_worker_block s o).heading ≡ s.heading
began_same s (Worker w) = refl
began_same s _ = refl

ordered_same : (s : ScriptModel) (b : Option OpenBlock) (o : BlockItem) → (block_with_item s b o).heading ≡ s.heading
ordered_same s None o = refl
ordered_same s (Some b) o = refl

commanded_same : (s : ScriptModel) (o : Option BlockItem) → (after_command s o).heading ≡ s.heading
commanded_same s None = refl
commanded_same s (Some o) = ordered_same s s.block o

ended_same : (s : ScriptModel) (b : Option OpenBlock) → (with_block_end s b).heading ≡ s.heading
ended_same s None = refl
ended_same s (Some b) =
    elim (b.draft.depth == 0) as (λ t. (cond t (record s { programs = slice_set s.programs b.worker b.draft.block_items; block = None }) (block_with_item s (Some b) End)).heading ≡ s.heading) [
      | true ↦ refl
      | false ↦ refl
    ]

after_same : (s : ScriptModel) (v : LineWord) (o : Object) (ws : List (List ℕ)) → (after_verb v s o ws).heading ≡ s.heading
after_same s verbs.Worker o ws = began_same s o
after_same s verbs.Schedule o ws = refl
after_same s verbs.Repeat o ws = ordered_same s s.block _
after_same s verbs.End o ws = ended_same s s.block
after_same s v o ws = commanded_same s (command_in v (is_update v) o ws)

phrased_same : (s t : ScriptModel) (o : Option Phrase) → after_phrase s o ≡ Ok t
    → t.heading ≡ s.heading
phrased_same s t None is = cc
phrased_same s t (Some p) is =
    let same : after s p ≡ t = (unfaulted (phrase_fault (context_of_script s) p (object_in s.heading p)) (after s p) t is).1 in
    ap (λ (x : ScriptModel). x.heading) (sym same) ∙ after_same s p.verb (or_nothing (object_in s.heading p)) p.rest

-- LINES

headed_outlined : (s t : ScriptModel) (r : Result HeadingModel HeadFault) → ((h : HeadingModel) → r ≡ Ok h → HasHeaderTree h) → map_heading s r ≡ Ok t → HasHeaderTree t.heading
headed_outlined s t (Ok h) has is =
    let same : record s { heading = h } ≡ t = cc in
    subst (λ (x : ScriptModel). HasHeaderTree x.heading) same (has h refl)
headed_outlined s t (Err f) has is = cc

line_outlined : (s t : ScriptModel) (line : List ℕ) → HasHeaderTree s.heading → script_step s line ≡ Ok t → HasHeaderTree t.heading
unfolding script_step
line_outlined s t line has is =
    (elim (is_declaring s && not (opens_outer (words_of line))) as (λ b.
    cond b (map_heading s (head_step s.heading line)) (cond (is_no_line line) (Err kinds.BadLine) (after_phrase s (phrase_in (words_of line)))) ≡ Ok t
    → HasHeaderTree t.heading) [
      | true ↦ λ h. headed_outlined s t (head_step s.heading line) (λ g e. declared_outlined s.heading line g has e) h
      | false ↦ λ h. subst HasHeaderTree (sym (phrased_same s t (phrase_in (words_of line)) (not_refused (is_no_line line) kinds.BadLine _ t h))) has
    ]) is

-- STAGES

abbrev StageHeads : Stage → Type 0
StageHeads (Naming b) = (1 ≤ b.limit) × (b.limit ≤ greatest_limit b.version)
StageHeads (Reading s) = HasHeaderTree s.heading
StageHeads _ = Unit {0}

opening_heads : (o : Option Version) (t : Stage) → stage_of_version o ≡ Ok t → StageHeads t
opening_heads (Some v) t is = let e : Limiting v ≡ t = cc in subst StageHeads e tt
opening_heads None t is = cc

naming_heads : (b : Bool) (v : Version) (n : ℕ) (t : Stage) → (b ≡ true → (1 ≤ n) × (n ≤ greatest_limit v)) → cond b (Ok (Naming (version_limit v n))) (Err kinds.BadNumber) ≡ Ok t → StageHeads t
naming_heads true v n t range is = let e : Naming (version_limit v n) ≡ t = cc in subst StageHeads e (range refl)
naming_heads false v n t range is = cc

limited_heads : (v : Version) (o : Option ℕ) (t : Stage) → after_limit v o ≡ Ok t → StageHeads t
limited_heads v None t is = cc
limited_heads v (Some n) t is = naming_heads (is_limit v n) v n t (limit_parts v n) is

limit_heads : (v : Version) (o : Option (List ℕ)) (t : Stage) → limit_or v o ≡ Ok t → StageHeads t
limit_heads v None t is = cc
limit_heads v (Some digits) t is = limited_heads v (number_in_word digits) t is

limit_line_heads : (v : Version) (line : List ℕ) (t : Stage) → limit_step v line ≡ Ok t → StageHeads t
unfolding limit_step
limit_line_heads v line t is = limit_heads v (limit_digits (words_of line)) t (not_refused _ kinds.BadLine _ t is)

named_heads : (r : Result HeadingModel HeadFault) (t : Stage) → ((h : HeadingModel) → r ≡ Ok h → HasHeaderTree h) → stage_of_heading r ≡ Ok t → StageHeads t
named_heads (Ok h) t has is = let e : Reading (script_of h) ≡ t = cc in subst StageHeads e (has h refl)
named_heads (Err f) t has is = cc

read_heads : (r : Result ScriptModel Kind) (t : Stage) → ((s : ScriptModel) → r ≡ Ok s → HasHeaderTree s.heading) → read_on r ≡ Ok t → StageHeads t
read_heads (Ok s) t has is = let e : Reading s ≡ t = cc in subst StageHeads e (has s refl)
read_heads (Err k) t has is = cc

step_heads : (s t : Stage) (line : List ℕ) → StageHeads s → step s line ≡ Ok t → StageHeads t
unfolding step
step_heads Opening t line heads is = opening_heads (version_of script_header line) t is
step_heads (Limiting v) t line heads is = limit_line_heads v line t is
step_heads (Naming b) t line heads is = named_heads (head_step (empty_heading b.version b.limit []) line) t (λ h e. named_outlined b.version b.limit line h heads.0 heads.1 e) is
step_heads (Reading s) t line heads is = read_heads (script_step s line) t (λ u e. line_outlined s u line heads e) is

leads_heads : (s : Stage) (lines : List (List ℕ)) (t : Stage) → StageHeads s → Leads s lines t → StageHeads t
leads_heads s [] t heads leads = subst StageHeads leads heads
leads_heads s (line ∷ lines) t heads leads = leads_heads leads.0 lines t (step_heads s leads.0 line heads leads.1) leads.2

pub lines_outlined : (before : List (List ℕ)) (s : ScriptModel) → Leads Opening before (Reading s) → HasHeaderTree s.heading
lines_outlined before s leads = leads_heads Opening before (Reading s) tt leads

pub lines_lead : LinesLeadToHeadings
lines_lead before s leads = inr (lines_outlined before s leads)
