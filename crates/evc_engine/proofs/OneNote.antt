-- What is rejected with status 1 has one note.
use Rattle.std.proofs.Common.{◌≡◌, ℕ, ◌<◌, ◌⊎◌, inl, inr, List, Some, Result, Err, sym, ap, ◌∙◌, subst, slice_get}
use Rattle.std.specs.Io.KnownBytes.{Keeps}
use Rattle.std.proofs.lemmas.Bool.{cases_order}
use Rattle.ec_core.specs.declared.act.Entry.{Entry}
use Rattle.ec_core.specs.Following.{Rule, BreaksAt}
use Rattle.ec_core.proofs.shared.Breaks.{breaks_first, follow_or_break}
use Rattle.ec_heading.specs.HeadingModel.{HeadingModel}
use Rattle.ec_heading.specs.declared.group.Group.{Group}
use Rattle.ec_heading.specs.Rules.{group_rules}
use Rattle.ec_trace.specs.Outcome.{parse_result}
use Rattle.ec_trace.specs.TraceModel.{TraceModel}
use Rattle.ec_trace.specs.declared.fault.TraceFault.{TraceFault}
use Rattle.ec_trace.specs.declared.read.TheConstants.{TRACE_MAX}
use Rattle.evc_engine.specs.Checks.{Outputs, Notes, ReadsAs, RefusedFor}
use Rattle.evc_engine.specs.Audits.{IsNotFollowed, NamesFirstBreak, not_followed_note}
use Rattle.evc_engine.specs.NoteLaws.{BothSay, RefusedChecksHaveOneNote, RefusedAuditsHaveOneNote, RefusalsAreAlike}
use Rattle.evc_engine.specs.Notes.{fault_note}
use Rattle.evc_engine.proofs.OneText.{one_reading}

-- ONE BREAK

-- a history breaks the rules first at one entry
one_entry : (rules : ℕ → Rule) (h : List Entry) (w v k l : ℕ) → BreaksAt rules h w k → BreaksAt rules h v l → k ≡ l
one_entry rules h w v k l one other = by_order (cases_order k l)
  where
    by_order : (k ≡ l) ⊎ (k < l) ⊎ (l < k) → k ≡ l
    by_order (inl same) = same
    by_order (inr (inl less)) = absurd ((breaks_first rules h w k one l).1 less other.before)
    by_order (inr (inr more)) = absurd ((breaks_first rules h v l other k).1 more one.before)

-- a history breaks the rules first by one worker
one_worker : (rules : ℕ → Rule) (h : List Entry) (w v k l : ℕ) → BreaksAt rules h w k → BreaksAt rules h v l → k ≡ l → w ≡ v
one_worker rules h w v k l one other same =
    let is : Some one.entry ≡ Some other.entry = sym one.is ∙ ap (slice_get h) same ∙ other.is in
    let entry : one.entry ≡ other.entry = cc in
    sym one.by ∙ ap (λ (e : Entry). e.worker) entry ∙ other.by

module _ (h : HeadingModel) (entries : List Entry) where
  -- one group is the first whose rules are broken
  no_earlier : (i j w v k l : ℕ) → IsNotFollowed h entries i w k → IsNotFollowed h entries j v l → i < j → ⊥
  no_earlier i j w v k l one other less =
      follow_or_break (group_rules h.setup h.groups one.group) entries w k one.breaks (other.before i one.group less one.is)

  one_group : (i j w v k l : ℕ) → IsNotFollowed h entries i w k → IsNotFollowed h entries j v l → i ≡ j
  one_group i j w v k l one other = by_order (cases_order i j)
    where
      by_order : (i ≡ j) ⊎ (i < j) ⊎ (j < i) → i ≡ j
      by_order (inl same) = same
      by_order (inr (inl less)) = absurd (no_earlier i j w v k l one other less)
      by_order (inr (inr more)) = absurd (no_earlier j i v w l k other one more)

  one_break : (i j w v k l : ℕ) → IsNotFollowed h entries i w k → IsNotFollowed h entries j v l → not_followed_note h j v l ≡ not_followed_note h i w k
  one_break i j w v k l one other =
      let group : i ≡ j = one_group i j w v k l one other in
      let is : Some one.group ≡ Some other.group = sym one.is ∙ ap (slice_get h.groups) group ∙ other.is in
      let same : one.group ≡ other.group = cc in
      let breaks : BreaksAt (group_rules h.setup h.groups one.group) entries v l = subst (λ (g : Group). BreaksAt (group_rules h.setup h.groups g) entries v l) (sym same) other.breaks in
      let entry : k ≡ l = one_entry (group_rules h.setup h.groups one.group) entries w v k l one.breaks breaks in
      let worker : w ≡ v = one_worker (group_rules h.setup h.groups one.group) entries w v k l one.breaks breaks entry in
      ap (λ n. not_followed_note h n v l) (sym group) ∙ ap (λ n. not_followed_note h i n l) (sym worker) ∙ ap (λ n. not_followed_note h i w n) (sym entry)

-- ONE NOTE

says : (old new before after : Outputs) (note remark : List ℕ) → remark ≡ note → Keeps old.out new.out × Notes old new note → Keeps before.out after.out × Notes before after remark
    → (said : List ℕ) × BothSay old new before after said
says old new before after note remark same one other = (note, (one, (other.0, subst (Notes before after) same other.1)))

one_told : (returned : Result TraceModel TraceFault) (fault other : TraceFault) → returned ≡ Err fault → returned ≡ Err other → fault ≡ other
one_told returned fault other one two = cc

one_fault : (bytes : List ℕ) (fault other : TraceFault) → RefusedFor bytes fault → RefusedFor bytes other → fault_note other ≡ fault_note fault
one_fault bytes fault other one two = ap fault_note (sym (one_told (parse_result TRACE_MAX bytes) fault other one.returned two.returned))

never_both : (bytes : List ℕ) (t : TraceModel) (fault : TraceFault) → ReadsAs bytes t → RefusedFor bytes fault → ⊥
never_both bytes t fault reads refused = refused.none reads.trace.outline t.entries reads.trace.trace

pub checks_note : RefusedChecksHaveOneNote
checks_note bytes left rest old new before after one other =
    says old new before after (fault_note one.0) (fault_note other.0) (one_fault bytes one.0 other.0 one.1 other.1) (one.2, one.3) (other.2, other.3)

names_once : (t : TraceModel) (old new before after : Outputs) → NamesFirstBreak t old new → NamesFirstBreak t before after → (note : List ℕ) × BothSay old new before after note
names_once t old new before after one other =
    says old new before after (not_followed_note t.heading one.group one.worker one.entry) (not_followed_note t.heading other.group other.worker other.entry)
    (one_break t.heading t.entries one.group other.group one.worker other.worker one.entry other.entry one.breaks other.breaks) (one.out, one.note) (other.out, other.note)

pub audits_note : RefusedAuditsHaveOneNote
audits_note bytes left rest old new before after (inl one) (inl other) =
    names_once one.0 old new before after one.2 (subst (λ t. NamesFirstBreak t before after) (one_reading bytes other.0 one.0 other.1 one.1) other.2)
audits_note bytes left rest old new before after (inl one) (inr other) = absurd (never_both bytes one.0 other.0 one.1 other.1)
audits_note bytes left rest old new before after (inr one) (inl other) = absurd (never_both bytes other.0 one.0 other.1 one.1)
audits_note bytes left rest old new before after (inr one) (inr other) =
    says old new before after (fault_note one.0) (fault_note other.0) (one_fault bytes one.0 other.0 one.1 other.1) (one.2, one.3) (other.2, other.3)

pub alike : RefusalsAreAlike
alike bytes left rest old new before after one (inl other) = absurd (never_both bytes other.0 one.0 other.1 one.1)
alike bytes left rest old new before after one (inr other) =
    says old new before after (fault_note one.0) (fault_note other.0) (one_fault bytes one.0 other.0 one.1 other.1) (one.2, one.3) (other.2, other.3)
