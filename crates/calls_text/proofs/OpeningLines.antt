-- The lines that are read before `run` are the text of what they declare.
use Rattle.std.proofs.Common.{◌≡◌, ◌⊎◌, inl, inr, ℕ, ◌<◌, ◌≤◌, List, [], ◌∷◌, ◌++◌, length, Bool}
use Rattle.std.proofs.Common.{true, false, cond, nat_lt, nat_le, not, ◌&&◌, ◌||◌, Option, Some}
use Rattle.std.proofs.Common.{None, Result, Ok, Err, refl, sym, ap, ap₂, ◌∙◌, subst, arith, codes}
use Rattle.std.proofs.Common.{decimal, append-nil, append_assoc, bytes_eq, length-append}
use Rattle.std.specs.List.{join_with_byte}
use Rattle.std.proofs.lemmas.Bool.{and_parts, ltb-true, lt-ltb, leb-true}
use Rattle.std.proofs.lemmas.Slice.Eq.{bytes_eq-Decides}
use Rattle.ec_text.specs.Words.{words_of, number_in_word, is_number_form}
use Rattle.ec_text.proofs.shared.WordLemmas.{split_join}
use Rattle.ec_text.proofs.shared.NumberLemmas.{number_takes, guarded}
use Rattle.ec_heading.specs.declared.heading.HeadFault.{HeadFault}
use Rattle.ec_heading.specs.declared.version.Version.TheVariants.{Two}
use Rattle.ec_heading.specs.Versions.{is_limit, greatest_limit}
use Rattle.ec_heading.specs.HeadingModel.{HeadingModel}
use Rattle.ec_heading.specs.Heading.{head_step, is_no_line}
use Rattle.ec_heading.specs.HeadingLaws.{LinesLead, Outlines}
use Rattle.ec_heading.specs.HeaderTree.{empty_heading}
use Rattle.ec_heading.specs.HeadingInvariant.{HasHeaderTree}
use Rattle.ec_heading.specs.Recalled.{outline_of}
use Rattle.ec_heading.specs.EntryWords.{event_in}
use Rattle.ec_heading.specs.Spelling.{limit_line, heading_lines}
use Rattle.ec_heading.proofs.shared.LeadLines.{leads_outline}
use Rattle.ec_heading.proofs.shared.TreeFound.{outline_found, version_found}
use Rattle.ec_heading.proofs.shared.VersionFacts.{limit_parts}
use Rattle.calls_text.specs.declared.fault.FaultKind.{FaultKind}
use Rattle.calls_text.specs.declared.fault.FaultKind.TheVariants as kinds
use Rattle.calls_text.specs.Recordings.{RecordingModel}
use Rattle.calls_text.specs.Reading.{Draft, Stage, Declaring, Running, Ended, step, is_run}
use Rattle.calls_text.specs.Reading.{draft_of, limit_digits, after_limit, limit_or, limit_step}
use Rattle.calls_text.specs.Reading.{from_words}
use Rattle.calls_text.specs.Reading.{start_in, from_fault, with_start, with_start_or_fault, after_start, from_or}
use Rattle.calls_text.specs.Reading.{from_step, opens_from, is_from, map_heading, draft_step}
use Rattle.calls_text.specs.Reading.{recorded_of, map_draft}
use Rattle.calls_text.specs.Grammar.{from_line, from_lines}
use Rattle.calls_text.specs.kept.Leading.{Leads}
use Rattle.calls_text.proofs.ObjectWords.{event_spelled, event_below}
use Rattle.calls_text.proofs.CallLines.{not_back}
use Rattle.calls_text.specs.Rules.{IsStart, AreStarts}
use Rattle.calls_text.specs.Objects.{is_owned}
use Rattle.calls_text.specs.declared.object.Object.TheVariants as objects
use Rattle.calls_text.specs.Reading.{is_later}
use Rattle.ec_heading.proofs.shared.Declarable.{passed}
use Rattle.calls_text.proofs.EventParts.{no_fault}

same_word : (v w : List ℕ) → bytes_eq v w ≡ true → v ≡ w
same_word v w same = (bytes_eq-Decides v w).0 same

-- THE LIMIT

-- the line says this limit, which is in range
pub record SaysLimit (line : List ℕ) (d : Draft) : Type 0 where
  pub limit : ℕ
  pub low : 1 ≤ limit
  pub high : limit ≤ greatest_limit Two
  pub spelled : line ≡ limit_line limit
  pub opens : d ≡ draft_of (empty_heading Two limit [])

digits_back : (ws : List (List ℕ)) (n : List ℕ) → limit_digits ws ≡ Some n
    → ws ≡ codes "limit" ∷ n ∷ []
digits_back [] n is = cc
digits_back (w ∷ []) n is = cc
digits_back (w ∷ m ∷ []) n is =
    let g = guarded (bytes_eq w (codes "limit") && is_number_form m) (Some m) n is in
    let p = and_parts (bytes_eq w (codes "limit")) (is_number_form m) g.0 in
    let same : m ≡ n = cc in
    ap₂ (λ (x : List ℕ) (y : List ℕ). x ∷ y ∷ []) (same_word w (codes "limit") p.0) same
digits_back (w ∷ m ∷ v ∷ ws) n is = cc

limited_back : (o : Option ℕ) (d : Draft) → after_limit o ≡ Ok d
    → (n : ℕ) × (o ≡ Some n) × (is_limit Two n ≡ true) × (draft_of (empty_heading Two n []) ≡ d)
limited_back None d is = cc
limited_back (Some n) d is =
    elim (is_limit Two n) as (λ b. is_limit Two n ≡ b
    → cond b (Ok (draft_of (empty_heading Two n []))) (Err kinds.BadNumber) ≡ Ok d
    → (m : ℕ) × (Some n ≡ Some m) × (is_limit Two m ≡ true)
    × (draft_of (empty_heading Two m []) ≡ d)) [
      | true ↦ λ q here. (n, refl, q, cc)
      | false ↦ λ q none. cc
    ] refl is

said : (line : List ℕ) (o : Option (List ℕ)) (d : Draft) → limit_digits (words_of line) ≡ o
    → limit_or o ≡ Ok d → SaysLimit line d
said line None d words is = cc
said line (Some digits) d words is =
    let n = limited_back (number_in_word digits) d is in
    let p = limit_parts Two n.0 n.2 in
    let are : words_of line ≡ codes "limit" ∷ digits ∷ [] =
    digits_back (words_of line) digits words in
    let number : digits ≡ decimal n.0 = (number_takes digits n.0 n.1).0 in
    record {
      limit = n.0;
      low = p.0;
      high = p.1;
      spelled = sym (split_join line) ∙ ap (join_with_byte 32) are
          ∙ ap (λ (x : List ℕ). codes "limit " ++ x) number;
      opens = sym n.3;
    }

pub limit_said : (line : List ℕ) (d : Draft) → limit_step line ≡ Ok d → SaysLimit line d
unfolding limit_step
limit_said line d is =
    elim (nat_lt 8192 (length line)) as (λ b.
    cond b (Err kinds.BadLine) (limit_or (limit_digits (words_of line))) ≡ Ok d
    → SaysLimit line d) [
      | true ↦ λ bad. cc
      | false ↦ λ good. said line (limit_digits (words_of line)) d refl good
    ] is

-- AN INITIAL COUNT

-- the line says this initial count
pub record SaysStart (d : Draft) (line : List ℕ) (e : Draft) : Type 0 where
  pub event : ℕ
  pub count : ℕ
  pub adds : e ≡ with_start d event count
  pub spelled : HasHeaderTree d.heading → line ≡ from_line d.heading (event, count)
  pub kept : HasHeaderTree d.heading → IsStart d.heading d.from (event, count)

from_words_back : (ws : List (List ℕ)) (p : List ℕ × List ℕ) → from_words ws ≡ Some p
    → ws ≡ codes "from" ∷ p.0 ∷ p.1 ∷ []
from_words_back [] p is = cc
from_words_back (w ∷ []) p is = cc
from_words_back (w ∷ e ∷ []) p is = cc
from_words_back (w ∷ e ∷ n ∷ []) p is =
    elim (bytes_eq w (codes "from") && is_number_form n) as (λ b.
    (bytes_eq w (codes "from") && is_number_form n) ≡ b
    → cond b (Some (e, n)) None ≡ Some p
    → w ∷ e ∷ n ∷ [] ≡ codes "from" ∷ p.0 ∷ p.1 ∷ []) [
      | true ↦ λ q here.
          (let same : (let x : List ℕ × List ℕ = (e, n) in x) ≡ p = cc in
          let parts = and_parts (bytes_eq w (codes "from")) (is_number_form n) q in
          ap₂ (λ (x : List ℕ) (y : List ℕ × List ℕ). x ∷ y.0 ∷ y.1 ∷ [])
          (same_word w (codes "from") parts.0) same)
      | false ↦ λ q none. cc
    ] refl is
from_words_back (w ∷ e ∷ n ∷ v ∷ ws) p is = cc

-- the number may be an initial count
record IsStartOf (h : HeadingModel) (o : Option ℕ) (n : ℕ) : Type 0 where
  is : o ≡ Some n
  low : 1 ≤ n
  high : n ≤ h.setup.limit

start_back : (h : HeadingModel) (o : Option ℕ) (n : ℕ) → start_in h o ≡ Some n → IsStartOf h o n
start_back h None n is = cc
start_back h (Some m) n is =
    let g = guarded (nat_le 1 m && nat_le m h.setup.limit) (Some m) n is in
    let p = and_parts (nat_le 1 m) (nat_le m h.setup.limit) g.0 in
    let same : m ≡ n = cc in
    subst (IsStartOf h (Some m)) same
    (record { is = refl; low = leb-true _ _ p.0; high = leb-true _ _ p.1 })

count_back : (d e : Draft) (k : ℕ) (o : Option ℕ) → with_start_or_fault d k o ≡ Ok e
    → (n : ℕ) × (o ≡ Some n) × (with_start d k n ≡ e) × (from_fault d k ≡ None)
count_back d e k None is = cc
count_back d e k (Some n) is =
    let f = no_fault (from_fault d k) (with_start d k n) e is in (n, refl, f.1, f.0)

-- the eventcount may have an initial count, after those before it
free_back : (d : Draft) (k : ℕ) → from_fault d k ≡ None
    → (is_owned d.heading.groups (objects.Event k) ≡ false) × (is_later d.from k ≡ true)
free_back d k none =
    let p = passed (is_owned d.heading.groups (objects.Event k)) kinds.Hidden
    ((not (is_later d.from k), kinds.BadOrder) ∷ []) none in
    (p.0, not_back _ (passed (not (is_later d.from k)) kinds.BadOrder [] p.1).0)

started_so : (d e : Draft) (line w digits : List ℕ) (k : Option ℕ)
    → words_of line ≡ codes "from" ∷ w ∷ digits ∷ [] → event_in d.heading.words w ≡ k
    → after_start d k digits ≡ Ok e → SaysStart d line e
started_so d e line w digits None words named is = cc
started_so d e line w digits (Some k) words named is =
    let n = count_back d e k (start_in d.heading (number_in_word digits)) is in
    let start : IsStartOf d.heading (number_in_word digits) n.0 =
    start_back d.heading (number_in_word digits) n.0 n.1 in
    let number : digits ≡ decimal n.0 = (number_takes digits n.0 start.is).0 in
    let free = free_back d k n.3 in
    record {
      event = k;
      count = n.0;
      adds = sym n.2;
      spelled = λ has. sym (split_join line) ∙ ap (join_with_byte 32) words
          ∙ ap₂ (λ (x : List ℕ) (y : List ℕ). codes "from " ++ (x ++ 32 ∷ y))
          (sym (event_spelled d.heading w k has named)) number;
      kept = λ has. record {
        declared = event_below d.heading w k has named;
        free = free.0;
        low = start.low;
        high = start.high;
        later = free.1;
      };
    }

from_said : (d e : Draft) (line : List ℕ) (o : Option (List ℕ × List ℕ))
    → from_words (words_of line) ≡ o → from_or d o ≡ Ok e → SaysStart d line e
from_said d e line None words is = cc
from_said d e line (Some p) words is =
    started_so d e line p.0 p.1 (event_in d.heading.words p.0)
    (from_words_back (words_of line) p words) refl is

start_said : (d e : Draft) (line : List ℕ) → from_step d line ≡ Ok e → SaysStart d line e
unfolding from_step
start_said d e line is =
    elim (is_no_line line) as (λ b.
    cond b (Err kinds.BadLine) (from_or d (from_words (words_of line))) ≡ Ok e
    → SaysStart d line e) [
      | true ↦ λ bad. cc
      | false ↦ λ good. from_said d e line (from_words (words_of line)) refl good
    ] is

-- ALL LINES BEFORE `run`

-- lines of initial counts, one after another
abbrev pub StartsLead : Draft → List (List ℕ) → Draft → Type 0
StartsLead d [] e = d ≡ e
StartsLead d (line ∷ lines) e =
    (next : Draft) × (from_step d line ≡ Ok next) × StartsLead next lines e

-- lines of initial counts, `run`, and what follows
record StartsRun (d : Draft) (lines : List (List ℕ)) (t : RecordingModel) : Type 0 where
  starts : List (List ℕ)
  rest : List (List ℕ)
  last : Draft
  are : lines ≡ starts ++ codes "run" ∷ rest
  lead : StartsLead d starts last
  some : 0 < last.heading.setup.workers
  runs : Leads (Running (recorded_of last)) rest (Ended t)

-- lines of a header, lines of initial counts, `run`, and what follows
pub record HeadsRun (h : HeadingModel) (lines : List (List ℕ)) (t : RecordingModel) : Type 0 where
  pub heads : List (List ℕ)
  pub starts : List (List ℕ)
  pub rest : List (List ℕ)
  pub heading : HeadingModel
  pub last : Draft
  pub are : lines ≡ heads ++ (starts ++ codes "run" ∷ rest)
  pub head_lead : LinesLead h heads heading
  pub start_lead : StartsLead (draft_of heading) starts last
  pub some : 0 < last.heading.setup.workers
  pub runs : Leads (Running (recorded_of last)) rest (Ended t)

-- a line that is not `run` leads to another draft
pub drafted_back : (r : Result Draft FaultKind) (s : Stage) → map_draft r ≡ Ok s
    → (e : Draft) × (r ≡ Ok e) × (s ≡ Declaring e)
drafted_back (Ok e) s is = (e, refl, cc)
drafted_back (Err kind) s is = cc

headed_back : (d e : Draft) (r : Result HeadingModel HeadFault) → map_heading d r ≡ Ok e
    → (h : HeadingModel) × (r ≡ Ok h) × (e ≡ record d { heading = h })
headed_back d e (Ok h) is = (h, refl, cc)
headed_back d e (Err fault) is = cc

ok_is : (x y : Stage) → ◌≡◌ {A = Result Stage FaultKind} (Ok x) (Ok y) → y ≡ x
ok_is x y e = cc

run_is : (d : Draft) (line : List ℕ) → is_run d line ≡ true
    → (line ≡ codes "run") × (0 < d.heading.setup.workers)
run_is d line is =
    let p = and_parts (bytes_eq line (codes "run")) (nat_lt 0 d.heading.setup.workers) is in
    (same_word line (codes "run") p.0, ltb-true _ _ p.1)

-- the line is `run`, or it leads to another draft
step_cases : (d : Draft) (line : List ℕ) (s : Stage) → step (Declaring d) line ≡ Ok s
    → ((line ≡ codes "run") × (0 < d.heading.setup.workers) × (s ≡ Running (recorded_of d)))
    ⊎ ((e : Draft) × (draft_step d line ≡ Ok e) × (s ≡ Declaring e))
unfolding step
step_cases d line s is =
    elim (is_run d line) as (λ b. is_run d line ≡ b
    → cond b (Ok (Running (recorded_of d))) (map_draft (draft_step d line)) ≡ Ok s
    → ((line ≡ codes "run") × (0 < d.heading.setup.workers) × (s ≡ Running (recorded_of d)))
    ⊎ ((e : Draft) × (draft_step d line ≡ Ok e) × (s ≡ Declaring e))) [
      | true ↦ λ q runs.
          (let r = run_is d line q in inl (r.0, r.1, ok_is (Running (recorded_of d)) s runs))
      | false ↦ λ q drafts. inr (drafted_back (draft_step d line) s drafts)
    ] refl is

-- the line is that of an initial count, or one of the header
draft_cases : (d e : Draft) (line : List ℕ) → draft_step d line ≡ Ok e
    → (from_step d line ≡ Ok e)
    ⊎ ((h : HeadingModel) × (head_step d.heading line ≡ Ok h) × (e ≡ record d { heading = h }))
draft_cases d e line is =
    elim (is_from d line) as (λ b.
    cond b (from_step d line) (map_heading d (head_step d.heading line)) ≡ Ok e
    → (from_step d line ≡ Ok e)
    ⊎ ((h : HeadingModel) × (head_step d.heading line ≡ Ok h) × (e ≡ record d { heading = h }))) [
      | true ↦ λ from. inl from
      | false ↦ λ head. inr (headed_back d e (head_step d.heading line) head)
    ] is

draft_starts : (d e : Draft) (line : List ℕ) → 0 < length d.from → draft_step d line ≡ Ok e
    → from_step d line ≡ Ok e
draft_starts d e line some is =
    let long : nat_lt 0 (length d.from) ≡ true = lt-ltb _ _ some in
    let first : is_from d line ≡ true =
    ap (λ (b : Bool). b || (opens_from (words_of line) && nat_lt 0 d.heading.setup.workers)) long in
    sym (ap (λ (b : Bool).
    cond b (from_step d line) (map_heading d (head_step d.heading line))) first)
    ∙ is

more_starts : (d e : Draft) (line : List ℕ) → from_step d line ≡ Ok e → 0 < length e.from
more_starts d e line is =
    let s : SaysStart d line e = start_said d e line is in
    omega (
      arith,
      ap (λ (x : Draft). length x.from) s.adds,
      length-append d.from ((s.event, s.count) ∷ []),
    )

run_here : (d : Draft) (line : List ℕ) (lines : List (List ℕ)) (t : RecordingModel)
    → line ≡ codes "run" → 0 < d.heading.setup.workers
    → Leads (Running (recorded_of d)) lines (Ended t) → StartsRun d (line ∷ lines) t
run_here d line lines t is some leads = record {
  starts = [];
  rest = lines;
  last = d;
  are = ap (λ (x : List ℕ). x ∷ lines) is;
  lead = refl;
  some = some;
  runs = leads;
}

start_here : (d e : Draft) (line : List ℕ) (lines : List (List ℕ)) (t : RecordingModel)
    → from_step d line ≡ Ok e → StartsRun e lines t → StartsRun d (line ∷ lines) t
start_here d e line lines t is rest = record {
  starts = line ∷ rest.starts;
  rest = rest.rest;
  last = rest.last;
  are = ap (λ (ls : List (List ℕ)). line ∷ ls) rest.are;
  lead = (e, is, rest.lead);
  some = rest.some;
  runs = rest.runs;
}

-- after a line of an initial count
starts_back : (d : Draft) (lines : List (List ℕ)) (t : RecordingModel) → 0 < length d.from
    → Leads (Declaring d) lines (Ended t) → StartsRun d lines t
starts_back d [] t some leads = cc
starts_back d (line ∷ lines) t some (next, taken, leads) =
    elim (step_cases d line next taken) [
      | inl run ↦
          run_here d line lines t run.0 run.1
          (subst (λ (s : Stage). Leads s lines (Ended t)) run.2 leads)
      | inr drafts ↦
          (let from : from_step d line ≡ Ok drafts.0 =
          draft_starts d drafts.0 line some drafts.1 in
          start_here d drafts.0 line lines t from
          (starts_back drafts.0 lines t (more_starts d drafts.0 line from)
          (subst (λ (s : Stage). Leads s lines (Ended t)) drafts.2 leads)))
    ]

no_heads : (h : HeadingModel) (lines : List (List ℕ)) (t : RecordingModel)
    → StartsRun (draft_of h) lines t
    → HeadsRun h lines t
no_heads h lines t s = record {
  heads = [];
  starts = s.starts;
  rest = s.rest;
  heading = h;
  last = s.last;
  are = s.are;
  head_lead = refl;
  start_lead = s.lead;
  some = s.some;
  runs = s.runs;
}

head_here : (h g : HeadingModel) (line : List ℕ) (lines : List (List ℕ)) (t : RecordingModel)
    → head_step h line ≡ Ok g → HeadsRun g lines t → HeadsRun h (line ∷ lines) t
head_here h g line lines t is rest = record {
  heads = line ∷ rest.heads;
  starts = rest.starts;
  rest = rest.rest;
  heading = rest.heading;
  last = rest.last;
  are = ap (λ (ls : List (List ℕ)). line ∷ ls) rest.are;
  head_lead = (g, is, rest.head_lead);
  start_lead = rest.start_lead;
  some = rest.some;
  runs = rest.runs;
}

pub heads_back : (h : HeadingModel) (lines : List (List ℕ)) (t : RecordingModel)
    → Leads (Declaring (draft_of h)) lines (Ended t) → HeadsRun h lines t
heads_back h [] t leads = cc
heads_back h (line ∷ lines) t (next, taken, leads) =
    elim (step_cases (draft_of h) line next taken) [
      | inl run ↦
          no_heads h (line ∷ lines) t (run_here (draft_of h) line lines t run.0 run.1
          (subst (λ (s : Stage). Leads s lines (Ended t)) run.2 leads))
      | inr drafts ↦ elim (draft_cases (draft_of h) drafts.0 line drafts.1) [
        | inl from ↦
            no_heads h (line ∷ lines) t (start_here (draft_of h) drafts.0 line lines t from
            (starts_back drafts.0 lines t (more_starts (draft_of h) drafts.0 line from)
            (subst (λ (s : Stage). Leads s lines (Ended t)) drafts.2 leads)))
        | inr head ↦
            head_here h head.0 line lines t head.1 (heads_back head.0 lines t
            (subst (λ (s : Stage). Leads s lines (Ended t))
            (drafts.2 ∙ ap Declaring head.2) leads))
      ]
    ]

-- THEIR TEXT

-- the lines are those of these initial counts
pub record StartsSpelled (d : Draft) (lines : List (List ℕ)) (e : Draft) : Type 0 where
  pub counts : List (ℕ × ℕ)
  pub heading : e.heading ≡ d.heading
  pub from : e.from ≡ d.from ++ counts
  pub spelled : lines ≡ from_lines d.heading counts
  pub are : AreStarts d.heading d.from counts

start_spelled : (d n e : Draft) (line : List ℕ) (lines : List (List ℕ)) → HasHeaderTree d.heading
    → SaysStart d line n → StartsSpelled n lines e → StartsSpelled d (line ∷ lines) e
start_spelled d n e line lines has one rest =
    let same : n.heading ≡ d.heading = ap (λ (x : Draft). x.heading) one.adds in
    record {
      counts = (one.event, one.count) ∷ rest.counts;
      heading = rest.heading ∙ same;
      from = rest.from ∙ ap (λ (x : Draft). x.from ++ rest.counts) one.adds
          ∙ append_assoc d.from ((one.event, one.count) ∷ []) rest.counts;
      spelled = ap₂ (λ (x : List ℕ) (xs : List (List ℕ)). x ∷ xs) (one.spelled has)
          (rest.spelled ∙ ap (λ (h : HeadingModel). from_lines h rest.counts) same);
      are = (
        one.kept has,
        subst (λ (x : Draft). AreStarts x.heading x.from rest.counts) one.adds rest.are,
      );
    }

pub starts_spelled : (d e : Draft) (lines : List (List ℕ)) → HasHeaderTree d.heading
    → StartsLead d lines e → StartsSpelled d lines e
starts_spelled d e [] has leads = record {
  counts = [];
  heading = ap (λ (x : Draft). x.heading) (sym leads);
  from = ap (λ (x : Draft). x.from) (sym leads) ∙ sym (append-nil d.from);
  spelled = refl;
  are = tt;
}
starts_spelled d e (line ∷ lines) has (next, taken, leads) =
    let one : SaysStart d line next = start_said d next line taken in
    let same : d.heading ≡ next.heading = sym (ap (λ (x : Draft). x.heading) one.adds) in
    start_spelled d next e line lines has one
    (starts_spelled next e lines (subst HasHeaderTree same has) leads)

-- lines of initial counts leave the header as it is
pub starts_heading : (d e : Draft) (lines : List (List ℕ)) → StartsLead d lines e
    → e.heading ≡ d.heading
starts_heading d e [] leads = ap (λ (x : Draft). x.heading) (sym leads)
starts_heading d e (line ∷ lines) (next, taken, leads) =
    starts_heading next e lines leads
    ∙ ap (λ (x : Draft). x.heading) (start_said d next line taken).adds

-- the lines of a header are those of its syntax tree
pub record HeadingSpelled (limit : ℕ) (lines : List (List ℕ)) (h : HeadingModel) : Type 0 where
  pub has : HasHeaderTree h
  pub version : h.version ≡ Two
  pub spelled : limit_line limit ∷ lines ≡ heading_lines (outline_of h)

outline_spelled : (limit : ℕ) (lines : List (List ℕ)) (h : HeadingModel)
    → Outlines Two limit lines h
    → HeadingSpelled limit lines h
outline_spelled limit lines h o =
    let recalled : outline_of h ≡ o.outline =
    ap outline_of o.end_is ∙ outline_found o.outline o.is in
    record {
      has = record { outline = o.outline; is = o.is; declares = sym o.end_is };
      version = ap (λ (g : HeadingModel). g.version) o.end_is ∙ version_found o.outline
          ∙ o.version_is;
      spelled = ap₂ (λ (x : List ℕ) (xs : List (List ℕ)). x ∷ xs)
          (ap limit_line (sym o.limit_is)) o.lines_are
          ∙ ap heading_lines (sym recalled);
    }

pub heading_spelled : (limit : ℕ) (lines : List (List ℕ)) (h : HeadingModel) → 1 ≤ limit
    → limit ≤ greatest_limit Two → 0 < h.setup.workers
    → LinesLead (empty_heading Two limit []) lines h → HeadingSpelled limit lines h
heading_spelled limit [] h low high some leads =
    let none : h.setup.workers ≡ 0 = ap (λ (g : HeadingModel). g.setup.workers) (sym leads) in
    absurd (omega (arith, some, none))
heading_spelled limit (line ∷ lines) h low high some leads =
    outline_spelled limit (line ∷ lines) h (leads_outline Two limit line lines h low high leads)
