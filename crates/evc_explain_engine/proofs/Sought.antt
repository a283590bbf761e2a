-- A bad line before `run` has a site: it doesn't fit what the lines before it declare.
use Rattle.std.proofs.Common.{◌≡◌, ◌≢◌, ◌⊎◌, inl, inr, ℕ, ◌+◌, ◌-◌, ◌<◌, ◌≤◌, List, [], ◌∷◌}
use Rattle.std.proofs.Common.{◌++◌, length, cond, Bool, true, false, ◌&&◌, ◌||◌, nat_lt, eqb, ltb}
use Rattle.std.proofs.Common.{Option, Some, None, Result, Ok, Err, refl, sym, ap, subst, ◌∙◌, arith}
use Rattle.std.proofs.Common.{codes, take, drop, take-append-drop, append_assoc, length-append}
use Rattle.std.proofs.Common.{lt_of_not-le, lt-ltb, take_all}
use Rattle.std.proofs.lemmas.Grind.{flat_map-append}
use Rattle.std.proofs.lemmas.List.Elements.{All-from_recursion, recursion_from_All}
use Rattle.std.specs.Prelude.{bytes_eq}
use Rattle.std.specs.List.{AllByRecursion, list_any}
use Rattle.ec_text.specs.Words.{words_of}
use Rattle.ec_heading.specs.declared.version.Version.{Version}
use Rattle.ec_heading.specs.declared.version.Version.TheVariants.{One}
use Rattle.ec_heading.specs.declared.heading.HeadFault.{HeadFault}
use Rattle.ec_heading.specs.declared.heading.HeadFault.TheVariants as heads
use Rattle.ec_heading.specs.HeadingModel.{HeadingModel}
use Rattle.ec_heading.specs.Heading.{head_step, opened_by, workers_in, fault_or, words_step}
use Rattle.ec_heading.specs.Kinds.{workers_fault}
use Rattle.ec_heading.specs.HeaderTree.{heading_of_tree, empty_heading}
use Rattle.ec_heading.specs.HeadingInvariant.{HasHeaderTree}
use Rattle.ec_heading.specs.Spelling.{lines_text, ended_line}
use Rattle.ec_heading.proofs.shared.TreeFound.{workers_number}
use Rattle.ec_trace.specs.declared.fault.LineFault.{LineFault}
use Rattle.ec_trace.specs.declared.fault.LineFault.TheVariants.{Bad}
use Rattle.ec_trace.specs.declared.fault.TraceFault.{TraceFault}
use Rattle.ec_trace.specs.declared.fault.TraceFault.TheVariants.{BadLine, TooLarge}
use Rattle.ec_trace.specs.declared.read.TheConstants.{TRACE_MAX}
use Rattle.ec_trace.specs.FirstFault.{IsFirstFault, IsLine, Leads}
use Rattle.ec_trace.specs.Outcome.{ReadState, trace_or_fault, ended_at, parse_from, goes_from, is_bad_rest, parse_result}
use Rattle.ec_trace.specs.Outcome.{lines_of_text, start, after_line, traced_in}
use Rattle.ec_trace.specs.Reading.{LinesModel, Brings}
use Rattle.ec_trace.specs.TraceModel.{TraceModel}
use Rattle.ec_trace.specs.Stages.{Stage, Opening, Limiting, Declaring, Running, Ended}
use Rattle.ec_trace.specs.Step.{after_declaration, is_ended, step}
use Rattle.ec_trace.proofs.FirstFaults.{line_fault_is_the_first}
use Rattle.ec_trace.proofs.Leads.{leads_append, text_read}
use Rattle.ec_explain.specs.TextLines.{text_before_line, first_line, line_at}
use Rattle.evc_explain_engine.specs.Reasons.{ended_before, read_back, trace_before}
use Rattle.evc_explain_engine.specs.BadLines.{Heads, IsInHeading, Opens, follows_end, up_to}
use Rattle.evc_explain_engine.proofs.Cuts.{IsPlain, before_here, first_here, first_long, line_here}
use Rattle.evc_explain_engine.proofs.Stages.{Counted, EndsSo, IsUnder, leads_counted, lines_end, step_under}
use Rattle.ec_trace.proofs.shared.ReadTraces.{run_leads as run_step}

-- THE FIRST FAULTY LINE IN THE WHOLE TEXT

-- the lines before the first faulty line of a text, and what follows them
record IsFaultyAt (text : List ℕ) (n : ℕ) : Type 0 where
  before : List (List ℕ)
  stage : Stage
  line : List ℕ
  rest : List ℕ
  whole : text ≡ lines_text before ++ rest
  number : length before + 1 ≡ n
  each : AllByRecursion IsLine before
  leads : Leads Opening before stage
  plain : IsPlain line
  why : ((8192 < length line) × (more : List ℕ) × (rest ≡ line ++ more))
      ⊎ ((is_ended stage ≡ true)
      ⊎ ((more : List ℕ) × (rest ≡ line ++ 10 ∷ more) × (step stage line ≡ Err Bad)))

faulty : (text : List ℕ) (n : ℕ) → parse_result TRACE_MAX text ≡ Err (BadLine n) → IsFaultyAt text n
faulty text n is =
    let f : IsFirstFault (take TRACE_MAX text) n Bad = line_fault_is_the_first text n Bad is in
    let far : List ℕ = drop TRACE_MAX text in
    let rest : List ℕ = (f.line ++ f.behind) ++ far in
    let whole : text ≡ lines_text f.before ++ rest =
    sym (take-append-drop TRACE_MAX text) ∙ ap (λ (b : List ℕ). b ++ far) f.whole
    ∙ append_assoc (lines_text f.before) (f.line ++ f.behind) far in
    let grouped : rest ≡ f.line ++ (f.behind ++ far) = append_assoc f.line f.behind far in
    record {
      before = f.before;
      stage = f.stage;
      line = f.line;
      rest = rest;
      whole = whole;
      number = f.number;
      each = f.each;
      leads = f.leads;
      plain = recursion_from_All (λ b. b ≢ 10) f.line f.no_lf;
      why = elim f.why [
        | inl long ↦ inl (long.0, f.behind ++ far, grouped)
        | inr (inl end) ↦ inr (inl end.1)
        | inr (inr there) ↦ inr (inr (
          there.1 ++ far,
          grouped ∙ ap (λ (b : List ℕ). f.line ++ (b ++ far)) there.2,
          there.3,
        ))
      ];
    }

plain_lines : (lines : List (List ℕ)) → AllByRecursion IsLine lines → AllByRecursion IsPlain lines
plain_lines [] each = tt
plain_lines (line ∷ lines) each =
    (recursion_from_All (λ b. b ≢ 10) line each.0.no_lf, plain_lines lines each.1)

plain_front : (lines more : List (List ℕ)) → AllByRecursion IsPlain (lines ++ more)
    → AllByRecursion IsPlain lines
plain_front [] more each = tt
plain_front (line ∷ lines) more each = (each.0, plain_front lines more each.1)

counted_here : (text : List ℕ) (n : ℕ) (f : IsFaultyAt text n) → Counted n f.stage
counted_here text n f =
    leads_counted 1 n Opening f.before f.stage refl (omega (arith, f.number)) f.leads

-- what precedes it, and the line
before_is : (text : List ℕ) (n : ℕ) (f : IsFaultyAt text n)
    → text_before_line n text ≡ lines_text f.before
before_is text n f =
    ap (text_before_line n) f.whole
    ∙ before_here n f.before f.rest (plain_lines f.before f.each) f.number

line_is : (text : List ℕ) (n : ℕ) (f : IsFaultyAt text n) → line_at n text ≡ first_line f.rest
line_is text n f =
    ap (line_at n) f.whole ∙ line_here n f.before f.rest (plain_lines f.before f.each) f.number

-- TEXTS OF LINES

each_append : (xs ys : List (List ℕ)) → AllByRecursion IsLine xs → AllByRecursion IsLine ys
    → AllByRecursion IsLine (xs ++ ys)
each_append [] ys a b = b
each_append (x ∷ xs) ys a b = (a.0, each_append xs ys a.1 b)

run_line : IsLine (codes "run")
run_line = record {
  no_lf = All-from_recursion (λ b. b ≢ 10) (codes "run")
      ((λ e. omega (arith, e)), ((λ e. omega (arith, e)), ((λ e. omega (arith, e)), tt)));
  short = omega arith;
}

end_line : IsLine (codes "end")
end_line = record {
  no_lf = All-from_recursion (λ b. b ≢ 10) (codes "end")
      ((λ e. omega (arith, e)), ((λ e. omega (arith, e)), ((λ e. omega (arith, e)), tt)));
  short = omega arith;
}

end_step : (t : TraceModel) → step (Running t) (codes "end") ≡ Ok (Ended t)
unfolding step
end_step t = refl

some_workers : (h : HeadingModel) → HasHeaderTree h → 0 < h.setup.workers
some_workers h o =
    let same : (heading_of_tree o.outline).setup.workers ≡ h.setup.workers =
    ap (λ (g : HeadingModel). g.setup.workers) o.declares in
    omega (arith, same, workers_number o.outline, o.is.workers.some)

-- lines that lead to an entry or the end, after the lines before
story_is : (text : List ℕ) (n : ℕ) (f : IsFaultyAt text n) (t : TraceModel) → f.stage ≡ Running t
    → length (up_to n text) ≤ TRACE_MAX → trace_before n text ≡ Some t
story_is text n f t at room =
    let lines : List (List ℕ) = f.before ++ codes "end" ∷ [] in
    let spelled : ended_before n text ≡ lines_text lines =
    ap (λ (b : List ℕ). b ++ codes "end\n") (before_is text n f)
    ∙ sym (flat_map-append ended_line f.before (codes "end" ∷ [])) in
    let leads : Leads Opening lines (Ended t) =
    leads_append Opening (Running t) (Ended t) f.before (codes "end" ∷ [])
    (subst (Leads Opening f.before) at f.leads) (Ended t, end_step t, refl) in
    let within : length (ended_before n text) ≤ TRACE_MAX =
    omega (
      arith,
      room,
      length-append (text_before_line n text) (codes "end\n"),
      length-append (text_before_line n text) (codes "run\nend\n"),
    ) in
    let each : AllByRecursion IsLine lines =
    each_append f.before (codes "end" ∷ []) f.each (end_line, tt) in
    ap read_back (text_read TRACE_MAX (ended_before n text) lines t within
    (record { spelled = spelled; each = each; leads = leads }))

heading_is : (text : List ℕ) (n : ℕ) (f : IsFaultyAt text n) (h : HeadingModel)
    → f.stage ≡ Declaring h → HasHeaderTree h → length (up_to n text) ≤ TRACE_MAX
    → parse_result TRACE_MAX (up_to n text) ≡ Ok (record { heading = h; entries = [] })
heading_is text n f h at has room =
    let t : TraceModel = record { heading = h; entries = [] } in
    let more : List (List ℕ) = codes "run" ∷ codes "end" ∷ [] in
    let lines : List (List ℕ) = f.before ++ more in
    let spelled : up_to n text ≡ lines_text lines =
    ap (λ (b : List ℕ). b ++ codes "run\nend\n") (before_is text n f)
    ∙ sym (flat_map-append ended_line f.before more) in
    let leads : Leads Opening lines (Ended t) =
    leads_append Opening (Declaring h) (Ended t) f.before more
    (subst (Leads Opening f.before) at f.leads)
    (Running t, run_step h (some_workers h has), (Ended t, end_step t, refl)) in
    let each : AllByRecursion IsLine lines =
    each_append f.before more f.each (run_line, (end_line, tt)) in
    text_read TRACE_MAX (up_to n text) lines t room
    (record { spelled = spelled; each = each; leads = leads })

-- THE LINE FAILS IN THE HEADER

too_long : (h : HeadingModel) (line : List ℕ) → 8192 < length line
    → head_step h line ≡ Err heads.BadLine
unfolding head_step
too_long h line long = (let l : ltb 8192 (length line) ≡ true = lt-ltb _ _ long in rw l refl)

refused_head : (r : Result HeadingModel HeadFault) → after_declaration r ≡ Err Bad
    → (fault : HeadFault) × (r ≡ Err fault)
refused_head (Ok h) e = cc
refused_head (Err fault) e = (fault, refl)

refused_line : (h : HeadingModel) (line : List ℕ) → step (Declaring h) line ≡ Err Bad
    → (fault : HeadFault) × (head_step h line ≡ Err fault)
unfolding step
refused_line h line e =
    elim (bytes_eq line (codes "run") && nat_lt 0 h.setup.workers)
    as (λ b. cond b (Ok (Running (record { heading = h; entries = [] })))
    (after_declaration (head_step h line)) ≡ Err Bad → (fault : HeadFault) × (head_step h line ≡ Err fault)) [
      | true ↦ λ g. cc
      | false ↦ λ g. refused_head (head_step h line) g
    ] e

not_ended : (h : HeadingModel) → is_ended (Declaring h) ≡ true → ⊥
unfolding is_ended
not_ended h e = cc

fails : (text : List ℕ) (n : ℕ) (f : IsFaultyAt text n) (h : HeadingModel) → f.stage ≡ Declaring h
    → (fault : HeadFault) × (head_step h (line_at n text) ≡ Err fault)
fails text n f h at =
    elim f.why [
      | inl (long, more, is) ↦
          (let shown : line_at n text ≡ first_line (f.line ++ more) =
          line_is text n f ∙ ap first_line is in
          let far : length f.line ≤ length (first_line (f.line ++ more)) =
          first_long f.line more f.plain in (
            heads.BadLine,
            too_long h (line_at n text) (omega (arith, long, far, ap length shown)),
          ))
      | inr (inl end) ↦
          absurd (not_ended h (subst (λ (s : Stage). is_ended s ≡ true) at end))
      | inr (inr (more, is, refused)) ↦
          (let shown : line_at n text ≡ f.line =
          line_is text n f ∙ ap first_line is ∙ first_here f.line more f.plain in
          let bad = refused_line h f.line
          (subst (λ (s : Stage). step s f.line ≡ Err Bad) at refused) in
          (bad.0, ap (head_step h) shown ∙ bad.1))
    ]

-- WHERE IT IS

some_none : (t : TraceModel) → None ≡ Some t → ⊥
some_none t e = cc

-- the line before one that follows `end`
follows : (text : List ℕ) (n : ℕ) (f : IsFaultyAt text n) (t : TraceModel) → f.stage ≡ Ended t
    → follows_end n text ≡ true
follows text n f t at =
    let e : EndsSo f.before = lines_end f.before t (subst (Leads Opening f.before) at f.leads) in
    let plain : AllByRecursion IsPlain (e.before ++ codes "end" ∷ []) =
    subst (AllByRecursion IsPlain) e.is (plain_lines f.before f.each) in
    let whole : text ≡ lines_text e.before ++ (codes "end" ++ 10 ∷ f.rest) =
    f.whole ∙ ap (λ (ls : List (List ℕ)). lines_text ls ++ f.rest) e.is
    ∙ ap (λ (b : List ℕ). b ++ f.rest) (flat_map-append ended_line e.before (codes "end" ∷ []))
    ∙ append_assoc (lines_text e.before) (codes "end\n") f.rest in
    let number : length e.before + 1 ≡ n - 1 =
    omega (arith, f.number, ap length e.is, length-append e.before (codes "end" ∷ [])) in
    let shown : line_at (n - 1) text ≡ codes "end" =
    ap (line_at (n - 1)) whole
    ∙ line_here (n - 1) e.before (codes "end" ++ 10 ∷ f.rest)
    (plain_front e.before (codes "end" ∷ []) plain) number
    ∙ first_here (codes "end") f.rest (recursion_from_All (λ b. b ≢ 10) (codes "end") end_line.no_lf)
    in
    ap (λ (l : List ℕ). bytes_eq l (codes "end")) shown

true_false : true ≡ false → ⊥
true_false e = cc

-- after the second line, if the lines before it, with `end`, are no trace, it is in the header
record StandsIn (text : List ℕ) (n : ℕ) (f : IsFaultyAt text n) : Type 0 where
  heading : HeadingModel
  at : f.stage ≡ Declaring heading
  counted : Counted n (Declaring heading)

located : (text : List ℕ) (n : ℕ) (f : IsFaultyAt text n) → trace_before n text ≡ None
    → follows_end n text ≡ false → 2 < n → length (up_to n text) ≤ TRACE_MAX
    → StandsIn text n f
located text n f none early high room =
    elim f.stage as (λ (s : Stage). f.stage ≡ s → StandsIn text n f) [
      | Opening ↦ λ at.
          (let c : n ≡ 1 = subst (Counted n) at (counted_here text n f) in
          absurd (omega (arith, c, high)))
      | Limiting v ↦ λ at.
          (let c : n ≡ 2 = subst (Counted n) at (counted_here text n f) in
          absurd (omega (arith, c, high)))
      | Declaring h ↦ λ at.
          record { heading = h; at = at; counted = subst (Counted n) at (counted_here text n f) }
      | Running t ↦ λ at. absurd (some_none t (sym none ∙ story_is text n f t at room))
      | Ended t ↦ λ at. absurd (true_false (sym (follows text n f t at) ∙ early))
    ] refl

-- THE THIRD LINE

opened_alike : (v : Version) (l : ℕ) (o : Option (List (List ℕ))) (fault : HeadFault) (k : HeadingModel)
    → opened_by v l o ≡ Err fault → opened_by One 1 o ≡ Ok k → ⊥
opened_alike v l None fault k e g = cc
opened_alike v l (Some ws) fault k e g =
    elim (workers_fault ws) as (λ (f : Option HeadFault). fault_or f (empty_heading v l ws)
    ≡ Err fault
    → fault_or f (empty_heading One 1 ws) ≡ Ok k → ⊥) [
      | None ↦ λ a b. cc
      | Some x ↦ λ a b. cc
    ] e g

third_alike : (v : Version) (l : ℕ) (line : List ℕ) (fault : HeadFault) (k : HeadingModel)
    → head_step (empty_heading v l []) line ≡ Err fault
    → head_step (empty_heading One 1 []) line ≡ Ok k → ⊥
unfolding head_step
third_alike v l line fault k e g =
    elim (ltb 8192 (length line) || list_any (λ w. eqb (length w) 0) (words_of line))
    as (λ b. cond b (Err heads.BadLine) (words_step (empty_heading v l []) (words_of line))
    ≡ Err fault
    → cond b (Err heads.BadLine) (words_step (empty_heading One 1 []) (words_of line)) ≡ Ok k → ⊥) [
      | true ↦ λ a b. cc
      | false ↦ λ a b. opened_alike v l (workers_in (words_of line)) fault k a b
    ] e g

-- THE HEADER THAT IS READ

not_fault : {X : Type 0} (b : Bool) (f : TraceFault) (r : Result X TraceFault) (p : X)
    → cond b (Err f) r ≡ Ok p → r ≡ Ok p
not_fault true f r p e = cc
not_fault false f r p e = e

was_taken : (n : ℕ) (r : Result Stage LineFault) (others : Stage → Result ReadState TraceFault)
    (p : ReadState) → after_line n r others ≡ Ok p → (t : Stage) × (r ≡ Ok t) × (others t ≡ Ok p)
was_taken n (Ok t) others p e = (t, refl, e)
was_taken n (Err f) others p e = cc

goes_under : (g : HeadingModel) (n : ℕ) (s : Stage) (parts : List (List ℕ)) (p : ReadState)
    → IsUnder g s
    → parse_from n s parts ≡ Ok p → IsUnder g p.stage
unfolding parse_from
goes_under g n s [] p under e =
    let same : s ≡ p.stage = cc in subst (IsUnder g) same under
goes_under g n s (line ∷ []) p under e =
    let place : ReadState = record { stage = s; number = n; part = line } in
    let is : Ok place ≡ Ok p = not_fault (is_bad_rest s line) (BadLine n) (Ok place) p e in
    let same : s ≡ p.stage = cc in
    subst (IsUnder g) same under
goes_under g n s (line ∷ next ∷ others) p under e =
    let later : Result ReadState TraceFault =
    after_line n (step s line) (λ t. parse_from (n + 1) t (next ∷ others)) in
    let t = was_taken n (step s line) (λ t. parse_from (n + 1) t (next ∷ others)) p
    (not_fault (ltb 8192 (length line)) (BadLine n) later p e) in
    goes_under g (n + 1) t.0 (next ∷ others) p (step_under g s t.0 line under t.1) t.2

traced_under : (g : HeadingModel) (s : Stage) (t : TraceModel) → IsUnder g s → traced_in s ≡ Ok t
    → t.heading ≡ g
traced_under g (Ended u) t under e = (let same : u ≡ t = cc in subst (λ (r : TraceModel). r.heading ≡ g) same under)
traced_under g Opening t under e = absurd under
traced_under g (Limiting v) t under e = absurd under
traced_under g (Declaring h) t under e = absurd under
traced_under g (Running u) t under e = cc

chosen : {X : Type 0} (b : Bool) (r : Result X TraceFault) (f : TraceFault) (x : X)
    → cond b r (Err f) ≡ Ok x → r ≡ Ok x
chosen true r f x e = e
chosen false r f x e = cc

bounded_under : (g : HeadingModel) (max n : ℕ) (s : Stage) (xs : List ℕ) (parts : List (List ℕ))
    (r : Result ReadState TraceFault) (t : TraceModel) → IsUnder g s → parse_from n s parts ≡ r
    → trace_or_fault max xs r ≡ Ok t → t.heading ≡ g
bounded_under g max n s xs parts (Ok p) t under is e =
    let ended = not_fault (ltb max (length xs)) TooLarge (ended_at p) t e in
    let traced = chosen (eqb (length p.part) 0) (traced_in p.stage) _ t ended in
    traced_under g p.stage t (goes_under g n s parts p under is) traced
bounded_under g max n s xs parts (Err f) t under is e = cc

goes_from_given : (xs : List ℕ) (left : Option (List ℕ)) (r : LinesModel) (h : HeadingModel)
    (b : Brings xs left r (λ more. parse_from (r.number + 1)
    (Running (record { heading = h; entries = [] })) (lines_of_text more)))
    → (more : List ℕ) × (xs ≡ b.given ++ more)
goes_from_given xs (Some left) r h b =
    ((r.behind ++ r.over) ++ left, b.gave ∙ append_assoc b.given (r.behind ++ r.over) left)
goes_from_given xs None r h b = absurd b.gave

opens_one : (xs : List ℕ) (h : HeadingModel) (t : TraceModel) → length xs ≤ TRACE_MAX → Opens xs h
    → parse_result TRACE_MAX xs ≡ Ok t → t.heading ≡ h
unfolding parse_result
opens_one xs h t room (left, r, empty_heading) is =
    let begun : Stage = Running (record { heading = h; entries = [] }) in
    let given = goes_from_given xs left r h empty_heading in
    let goes_so : goes_from start xs ≡ parse_from (r.number + 1) begun (lines_of_text given.0) =
    ap (goes_from start) given.1 ∙ empty_heading.goes given.0 in
    let all : take TRACE_MAX xs ≡ xs = take_all TRACE_MAX xs room in
    let comes : goes_from start (take TRACE_MAX xs)
    ≡ parse_from (r.number + 1) begun (lines_of_text given.0) = ap (goes_from start) all
    ∙ goes_so in
    bounded_under h TRACE_MAX (r.number + 1) begun xs (lines_of_text given.0)
    (goes_from start (take TRACE_MAX xs)) t refl (sym comes) is

-- NO LINE IS WITHOUT A SITE

-- if the third line fits, there is no room after the lines before it
pub third_fits : (text : List ℕ) (k : HeadingModel) → IsInHeading text 3
    → head_step (empty_heading One 1 []) (line_at 3 text) ≡ Ok k → TRACE_MAX < length (up_to 3 text)
third_fits text k sought fits = lt_of_not-le (λ room.
    (let f : IsFaultyAt text 3 = faulty text 3 sought.bad in
    let l : StandsIn text 3 f = located text 3 f sought.before sought.early (omega arith) room in
    let wrong = fails text 3 f l.heading l.at in
    elim l.counted [
      | inl (at, e) ↦ third_alike e.version e.limit (line_at 3 text) wrong.0 k
          (ap (λ (h : HeadingModel). head_step h (line_at 3 text)) (sym e.is) ∙ wrong.1) fits
      | inr (high, has) ↦ omega (arith, high)
    ]))

-- a later line
later_read : (text : List ℕ) (n : ℕ) → IsInHeading text n → 3 < n
    → length (up_to n text) ≤ TRACE_MAX → (h : HeadingModel) × (fault : HeadFault)
    × (head_step h (line_at n text) ≡ Err fault)
    × (parse_result TRACE_MAX (up_to n text) ≡ Ok (record { heading = h; entries = [] }))
later_read text n sought high room =
    let f : IsFaultyAt text n = faulty text n sought.bad in
    let l : StandsIn text n f = located text n f sought.before sought.early (omega (arith, high)) room in
    let wrong = fails text n f l.heading l.at in
    let has : HasHeaderTree l.heading = elim l.counted [
      | inl (at, e) ↦ absurd (omega (arith, at, high))
      | inr (far, has) ↦ has
    ] in
    (l.heading, wrong.0, wrong.1, heading_is text n f l.heading l.at has room)

ok_err : {A E : Type 0} (x : A) (f : E) → Ok x ≡ Err f → ⊥
ok_err x f e = cc

-- if the lines before it declare nothing
pub undeclared : (text : List ℕ) (n : ℕ) → IsInHeading text n → 3 < n → Heads (up_to n text) None
    → TRACE_MAX < length (up_to n text)
undeclared text n sought high (fault, is) = lt_of_not-le (λ room.
    (let l = later_read text n sought high room in
    ok_err (record { heading = l.0; entries = [] }) fault (sym l.3 ∙ is)))

-- or if it fits what they declare
pub declared_fits : (text : List ℕ) (n : ℕ) (h k : HeadingModel) → IsInHeading text n → 3 < n
    → Opens (up_to n text) h → head_step h (line_at n text) ≡ Ok k
    → TRACE_MAX < length (up_to n text)
declared_fits text n h k sought high opens fits = lt_of_not-le (λ room.
    (let l = later_read text n sought high room in
    let same : l.0 ≡ h = opens_one (up_to n text) h _ room opens l.3 in
    ok_err k l.1 (sym fits ∙ ap (λ (g : HeadingModel). head_step g (line_at n text)) (sym same) ∙ l.2)))
