-- Where faulty lines are.
use Rattle.std.proofs.Common.{◌≡◌, ◌∙◌, ℕ, ◌<◌, List, [], length, Option, Some, None, IfSome}
use Rattle.std.proofs.Common.{Ok, Err, ap, sym, subst}
use Rattle.std.specs.Prelude.{IfNone}
use Rattle.ec_heading.specs.HeadingModel.{HeadingModel}
use Rattle.ec_heading.specs.Heading.{head_step}
use Rattle.ec_heading.specs.HeaderTree.{empty_heading}
use Rattle.ec_heading.specs.declared.heading.HeadFault.{HeadFault}
use Rattle.ec_heading.specs.declared.version.Version.TheVariants.{One}
use Rattle.ec_trace.specs.declared.read.TheConstants.{TRACE_MAX}
use Rattle.ec_explain.specs.TextLines.{line_at}
use Rattle.evc_explain_engine.specs.BadLines.{Heads, IsInHeading, Opens, up_to}
use Rattle.evc_explain_engine.proofs.Sought.{declared_fits, third_fits, undeclared}

-- the lowest fault of the third line, as the line of the workers
pub workers_fail : (text line : List ℕ) (h : HeadingModel) (fault : HeadFault) (o : Option HeadFault) → h
    ≡ empty_heading One 1 [] → line ≡ line_at 3 text → o ≡ Some fault
    → IfSome o (λ f. head_step h line ≡ Err f) → head_step (empty_heading One 1 []) (line_at 3 text)
    ≡ Err fault
workers_fail text line h fault o is at some fails =
    let failed : head_step h line ≡ Err fault =
    subst (λ (p : Option HeadFault). IfSome p (λ f. head_step h line ≡ Err f)) some fails in
    ap (λ (k : HeadingModel). head_step k (line_at 3 text)) (sym is)
    ∙ ap (λ (l : List ℕ). head_step h l) (sym at) ∙ failed

-- the header that the lines before a line declare, which is unchanged
pub heading_opens : (text before : List ℕ) (n : ℕ) (h now : HeadingModel) (fault : HeadFault)
    (o : Option HeadFault) (found : Option HeadingModel) → before ≡ up_to n text → found ≡ Some h
    → Heads before found → o ≡ Some fault → IfSome o (λ f. now ≡ h)
    → Opens (up_to n text) now
heading_opens text before n h now fault o found is there opens some same =
    let stayed : now ≡ h = subst (λ (p : Option HeadFault). IfSome p (λ f. now ≡ h)) some same in
    let opened_h : Opens before h =
    subst (λ (p : Option HeadingModel). Heads before p) there opens in
    subst (λ (b : List ℕ). Opens b now) is (subst (Opens before) (sym stayed) opened_h)

-- and the lowest fault of the line after it
pub line_fails : (text line : List ℕ) (n : ℕ) (h now : HeadingModel) (fault : HeadFault)
    (o : Option HeadFault) → line ≡ line_at n text → o ≡ Some fault → IfSome o (λ f. now ≡ h)
    → IfSome o (λ f. head_step h line ≡ Err f) → head_step now (line_at n text) ≡ Err fault
line_fails text line n h now fault o at some same fails =
    let stayed : now ≡ h = subst (λ (p : Option HeadFault). IfSome p (λ f. now ≡ h)) some same in
    let failed : head_step h line ≡ Err fault =
    subst (λ (p : Option HeadFault). IfSome p (λ f. head_step h line ≡ Err f)) some fails in
    ap (λ (k : HeadingModel). head_step k (line_at n text)) stayed
    ∙ ap (λ (l : List ℕ). head_step h l) (sym at) ∙ failed

-- IF THERE IS NO ROOM AFTER THE LINES BEFORE

-- the third line fits
pub third_there : (text line : List ℕ) (h now : HeadingModel) (o : Option HeadFault)
    → h ≡ empty_heading One 1 []
    → line ≡ line_at 3 text → o ≡ None → IfNone o (head_step h line ≡ Ok now)
    → IsInHeading text 3 → TRACE_MAX < length (up_to 3 text)
third_there text line h now o is at none fits sought =
    let fitted : head_step h line ≡ Ok now =
    subst (λ (p : Option HeadFault). IfNone p (head_step h line ≡ Ok now)) none fits in
    third_fits text now sought (ap (λ (k : HeadingModel). head_step k (line_at 3 text)) (sym is)
    ∙ ap (λ (l : List ℕ). head_step h l) (sym at) ∙ fitted)

-- the lines before a line declare nothing
pub none_there : (text before : List ℕ) (n : ℕ) (found : Option HeadingModel)
    → before ≡ up_to n text
    → found ≡ None → Heads before found → IsInHeading text n → 3 < n
    → TRACE_MAX < length (up_to n text)
none_there text before n found is none heads sought high =
    undeclared text n sought high (subst (λ (b : List ℕ). Heads b None) is
    (subst (λ (p : Option HeadingModel). Heads before p) none heads))

-- a line fits what those before it declare
pub fits_there : (text before line : List ℕ) (n : ℕ) (h now : HeadingModel) (o : Option HeadFault)
    (found : Option HeadingModel) → before ≡ up_to n text → found ≡ Some h → Heads before found
    → line ≡ line_at n text → o ≡ None → IfNone o (head_step h line ≡ Ok now)
    → IsInHeading text n → 3 < n → TRACE_MAX < length (up_to n text)
fits_there text before line n h now o found is there heads at none fits sought high =
    let opens : Opens (up_to n text) h = subst (λ (b : List ℕ). Opens b h) is
    (subst (λ (p : Option HeadingModel). Heads before p) there heads) in
    let fitted : head_step h line ≡ Ok now =
    subst (λ (p : Option HeadFault). IfNone p (head_step h line ≡ Ok now)) none fits in
    declared_fits text n h now sought high opens
    (ap (λ (l : List ℕ). head_step h l) (sym at) ∙ fitted)
