-- The lines of a header are those of its syntax tree.
use Rattle.std.proofs.Common.{◌≡◌, ℕ, ◌≤◌, List, [], ◌∷◌, ◌++◌, Ok, map, refl, sym, ap, ap₂, subst, ◌∙◌}
use Rattle.ec_heading.specs.declared.version.Version.{Version}
use Rattle.ec_heading.specs.Versions.{greatest_limit}
use Rattle.ec_heading.specs.HeadingModel.{HeadingModel}
use Rattle.ec_heading.specs.HeaderTree.{Declaration, HeaderTree, AreWorkers, AreDeclarable, empty_heading, with_declaration, with_declarations}
use Rattle.ec_heading.specs.HeadingInvariant.{HasHeaderTree}
use Rattle.ec_heading.specs.Heading.{head_step}
use Rattle.ec_heading.specs.Spelling.{workers_line, declaration_line}
use Rattle.ec_heading.specs.HeadingLaws.{LinesLead, OutlineLinesLead, LinesHaveAnOutline, Outlines, NamesWorkers, Declares, outline_lines}
use Rattle.ec_heading.proofs.shared.Declarable.{Heads, heads_opened, heads_more}
use Rattle.ec_heading.proofs.ReadLines.{workers_read, line_declared}
use Rattle.ec_heading.proofs.SpelledLines.{workers_spelled, line_spelled}

declarations_lead : (ws : List (List ℕ)) (h : HeadingModel) (ds : List Declaration) → AreWorkers ws → Heads ws h → AreDeclarable h ds → LinesLead h (map (declaration_line ws) ds) (with_declarations h ds)
declarations_lead ws h [] are heads may = refl
declarations_lead ws h (d ∷ ds) are heads may =
    (with_declaration h d, line_declared ws are h heads d may.0, declarations_lead ws (with_declaration h d) ds are (heads_more ws h d heads) may.1)

-- the lines of a syntax tree, in order, lead from a header with only its limit to what it declares
pub outline_leads : OutlineLinesLead
outline_leads o is =
    (empty_heading o.version o.limit o.workers, workers_read o.version o.limit o.workers is.workers, declarations_lead o.workers (empty_heading o.version o.limit o.workers) o.declarations is.workers (heads_opened o.version o.limit o.workers) is.declarations)

-- these declarations have these lines
record Declared (ws : List (List ℕ)) (h : HeadingModel) (lines : List (List ℕ)) (end : HeadingModel) : Type 0 where
  declarations : List Declaration
  may : AreDeclarable h declarations
  lines_are : lines ≡ map (declaration_line ws) declarations
  end_is : end ≡ with_declarations h declarations

declared_along : (ws : List (List ℕ)) (h next : HeadingModel) (line : List ℕ) (lines : List (List ℕ)) (end : HeadingModel) → Declares ws h line next → Declared ws next lines end → Declared ws h (line ∷ lines) end
declared_along ws h next line lines end one rest = record {
  declarations = one.declaration ∷ rest.declarations;
  may = (one.may, subst (λ (g : HeadingModel). AreDeclarable g rest.declarations) one.adds rest.may);
  lines_are = ap₂ (λ (l : List ℕ) (ls : List (List ℕ)). l ∷ ls) one.spelled rest.lines_are;
  end_is = rest.end_is ∙ ap (λ (g : HeadingModel). with_declarations g rest.declarations) one.adds;
}

lead_declarations : (ws : List (List ℕ)) (h : HeadingModel) (lines : List (List ℕ)) (end : HeadingModel) → AreWorkers ws → Heads ws h → LinesLead h lines end → Declared ws h lines end
lead_declarations ws h [] end are heads leads = record { declarations = []; may = tt; lines_are = refl; end_is = sym leads }
lead_declarations ws h (line ∷ lines) end are heads (next, taken, leads) =
    let one : Declares ws h line next = line_spelled ws h heads line next are.some taken in
    declared_along ws h next line lines end one
    (lead_declarations ws next lines end are (subst (Heads ws) (sym one.adds) (heads_more ws h one.declaration heads)) leads)

-- lines that can follow the limit are those of a syntax tree, and lead to what it declares
pub leads_outline : LinesHaveAnOutline
leads_outline version limit line lines end low high (next, taken, leads) =
    let w : NamesWorkers version limit line next = workers_spelled version limit line next taken in
    let rest : Declared w.workers (empty_heading version limit w.workers) lines end =
    lead_declarations w.workers (empty_heading version limit w.workers) lines end w.are (heads_opened version limit w.workers) (subst (λ (g : HeadingModel). LinesLead g lines end) w.opens leads) in
    record {
      outline = record { version = version; limit = limit; workers = w.workers; declarations = rest.declarations };
      is = record { low = low; high = high; workers = w.are; declarations = rest.may };
      version_is = refl;
      limit_is = refl;
      lines_are = ap₂ (λ (l : List ℕ) (ls : List (List ℕ)). l ∷ ls) w.spelled rest.lines_are;
      end_is = rest.end_is;
    }

-- THE HEADER AFTER A LINE

-- one more line
lead_on : (h : HeadingModel) (lines : List (List ℕ)) (t : HeadingModel) (line : List ℕ) (u : HeadingModel) → LinesLead h lines t → head_step t line ≡ Ok u → LinesLead h (lines ++ line ∷ []) u
lead_on h [] t line u leads is = (u, subst (λ (g : HeadingModel). head_step g line ≡ Ok u) (sym leads) is, refl)
lead_on h (l ∷ lines) t line u leads is = (leads.0, leads.1, lead_on leads.0 lines t line u leads.2 is)

outlined : (version : Version) (limit : ℕ) (line : List ℕ) (lines : List (List ℕ)) (h : HeadingModel) → 1 ≤ limit → limit ≤ greatest_limit version → LinesLead (empty_heading version limit []) (line ∷ lines) h → HasHeaderTree h
outlined version limit line lines h low high leads =
    let o : Outlines version limit (line ∷ lines) h = leads_outline version limit line lines h low high leads in
    record { outline = o.outline; is = o.is; declares = sym o.end_is }

-- a header after the first line that follows a limit in range is what a syntax tree declares
pub named_outlined : (version : Version) (limit : ℕ) (line : List ℕ) (h : HeadingModel) → 1 ≤ limit → limit ≤ greatest_limit version → head_step (empty_heading version limit []) line ≡ Ok h → HasHeaderTree h
named_outlined version limit line h low high is = outlined version limit line [] h low high (h, is, refl)

-- if a header is what a syntax tree declares, so is the header after one more line
pub declared_outlined : (h : HeadingModel) (line : List ℕ) (t : HeadingModel) → HasHeaderTree h → head_step h line ≡ Ok t → HasHeaderTree t
declared_outlined h line t has is =
    let o : HeaderTree = has.outline in
    let leads = lead_on (empty_heading o.version o.limit []) (outline_lines o) h line t (subst (λ (g : HeadingModel). LinesLead (empty_heading o.version o.limit []) (outline_lines o) g) has.declares (outline_leads o has.is)) is in
    outlined o.version o.limit (workers_line o.workers) _ t has.is.low has.is.high leads
