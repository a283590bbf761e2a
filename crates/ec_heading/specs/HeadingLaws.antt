-- Theorems about headers: an encoding is read as what it encodes, nothing else is read, and so the
-- lines of a header are those of its syntax tree.
use Rattle.std.specs.Prelude.{◌≡◌, ℕ, ◌≤◌, List, [], ◌∷◌, map, Ok}
use Rattle.ec_heading.specs.declared.version.Version.{Version}
use Rattle.ec_heading.specs.Versions.{greatest_limit}
use Rattle.ec_heading.specs.HeadingModel.{HeadingModel}
use Rattle.ec_heading.specs.HeaderTree.{Declaration, HeaderTree, AreWorkers, IsDeclarable, IsHeaderTree, empty_heading, with_declaration, with_declarations, heading_of_tree}
use Rattle.ec_heading.specs.Spelling.{workers_line, declaration_line}
use Rattle.ec_heading.specs.Heading.{head_step}

-- ENCODINGS ARE READ

abbrev pub SpelledWorkersAreRead : Type 0
SpelledWorkersAreRead = (version : Version) (limit : ℕ) (workers : List (List ℕ)) → AreWorkers workers
    → head_step (empty_heading version limit []) (workers_line workers)
    ≡ Ok (empty_heading version limit workers)

abbrev pub SpelledDeclarationIsRead : Type 0
SpelledDeclarationIsRead = (version : Version) (limit : ℕ) (workers : List (List ℕ)) (before : List Declaration) (d : Declaration) → AreWorkers workers
    → IsDeclarable (with_declarations (empty_heading version limit workers) before) d
    → head_step (with_declarations (empty_heading version limit workers) before) (declaration_line workers d)
    ≡ Ok (with_declaration (with_declarations (empty_heading version limit workers) before) d)

-- WHAT IS READ IS AN ENCODING

-- the line is the encoding of these workers, and the header has them
pub record NamesWorkers (version : Version) (limit : ℕ) (line : List ℕ) (after : HeadingModel) : Type 0 where
  pub workers : List (List ℕ)
  pub are : AreWorkers workers
  pub spelled : line ≡ workers_line workers
  pub opens : after ≡ empty_heading version limit workers

abbrev pub ReadWorkersAreSpelled : Type 0
ReadWorkersAreSpelled = (version : Version) (limit : ℕ) (line : List ℕ) (after : HeadingModel)
    → head_step (empty_heading version limit []) line ≡ Ok after
    → NamesWorkers version limit line after

-- the line is the encoding of this declaration, which is allowed, and the header has it
pub record Declares (workers : List (List ℕ)) (before : HeadingModel) (line : List ℕ) (after : HeadingModel) : Type 0 where
  pub declaration : Declaration
  pub may : IsDeclarable before declaration
  pub spelled : line ≡ declaration_line workers declaration
  pub adds : after ≡ with_declaration before declaration

abbrev pub ReadDeclarationIsSpelled : Type 0
ReadDeclarationIsSpelled = (version : Version) (limit : ℕ) (workers : List (List ℕ)) (before : List Declaration) (line : List ℕ) (after : HeadingModel) → AreWorkers workers
    → head_step (with_declarations (empty_heading version limit workers) before) line ≡ Ok after
    → Declares workers (with_declarations (empty_heading version limit workers) before) line after

-- THE LINES OF A HEADER

-- these lines, added in order, lead from one header to another
abbrev pub LinesLead : HeadingModel → List (List ℕ) → HeadingModel → Type 0
LinesLead h [] end = h ≡ end
LinesLead h (line ∷ lines) end = (next : HeadingModel) × (head_step h line ≡ Ok next) × LinesLead next lines end

-- the line of the workers and the lines of the declarations
abbrev pub outline_lines : HeaderTree → List (List ℕ)
outline_lines o = workers_line o.workers ∷ map (declaration_line o.workers) o.declarations

abbrev pub OutlineLinesLead : Type 0
OutlineLinesLead = (o : HeaderTree) → IsHeaderTree o → LinesLead (empty_heading o.version o.limit []) (outline_lines o) (heading_of_tree o)

-- a syntax tree with this version and this limit has these lines, and the header is what it
-- declares
pub record Outlines (version : Version) (limit : ℕ) (lines : List (List ℕ)) (end : HeadingModel) : Type 0 where
  pub outline : HeaderTree
  pub is : IsHeaderTree outline
  pub version_is : outline.version ≡ version
  pub limit_is : outline.limit ≡ limit
  pub lines_are : lines ≡ outline_lines outline
  pub end_is : end ≡ heading_of_tree outline

abbrev pub LinesHaveAnOutline : Type 0
LinesHaveAnOutline = (version : Version) (limit : ℕ) (line : List ℕ) (lines : List (List ℕ)) (end : HeadingModel) → 1 ≤ limit → limit ≤ greatest_limit version
    → LinesLead (empty_heading version limit []) (line ∷ lines) end → Outlines version limit (line ∷ lines) end
