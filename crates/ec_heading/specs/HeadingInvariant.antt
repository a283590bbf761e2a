-- What is true of every header.
use Rattle.std.specs.Prelude.{◌≡◌, ◌⊎◌, ◌≤◌, []}
use Rattle.ec_heading.specs.HeadingModel.{HeadingModel}
use Rattle.ec_heading.specs.Versions.{greatest_limit}
use Rattle.ec_heading.specs.HeaderTree.{HeaderTree, IsHeaderTree, empty_heading, heading_of_tree}

-- the header is what some valid syntax tree declares
pub record HasHeaderTree (h : HeadingModel) : Type 0 where
  pub outline : HeaderTree
  pub is : IsHeaderTree outline
  pub declares : heading_of_tree outline ≡ h

-- either only a limit is set, one that the version allows, and the line of the workers comes next;
-- or a syntax tree declares the header
abbrev pub IsHeading : HeadingModel → Type 0
IsHeading h = ((h ≡ empty_heading h.version h.setup.limit []) × (h.setup.limit ≤ greatest_limit h.version)) ⊎ HasHeaderTree h
