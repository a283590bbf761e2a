-- An upgraded header is what a syntax tree of version 2 declares.
use Rattle.std.proofs.Common.{◌≡◌, inl, inr, ℕ, ◌≤◌, List, [], ◌∷◌, refl, sym, ap, subst, ◌∙◌}
use Rattle.ec_heading.specs.declared.version.Version.{Version}
use Rattle.ec_heading.specs.Versions.{greatest_limit}
use Rattle.ec_heading.specs.HeadingModel.{HeadingModel}
use Rattle.ec_heading.specs.HeaderTree.{Declaration, HeaderTree, IsHeaderTree, AreDeclarable, empty_heading, with_declaration, with_declarations, heading_of_tree}
use Rattle.ec_heading.specs.HeadingInvariant.{IsHeading}
use Rattle.ec_heading.specs.Upgrade.{upgrade_heading, upgraded_outline}
use Rattle.ec_heading.proofs.shared.TreeFound.{limit_found, version_found}
use Rattle.ec_heading.proofs.shared.VersionFacts.{limit_grows}

upgraded_all : (h : HeadingModel) (ds : List Declaration) → with_declarations (upgrade_heading h) ds ≡ upgrade_heading (with_declarations h ds)
upgraded_all h [] = refl
upgraded_all h (d ∷ ds) = upgraded_all (with_declaration h d) ds

-- what an upgraded syntax tree declares is what the tree declares, upgraded
pub upgraded_headed : (o : HeaderTree)
    → heading_of_tree (upgraded_outline o) ≡ upgrade_heading (heading_of_tree o)
upgraded_headed o = upgraded_all (empty_heading o.version o.limit o.workers) o.declarations

declarable_too : (h : HeadingModel) (ds : List Declaration) → AreDeclarable h ds → AreDeclarable (upgrade_heading h) ds
declarable_too h [] may = tt
declarable_too h (d ∷ ds) may = (record { word = may.0.word; new = may.0.new; range = may.0.range; form = may.0.form; taken = may.0.taken }, declarable_too (with_declaration h d) ds may.1)

-- an upgraded syntax tree is valid
pub upgraded_is : (o : HeaderTree) → IsHeaderTree o → IsHeaderTree (upgraded_outline o)
upgraded_is o is = record {
  low = is.low;
  high = limit_grows o.version o.limit is.high;
  workers = is.workers;
  declarations =
      declarable_too (empty_heading o.version o.limit o.workers) o.declarations is.declarations;
}

-- so what is true of every header is true of an upgraded one
pub upgraded_heading : (h : HeadingModel) → IsHeading h → IsHeading (upgrade_heading h)
upgraded_heading h (inl (is, within)) = inl (ap upgrade_heading is, limit_grows h.version h.setup.limit within)
upgraded_heading h (inr has) = inr (record { outline = upgraded_outline has.outline; is = upgraded_is has.outline has.is; declares = upgraded_headed has.outline ∙ ap upgrade_heading has.declares })

-- THE LIMIT OF A HEADER

outline_within : (o : HeaderTree) → IsHeaderTree o → (heading_of_tree o).setup.limit ≤ greatest_limit (heading_of_tree o).version
outline_within o is = subst (λ (n : ℕ). n ≤ greatest_limit (heading_of_tree o).version) (sym (limit_found o)) (subst (λ (v : Version). o.limit ≤ greatest_limit v) (sym (version_found o)) is.high)

-- the limit of a header is one that its version allows
pub heading_within : (h : HeadingModel) → IsHeading h → h.setup.limit ≤ greatest_limit h.version
heading_within h (inl (is, within)) = within
heading_within h (inr has) = subst (λ (g : HeadingModel). g.setup.limit ≤ greatest_limit g.version) has.declares (outline_within has.outline has.is)
