-- A text is a script exactly if it is the canonical encoding of a header, blocks and a schedule.
use Rattle.std.proofs.Common.{◌≡◌, ℕ, ◌≤◌, List, [], ◌∷◌, map, true, refl, sym, ap, ap₂, ◌∙◌, subst}
use Rattle.std.specs.List.{AllByRecursion}
use Rattle.ec_count.specs.Members.{has_repeat}
use Rattle.ec_heading.specs.HeadingModel.{HeadingModel}
use Rattle.ec_heading.specs.HeaderTree.{HeaderTree, IsHeaderTree, heading_of_tree}
use Rattle.ec_script.specs.declared.block_item.BlockItem.{BlockItem}
use Rattle.ec_script.specs.ScriptModel.{PlanModel}
use Rattle.ec_script.specs.Grammar.{IsScript, IsLine}
use Rattle.ec_heading.specs.Spelling.{lines_text}
use Rattle.ec_script.specs.Layout.{IsLineOfItem, Block, IsBlock, items_of, workers_of, AreNested, commands_in, IsLayout, layout_lines, plan_of_tree, tree_of, blocks_of_items, IsLaidOut, LayoutsAreScripts, Layout, ScriptTree}
use Rattle.ec_script.specs.Spelling.{item_line, script_lines}
use Rattle.ec_script.specs.Given.{MayGive, IsGivenBlock, IsSpelling, ScriptsAreSpelled, IsScriptTree}
use Rattle.ec_script.proofs.Layouts.{laid_out}
use Rattle.ec_script.proofs.LayoutsLead.{layout_leads}
use Rattle.ec_script.proofs.Cleans.{spelled_lines}
use Rattle.ec_script.proofs.OrderLines.{layout_lines_are}
use Rattle.ec_script.proofs.Sayings.{lines_say}

-- WHAT LINES SAY IS ALLOWED

items_given : (o : HeaderTree) → IsHeaderTree o → (w : ℕ) (lines : List (List ℕ × BlockItem)) → AllByRecursion (λ (l : List ℕ × BlockItem). IsLineOfItem (heading_of_tree o) w l.0 l.1) lines → AllByRecursion (MayGive (heading_of_tree o) w) (items_of lines)
items_given o is w [] all = tt
items_given o is w (l ∷ lines) all = (((lines_say o w l.0 l.1 is).0 all.0).1, items_given o is w lines all.1)

blocks_given : (o : HeaderTree) → IsHeaderTree o → (blocks : List Block) → AllByRecursion (IsBlock (heading_of_tree o)) blocks → AllByRecursion (IsGivenBlock (heading_of_tree o)) (blocks_of_items blocks)
blocks_given o is [] all = tt
blocks_given o is (b ∷ blocks) all = (
  record { worker = all.0.worker; each = items_given o is b.worker b.lines all.0.each; nested = all.0.nested; few = all.0.few },
  blocks_given o is blocks all.1,
)

-- what a layout says
is_spelled : (l : Layout) → IsLayout l → IsScriptTree (tree_of l)
is_spelled l is = record {
  heading = is.heading;
  blocks = blocks_given l.outline is.heading l.blocks is.blocks;
  differ = is.differ;
  rows = is.rows;
  few = is.few;
}

spells : (bytes : List ℕ) (p : PlanModel) → IsScript bytes p → IsSpelling bytes p
spells bytes p script =
    let d : IsLaidOut bytes p = laid_out bytes p script in
    record {
      spelled = tree_of d.layout;
      is = is_spelled d.layout d.is;
      text = d.text ∙ ap lines_text (layout_lines_are d.layout d.is);
      within = d.within;
      plan = d.plan;
    }

-- its lines have no LF
pub is_script : LayoutsAreScripts
is_script bytes p d = layout_leads bytes p d (subst (AllByRecursion IsLine) (sym (layout_lines_are d.layout d.is)) (spelled_lines (tree_of d.layout) (is_spelled d.layout d.is)))

-- WHAT IS ALLOWED IS SAID BY LINES

-- an item with its line
abbrev lined : HeadingModel → List BlockItem → List (List ℕ × BlockItem)
lined h os = map (λ (o : BlockItem). (item_line h o, o)) os

abbrev lined_blocks : HeadingModel → List (ℕ × List BlockItem) → List Block
lined_blocks h blocks = map (λ (b : ℕ × List BlockItem). record { worker = b.0; lines = lined h b.1 }) blocks

items_again : (h : HeadingModel) (os : List BlockItem) → items_of (lined h os) ≡ os
items_again h [] = refl
items_again h (o ∷ os) = ap (λ (xs : List BlockItem). o ∷ xs) (items_again h os)

blocks_again : (h : HeadingModel) (blocks : List (ℕ × List BlockItem)) → blocks_of_items (lined_blocks h blocks) ≡ blocks
blocks_again h [] = refl
blocks_again h (b ∷ blocks) = ap₂ (λ (os : List BlockItem) (more : List (ℕ × List BlockItem)). (b.0, os) ∷ more) (items_again h b.1) (blocks_again h blocks)

lines_said : (o : HeaderTree) → IsHeaderTree o → (w : ℕ) (os : List BlockItem) → AllByRecursion (MayGive (heading_of_tree o) w) os → AllByRecursion (λ (l : List ℕ × BlockItem). IsLineOfItem (heading_of_tree o) w l.0 l.1) (lined (heading_of_tree o) os)
lines_said o is w [] all = tt
lines_said o is w (x ∷ os) all = ((lines_say o w (item_line (heading_of_tree o) x) x is).1 (refl, all.0), lines_said o is w os all.1)

blocks_said : (o : HeaderTree) → IsHeaderTree o → (blocks : List (ℕ × List BlockItem)) → AllByRecursion (IsGivenBlock (heading_of_tree o)) blocks → AllByRecursion (IsBlock (heading_of_tree o)) (lined_blocks (heading_of_tree o) blocks)
blocks_said o is [] all = tt
blocks_said o is (b ∷ blocks) all =
    let same : b.1 ≡ items_of (lined (heading_of_tree o) b.1) =
    sym (items_again (heading_of_tree o) b.1) in (
      record {
        worker = all.0.worker;
        each = lines_said o is b.0 b.1 all.0.each;
        nested = subst (AreNested 0 true) same all.0.nested;
        few = subst (λ (os : List BlockItem). commands_in os ≤ 4096) same all.0.few;
      },
      blocks_said o is blocks all.1,
    )

spelled_is_script : (bytes : List ℕ) (p : PlanModel) → IsSpelling bytes p → IsScript bytes p
spelled_is_script bytes p s =
    let again : blocks_of_items (lined_blocks (heading_of_tree s.spelled.outline) s.spelled.blocks) ≡ s.spelled.blocks = blocks_again (heading_of_tree s.spelled.outline) s.spelled.blocks in
    let is : IsLayout (record { outline = s.spelled.outline; blocks = lined_blocks (heading_of_tree s.spelled.outline) s.spelled.blocks; rows = s.spelled.rows }) = record {
      heading = s.is.heading;
      blocks = blocks_said s.spelled.outline s.is.heading s.spelled.blocks s.is.blocks;
      differ = ap (λ bs. has_repeat (workers_of bs)) again ∙ s.is.differ;
      rows = s.is.rows;
      few = s.is.few;
    } in
    let lines : script_lines s.spelled.outline s.spelled.blocks s.spelled.rows ≡ layout_lines (record { outline = s.spelled.outline; blocks = lined_blocks (heading_of_tree s.spelled.outline) s.spelled.blocks; rows = s.spelled.rows }) =
    sym (layout_lines_are (record { outline = s.spelled.outline; blocks = lined_blocks (heading_of_tree s.spelled.outline) s.spelled.blocks; rows = s.spelled.rows }) is ∙ ap (λ bs. script_lines s.spelled.outline bs s.spelled.rows) again) in
    is_script bytes p (record {
      layout = record { outline = s.spelled.outline; blocks = lined_blocks (heading_of_tree s.spelled.outline) s.spelled.blocks; rows = s.spelled.rows };
      is = is;
      text = s.text ∙ ap lines_text lines;
      within = s.within;
      plan = s.plan ∙ sym (ap (λ bs. plan_of_tree (record { outline = s.spelled.outline; blocks = bs; rows = s.spelled.rows })) again);
    })

pub scripts_spelled : ScriptsAreSpelled
scripts_spelled bytes p = (λ script. spells bytes p script, λ spelling. spelled_is_script bytes p spelling)
