-- What is written in version 2.
use Rattle.std.proofs.Common.{◌≡◌, inl, ℕ, List, ◌++◌, Option, Ok, refl, sym, ap, ◌∙◌}
use Rattle.ec_core.specs.declared.act.Entry.{Entry}
use Rattle.ec_heading.specs.declared.version.Version.{Version}
use Rattle.ec_heading.specs.declared.version.Version.TheVariants.{Two}
use Rattle.ec_heading.specs.HeadingModel.{HeadingModel}
use Rattle.ec_heading.specs.HeaderTree.{HeaderTree, heading_of_tree}
use Rattle.ec_heading.specs.Spelling.{trace_header, trace_text}
use Rattle.ec_heading.specs.Upgrade.{upgrade_heading, upgraded_outline}
use Rattle.ec_heading.proofs.shared.TreeFound.{version_found}
use Rattle.ec_heading.proofs.shared.Upgrades.{upgraded_headed}
use Rattle.ec_trace.specs.TraceModel.{TraceModel}
use Rattle.ec_trace.specs.ReadingLaws.{UpgradesTo}
use Rattle.ec_trace.proofs.shared.UpgradedTraces.{traces_are_upgraded}
use Rattle.evc_engine.specs.declared.status.Status.{Status}
use Rattle.evc_engine.specs.declared.status.Status.TheVariants.{Done, InputOutput}
use Rattle.ec_heading.specs.declared.group.Group.{Group}
use Rattle.ec_heading.specs.declared.group.Group.TheVariants as groups
use Rattle.evc_engine.specs.declared.audit_result.AuditResult.{AuditResult}
use Rattle.evc_engine.specs.declared.audit_result.AuditResult.TheVariants as audits
use Rattle.evc_engine.specs.AuditTexts.{audit_text, groups_lines}
use Rattle.evc_engine.specs.Audits.{IsFound}
use Rattle.evc_engine.specs.Texts.{check_text}
use Rattle.evc_engine.specs.Checks.{Outputs, ReadsAs}
use Rattle.evc_engine.specs.Upgrades.{Rewrites, IsUpgraded, Upgrades, TextsHaveNoVersion}

-- what the audit of a group finds does not depend on the version
found_alike : (h : HeadingModel) (v : Version) (entries : List Entry) (g : Group) (a : AuditResult) → IsFound h entries g a → IsFound (record h { version = v }) entries g a
found_alike h v entries (groups.Buffer b) (audits.Deliveries list) p = p
found_alike h v entries (groups.Database d) (audits.Versions list) p = p
found_alike h v entries (groups.Semaphore s) (audits.Balances m n) p = p
found_alike h v entries (groups.Both c) (audits.Pairs m n list) p = p
found_alike h v entries g a p = p

-- the text of `check` depends only on the declarations and the history
checked_same : (h : HeadingModel) (v : Version) (entries : List Entry) → check_text (record h { version = v }) entries ≡ check_text h entries
unfolding check_text
checked_same h v entries = refl

told_same : (h : HeadingModel) (v : Version) (found : List AuditResult) → audit_text (record h { version = v }) found ≡ audit_text h found
unfolding audit_text groups_lines
told_same h v found = refl

pub texts_same : TextsHaveNoVersion
texts_same h v entries = record {
  checked = checked_same h v entries;
  found = λ found p. record { all = p.all; each = λ i g a at got. (let q = p.each i g a at got in (q.0, found_alike h v entries g a q.1)) };
  returned = told_same h v;
  broken = λ i w k p. record { group = p.group; is = p.is; before = p.before; breaks = p.breaks };
  noted = λ i w k. refl;
}

-- the text of a trace in version 2
abbrev pub text_in_two : (bytes : List ℕ) (t : TraceModel) → ReadsAs bytes t → List ℕ
text_in_two bytes t reads = trace_text (upgraded_outline reads.trace.outline) t.entries

pub is_upgraded : (bytes : List ℕ) (t : TraceModel) (reads : ReadsAs bytes t) → IsUpgraded bytes (text_in_two bytes t reads) t
is_upgraded bytes t reads =
    let o : HeaderTree = reads.trace.outline in
    let u : UpgradesTo bytes (trace_text (upgraded_outline reads.trace.outline) t.entries) reads.trace.outline t.entries = traces_are_upgraded bytes reads.trace.outline t.entries reads.trace.trace in
    record {
      from = reads;
      to = record {
        trace = record { outline = upgraded_outline reads.trace.outline; trace = u.trace; declares = upgraded_headed reads.trace.outline ∙ ap upgrade_heading reads.trace.declares };
        returned = u.returned ∙ ap (λ (h : HeadingModel). Ok (record { heading = upgrade_heading h; entries = t.entries })) reads.trace.declares;
      };
      behind = u.behind;
      was = u.was ∙ ap (λ (w : Version). trace_header w ++ u.behind) (sym (version_found reads.trace.outline) ∙ ap (λ (h : HeadingModel). h.version) reads.trace.declares);
      is_now = u.is_now;
      as_long = u.as_long;
      as_it_was = λ e. u.as_it_was (sym (version_found reads.trace.outline) ∙ ap (λ (h : HeadingModel). h.version) reads.trace.declares ∙ e);
      checked_alike = (texts_same t.heading Two t.entries).checked;
    }

-- a trace that was read, and written in version 2
pub upgraded_so : (bytes : List ℕ) (left : Option (List ℕ)) (t : TraceModel) (status : Status) (old new : Outputs) → ReadsAs bytes t → Rewrites t status old new → Upgrades bytes left status old new
upgraded_so bytes left t Done old new reads ends =
    (t, text_in_two bytes t reads, is_upgraded bytes t reads, ends.0 reads.trace.outline reads.trace.trace.heading reads.trace.declares, ends.1)
upgraded_so bytes left t InputOutput old new reads ends =
    inl (t, text_in_two bytes t reads, is_upgraded bytes t reads, ends.0 reads.trace.outline reads.trace.trace.heading reads.trace.declares, ends.1)
upgraded_so bytes left t status old new reads ends = absurd ends

-- an upgraded syntax tree declares the upgraded header, so what is written for that header is its
-- trace
pub headed_so : (o : HeaderTree) (h : HeadingModel) → heading_of_tree o ≡ h
    → heading_of_tree (upgraded_outline o) ≡ upgrade_heading h
headed_so o h is = upgraded_headed o ∙ ap upgrade_heading is
