use Rattle.std.proofs.Common.{◌≡◌, List, length}
use Rattle.std.specs.Vec.Iter.{into_iter_items, into_iter_len}
use Rattle.ec_core.specs.declared.act.Entry.{Entry}
use Rattle.ec_heading.specs.HeadingModel.{HeadingModel}
use Rattle.ec_walk.specs.kept.Each.{EachFrom}
use Rattle.evc_engine.specs.kept.Walks.{EndsFor, EachEndsFor}
use Rattle.evc_engine.proofs.shared.AuditLemmas.{EachIsAudited}
use Rattle.evc_engine.proofs.auditing.found_by.Given as goal

-- what was found of the groups so far, and the audits of the others
abbrev pub invariant-loop-group : goal.invariant-loop-group
invariant-loop-group l = record {
  few : l.group ≡ length l.found.items;
  long : into_iter_len l.rest ≡ length (into_iter_items l.rest);
  each : (h : HeadingModel) (entries : List Entry) → l.groups ≡ h.groups → EachEndsFor h entries l.fn.audits.items
      → EachIsAudited h entries l.found.items × EachFrom (λ g a. EndsFor h entries g a) h.groups l.group (into_iter_items l.rest);
}
