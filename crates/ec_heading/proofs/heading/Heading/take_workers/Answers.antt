use Rattle.std.proofs.Common.{◌≡◌, ◌≤◌, ◌+◌, ◌++◌, ◌∙◌, ℕ, List, Option, Result, Ok, None, ap, ap₂, subst, sym, length}
use Rattle.ec_count.specs.Tables.{Tables}
use Rattle.ec_count.specs.declared.target.Target.{Target}
use Rattle.ec_count.proofs.shared.Named.{none_left}
use Rattle.ec_text.specs.Words.{words_of}
use Rattle.ec_heading.specs.Heading.{fault_or, opened_by}
use Rattle.ec_heading.specs.HeadingModel.{HeadingModel}
use Rattle.ec_heading.specs.HeaderTree.{empty_heading, number_names}
use Rattle.ec_heading.specs.Kinds.{workers_fault}
use Rattle.ec_heading.specs.declared.heading.HeadFault.{HeadFault}
use Rattle.ec_heading.proofs.shared.Standing.{opened_now, opens}
use Rattle.ec_heading.proofs.shared.Upgrades.{heading_within}
use Rattle.ec_heading.proofs.heading.Heading.take_workers.Goals as goal

pub invariant_of-self : goal.invariant_of-self
invariant_of-self c =
    let h : HeadingModel = record { version = c.self.inside.version; setup = c.self.inside.setup.value; names = c.self.inside.names; words = c.self.inside.words; groups = c.self.inside.groups.items; declarations = c.self.inside.declarations.items } in
    let ws = words_of c.in-Some.list.now in
    let e = c.in-Ok-name_workers.ensures in
    opens h c.in-Some.list.now c.add_workers.new.setup c.name_workers.new.names c.name_workers.new.words c.self.invariant
    (subst (λ (g : HeadingModel). g.setup.workers ≡ 0) (sym c.self.view_is) c.requires)
    (subst (λ (t : Tables). 1 ≤ t.limit) c.deref.ensures c.invariant.ensures.limit.0)
    (heading_within h c.self.invariant)
    (sym c.workers_fault.ensures ∙ none_left c.workers_fault.result c.in_default-workers_fault.not-Some)
    (c.add_workers.ensures ∙ ap₂ (λ (t : Tables) (n : ℕ). record t { workers = t.workers + n }) c.deref_mut.ensures.value c.count_words.ensures.count)
    (e.names ∙ ap (λ (names : List (List ℕ × Target)). names ++ number_names 0 ws) c.in-Ok.ensures)
    (e.words ∙ ap (λ (names : List (List ℕ × Target)). names ++ number_names 0 ws) c.in-Ok-new.ensures)

pub returns : goal.returns
returns c =
    let h : HeadingModel = record { version = c.self.inside.version; setup = c.self.inside.setup.value; names = c.self.inside.names; words = c.self.inside.words; groups = c.self.inside.groups.items; declarations = c.self.inside.declarations.items } in
    let old = c.args.self.now in
    let ws = words_of c.in-Some.list.now in
    let e = c.in-Ok-name_workers.ensures in
    let okay : HeadingModel → Result HeadingModel HeadFault = λ g. Ok g in
    ap (opened_by old.version old.setup.limit) (sym c.in-Some.ensures)
    ∙ ap (λ (o : Option HeadFault). fault_or o (empty_heading old.version old.setup.limit ws)) (sym c.workers_fault.ensures ∙ none_left c.workers_fault.result c.in_default-workers_fault.not-Some)
    ∙ ap (λ (g : HeadingModel). okay (empty_heading g.version g.setup.limit ws)) (sym c.self.view_is)
    ∙ ap okay (opened_now h ws c.add_workers.new.setup c.name_workers.new.names c.name_workers.new.words c.self.invariant
    (subst (λ (g : HeadingModel). g.setup.workers ≡ 0) (sym c.self.view_is) c.requires)
    (c.add_workers.ensures ∙ ap₂ (λ (t : Tables) (n : ℕ). record t { workers = t.workers + n }) c.deref_mut.ensures.value c.count_words.ensures.count)
    (e.names ∙ ap (λ (names : List (List ℕ × Target)). names ++ number_names 0 ws) c.in-Ok.ensures)
    (e.words ∙ ap (λ (names : List (List ℕ × Target)). names ++ number_names 0 ws) c.in-Ok-new.ensures))
