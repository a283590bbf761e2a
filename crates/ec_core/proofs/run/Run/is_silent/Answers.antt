use Rattle.std.proofs.Common.{◌≡◌, ◌∙◌, ◌++◌, ◌∷◌, [], List, true, false, ap, sym}
use Rattle.std.proofs.lemmas.List.{append-nil}
use Rattle.std.specs.List.{list_any}
use Rattle.ec_count.specs.Tables.{is_silent}
use Rattle.ec_core.specs.declared.act.Entry.{Entry}
use Rattle.ec_core.specs.Silence.{hands_to}
use Rattle.ec_core.proofs.Silences.{silent_by_entries, silent_declared, receiver_speaks}
use Rattle.ec_core.proofs.run.Run.is_silent.Goals as goal

pub returns-then-not-is_silent : goal.returns-then-not-is_silent
returns-then-not-is_silent c =
    let same : c.is_silent.result ≡ is_silent c.args.self.now.setup c.args.worker = c.is_silent.ensures ∙ ap (λ t. is_silent t c.args.worker) c.setup.ensures in
    (λ yes. cc, λ silent. (let bad : false ≡ true = sym c.if-not-is_silent.true ∙ same ∙ silent_declared c.args.self.now.setup c.args.self.now.entries c.args.worker silent in cc))

pub returns-then-hands_to : goal.returns-then-hands_to
returns-then-hands_to c =
    let run = c.args.self.now in
    let x = c.in-Some.entry in
    let order : c.loop-entry.yielded ++ x ∷ c.next.new.self ≡ run.entries = ap (λ (r : List Entry). c.loop-entry.yielded ++ r) (sym c.in-Some.ensures.steps) ∙ c.loop-entry.invariant.order in
    let to : hands_to c.args.worker x.act ≡ true = sym c.hands_to.ensures ∙ c.if-hands_to.true in
    (λ yes. cc, λ silent. absurd (receiver_speaks run.setup run.entries c.loop-entry.yielded c.next.new.self x c.args.worker c.invariant.ensures.accepted order to silent))

pub returns : goal.returns
returns c =
    let run = c.args.self.now in
    let same : c.is_silent.result ≡ is_silent run.setup c.args.worker = c.is_silent.ensures ∙ ap (λ t. is_silent t c.args.worker) c.setup.ensures in
    let rest : c.loop-entry.yielded ++ [] ≡ run.entries = ap (λ (r : List Entry). c.loop-entry.yielded ++ r) (sym c.in-None.ensures.steps.0) ∙ c.loop-entry.invariant.order in
    let whole : c.loop-entry.yielded ≡ run.entries = sym (append-nil c.loop-entry.yielded) ∙ rest in
    let none : list_any (λ (x : Entry). hands_to c.args.worker x.act) run.entries ≡ false = ap (list_any (λ (x : Entry). hands_to c.args.worker x.act)) (sym whole) ∙ c.loop-entry.invariant.none in
    (λ yes. silent_by_entries run.setup run.entries c.args.worker (sym same ∙ c.if-not-is_silent.false) none, λ silent. cc)
