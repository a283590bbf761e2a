-- The states of workers at the end.
use Rattle.std.proofs.Common.{◌≡◌, ◌∙◌, ℕ, ◌+◌, ◌<◌, ◌≤◌, List, [], ◌∷◌, ◌++◌, length, reverse, refl, sym, ap, arith}
use Rattle.std.proofs.Common.{false, subst, Option, Some, IfSome, Result, Ok, Err, IfOk, inr, Vec}
use Rattle.std.specs.declared.alloc.Global.{Global}
use Rattle.ec_heading.specs.Spelling.{NameTable}
use Rattle.std.specs.List.{All, list_any}
use Rattle.std.proofs.lemmas.List.Elements.{All-append}
use Rattle.ec_count.specs.Tables.{Tables}
use Rattle.ec_core.specs.declared.act.Entry.{Entry}
use Rattle.ec_machine.specs.declared.outcome.Outcome.{Outcome}
use Rattle.ec_runner.specs.declared.report.Report.{Report}
use Rattle.ec_runner.specs.Reported.{IsReport}
use Rattle.ec_script.specs.declared.plan.Plan.{Plan}
use Rattle.evc_explain_engine.specs.declared.worker_ends.End.{End}
use Rattle.evc_explain_engine.specs.WorkerEnds.{ends_from, can_continue}
use Rattle.evc_explain_engine.specs.Continuation.{Continues, AreFinalEnds, IsContinuationText, final_ends_text, ends_after}
use Rattle.evc_explain_engine.proofs.Continuing.{continues_more}

each_end : (t : Tables) (past : List Entry) (s : List ℕ) (w : ℕ) (os : List Outcome)
    → length (ends_from t past s w os) ≡ length os
each_end t past s w [] = refl
each_end t past s w (o ∷ os) = omega (arith, each_end t past s (w + 1) os)

-- there is a state of each worker
pub all_ends : (t : Tables) (past : List Entry) (s : List ℕ) (os : List Outcome)
    (old new : List End) → new ≡ old ++ ends_from t past s 0 os → old ≡ []
    → length new ≡ length os
all_ends t past s os old new is none =
    ap length is ∙ ap (λ (r : List End). length (r ++ ends_from t past s 0 os)) none
    ∙ each_end t past s 0 os

-- a schedule of declared workers stays one if it is continued
pub all_declared : (n m : ℕ) (own new : List ℕ) → m ≡ n → Continues n own new
    → All (λ w. w < n) own → All (λ w. w < m) new
all_declared n m own new same c all =
    subst (λ (k : ℕ). All (λ w. w < k) new) (sym same)
    (subst (All (λ w. w < n)) (sym c.1) (All-append (λ w. w < n) own c.0 all c.2))

-- the final states, if a longer schedule leaves no worker that can go on
pub comes_to : (p q : Plan) (schedule seen : List ℕ) (r : Report) (os : List Outcome)
    (es : List End) → q.heading ≡ p.heading → q.programs ≡ p.programs
    → Continues p.heading.setup.workers p.schedule.items q.schedule.items
    → schedule ≡ q.schedule.items
    → IsReport q.heading.setup q.programs.items q.schedule.items r → seen ≡ schedule
    → os ≡ r.outcomes.items → es ≡ ends_from r.run.setup (reverse r.run.entries) seen 0 os
    → list_any can_continue es ≡ false → AreFinalEnds p es
comes_to p q schedule seen r os es heading programs continues same report see out ends still =
    let all : es ≡ ends_after schedule r = rw (sym see, sym out) ends in (
      schedule,
      r,
      record {
        continues = rw same continues;
        report = rw (sym heading, sym programs, same) report;
        still = rw (sym all) still;
      },
      all,
    )

-- a schedule that is extended after its run continues the script's own one
pub goes_further : (p q : Plan) (before new : List ℕ) (r : Report) (os : List Outcome)
    → q.heading ≡ p.heading
    → Continues p.heading.setup.workers p.schedule.items q.schedule.items
    → before ≡ q.schedule.items
    → IsReport q.heading.setup q.programs.items q.schedule.items r → os ≡ r.outcomes.items
    → Continues (length os) before new
    → Continues p.heading.setup.workers p.schedule.items new
goes_further p q before new r os heading continues same report out further =
    let declared : q.heading.setup.workers ≡ p.heading.setup.workers = rw heading refl in
    let all : length os ≡ p.heading.setup.workers =
    ap length out ∙ report.outcomes.each ∙ declared in
    continues_more p.heading.setup.workers p.schedule.items q.schedule.items new continues
    (subst (λ (k : ℕ). Continues k q.schedule.items new) all
    (subst (λ (b : List ℕ). Continues (length os) b new) same further))

-- and so does one that is cut
pub still_continues : (p q : Plan) (new : List ℕ) (first : ℕ) → q.heading ≡ p.heading
    → first ≡ length p.schedule.items
    → Continues p.heading.setup.workers p.schedule.items q.schedule.items
    → ((own : List ℕ) → length own ≡ first
    → Continues q.heading.setup.workers own q.schedule.items
    → Continues q.heading.setup.workers own new)
    → Continues p.heading.setup.workers p.schedule.items new
still_continues p q new first heading long continues cut =
    let own = p.schedule.items in
    let declared : q.heading.setup.workers ≡ p.heading.setup.workers = rw heading refl in
    subst (λ (k : ℕ). Continues k own new) declared
    (cut own (sym long)
    (subst (λ (k : ℕ). Continues k own q.schedule.items) (sym declared) continues))

-- there are at most as many states as workers
pub few_ends : (p q : Plan) (r : Report) (os : List Outcome) (es : List End)
    → q.heading ≡ p.heading → p.heading.setup.workers ≤ 16
    → IsReport q.heading.setup q.programs.items q.schedule.items r → os ≡ r.outcomes.items
    → length es ≡ length os → length es ≤ 16
few_ends p q r os es heading few report out each =
    let declared : q.heading.setup.workers ≡ p.heading.setup.workers = rw heading refl in
    let all : length es ≡ p.heading.setup.workers =
    each ∙ ap length out ∙ report.outcomes.each ∙ declared in
    omega (arith, all, few)

-- what holds of an optional value, if there is one, holds of the value
pub given : {X : Type 0} (o : Option X) (x : X) → o ≡ Some x → (P : X → Type 0) → IfSome o P
    → P x
given o x is P so = subst (λ k. IfSome k P) is so

-- what is written beyond the schedule of a script
pub says_beyond : {E : Type 0} (p : Plan) (words : NameTable) (es seen : List End)
    (r : Result (Vec ℕ Global) E) → AreFinalEnds p es → seen ≡ es → words ≡ p.heading.words
    → IfOk r (λ bytes. bytes.items ≡ final_ends_text words seen)
    → IfOk r (λ bytes. IsContinuationText p bytes.items)
says_beyond p words es seen (Ok bytes) left see same explanation =
    inr (es, left, rw (sym see, sym same) explanation)
says_beyond p words es seen (Err e) left see same explanation = tt
