-- The calls of a worker's own steps.
use Rattle.std.proofs.Common.{◌≡◌, ℕ, Bool, true, false, ◌==◌, ◌&&◌, not, List, [], ◌∷◌, ◌++◌, Option, Some, None, is_some, cond, if◌then◌else◌, refl, sym, ◌∙◌, ap, subst, eqb-true, eq-eqb}
use Rattle.ec_count.specs.Tables.{Tables}
use Rattle.ec_core.specs.declared.act.Act.{Act}
use Rattle.ec_core.specs.declared.act.Act.TheVariants.{Advance, Read, Await, Go, Ticket, Put, Get, Hand}
use Rattle.ec_core.specs.declared.act.Entry.{Entry}
use Rattle.ec_core.specs.declared.act.Reply.{Reply}
use Rattle.ec_core.specs.Acceptance.{IsAccepted}
use Rattle.ec_core.specs.Calls.{CallSoFar, is_go, is_pending, call_with_act, under_way}
use Rattle.ec_core.specs.Following.{CompletedCall, opening_act}
use Rattle.ec_core.specs.JoinedLists.{completed_calls_of, op_of}
use Rattle.ec_core.proofs.shared.Answering.{allowed}
use Rattle.ec_machine.specs.Steps.{begun_by, opening, completed_calls, own}
use Rattle.ec_machine.specs.Laws.{OwnStepsAreCut}

begun_opened : (act : Act) (o : Option CallSoFar) → begun_by act (op_of o) ≡ opening_act act o
begun_opened Go None = refl
begun_opened Go (Some call) = refl
begun_opened (Advance e) o = refl
begun_opened (Read e) o = refl
begun_opened (Await e v) o = refl
begun_opened (Ticket q) o = refl
begun_opened (Put x v) o = refl
begun_opened (Get x) o = refl
begun_opened (Hand e b) o = refl

gone_opened : (act : Act) (past : List Entry) (o : Option CallSoFar) → (not (is_some o) && is_go act) ≡ false → op_of (call_with_act act past o) ≡ Some (opening_act act o)
gone_opened Go past None going = cc
gone_opened Go past (Some call) going = refl
gone_opened (Advance e) past o going = refl
gone_opened (Read e) past o going = refl
gone_opened (Await e v) past o going = refl
gone_opened (Ticket q) past o going = refl
gone_opened (Put x v) past o going = refl
gone_opened (Get x) past o going = refl
gone_opened (Hand e b) past o going = refl

cut_finished : (b : Bool) (mine theirs : List CompletedCall) (op other : Act) (reply : Reply) → mine ≡ theirs → op ≡ other
    → (if b then mine else mine ++ record { op = op; reply = reply } ∷ []) ≡ (if not b then theirs ++ record { op = other; reply = reply } ∷ [] else theirs)
cut_finished true mine theirs op other reply same alike = same
cut_finished false mine theirs op other reply same alike = ap (λ l. l ++ record { op = op; reply = reply } ∷ []) same ∙ ap (λ a. theirs ++ record { op = a; reply = reply } ∷ []) alike

cut_opening : (b : Bool) (op other : Act) (o : Option CallSoFar) → op ≡ other → op_of o ≡ Some other
    → (if b then Some op else None) ≡ op_of (if b then o else None)
cut_opening true op other o same is = ap (λ a. Some a) same ∙ sym is
cut_opening false op other o same is = refl

abbrev IsCut : ℕ → List Entry → Type 0
IsCut w past = (completed_calls (own w past) ≡ completed_calls_of w past) × (opening (own w past) ≡ op_of (under_way w past))

cut_own : (t : Tables) (w : ℕ) (x : Entry) (past : List Entry) → x.worker ≡ w → IsAccepted t (x ∷ past) → IsCut w past → IsCut w (x ∷ past)
unfolding completed_calls opening completed_calls_of under_way
cut_own t w x past is acc cut =
    let mine : (x.worker == w) ≡ true = eq-eqb x.worker w is in
    let going = subst (λ v. (not (is_some (under_way v past)) && is_go x.act) ≡ false) is (allowed t past x.worker x.act x.reply acc.0).0.going in
    let same : begun_by x.act (opening (own w past)) ≡ opening_act x.act (under_way w past) = ap (begun_by x.act) cut.1 ∙ begun_opened x.act (under_way w past) in (
      ap (λ b. completed_calls (cond b (x ∷ own w past) (own w past))) mine
          ∙ cut_finished (is_pending x.reply) (completed_calls (own w past)) (completed_calls_of w past) (begun_by x.act (opening (own w past))) (opening_act x.act (under_way w past)) x.reply cut.0 same
          ∙ ap (λ b. if b && not (is_pending x.reply) then completed_calls_of w past ++ record { op = opening_act x.act (under_way w past); reply = x.reply } ∷ [] else completed_calls_of w past) (sym mine),
      ap (λ b. opening (cond b (x ∷ own w past) (own w past))) mine
          ∙ cut_opening (is_pending x.reply) (begun_by x.act (opening (own w past))) (opening_act x.act (under_way w past)) (call_with_act x.act past (under_way w past)) same (gone_opened x.act past (under_way w past) going)
          ∙ ap (λ b. op_of (if b then (if is_pending x.reply then call_with_act x.act past (under_way w past) else None) else under_way w past)) (sym mine),
    )

cut_other : (w : ℕ) (x : Entry) (past : List Entry) → (x.worker == w) ≡ false → IsCut w past → IsCut w (x ∷ past)
unfolding completed_calls opening completed_calls_of under_way
cut_other w x past other cut = (
  ap (λ b. completed_calls (cond b (x ∷ own w past) (own w past))) other
      ∙ cut.0
      ∙ ap (λ b. if b && not (is_pending x.reply) then completed_calls_of w past ++ record { op = opening_act x.act (under_way w past); reply = x.reply } ∷ [] else completed_calls_of w past) (sym other),
  ap (λ b. opening (cond b (x ∷ own w past) (own w past))) other
      ∙ cut.1
      ∙ ap (λ b. op_of (if b then (if is_pending x.reply then call_with_act x.act past (under_way w past) else None) else under_way w past)) (sym other),
)

cut_if : (b : Bool) (t : Tables) (w : ℕ) (x : Entry) (past : List Entry) → (x.worker == w) ≡ b → IsAccepted t (x ∷ past) → IsCut w past → IsCut w (x ∷ past)
cut_if true t w x past is acc cut = cut_own t w x past (eqb-true x.worker w is) acc cut
cut_if false t w x past is acc cut = cut_other w x past is cut

-- in an accepted history the calls of a worker's own steps are its calls
pub own_cut : OwnStepsAreCut
unfolding completed_calls opening completed_calls_of under_way
own_cut t w [] acc = (refl, refl)
own_cut t w (x ∷ past) acc = cut_if (x.worker == w) t w x past refl acc (own_cut t w past acc.1)
