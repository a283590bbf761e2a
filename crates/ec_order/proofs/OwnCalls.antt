-- The completed calls of a worker are those that protocols speak of.
use Rattle.std.proofs.Common.{◌≡◌, ℕ, Bool, true, false, ◌==◌, ◌&&◌, not, List, [], ◌∷◌, ◌++◌, Option, Some, None, is_some, refl, sym, ap, ◌∙◌, subst, cond, map, reverse}
use Rattle.std.specs.List.{filter}
use Rattle.std.proofs.lemmas.Bool.{eq-eqb, eqb-true}
use Rattle.std.proofs.lemmas.List.{map-append, append-nil}
use Rattle.std.proofs.lemmas.List.Elements.{filter-append}
use Rattle.ec_count.specs.Tables.{Tables}
use Rattle.ec_core.specs.declared.act.Act.{Act}
use Rattle.ec_core.specs.declared.act.Act.TheVariants.{Advance, Read, Await, Go, Ticket, Put, Get, Hand}
use Rattle.ec_core.specs.declared.act.Reply.{Reply}
use Rattle.ec_core.specs.declared.act.Entry.{Entry}
use Rattle.ec_core.specs.Acceptance.{IsAccepted}
use Rattle.ec_core.specs.Calls.{CallSoFar, under_way, call_with_act, is_go, is_pending}
use Rattle.ec_core.specs.Following.{opening_act}
use Rattle.ec_core.specs.JoinedLists.{completed_calls_of}
use Rattle.ec_core.proofs.shared.Answering.{allowed}
use Rattle.ec_core.proofs.shared.FittingCalls.{finished_other, finished_same, finished_more}
use Rattle.ec_order.specs.declared.call.Call.{Call}
use Rattle.ec_order.specs.Calls.{call_of_entries, ended_by, finished_calls}
use Rattle.ec_order.specs.Laws.{op_and_reply, completed_by}
use Rattle.ec_core.proofs.shared.Stepping.{entry}

told_more : (w : ℕ) (xs ys : List Call) → completed_by w (xs ++ ys) ≡ completed_by w xs
    ++ completed_by w ys
told_more w xs ys =
    ap (map op_and_reply) (filter-append (λ (c : Call). c.worker == w) xs ys)
    ∙ map-append op_and_reply (filter (λ (c : Call). c.worker == w) xs) (filter (λ (c : Call). c.worker == w) ys)

told_if : (b : Bool) (c : Call)
    → map op_and_reply (cond b (c ∷ []) []) ≡ cond b (op_and_reply c ∷ []) []
told_if true c = refl
told_if false c = refl

one_told : (w : ℕ) (c : Call)
    → completed_by w (c ∷ []) ≡ cond (c.worker == w) (op_and_reply c ∷ []) []
one_told w c = told_if (c.worker == w) c

-- what another worker ends
ended_by_other : (t : Tables) (x : Entry) (w : ℕ) (o : Option CallSoFar) → (x.worker == w) ≡ false → completed_by w (ended_by t x o) ≡ []
ended_by_other t x w None other = refl
ended_by_other t x w (Some call) other =
    let c = call_of_entries t x call.op call.moments in
    let one_entry_calls : completed_by w (c ∷ []) ≡ [] = one_told w c ∙ ap (λ b. cond b (op_and_reply c ∷ []) []) other in
    elim (is_pending x.reply) as (λ b. completed_by w (cond b [] (c ∷ [])) ≡ []) [
      | true ↦ refl
      | false ↦ one_entry_calls
    ]

ended_pending : (t : Tables) (x : Entry) (o : Option CallSoFar) → is_pending x.reply ≡ true → ended_by t x o ≡ []
ended_pending t x None pending = refl
ended_pending t x (Some call) pending = ap (λ b. cond b [] (call_of_entries t x call.op call.moments ∷ [])) pending

ended_one : (t : Tables) (x : Entry) (op : Act) (moments : List (List Entry)) → is_pending x.reply ≡ false
    → completed_by x.worker (ended_by t x (Some (record { op = op; moments = moments }))) ≡ record { op = op; reply = x.reply } ∷ []
ended_one t x op moments final =
    let c = call_of_entries t x op moments in
    ap (λ b. completed_by x.worker (cond b [] (c ∷ []))) final
    ∙ one_told x.worker c
    ∙ ap (λ b. cond b (op_and_reply c ∷ []) []) (eq-eqb x.worker x.worker refl)

-- what its worker ends
ended_by_own : (t : Tables) (w : ℕ) (act : Act) (reply : Reply) (past : List Entry) (o : Option CallSoFar)
    → (not (is_some o) && is_go act) ≡ false → is_pending reply ≡ false
    → completed_by w (ended_by t (entry w act reply) (call_with_act act past o)) ≡ record { op = opening_act act o; reply = reply } ∷ []
ended_by_own t w (Advance e) reply past o going final = ended_one t (entry w (Advance e) reply) (Advance e) (past ∷ []) final
ended_by_own t w (Read e) reply past o going final = ended_one t (entry w (Read e) reply) (Read e) (past ∷ []) final
ended_by_own t w (Await e v) reply past o going final = ended_one t (entry w (Await e v) reply) (Await e v) (past ∷ []) final
ended_by_own t w Go reply past None going final = cc
ended_by_own t w Go reply past (Some call) going final = ended_one t (entry w Go reply) call.op (past ∷ call.moments) final
ended_by_own t w (Ticket q) reply past o going final = ended_one t (entry w (Ticket q) reply) (Ticket q) (past ∷ []) final
ended_by_own t w (Put x v) reply past o going final = ended_one t (entry w (Put x v) reply) (Put x v) (past ∷ []) final
ended_by_own t w (Get x) reply past o going final = ended_one t (entry w (Get x) reply) (Get x) (past ∷ []) final
ended_by_own t w (Hand e b) reply past o going final = ended_one t (entry w (Hand e b) reply) (Hand e b) (past ∷ []) final

abbrev AreTheirs : Tables → ℕ → List Entry → Type 0
AreTheirs t w past = completed_by w (finished_calls t past) ≡ completed_calls_of w past

one_more : (t : Tables) (w : ℕ) (x : Entry) (past : List Entry)
    → completed_by w (finished_calls t (x ∷ past)) ≡ completed_by w (finished_calls t past) ++ completed_by w (ended_by t x (call_with_act x.act past (under_way x.worker past)))
unfolding finished_calls
one_more t w x past = told_more w (finished_calls t past) (ended_by t x (call_with_act x.act past (under_way x.worker past)))

others : (t : Tables) (w : ℕ) (x : Entry) (past : List Entry) → (x.worker == w) ≡ false → AreTheirs t w past → AreTheirs t w (x ∷ past)
others t w x past other before =
    one_more t w x past
    ∙ ap (λ more. completed_by w (finished_calls t past) ++ more) (ended_by_other t x w (call_with_act x.act past (under_way x.worker past)) other)
    ∙ append-nil (completed_by w (finished_calls t past))
    ∙ before
    ∙ sym (finished_other w x past other)

own : (t : Tables) (x : Entry) (past : List Entry) → (not (is_some (under_way x.worker past)) && is_go x.act) ≡ false → AreTheirs t x.worker past → AreTheirs t x.worker (x ∷ past)
own t x past going before =
    let w = x.worker in
    let o = under_way w past in
    elim (is_pending x.reply) as (λ b. is_pending x.reply ≡ b → AreTheirs t w (x ∷ past)) [
      | true ↦ λ pending.
          one_more t w x past
          ∙ ap (λ more. completed_by w (finished_calls t past) ++ completed_by w more) (ended_pending t x (call_with_act x.act past o) pending)
          ∙ append-nil (completed_by w (finished_calls t past))
          ∙ before
          ∙ sym (finished_same x past pending)
      | false ↦ λ final.
          one_more t w x past
          ∙ ap (λ more. completed_by w (finished_calls t past) ++ more) (ended_by_own t w x.act x.reply past o going final)
          ∙ ap (λ calls. calls ++ record { op = opening_act x.act o; reply = x.reply } ∷ []) before
          ∙ sym (finished_more x past final)
    ] refl

calls_are_theirs : (t : Tables) (w : ℕ) (past : List Entry) → IsAccepted t past → AreTheirs t w past
unfolding finished_calls completed_calls_of
calls_are_theirs t w [] accepted = refl
calls_are_theirs t w (x ∷ past) accepted =
    let going = (allowed t past x.worker x.act x.reply accepted.0).0.going in
    elim (x.worker == w) as (λ b. (x.worker == w) ≡ b → AreTheirs t w (x ∷ past)) [
      | true ↦ λ same. subst (λ v. AreTheirs t v (x ∷ past)) (eqb-true x.worker w same) (own t x past going (calls_are_theirs t x.worker past accepted.1))
      | false ↦ λ other. others t w x past other (calls_are_theirs t w past accepted.1)
    ] refl

pub each_worker : (t : Tables) (h : List Entry) (w : ℕ) → IsAccepted t (reverse h) → AreTheirs t w (reverse h)
each_worker t h w accepted = calls_are_theirs t w (reverse h) accepted
