-- What a worker does in an accepted history it may do: it has the right to begin each of its calls.
use Rattle.std.proofs.Common.{◌≡◌, ℕ, Bool, true, false, not, ◌&&◌, ◌==◌, List, [], ◌∷◌, Option, Some, None, is_some, refl, ap, sym, ◌∙◌, subst}
use Rattle.std.proofs.lemmas.Bool.{eqb-true}
use Rattle.ec_count.specs.Tables.{Tables, component_of, may_observe, may_take, may_write, may_read, may_hand}
use Rattle.ec_count.specs.Members.{index_of}
use Rattle.ec_core.specs.declared.act.Act.{Act}
use Rattle.ec_core.specs.declared.act.Act.TheVariants.{Advance, Read, Await, Go, Ticket, Put, Get, Hand}
use Rattle.ec_core.specs.declared.act.Entry.{Entry}
use Rattle.ec_core.specs.Acceptance.{has_right, IsAccepted}
use Rattle.ec_core.specs.Calls.{CallSoFar, is_go, is_pending, call_with_act, under_way}
use Rattle.ec_core.specs.Following.{opening_act}
use Rattle.ec_core.specs.JoinedLists.{completed_calls_of}
use Rattle.ec_core.proofs.shared.Answering.{allowed}
use Rattle.ec_core.proofs.shared.Handing.{as_declared}
use Rattle.ec_script_theorems.proofs.Suiting.{AreAllowed, allowed_more}

-- the tables give w the right that the act needs; they don't say who signals an eventcount that may
-- be handed over
abbrev pub IsGranted : Tables → ℕ → Act → Type 0
IsGranted t w (Advance e) = may_hand t e ≡ false → is_some (component_of t e w) ≡ true
IsGranted t w (Read e) = may_observe t e w ≡ true
IsGranted t w (Await e v) = may_observe t e w ≡ true
IsGranted t w Go = Unit {0}
IsGranted t w (Ticket q) = may_take t q w ≡ true
IsGranted t w (Put x v) = may_write t x w ≡ true
IsGranted t w (Get x) = may_read t x w ≡ true
IsGranted t w (Hand e b) = Unit {0}

abbrev pub IsGrantedCall : Tables → ℕ → Option CallSoFar → Type 0
IsGrantedCall t w None = Unit {0}
IsGrantedCall t w (Some call) = IsGranted t w call.op

of_not : (b : Bool) → not b ≡ false → b ≡ true
of_not true is = refl
of_not false is = cc

granted_op : (t : Tables) (past : List Entry) (w : ℕ) (act : Act) (o : Option CallSoFar) → IsAccepted t past → has_right t past w act ≡ true → (not (is_some o) && is_go act) ≡ false → IsGrantedCall t w o
    → IsGranted t w (opening_act act o)
granted_op t past w Go None acc right going call = cc
granted_op t past w Go (Some k) acc right going call = call
granted_op t past w (Advance e) o acc right going call = λ fixed. ap (λ ws. is_some (index_of w ws)) (sym (as_declared t e past acc fixed)) ∙ right
granted_op t past w (Read e) o acc right going call = right
granted_op t past w (Await e v) o acc right going call = right
granted_op t past w (Ticket q) o acc right going call = right
granted_op t past w (Put x v) o acc right going call = right
granted_op t past w (Get x) o acc right going call = right
granted_op t past w (Hand e b) o acc right going call = tt

granted_going : (t : Tables) (past : List Entry) (w : ℕ) (act : Act) (o : Option CallSoFar) → IsGranted t w (opening_act act o) → IsGrantedCall t w (call_with_act act past o)
granted_going t past w Go None op = tt
granted_going t past w Go (Some k) op = op
granted_going t past w (Advance e) o op = op
granted_going t past w (Read e) o op = op
granted_going t past w (Await e v) o op = op
granted_going t past w (Ticket q) o op = op
granted_going t past w (Put x v) o op = op
granted_going t past w (Get x) o op = op
granted_going t past w (Hand e b) o op = op

-- w may begin each of its completed calls, and its pending one
abbrev pub AreGranted : Tables → ℕ → List Entry → Type 0
AreGranted t w past = AreAllowed (IsGranted t w) (completed_calls_of w past) × IsGrantedCall t w (under_way w past)

granted_if : (pending : Bool) (t : Tables) (w : ℕ) (x : Entry) (past : List Entry) → is_pending x.reply ≡ pending → (x.worker == w) ≡ true → IsGranted t w (opening_act x.act (under_way w past))
    → AreGranted t w past → AreGranted t w (x ∷ past)
unfolding completed_calls_of under_way
granted_if true t w x past is mine op before =
    rw (mine, is) (before.0, granted_going t past w x.act (under_way w past) op)
granted_if false t w x past is mine op before =
    rw (mine, is) (allowed_more (IsGranted t w) (completed_calls_of w past) (record { op = opening_act x.act (under_way w past); reply = x.reply } ∷ []) before.0 (op, tt), tt)

granted_other : (t : Tables) (w : ℕ) (x : Entry) (past : List Entry) → (x.worker == w) ≡ false → AreGranted t w past → AreGranted t w (x ∷ past)
unfolding completed_calls_of under_way
granted_other t w x past other before = rw other before

pub granted : (t : Tables) (w : ℕ) (past : List Entry) → IsAccepted t past → AreGranted t w past
unfolding completed_calls_of under_way
granted t w [] acc = (tt, tt)
granted t w (x ∷ past) acc =
    elim (x.worker == w) as (λ b. (x.worker == w) ≡ b → AreGranted t w (x ∷ past)) [
      | true ↦ λ mine.
          (let before = granted t w past acc.1 in
          let k = (allowed t past x.worker x.act x.reply acc.0).0 in
          let by : x.worker ≡ w = eqb-true x.worker w mine in
          let right : has_right t past w x.act ≡ true = subst (λ v. has_right t past v x.act ≡ true) by (of_not (has_right t past x.worker x.act) k.right) in
          let going : (not (is_some (under_way w past)) && is_go x.act) ≡ false = subst (λ v. (not (is_some (under_way v past)) && is_go x.act) ≡ false) by k.going in
          granted_if (is_pending x.reply) t w x past refl mine (granted_op t past w x.act (under_way w past) acc.1 right going before.1) before)
      | false ↦ λ other. granted_other t w x past other (granted t w past acc.1)
    ] refl
