-- A worker whose program's commands suit its rule is right by the rule.
use Rattle.std.proofs.Common.{◌≡◌, ℕ, ◌<◌, ◌≤◌, Bool, true, false, ◌==◌, nat_lt, nat_le, cond, arith, reverse, List, [], ◌∷◌, ◌++◌, Option, Some, None, if◌then◌else◌, refl, sym, ◌∙◌, ap, subst}
use Rattle.std.specs.List.{flat_map}
use Rattle.std.specs.List.{AllByRecursion}
use Rattle.std.proofs.lemmas.List.Elements.{recursion_from_All}
use Rattle.std.proofs.lemmas.Bool.{eqb-true, ltb-true, ltb-false, leb-false}
use Rattle.ec_count.specs.Tables.{Tables}
use Rattle.ec_core.specs.declared.act.Act.{Act}
use Rattle.ec_core.specs.declared.act.Entry.{Entry}
use Rattle.ec_core.specs.Acceptance.{IsAccepted}
use Rattle.ec_core.specs.Calls.{CallSoFar, under_way}
use Rattle.ec_core.specs.Following.{CompletedCall, Rule, block, Follow}
use Rattle.ec_core.specs.JoinedLists.{completed_calls_of, op_of}
use Rattle.ec_core.proofs.shared.FittingCalls.{is_fitting, list_after, AreFitting, after_more, fitting_more, block_is, IsFittingCall, FitsAlone, follow_alone}
use Rattle.ec_machine.specs.declared.command.Command.{Command}
use Rattle.ec_machine.specs.Values.{has_large}
use Rattle.ec_machine.specs.Unrolled.{unroll}
use Rattle.ec_core.proofs.shared.Answering.{allowed}
use Rattle.ec_machine.specs.Steps.{own, IsRun}
use Rattle.ec_machine.specs.Runs.{command_call, last_number, next_in, program_call, IsRunOf}
use Rattle.ec_machine.specs.Laws.{AreWhole, IsProgramPrefix, AreCallsOf}
use Rattle.ec_machine.proofs.shared.WholeLists.{runs_of_lists}
use Rattle.ec_machine.proofs.shared.OwnCalls.{own_cut}
use Rattle.ec_script_theorems.specs.Uses.{EachCommand, AreRuns}
use Rattle.ec_script_theorems.proofs.Suiting.{AreAllowed, allowed_front, allowed_back, asked_all, Suits, suited}
use Rattle.ec_script_theorems.proofs.Granted.{IsGranted, IsGrantedCall, granted}

-- the calls of each of the commands suit the rule, whatever number was returned before them
abbrev pub AllSuit : (Act → Type 0) → Rule → List Command → Type 0
AllSuit may r cs = AllByRecursion (λ c. (last : ℕ) → Suits may r (command_call last c)) cs

-- WHOLE LISTS

abbrev joined : List (List CompletedCall) → List CompletedCall
joined lists = flat_map (λ b. b) lists

-- calls that fit and leave no list begun
abbrev AreRight : Rule → List CompletedCall → Type 0
AreRight r calls = AreFitting r [] calls × (list_after r [] calls ≡ [])

right_more : (r : Rule) (xs ys : List CompletedCall) → AreRight r xs → AreRight r ys
    → AreRight r (xs ++ ys)
right_more r xs ys a b = (
  fitting_more r [] xs ys a.0 (subst (λ z. AreFitting r z ys) (sym a.1) b.0),
  after_more r [] xs ys ∙ ap (λ z. list_after r z ys) a.1 ∙ b.1,
)

whole_right : (may : Act → Type 0) (r : Rule) (last : ℕ) (done rest : List Command) (lists : List (List CompletedCall)) → AllSuit may r (done ++ rest) → AreWhole last done lists
    → AreAllowed may (joined lists) → AreRight r (joined lists) × AllSuit may r rest
whole_right may r last [] rest [] suits whole allowed = ((tt, refl), suits)
whole_right may r last [] rest (b ∷ lists) suits whole allowed = absurd whole
whole_right may r last (c ∷ done) rest [] suits whole allowed = absurd whole
whole_right may r last (c ∷ done) rest (b ∷ lists) suits whole allowed =
    let asked = asked_all (command_call last c) b whole.0.asked in
    let here = allowed_front may b (joined lists) allowed in
    let more = whole_right may r (last_number last b) done rest lists suits.1 whole.1 (allowed_back may b (joined lists) allowed) in
    (right_more r b (joined lists) (suited may r (command_call last c) b (suits.0 last) asked here, (suits.0 last).ends b asked here whole.0.whole) more.0, more.1)

-- THE LIST THAT IS BEGUN

unlarge : (b : Bool) (o : Option Act) (op : Act) → (if b then None else o) ≡ Some op → o ≡ Some op
unlarge true o op is = cc
unlarge false o op is = is

-- the calls fit, and so does the next one that the worker may begin
record IsGoing (may : Act → Type 0) (r : Rule) (calls : List CompletedCall) (next : Option Act) : Type 0 where
  fits : AreFitting r [] calls
  goes : (op : Act) → next ≡ Some op → may op → is_fitting r (list_after r [] calls) op ≡ true

begun_right : (may : Act → Type 0) (r : Rule) (last : ℕ) (left : List Command) (calls : List CompletedCall) → AllSuit may r left → IsProgramPrefix last left calls → AreAllowed may calls
    → IsGoing may r calls (next_in left last calls)
begun_right may r last [] calls suits begun allowed = record {
  fits = subst (AreFitting r []) (sym begun) tt;
  goes = λ op is may_op. (let no : None ≡ Some op = is in cc);
}
begun_right may r last (c ∷ left) calls suits begun allowed =
    let asked = asked_all (command_call last c) calls begun.asked in
    record {
      fits = suited may r (command_call last c) calls (suits.0 last) asked allowed;
      goes = λ op is may_op. (suits.0 last).next calls op asked allowed may_op (unlarge (has_large last c) (command_call last c calls) op is);
    }

-- A WHOLE RUN

calls_right : (may : Act → Type 0) (r : Rule) (cs : List Command) (calls : List CompletedCall) → AllSuit may r (unroll cs) → AreCallsOf cs calls → AreAllowed may calls
    → IsGoing may r calls (program_call cs calls)
calls_right may r cs calls suits of allowed =
    let parted : AreAllowed may (joined of.lists ++ of.last) = subst (AreAllowed may) of.order allowed in
    let whole = whole_right may r 0 of.done of.left of.lists (subst (AllSuit may r) of.commands suits) of.whole (allowed_front may (joined of.lists) of.last parted) in
    let last = begun_right may r (last_number 0 (joined of.lists)) of.left of.last whole.1 of.begun (allowed_back may (joined of.lists) of.last parted) in
    let after : list_after r [] calls ≡ list_after r [] of.last =
    ap (list_after r []) of.order ∙ after_more r [] (joined of.lists) of.last ∙ ap (λ z. list_after r z of.last) whole.0.1 in
    let fits : AreFitting r [] (joined of.lists ++ of.last) =
    fitting_more r [] (joined of.lists) of.last whole.0.0 (subst (λ z. AreFitting r z of.last) (sym whole.0.1) last.fits) in
    record {
      fits = subst (AreFitting r []) (sym of.order) fits;
      goes = λ op is may_op. ap (λ b. is_fitting r b op) after ∙ last.goes op (sym of.next ∙ is) may_op;
    }

going_call : (may : Act → Type 0) (r : Rule) (b : List CompletedCall) (next : Option Act) (o : Option CallSoFar) → ((op : Act) → op_of o ≡ Some op → (next ≡ Some op) × may op)
    → ((op : Act) → next ≡ Some op → may op → is_fitting r b op ≡ true) → IsFittingCall r b o
going_call may r b next None due goes = tt
going_call may r b next (Some call) due goes = let k = due call.op refl in goes call.op k.0 k.1

granted_call : (t : Tables) (w : ℕ) (o : Option CallSoFar) → IsGrantedCall t w o → (op : Act) → op_of o ≡ Some op → IsGranted t w op
granted_call t w None call op is = (let no : None ≡ Some op = is in cc)
granted_call t w (Some k) call op is = (let same : Some k.op ≡ Some op = is in subst (IsGranted t w) (let e : k.op ≡ op = cc in e) call)

worker_fits : (t : Tables) (r : Rule) (w : ℕ) (cs : List Command) (past : List Entry) → IsAccepted t past → AllSuit (IsGranted t w) r (unroll cs) → IsRunOf cs (own w past) → FitsAlone r w past
worker_fits t r w cs past acc suits run =
    let cut = own_cut t w past acc in
    let of = runs_of_lists cs (own w past) run in
    let may = granted t w past acc in
    let going = calls_right (IsGranted t w) r cs (completed_calls_of w past) suits (subst (AreCallsOf cs) cut.0 of.0) may.0 in
    let b : block r w past ≡ list_after r [] (completed_calls_of w past) = block_is r w past in
    record {
      calls = going.fits;
      going = subst (λ z. IsFittingCall r z (under_way w past)) (sym b)
          (going_call (IsGranted t w) r (list_after r [] (completed_calls_of w past)) (program_call cs (completed_calls_of w past)) (under_way w past)
          (λ op is. (ap (program_call cs) (sym cut.0) ∙ of.1 op (cut.1 ∙ is), granted_call t w (under_way w past) may.1 op is))
          going.goes);
    }

suit_all : (may : Act → Type 0) (r : Rule) (P : Command → Type 0) (cs : List Command) → ((c : Command) → P c → (last : ℕ) → Suits may r (command_call last c)) → AllByRecursion P cs → AllSuit may r cs
suit_all may r P [] each all = tt
suit_all may r P (c ∷ cs) each all = (each c all.0, suit_all may r P cs each all.1)

-- a worker that is not declared has no entries
undeclared_own : (t : Tables) (w : ℕ) (past : List Entry) → IsAccepted t past → nat_lt w t.workers ≡ false → own w past ≡ []
undeclared_own t w [] acc none = refl
undeclared_own t w (x ∷ past) acc none =
    elim (x.worker == w) as (λ b. (x.worker == w) ≡ b → cond b (x ∷ own w past) (own w past) ≡ []) [
      | true ↦ λ mine.
          (let known : nat_le t.workers x.worker ≡ false = (allowed t past x.worker x.act x.reply acc.0).0.declared in
          let low : x.worker < t.workers = leb-false t.workers x.worker known in
          let high : t.workers ≤ w = ltb-false w t.workers none in
          let same : x.worker ≡ w = eqb-true x.worker w mine in
          absurd (omega arith))
      | false ↦ λ other. undeclared_own t w past acc.1 none
    ] refl

idle_run : (past : List Entry) → past ≡ [] → IsRunOf [] past
unfolding IsRun
idle_run past none = subst (IsRunOf []) (sym none) tt

-- if the commands of each declared worker's program suit its rule, what the programs did follows the rules
pub programs_follow : (t : Tables) (rules : ℕ → Rule) (P : Command → Type 0) (programs : ℕ → List Command) (h : List Entry) → IsAccepted t (reverse h)
    → ((w last : ℕ) (c : Command) → P c → Suits (IsGranted t w) (rules w) (command_call last c)) → EachCommand t P programs → AreRuns t programs h → Follow rules (reverse h)
programs_follow t rules P programs h acc suits each runs =
    follow_alone rules t (reverse h) acc (λ w.
    elim (nat_lt w t.workers) as (λ b. nat_lt w t.workers ≡ b → FitsAlone (rules w) w (reverse h)) [
      | true ↦ λ is.
          (let lt : w < t.workers = ltb-true w t.workers is in
          worker_fits t (rules w) w (programs w) (reverse h) acc
          (suit_all (IsGranted t w) (rules w) P (unroll (programs w)) (λ c uses last. suits w last c uses) (recursion_from_All P (unroll (programs w)) (each w lt)))
          (runs w lt))
      | false ↦ λ is. worker_fits t (rules w) w [] (reverse h) acc tt (idle_run (own w (reverse h)) (undeclared_own t w (reverse h) acc is))
    ] refl)
