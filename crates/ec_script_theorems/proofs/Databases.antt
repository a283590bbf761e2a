-- Writing all cells and snapshots suit the rules of a database.
use Rattle.std.proofs.Common.{◌≡◌, ℕ, ◌+◌, ◌-◌, ◌<◌, Bool, true, false, not, ◌&&◌, ◌||◌, ◌==◌, nat_le, nat_lt, cond, get_or, length, List, [], ◌∷◌, ◌++◌, Option, Some, None, is_some, option_map, if◌then◌else◌, refl, sym, ◌∙◌, ap, subst, arith, inl, inr}
use Rattle.std.specs.Option.{option_map_or}
use Rattle.std.proofs.lemmas.Bool.{eq-eqb, and_from, le-leb, lt-ltb, ltb-true}
use Rattle.ec_count.specs.declared.setup.Rights.{Rights}
use Rattle.ec_count.specs.Members.{is_member, index_of}
use Rattle.ec_count.specs.Tables.{Tables, may_observe, may_hand}
use Rattle.ec_core.specs.declared.act.Act.{Act}
use Rattle.ec_core.specs.declared.act.Act.TheVariants.{Advance, Read, Await, Ticket, Put, Get}
use Rattle.ec_core.specs.CallLists.{without_value, reply_number}
use Rattle.ec_core.specs.Following.{CompletedCall, extend_list}
use Rattle.ec_core.proofs.shared.FittingCalls.{is_fitting}
use Rattle.ec_database.specs.Shapes.{Database, DeclaresDatabase, Fits}
use Rattle.ec_database.specs.Calls.{write_call, try_call}
use Rattle.ec_database.specs.Snapshots.{is_whole, agrees, TryState, try_again, after_call, trying_after, trying, snapshot_call}
use Rattle.ec_database.specs.Following.{is_cell, is_on, writes, write_rule, try_rule, database_rules}
use Rattle.ec_machine.specs.declared.command.Command.{Command, WriteAll, Snapshot}
use Rattle.ec_machine.specs.Values.{values_of}
use Rattle.ec_machine.specs.Runs.{command_call}
use Rattle.ec_script_theorems.specs.Uses.{IsOfDatabase, UsesDatabase}
use Rattle.ec_script_theorems.specs.Laws.{DatabasesAreFollowed}
use Rattle.ec_script_theorems.proofs.Suiting.{Suits, Tracks, suits_tracked, suits_apart, blocked, fitting, extended_on, at_op}
use Rattle.ec_script_theorems.proofs.Granted.{IsGranted}
use Rattle.ec_script_theorems.proofs.Rules.{IsFree, IsOn, due_free, suits_free}
use Rattle.ec_script_theorems.proofs.Roles.{one_role, placed_is_member}
use Rattle.ec_script_theorems.proofs.Tests.{or_first, turned}
use Rattle.ec_semaphore.proofs.shared.Implying.{fits_or as or_second}
use Rattle.ec_script_theorems.proofs.Workers.{programs_follow}

-- THE OBJECTS OF A DATABASE

on_start : (d : Database) → (d.start == d.start || d.start == d.done) ≡ true
on_start d = or_first (d.start == d.start) (d.start == d.done) (eq-eqb d.start d.start refl)

on_done : (d : Database) → (d.done == d.start || d.done == d.done) ≡ true
on_done d = or_second (d.done == d.start) (d.done == d.done) (eq-eqb d.done d.done refl)

on_cell : (d : Database) (n : ℕ) → nat_lt n d.cells ≡ true → is_cell d (d.first_cell + n) ≡ true
on_cell d n within =
    let low : n < d.cells = ltb-true n d.cells within in
    and_from (nat_le d.first_cell (d.first_cell + n)) (nat_lt (d.first_cell + n) (d.first_cell + d.cells))
    (le-leb d.first_cell (d.first_cell + n) (omega arith))
    (lt-ltb (d.first_cell + n) (d.first_cell + d.cells) (omega arith))

-- WRITINGS

write_rest : (more last : Bool) (x v : ℕ) (end : Act) → without_value end ≡ end
    → (if more then Some (Put x 0) else (if last then Some end else None)) ≡ option_map without_value (if more then Some (Put x v) else (if last then Some end else None))
write_rest true last x v end same = refl
write_rest false true x v end same = ap Some (sym same)
write_rest false false x v end same = refl

write_free : (d : Database) (values : List ℕ) → IsFree (write_call d []) (write_call d values)
write_free d values [] = refl
write_free d values (a ∷ []) = refl
write_free d values (a ∷ t ∷ []) = refl
write_free d values (a ∷ t ∷ i ∷ puts) =
    write_rest (nat_lt (length puts) d.cells) (length puts == d.cells) (d.first_cell + length puts) (get_or values (length puts) 0) (Advance d.done) refl

-- what holds of the cell's call and of the last holds of the call that comes
rest_on : (P : Act → Type 0) (more last : Bool) (cell end op : Act) → (more ≡ true → P cell) → P end → (if more then Some cell else (if last then Some end else None)) ≡ Some op → P op
rest_on P true last cell end op here there is = at_op P cell op is (here refl)
rest_on P false true cell end op here there is = at_op P end op is there
rest_on P false false cell end op here there is = cc

pub write_on : (d : Database) (values : List ℕ) → IsOn (is_on d) (write_call d values)
write_on d values [] op is = at_op (λ x. is_on d x ≡ true) (Advance d.start) op is (on_start d)
write_on d values (a ∷ []) op is = at_op (λ x. is_on d x ≡ true) (Ticket d.turn) op is (eq-eqb d.turn d.turn refl)
write_on d values (a ∷ t ∷ []) op is = at_op (λ x. is_on d x ≡ true) (Await d.done (reply_number t.reply)) op is (on_done d)
write_on d values (a ∷ t ∷ i ∷ puts) op is =
    rest_on (λ x. is_on d x ≡ true) (nat_lt (length puts) d.cells) (length puts == d.cells) (Put (d.first_cell + length puts) (get_or values (length puts) 0)) (Advance d.done) op
    (on_cell d (length puts)) (on_done d) is

-- TRIES

try_rest : (more last : Bool) (x : ℕ) (end : Act) → without_value end ≡ end
    → (if more then Some (Get x) else (if last then Some end else None)) ≡ option_map without_value (if more then Some (Get x) else (if last then Some end else None))
try_rest true last x end same = refl
try_rest false true x end same = ap Some (sym same)
try_rest false false x end same = refl

try_free : (d : Database) → IsFree (try_call d) (try_call d)
try_free d [] = refl
try_free d (w ∷ []) = refl
try_free d (w ∷ a ∷ gets) = try_rest (nat_lt (length gets) d.cells) (length gets == d.cells) (d.first_cell + length gets) (Read d.start) refl

pub try_on : (d : Database) → IsOn (is_on d) (try_call d)
try_on d [] op is = at_op (λ x. is_on d x ≡ true) (Read d.start) op is (on_start d)
try_on d (w ∷ []) op is = at_op (λ x. is_on d x ≡ true) (Await d.done (reply_number w.reply)) op is (on_done d)
try_on d (w ∷ a ∷ gets) op is =
    rest_on (λ x. is_on d x ≡ true) (nat_lt (length gets) d.cells) (length gets == d.cells) (Get (d.first_cell + length gets)) (Read d.start) op
    (on_cell d (length gets)) (on_start d) is

-- SNAPSHOTS

trying_more : (d : Database) (s : TryState) (xs : List CompletedCall) (c : CompletedCall) → trying_after d s (xs ++ c ∷ []) ≡ after_call d (trying_after d s xs) c
trying_more d s [] c = refl
trying_more d s (x ∷ xs) c = trying_more d (after_call d s x) xs c

-- the calls of the try, unless it is whole
open_try : Database → List CompletedCall → List CompletedCall
open_try d calls = cond (is_some (try_call d calls)) calls []

try_place : Database → ℕ → List CompletedCall → List CompletedCall
try_place d tries calls = open_try d (trying d tries calls).calls

open_whole : (d : Database) (calls : List CompletedCall) → try_call d calls ≡ None
    → open_try d calls ≡ []
unfolding open_try
open_whole d calls is = ap (λ (o : Option Act). cond (is_some o) calls []) is

open_going : (d : Database) (calls : List CompletedCall) (op : Act) → try_call d calls ≡ Some op → open_try d calls ≡ calls
unfolding open_try
open_going d calls op is = ap (λ (o : Option Act). cond (is_some o) calls []) is

-- a try that is begun again has no calls, and one that goes on is whole or not
chosen : Database → Bool → ℕ → List CompletedCall → TryState
chosen d whole left calls = cond (whole && not (agrees d calls) && nat_lt 1 left) (record { left = left - 1; calls = [] }) (record { left = left; calls = calls })

either_open : (d : Database) (b : Bool) (left : ℕ) (calls : List CompletedCall) → is_some (try_call d calls) ≡ false
    → open_try d (cond {A = TryState} b (record { left = left - 1; calls = [] }) (record { left = left; calls = calls })).calls ≡ []
unfolding open_try
either_open d true left calls is = refl
either_open d false left calls is = ap (λ b. cond b calls []) is

again_if : (d : Database) (left : ℕ) (calls : List CompletedCall) (b : Bool) → is_some (try_call d calls) ≡ b → open_try d (chosen d (not b) left calls).calls ≡ cond b calls []
unfolding open_try chosen
again_if d left calls true is = ap (λ b. cond b calls []) is
again_if d left calls false is = either_open d (not (agrees d calls) && nat_lt 1 left) left calls is

again_open : (d : Database) (left : ℕ) (calls : List CompletedCall) → open_try d (try_again d (record { left = left; calls = calls })).calls ≡ open_try d calls
unfolding open_try chosen
again_open d left calls = again_if d left calls (is_some (try_call d calls)) refl

open_now : (d : Database) (calls : List CompletedCall) → cond (not (is_some (try_call d calls))) [] calls ≡ open_try d calls
unfolding open_try
open_now d calls = turned (is_some (try_call d calls)) [] calls

-- one more call of a try that goes on
try_goes : (d : Database) (s : TryState) (c : CompletedCall) → try_call d s.calls ≡ Some c.op → extend_list (try_rule d) (open_try d s.calls) c ≡ open_try d (after_call d s c).calls
try_goes d s c is =
    let now = s.calls ++ c ∷ [] in
    let going : is_whole d s.calls ≡ false = ap (λ (o : Option Act). not (is_some o)) is in
    let after : (after_call d s c).calls ≡ (try_again d (record { left = s.left; calls = now })).calls = ap (λ b. (cond {A = TryState} b s (try_again d (record { left = s.left; calls = now }))).calls) going in
    ap (λ b. extend_list (try_rule d) b c) (open_going d s.calls c.op is)
    ∙ extended_on (try_rule d) s.calls c (try_on d s.calls c.op is)
    ∙ open_now d now
    ∙ sym (again_open d s.left now)
    ∙ ap (open_try d) (sym after)

snapshot_tracks : (d : Database) (tries : ℕ) → Tracks (try_rule d) (snapshot_call d tries) (try_place d tries)
unfolding try_place
snapshot_tracks d tries = record {
  starts = open_going d [] (Read d.start) refl;
  fits = λ calls op asked is.
      (let s = (trying d tries calls).calls in
      ap (λ b. is_fitting (try_rule d) b op) (open_going d s op is) ∙ fitting (try_rule d) s op (due_free (try_call d) (try_call d) (try_free d) s op is));
  goes = λ calls c is.
      try_goes d (trying d tries calls) c is ∙ ap (λ (s : TryState). open_try d s.calls) (sym (trying_more d (record { left = tries; calls = [] }) calls c));
  ends = λ calls is. open_whole d (trying d tries calls).calls is;
}

-- ROLES

writer : (t : Tables) (d : Database) (w : ℕ) (write read : List ℕ) → DeclaresDatabase d t write read → writes t d w ≡ is_some (index_of w write)
writer t d w write read declares = ap (λ (o : Option Rights). is_some (index_of w (option_map_or (λ (r : Rights). r.signal) o []))) declares.start

reader : (t : Tables) (d : Database) (w : ℕ) (write read : List ℕ) → DeclaresDatabase d t write read → may_observe t d.start w ≡ is_member w read
reader t d w write read declares = ap (λ (o : Option Rights). option_map_or (λ (r : Rights). is_member w r.observe) o false) declares.start

-- the tables say who signals its eventcounts
start_fixed : (t : Tables) (d : Database) → Fits d t → may_hand t d.start ≡ false
start_fixed t d fits = ap (λ (o : Option Rights). option_map_or (λ (r : Rights). not r.fixed) o false) fits.2.start

two_roles : (t : Tables) (d : Database) (w : ℕ) (write read : List ℕ) → DeclaresDatabase d t write read → writes t d w ≡ true → may_observe t d.start w ≡ true → ⊥
two_roles t d w write read declares writes_it reads_it =
    one_role w write read declares.apart (placed_is_member w write (sym (writer t d w write read declares) ∙ writes_it)) (sym (reader t d w write read declares) ∙ reads_it)

write_suits : (t : Tables) (d : Database) (w : ℕ) (values : List ℕ) → Fits d t → Suits (IsGranted t w) (database_rules t d w) (write_call d values)
write_suits t d w values fits =
    elim (writes t d w) as (λ p. writes t d w ≡ p → Suits (IsGranted t w) (if p then write_rule d else try_rule d) (write_call d values)) [
      | true ↦ λ puts. suits_free (IsGranted t w) (is_on d) (write_call d []) (write_call d values) (write_free d values) (write_on d values)
      | false ↦ λ no. blocked (IsGranted t w) (try_rule d) (write_call d values)
          (λ op is granted.
          (let same : op ≡ Advance d.start = cc in
          let advances : IsGranted t w (Advance d.start) = subst (IsGranted t w) same granted in
          let signals : writes t d w ≡ true = advances (start_fixed t d fits) in
          let clash : false ≡ true = sym no ∙ signals in
          cc))
    ] refl

snapshot_suits : (t : Tables) (d : Database) (w tries : ℕ) → Fits d t → Suits (IsGranted t w) (database_rules t d w) (snapshot_call d tries)
snapshot_suits t d w tries fits =
    elim (writes t d w) as (λ p. writes t d w ≡ p → Suits (IsGranted t w) (if p then write_rule d else try_rule d) (snapshot_call d tries)) [
      | true ↦ λ puts. blocked (IsGranted t w) (write_rule d) (snapshot_call d tries)
          (λ op is granted. two_roles t d w fits.0 fits.1 fits.2 puts (let same : op ≡ Read d.start = cc in subst (IsGranted t w) same granted))
      | false ↦ λ no. suits_tracked (IsGranted t w) (try_rule d) (snapshot_call d tries) (try_place d tries) (snapshot_tracks d tries)
    ] refl

-- EACH COMMAND

own_suits : (t : Tables) (d : Database) (w last : ℕ) (c : Command) → Fits d t → IsOfDatabase d c → Suits (IsGranted t w) (database_rules t d w) (command_call last c)
own_suits t d w last (WriteAll e vs) fits is = subst (λ u. Suits (IsGranted t w) (database_rules t d w) (write_call u (values_of last vs.items))) (sym is) (write_suits t d w (values_of last vs.items) fits)
own_suits t d w last (Snapshot e tries) fits is = subst (λ u. Suits (IsGranted t w) (database_rules t d w) (snapshot_call u tries)) (sym is) (snapshot_suits t d w tries fits)
own_suits t d w last c fits is = absurd is

concerns_on : (t : Tables) (d : Database) (w : ℕ) (op : Act) → (database_rules t d w).concerns [] op ≡ is_on d op
concerns_on t d w op =
    elim (writes t d w) as (λ p. (if p then write_rule d else try_rule d).concerns [] op ≡ is_on d op) [
      | true ↦ refl
      | false ↦ refl
    ]

command_suits : (t : Tables) (d : Database) (w last : ℕ) (c : Command) → Fits d t → UsesDatabase d c → Suits (IsGranted t w) (database_rules t d w) (command_call last c)
command_suits t d w last c fits (inl own) = own_suits t d w last c fits own
command_suits t d w last c fits (inr apart) =
    suits_apart (IsGranted t w) (database_rules t d w) (command_call last c) (λ calls op is. concerns_on t d w op ∙ apart last calls op is)

pub databases_follow : DatabasesAreFollowed
databases_follow t d programs h fits acc each runs =
    programs_follow t (database_rules t d) (UsesDatabase d) programs h acc (λ w last c is. command_suits t d w last c fits is) each runs
