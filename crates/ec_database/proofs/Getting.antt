-- What an audit keeps of each reader is what the reader got, and the tries that it lists are the
-- accepted ones.
use Rattle.std.proofs.Common.{◌≡◌, ℕ, ◌+◌, ◌-◌, ◌<◌, ◌≤◌, Bool, true, false, not, ◌&&◌, ◌||◌, List, [], ◌∷◌, ◌++◌, length, map, take, drop, Option, Some, None, nat_le, nat_lt, refl, ap, sym, ◌∙◌, arith, subst, cond, ◌==◌, slice_get, slice_set}
use Rattle.std.proofs.lemmas.Bool.{eqb-true, eq-eqb, ne_eqb, ltb-true, ltb-false, lt-ltb, le-ltb, le-leb, and_from, not-true}
use Rattle.std.proofs.lemmas.List.{length-append, length-map, map-append}
use Rattle.std.proofs.lemmas.Grind.{take-set_at}
use Rattle.std.proofs.lemmas.Option.{slice_get_within}
use Rattle.std.proofs.Math.ListN.{length-set}
use Rattle.std.proofs.Math.Seq.{take-append_seam, drop-append_seam}
use Rattle.ec_core.specs.declared.act.Act.{Act}
use Rattle.ec_core.specs.declared.act.Reply.{Reply}
use Rattle.ec_core.specs.declared.act.Reply.TheVariants.{Done, Number, Pending}
use Rattle.ec_core.specs.declared.act.Entry.{Entry}
use Rattle.ec_core.specs.declared.protocol.ListProgress.{ListProgress}
use Rattle.ec_core.specs.Calls.{is_pending, under_way}
use Rattle.ec_core.specs.Following.{CompletedCall, opening_act, block_after, block}
use Rattle.ec_core.specs.CallLists.{reply_number}
use Rattle.ec_core.proofs.shared.Places.{get_set}
use Rattle.ec_core.proofs.shared.Following.{op_at, other_block, after_told, after_pending, off_block}
use Rattle.ec_database.specs.declared.audit.ReaderCall.{ReaderCall}
use Rattle.ec_database.specs.Shapes.{Database}
use Rattle.ec_database.specs.Calls.{first_number}
use Rattle.ec_database.specs.Following.{is_on, write_rule, try_rule, rules}
use Rattle.ec_database.specs.Snapshots.{is_whole, agrees, version_read, values_got}
use Rattle.ec_database.specs.Tries.{AcceptedTry, accepted_of, ended_by, ended_at}
use Rattle.ec_database.specs.SnapshotPhases.{list_progress}
use Rattle.ec_database.specs.Auditing.{completed_call, got_so_far, rows_after, try_ended, HasRow, HoldsGot}
use Rattle.ec_database.proofs.Trying.{whole_is}
use Rattle.ec_core.proofs.shared.Reading.{never}
use Rattle.ec_core.proofs.shared.Pasts.{pending_is}

-- TRIES ARE SHORT

short_told : (d : Database) (calls : List CompletedCall) (c : CompletedCall)
    → length calls ≤ d.cells + 2
    → length (cond (is_on d c.op) (cond (is_whole d (calls ++ c ∷ [])) [] (calls ++ c ∷ [])) calls) ≤ d.cells + 2
short_told d calls c le =
    elim (is_on d c.op) as (λ b. length (cond b (cond (is_whole d (calls ++ c ∷ [])) [] (calls ++ c ∷ [])) calls) ≤ d.cells + 2) [
      | true ↦
          (elim (is_whole d (calls ++ c ∷ [])) as (λ b. is_whole d (calls ++ c ∷ []) ≡ b → length (cond b [] (calls ++ c ∷ [])) ≤ d.cells + 2) [
            | true ↦ λ e. omega arith
            | false ↦ λ e. ltb-false (d.cells + 2) (length (calls ++ c ∷ [])) (sym (whole_is d (calls ++ c ∷ [])) ∙ e)
          ] refl)
      | false ↦ le
    ]

short_after : (d : Database) (calls : List CompletedCall) (op : Act) (reply : Reply) → length calls ≤ d.cells + 2 → length (block_after (try_rule d) calls op reply) ≤ d.cells + 2
short_after d calls op Pending le = le
short_after d calls op Done le = short_told d calls (record { op = op; reply = Done }) le
short_after d calls op (Number n) le = short_told d calls (record { op = op; reply = Number n }) le

-- the calls of a try that is not at its end
pub short : (d : Database) (w : ℕ) (past : List Entry) → length (block (try_rule d) w past) ≤ d.cells + 2
unfolding block
short d w [] = omega arith
short d w (x ∷ past) =
    elim (x.worker == w) as (λ b. length (cond b (block_after (try_rule d) (block (try_rule d) w past) (opening_act x.act (under_way w past)) x.reply) (block (try_rule d) w past)) ≤ d.cells + 2) [
      | true ↦ short_after d (block (try_rule d) w past) (opening_act x.act (under_way w past)) x.reply (short d w past)
      | false ↦ short d w past
    ]

-- COMPLETED CALLS

-- what an entry that finishes no call of a reader leaves: it is a writer's, or its reader's calls stay
stays : (d : Database) (x : Entry) (past : List Entry) → is_pending x.reply || not (is_on d (op_at x past)) ≡ true → block (try_rule d) x.worker (x ∷ past) ≡ block (try_rule d) x.worker past
stays d x past h =
    elim (is_pending x.reply) as (λ b. is_pending x.reply ≡ b → b || not (is_on d (op_at x past)) ≡ true → block (try_rule d) x.worker (x ∷ past) ≡ block (try_rule d) x.worker past) [
      | true ↦ λ e g. after_pending (try_rule d) x past (pending_is x.reply e)
      | false ↦ λ e g. off_block (try_rule d) x past (not-true (is_on d (op_at x past)) g)
    ] refl h

none_finished : (d : Database) (w p o : Bool) (call : ReaderCall) → cond (w || p || not o) None (Some call) ≡ None → w ≡ false → p || not o ≡ true
none_finished d true p o call h e = cc
none_finished d false true o call h e = refl
none_finished d false false true call h e = cc
none_finished d false false false call h e = refl

pub held_none : (d : Database) (writers : ℕ → Bool) (rows : List (List ℕ)) (x : Entry) (past : List Entry) (kept : ListProgress) (op : Act)
    → op ≡ op_at x past → completed_call d (writers x.worker) kept op x ≡ None → HoldsGot d writers rows past → HoldsGot d writers rows (x ∷ past)
held_none d writers rows x past kept op at none h w lt role =
    let P : List CompletedCall → Type 0 = λ calls. HasRow rows w (got_so_far calls) in
    elim (x.worker == w) as (λ b. (x.worker == w) ≡ b → HasRow rows w (got_so_far (block (try_rule d) w (x ∷ past)))) [
      | true ↦ λ e.
          (let same : x.worker ≡ w = eqb-true x.worker w e in
          let mine : writers x.worker ≡ false = ap writers same ∙ role in
          let over = none_finished d (writers x.worker) (is_pending x.reply) (is_on d op) (record { worker = x.worker; at = kept.at; version = kept.first; number = reply_number x.reply }) none mine in
          let Q : ℕ → Type 0 = λ v. block (try_rule d) v (x ∷ past) ≡ block (try_rule d) v past in
          subst P (sym (subst Q same (stays d x past (ap (λ a. is_pending x.reply || not (is_on d a)) (sym at) ∙ over)))) (h w lt role))
      | false ↦ λ e. subst P (sym (other_block (try_rule d) w x past e)) (h w lt role)
    ] refl

-- an entry whose call is not on the database changes no reader's values
pub held_off : (d : Database) (writers : ℕ → Bool) (rows : List (List ℕ)) (x : Entry) (past : List Entry) → is_on d (op_at x past) ≡ false → HoldsGot d writers rows past → HoldsGot d writers rows (x ∷ past)
held_off d writers rows x past off h w lt role =
    let P : List CompletedCall → Type 0 = λ calls. HasRow rows w (got_so_far calls) in
    elim (x.worker == w) as (λ b. (x.worker == w) ≡ b → HasRow rows w (got_so_far (block (try_rule d) w (x ∷ past)))) [
      | true ↦ λ e.
          (let Q : ℕ → Type 0 = λ v. block (try_rule d) v (x ∷ past) ≡ block (try_rule d) v past in
          subst P (sym (subst Q (eqb-true x.worker w e) (off_block (try_rule d) x past off))) (h w lt role))
      | false ↦ λ e. subst P (sym (other_block (try_rule d) w x past e)) (h w lt role)
    ] refl

-- ROWS

-- whether the call is a get of its try
abbrev in_gets : ℕ → ReaderCall → Bool
in_gets cells call = nat_le 2 call.at && nat_lt call.at (cells + 2)

abbrev pub row_after : ℕ → List ℕ → ReaderCall → List ℕ
row_after cells row call = cond (in_gets cells call) (slice_set row (call.at - 2) call.number) row

row_long : (cells : ℕ) (row : List ℕ) (call : ReaderCall) → length (row_after cells row call) ≡ length row
row_long cells row call =
    elim (in_gets cells call) as (λ b. length (cond b (slice_set row (call.at - 2) call.number) row) ≡ length row) [
      | true ↦ length-set row (call.at - 2) call.number
      | false ↦ refl
    ]

-- the row of the reader, and those of others
pub own_row : (cells : ℕ) (rows : List (List ℕ)) (row : List ℕ) (call : ReaderCall) → slice_get rows call.worker ≡ Some row → slice_get (rows_after cells rows row call) call.worker ≡ Some (row_after cells row call)
own_row cells rows row call is =
    elim (in_gets cells call) as (λ b. slice_get (cond b (slice_set rows call.worker (slice_set row (call.at - 2) call.number)) rows) call.worker ≡ Some (cond b (slice_set row (call.at - 2) call.number) row)) [
      | true ↦ get_set rows call.worker call.worker (slice_set row (call.at - 2) call.number) (slice_get_within rows call.worker row is)
          ∙ ap (λ b. cond b (Some (slice_set row (call.at - 2) call.number)) (slice_get rows call.worker)) (eq-eqb call.worker call.worker refl)
      | false ↦ is
    ]

other_row : (cells : ℕ) (rows : List (List ℕ)) (row : List ℕ) (call : ReaderCall) (v : ℕ) → slice_get rows call.worker ≡ Some row → (call.worker == v) ≡ false → slice_get (rows_after cells rows row call) v ≡ slice_get rows v
other_row cells rows row call v is other =
    elim (in_gets cells call) as (λ b. slice_get (cond b (slice_set rows call.worker (slice_set row (call.at - 2) call.number)) rows) v ≡ slice_get rows v) [
      | true ↦ get_set rows call.worker v (slice_set row (call.at - 2) call.number) (slice_get_within rows call.worker row is)
          ∙ ap (λ b. cond b (Some (slice_set row (call.at - 2) call.number)) (slice_get rows v)) other
      | false ↦ refl
    ]

-- the calls of a try after one more
abbrev grown : Database → List CompletedCall → CompletedCall → List CompletedCall
grown d calls c = cond (is_whole d (calls ++ c ∷ [])) [] (calls ++ c ∷ [])

front_after : (d : Database) (row : List ℕ) (calls : List CompletedCall) (c : CompletedCall) (call : ReaderCall) → call.at ≡ length calls → call.number ≡ reply_number c.reply → d.cells ≤ 256 → length row ≡ 256
    → take (length (got_so_far calls)) row ≡ got_so_far calls → take (length (got_so_far (grown d calls c))) (row_after d.cells row call) ≡ got_so_far (grown d calls c)
front_after d row [] c call at number few long prefix = refl
front_after d row (w ∷ []) c call at number few long prefix =
    let no : is_whole d (w ∷ c ∷ []) ≡ false = whole_is d (w ∷ c ∷ []) ∙ le-ltb (d.cells + 2) 2 (omega arith) in
    let P : List CompletedCall → Type 0 = λ calls. take (length (got_so_far calls)) (row_after d.cells row call) ≡ got_so_far calls in
    subst (λ b. P (cond b [] (w ∷ c ∷ []))) (sym no) refl
front_after d row (w ∷ a ∷ gets) c call at number few long prefix =
    let now : List CompletedCall = w ∷ a ∷ (gets ++ c ∷ []) in
    let longer : length (gets ++ c ∷ []) ≡ length gets + 1 = length-append gets (c ∷ []) in
    elim (is_whole d now) as (λ b. is_whole d now ≡ b → take (length (got_so_far (cond b [] now))) (row_after d.cells row call) ≡ got_so_far (cond b [] now)) [
      | true ↦ λ e. refl
      | false ↦ λ e.
          (let room : length now ≤ d.cells + 2 = ltb-false (d.cells + 2) (length now) (sym (whole_is d now) ∙ e) in
          let f : CompletedCall → ℕ = λ z. reply_number z.reply in
          let in_range : in_gets d.cells call ≡ true = and_from (nat_le 2 call.at) (nat_lt call.at (d.cells + 2)) (le-leb 2 call.at (omega arith)) (lt-ltb call.at (d.cells + 2) (omega arith)) in
          let many : length (map f (gets ++ c ∷ [])) ≡ length gets + 1 = length-map (gets ++ c ∷ []) f ∙ longer in
          let place : call.at - 2 ≡ length gets = omega arith in
          let before : take (length gets) row ≡ map f gets = ap (λ n. take n row) (sym (length-map gets f)) ∙ prefix in
          ap (λ b. take (length (map f (gets ++ c ∷ []))) (cond b (slice_set row (call.at - 2) call.number) row)) in_range
          ∙ ap (λ n. take (length (map f (gets ++ c ∷ []))) (slice_set row n call.number)) place
          ∙ take-set_at row (length gets) (length (map f (gets ++ c ∷ []))) call.number many (omega arith)
          ∙ ap (λ vs. vs ++ call.number ∷ []) before ∙ ap (λ n. map f gets ++ n ∷ []) number ∙ sym (map-append f gets (c ∷ [])))
    ] refl

-- THE TRY THAT A CALL ENDS

try_whole : (d : Database) (w : ℕ) (row : List ℕ) (calls : List CompletedCall) (c : CompletedCall) (call : ReaderCall) → call.worker ≡ w → call.at ≡ length calls → call.version ≡ first_number calls → call.number ≡ reply_number c.reply
    → take (length (got_so_far calls)) row ≡ got_so_far calls → length calls ≡ d.cells + 2 → try_ended d.cells (row_after d.cells row call) call ≡ accepted_of d w (calls ++ c ∷ [])
try_whole d w row [] c call worker at version number prefix full = absurd (omega arith)
try_whole d w row (r ∷ []) c call worker at version number prefix full = absurd (omega arith)
try_whole d w row (r ∷ a ∷ gets) c call worker at version number prefix full =
    let f : CompletedCall → ℕ = λ z. reply_number z.reply in
    let now : List CompletedCall = r ∷ a ∷ (gets ++ c ∷ []) in
    let longer : length (gets ++ c ∷ []) ≡ length gets + 1 = length-append gets (c ∷ []) in
    let many : d.cells ≡ length gets = omega arith in
    let whole : is_whole d now ≡ true = whole_is d now ∙ lt-ltb (d.cells + 2) (length now) (omega arith) in
    let again : drop d.cells (gets ++ c ∷ []) ≡ c ∷ [] = ap (λ n. drop n (gets ++ c ∷ [])) many ∙ drop-append_seam gets (c ∷ []) in
    let agreed : agrees d now ≡ (call.number == call.version) = ap (λ cs. first_number cs == reply_number r.reply) again ∙ ap (λ n. n == reply_number r.reply) (sym number) ∙ ap (λ n. call.number == n) (sym version) in
    let last : (call.at == d.cells + 2) ≡ true = eq-eqb call.at (d.cells + 2) (omega arith) in
    let over : in_gets d.cells call ≡ false = ap (λ b. nat_le 2 call.at && b) (le-ltb call.at (d.cells + 2) (omega arith)) ∙ never (nat_le 2 call.at) in
    let values : take d.cells (row_after d.cells row call) ≡ values_got d now =
    ap (λ b. take d.cells (cond b (slice_set row (call.at - 2) call.number) row)) over
    ∙ ap (λ n. take n row) (many ∙ sym (length-map gets f)) ∙ prefix
    ∙ sym (ap (map f) (ap (λ n. take n (gets ++ c ∷ [])) many ∙ take-append_seam gets (c ∷ []))) in
    ap (λ b. cond (b && (call.number == call.version)) (Some (record { worker = call.worker; version = call.version; values = take d.cells (row_after d.cells row call) })) None) last
    ∙ ap (λ v. cond (call.number == call.version) (Some (record { worker = v; version = call.version; values = take d.cells (row_after d.cells row call) })) None) worker
    ∙ ap (λ v. cond (call.number == call.version) (Some (record { worker = w; version = v; values = take d.cells (row_after d.cells row call) })) None) version
    ∙ ap (λ v. cond (call.number == call.version) (Some (record { worker = w; version = reply_number r.reply; values = v })) None) values
    ∙ sym (ap (λ b. cond (b && agrees d now) (Some (record { worker = w; version = reply_number r.reply; values = values_got d now })) None) whole
    ∙ ap (λ b. cond b (Some (record { worker = w; version = reply_number r.reply; values = values_got d now })) None) agreed)

and_false : (a b : Bool) → a ≡ false → (a && b) ≡ false
and_false a b h = rw h refl

-- the accepted try that the call ends is found
pub try_is : (d : Database) (w : ℕ) (row : List ℕ) (calls : List CompletedCall) (c : CompletedCall) (call : ReaderCall) → call.worker ≡ w → call.at ≡ length calls → call.version ≡ first_number calls → call.number ≡ reply_number c.reply
    → take (length (got_so_far calls)) row ≡ got_so_far calls → length calls ≤ d.cells + 2 → try_ended d.cells (row_after d.cells row call) call ≡ accepted_of d w (calls ++ c ∷ [])
try_is d w row calls c call worker at version number prefix short =
    let now : List CompletedCall = calls ++ c ∷ [] in
    let longer : length now ≡ length calls + 1 = length-append calls (c ∷ []) in
    elim (is_whole d now) as (λ b. is_whole d now ≡ b → try_ended d.cells (row_after d.cells row call) call ≡ accepted_of d w now) [
      | true ↦ λ e.
          (let over : d.cells + 2 < length now = ltb-true (d.cells + 2) (length now) (sym (whole_is d now) ∙ e) in
          try_whole d w row calls c call worker at version number prefix (omega arith))
      | false ↦ λ e.
          (let under : length now ≤ d.cells + 2 = ltb-false (d.cells + 2) (length now) (sym (whole_is d now) ∙ e) in
          let no : (call.at == d.cells + 2) ≡ false = ne_eqb call.at (d.cells + 2) (λ q. omega arith) in
          ap (λ b. cond b (Some (record { worker = call.worker; version = call.version; values = take d.cells (row_after d.cells row call) })) None) (and_false (call.at == d.cells + 2) (call.number == call.version) no)
          ∙ sym (ap (λ b. cond b (Some (record { worker = w; version = version_read now; values = values_got d now })) None) (and_false (is_whole d now) (agrees d now) e)))
    ] refl

-- ENTRIES

-- a completed call is on the database, and a reader's
pub record IsCompleted (d : Database) (writer : Bool) (kept : ListProgress) (op : Act) (x : Entry) (call : ReaderCall) : Type 0 where
  pub reader : writer ≡ false
  pub done : is_pending x.reply ≡ false
  pub on : is_on d op ≡ true
  pub is : record { worker = x.worker; at = kept.at; version = kept.first; number = reply_number x.reply } ≡ call

abbrev call_of : ListProgress → Entry → ReaderCall
call_of kept x = record { worker = x.worker; at = kept.at; version = kept.first; number = reply_number x.reply }

tests_of : (w p o : Bool) (a call : ReaderCall) → cond (w || p || not o) None (Some a) ≡ Some call → (w ≡ false) × (p ≡ false) × (o ≡ true) × (a ≡ call)
tests_of true p o a call h = cc
tests_of false true o a call h = cc
tests_of false false false a call h = cc
tests_of false false true a call h = (refl, refl, refl, (let q : a ≡ call = cc in q))

pub completed_of_entry : (d : Database) (writer : Bool) (kept : ListProgress) (op : Act) (x : Entry) (call : ReaderCall) → completed_call d writer kept op x ≡ Some call → IsCompleted d writer kept op x call
completed_of_entry d writer kept op x call h =
    (let k = tests_of writer (is_pending x.reply) (is_on d op) (call_of kept x) call h in record { reader = k.0; done = k.1; on = k.2; is = k.3 })

-- the reader's calls after it
grown_is : (d : Database) (x : Entry) (past : List Entry) → is_on d (op_at x past) ≡ true → is_pending x.reply ≡ false
    → block (try_rule d) x.worker (x ∷ past) ≡ grown d (block (try_rule d) x.worker past) (record { op = op_at x past; reply = x.reply })
grown_is d x past on done = after_told (try_rule d) x past (block (try_rule d) x.worker past) (op_at x past) refl refl on done

reader_block : (d : Database) (writers : ℕ → Bool) (w : ℕ) (past : List Entry) → writers w ≡ false → block (rules d writers w) w past ≡ block (try_rule d) w past
reader_block d writers w past role = ap (λ b. block (cond b (write_rule d) (try_rule d)) w past) role

pub held_some : (d : Database) (writers : ℕ → Bool) (rows rows' : List (List ℕ)) (x : Entry) (past : List Entry) (kept : ListProgress) (op : Act) (call : ReaderCall)
    → d.cells ≤ 256 → x.worker < 16 → kept ≡ list_progress (block (rules d writers x.worker) x.worker past) → op ≡ op_at x past → completed_call d (writers x.worker) kept op x ≡ Some call
    → ((row : List ℕ) → slice_get rows call.worker ≡ Some row → rows' ≡ rows_after d.cells rows row call)
    → HoldsGot d writers rows past → HoldsGot d writers rows' (x ∷ past)
held_some d writers rows rows' x past kept op call few small keeps at some after h w lt role =
    let k = completed_of_entry d (writers x.worker) kept op x call some in
    let worker : call.worker ≡ x.worker = ap (λ (c : ReaderCall). c.worker) (sym k.is) in
    let calls = block (try_rule d) x.worker past in
    let mine = h x.worker small k.reader in
    let there : slice_get rows call.worker ≡ Some mine.row = ap (slice_get rows) worker ∙ mine.is in
    let now : rows' ≡ rows_after d.cells rows mine.row call = after mine.row there in
    let place : call.at ≡ length calls = ap (λ (c : ReaderCall). c.at) (sym k.is) ∙ ap (λ (z : ListProgress). z.at) keeps ∙ ap length (reader_block d writers x.worker past k.reader) in
    let number : call.number ≡ reply_number x.reply =
    ap (λ (c : ReaderCall). c.number) (sym k.is) in
    let c : CompletedCall = record { op = op_at x past; reply = x.reply } in
    let P : List (List ℕ) → Type 0 = λ rs. HasRow rs w (got_so_far (block (try_rule d) w (x ∷ past))) in
    subst P (sym now)
    (elim (x.worker == w) as (λ b. (x.worker == w) ≡ b → HasRow (rows_after d.cells rows mine.row call) w (got_so_far (block (try_rule d) w (x ∷ past)))) [
      | true ↦ λ e.
          (let Q : ℕ → Type 0 = λ v. HasRow (rows_after d.cells rows mine.row call) v (got_so_far (block (try_rule d) v (x ∷ past))) in
          let R : List CompletedCall → Type 0 = λ cs. HasRow (rows_after d.cells rows mine.row call) x.worker (got_so_far cs) in
          let on : is_on d (op_at x past) ≡ true = ap (is_on d) (sym at) ∙ k.on in
          subst Q (eqb-true x.worker w e)
          (subst R (sym (grown_is d x past on k.done))
          (record {
            row = row_after d.cells mine.row call;
            is = ap (slice_get (rows_after d.cells rows mine.row call)) (sym worker) ∙ own_row d.cells rows mine.row call there;
            long = row_long d.cells mine.row call ∙ mine.long;
            prefix = front_after d mine.row calls c call place number few mine.long mine.prefix;
          })))
      | false ↦ λ e.
          (let old = h w lt role in
          let R : List CompletedCall → Type 0 = λ cs. HasRow (rows_after d.cells rows mine.row call) w (got_so_far cs) in
          subst R (sym (other_block (try_rule d) w x past e))
          (record {
            row = old.row;
            is = other_row d.cells rows mine.row call w there (ap (λ v. v == w) worker ∙ e) ∙ old.is;
            long = old.long;
            prefix = old.prefix;
          }))
    ] refl)

-- what holds of the try that the reader's row gives holds of the one that the entry ends
pub ended_is : (d : Database) (writers : ℕ → Bool) (rows rows' : List (List ℕ)) (x : Entry) (past : List Entry) (kept : ListProgress) (op : Act) (call : ReaderCall) (P : Option AcceptedTry → Type 0)
    → x.worker < 16 → kept ≡ list_progress (block (rules d writers x.worker) x.worker past) → op ≡ op_at x past → completed_call d (writers x.worker) kept op x ≡ Some call
    → ((row : List ℕ) → slice_get rows call.worker ≡ Some row → rows' ≡ rows_after d.cells rows row call)
    → ((row : List ℕ) → slice_get rows' call.worker ≡ Some row → P (try_ended d.cells row call))
    → HoldsGot d writers rows past → P (ended_at d writers x past)
ended_is d writers rows rows' x past kept op call P small keeps at some after returned h =
    let k = completed_of_entry d (writers x.worker) kept op x call some in
    let worker : call.worker ≡ x.worker = ap (λ (c : ReaderCall). c.worker) (sym k.is) in
    let calls = block (try_rule d) x.worker past in
    let mine = h x.worker small k.reader in
    let there : slice_get rows call.worker ≡ Some mine.row = ap (slice_get rows) worker ∙ mine.is in
    let now : rows' ≡ rows_after d.cells rows mine.row call = after mine.row there in
    let same : kept ≡ list_progress calls = keeps ∙ ap list_progress (reader_block d writers x.worker past k.reader) in
    let place : call.at ≡ length calls = ap (λ (c : ReaderCall). c.at) (sym k.is) ∙ ap (λ (z : ListProgress). z.at) same in
    let version : call.version ≡ first_number calls = ap (λ (c : ReaderCall). c.version) (sym k.is) ∙ ap (λ (z : ListProgress). z.first) same in
    let number : call.number ≡ reply_number x.reply =
    ap (λ (c : ReaderCall). c.number) (sym k.is) in
    let c : CompletedCall = record { op = op_at x past; reply = x.reply } in
    let on : is_on d (op_at x past) ≡ true = ap (is_on d) (sym at) ∙ k.on in
    subst P
    (try_is d x.worker mine.row calls c call worker place version number mine.prefix (short d x.worker past)
    ∙ sym (ap (λ b. cond (b || is_pending x.reply) None (ended_by d x.worker calls c)) k.reader
    ∙ ap (λ b. cond b None (ended_by d x.worker calls c)) k.done
    ∙ ap (λ b. cond b (accepted_of d x.worker (calls ++ c ∷ [])) None) on))
    (returned (row_after d.cells mine.row call) (ap (λ rs. slice_get rs call.worker) now ∙ own_row d.cells rows mine.row call there))

no_calls : (d : Database) (w : ℕ) → block (try_rule d) w [] ≡ []
unfolding block
no_calls d w = refl

pub held_first : (d : Database) (writers : ℕ → Bool) (rows : List (List ℕ)) → ((w : ℕ) → w < 16 → HasRow rows w []) → HoldsGot d writers rows []
held_first d writers rows h w lt role = (let P : List CompletedCall → Type 0 = λ calls. HasRow rows w (got_so_far calls) in subst P (sym (no_calls d w)) (h w lt))
