-- An accepted try has the values of one version, and no put came between its gets: when its last
-- read began, no more writes were started than were done when its gets began, so no writer was
-- active all that time.
use Rattle.std.proofs.Common.{◌≡◌, ℕ, zero, suc, ◌+◌, ◌-◌, ◌<◌, ◌≤◌, Bool, true, false, ◌&&◌, ◌||◌, List, [], ◌∷◌, ◌++◌, length, map, take, drop, reverse, append_assoc, Option, Some, None, refl, ap, sym, ◌∙◌, arith, subst, cond, ◌==◌, inl, inr, slice_get, get_or}
use Rattle.std.specs.Option.{option_map}
use Rattle.std.proofs.lemmas.Bool.{eqb-true, eq-eqb, ltb-true, lt-ltb, le-ltb}
use Rattle.std.proofs.lemmas.List.{length-append, length-map, length-take-le, length-reverse}
use Rattle.std.proofs.lemmas.Option.{slice_get_within, slice_get-map, slice_get-get_or}
use Rattle.std.proofs.Math.Seq.{take-append_seam, drop-append_seam}
use Rattle.ec_count.specs.Tables.{Tables}
use Rattle.ec_core.specs.declared.act.Act.{Act}
use Rattle.ec_core.specs.declared.act.Act.TheVariants.{Read, Get}
use Rattle.ec_core.specs.declared.act.Reply.{Reply}
use Rattle.ec_core.specs.declared.act.Reply.TheVariants.{Number}
use Rattle.ec_core.specs.declared.act.Entry.{Entry}
use Rattle.ec_core.specs.Counts.{past_at, total, issued, cell_value}
use Rattle.ec_core.specs.Calls.{is_pending, under_way}
use Rattle.ec_core.specs.Rounds.{IsPastOf}
use Rattle.ec_core.specs.Acceptance.{IsAccepted}
use Rattle.ec_core.specs.Following.{CompletedCall, opening_act, block}
use Rattle.ec_core.specs.CallLists.{is_due, without_value, reply_number}
use Rattle.ec_core.proofs.shared.Answering.{IsReading}
use Rattle.ec_core.proofs.shared.CallRounds.{past_by_length}
use Rattle.ec_core.proofs.shared.Counting.{totals_rise}
use Rattle.ec_core.proofs.shared.Moments.{past_next, moment_before, accepted_of as accepted_past}
use Rattle.ec_core.proofs.shared.Following.{op_at, IsReplyTo, step_told, step_opened, step_due, due_is}
use Rattle.ec_core.proofs.shared.Reading.{began, began_past, began_block, read_low}
use Rattle.ec_database.specs.Shapes.{Database}
use Rattle.ec_database.specs.Calls.{first_number, drawn_turn, try_call}
use Rattle.ec_database.specs.Versions.{IsOfVersion}
use Rattle.ec_database.specs.Following.{is_on, writes, write_rule, try_rule, database_rules, FollowsDatabase}
use Rattle.ec_database.specs.Snapshots.{is_whole, agrees, version_read, values_got}
use Rattle.ec_database.specs.Tries.{AcceptedTry, accepted_of, EndsCall, IsUndisturbed, is_put_on, calls_before}
use Rattle.ec_database.specs.Laws.{IsFollowed, AcceptedTriesAreUndisturbed}
use Rattle.ec_database.proofs.Trying.{whole_is}
use Rattle.ec_database.proofs.Getting.{short}
use Rattle.ec_database.proofs.Counting.{puts_at}
use Rattle.ec_database.proofs.Written.{IsVersionIn}
use Rattle.ec_database.proofs.Steady.{lead_less, drawn_less, on_of, writing, put_on_op, no_put}
use Rattle.ec_database.proofs.Readers.{IsSnapshot, IsReader, readers}
use Rattle.ec_database.proofs.Turns.{put_stands, put_by_writer}
use Rattle.ec_core.proofs.shared.Breaks.{follow_before}
use Rattle.ec_database.proofs.CallsStand.{CallEnds, CallsStand, calls_stand, ends_before, entry_at}
use Rattle.ec_database.proofs.CallNumbers.{number, number_began}

-- PREFIXES OF A HISTORY

pub follow_of : (t : Tables) (d : Database) (h p : List Entry) → FollowsDatabase t d (reverse h) → IsPastOf p (reverse h) → FollowsDatabase t d p
follow_of t d h p f is = follow_before (database_rules t d) is.since p (let P : List Entry → Type 0 = λ z. FollowsDatabase t d z in subst P is.is f)

past_past : (a b c : List Entry) → IsPastOf a b → IsPastOf b c → IsPastOf a c
past_past a b c p q = record { since = q.since ++ p.since; is = q.is ∙ ap (λ z. q.since ++ z) p.is ∙ sym (append_assoc q.since p.since a) }

-- entry k with the history before it
pub here : (h : List Entry) (k : ℕ) (x : Entry) → slice_get h k ≡ Some x → IsPastOf (x ∷ past_at k h) (reverse h)
here h k x at = (let P : List Entry → Type 0 = λ p. IsPastOf p (reverse h) in subst P (past_next h k x at) (moment_before h (suc k)))

pub length_past : (h : List Entry) (k : ℕ) (x : Entry) → slice_get h k ≡ Some x → length (past_at k h) ≡ k
length_past h k x at = (let lt : k < length h = slice_get_within h k x at in length-reverse (take k h) ∙ length-take-le k h (omega arith))

-- a total at an earlier moment is at most that at a later one
total_after : (h : List Entry) (e i n : ℕ) → total e (past_at i h) ≤ total e (past_at (i + n) h)
total_after h e i zero = (let same : total e (past_at (i + 0) h) ≡ total e (past_at i h) = ap (λ k. total e (past_at k h)) (let z : i + 0 ≡ i = omega arith in z) in omega arith)
total_after h e i (suc n) =
    let before = total_after h e i n in
    let rise = (totals_rise e (i + n) h).0 in
    let next : total e (past_at (i + suc n) h) ≡ total e (past_at (i + n + 1) h) = ap (λ k. total e (past_at k h)) (let z : i + suc n ≡ i + n + 1 = omega arith in z) in
    omega arith

total_later : (h : List Entry) (e i j : ℕ) → i ≤ j → total e (past_at i h) ≤ total e (past_at j h)
total_later h e i j le = (let P : ℕ → Type 0 = λ k. total e (past_at i h) ≤ total e (past_at k h) in subst P (let z : i + (j - i) ≡ j = omega arith in z) (total_after h e i (j - i)))

-- A CALL OF A READER'S TRY

-- a call of a try ends at an entry of the history, with the act that is due and a reply that it can
-- get
record StandsAt (t : Tables) (d : Database) (h : List Entry) (w : ℕ) (before : List CompletedCall) (c : CompletedCall) (early : List Entry) : Type 0 where
  entry : Entry
  is : slice_get h (length early) ≡ Some entry
  past : past_at (length early) h ≡ early
  by : entry.worker ≡ w
  began : op_at entry early ≡ c.op
  reply : entry.reply ≡ c.reply
  done : is_pending entry.reply ≡ false
  due : is_due (try_call d before) (without_value c.op) ≡ true
  returned : IsReplyTo t early c.op c.reply
  accepted : IsAccepted t (entry ∷ early)
  followed : FollowsDatabase t d (entry ∷ early)

stands_at : (t : Tables) (d : Database) (h : List Entry) (w : ℕ) (past : List Entry) (before : List CompletedCall) (c : CompletedCall) (early : List Entry) → IsFollowed t d h → IsPastOf past (reverse h) → writes t d w ≡ false
    → CallEnds (try_rule d) w past before c early → StandsAt t d h w before c early
stands_at t d h w past before c early f is role e =
    let x = e.entry in
    let with_past : IsPastOf (x ∷ early) (reverse h) = past_past (x ∷ early) past (reverse h) (record { since = e.since; is = e.is }) is in
    let at = entry_at h x early with_past in
    let acc : IsAccepted t (x ∷ early) = accepted_past t h (x ∷ early) f.accepted with_past in
    let fol : FollowsDatabase t d (x ∷ early) = follow_of t d h (x ∷ early) f.followed with_past in
    let role' : writes t d x.worker ≡ false = ap (writes t d) e.by ∙ role in
    let P : Act → Type 0 = λ a. IsReplyTo t early a x.reply in
    let Q : Reply → Type 0 = λ r. IsReplyTo t early c.op r in
    let R : Bool → Type 0 = λ p. (cond p (write_rule d) (try_rule d)).fits (block (cond p (write_rule d) (try_rule d)) x.worker early) (op_at x early) ≡ true in
    let due : is_due (try_call d before) (without_value c.op) ≡ true =
    (elim (step_due t (database_rules t d) x early f.declared acc fol) [
      | inl off ↦
          (let no : is_on d (op_at x early) ≡ false = on_of d (writes t d x.worker) (block (database_rules t d x.worker) x.worker early) (op_at x early) false off in
          let on : is_on d (op_at x early) ≡ true = ap (is_on d) e.began ∙ e.on in
          cc)
      | inr k ↦
          (let fits : is_due (try_call d (block (try_rule d) x.worker early)) (without_value (op_at x early)) ≡ true = subst R role' k.1 in
          ap (λ b. is_due (try_call d b) (without_value c.op)) (sym (ap (λ v. block (try_rule d) v early) e.by ∙ e.after))
          ∙ ap (λ a. is_due (try_call d (block (try_rule d) x.worker early)) (without_value a)) (sym e.began) ∙ fits)
    ]) in
    record {
      entry = x;
      is = at.0;
      past = at.1;
      by = e.by;
      began = e.began;
      reply = e.returned;
      done = e.done;
      due = due;
      returned = subst Q e.returned (subst P e.began (step_told t x early f.declared acc));
      accepted = acc;
      followed = fol;
    }

read_number : (t : Tables) (past : List Entry) (e : ℕ) (op : Act) (reply : Reply) → op ≡ Read e → is_pending reply ≡ false → IsReplyTo t past op reply → reply ≡ Number (reply_number reply)
read_number t past e op reply is done returned =
    let P : Act → Type 0 = λ a. IsReplyTo t past a reply in
    elim (subst P is returned) [
      | inl pending ↦ (let no : is_pending reply ≡ true = ap is_pending pending in cc)
      | inr k ↦ k.2 ∙ ap Number (sym (ap reply_number k.2))
    ]

-- the first call of a try is a read of the count of starts
first_due : (d : Database) (op : Act) → is_due (try_call d []) (without_value op) ≡ true → op ≡ Read d.start
first_due d op due = (due_is (Read d.start) op due).1

-- a get of a try
get_due : (d : Database) (r a : CompletedCall) (gets : List CompletedCall) (op : Act) → length gets < d.cells → is_due (try_call d (r ∷ a ∷ gets)) (without_value op) ≡ true → op ≡ Get (d.first_cell + length gets)
get_due d r a gets op lt due =
    (due_is (Get (d.first_cell + length gets)) op (ap (λ b. is_due (cond b (Some (Get (d.first_cell + length gets))) (cond (length gets == d.cells) (Some (Read d.start)) None)) (without_value op)) (sym (lt-ltb (length gets) d.cells lt)) ∙ due)).1

-- its last call
last_due : (d : Database) (r a : CompletedCall) (gets : List CompletedCall) (op : Act) → length gets ≡ d.cells → is_due (try_call d (r ∷ a ∷ gets)) (without_value op) ≡ true → op ≡ Read d.start
last_due d r a gets op len due =
    (due_is (Read d.start) op
    (ap (λ b. is_due (cond b (Some (Read d.start)) None) (without_value op)) (sym (eq-eqb (length gets) d.cells len))
    ∙ ap (λ b. is_due (cond b (Some (Get (d.first_cell + length gets))) (cond (length gets == d.cells) (Some (Read d.start)) None)) (without_value op)) (sym (le-ltb (length gets) d.cells (omega arith))) ∙ due)).1

-- the entry of a get
get_entry : (t : Tables) (x : Entry) (early : List Entry) (w y v : ℕ) → IsAccepted t (x ∷ early) → x.worker ≡ w → op_at x early ≡ Get y → x.reply ≡ Number v → x ≡ record { worker = w; act = Get y; reply = Number v }
get_entry t x early w y v acc by op returned =
    let act : x.act ≡ Get y =
    (elim (step_opened t x early acc) [
      | inl same ↦ same ∙ op
      | inr k ↦ (let P : Act → Type 0 = λ a. IsReading t a in absurd (subst P op k.0))
    ]) in
    (let entry : ℕ → Act → Reply → Entry = λ w a r. record { worker = w; act = a; reply = r } in
    ap (λ v. entry v x.act x.reply) by ∙ ap (λ a. entry w a x.reply) act ∙ ap (λ r. entry w (Get y) r) returned)

-- THE WHOLE TRY

-- an accepted try, and what is known of it when its last read began
record IsTry (t : Tables) (d : Database) (h : List Entry) (k : ℕ) (x : Entry) (a : AcceptedTry) (r i : CompletedCall) (gets : List CompletedCall) : Type 0 where
  at : slice_get h k ≡ Some x
  reader : writes t d x.worker ≡ false
  calls : block (try_rule d) x.worker (past_at k h) ≡ r ∷ i ∷ gets
  many : length gets ≡ d.cells
  op : op_at x (past_at k h) ≡ Read d.start
  returned : x.reply ≡ Number (reply_number r.reply)
  worker : a.worker ≡ x.worker
  version : a.version ≡ reply_number r.reply
  values : a.values ≡ map (λ (c : CompletedCall). reply_number c.reply) gets

record IsBegun (t : Tables) (d : Database) (h : List Entry) (w : ℕ) (version : ℕ) (r i : CompletedCall) (gets : List CompletedCall) (q : List Entry) : Type 0 where
  past : IsPastOf q (reverse h)
  calls : block (try_rule d) w q ≡ r ∷ i ∷ gets
  low : total d.start q ≤ version

begun : (t : Tables) (d : Database) (h : List Entry) (k : ℕ) (x : Entry) (a : AcceptedTry) (r i : CompletedCall) (gets : List CompletedCall) → IsFollowed t d h → IsTry t d h k x a r i gets
    → IsBegun t d h x.worker (reply_number r.reply) r i gets (began x (past_at k h))
begun t d h k x a r i gets f e =
    let past = past_at k h in
    let with_past = here h k x e.at in
    let acc : IsAccepted t (x ∷ past) = accepted_past t h (x ∷ past) f.accepted with_past in
    record {
      past = past_past (began x past) past (reverse h) (began_past x past).0 (moment_before h k);
      calls = began_block (try_rule d) x past ∙ e.calls;
      low = read_low t x past d.start (reply_number r.reply) f.declared acc e.op e.returned;
    }

-- the version was done when the first get was made
done_then : (t : Tables) (d : Database) (h : List Entry) (w : ℕ) (r i : CompletedCall) (early : List Entry) → IsFollowed t d h → writes t d w ≡ false → IsPastOf early (reverse h)
    → block (try_rule d) w early ≡ r ∷ i ∷ [] → reply_number r.reply ≤ total d.done early
done_then t d h w r i early f role is at =
    let P : List CompletedCall → Type 0 = λ calls. IsReader d early calls in
    let known : IsSnapshot d early (reply_number r.reply) [] =
    subst P at (readers d (writes t d) t early w f.shape f.declared (accepted_past t h early f.accepted is) (follow_of t d h early f.followed is) role) in
    known.done

-- between the first get and the last read nothing is put
calm_between : (t : Tables) (d : Database) (h : List Entry) (k version : ℕ) (x : Entry) (first q : List Entry) → IsFollowed t d h → IsPastOf first (reverse h) → IsPastOf q (reverse h)
    → version ≤ total d.done first → total d.start q ≤ version → length first < k → k < length q → slice_get h k ≡ Some x → is_put_on d x.act ≡ false
calm_between t d h k version x first q f is_first is_q done start after before at =
    let past = past_at k h in
    let with_past = here h k x at in
    let acc : IsAccepted t (x ∷ past) = accepted_past t h (x ∷ past) f.accepted with_past in
    let fol : FollowsDatabase t d (x ∷ past) = follow_of t d h (x ∷ past) f.followed with_past in
    let a : total d.done (past_at (length first) h) ≤ total d.done past = total_later h d.done (length first) k (omega arith) in
    let b : total d.start past ≤ total d.start (past_at (length q) h) = total_later h d.start k (length q) (omega arith) in
    let c : total d.done (past_at (length first) h) ≡ total d.done first = ap (total d.done) (past_by_length h first is_first) in
    let e : total d.start (past_at (length q) h) ≡ total d.start q = ap (total d.start) (past_by_length h q is_q) in
    put_on_op d t x past acc ∙ no_put d (writes t d) t x past f.shape f.declared acc fol (omega arith)

-- ITS VERSION

map_at : (f : CompletedCall → ℕ) (xs : List CompletedCall) (j v : ℕ) → slice_get (map f xs) j ≡ Some v → (c : CompletedCall) × (slice_get xs j ≡ Some c) × (f c ≡ v)
map_at f [] j v h = cc
map_at f (x ∷ xs) zero v h = (x, refl, (let same : f x ≡ v = cc in same))
map_at f (x ∷ xs) (suc j) v h = map_at f xs j v h

-- a value of a version in a prefix of the history is put by an entry of the history
version_at : (t : Tables) (d : Database) (h q : List Entry) (n j v : ℕ) → IsFollowed t d h → IsPastOf q (reverse h) → j < d.cells → IsVersionIn d (writes t d) n j v q → IsOfVersion t d h n j v
version_at t d h q zero j v f is lt e = e
version_at t d h q (suc turn) j v f is lt e =
    let put = put_stands d (writes t d) q j turn v e in
    let x = put.entry in
    let early = put.early in
    let with_past : IsPastOf (x ∷ early) (reverse h) = past_past (x ∷ early) q (reverse h) (record { since = put.since; is = put.is }) is in
    let at = entry_at h x early with_past in
    let writer : writes t d x.worker ≡ true =
    put_by_writer d (writes t d) t x early j v f.declared (accepted_past t h (x ∷ early) f.accepted with_past) (follow_of t d h (x ∷ early) f.followed with_past) lt put.puts in (
      length early,
      record {
        entry = x;
        is = at.0;
        writer = writer;
        puts = put.puts;
        drawn = ap (λ p. drawn_turn (block (write_rule d) x.worker p)) at.1
            ∙ ap (λ b. drawn_turn (block (cond b (write_rule d) (try_rule d)) x.worker early)) (sym writer) ∙ put.drawn;
      },
    )

-- when the last read began, the cells held the version that it returned
version_then : (t : Tables) (d : Database) (h : List Entry) (w version : ℕ) (r i : CompletedCall) (gets : List CompletedCall) (q : List Entry) (j : ℕ) (c : CompletedCall) → IsFollowed t d h → writes t d w ≡ false
    → IsBegun t d h w version r i gets q → version ≡ reply_number r.reply → slice_get gets j ≡ Some c → j < d.cells → IsVersionIn d (writes t d) version j (reply_number c.reply) q
version_then t d h w version r i gets q j c f role b same in_gets lt =
    let acc = accepted_past t h q f.accepted b.past in
    let fol = follow_of t d h q f.followed b.past in
    let R : List CompletedCall → Type 0 = λ calls. IsReader d q calls in
    let known : IsSnapshot d q (reply_number r.reply) gets = subst R b.calls (readers d (writes t d) t q w f.shape f.declared acc fol role) in
    let all = writing d (writes t d) t q f.shape f.declared acc fol in
    let low : total d.start q ≤ version = b.low in
    let done : reply_number r.reply ≤ total d.done q = known.done in
    let order : total d.done q ≤ total d.start q = lead_less d (writes t d) t q acc all in
    let drawn : issued d.turn q ≤ total d.start q = drawn_less d (writes t d) t q acc all in
    let queue = all.queue j lt in
    let some : total d.done q ≤ puts_at d j q = queue.some in
    let few : puts_at d j q ≤ issued d.turn q = queue.few in
    let made : puts_at d j q ≡ version = omega arith in
    let value : cell_value (d.first_cell + j) q ≡ reply_number c.reply = sym (known.same (omega arith) j c in_gets lt) in
    let S : ℕ → Type 0 = λ n. IsVersionIn d (writes t d) n j (cell_value (d.first_cell + j) q) q in
    let T : ℕ → Type 0 = λ v. IsVersionIn d (writes t d) version j v q in
    subst T value (subst S made (all.latest j lt))

-- ITS ENTRIES

ends_call : (t : Tables) (d : Database) (h : List Entry) (w e : ℕ) (before : List CompletedCall) (c : CompletedCall) (early : List Entry) → StandsAt t d h w before c early → c.op ≡ Read e → EndsCall h (length early) w (Read e) c.reply
ends_call t d h w e before c early s op = record {
  entry = s.entry;
  is = s.is;
  by = s.by;
  began = ap (λ p. opening_act s.entry.act (under_way w p)) s.past ∙ ap (λ v. opening_act s.entry.act (under_way v early)) (sym s.by) ∙ s.began ∙ op;
  returned = s.reply;
}

-- a get of the try
record IsGot (h : List Entry) (d : Database) (w j v n : ℕ) : Type 0 where
  is : slice_get h n ≡ Some (record { worker = w; act = Get (d.first_cell + j); reply = Number v })

got_is : (t : Tables) (d : Database) (h : List Entry) (w : ℕ) (r i : CompletedCall) (gets : List CompletedCall) (j : ℕ) (c : CompletedCall) (early : List Entry) → j < d.cells → j ≤ length gets
    → StandsAt t d h w (r ∷ i ∷ take j gets) c early → IsGot h d w j (reply_number c.reply) (length early)
got_is t d h w r i gets j c early lt le s =
    let many : length (take j gets) ≡ j = length-take-le j gets le in
    let op : c.op ≡ Get (d.first_cell + j) = get_due d r i (take j gets) c.op (omega arith) s.due ∙ ap (λ n. Get (d.first_cell + n)) many in
    let P : Act → Type 0 = λ a. IsReplyTo t early a c.reply in
    let returned : c.reply ≡ Number (cell_value (d.first_cell + j) early) = subst P op s.returned in
    let reply : c.reply ≡ Number (reply_number c.reply) = returned
    ∙ ap Number (sym (ap reply_number returned)) in
    record { is = s.is ∙ ap Some (get_entry t s.entry early w (d.first_cell + j) (reply_number c.reply) s.accepted s.by (s.began ∙ op) (s.reply ∙ reply)) }

past_shorter : (p q : List Entry) → IsPastOf p q → length p ≤ length q
past_shorter p q is = (let whole : length q ≡ length is.since + length p = ap length is.is ∙ length-append is.since p in omega arith)

-- how many calls its reader had completed there
counted : (d : Database) (h : List Entry) (v w : ℕ) (early : List Entry) → v ≡ w → past_at (length early) h ≡ early → calls_before d h v (length early) ≡ number (is_on d) w early
counted d h v w early same is = ap (λ u. number (is_on d) u (past_at (length early) h)) same ∙ ap (number (is_on d) w) is

-- THE THEOREM

whole_try : (t : Tables) (d : Database) (h : List Entry) (k : ℕ) (x : Entry) (a : AcceptedTry) (r i : CompletedCall) (gets : List CompletedCall) → IsFollowed t d h → IsTry t d h k x a r i gets → IsUndisturbed t d h k a
whole_try t d h k x a r i gets f e =
    let w = x.worker in
    let q = began x (past_at k h) in
    let calls : List CompletedCall = r ∷ i ∷ gets in
    let b = begun t d h k x a r i gets f e in
    let many : length gets ≡ d.cells = e.many in
    let some : 0 < d.cells = f.shape.some in
    let answer : CompletedCall → ℕ = λ c. reply_number c.reply in
    let S : List CompletedCall → Type 0 = λ cs. CallsStand (try_rule d) (is_on d) w q cs in
    let stand : CallsStand (try_rule d) (is_on d) w q calls = subst S b.calls (calls_stand (try_rule d) (is_on d) w q (λ before op. refl)) in
    let got : ℕ → ℕ = λ j. length (stand.place (suc (suc j))) in
    let get_at : (j : ℕ) → j < d.cells → slice_get gets j ≡ Some (get_or gets j r) = λ j lt. slice_get-get_or gets j r (omega arith) in
    let get_stands : (j : ℕ) → j < d.cells → CallEnds (try_rule d) w q (r ∷ i ∷ take j gets) (get_or gets j r) (stand.place (suc (suc j))) =
    λ j lt. stand.each (suc (suc j)) (get_or gets j r) (get_at j lt) in
    let get : (j : ℕ) → j < d.cells → StandsAt t d h w (r ∷ i ∷ take j gets) (get_or gets j r) (stand.place (suc (suc j))) =
    λ j lt. stands_at t d h w q (r ∷ i ∷ take j gets) (get_or gets j r) (stand.place (suc (suc j))) f b.past e.reader (get_stands j lt) in
    let first = stands_at t d h w q [] r (stand.place 0) f b.past e.reader (stand.each 0 r refl) in
    let op = first_due d r.op first.due in
    let reply : r.reply ≡ Number a.version =
    read_number t (stand.place 0) d.start r.op r.reply op (ap is_pending (sym first.reply) ∙ first.done) first.returned ∙ ap Number (sym e.version) in
    let start = get_stands 0 some in
    let is_start : IsPastOf (stand.place 2) (reverse h) = past_past (stand.place 2) q (reverse h)
    (record { since = start.since ++ start.entry ∷ []; is = start.is ∙ sym (append_assoc start.since (start.entry ∷ []) (stand.place 2)) }) b.past in
    let done = done_then t d h w r i (stand.place 2) f e.reader is_start start.after in
    let last : d.cells - 1 < d.cells = omega arith in
    let before_last : got (d.cells - 1) < length q = ends_before (try_rule d) w q (r ∷ i ∷ take (d.cells - 1) gets) (get_or gets (d.cells - 1) r) (stand.place (suc (suc (d.cells - 1)))) (get_stands (d.cells - 1) last) in
    let within : length q ≤ length (past_at k h) = past_shorter q (past_at k h) (began_past x (past_at k h)).0 in
    let at_k : length (past_at k h) ≡ k = length_past h k x e.at in
    let calls_of : List Entry → ℕ = number (is_on d) w in
    let at_first : calls_before d h a.worker (length (stand.place 0)) ≡ calls_of (stand.place 0) = counted d h a.worker w (stand.place 0) e.worker first.past in
    let none : calls_of (stand.place 0) + length calls ≡ calls_of q + 0 = stand.numbers 0 (omega arith) in
    let P : ℕ → Type 0 = λ v. EndsCall h (length (stand.place 0)) v (Read d.start) (Number a.version) in
    let Q : Reply → Type 0 = λ z. EndsCall h (length (stand.place 0)) w (Read d.start) z in
    record {
      first = length (stand.place 0);
      got = got;
      read = subst P (sym e.worker) (subst Q reply (ends_call t d h w d.start [] r (stand.place 0) first op));
      gets = λ j lt.
          (let c = get_or gets j r in
          let g = got_is t d h w r i gets j c (stand.place (suc (suc j))) lt (omega arith) (get j lt) in (
            answer c,
            ap (λ vs. slice_get vs j) e.values ∙ slice_get-map answer gets j ∙ ap (option_map answer) (get_at j lt),
            g.is ∙ ap (λ v. Some (record { worker = v; act = Get (d.first_cell + j); reply = Number (answer c) })) (sym e.worker),
          ));
      again = record {
        entry = x;
        is = e.at;
        by = sym e.worker;
        began = ap (λ v. opening_act x.act (under_way v (past_at k h))) e.worker ∙ e.op;
        returned = e.returned ∙ ap Number (sym e.version);
      };
      begins = stand.order 0 2 (omega arith) (omega arith);
      order = λ m n lt small. stand.order (suc (suc m)) (suc (suc n)) (omega arith) (omega arith);
      ends = omega arith;
      gets_number = λ j lt.
          (let at : calls_before d h a.worker (got j) ≡ calls_of (stand.place (suc (suc j))) = counted d h a.worker w (stand.place (suc (suc j))) e.worker (get j lt).past in
          let some : calls_of (stand.place (suc (suc j))) + length calls ≡ calls_of q + suc (suc j) = stand.numbers (suc (suc j)) (omega arith) in
          omega arith);
      again_number =
          (let at : calls_before d h a.worker k ≡ calls_of (past_at k h) = ap (λ v. number (is_on d) v (past_at k h)) e.worker in
          let then : calls_of q ≡ calls_of (past_at k h) = number_began (is_on d) x (past_at k h) in
          omega arith);
      all = ap length e.values ∙ length-map gets answer ∙ many;
      calm = λ m y after before at. calm_between t d h m (reply_number r.reply) y (stand.place 2) q f is_start b.past done b.low after (omega arith) at;
      holds = λ j v in_values.
          (let z = map_at answer gets j v (ap (λ vs. slice_get vs j) (sym e.values) ∙ in_values) in
          let lt : j < length gets = slice_get_within gets j z.0 z.1 in
          let V : ℕ → Type 0 = λ n. IsVersionIn d (writes t d) n j v q in
          let U : ℕ → Type 0 = λ u. IsVersionIn d (writes t d) (reply_number r.reply) j u q in
          version_at t d h q a.version j v f b.past (omega arith)
          (subst V (sym e.version) (subst U z.2 (version_then t d h w (reply_number r.reply) r i gets q j z.0 f e.reader b refl z.1 (omega arith)))));
    }

-- what holds of an entry that ends an accepted try
parts : (w p on : Bool) (o : Option AcceptedTry) (a : AcceptedTry) → cond (w || p) None (cond on o None) ≡ Some a → (w ≡ false) × (p ≡ false) × (on ≡ true) × (o ≡ Some a)
parts true p on o a h = cc
parts false true on o a h = cc
parts false false false o a h = cc
parts false false true o a h = (refl, refl, refl, h)

agreed_parts : (whole agreed : Bool) (z a : AcceptedTry) → cond (whole && agreed) (Some z) None ≡ Some a → (whole ≡ true) × (agreed ≡ true) × (z ≡ a)
agreed_parts true true z a h = (refl, refl, (let q : z ≡ a = cc in q))
agreed_parts true false z a h = cc
agreed_parts false agreed z a h = cc

record TryFound (t : Tables) (d : Database) (h : List Entry) (k : ℕ) (x : Entry) (a : AcceptedTry) : Type 0 where
  first : CompletedCall
  second : CompletedCall
  gets : List CompletedCall
  found : IsTry t d h k x a first second gets

try_found : (t : Tables) (d : Database) (h : List Entry) (k : ℕ) (x : Entry) (a : AcceptedTry) (calls : List CompletedCall) → IsFollowed t d h → slice_get h k ≡ Some x → writes t d x.worker ≡ false
    → is_pending x.reply ≡ false → is_on d (op_at x (past_at k h)) ≡ true → block (try_rule d) x.worker (past_at k h) ≡ calls → length calls ≡ d.cells + 2
    → agrees d (calls ++ record { op = op_at x (past_at k h); reply = x.reply } ∷ []) ≡ true
    → record { worker = x.worker; version = version_read (calls ++ record { op = op_at x (past_at k h); reply = x.reply } ∷ []); values = values_got d (calls ++ record { op = op_at x (past_at k h); reply = x.reply } ∷ []) } ≡ a
    → TryFound t d h k x a
try_found t d h k x a [] f at role done on is len agreed same = absurd (omega arith)
try_found t d h k x a (r ∷ []) f at role done on is len agreed same = absurd (omega arith)
try_found t d h k x a (r ∷ i ∷ gets) f at role done on is len agreed same =
    let past = past_at k h in
    let c : CompletedCall = record { op = op_at x past; reply = x.reply } in
    let with_past = here h k x at in
    let acc : IsAccepted t (x ∷ past) = accepted_past t h (x ∷ past) f.accepted with_past in
    let fol : FollowsDatabase t d (x ∷ past) = follow_of t d h (x ∷ past) f.followed with_past in
    let many : d.cells ≡ length gets = omega arith in
    let R : Bool → Type 0 = λ p. (cond p (write_rule d) (try_rule d)).fits (block (cond p (write_rule d) (try_rule d)) x.worker past) (op_at x past) ≡ true in
    let due : is_due (try_call d (r ∷ i ∷ gets)) (without_value (op_at x past)) ≡ true =
    (elim (step_due t (database_rules t d) x past f.declared acc fol) [
      | inl off ↦
          (let no : is_on d (op_at x past) ≡ false = on_of d (writes t d x.worker) (block (database_rules t d x.worker) x.worker past) (op_at x past) false off in
          cc)
      | inr m ↦ ap (λ b. is_due (try_call d b) (without_value (op_at x past))) (sym is) ∙ subst R role m.1
    ]) in
    let op : op_at x past ≡ Read d.start = last_due d r i gets (op_at x past) (sym many) due in
    let again : drop d.cells (gets ++ c ∷ []) ≡ c ∷ [] = ap (λ n. drop n (gets ++ c ∷ [])) many ∙ drop-append_seam gets (c ∷ []) in
    let numbers : reply_number x.reply ≡ reply_number r.reply = eqb-true (reply_number x.reply) (reply_number r.reply) (ap (λ cs. first_number cs == reply_number r.reply) (sym again) ∙ agreed) in
    let prefix : take d.cells (gets ++ c ∷ []) ≡ gets = ap (λ n. take n (gets ++ c ∷ [])) many ∙ take-append_seam gets (c ∷ []) in
    record {
      first = r;
      second = i;
      gets = gets;
      found = record {
        at = at;
        reader = role;
        calls = is;
        many = sym many;
        op = op;
        returned = read_number t past d.start (op_at x past) x.reply op done (step_told t x past f.declared acc) ∙ ap Number numbers;
        worker = ap (λ (z : AcceptedTry). z.worker) (sym same);
        version = ap (λ (z : AcceptedTry). z.version) (sym same);
        values = ap (λ (z : AcceptedTry). z.values) (sym same) ∙ ap (map (λ (z : CompletedCall). reply_number z.reply)) prefix;
      };
    }

pub undisturbed : AcceptedTriesAreUndisturbed
undisturbed t d h f k a e =
    let x = e.entry in
    let past = past_at k h in
    let calls = block (try_rule d) x.worker past in
    let c : CompletedCall = record { op = op_at x past; reply = x.reply } in
    let p = parts (writes t d x.worker) (is_pending x.reply) (is_on d (op_at x past)) (accepted_of d x.worker (calls ++ c ∷ [])) a e.ends in
    let q = agreed_parts (is_whole d (calls ++ c ∷ [])) (agrees d (calls ++ c ∷ [])) (record { worker = x.worker; version = version_read (calls ++ c ∷ []); values = values_got d (calls ++ c ∷ []) }) a p.3 in
    let longer : length (calls ++ c ∷ []) ≡ length calls + 1 = length-append calls (c ∷ []) in
    let over : d.cells + 2 < length (calls ++ c ∷ []) = ltb-true (d.cells + 2) (length (calls ++ c ∷ [])) (sym (whole_is d (calls ++ c ∷ [])) ∙ q.0) in
    let few : length calls ≤ d.cells + 2 = short d x.worker past in
    let found = try_found t d h k x a calls f e.is p.0 p.1 p.2 refl (omega arith) q.1 q.2 in
    whole_try t d h k x a found.first found.second found.gets f found.found
