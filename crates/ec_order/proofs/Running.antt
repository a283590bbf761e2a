-- The order by points is a legal sequential history: after the calls whose point is below moment k,
-- the object has the numbers of moment k.
use Rattle.std.proofs.Common.{◌≡◌, ℕ, suc, ◌+◌, ◌<◌, ◌≤◌, inl, inr, true, false, not, ◌&&◌, List, [], ◌∷◌, ◌++◌, length, Some, None, map, refl, ap, sym, ◌∙◌, arith, cond, subst, ◌==◌, unwrap_or, append_assoc, append-nil, length-append}
use Rattle.std.proofs.Math.Nat.{zero-add, add_comm}
use Rattle.std.specs.List.{All, filter}
use Rattle.std.proofs.lemmas.Bool.{eqb-true, eq-eqb, ne_eqb, and_parts, and_right}
use Rattle.std.proofs.lemmas.List.{map-append}
use Rattle.std.proofs.lemmas.List.Elements.{All-nil, All-cons, All-append, All-weaker, All-head, All-tail, All-map, All-filter, filter-append, filter_passes}
use Rattle.ec_count.specs.Tables.{Tables, IsDeclared}
use Rattle.ec_core.specs.declared.act.Act.{Act}
use Rattle.ec_core.specs.declared.act.Act.TheVariants.{Advance, Read, Await, Ticket, Put}
use Rattle.ec_core.specs.declared.act.Reply.{Reply}
use Rattle.ec_core.specs.declared.act.Entry.{Entry}
use Rattle.ec_core.specs.Counts.{total, issued, cell_value}
use Rattle.ec_core.specs.Calls.{under_way, call_with_act}
use Rattle.ec_core.specs.Rounds.{event_or, IsPastOf}
use Rattle.ec_core.specs.Acceptance.{IsAccepted}
use Rattle.ec_core.proofs.shared.Moments.{accepted_before}
use Rattle.ec_order.specs.declared.call.Call.{Call}
use Rattle.ec_order.specs.declared.placed.Placed.{Placed}
use Rattle.ec_order.specs.Calls.{call_of_entries, ended_by, finished_calls, is_reading}
use Rattle.ec_core.specs.CallLists.{reply_number}
use Rattle.ec_order.specs.Points.{point_of, first_entries}
use Rattle.ec_order.specs.Sequential.{SequentialState, zero_state, update_at, sequential_reply, sequential_after, sequential_after_all, IsLegalHistory}
use Rattle.ec_order.specs.Orders.{calls_in}
use Rattle.ec_order.specs.Points.{with_point, reads_at, acts_at, at_moment, by_moments}
use Rattle.ec_order.proofs.Chains.{past_before}
use Rattle.ec_order.proofs.Points.{first_of_past}
use Rattle.ec_order.proofs.Ends.{Shows, Ends, ends}
use Rattle.ec_order.proofs.Fits.{Fits, all_fit, has_point, acts_there}
use Rattle.ec_order.proofs.Sorting.{filter_none}

-- SEQUENTIAL HISTORIES

pub run_append : (o : SequentialState) (xs ys : List Call) → IsLegalHistory o xs → IsLegalHistory (sequential_after_all o xs) ys → IsLegalHistory o (xs ++ ys)
run_append o [] ys a b = b
run_append o (x ∷ xs) ys a b = (a.0, run_append (sequential_after o x.op) xs ys a.1 b)

pub after_append : (o : SequentialState) (xs ys : List Call) → sequential_after_all o (xs ++ ys) ≡ sequential_after_all (sequential_after_all o xs) ys
after_append o [] ys = refl
after_append o (x ∷ xs) ys = after_append (sequential_after o x.op) xs ys

-- an object has run the calls of ps, and has the numbers after a past
pub record RunsTo (ps : List Placed) (o s : SequentialState) (past : List Entry) : Type 0 where
  pub run : IsLegalHistory o (calls_in ps)
  pub ends_in : sequential_after_all o (calls_in ps) ≡ s
  pub shows : Shows s past

runs_on : (xs ys : List Placed) (o m s : SequentialState) (early late : List Entry) → RunsTo xs o m early → RunsTo ys m s late → RunsTo (xs ++ ys) o s late
runs_on xs ys o m s early late a b =
    let e : calls_in (xs ++ ys) ≡ calls_in xs ++ calls_in ys = map-append (λ (p : Placed). p.call) xs ys in
    let r : IsLegalHistory (sequential_after_all o (calls_in xs)) (calls_in ys) = subst (λ n. IsLegalHistory n (calls_in ys)) (sym a.ends_in) b.run in
    let run : IsLegalHistory o (calls_in xs ++ calls_in ys) = run_append o (calls_in xs) (calls_in ys) a.run r in
    record {
      run = subst (IsLegalHistory o) (sym e) run;
      ends_in = ap (sequential_after_all o) e ∙ after_append o (calls_in xs) (calls_in ys) ∙ ap (λ n. sequential_after_all n (calls_in ys)) a.ends_in ∙ b.ends_in;
      shows = b.shows;
    }

-- ONE STEP

raised_at : (f : ℕ → ℕ) (n m k : ℕ) → f n ≡ k → update_at f m (f m + 1) n ≡ cond (m == n) 1 0 + k
raised_at f n m k h =
    elim (m == n) as (λ b. (m == n) ≡ b → cond b (f m + 1) (f n) ≡ cond b 1 0 + k) [
      | true ↦ λ e. (let same : m ≡ n = eqb-true m n e in ap (λ v. f v + 1) same ∙ ap (λ v. v + 1) h ∙ add_comm k 1)
      | false ↦ λ e. h ∙ sym (zero-add k)
    ] refl

kept : (a k : ℕ) → a ≡ k → a ≡ 0 + k
kept a k h = h ∙ sym (zero-add k)

stored_at : (f : ℕ → ℕ) (n m v k : ℕ) → f n ≡ k → update_at f m v n ≡ unwrap_or (cond (m == n) (Some v) None) k
stored_at f n m v k h = elim (m == n) as (λ b. cond b v (f n) ≡ unwrap_or (cond b (Some v) None) k) [ true ↦ refl | false ↦ h ]

-- the numbers of the object after an act
pub shows_after : (o : SequentialState) (w : ℕ) (act : Act) (reply : Reply) (past : List Entry) → Shows o past → Shows (sequential_after o act) (record { worker = w; act = act; reply = reply } ∷ past)
unfolding total issued cell_value
shows_after o w (Advance f) reply past h = record { events = λ e. raised_at o.events e f (total e past) (h.events e); sequencers = λ q. kept (o.sequencers q) (issued q past) (h.sequencers q); cells = h.cells }
shows_after o w (Ticket f) reply past h = record { events = λ e. kept (o.events e) (total e past) (h.events e); sequencers = λ q. raised_at o.sequencers q f (issued q past) (h.sequencers q); cells = h.cells }
shows_after o w (Put f v) reply past h = record { events = λ e. kept (o.events e) (total e past) (h.events e); sequencers = λ q. kept (o.sequencers q) (issued q past) (h.sequencers q); cells = λ x. stored_at o.cells x f v (cell_value x past) (h.cells x) }
shows_after o w act reply past h = record { events = λ e. kept (o.events e) (total e past) (h.events e); sequencers = λ q. kept (o.sequencers q) (issued q past) (h.sequencers q); cells = h.cells }

-- THE READS AND AWAITS OF A MOMENT

reading_quiet : (op : Act) (o : SequentialState) → is_reading op ≡ true → sequential_after o op ≡ o
reading_quiet (Read e) o h = refl
reading_quiet (Await e v) o h = refl
reading_quiet op o h = cc

-- a placed call of a past
pub record IsPlaced (past : List Entry) (p : Placed) : Type 0 where
  pub fits : Fits past p.call
  pub point : p.point ≡ point_of past p.call

abbrev IsQuietRun : SequentialState → Placed → Type 0
IsQuietRun o p = (sequential_reply o p.call.op ≡ Some p.call.reply) × (sequential_after o p.call.op ≡ o)

quiet_runs : (o : SequentialState) (past : List Entry) (ps : List Placed) → Shows o past → All (IsQuietRun o) ps → RunsTo ps o o past
quiet_runs o past [] h all = record { run = tt; ends_in = refl; shows = h }
quiet_runs o past (p ∷ ps) h all =
    let here : IsQuietRun o p = All-head (IsQuietRun o) p ps all in
    let rest = quiet_runs o past ps h (All-tail (IsQuietRun o) p ps all) in
    record {
      run = (here.0, subst (λ s. IsLegalHistory s (calls_in ps)) (sym here.1) rest.run);
      ends_in = ap (λ s. sequential_after_all s (calls_in ps)) here.1 ∙ rest.ends_in;
      shows = h;
    }

read_runs : (whole past : List Entry) (p : Placed) (o : SequentialState) → IsPastOf past whole → IsPlaced whole p → Shows o past → reads_at (length past) p ≡ true → IsQuietRun o p
read_runs whole past p o in' h shows at =
    let k = length past in
    let e = event_or p.call.op in
    let b = and_parts (p.point == k) (is_reading p.call.op) at in
    let here : point_of whole p.call ≡ k = sym h.point ∙ eqb-true p.point k b.0 in
    let point = has_point whole p.call h.fits b.1 in
    let number : o.events e ≡ reply_number p.call.reply =
    shows.events e ∙ ap (total e) (sym (first_of_past past whole in')) ∙ ap (λ j. total e (first_entries j whole)) (sym here) ∙ point.total in
    (h.fits.returned b.1 o number, reading_quiet p.call.op o b.1)

reads_run : (whole past : List Entry) (ps : List Placed) (o : SequentialState) → IsPastOf past whole → All (IsPlaced whole) ps → Shows o past
    → RunsTo (filter (reads_at (length past)) ps) o o past
reads_run whole past ps o in' all h =
    let k = length past in
    let kept_all : All (IsPlaced whole) (filter (reads_at k) ps) = All-filter (reads_at k) (IsPlaced whole) ps all in
    let at_all : All (λ p. reads_at k p ≡ true) (filter (reads_at k) ps) = filter_passes (reads_at k) ps in
    quiet_runs o past (filter (reads_at k) ps) h (λ i d lt. read_runs whole past _ o in' (kept_all i d lt) h (at_all i d lt))

-- THE CALL AT A MOMENT

acts_last : (whole : List Entry) (k : ℕ) (c : Call) → (c.last ≡ k → ⊥) → acts_at k (with_point whole c) ≡ false
acts_last whole k c h =
    elim (is_reading c.op) as (λ b. is_reading c.op ≡ b → ((point_of whole c == k) && not b) ≡ false) [
      | true ↦ λ r. and_right (point_of whole c == k) false refl
      | false ↦ λ r. (let there : point_of whole c ≡ c.last = acts_there whole c r in
          ap (λ b. b && true) (ne_eqb (point_of whole c) k (λ e. h (sym there ∙ e))))
    ] refl

-- a call that did not end at a position does not act there
acts_elsewhere : (whole : List Entry) (k : ℕ) (cs : List Call) → All (λ (c : Call). c.last ≡ k → ⊥) cs → filter (acts_at k) (map (with_point whole) cs) ≡ []
acts_elsewhere whole k cs h =
    filter_none (acts_at k) (map (with_point whole) cs)
    (All-map (λ p. acts_at k p ≡ false) (with_point whole) cs (All-weaker (λ (c : Call). c.last ≡ k → ⊥) (λ c. acts_at k (with_point whole c) ≡ false) (λ c. acts_last whole k c) cs h))

-- the calls that ended since a past
abbrev EndedFrom : ℕ → Call → Type 0
EndedFrom k c = k ≤ c.last

pub ended_last : (t : Tables) (x : Entry) (past : List Entry) → Ends t x past (under_way x.worker past) → All (λ (c : Call). c.last ≡ length past) (ended_by t x (call_with_act x.act past (under_way x.worker past)))
ended_last t x past (inl n) = rw n.is (All-nil (λ (c : Call). c.last ≡ length past))
ended_last t x past (inr (inl r)) = rw r.is (All-cons (λ (c : Call). c.last ≡ length past) (call_of_entries t x r.op (past ∷ r.rest)) [] refl (All-nil (λ (c : Call). c.last ≡ length past)))
ended_last t x past (inr (inr a)) = rw a.is (All-cons (λ (c : Call). c.last ≡ length past) (call_of_entries t x x.act (past ∷ [])) [] refl (All-nil (λ (c : Call). c.last ≡ length past)))

-- the calls that act at a later past's moments
pub record Later (t : Tables) (early late : List Entry) : Type 0 where
  pub calls : List Call
  pub is : finished_calls t late ≡ finished_calls t early ++ calls
  pub since : All (EndedFrom (length early)) calls

later : (t : Tables) (since early : List Entry) → IsDeclared t → IsAccepted t (since ++ early) → Later t early (since ++ early)
unfolding finished_calls
later t [] early d acc = record { calls = []; is = sym (append-nil (finished_calls t early)); since = All-nil (EndedFrom (length early)) }
later t (x ∷ since) early d acc =
    let k = later t since early d acc.1 in
    let past = since ++ early in
    let more = ended_by t x (call_with_act x.act past (under_way x.worker past)) in
    let long : length past ≡ length since + length early = length-append since early in
    record {
      calls = k.calls ++ more;
      is = ap (λ cs. cs ++ more) k.is ∙ append_assoc (finished_calls t early) k.calls more;
      since = All-append (EndedFrom (length early)) k.calls more k.since
          (All-weaker (λ (c : Call). c.last ≡ length past) (EndedFrom (length early)) (λ c h. omega arith) more (ended_last t x past (ends t x past d acc)));
    }

-- what acts at a moment is what the entry there ends
acts_here : (t : Tables) (whole since past : List Entry) (x : Entry) → IsDeclared t → IsAccepted t (since ++ x ∷ past)
    → filter (acts_at (length past)) (map (with_point whole) (finished_calls t (since ++ x ∷ past)))
    ≡ filter (acts_at (length past)) (map (with_point whole) (ended_by t x (call_with_act x.act past (under_way x.worker past))))
unfolding finished_calls
acts_here t whole since past x d acc =
    let k = length past in
    let F : List Call → List Placed = λ cs. filter (acts_at k) (map (with_point whole) cs) in
    let l = later t since (x ∷ past) d acc in
    let acc' : IsAccepted t (x ∷ past) = accepted_before t since (x ∷ past) acc in
    let before = finished_calls t past in
    let here = ended_by t x (call_with_act x.act past (under_way x.worker past)) in
    let split : (us vs : List Call) → F (us ++ vs) ≡ F us ++ F vs = λ us vs. ap (filter (acts_at k)) (map-append (with_point whole) us vs) ∙ filter-append (acts_at k) (map (with_point whole) us) (map (with_point whole) vs) in
    let old : F before ≡ [] = acts_elsewhere whole k before (All-weaker (Fits past) (λ (c : Call). c.last ≡ k → ⊥) (λ c f e. (let lt : c.last < length past = f.last in omega arith)) before (all_fit t past d acc'.1)) in
    let new : F l.calls ≡ [] = acts_elsewhere whole k l.calls (All-weaker (EndedFrom (suc k)) (λ (c : Call). c.last ≡ k → ⊥) (λ c h e. omega arith) l.calls l.since) in
    ap F l.is ∙ split (before ++ here) l.calls ∙ ap (λ zs. zs ++ F l.calls) (split before here) ∙ ap (λ zs. (zs ++ F here) ++ F l.calls) old ∙ ap (λ zs. F here ++ zs) new ∙ append-nil (F here)

-- the call at a moment runs, if there is one
entry_runs : (t : Tables) (whole past : List Entry) (x : Entry) (o : SequentialState) → Ends t x past (under_way x.worker past) → Shows o past
    → RunsTo (filter (acts_at (length past)) (map (with_point whole) (ended_by t x (call_with_act x.act past (under_way x.worker past))))) o (sequential_after o x.act) (x ∷ past)
entry_runs t whole past x o (inl n) h =
    rw n.is (record { run = tt; ends_in = sym (n.quiet o); shows = shows_after o x.worker x.act x.reply past h })
entry_runs t whole past x o (inr (inl r)) h =
    let c = call_of_entries t x r.op (past ∷ r.rest) in
    let none : filter (acts_at (length past)) (with_point whole c ∷ []) ≡ [] =
    ap (λ b. cond ((point_of whole c == length past) && not b) (with_point whole c ∷ []) []) r.reading ∙ ap (λ b. cond b (with_point whole c ∷ []) []) (and_right (point_of whole c == length past) false refl) in
    rw (r.is, none) (record { run = tt; ends_in = sym (r.quiet o); shows = shows_after o x.worker x.act x.reply past h })
entry_runs t whole past x o (inr (inr a)) h =
    let c = call_of_entries t x x.act (past ∷ []) in
    let there : point_of whole c ≡ length past = acts_there whole c a.acting in
    let one : filter (acts_at (length past)) (with_point whole c ∷ []) ≡ with_point whole c ∷ [] =
    ap (λ b. cond ((point_of whole c == length past) && not b) (with_point whole c ∷ []) []) a.acting ∙ ap (λ b. cond (b && true) (with_point whole c ∷ []) []) (eq-eqb (point_of whole c) (length past) there) in
    rw (a.is, one) (record { run = (a.returned o h, tt); ends_in = refl; shows = shows_after o x.worker x.act x.reply past h })

-- THE WHOLE ORDER

-- what the object is after what has its point before a past's end
pub record Reaches (t : Tables) (whole past : List Entry) : Type 0 where
  pub object : SequentialState
  pub runs : RunsTo (by_moments (map (with_point whole) (finished_calls t whole)) (length past)) zero_state object past

pub reaches : (t : Tables) (whole past since : List Entry) → IsDeclared t → IsAccepted t whole → All (IsPlaced whole) (map (with_point whole) (finished_calls t whole)) → whole ≡ since ++ past
    → Reaches t whole past
unfolding by_moments total issued cell_value
reaches t whole [] since d acc all is = record { object = zero_state; runs = record { run = tt; ends_in = refl; shows = record { events = λ e. refl; sequencers = λ q. refl; cells = λ x. refl } } }
reaches t whole (x ∷ past) since d acc all is =
    let ps = map (with_point whole) (finished_calls t whole) in
    let k = length past in
    let in' : IsPastOf (x ∷ past) whole = record { since = since; is = is } in
    let acc' : IsAccepted t (since ++ x ∷ past) = subst (IsAccepted t) is acc in
    let one : x ∷ past ≡ (x ∷ []) ++ past = refl in
    let before = reaches t whole past (since ++ x ∷ []) d acc all (is ∙ sym (append_assoc since (x ∷ []) past)) in
    let o = before.object in
    let shows : Shows o past = before.runs.shows in
    let reads : RunsTo (filter (reads_at k) ps) o o past = reads_run whole past ps o (past_before x past whole in') all shows in
    let here : RunsTo (filter (acts_at k) (map (with_point whole) (ended_by t x (call_with_act x.act past (under_way x.worker past))))) o (sequential_after o x.act) (x ∷ past) =
    entry_runs t whole past x o (ends t x past d (accepted_before t since (x ∷ past) acc')) shows in
    let same : filter (acts_at k) ps ≡ filter (acts_at k) (map (with_point whole) (ended_by t x (call_with_act x.act past (under_way x.worker past)))) =
    ap (λ w. filter (acts_at k) (map (with_point whole) (finished_calls t w))) is ∙ acts_here t whole since past x d acc' in
    let acts : RunsTo (filter (acts_at k) ps) o (sequential_after o x.act) (x ∷ past) = subst (λ ys. RunsTo ys o (sequential_after o x.act) (x ∷ past)) (sym same) here in
    record {
      object = sequential_after o x.act;
      runs = runs_on (by_moments ps k) (at_moment ps k) zero_state o (sequential_after o x.act) past (x ∷ past) before.runs
          (runs_on (filter (reads_at k) ps) (filter (acts_at k) ps) o o (sequential_after o x.act) past (x ∷ past) reads acts);
    }
