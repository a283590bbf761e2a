-- The state of a group stays right if it doesn't process entries whose call is not on the group,
-- and goes that complete no call.
use Rattle.std.proofs.Common.{◌≡◌, ℕ, suc, ◌+◌, ◌-◌, ◌<◌, ◌≤◌, ◌==◌, ◌&&◌, ◌||◌, not, nat_le, min}
use Rattle.std.proofs.Common.{Bool, true, false, List, [], ◌∷◌, ◌++◌, length, replicate, Option}
use Rattle.std.proofs.Common.{None, Some, is_some, refl, ap, sym, ◌∙◌, arith, cond, subst}
use Rattle.std.proofs.Common.{true≢false, append-nil, append_assoc}
use Rattle.std.specs.Option.{option_map, option_to_list}
use Rattle.std.specs.List.{filter}
use Rattle.std.proofs.Math.Nat.{min-eq_left, min-eq_right, zero-min}
use Rattle.std.proofs.lemmas.Bool.{leb-true, leb-false, le-leb}
use Rattle.std.proofs.lemmas.List.{length-append, length-replicate, replicate-append-replicate}
use Rattle.ec_count.specs.Tables.{Tables}
use Rattle.ec_core.specs.declared.act.Act.{Act}
use Rattle.ec_core.specs.declared.act.Act.TheVariants.{Go, Put, Get}
use Rattle.ec_core.specs.declared.act.Entry.{Entry}
use Rattle.ec_core.specs.Calls.{CallSoFar, under_way, is_go, is_pending, is_intermediate}
use Rattle.ec_core.specs.Counts.{total, is_advance}
use Rattle.ec_core.specs.Following.{CompletedCall, Rule, block, opening_act}
use Rattle.ec_core.proofs.shared.Following.{op_at}
use Rattle.ec_core.proofs.shared.Tracking.{going, by_going}
use Rattle.ec_buffer.specs.Shapes.{Buffer}
use Rattle.ec_buffer.specs.Follows as buffers
use Rattle.ec_buffer.proofs.shared.LeftOut.{delivering_off, delivering_going}
use Rattle.ec_database.specs.Shapes.{Database}
use Rattle.ec_database.specs.Following as databases
use Rattle.ec_database.specs.Following.{write_rule, try_rule, writes, database_rules}
use Rattle.ec_database.specs.Tries.{accepted_of, ended_at}
use Rattle.ec_database.proofs.shared.LeftOut.{versioning_off, versioning_going, none_going}
use Rattle.ec_semaphore.specs.Shapes.{Semaphore}
use Rattle.ec_semaphore.specs.Uses as semaphores
use Rattle.ec_semaphore.specs.Auditing.{BalanceAuditModel, RepresentsBalance}
use Rattle.ec_semaphore.specs.Balances.{ups}
use Rattle.ec_semaphore.proofs.shared.LeftOut.{counted_off, counted_going, pairing_going}
use Rattle.ec_walk.specs.Walks.{is_on}
use Rattle.ec_draw.specs.declared.window.Window.{Window}
use Rattle.ec_draw.specs.declared.arrow.Move.{Move}
use Rattle.ec_draw.specs.declared.arrow.Move.TheVariants as moves
use Rattle.ec_draw.specs.declared.finding.GroupState.{GroupState}
use Rattle.ec_draw.specs.declared.finding.GroupState.TheVariants as finds
use Rattle.ec_draw.specs.Balances.{BalanceState, RepresentsCurve, IsSmall, left_by, units_left_after, units_left_at_moments, moments}
use Rattle.ec_draw.specs.Balances.{pad, list_if_moment}
use Rattle.ec_draw.specs.Shades.{TriesModel, RepresentsTries, begins_list, list_start, shade, shades_in}
use Rattle.ec_draw.specs.Shades.{shades_shown, span_at, is_in}
use Rattle.ec_draw.specs.Arrows.{MovesModel, RepresentsMoves, is_move, places}
use Rattle.ec_draw.specs.kept.Findings.{group_of, FindsOn}

-- BALANCES

pub told_long : (w : Window) (k n : ℕ) → k ≤ w.to
    → length (list_if_moment w k n) + (k - w.from) ≡ k + 1 - w.from
told_long w k n le =
    elim (nat_le w.from k) as (λ b. nat_le w.from k ≡ b
    → length (cond (b && nat_le k w.to) (n ∷ []) []) + (k - w.from) ≡ k + 1 - w.from) [
      | true ↦ λ e. (let low = leb-true w.from k e in
          let one : length (cond (nat_le k w.to) (n ∷ []) []) ≡ 1 =
          ap (λ c. length (cond c (n ∷ []) [])) (le-leb k w.to le) in
          omega arith)
      | false ↦ λ e. (let above = leb-false w.from k e in omega arith)
    ] refl

-- after the window no moment is shown
told_behind : (w : Window) (k n : ℕ) → w.to < k → list_if_moment w k n ≡ []
told_behind w k n behind =
    elim (nat_le k w.to) as (λ b. nat_le k w.to ≡ b
    → cond (nat_le w.from k && b) (n ∷ []) [] ≡ []) [
      | true ↦ λ e. (let low = leb-true k w.to e in absurd (omega arith))
      | false ↦ λ e. none (nat_le w.from k)
    ] refl
  where
    none : (b : Bool) → cond (b && false) (n ∷ []) [] ≡ []
    none true = refl
    none false = refl

-- the moments after one more entry
moments_next : (w : Window) (k n : ℕ)
    → moments w (k + 1) ≡ moments w k + length (list_if_moment w (k + 1) n)
moments_next w k n =
    elim (nat_le (k + 1) w.to) as (λ b. nat_le (k + 1) w.to ≡ b
    → moments w (k + 1) ≡ moments w k + length (list_if_moment w (k + 1) n)) [
      | true ↦ λ e.
          (let low = leb-true (k + 1) w.to e in
          let now : min (k + 1) w.to ≡ k + 1 = min-eq_left low in
          let was : min k w.to ≡ k = min-eq_left (omega arith) in
          let returned = told_long w (k + 1) n low in
          omega arith)
      | false ↦ λ e.
          (let above = leb-false (k + 1) w.to e in
          let now : min (k + 1) w.to ≡ w.to = min-eq_right (omega arith) in
          let was : min k w.to ≡ w.to = min-eq_right (omega arith) in
          let none = ap length (told_behind w (k + 1) n (omega arith)) in
          omega arith)
    ] refl

pub told_alike : (w : Window) (k n : ℕ)
    → replicate (length (list_if_moment w k n)) n ≡ list_if_moment w k n
told_alike w k n =
    elim (nat_le w.from k && nat_le k w.to) as (λ b. replicate (length (cond b (n ∷ []) [])) n
    ≡ cond b (n ∷ []) []) [ true ↦ refl | false ↦ refl ]

-- the numbers up to one more moment
pub pad_more : (w : Window) (k n : ℕ) (hs : List ℕ) → length hs ≤ moments w k
    → hs ++ replicate (moments w (k + 1) - length hs) n
    ≡ (hs ++ replicate (moments w k - length hs) n) ++ list_if_moment w (k + 1) n
pad_more w k n hs few =
    let next = moments_next w k n in
    let more : moments w (k + 1) - length hs ≡ (moments w k - length hs)
    + length (list_if_moment w (k + 1) n) = omega arith in
    ap (λ m. hs ++ replicate m n) more
    ∙ ap (λ l. hs ++ l)
    (sym (replicate-append-replicate (moments w k - length hs) (length (list_if_moment w (k + 1) n)) n))
    ∙ ap (λ l. hs ++ (replicate (moments w k - length hs) n ++ l)) (told_alike w (k + 1) n)
    ∙ sym (append_assoc hs (replicate (moments w k - length hs) n) (list_if_moment w (k + 1) n))

pub lefts_many : (s : Semaphore) (w : Window) (past : List Entry)
    → length (units_left_at_moments s w past) ≡ moments w (length past)
unfolding units_left_at_moments
lefts_many s w [] =
    let none : min 0 w.to ≡ 0 = zero-min w.to in
    let returned = told_long w 0 (units_left_after s []) (omega arith) in
    omega arith
lefts_many s w (x ∷ past) =
    let was = lefts_many s w past in
    let n = units_left_after s (x ∷ past) in
    let next = moments_next w (length past) n in
    let all = length-append (units_left_at_moments s w past) (list_if_moment w (length past + 1) n) in
    let one : length past + 1 ≡ suc (length past) = omega arith in
    all ∙ ap (λ m. m + length (list_if_moment w (length past + 1) n)) was ∙ sym next
    ∙ ap (moments w) one

pub small_before : (s : Semaphore) (x : Entry) (past : List Entry) → IsSmall s (x ∷ past)
    → IsSmall s past
unfolding total
small_before s x past small =
    let more : total s.count (x ∷ past) ≡ cond {A = ℕ} (is_advance s.count x.act) 1 0
    + total s.count past = refl in
    omega arith

-- the units left by the audit are those that the semaphore has left
pub left_is : (a : BalanceAuditModel) (past : List Entry) → RepresentsBalance a past
    → left_by a ≡ units_left_after a.shape past
left_is a past counted = ap (λ n. a.shape.initial + n - a.downs) counted.ups
    ∙ ap (λ n. a.shape.initial + ups a.shape past - n) counted.downs

-- no more numbers are stored than moments are shown
pub few_kept : (s : Semaphore) (w : Window) (past : List Entry) (n : ℕ) (hs : List ℕ)
    → hs ++ replicate (moments w (length past) - length hs) n ≡ units_left_at_moments s w past
    → length hs ≤ moments w (length past)
few_kept s w past n hs was =
    let m = moments w (length past) in
    let long = sym (length-append hs (replicate (m - length hs) n)) ∙ ap length was
    ∙ lefts_many s w past in
    let rest = length-replicate (m - length hs) n in
    omega arith

-- a state stays right after an entry that its audit does not process
balance_kept : (c : BalanceState) (x : Entry) (past : List Entry)
    → RepresentsBalance c.audit (x ∷ past)
    → RepresentsCurve c past → RepresentsCurve c (x ∷ past)
unfolding units_left_at_moments
balance_kept c x past counted is =
    let s = c.audit.shape in
    let w = c.window in
    record {
      counted = counted;
      heights = λ ok small.
          (let was = is.heights ok (small_before s x past small) in
          let few = few_kept s w past (left_by c.audit) c.heights was in
          let one : suc (length past) ≡ length past + 1 = omega arith in
          ap (pad c) one ∙ pad_more w (length past) (left_by c.audit) c.heights few
          ∙ ap (λ l. l ++ list_if_moment w (length past + 1) (left_by c.audit)) was
          ∙ ap (λ n. units_left_at_moments s w past ++ list_if_moment w (length past + 1) n)
          (left_is c.audit (x ∷ past) counted));
    }

balance_off : (c : BalanceState) (x : Entry) (past : List Entry)
    → semaphores.is_on c.audit.shape (op_at x past) ≡ false → RepresentsCurve c past
    → RepresentsCurve c (x ∷ past)
balance_off c x past off is = balance_kept c x past (counted_off c.audit x past off is.counted) is

balance_going : (c : BalanceState) (x : Entry) (past : List Entry) → is_intermediate x ≡ true
    → RepresentsCurve c past
    → RepresentsCurve c (x ∷ past)
balance_going c x past on is = balance_kept c x past (counted_going c.audit x past on is.counted) is

-- TRIES

pub concerns_is : (t : Tables) (d : Database) (w : ℕ) (act : Act)
    → (database_rules t d w).concerns [] act ≡ databases.is_on d act
concerns_is t d w act =
    elim (writes t d w) as (λ b. (cond b (write_rule d) (try_rule d)).concerns [] act
    ≡ databases.is_on d act) [ true ↦ refl | false ↦ refl ]

begins_none : (d : Database) (act : Act) (o : Option CallSoFar)
    → databases.is_on d (opening_act act o) ≡ false
    → (not (is_go act) && databases.is_on d act) ≡ false
begins_none d Go o h = refl
begins_none d act o h = h

begins_off : (t : Tables) (d : Database) (w : ℕ) (calls : List CompletedCall) (act : Act)
    (o : Option CallSoFar) → databases.is_on d (opening_act act o) ≡ false
    → begins_list (database_rules t d w) calls act ≡ false
begins_off t d w [] act o off = ap (λ b. not (is_go act) && b) (concerns_is t d w act)
    ∙ begins_none d act o off
begins_off t d w (c ∷ calls) act o off = refl

start_off : (t : Tables) (d : Database) (w : ℕ) (x : Entry) (past : List Entry)
    → databases.is_on d (op_at x past) ≡ false
    → list_start (database_rules t d w) w (x ∷ past) ≡ list_start (database_rules t d w) w past
unfolding list_start
start_off t d w x past off =
    let r = database_rules t d w in
    ap (λ b. cond (x.worker == w && b) (length past) (list_start r w past))
    (begins_off t d w (block r w past) x.act (under_way x.worker past) off) ∙ none (x.worker == w)
  where
    none : (b : Bool) → cond (b && false) (length past) (list_start (database_rules t d w) w past)
        ≡ list_start (database_rules t d w) w past
    none true = refl
    none false = refl

ended_off : (d : Database) (writers : ℕ → Bool) (x : Entry) (past : List Entry)
    → databases.is_on d (op_at x past) ≡ false → ended_at d writers x past ≡ None
ended_off d writers x past off =
    let calls = block (try_rule d) x.worker past in
    let ended = accepted_of d x.worker
    (calls ++ record { op = op_at x past; reply = x.reply } ∷ []) in
    let none : cond (databases.is_on d (op_at x past)) ended None ≡ None =
    ap (λ b. cond b ended None) off in
    elim (writers x.worker || is_pending x.reply) as (λ b. cond b None
    (cond (databases.is_on d (op_at x past)) ended None) ≡ None) [ true ↦ refl | false ↦ none ]

shades_off : (t : Tables) (d : Database) (w : Window) (x : Entry) (past : List Entry)
    → databases.is_on d (op_at x past) ≡ false
    → shades_shown t d w (x ∷ past) ≡ shades_shown t d w past
unfolding shades_in
shades_off t d w x past off =
    ap (λ o. filter (is_in w)
    (shades_in t d past ++ option_to_list (option_map (shade d.start (span_at t d x past)) o)))
    (ended_off d (writes t d) x past off)
    ∙ ap (filter (is_in w)) (append-nil (shades_in t d past))

trying_off : (a : TriesModel) (x : Entry) (past : List Entry)
    → databases.is_on a.shape (op_at x past) ≡ false → RepresentsTries a past
    → RepresentsTries a (x ∷ past)
trying_off a x past off is = record {
  shape = is.shape;
  audit = versioning_off a.audit x past
      (subst (λ (d : Database). databases.is_on d (op_at x past) ≡ false) (sym is.shape) off)
      is.audit;
  starts = λ w lt. is.starts w lt ∙ ap Some (sym (start_off a.audit.setup a.shape w x past off));
  shades = λ ok. is.shades ok ∙ sym (shades_off a.audit.setup a.shape a.window x past off);
}

begins_going : (r : Rule) (calls : List CompletedCall) → begins_list r calls Go ≡ false
begins_going r [] = refl
begins_going r (c ∷ calls) = refl

start_going : (r : Rule) (v w : ℕ) (past : List Entry)
    → list_start r v (going w ∷ past) ≡ list_start r v past
unfolding list_start
start_going r v w past =
    ap (λ b. cond (w == v && b) (length past) (list_start r v past))
    (begins_going r (block r v past)) ∙ none (w == v)
  where
    none : (b : Bool) → cond (b && false) (length past) (list_start r v past) ≡ list_start r v past
    none true = refl
    none false = refl

shades_going : (t : Tables) (d : Database) (w : Window) (v : ℕ) (past : List Entry)
    → shades_shown t d w (going v ∷ past) ≡ shades_shown t d w past
unfolding shades_in
shades_going t d w v past =
    ap (λ o. filter (is_in w)
    (shades_in t d past
    ++ option_to_list (option_map (shade d.start (span_at t d (going v) past)) o)))
    (none_going d (writes t d) v past)
    ∙ ap (filter (is_in w)) (append-nil (shades_in t d past))

trying_going : (a : TriesModel) (x : Entry) (past : List Entry) → is_intermediate x ≡ true
    → RepresentsTries a past
    → RepresentsTries a (x ∷ past)
trying_going a x past on is =
    by_going (λ y. is_intermediate y ≡ true → RepresentsTries a (y ∷ past)) (λ v on. record {
      shape = is.shape;
      audit = versioning_going a.audit (going v) past on is.audit;
      starts = λ w lt. is.starts w lt
          ∙ ap Some (sym (start_going (database_rules a.audit.setup a.shape w) w v past));
      shades = λ ok. is.shades ok ∙ sym (shades_going a.audit.setup a.shape a.window v past);
    }) x on on

-- MOVES

move_off : (m : Move) (b : Buffer) (act : Act) (o : Option CallSoFar)
    → buffers.is_on b (opening_act act o) ≡ false → is_move m b act ≡ false
move_off moves.Put b (Put y v) o h = ap (λ c. is_some (cond c (Some v) None)) h
move_off moves.Put b act o h = refl
move_off moves.Get b (Get y) o h = h
move_off moves.Get b act o h = refl

places_off : (m : Move) (b : Buffer) (x : Entry) (past : List Entry)
    → buffers.is_on b (op_at x past) ≡ false → places m b (x ∷ past) ≡ places m b past
unfolding places
places_off m b x past off =
    ap (λ c. places m b past ++ cond c (length past ∷ []) [])
    (move_off m b x.act (under_way x.worker past) off) ∙ append-nil (places m b past)

moving_off : (m : MovesModel) (x : Entry) (past : List Entry)
    → buffers.is_on m.shape (op_at x past) ≡ false → RepresentsMoves m past
    → RepresentsMoves m (x ∷ past)
moving_off m x past off is = record {
  shape = is.shape;
  audit = delivering_off m.audit x past
      (subst (λ (b : Buffer). buffers.is_on b (op_at x past) ≡ false) (sym is.shape) off) is.audit;
  puts = λ ok. is.puts ok ∙ sym (places_off moves.Put m.shape x past off);
  gets = λ ok. is.gets ok ∙ sym (places_off moves.Get m.shape x past off);
}

move_going : (m : Move) (b : Buffer) → is_move m b Go ≡ false
move_going moves.Put b = refl
move_going moves.Get b = refl

places_going : (m : Move) (b : Buffer) (w : ℕ) (past : List Entry)
    → places m b (going w ∷ past) ≡ places m b past
unfolding places
places_going m b w past = ap (λ c. places m b past ++ cond c (length past ∷ []) []) (move_going m b)
    ∙ append-nil (places m b past)

moving_going : (m : MovesModel) (x : Entry) (past : List Entry) → is_intermediate x ≡ true
    → RepresentsMoves m past
    → RepresentsMoves m (x ∷ past)
moving_going m x past on is =
    by_going (λ y. is_intermediate y ≡ true → RepresentsMoves m (y ∷ past)) (λ w on. record {
      shape = is.shape;
      audit = delivering_going m.audit (going w) past on is.audit;
      puts = λ ok. is.puts ok ∙ sym (places_going moves.Put m.shape w past);
      gets = λ ok. is.gets ok ∙ sym (places_going moves.Get m.shape w past);
    }) x on on

-- ALL GROUPS

pub finds_off : (start now : GroupState) (x : Entry) (past : List Entry)
    → is_on (group_of start) (op_at x past) ≡ false → FindsOn start now past
    → FindsOn start now (x ∷ past)
finds_off (finds.Balance a) (finds.Balance b) x past off on = (
  on.0,
  on.1,
  balance_off b x past
      (subst (λ (s : Semaphore). semaphores.is_on s (op_at x past) ≡ false) (sym on.1) off) on.2,
)
finds_off (finds.Tries a) (finds.Tries b) x past off on = (
  on.0,
  on.1,
  on.2,
  trying_off b x past
      (subst (λ (d : Database). databases.is_on d (op_at x past) ≡ false) (sym on.0) off) on.3,
)
finds_off (finds.Moves a) (finds.Moves b) x past off on = (
  on.0,
  on.1,
  moving_off b x past
      (subst (λ (s : Buffer). buffers.is_on s (op_at x past) ≡ false) (sym on.0) off) on.2,
)
finds_off (finds.Both a) now x past off on = absurd (true≢false off)
finds_off start now x past off on = absurd on

pub finds_stay : (start now : GroupState) (x : Entry) (past : List Entry) → is_intermediate x ≡ true
    → FindsOn start now past → FindsOn start now (x ∷ past)
finds_stay (finds.Balance a) (finds.Balance b) x past on is =
    (is.0, is.1, balance_going b x past on is.2)
finds_stay (finds.Tries a) (finds.Tries b) x past on is =
    (is.0, is.1, is.2, trying_going b x past on is.3)
finds_stay (finds.Moves a) (finds.Moves b) x past on is =
    (is.0, is.1, moving_going b x past on is.2)
finds_stay (finds.Both a) (finds.Both b) x past on (state, pairs) = (
  (state.0, state.1, balance_going b.state x past on state.2),
  (pairs.0, pairs.1, pairing_going b.pairs x past on pairs.2),
)
finds_stay start now x past on is = absurd is
