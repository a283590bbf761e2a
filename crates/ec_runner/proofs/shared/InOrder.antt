-- Schedules in the order of time.
use Rattle.std.proofs.Common.{◌≡◌, ◌<◌, ◌+◌, ⊎_elim, ℕ, zero, suc, Bool, true, false, ◌==◌, List, [], ◌∷◌, ◌++◌, length, map, reverse, take, Option, Some, None, Result, Ok, Err, cond, refl, sym, ◌∙◌, ap, subst, eq-eqb, append_assoc, append-nil, eqb-true, arith}
use Rattle.std.specs.Prelude.{slice_get}
use Rattle.std.proofs.lemmas.List.{reverse-append, reverse-reverse, length-reverse, length-map, map-append, take_at}
use Rattle.std.proofs.lemmas.Option.{slice_get_within, same_Some}
use Rattle.ec_count.specs.Tables.{Tables}
use Rattle.ec_core.specs.declared.act.Act.{Act}
use Rattle.ec_core.specs.declared.act.Entry.{Entry}
use Rattle.ec_core.specs.declared.act.Reply.{Reply}
use Rattle.ec_core.specs.declared.act.Refusal.{Refusal}
use Rattle.ec_core.specs.Acceptance.{answer_of}
use Rattle.ec_core.specs.Counts.{past_at}
use Rattle.ec_machine.specs.declared.command.Command.{Command}
use Rattle.ec_machine.specs.declared.outcome.Outcome.{Outcome}
use Rattle.ec_machine.specs.declared.outcome.Outcome.TheVariants.{Running}
use Rattle.ec_machine.specs.Follows.{program_at}
use Rattle.ec_machine.specs.Runs.{IsRunOf, next_act, outcome_of}
use Rattle.ec_machine.specs.Steps.{IsRun, own}
use Rattle.ec_runner.specs.Schedules.{Turn, IsTurn, AreTurns, Plays, EndsBeforePlace, with_answer, entries_of, refusal_or, refusal_in_turns, ended_by, outcome_after}
use Rattle.ec_runner.specs.ScheduleLaws.{made_entries, unrefused, IsMarked, IsPlace, IsRefusedWith, IsHistoryOf}
use Rattle.ec_runner.proofs.Starting.{get_push}
use Rattle.ec_runner.proofs.Turning.{none_told}
use Rattle.ec_core.proofs.shared.Joining.{get_front as get_early}
use Rattle.ec_heading.proofs.shared.TreeFound.{found_at as get_here}

-- LISTS

pub some_none : (r : Refusal) → Some r ≡ None → ⊥
some_none r is = cc

cons_same : (a b : ℕ) (xs ys : List ℕ) → a ∷ xs ≡ b ∷ ys → (a ≡ b) × (xs ≡ ys)
cons_same a b xs ys is = (cc, cc)

-- in the order of time
abbrev pub timely : {X : Type 0} → (Turn → X) → List Turn → List X
timely f turns = reverse (map f turns)

pub timely_more : {X : Type 0} (f : Turn → X) (x : Turn) (turns : List Turn) → timely f (x ∷ turns) ≡ timely f turns ++ f x ∷ []
timely_more f x turns = reverse-append (f x ∷ []) (map f turns)

timely_split : {X : Type 0} (f : Turn → X) (later : List Turn) (x : Turn) (before : List Turn) → timely f (later ++ x ∷ before) ≡ timely f before ++ f x ∷ timely f later
timely_split f later x before =
    ap reverse (map-append f later (x ∷ before)) ∙ reverse-append (map f later) (f x ∷ map f before)
    ∙ ap (λ l. l ++ timely f later) (reverse-append (f x ∷ []) (map f before)) ∙ append_assoc (timely f before) (f x ∷ []) (timely f later)

pub length_timely : {X : Type 0} (f : Turn → X) (turns : List Turn) → length (timely f turns) ≡ length turns
length_timely f turns = length-reverse (map f turns) ∙ length-map turns f

abbrev pub worker_of : Turn → ℕ
worker_of x = x.worker

abbrev pub mark_of : Turn → Option Refusal
mark_of x = refusal_or x.answer None

-- a turn with those before it
record Split (turns : List Turn) (i w : ℕ) : Type 0 where
  later : List Turn
  turn : Turn
  before : List Turn
  whole : turns ≡ later ++ turn ∷ before
  place : length before ≡ i
  worker : turn.worker ≡ w

split_at : (turns : List Turn) (i w : ℕ) → slice_get (timely worker_of turns) i ≡ Some w → Split turns i w
split_at [] i w at = cc
split_at (x ∷ turns) i w at =
    ⊎_elim
    (λ early. let s = split_at turns i w early in record { later = x ∷ s.later; turn = s.turn; before = s.before; whole = ap (λ l. x ∷ l) s.whole; place = s.place; worker = s.worker })
    (λ last. record { later = []; turn = x; before = turns; whole = refl; place = sym (last.0 ∙ length_timely worker_of turns); worker = last.1 })
    (get_push (timely worker_of turns) x.worker i w (subst (λ l. slice_get l i ≡ Some w) (timely_more worker_of x turns) at))

turn_in : (t : Tables) (programs : List (List Command)) (later : List Turn) (x : Turn) (before : List Turn) → AreTurns t programs (later ++ x ∷ before) → IsTurn t programs before x × AreTurns t programs before
turn_in t programs [] x before each = each
turn_in t programs (y ∷ later) x before each = turn_in t programs later x before each.1

-- ENTRIES

with_append : (w : ℕ) (act : Act) (answer : Result Reply Refusal) (xs ys : List Entry) → with_answer w act answer (xs ++ ys) ≡ with_answer w act answer xs ++ ys
with_append w act (Ok reply) xs ys = refl
with_append w act (Err r) xs ys = refl

entries_append : (later before : List Turn) → entries_of (later ++ before) ≡ entries_of later ++ entries_of before
entries_append [] before = refl
entries_append (x ∷ later) before =
    ap (with_answer x.worker x.act x.answer) (entries_append later before) ∙ with_append x.worker x.act x.answer (entries_of later) (entries_of before)

reverse_with : (w : ℕ) (act : Act) (answer : Result Reply Refusal) (past : List Entry) → reverse (with_answer w act answer past) ≡ reverse past ++ with_answer w act answer []
reverse_with w act (Ok reply) past = reverse-append (record { worker = w; act = act; reply = reply } ∷ []) past
reverse_with w act (Err r) past = sym (append-nil (reverse past))

-- the entries before a turn, that of the turn, and those after it
entries_split : (later : List Turn) (x : Turn) (before : List Turn) (h : List Entry) → reverse h ≡ entries_of (later ++ x ∷ before)
    → h ≡ reverse (entries_of before) ++ (with_answer x.worker x.act x.answer [] ++ reverse (entries_of later))
entries_split later x before h is =
    sym (reverse-reverse h) ∙ ap reverse (is ∙ entries_append later (x ∷ before)) ∙ reverse-append (entries_of later) (entries_of (x ∷ before))
    ∙ ap (λ l. l ++ reverse (entries_of later)) (reverse_with x.worker x.act x.answer (entries_of before))
    ∙ append_assoc (reverse (entries_of before)) (with_answer x.worker x.act x.answer []) (reverse (entries_of later))

past_before : (later : List Turn) (x : Turn) (before : List Turn) (h : List Entry) → reverse h ≡ entries_of (later ++ x ∷ before)
    → past_at (length (entries_of before)) h ≡ entries_of before
past_before later x before h is =
    ap (past_at (length (entries_of before))) (entries_split later x before h is)
    ∙ ap reverse (take_at (reverse (entries_of before)) _ (length (entries_of before)) (length-reverse (entries_of before)))
    ∙ reverse-reverse (entries_of before)

-- PLACES

marked : (w : ℕ) (act : Act) (answer answered : Result Reply Refusal) (past more h : List Entry) → h ≡ reverse past ++ (with_answer w act answer [] ++ more)
    → answered ≡ answer → IsMarked (refusal_or answer None) h (length past) w act answered
marked w act (Ok reply) answered past more h is same = (
  reply,
  same,
  ap (λ l. slice_get l (length past)) is ∙ ap (slice_get (reverse past ++ record { worker = w; act = act; reply = reply } ∷ more)) (sym (length-reverse past))
      ∙ get_here (reverse past) (record { worker = w; act = act; reply = reply }) more,
)
marked w act (Err r) answered past more h is same = same

both_run : (o : Option Refusal) (outcome : Outcome) → ended_by o outcome ≡ Running → outcome ≡ Running
both_run None outcome is = is
both_run (Some r) outcome is = cc

place_is : (t : Tables) (programs : List (List Command)) (later : List Turn) (x : Turn) (before : List Turn) (h : List Entry) → reverse h ≡ entries_of (later ++ x ∷ before)
    → IsTurn t programs before x → IsPlace t (program_at programs x.worker) h (length (entries_of before)) x.worker (mark_of x)
place_is t programs later x before h is right =
    let past = past_before later x before h is in
    let cs = program_at programs x.worker in
    record {
      act = x.act;
      running = ap (λ p. outcome_of cs (own x.worker p)) past ∙ both_run (refusal_in_turns x.worker before) (outcome_of cs (own x.worker (entries_of before))) right.running;
      due = ap (λ p. next_act cs (own x.worker p)) past ∙ right.due;
      answer = marked x.worker x.act x.answer _ (entries_of before) (reverse (entries_of later)) h (entries_split later x before h is)
          (ap (λ p. answer_of t p x.worker x.act) past ∙ right.answer);
    }

pub made_append : (xs ys : List (Option Refusal))
    → made_entries (xs ++ ys) ≡ made_entries xs + made_entries ys
made_append [] ys = omega arith
made_append (None ∷ xs) ys = ap (λ n. n + 1) (made_append xs ys) ∙ (omega arith)
made_append (Some r ∷ xs) ys = made_append xs ys

made_one : (w : ℕ) (act : Act) (answer : Result Reply Refusal) (past : List Entry) → length past + made_entries (refusal_or answer None ∷ []) ≡ length (with_answer w act answer past)
made_one w act (Ok reply) past = omega arith
made_one w act (Err r) past = omega arith

made_is : (turns : List Turn) → made_entries (timely mark_of turns) ≡ length (entries_of turns)
made_is [] = refl
made_is (x ∷ turns) =
    ap made_entries (timely_more mark_of x turns) ∙ made_append (timely mark_of turns) (mark_of x ∷ []) ∙ ap (λ n. n + made_entries (mark_of x ∷ [])) (made_is turns)
    ∙ made_one x.worker x.act x.answer (entries_of turns)

marks_before : (later : List Turn) (x : Turn) (before : List Turn) → made_entries (take (length before) (timely mark_of (later ++ x ∷ before))) ≡ length (entries_of before)
marks_before later x before =
    ap (λ l. made_entries (take (length before) l)) (timely_split mark_of later x before)
    ∙ ap made_entries (take_at (timely mark_of before) (mark_of x ∷ timely mark_of later) (length before) (length_timely mark_of before)) ∙ made_is before

pub mark_at : {X : Type 0} (f : Turn → X) (later : List Turn) (x : Turn) (before : List Turn) → slice_get (timely f (later ++ x ∷ before)) (length before) ≡ Some (f x)
mark_at f later x before =
    ap (λ l. slice_get l (length before)) (timely_split f later x before) ∙ ap (slice_get (timely f before ++ f x ∷ timely f later)) (sym (length_timely f before))
    ∙ get_here (timely f before) (f x) (timely f later)

places_are : (t : Tables) (programs : List (List Command)) (turns : List Turn) (h : List Entry) → AreTurns t programs turns → reverse h ≡ entries_of turns
    → (i w : ℕ) (mark : Option Refusal) → slice_get (timely worker_of turns) i ≡ Some w → slice_get (timely mark_of turns) i ≡ Some mark
    → IsPlace t (program_at programs w) h (made_entries (take i (timely mark_of turns))) w mark
places_are t programs turns h each is i w mark at returned =
    let s = split_at turns i w at in
    let right = (turn_in t programs s.later s.turn s.before (subst (AreTurns t programs) s.whole each)).0 in
    let place = place_is t programs s.later s.turn s.before h (is ∙ ap entries_of s.whole) right in
    let same : mark_of s.turn ≡ mark =
    same_Some (mark_of s.turn) mark (sym (ap (λ l. slice_get (timely mark_of l) (length s.before)) s.whole ∙ mark_at mark_of s.later s.turn s.before) ∙ ap (λ k. slice_get (timely mark_of turns) k) s.place ∙ returned) in
    let count : length (entries_of s.before) ≡ made_entries (take i (timely mark_of turns)) =
    sym (marks_before s.later s.turn s.before) ∙ ap (λ l. made_entries (take (length s.before) (timely mark_of l))) (sym s.whole) ∙ ap (λ k. made_entries (take k (timely mark_of turns))) s.place in
    subst (λ m. IsPlace t (program_at programs w) h (made_entries (take i (timely mark_of turns))) w m) same
    (subst (λ k. IsPlace t (program_at programs w) h k w (mark_of s.turn)) count
    (subst (λ v. IsPlace t (program_at programs v) h (length (entries_of s.before)) v (mark_of s.turn)) s.worker place))

-- REFUSALS

when_same : {X : Type 0} (b : Bool) (P : X → Type 0) (one other : X) → (b ≡ true → P one) → (b ≡ false → P other) → P (cond b one other)
when_same true P one other first second = first refl
when_same false P one other first second = second refl

told_last : (answer : Result Reply Refusal) (r : Refusal) (o : Option Refusal) → refusal_or answer None ≡ Some r → refusal_or answer o ≡ Some r
told_last (Ok reply) r o is = cc
told_last (Err s) r o is = is

none_if_ok : (answer : Result Reply Refusal) (o : Option Refusal) → ((r : Refusal) → refusal_or answer None ≡ Some r → ⊥) → o ≡ None → refusal_or answer o ≡ None
none_if_ok (Ok reply) o never none = none
none_if_ok (Err r) o never none = absurd (never r refl)

told_running : (t : Tables) (programs : List (List Command)) (before : List Turn) (x : Turn) → IsTurn t programs before x → refusal_in_turns x.worker before ≡ None
told_running t programs before x right = none_told (refusal_in_turns x.worker before) (outcome_of (program_at programs x.worker) (own x.worker (entries_of before))) right.running

-- the refusal at a place of w is the one of w in the turns
pub told_is : (t : Tables) (programs : List (List Command)) (turns : List Turn) (i w : ℕ) (r : Refusal) → AreTurns t programs turns
    → slice_get (timely worker_of turns) i ≡ Some w → slice_get (timely mark_of turns) i ≡ Some (Some r) → refusal_in_turns w turns ≡ Some r
told_is t programs [] i w r each at mark = cc
told_is t programs (x ∷ turns) i w r each at mark =
    let returned = subst (λ l. slice_get l i ≡ Some (Some r)) (timely_more mark_of x turns) mark in
    ⊎_elim
    (λ early.
    let within = slice_get_within (timely worker_of turns) i w early in
    let same : slice_get (timely mark_of turns) i ≡ Some (Some r) =
    sym (get_early (timely mark_of turns) (mark_of x ∷ []) i (omega (arith, length_timely worker_of turns, length_timely mark_of turns))) ∙ returned in
    let before = told_is t programs turns i w r each.1 early same in
    when_same (x.worker == w) (λ o. o ≡ Some r) (refusal_or x.answer (refusal_in_turns w turns)) (refusal_in_turns w turns)
    (λ e. absurd (some_none r (sym before ∙ ap (λ v. refusal_in_turns v turns) (sym (eqb-true x.worker w e)) ∙ told_running t programs turns x each.0)))
    (λ e. before))
    (λ last.
    let here : mark_of x ≡ Some r =
    same_Some _ _ (sym (get_here (timely mark_of turns) (mark_of x) []) ∙ ap (slice_get (timely mark_of turns ++ mark_of x ∷ [])) (length_timely mark_of turns ∙ sym (length_timely worker_of turns) ∙ sym last.0) ∙ returned) in
    ap (λ b. cond b (refusal_or x.answer (refusal_in_turns w turns)) (refusal_in_turns w turns)) (eq-eqb x.worker w last.1) ∙ told_last x.answer r (refusal_in_turns w turns) here)
    (get_push (timely worker_of turns) x.worker i w (subst (λ l. slice_get l i ≡ Some w) (timely_more worker_of x turns) at))

-- a worker without such a place was not refused
pub told_none : (turns : List Turn) (w : ℕ) → ((r : Refusal) → IsRefusedWith (timely worker_of turns) (timely mark_of turns) w r → ⊥) → refusal_in_turns w turns ≡ None
told_none [] w never = refl
told_none (x ∷ turns) w never =
    let before : refusal_in_turns w turns ≡ None = told_none turns w (λ r at. never r (
      at.0,
      ap (λ l. slice_get l at.0) (timely_more worker_of x turns) ∙ get_early (timely worker_of turns) (x.worker ∷ []) at.0 (slice_get_within (timely worker_of turns) at.0 w at.1) ∙ at.1,
      ap (λ l. slice_get l at.0) (timely_more mark_of x turns) ∙ get_early (timely mark_of turns) (mark_of x ∷ []) at.0 (slice_get_within (timely mark_of turns) at.0 (Some r) at.2) ∙ at.2,
    )) in
    when_same (x.worker == w) (λ o. o ≡ None) (refusal_or x.answer (refusal_in_turns w turns)) (refusal_in_turns w turns)
    (λ e. none_if_ok x.answer (refusal_in_turns w turns) (λ r is. never r (
      length turns,
      mark_at worker_of [] x turns ∙ ap (λ v. Some v) (eqb-true x.worker w e),
      mark_at mark_of [] x turns ∙ ap (λ m. Some m) is,
    )) before)
    (λ e. before)

-- WORKERS AND PARTS

unrefused_append : (ws vs : List ℕ) (marks more : List (Option Refusal)) → length marks ≡ length ws → unrefused (ws ++ vs) (marks ++ more) ≡ unrefused ws marks ++ unrefused vs more
unrefused_append [] vs [] more is = refl
unrefused_append [] vs (m ∷ marks) more is = absurd (omega arith)
unrefused_append (w ∷ ws) vs [] more is = absurd (omega arith)
unrefused_append (w ∷ ws) vs (None ∷ marks) more is = ap (λ l. w ∷ l) (unrefused_append ws vs marks more (omega arith))
unrefused_append (w ∷ ws) vs (Some r ∷ marks) more is = unrefused_append ws vs marks more (omega arith)

unrefused_one : (w : ℕ) (act : Act) (answer : Result Reply Refusal) → unrefused (w ∷ []) (refusal_or answer None ∷ []) ≡ map (λ (x : Entry). x.worker) (with_answer w act answer [])
unrefused_one w act (Ok reply) = refl
unrefused_one w act (Err r) = refl

workers_are : (turns : List Turn) → unrefused (timely worker_of turns) (timely mark_of turns) ≡ map (λ (x : Entry). x.worker) (reverse (entries_of turns))
workers_are [] = refl
workers_are (x ∷ turns) =
    ap (λ l. unrefused l (timely mark_of (x ∷ turns))) (timely_more worker_of x turns) ∙ ap (unrefused (timely worker_of turns ++ x.worker ∷ [])) (timely_more mark_of x turns)
    ∙ unrefused_append (timely worker_of turns) (x.worker ∷ []) (timely mark_of turns) (mark_of x ∷ []) (length_timely mark_of turns ∙ sym (length_timely worker_of turns))
    ∙ ap (λ l. l ++ unrefused (x.worker ∷ []) (mark_of x ∷ [])) (workers_are turns)
    ∙ ap (λ l. map (λ (y : Entry). y.worker) (reverse (entries_of turns)) ++ l) (unrefused_one x.worker x.act x.answer)
    ∙ sym (map-append (λ (y : Entry). y.worker) (reverse (entries_of turns)) (with_answer x.worker x.act x.answer []))
    ∙ ap (map (λ (y : Entry). y.worker)) (sym (reverse_with x.worker x.act x.answer (entries_of turns)))

run_with : (cs : List Command) (w v : ℕ) (act : Act) (answer : Result Reply Refusal) (past : List Entry) → (v ≡ w → next_act cs (own w past) ≡ Some act)
    → IsRunOf cs (own w past) → IsRunOf cs (own w (with_answer v act answer past))
unfolding IsRun
run_with cs w v act (Err r) past due run = run
run_with cs w v act (Ok reply) past due run =
    when_same (v == w) (λ l. IsRunOf cs l) (record { worker = v; act = act; reply = reply } ∷ own w past) (own w past) (λ e. (due (eqb-true v w e), run)) (λ e. run)

parts_are : (t : Tables) (programs : List (List Command)) (turns : List Turn) (w : ℕ) → AreTurns t programs turns → IsRunOf (program_at programs w) (own w (entries_of turns))
unfolding IsRun
parts_are t programs [] w each = tt
parts_are t programs (x ∷ turns) w each =
    run_with (program_at programs w) w x.worker x.act x.answer (entries_of turns)
    (λ is. subst (λ v. next_act (program_at programs v) (own v (entries_of turns)) ≡ Some x.act) is each.0.due)
    (parts_are t programs turns w each.1)

-- THE THEOREMS

pub outcome_told : (programs : List (List Command)) (turns : List Turn) (w : ℕ) (o : Option Refusal) → refusal_in_turns w turns ≡ o
    → outcome_after programs w turns ≡ ended_by o (outcome_of (program_at programs w) (own w (entries_of turns)))
outcome_told programs turns w o is = ap (λ o. ended_by o (outcome_of (program_at programs w) (own w (entries_of turns)))) is

get_in_front : {X : Type 0} (f : Turn → X) (turns later : List Turn) (x : Turn) (before : List Turn) (i : ℕ) → turns ≡ later ++ x ∷ before → i < length before
    → slice_get (timely f turns) i ≡ slice_get (timely f before) i
get_in_front f turns later x before i whole within =
    ap (λ l. slice_get (timely f l) i) whole ∙ ap (λ l. slice_get l i) (timely_split f later x before)
    ∙ get_early (timely f before) (f x ∷ timely f later) i (omega (arith, length_timely f before))

last_of : (t : Tables) (programs : List (List Command)) (turns : List Turn) (i j w : ℕ) (r : Refusal) → AreTurns t programs turns
    → slice_get (timely worker_of turns) i ≡ Some w → slice_get (timely mark_of turns) i ≡ Some (Some r) → slice_get (timely worker_of turns) j ≡ Some w → i < j → ⊥
last_of t programs turns i j w r each at mark again less =
    let s = split_at turns j w again in
    let rights = turn_in t programs s.later s.turn s.before (subst (AreTurns t programs) s.whole each) in
    let within : i < length s.before = omega (arith, s.place) in
    let returned = told_is t programs s.before i w r rights.1 (sym (get_in_front worker_of turns s.later s.turn s.before i s.whole within) ∙ at)
    (sym (get_in_front mark_of turns s.later s.turn s.before i s.whole within) ∙ mark) in
    some_none r (sym returned ∙ ap (λ v. refusal_in_turns v s.before) (sym s.worker) ∙ told_running t programs s.before s.turn rights.0)

in_time : (t : Tables) (programs : List (List Command)) (turns : List Turn) (h : List Entry) → AreTurns t programs turns → reverse h ≡ entries_of turns
    → IsHistoryOf t programs (timely worker_of turns) h (λ w. outcome_after programs w turns)
in_time t programs turns h each is = record {
  marks = timely mark_of turns;
  each = length_timely mark_of turns ∙ sym (length_timely worker_of turns);
  workers = ap (map (λ (x : Entry). x.worker)) (sym (reverse-reverse h) ∙ ap reverse is) ∙ sym (workers_are turns);
  parts = λ w. subst (λ past. IsRunOf (program_at programs w) (own w past)) (sym is) (parts_are t programs turns w each);
  places = places_are t programs turns h each is;
  last = λ i j w r. last_of t programs turns i j w r each;
  refused = λ w r at. outcome_told programs turns w (Some r) (told_is t programs turns at.0 w r each at.1 at.2);
  others = λ w never. outcome_told programs turns w None (told_none turns w never) ∙ ap (λ past. outcome_of (program_at programs w) (own w past)) (sym is);
}

pub played_in_order : (t : Tables) (programs : List (List Command)) (schedule : List ℕ) (turns : List Turn) (h : List Entry) → Plays t programs schedule turns → reverse h ≡ entries_of turns
    → IsHistoryOf t programs schedule h (λ w. outcome_after programs w turns)
played_in_order t programs schedule turns h plays is =
    subst (λ ws. IsHistoryOf t programs ws h (λ w. outcome_after programs w turns)) (ap reverse plays.workers ∙ reverse-reverse schedule) (in_time t programs turns h plays.each is)

abbrev turn_of : ℕ → Act → Result Reply Refusal → Turn
turn_of w act answer = record { worker = w; act = act; answer = answer }

turn_same : (t : Tables) (programs : List (List Command)) (before : List Turn) (x y : Turn) → IsTurn t programs before x → IsTurn t programs before y → x.worker ≡ y.worker → x ≡ y
turn_same t programs before x y one other same =
    let acts : x.act ≡ y.act = same_Some _ _ (sym one.due ∙ ap (λ v. next_act (program_at programs v) (own v (entries_of before))) same ∙ other.due) in
    let answers : x.answer ≡ y.answer = sym one.answer ∙ ap (λ v. answer_of t (entries_of before) v x.act) same ∙ ap (answer_of t (entries_of before) y.worker) acts ∙ other.answer in
    ap (λ v. turn_of v x.act x.answer) same ∙ ap (λ a. turn_of y.worker a x.answer) acts ∙ ap (turn_of y.worker y.act) answers

one_way : (t : Tables) (programs : List (List Command)) (turns others : List Turn) → AreTurns t programs turns → AreTurns t programs others → map worker_of turns ≡ map worker_of others → turns ≡ others
one_way t programs [] [] each other same = refl
one_way t programs [] (y ∷ others) each other same = cc
one_way t programs (x ∷ turns) [] each other same = cc
one_way t programs (x ∷ turns) (y ∷ others) each other same =
    let parts = cons_same x.worker y.worker (map worker_of turns) (map worker_of others) same in
    let rest = one_way t programs turns others each.1 other.1 parts.1 in
    let first = turn_same t programs others x y (subst (λ l. IsTurn t programs l x) rest each.0) other.0 parts.0 in
    cc

-- turns that play the same schedule are the same
pub one_run : (t : Tables) (programs : List (List Command)) (schedule : List ℕ) (turns others : List Turn) → Plays t programs schedule turns → Plays t programs schedule others → turns ≡ others
one_run t programs schedule turns others plays other = one_way t programs turns others plays.each other.each (plays.workers ∙ sym other.workers)

-- no turns play a schedule that names a worker that has ended
pub ended_not_played : (t : Tables) (programs : List (List Command)) (schedule : List ℕ) (place w : ℕ) (turns : List Turn) → EndsBeforePlace t programs schedule place w → Plays t programs schedule turns → ⊥
ended_not_played t programs schedule place w turns ended plays =
    let whole : timely worker_of turns ≡ schedule = ap reverse plays.workers ∙ reverse-reverse schedule in
    let s = split_at turns place w (ap (λ ws. slice_get ws place) whole ∙ ended.named) in
    let rights = turn_in t programs s.later s.turn s.before (subst (AreTurns t programs) s.whole plays.each) in
    let prefix : timely worker_of s.before ≡ take place schedule =
    sym (take_at (timely worker_of s.before) (s.turn.worker ∷ timely worker_of s.later) place (length_timely worker_of s.before ∙ s.place))
    ∙ ap (take place) (sym (timely_split worker_of s.later s.turn s.before) ∙ ap (timely worker_of) (sym s.whole) ∙ whole) in
    let workers : map worker_of s.before ≡ map worker_of ended.turns = sym (reverse-reverse (map worker_of s.before)) ∙ ap reverse prefix ∙ sym ended.plays.workers in
    let same = one_way t programs s.before ended.turns rights.1 ended.plays.each workers in
    ended.ended (ap (outcome_after programs w) (sym same) ∙ ap (λ v. outcome_after programs v s.before) (sym s.worker) ∙ rights.0.running)
