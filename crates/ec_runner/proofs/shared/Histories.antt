-- Each history of a schedule is made by turns of it.
use Rattle.std.proofs.Common.{◌≡◌, ◌<◌, ◌≤◌, ◌+◌, ◌⊎◌, inl, inr, ⊎_elim, ℕ, zero, suc, Bool, true, false, ◌==◌, List, [], ◌∷◌, ◌++◌, length, map, reverse, take, Option, Some, None, Result, Ok, Err, cond, refl, sym, ◌∙◌, ap, eqb-true, arith}
use Rattle.std.specs.Prelude.{slice_get}
use Rattle.std.proofs.lemmas.List.{reverse-reverse, length-map, take_all}
use Rattle.std.proofs.lemmas.Option.{slice_get_within}
use Rattle.ec_count.specs.Tables.{Tables}
use Rattle.ec_core.specs.declared.act.Act.{Act}
use Rattle.ec_core.specs.declared.act.Entry.{Entry}
use Rattle.ec_core.specs.declared.act.Reply.{Reply}
use Rattle.ec_core.specs.declared.act.Refusal.{Refusal}
use Rattle.ec_core.specs.Acceptance.{answer_of}
use Rattle.ec_core.specs.Counts.{past_at}
use Rattle.ec_core.proofs.shared.Moments.{past_next}
use Rattle.ec_machine.specs.declared.command.Command.{Command}
use Rattle.ec_machine.specs.declared.outcome.Outcome.{Outcome}
use Rattle.ec_machine.specs.Follows.{program_at}
use Rattle.ec_machine.specs.Runs.{next_act, outcome_of}
use Rattle.ec_machine.specs.Steps.{own}
use Rattle.ec_runner.specs.Schedules.{Turn, AreTurns, with_answer, entries_of, refusal_or, refusal_in_turns, outcome_after}
use Rattle.ec_runner.specs.ScheduleLaws.{made_entries, unrefused, IsMarked, IsRefusedWith, IsHistoryOf, IsMadeByTurns, HistoriesAreOfTurns, SchedulesHaveOneHistory, EndedHasNoHistory, EndedIsAfterAHistory}
use Rattle.ec_runner.proofs.shared.InOrder.{some_none, timely, timely_more, worker_of, mark_of, mark_at, made_append, told_is, told_none, outcome_told, played_in_order, one_run, ended_not_played}
use Rattle.ec_core.proofs.shared.Joining.{get_front as get_early}

-- LISTS

pub there_is : {X : Type 0} (xs : List X) (i : ℕ) → i < length xs → (x : X) × (slice_get xs i ≡ Some x)
there_is [] i within = absurd (omega arith)
there_is (x ∷ xs) zero within = (x, refl)
there_is (x ∷ xs) (suc i) within = there_is xs i (omega arith)

take_more : {X : Type 0} (xs : List X) (k : ℕ) (x : X) → slice_get xs k ≡ Some x → take (suc k) xs ≡ take k xs ++ x ∷ []
take_more [] k x at = cc
take_more (y ∷ xs) zero x at = cc
take_more (y ∷ xs) (suc k) x at = ap (λ l. y ∷ l) (take_more xs k x at)

-- an element among the first n
get_taken : {X : Type 0} (n : ℕ) (xs : List X) (i : ℕ) (x : X) → slice_get (take n xs) i ≡ Some x → (i < n) × (slice_get xs i ≡ Some x)
get_taken zero xs i x at = cc
get_taken (suc n) [] i x at = cc
get_taken (suc n) (y ∷ xs) zero x at = (omega arith, at)
get_taken (suc n) (y ∷ xs) (suc i) x at = (let early = get_taken n xs i x at in (omega (arith, early.0), early.1))

-- as many entries were made as places were not refused
made_unrefused : (ws : List ℕ) (marks : List (Option Refusal)) → length marks ≡ length ws → made_entries marks ≡ length (unrefused ws marks)
made_unrefused [] [] is = refl
made_unrefused [] (m ∷ marks) is = absurd (omega arith)
made_unrefused (w ∷ ws) [] is = absurd (omega arith)
made_unrefused (w ∷ ws) (None ∷ marks) is = ap (λ n. n + 1) (made_unrefused ws marks (omega arith)) ∙ (omega arith)
made_unrefused (w ∷ ws) (Some r ∷ marks) is = made_unrefused ws marks (omega arith)

-- REFUSALS

either_way : (b : Bool) (one other : Option Refusal) (r : Refusal) → cond b one other ≡ Some r → ((b ≡ true) × (one ≡ Some r)) ⊎ (other ≡ Some r)
either_way true one other r is = inl (refl, is)
either_way false one other r is = inr is

now_or_before : (answer : Result Reply Refusal) (o : Option Refusal) (r : Refusal) → refusal_or answer o ≡ Some r → (refusal_or answer None ≡ Some r) ⊎ (o ≡ Some r)
now_or_before (Ok reply) o r is = inr is
now_or_before (Err s) o r is = inl is

abbrev WasTold : List Turn → ℕ → Refusal → Type 0
WasTold turns w r = IsRefusedWith (timely worker_of turns) (timely mark_of turns) w r

told_before : (x : Turn) (turns : List Turn) (w : ℕ) (r : Refusal) → WasTold turns w r → WasTold (x ∷ turns) w r
told_before x turns w r at = (
  at.0,
  ap (λ l. slice_get l at.0) (timely_more worker_of x turns) ∙ get_early (timely worker_of turns) (x.worker ∷ []) at.0 (slice_get_within (timely worker_of turns) at.0 w at.1) ∙ at.1,
  ap (λ l. slice_get l at.0) (timely_more mark_of x turns) ∙ get_early (timely mark_of turns) (mark_of x ∷ []) at.0 (slice_get_within (timely mark_of turns) at.0 (Some r) at.2) ∙ at.2,
)

-- a worker that was refused has a place where it was
told_some : (turns : List Turn) (w : ℕ) (r : Refusal) → refusal_in_turns w turns ≡ Some r → WasTold turns w r
told_some [] w r returned = cc
told_some (x ∷ turns) w r returned =
    ⊎_elim
    (λ mine. ⊎_elim
    (λ here. (length turns, mark_at worker_of [] x turns ∙ ap (λ v. Some v) (eqb-true x.worker w mine.0), mark_at mark_of [] x turns ∙ ap (λ m. Some m) here))
    (λ before. told_before x turns w r (told_some turns w r before))
    (now_or_before x.answer (refusal_in_turns w turns) r mine.1))
    (λ before. told_before x turns w r (told_some turns w r before))
    (either_way (x.worker == w) (refusal_or x.answer (refusal_in_turns w turns)) (refusal_in_turns w turns) r returned)

-- A PLACE

mark_is : (mark : Option Refusal) (h : List Entry) (k w : ℕ) (act : Act) (answer : Result Reply Refusal) → IsMarked mark h k w act answer → refusal_or answer None ≡ mark
mark_is None h k w act answer m = ap (λ a. refusal_or a None) m.1
mark_is (Some r) h k w act answer m = ap (λ a. refusal_or a None) m

entry_made : (mark : Option Refusal) (h : List Entry) (k w : ℕ) (act : Act) (answer : Result Reply Refusal) → IsMarked mark h k w act answer
    → with_answer w act answer (past_at k h) ≡ past_at (k + made_entries (mark ∷ [])) h
entry_made None h k w act answer m =
    let next : suc k ≡ k + made_entries (None ∷ []) = omega arith in
    ap (λ a. with_answer w act a (past_at k h)) m.1 ∙ sym (past_next h k (record { worker = w; act = act; reply = m.0 }) m.2) ∙ ap (λ i. past_at i h) next
entry_made (Some r) h k w act answer m =
    let same : k ≡ k + made_entries (Some r ∷ []) = omega arith in
    ap (λ a. with_answer w act a (past_at k h)) m ∙ ap (λ i. past_at i h) same

module _ (t : Tables) (programs : List (List Command)) (schedule : List ℕ) (h : List Entry) (outcome : ℕ → Outcome) (is : IsHistoryOf t programs schedule h outcome) where
  -- turns at the first n places
  record Built (n : ℕ) : Type 0 where
    turns : List Turn
    each : AreTurns t programs turns
    stood : timely worker_of turns ≡ take n schedule
    marked : timely mark_of turns ≡ take n is.marks
    entries : entries_of turns ≡ past_at (made_entries (take n is.marks)) h

  -- the worker of the next place was refused at none before it
  not_told : (n w : ℕ) (b : Built n) → slice_get schedule n ≡ Some w
      → refusal_in_turns w b.turns ≡ None
  not_told n w b at =
      told_none b.turns w (λ r returned.
      let one = get_taken n schedule returned.0 w (ap (λ l. slice_get l returned.0) (sym b.stood) ∙ returned.1) in
      let two = get_taken n is.marks returned.0 (Some r) (ap (λ l. slice_get l returned.0) (sym b.marked) ∙ returned.2) in
      is.last returned.0 n w r one.1 two.1 at one.0)

  one_more : (n w : ℕ) (mark : Option Refusal) → slice_get schedule n ≡ Some w → slice_get is.marks n ≡ Some mark → Built n → Built (suc n)
  one_more n w mark at returned b =
      let k : ℕ = made_entries (take n is.marks) in
      let cs : List Command = program_at programs w in
      let place = is.places n w mark at returned in
      let answer : Result Reply Refusal = answer_of t (past_at k h) w place.act in
      let x : Turn = record { worker = w; act = place.act; answer = answer } in
      record {
        turns = x ∷ b.turns;
        each = (
          record {
            running = outcome_told programs b.turns w None (not_told n w b at) ∙ ap (λ p. outcome_of cs (own w p)) b.entries ∙ place.running;
            due = ap (λ p. next_act cs (own w p)) b.entries ∙ place.due;
            answer = ap (λ p. answer_of t p w place.act) b.entries;
          },
          b.each,
        );
        stood = timely_more worker_of x b.turns ∙ ap (λ l. l ++ w ∷ []) b.stood ∙ sym (take_more schedule n w at);
        marked = timely_more mark_of x b.turns ∙ ap (λ m. timely mark_of b.turns ++ m ∷ []) (mark_is mark h k w place.act answer place.answer)
            ∙ ap (λ l. l ++ mark ∷ []) b.marked ∙ sym (take_more is.marks n mark returned);
        entries = ap (with_answer w place.act answer) b.entries ∙ entry_made mark h k w place.act answer place.answer
            ∙ ap (λ i. past_at i h) (sym (made_append (take n is.marks) (mark ∷ [])) ∙ ap made_entries (sym (take_more is.marks n mark returned)));
      }

  built : (n : ℕ) → n ≤ length schedule → Built n
  built zero within = record { turns = []; each = tt; stood = refl; marked = refl; entries = refl }
  built (suc n) within =
      let w = there_is schedule n (omega (arith, within)) in
      let mark = there_is is.marks n (let same : length is.marks ≡ length schedule = is.each in omega (arith, within, same)) in
      one_more n w.0 mark.0 w.1 mark.1 (built n (omega (arith, within)))

  all_made : made_entries (take (length schedule) is.marks) ≡ length h
  all_made =
      ap made_entries (take_all (length schedule) is.marks (let same : length is.marks ≡ length schedule = is.each in omega (arith, same)))
      ∙ made_unrefused schedule is.marks is.each ∙ ap length (sym is.workers) ∙ length-map h (λ (x : Entry). x.worker)

  whole_past : past_at (made_entries (take (length schedule) is.marks)) h ≡ reverse h
  whole_past = ap (λ i. past_at i h) all_made ∙ ap reverse (take_all (length h) h (omega arith))

  all_stood : (b : Built (length schedule)) → timely worker_of b.turns ≡ schedule
  all_stood b = b.stood ∙ take_all (length schedule) schedule (omega arith)

  all_marked : (b : Built (length schedule)) → timely mark_of b.turns ≡ is.marks
  all_marked b = b.marked ∙ take_all (length schedule) is.marks (let same : length is.marks ≡ length schedule = is.each in omega (arith, same))

  ends_so : (b : Built (length schedule)) (w : ℕ) (o : Option Refusal) → refusal_in_turns w b.turns ≡ o → outcome w ≡ outcome_after programs w b.turns
  ends_so b w (Some r) returned =
      let place : WasTold b.turns w r = told_some b.turns w r returned in
      is.refused w r (
        place.0,
        ap (λ l. slice_get l place.0) (sym (all_stood b)) ∙ place.1,
        ap (λ l. slice_get l place.0) (sym (all_marked b)) ∙ place.2,
      )
      ∙ sym (outcome_told programs b.turns w (Some r) returned)
  ends_so b w None returned =
      is.others w (λ r at. some_none r
      (sym (told_is t programs b.turns at.0 w r b.each (ap (λ l. slice_get l at.0) (all_stood b) ∙ at.1) (ap (λ l. slice_get l at.0) (all_marked b) ∙ at.2)) ∙ returned))
      ∙ ap (λ p. outcome_of (program_at programs w) (own w p)) (sym (b.entries ∙ whole_past)) ∙ sym (outcome_told programs b.turns w None returned)

  made_so : Built (length schedule) → IsMadeByTurns t programs schedule h outcome
  made_so b = record {
    turns = b.turns;
    plays = record { workers = sym (reverse-reverse (map worker_of b.turns)) ∙ ap reverse (all_stood b); each = b.each };
    entries = sym (b.entries ∙ whole_past);
    after = λ w. ends_so b w (refusal_in_turns w b.turns) refl;
  }

-- THE THEOREMS

pub of_turns : HistoriesAreOfTurns
of_turns t programs schedule h outcome is = made_so t programs schedule h outcome is (built t programs schedule h outcome is (length schedule) (omega arith))

pub one_history : SchedulesHaveOneHistory
one_history t programs schedule h others outcome ends one other =
    let a = of_turns t programs schedule h outcome one in
    let b = of_turns t programs schedule others ends other in
    let same : a.turns ≡ b.turns = one_run t programs schedule a.turns b.turns a.plays b.plays in (
      sym (reverse-reverse h) ∙ ap reverse (a.entries ∙ ap entries_of same ∙ sym b.entries) ∙ reverse-reverse others,
      λ w. a.after w ∙ ap (outcome_after programs w) same ∙ sym (b.after w),
    )

-- a schedule that names a worker that has ended has no history
pub no_history : EndedHasNoHistory
no_history t programs schedule place w h outcome ended is =
    let made_of = of_turns t programs schedule h outcome is in
    ended_not_played t programs schedule place w made_of.turns ended made_of.plays

pub ended_after : EndedIsAfterAHistory
ended_after t programs schedule place w = (
  λ ended. record {
    history = reverse (entries_of ended.turns);
    outcome = λ v. outcome_after programs v ended.turns;
    before = played_in_order t programs (take place schedule) ended.turns (reverse (entries_of ended.turns)) ended.plays (reverse-reverse (entries_of ended.turns));
    named = ended.named;
    ended = ended.ended;
  },
  λ after.
      let made_of = of_turns t programs (take place schedule) after.history after.outcome after.before in
      record { turns = made_of.turns; plays = made_of.plays; named = after.named; ended = λ running. after.ended (made_of.after w ∙ running) },
)
