-- What was recorded of a kernel has a linearization.
use Rattle.std.proofs.Common.{◌≡◌, ℕ, ◌+◌, ◌-◌, ◌<◌, ◌≤◌, inl, inr, Bool, true, false, cond}
use Rattle.std.proofs.Common.{List, [], ◌∷◌, ◌++◌, length, map, reverse, Some, None, refl, ap, sym}
use Rattle.std.proofs.Common.{◌∙◌, arith, subst, nat_le, get_or}
use Rattle.std.specs.List.{All, AllPairs, filter}
use Rattle.std.specs.List.Sorted.{IsPermutation}
use Rattle.std.proofs.lemmas.Bool.{leb-true, leb-false, cases_lt}
use Rattle.std.proofs.lemmas.List.{length-map}
use Rattle.std.proofs.lemmas.List.Elements.{All-head, All-tail, All-nil, All-cons}
use Rattle.std.proofs.lemmas.List.Kept.{AllPairs-filter}
use Rattle.std.proofs.lemmas.List.Sorted.{All-permutation, IsPermutation-map, IsPermutation-trans}
use Rattle.ec_count.specs.Tables.{Tables, IsDeclared}
use Rattle.ec_core.specs.declared.act.Act.{Act}
use Rattle.ec_core.specs.declared.act.Act.TheVariants as acts
use Rattle.ec_core.specs.declared.act.Reply.{Reply as StepReply}
use Rattle.ec_core.specs.declared.act.Reply.TheVariants as replies
use Rattle.ec_order.specs.declared.call.Call.{Call as FinishedCall}
use Rattle.ec_order.specs.Calls.{finished_calls}
use Rattle.ec_order.specs.Orders.{calls_in}
use Rattle.ec_order.specs.Points.{ordered_by_points}
use Rattle.ec_order.specs.Sequential.{SequentialState, zero_state, sequential_reply}
use Rattle.ec_order.specs.Sequential.{sequential_after, IsLegalHistory}
use Rattle.ec_order.specs.Laws.{OrderByPointsIsGood}
use Rattle.calls_core.specs.declared.history.Op.{Op}
use Rattle.calls_core.specs.declared.history.Op.TheVariants.{Advance, Read, Await, Ticket, P, V}
use Rattle.calls_core.specs.declared.history.Op.TheVariants.{PBoth, Put, Get, Produce, Consume}
use Rattle.calls_core.specs.declared.history.Reply.{Reply}
use Rattle.calls_core.specs.declared.history.Reply.TheVariants.{Done, Number, Timeout}
use Rattle.calls_core.specs.declared.history.Event.{Event}
use Rattle.calls_core.specs.declared.history.Call.{Call}
use Rattle.calls_core.specs.Histories.{clock, completed_calls, pending_calls, IsHistory}
use Rattle.calls_core.specs.Linearizations.{set_at, after, Gives, KeepsOrder, IsRun, start}
use Rattle.calls_core.specs.Linearizations.{answered_calls, IsAnsweredLinearization}
use Rattle.calls_local.specs.Laws.{AnswersBecomeResponses}
use Rattle.calls_core.proofs.Filters.{permutation_filter}
use Rattle.calls_kernel.specs.Outside.{kinds_of, is_call}
use Rattle.calls_kernel.specs.Made.{act_on, IsReplyOf}
use Rattle.calls_kernel.specs.Recorded.{IsRecordedAs, AreRecordedAs, IsRecord}
use Rattle.calls_kernel.specs.Laws.{RecordsAreLinearizable}
use Rattle.calls_kernel.proofs.Runs.{Agrees, event_set, sequencer_set, cell_set, quiet_set}
use Rattle.calls_kernel.proofs.Fitting.{IsFitting, fitting, FitsCall, calls_fit}
use Rattle.calls_kernel.proofs.Linearized.{at_first, NotAfter, linearizable_by}
use Rattle.ec_order.proofs.Sorting.{AllPairs-map as pairs_map}
use Rattle.calls_kernel.proofs.Pairs.{Follows, follows, get_map}

pairs_back : {X Y : Type 0} (R : Y → Y → Type 0) (f : X → Y) (xs : List X)
    → AllPairs R (map f xs) → AllPairs (λ a b. R (f a) (f b)) xs
pairs_back R f xs h = λ i j d lt le.
    let long = length-map xs f in
    let pair : R (get_or (map f xs) i (f d)) (get_or (map f xs) j (f d)) =
    h i j (f d) lt (omega arith) in
    subst (λ a. R a (f (get_or xs j d))) (sym (get_map f xs i d))
    (subst (λ b. R (get_or (map f xs) i (f d)) b) (sym (get_map f xs j d)) pair)

-- A LEGAL SEQUENTIAL HISTORY WITHOUT ITS HANDS

abbrev is_of : FinishedCall → Bool
is_of d = is_call d.op

kept_run : (s : SequentialState) (d : FinishedCall) (act : Act) (rest : List FinishedCall)
    → d.op ≡ act → sequential_reply s act ≡ Some d.reply
    → IsLegalHistory (sequential_after s act) rest
    → IsLegalHistory s (cond (is_call act) (d ∷ rest) rest)
kept_run s d (acts.Advance e) rest is h run = rw is (h, run)
kept_run s d (acts.Read e) rest is h run = rw is (h, run)
kept_run s d (acts.Await e v) rest is h run = rw is (h, run)
kept_run s d (acts.Ticket q) rest is h run = rw is (h, run)
kept_run s d (acts.Put x v) rest is h run = rw is (h, run)
kept_run s d (acts.Get x) rest is h run = rw is (h, run)
kept_run s d (acts.Hand e b) rest is h run = run
kept_run s d acts.Go rest is h run = cc

calls_run : (ds : List FinishedCall) (s : SequentialState) → IsLegalHistory s ds
    → IsLegalHistory s (filter is_of ds)
calls_run [] s run = tt
calls_run (d ∷ ds) s run =
    kept_run s d d.op (filter is_of ds) refl run.0
    (calls_run ds (sequential_after s d.op) run.1)

-- THE RECORDED CALLS ARE A LEGAL SEQUENTIAL HISTORY

module _ (t : Tables) where
  some_is : (a b : StepReply) → Some a ≡ Some b → a ≡ b
  some_is a b h = cc

  module _ (s : SequentialState) (n : ℕ → ℕ → ℕ) (k : ℕ) (same : Agrees t s n) where
    -- the object gives this reply to the call, and the numbers agree after it
    abbrev Steps : Act → Op → Reply → Type 0
    Steps act op reply = Gives (n k) op reply
        × Agrees t (sequential_after s act) (set_at k (after (n k) op reply) n)

    done_only : (op : Op) (reply : Reply) → IsReplyOf Advance reply replies.Done → reply ≡ Done
    done_only op Done h = refl
    done_only op (Number m) h = absurd h
    done_only op Timeout h = absurd h

    number_only : (reply : Reply) (m : ℕ) → IsReplyOf Read reply (replies.Number m)
        → reply ≡ Number m
    number_only Done m h = absurd h
    number_only (Number i) m h = ap Number h
    number_only Timeout m h = absurd h

    given_done : (given : StepReply) (op : Op) (reply : Reply) → replies.Done ≡ given
        → IsReplyOf op reply given → IsReplyOf op reply replies.Done
    given_done given op reply is h = subst (IsReplyOf op reply) (sym is) h

    await_gives : (v m : ℕ) (reply : Reply) → v ≤ m → n k 0 ≡ m
        → IsReplyOf (Await v) reply (replies.Number m) → Gives (n k) (Await v) reply
    await_gives v m Done le is h = omega arith
    await_gives v m (Number i) le is h =
        (omega arith, (let e : i ≡ m = h in omega arith))
    await_gives v m Timeout le is h = absurd h

    await_steps : (v : ℕ) (reply : Reply) (given : StepReply) (b : Bool)
        → nat_le v (s.events k) ≡ b → k < length t.events
        → cond b (Some (replies.Number (s.events k))) None ≡ Some given
        → IsReplyOf (Await v) reply given → Steps (acts.Await k v) (Await v) reply
    await_steps v reply given true le lt h as_reply =
        let up : v ≤ s.events k = leb-true v (s.events k) le in
        let reply_as : IsReplyOf (Await v) reply (replies.Number (s.events k)) =
        subst (IsReplyOf (Await v) reply)
        (sym (some_is (replies.Number (s.events k)) given h)) as_reply in (
          await_gives v (s.events k) reply up (same.events k lt) reply_as,
          quiet_set t s n k same,
        )
    await_steps v reply given false le lt h as_reply = cc

    steps_of : (op : Op) (reply : Reply) (given : StepReply) → IsFitting t k op
        → sequential_reply s (act_on t k op) ≡ Some given → IsReplyOf op reply given
        → Steps (act_on t k op) op reply
    steps_of Advance reply given fits h reply_as =
        let lt : k < length t.events = leb-false (length t.events) k fits.known in
        let f = set_at 0 (n k 0 + 1) (n k) in (
          done_only Advance reply (given_done given Advance reply
              (some_is replies.Done given h) reply_as),
          event_set t s n k (s.events k + 1) f same lt (ap (λ i. i + 1) (same.events k lt)),
        )
    steps_of Read reply given fits h reply_as =
        let lt : k < length t.events = leb-false (length t.events) k fits.known in
        let is : reply ≡ Number (s.events k) = number_only reply (s.events k)
        (subst (IsReplyOf Read reply) (sym (some_is (replies.Number (s.events k)) given h))
        reply_as) in
        (is ∙ ap Number (sym (same.events k lt)), quiet_set t s n k same)
    steps_of (Await v) reply given fits h reply_as =
        await_steps v reply given (nat_le v (s.events k)) refl
        (leb-false (length t.events) k fits.known) h reply_as
    steps_of Ticket reply given fits h reply_as =
        let q = k - length t.events in
        let lt : q < length t.takers = leb-false (length t.takers) q fits.known in
        let number : n k 0 ≡ s.sequencers q =
        ap (λ j. n j 0) (sym fits.object) ∙ same.sequencers q lt in
        let f = set_at 0 (n k 0 + 1) (n k) in
        let is : reply ≡ Number (s.sequencers q) = number_only reply (s.sequencers q)
        (subst (IsReplyOf Ticket reply)
        (sym (some_is (replies.Number (s.sequencers q)) given h)) reply_as) in (
          is ∙ ap Number (sym number),
          subst (λ j. Agrees t (sequential_after s (acts.Ticket q)) (set_at j f n)) fits.object
              (sequencer_set t s n q (s.sequencers q + 1) f same lt (ap (λ i. i + 1) number)),
        )
    steps_of (Put v) reply given fits h reply_as =
        let x = k - length t.events - length t.takers in
        let lt : x < length t.cells = leb-false (length t.cells) x fits.known in
        let f = set_at 0 v (n k) in (
          done_only (Put v) reply (given_done given (Put v) reply (some_is replies.Done given h)
              reply_as),
          subst (λ j. Agrees t (sequential_after s (acts.Put x v)) (set_at j f n)) fits.object
              (cell_set t s n x v f same lt refl),
        )
    steps_of Get reply given fits h reply_as =
        let x = k - length t.events - length t.takers in
        let lt : x < length t.cells = leb-false (length t.cells) x fits.known in
        let number : n k 0 ≡ s.cells x =
        ap (λ j. n j 0) (sym fits.object) ∙ same.cells x lt in
        let is : reply ≡ Number (s.cells x) = number_only reply (s.cells x)
        (subst (IsReplyOf Get reply) (sym (some_is (replies.Number (s.cells x)) given h)) reply_as)
        in
        (is ∙ ap Number (sym number), quiet_set t s n k same)
    steps_of (P i) reply given fits h reply_as = cc
    steps_of (V i) reply given fits h reply_as = cc
    steps_of (PBoth i j) reply given fits h reply_as = cc
    steps_of (Produce v) reply given fits h reply_as = cc
    steps_of Consume reply given fits h reply_as = cc

  -- a call of the kernel, and the call that was recorded of it
  pub record Pair : Type 0 where
    pub made : FinishedCall
    pub call : Call

  module _ (moment : ℕ → ℕ) where
    abbrev IsSound : Pair → Type 0
    IsSound p = IsRecordedAs t moment p.made p.call × FitsCall (kinds_of t) p.call

    abbrev mades : List Pair → List FinishedCall
    mades ps = map (λ (p : Pair). p.made) ps

    abbrev calls : List Pair → List Call
    calls ps = map (λ (p : Pair). p.call) ps

    pairs_run : (ps : List Pair) (s : SequentialState) (n : ℕ → ℕ → ℕ) → Agrees t s n
        → All IsSound ps → IsLegalHistory s (mades ps) → IsRun n (calls ps)
    pairs_run [] s n same sound run = tt
    pairs_run (p ∷ ps) s n same sound run =
        let h : IsSound p = All-head IsSound p ps sound in
        let c = p.call in
        let act : p.made.op ≡ act_on t c.object c.op = h.0.made.act in
        let k = steps_of s n c.object same c.op c.reply p.made.reply
        (fitting t c.object c.op h.1)
        (ap (sequential_reply s) (sym act) ∙ run.0) h.0.made.reply in
        let next : Agrees t (sequential_after s p.made.op)
        (set_at c.object (after (n c.object) c.op c.reply) n) =
        subst (λ a. Agrees t (sequential_after s a)
        (set_at c.object (after (n c.object) c.op c.reply) n)) (sym act) k.1 in (
          k.0,
          pairs_run ps (sequential_after s p.made.op)
              (set_at c.object (after (n c.object) c.op c.reply) n) next
              (All-tail IsSound p ps sound) run.1,
        )

    -- the order of the kernel's calls keeps the real-time order of the record
    kept_pair : ((i j : ℕ) → i ≤ j → moment i ≤ moment j) → (p q : Pair) → IsSound p → IsSound q
        → NotAfter t p.made q.made → KeepsOrder p.call q.call
    kept_pair rises p q a b h before =
        let x = p.made in
        let y = q.made in
        let low : p.call.first ≤ moment x.first = a.0.from_first in
        let high : moment y.last ≤ q.call.last = b.0.to_last in
        let lt : q.call.last < p.call.first = before in
        elim (cases_lt y.last x.first) [
          | inl less ↦ h less
          | inr more ↦
              (let up : moment x.first ≤ moment y.last = rises x.first y.last more in
              absurd (omega arith))
        ]

    pairs_kept : ((i j : ℕ) → i ≤ j → moment i ≤ moment j) → (ps : List Pair) → All IsSound ps
        → AllPairs (NotAfter t) (mades ps) → AllPairs KeepsOrder (calls ps)
    pairs_kept rises ps sound kept =
        pairs_map KeepsOrder (λ (p : Pair). p.call) ps
        (λ i j d lt le. kept_pair rises (get_or ps i d) (get_or ps j d) (sound i d (omega arith))
        (sound j d le) (pairs_back (NotAfter t) (λ (p : Pair). p.made) ps kept i j d lt le))

    -- each of the kernel's calls, with the call that was recorded of it
    record Zipped (ds : List FinishedCall) (cs : List Call) : Type 0 where
      pub pairs : List Pair
      pub mades_are : mades pairs ≡ ds
      pub calls_are : calls pairs ≡ cs
      pub sound : All IsSound pairs

    zip : (ds : List FinishedCall) (cs : List Call) → AreRecordedAs t moment ds cs
        → All (FitsCall (kinds_of t)) cs → Zipped ds cs
    zip [] [] h fits = record {
      pairs = [];
      mades_are = refl;
      calls_are = refl;
      sound = All-nil IsSound;
    }
    zip [] (c ∷ cs) h fits = absurd h
    zip (d ∷ ds) [] h fits = absurd h
    zip (d ∷ ds) (c ∷ cs) h fits =
        let F = FitsCall (kinds_of t) in
        let rest = zip ds cs h.1 (All-tail F c cs fits) in
        let p : Pair = record { made = d; call = c } in
        record {
          pairs = p ∷ rest.pairs;
          mades_are = ap (λ l. d ∷ l) rest.mades_are;
          calls_are = ap (λ l. c ∷ l) rest.calls_are;
          sound = All-cons IsSound p rest.pairs (h.0, All-head F c cs fits) rest.sound;
        }

records_answered : OrderByPointsIsGood → (t : Tables) (past : List Event) → IsDeclared t
    → IsHistory (kinds_of t) past → IsRecord t past
    → (cs : List Call) × IsAnsweredLinearization (kinds_of t) past cs
records_answered orders t past d h r =
    let F = FitsCall (kinds_of t) in
    let taken = answered_calls (clock past) r.answer (pending_calls past)
    ++ completed_calls past in
    let finished = finished_calls t (reverse r.steps) in
    let ordered = calls_in (ordered_by_points t (reverse r.steps)) in
    let good = (orders t r.steps d r.accepted).legal in
    let z = zip t r.moment (filter is_of finished) r.calls r.recorded
    (All-permutation F taken r.calls r.each_once (calls_fit (kinds_of t) past r.answer h)) in
    let moves : IsPermutation (mades t r.moment z.pairs) (filter is_of ordered) =
    subst (λ ds. IsPermutation ds (filter is_of ordered)) (sym z.mades_are)
    (permutation_filter is_of finished ordered good.each_once) in
    let f : Follows (λ (p : Pair t). p.made) z.pairs (filter is_of ordered) =
    follows (λ (p : Pair t). p.made) z.pairs (filter is_of ordered) moves in
    let cs = calls t r.moment f.moved in
    let again : IsPermutation (calls t r.moment z.pairs) cs =
    IsPermutation-map (λ (p : Pair t). p.call) z.pairs f.moved f.moves in
    let sound : All (IsSound t r.moment) f.moved =
    All-permutation (IsSound t r.moment) z.pairs f.moved f.moves z.sound in (
      cs,
      record {
        answer = r.answer;
        each_once = IsPermutation-trans taken r.calls cs r.each_once
            (subst (λ l. IsPermutation l cs) z.calls_are again);
        in_order = pairs_kept t r.moment r.rises f.moved sound
            (subst (AllPairs (NotAfter t)) (sym f.is)
            (AllPairs-filter (NotAfter t) is_of ordered good.in_order));
        run = pairs_run t r.moment f.moved zero_state (start (kinds_of t)) (at_first t) sound
            (subst (IsLegalHistory zero_state) (sym f.is)
            (calls_run ordered zero_state good.run));
      },
    )

pub records_linearizable : OrderByPointsIsGood → AnswersBecomeResponses → RecordsAreLinearizable
records_linearizable orders answered t past d h r =
    let l = records_answered orders t past d h r in
    linearizable_by answered (kinds_of t) past l.0 h l.1
