-- One step of the pass over a run and the logs of its workers.
use Rattle.std.proofs.Common.{◌≡◌, ◌≢◌, ℕ, zero, suc, ◌+◌, ◌<◌, true, false, ◌==◌, nat_le, inl, inr, List, [], ◌∷◌, ◌++◌, length, reverse, take, Option, Some, None, MatchOption, cond, slice_get, slice_index, slice_set, get_or, length-take-le, append-nil, ne_eqb, refl, ap, sym, subst, ◌∙◌, arith}
use Rattle.std.proofs.lemmas.Grind.{common_steps}
use Rattle.std.proofs.lemmas.Bool.{cases_eq, eq-eqb}
use Rattle.std.proofs.lemmas.List.{take_more}
use Rattle.std.proofs.Math.Seq.{take-length}
use Rattle.std.proofs.lemmas.Option.{slice_get_within, get_or_from_slice_get, slice_get-get_or}
use Rattle.std.proofs.lemmas.Bool.Decides.{nat_tests}
use Rattle.ec_count.specs.Tables.{Tables}
use Rattle.ec_core.specs.declared.act.Entry.{Entry}
use Rattle.ec_core.specs.Acceptance.{IsAccepted}
use Rattle.ec_core.specs.Counts.{past_at}
use Rattle.ec_core.specs.Laws.{AcceptedMeansAnswered}
use Rattle.ec_core.proofs.shared.Answering.{allowed}
use Rattle.ec_machine.specs.Steps.{own}
use Rattle.ec_machine.proofs.shared.OwnSteps.{slice_here as get_at, own_append}
use Rattle.ec_runner.specs.declared.summary.Summary.{Summary}
use Rattle.ec_runner.specs.kept.LogComparison.{AreComparedSoFar, AreLogsOf, IsUnfinished, IsLogMismatch}

-- what holds in both cases
pub then_match : {X : Type 0} {P P' : Type 0} {Q Q' : X → Type 0} → (o : Option X) → (P → P') → ((x : X) → Q x → Q' x) → MatchOption o P Q → MatchOption o P' Q'
then_match None f g h = f h
then_match (Some x) f g h = g x h

pub own_more : (w : ℕ) (done : List Entry) (x : Entry) → (x.worker == w) ≡ true → own w (done ++ x ∷ []) ≡ own w done ++ x ∷ []
own_more w done x is = own_append w done (x ∷ []) ∙ ap (λ b. own w done ++ cond b (x ∷ []) []) is

pub own_same : (w : ℕ) (done : List Entry) (x : Entry) → (x.worker == w) ≡ false → own w (done ++ x ∷ []) ≡ own w done
own_same w done x not = own_append w done (x ∷ []) ∙ ap (λ b. own w done ++ cond b (x ∷ []) []) not ∙ append-nil (own w done)

-- the elements before a place, and the one there
pub take_next : (xs : List Entry) (k : ℕ) (x : Entry) → slice_get xs k ≡ Some x → take (k + 1) xs ≡ take k xs ++ x ∷ []
take_next xs k x is =
    take_more xs k x (slice_get_within xs k x is) ∙ ap (λ y. take k xs ++ y ∷ []) (get_or_from_slice_get xs k x x is)

pub index_is : (summaries : List Summary) (w : ℕ) (summary : Summary) → summary ≡ get_or summaries w summary → w < length summaries → slice_get summaries w ≡ Some summary
index_is summaries w summary is within = slice_get-get_or summaries w summary within
    ∙ ap (λ t. Some t) (sym is)

-- what holds of the summaries before a place, and of the one there, holds of those up to it
pub one_more : (P : Summary → ℕ → Type 0) (summaries : List Summary) (k v : ℕ) (one : Summary) → one ≡ get_or summaries k one → v ≡ k → P one v
    → ((w : ℕ) (summary : Summary) → w < k → slice_get summaries w ≡ Some summary → P summary w)
    → (w : ℕ) (summary : Summary) → w < k + 1 → slice_get summaries w ≡ Some summary → P summary w
one_more P summaries k v one is number here before w summary below there =
    elim (cases_eq w k) [
      | inl same ↦
          let found : one ≡ summary = is ∙ (rw same at (get_or_from_slice_get summaries w summary one there)) in
          subst (λ (t : Summary). P t w) found (subst (P one) (number ∙ sym same) here)
      | inr not ↦ before w summary (omega arith) there
    ]

-- if the entry at a place is another worker's, a worker has no more entries after it
pub none_there : (w : ℕ) (h : List Entry) (k : ℕ) (x : Entry) → slice_get h k ≡ Some x → (x.worker == w) ≡ false → own w (take (k + 1) h) ≡ own w (take k h)
none_there w h k x is not = ap (own w) (take_next h k x is) ∙ own_same w (take k h) x not

set_here : (cursors : List ℕ) (v n : ℕ) → v < length cursors → slice_index (slice_set cursors v n) v ≡ n
set_here cursors v n in_table = grind (arith, common_steps)

set_there : (cursors : List ℕ) (v w n : ℕ) → w ≢ v → slice_index (slice_set cursors v n) w ≡ slice_index cursors w
set_there cursors v w n not = grind (arith, common_steps)

set_long : (cursors : List ℕ) (v n : ℕ) → length (slice_set cursors v n) ≡ length cursors
set_long cursors v n = grind (arith, common_steps)

not_same : (v w : ℕ) → w ≢ v → (v == w) ≡ false
not_same v w n = ne_eqb v w (λ e. n (sym e))

pub walks : (summaries : List Summary) (cursors : List ℕ) (done : List Entry) (x : Entry) (summary : Summary) → AreComparedSoFar summaries cursors done → x.worker < 16
    → slice_get summaries x.worker ≡ Some summary → slice_get summary.log.items (slice_index cursors x.worker) ≡ Some x
    → AreComparedSoFar summaries (slice_set cursors x.worker (slice_index cursors x.worker + 1)) (done ++ x ∷ [])
walks summaries cursors done x summary h small is next =
    let at = slice_index cursors x.worker in
    let in_table : x.worker < length cursors = omega (arith, h.room) in
    record {
      room = set_long cursors x.worker (at + 1) ∙ h.room;
      walked = λ w one one_is. elim (cases_eq w x.worker) [
        | inl same ↦
            let same_told : summary ≡ one = cc in
            let before : own w done ≡ take at summary.log.items = h.walked w one one_is ∙ ap (λ v. take (slice_index cursors v) one.log.items) same ∙ ap (λ (t : Summary). take at t.log.items) (sym same_told) in
            own_more w done x (eq-eqb x.worker w (sym same)) ∙ ap (λ xs. xs ++ x ∷ []) before ∙ sym (take_next summary.log.items at x next)
            ∙ ap (λ n. take n summary.log.items) (sym (set_here cursors x.worker (at + 1) in_table))
            ∙ ap (λ v. take (slice_index (slice_set cursors x.worker (at + 1)) v) summary.log.items) (sym same)
            ∙ ap (λ (t : Summary). take (slice_index (slice_set cursors x.worker (at + 1)) w) t.log.items) same_told
        | inr not ↦
            own_same w done x (not_same x.worker w not) ∙ h.walked w one one_is
            ∙ ap (λ n. take n one.log.items) (sym (set_there cursors x.worker w (at + 1) not))
      ];
      within = λ w one one_is. elim (cases_eq w x.worker) [
        | inl same ↦
            let same_told : summary ≡ one = cc in
            let here : slice_index (slice_set cursors x.worker (at + 1)) w ≡ at + 1 =
            ap (slice_index (slice_set cursors x.worker (at + 1))) same ∙ set_here cursors x.worker (at + 1) in_table in
            let in_log : at < length summary.log.items =
            slice_get_within summary.log.items at x next in
            let in_one : at < length one.log.items = subst (λ (t : Summary). at < length t.log.items) same_told in_log in
            omega (arith, here, in_one)
        | inr not ↦
            let there = set_there cursors x.worker w (at + 1) not in
            omega (arith, there, h.within w one one_is)
      ];
    }

-- if each cursor is at the end of its log, the logs are those of the entries passed
pub all_walked : (summaries : List Summary) (cursors : List ℕ) (done : List Entry) → AreComparedSoFar summaries cursors done
    → ((w : ℕ) (summary : Summary) → slice_get summaries w ≡ Some summary → slice_index cursors w ≡ length summary.log.items)
    → AreLogsOf summaries done
all_walked summaries cursors done h ends w summary is =
    h.walked w summary is ∙ ap (λ n. take n summary.log.items) (ends w summary is) ∙ take-length summary.log.items

below : (n w : ℕ) → nat_le n w ≡ false → w < n
below n w h = grind (arith, nat_tests)

-- is a declared worker's
pub is_declared : AcceptedMeansAnswered → (t : Tables) (h : List Entry) (k : ℕ) (x : Entry) → IsAccepted t (reverse h) → slice_get h k ≡ Some x → x.worker < t.workers
is_declared answered t h k x accepted is =
    below t.workers x.worker (allowed t (past_at k h) x.worker x.act x.reply ((answered t h).0 accepted k x is)).0.declared

own_there : (w : ℕ) (done rest : List Entry) (x : Entry) → (x.worker == w) ≡ true → slice_get (own w (done ++ x ∷ rest)) (length (own w done)) ≡ Some x
own_there w done rest x mine =
    ap (λ (xs : List Entry). slice_get xs (length (own w done))) (own_append w done (x ∷ rest) ∙ ap (λ b. own w done ++ cond b (x ∷ own w rest) (own w rest)) mine)
    ∙ get_at (own w done) (own w rest) x

-- a log in which another entry comes next is not its worker's
pub unlike : (summaries : List Summary) (cursors : List ℕ) (done rest : List Entry) (x : Entry) (summary : Summary) → AreComparedSoFar summaries cursors done
    → slice_get summaries x.worker ≡ Some summary → slice_get summary.log.items (slice_index cursors x.worker) ≢ Some x → IsLogMismatch summaries (done ++ x ∷ rest) x.worker
unlike summaries cursors done rest x summary h is not =
    let w = x.worker in
    let at = slice_index cursors w in
    let log = summary.log.items in
    let len : length (own w done) ≡ at = ap length (h.walked w summary is) ∙ length-take-le at log (h.within w summary is) in
    record {
      summary = summary;
      at = is;
      not = λ same. not
          (ap (slice_get log) (sym len) ∙ ap (λ (xs : List Entry). slice_get xs (length (own w done))) (sym same)
          ∙ own_there w done rest x (eq-eqb x.worker w refl));
    }

pub unlike_there : (summaries : List Summary) (h done rest others : List Entry) (x : Entry) → done ++ rest ≡ h → rest ≡ x ∷ others
    → ((more : List Entry) → IsLogMismatch summaries (done ++ x ∷ more) x.worker)
    → IsLogMismatch summaries h x.worker
unlike_there summaries h done rest others x is first f = subst (λ (xs : List Entry). IsLogMismatch summaries xs x.worker) (ap (λ r. done ++ r) (sym first) ∙ is) (f others)

-- nor is one that goes on beyond its cursor
pub unfinished : (summaries : List Summary) (cursors : List ℕ) (done : List Entry) (w : ℕ) → AreComparedSoFar summaries cursors done → IsUnfinished summaries cursors w → IsLogMismatch summaries done w
unfinished summaries cursors done w h u =
    let at = slice_index cursors w in
    let log = u.summary.log.items in
    record {
      summary = u.summary;
      at = u.at;
      not = λ same. u.not (sym (length-take-le at log (h.within w u.summary u.at)) ∙ ap length (sym (h.walked w u.summary u.at) ∙ same));
    }

-- a worker's entry is among its own, after as many as it had made before
pub own_at : (w : ℕ) (h : List Entry) (k : ℕ) (x : Entry) → slice_get h k ≡ Some x → (x.worker == w) ≡ true → slice_get (own w h) (length (own w (take k h))) ≡ Some x
own_at w [] k x is mine = cc
own_at w (y ∷ h) zero x is mine =
    let same : x ≡ y = cc in
    ap (λ b. slice_get (cond b (y ∷ own w h) (own w h)) 0) (ap (λ (z : Entry). z.worker == w) (sym same) ∙ mine) ∙ ap (λ (z : Entry). Some z) (sym same)
own_at w (y ∷ h) (suc k) x is mine =
    elim (y.worker == w) as (λ b. slice_get (cond b (y ∷ own w h) (own w h)) (length (cond b (y ∷ own w (take k h)) (own w (take k h)))) ≡ Some x) [
      | true ↦ own_at w h k x is mine
      | false ↦ own_at w h k x is mine
    ]

-- if the entry at a place is the worker's own, it had not made all its steps before
pub more_there : (w : ℕ) (h : List Entry) (k : ℕ) (x : Entry) → slice_get h k ≡ Some x → (x.worker == w) ≡ true → own w (take k h) ≢ own w h
more_there w h k x is mine = λ same.
    (let within : length (own w (take k h)) < length (own w h) = slice_get_within (own w h) (length (own w (take k h))) x (own_at w h k x is mine) in
    let long : length (own w (take k h)) ≡ length (own w h) = ap length same in
    absurd (omega arith))
