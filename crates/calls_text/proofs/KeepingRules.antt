-- An event whose line is accepted keeps the rules.
use Rattle.std.proofs.Common.{◌≡◌, ℕ, ◌<◌, List, [], ◌∷◌, length, Bool, true, false, cond, eqb, not}
use Rattle.std.proofs.Common.{Option, Some, None, refl, ap, ◌∙◌, subst, arith, ◌||◌}
use Rattle.std.specs.Prelude.{is_none, is_some, unwrap_or}
use Rattle.std.specs.Option.{option_map_or, option_and_then}
use Rattle.std.specs.List.{list_any}
use Rattle.std.proofs.lemmas.Bool.{eqb-true, or_parts, leb-false}
use Rattle.ec_count.specs.Tables.{first_that}
use Rattle.ec_database.specs.Shapes as databases
use Rattle.ec_semaphore.specs.Shapes.{Semaphore}
use Rattle.ec_text.specs.Words.{number_in_word}
use Rattle.ec_text.proofs.shared.NumberLemmas.{number_takes}
use Rattle.ec_heading.specs.HeadingModel.{HeadingModel}
use Rattle.ec_heading.specs.HeadingInvariant.{HasHeaderTree}
use Rattle.ec_heading.specs.EntryWords.{event_in, sequencer_in, cell_in_word}
use Rattle.calls_core.specs.declared.history.Op.{Op}
use Rattle.calls_core.specs.declared.history.Op.TheVariants as ops
use Rattle.calls_core.specs.declared.history.Reply.TheVariants as replies
use Rattle.calls_core.specs.declared.history.Action.TheVariants.{Respond}
use Rattle.calls_core.specs.declared.history.PendingCall.{PendingCall}
use Rattle.calls_text.specs.declared.fault.FaultKind.{FaultKind}
use Rattle.calls_text.specs.declared.fault.FaultKind.TheVariants as kinds
use Rattle.calls_text.specs.declared.verb.OpWord.{OpWord}
use Rattle.calls_text.specs.declared.verb.OpWord.TheVariants as verbs
use Rattle.calls_text.specs.declared.form.ReplyWord.{ReplyWord}
use Rattle.calls_text.specs.declared.form.ReplyWord.TheVariants as answers
use Rattle.calls_text.specs.declared.object.Object.{Object}
use Rattle.calls_text.specs.declared.object.Object.TheVariants as objects
use Rattle.calls_text.specs.Verbs.{tail_of, is_update}
use Rattle.calls_text.specs.Forms.{only_in}
use Rattle.calls_text.specs.Objects.{object_in, as_semaphore, as_database, as_buffer}
use Rattle.calls_text.specs.Objects.{semaphore_pair}
use Rattle.ec_heading.specs.Groups.{both_of}
use Rattle.calls_text.specs.Objects.{semaphore_in, database_in, buffer_in, is_owned, has_right}
use Rattle.calls_text.specs.Lists.{list_number, lists_after}
use Rattle.calls_text.specs.Recordings.{RecordingModel}
use Rattle.calls_text.specs.Reading.{is_no_number, number_or_0, only_number, numbers_in}
use Rattle.calls_text.specs.Reading.{is_bad_tail, pending_in, has_two_roles, is_spent, with_call}
use Rattle.calls_text.specs.Reading.{other_word, is_bad_reply, is_suited, is_over, takes_numbers}
use Rattle.calls_text.specs.Reading.{gives_list, with_event, with_reply}
use Rattle.calls_text.specs.Rules.{AreSmall, only, IsDeclaredIn, TakesNumbers, MayCall, after_call}
use Rattle.calls_text.specs.Rules.{SuitsCall, KeepsLimit, MayReturn, after_return}
use Rattle.calls_text.proofs.CellWords.{and_then_back}
use Rattle.calls_text.proofs.ObjectWords.{worker_below, event_below, sequencer_below, cell_below}
use Rattle.calls_text.proofs.ObjectWords.{semaphore_named, database_named, buffer_named}
use Rattle.calls_text.proofs.Fitting.{mapped as map_back}
use Rattle.calls_text.proofs.PhraseWords.{SaysAnswer}
use Rattle.calls_text.proofs.CallLines.{numbers_length, not_back}
use Rattle.calls_text.proofs.TakenEvents.{one_given}
use Rattle.calls_text.proofs.EventParts.{IsCall, IsReturn, suited}
use Rattle.ec_heading.proofs.shared.Declarable.{is_none_from as none_back}

-- NUMBERS

small_number : (w : List ℕ) (o : Option ℕ) → number_in_word w ≡ o → is_none o ≡ false
    → unwrap_or o 0 < 1000000000000000000
small_number w None is some = cc
small_number w (Some n) is some = (number_takes w n is).1

word_small : (w : List ℕ) → is_no_number w ≡ false → number_or_0 w < 1000000000000000000
word_small w some = small_number w (number_in_word w) refl some

words_small : (ws : List (List ℕ)) → list_any is_no_number ws ≡ false → AreSmall (numbers_in ws)
words_small [] all = tt
words_small (w ∷ ws) all =
    let n = or_parts (is_no_number w) (list_any is_no_number ws) all in
    (word_small w n.0, words_small ws n.1)

only_small : (ws : List (List ℕ)) → option_map_or is_no_number (only_in ws) false ≡ false
    → only_number ws < 1000000000000000000
only_small [] some = omega arith
only_small (w ∷ []) some = word_small w some
only_small (w ∷ v ∷ ws) some = omega arith

-- CALLS

-- the numbers of a call
abbrev pub called_numbers : OpWord → List (List ℕ) → List ℕ
called_numbers verbs.Await ws = only_number ws ∷ []
called_numbers verbs.Put ws = only_number ws ∷ []
called_numbers verbs.Produce ws = only_number ws ∷ []
called_numbers verbs.Write ws = numbers_in ws
called_numbers v ws = []

pub call_same : (r : RecordingModel) (w : ℕ) (v : OpWord) (o : Object) (ws : List (List ℕ))
    → with_call r w v o ws ≡ after_call r w v o (called_numbers v ws)
call_same r w verbs.Advance o ws = refl
call_same r w verbs.Read o ws = refl
call_same r w verbs.Await o ws = refl
call_same r w verbs.Ticket o ws = refl
call_same r w verbs.Put o ws = refl
call_same r w verbs.Get o ws = refl
call_same r w verbs.P o ws = refl
call_same r w verbs.V o ws = refl
call_same r w verbs.PBoth o ws = refl
call_same r w verbs.Write o ws = refl
call_same r w verbs.Snapshot o ws = refl
call_same r w verbs.Produce o ws = refl
call_same r w verbs.Consume o ws = refl

call_small : (v : OpWord) (ws : List (List ℕ)) (o : Object) → is_bad_tail (tail_of v) ws o ≡ false
    → AreSmall (called_numbers v ws)
call_small verbs.Await ws o good = (only_small ws good, tt)
call_small verbs.Put ws o good = (only_small ws good, tt)
call_small verbs.Produce ws o good = (only_small ws good, tt)
call_small verbs.Write ws o good = words_small ws (or_parts (list_any is_no_number ws) _ good).0
call_small _ ws o good = tt

-- the object is declared, of the sort that the call needs, and takes these numbers
abbrev IsKept : HeadingModel → OpWord → List (List ℕ) → Object → Type 0
IsKept h v ws o = IsDeclaredIn h o × TakesNumbers v o (called_numbers v ws)

pair_kept : (h : HeadingModel) (o : List ℕ) (ws : List (List ℕ)) (obj : Object) (a : Option Semaphore)
    (b d : Option (ℕ × Semaphore)) → HasHeaderTree h → both_of h.groups ≡ a → semaphore_in h o ≡ b
    → option_and_then (semaphore_in h) (only_in ws) ≡ d → semaphore_pair a b d ≡ Some obj
    → IsKept h verbs.PBoth ws obj
pair_kept h o ws obj (Some common) (Some p) (Some q) has both first second is =
    let e : objects.Pair p.0 p.1 q.0 q.1 common ≡ obj = cc in
    let w = and_then_back (semaphore_in h) (only_in ws) q second in
    subst (IsKept h verbs.PBoth ws) e (
      ((semaphore_named h o p has first).there, (semaphore_named h w.0 q has w.2).there, both),
      refl,
    )
pair_kept h o ws obj None b d has both first second is = cc
pair_kept h o ws obj (Some common) None d has both first second is = cc
pair_kept h o ws obj (Some common) (Some p) None has both first second is = cc

many_kept : (ws : List (List ℕ)) (o : databases.Database)
    → (list_any is_no_number ws || not (eqb (length ws) o.cells)) ≡ false
    → length (numbers_in ws) ≡ o.cells
many_kept ws o good =
    let p = or_parts (list_any is_no_number ws) (not (eqb (length ws) o.cells)) good in
    numbers_length ws ∙ eqb-true _ _ (not_back _ p.1)

object_kept : (h : HeadingModel) (v : OpWord) (o : List ℕ) (ws : List (List ℕ)) (obj : Object)
    → HasHeaderTree h → object_in h v o (other_word v ws) ≡ Some obj
    → is_bad_tail (tail_of v) ws obj ≡ false → IsKept h v ws obj
object_kept h verbs.Advance o ws obj has is good =
    let m = map_back objects.Event (event_in h.words o) obj is in
    subst (IsKept h verbs.Advance ws) m.2 (event_below h o m.0 has m.1, refl)
object_kept h verbs.Read o ws obj has is good =
    let m = map_back objects.Event (event_in h.words o) obj is in
    subst (IsKept h verbs.Read ws) m.2 (event_below h o m.0 has m.1, refl)
object_kept h verbs.Await o ws obj has is good =
    let m = map_back objects.Event (event_in h.words o) obj is in
    subst (IsKept h verbs.Await ws) m.2 (event_below h o m.0 has m.1, refl)
object_kept h verbs.Ticket o ws obj has is good =
    let m = map_back objects.Sequencer (sequencer_in h.words o) obj is in
    subst (IsKept h verbs.Ticket ws) m.2 (sequencer_below h o m.0 has m.1, refl)
object_kept h verbs.Put o ws obj has is good =
    let m = map_back objects.Cell (cell_in_word h.words o) obj is in
    subst (IsKept h verbs.Put ws) m.2 (cell_below h o m.0 has m.1, refl)
object_kept h verbs.Get o ws obj has is good =
    let m = map_back objects.Cell (cell_in_word h.words o) obj is in
    subst (IsKept h verbs.Get ws) m.2 (cell_below h o m.0 has m.1, refl)
object_kept h verbs.P o ws obj has is good =
    let m = map_back as_semaphore (semaphore_in h o) obj is in
    subst (IsKept h verbs.P ws) m.2 ((semaphore_named h o m.0 has m.1).there, refl)
object_kept h verbs.V o ws obj has is good =
    let m = map_back as_semaphore (semaphore_in h o) obj is in
    subst (IsKept h verbs.V ws) m.2 ((semaphore_named h o m.0 has m.1).there, refl)
object_kept h verbs.PBoth o ws obj has is good =
    pair_kept h o ws obj (both_of h.groups) (semaphore_in h o)
    (option_and_then (semaphore_in h) (only_in ws)) has refl refl refl is
object_kept h verbs.Write o ws obj has is good =
    let m = map_back as_database (database_in h o) obj is in
    let many : (list_any is_no_number ws || not (eqb (length ws) m.0.1.cells)) ≡ false =
    ap (is_bad_tail (tail_of verbs.Write) ws) m.2 ∙ good in
    subst (IsKept h verbs.Write ws) m.2
    ((database_named h o m.0 has m.1).there, many_kept ws m.0.1 many)
object_kept h verbs.Snapshot o ws obj has is good =
    let m = map_back as_database (database_in h o) obj is in
    subst (IsKept h verbs.Snapshot ws) m.2 ((database_named h o m.0 has m.1).there, refl)
object_kept h verbs.Produce o ws obj has is good =
    let m = map_back as_buffer (buffer_in h o) obj is in
    subst (IsKept h verbs.Produce ws) m.2 ((buffer_named h o m.0 has m.1).there, refl)
object_kept h verbs.Consume o ws obj has is good =
    let m = map_back as_buffer (buffer_in h o) obj is in
    subst (IsKept h verbs.Consume ws) m.2 ((buffer_named h o m.0 has m.1).there, refl)

-- tests that all passed
six_passed : (a b c d e f : Bool) (t u v w x y : FaultKind)
    → first_that ((a, t) ∷ (b, u) ∷ (c, v) ∷ (d, w) ∷ (e, x) ∷ (f, y) ∷ []) ≡ None
    → (a ≡ false) × (b ≡ false) × (c ≡ false) × (d ≡ false) × (e ≡ false) × (f ≡ false)
six_passed true b c d e f t u v w x y none = cc
six_passed false true c d e f t u v w x y none = cc
six_passed false false true d e f t u v w x y none = cc
six_passed false false false true e f t u v w x y none = cc
six_passed false false false false true f t u v w x y none = cc
six_passed false false false false false true t u v w x y none = cc
six_passed false false false false false false t u v w x y none =
    (refl, refl, refl, refl, refl, refl)

pub may_call : (r s : RecordingModel) (line : List ℕ) → HasHeaderTree r.heading
    → (c : IsCall r line s)
    → MayCall r c.worker c.verb c.of (called_numbers c.verb c.tail)
may_call r s line has c =
    let p = six_passed (is_bad_tail (tail_of c.verb) c.tail c.of) (is_owned r.heading.groups c.of)
    (has_two_roles c.of) (not (has_right r.heading.setup c.worker (is_update c.verb) c.of))
    (is_some (pending_in r.events c.worker)) (is_spent r c.worker c.verb c.of)
    kinds.BadNumber kinds.Hidden kinds.TwoRoles kinds.NoRight kinds.Busy kinds.AtLimit
    c.allowed in
    let k : IsKept r.heading c.verb c.tail c.of =
    object_kept r.heading c.verb c.object c.tail c.of has c.which p.0 in
    record {
      worker = worker_below r.heading c.name c.worker has c.who;
      declared = k.0;
      takes = k.1;
      small = call_small c.verb c.tail c.of p.0;
      free = p.1;
      roles = p.2;
      right = not_back _ p.3;
      idle = none_back (pending_in r.events c.worker) p.4;
      within = p.5;
    }

-- RETURNS

-- the numbers of a return
abbrev pub returned_numbers : ReplyWord → List (List ℕ) → List ℕ
returned_numbers answers.Numbers ws = numbers_in ws
returned_numbers a ws = []

only_same : (ws : List (List ℕ)) → length ws ≡ 1 → only_number ws ≡ only (numbers_in ws)
only_same [] one = absurd (omega (arith, one))
only_same (w ∷ []) one = refl
only_same (w ∷ v ∷ ws) one = absurd (omega (arith, one))

number_same : (r : RecordingModel) (w : ℕ) (b : Bool) (ws : List (List ℕ))
    → (b ≡ false → length ws ≡ 1)
    → with_event r w (Respond (replies.Number (cond b (list_number r.lists (numbers_in ws))
    (only_number ws)))) (cond b (lists_after r.lists (numbers_in ws)) r.lists)
    ≡ with_event r w (Respond (replies.Number (cond b (list_number r.lists (numbers_in ws))
    (only (numbers_in ws))))) (cond b (lists_after r.lists (numbers_in ws)) r.lists)
number_same r w true ws one = refl
number_same r w false ws one =
    ap (λ (k : ℕ). with_event r w (Respond (replies.Number k)) r.lists) (only_same ws (one refl))

pub reply_same : (r : RecordingModel) (w : ℕ) (c : PendingCall) (a : ReplyWord) (ws : List (List ℕ))
    → is_suited r.heading c a ws ≡ true
    → with_reply r w c a ws ≡ after_return r w c a (returned_numbers a ws)
reply_same r w c answers.Done ws suits = refl
reply_same r w c answers.Timeout ws suits = refl
reply_same r w c answers.Numbers ws suits =
    number_same r w (gives_list r.heading c c.op) ws
    (one_given r.heading c c.op (length ws) suits)

suits_kept : (h : HeadingModel) (c : PendingCall) (a : ReplyWord) (ws : List (List ℕ))
    → SaysAnswer a ws
    → is_suited h c a ws ≡ true → SuitsCall h c a (returned_numbers a ws)
suits_kept h c answers.Done ws says suits = (suits, refl)
suits_kept h c answers.Timeout ws says suits = (suits, refl)
suits_kept h c answers.Numbers ws says suits = (
  ap (takes_numbers h c c.op) (numbers_length ws) ∙ suits,
  omega (arith, says.0, numbers_length ws),
)

small_kept : (a : ReplyWord) (ws : List (List ℕ)) → is_bad_reply a ws ≡ false
    → AreSmall (returned_numbers a ws)
small_kept answers.Numbers ws good = words_small ws good
small_kept answers.Done ws good = tt
small_kept answers.Timeout ws good = tt

limit_none : (limit : ℕ) (op : Op) → KeepsLimit limit op []
limit_none limit ops.Ticket = tt
limit_none limit _ = tt

limit_kept : (limit : ℕ) (h : HeadingModel) (c : PendingCall) (op : Op) (ws : List (List ℕ))
    → takes_numbers h c op (length ws) ≡ true → is_over limit op answers.Numbers ws ≡ false
    → KeepsLimit limit op (numbers_in ws)
limit_kept limit h c ops.Ticket [] suits within = tt
limit_kept limit h c ops.Ticket (w ∷ []) suits within = (leb-false _ _ within, tt)
limit_kept limit h c ops.Ticket (w ∷ v ∷ ws) suits within =
    absurd (omega (arith, eqb-true (length (w ∷ v ∷ ws)) 1 suits))
limit_kept limit h c _ ws suits within = tt

within_kept : (r : RecordingModel) (c : PendingCall) (a : ReplyWord) (ws : List (List ℕ))
    → is_suited r.heading c a ws ≡ true → is_over r.heading.setup.limit c.op a ws ≡ false
    → KeepsLimit r.heading.setup.limit c.op (returned_numbers a ws)
within_kept r c answers.Done ws suits within = limit_none r.heading.setup.limit c.op
within_kept r c answers.Timeout ws suits within = limit_none r.heading.setup.limit c.op
within_kept r c answers.Numbers ws suits within =
    limit_kept r.heading.setup.limit r.heading c c.op ws suits within

pub may_return : (r s : RecordingModel) (line : List ℕ) → HasHeaderTree r.heading
    → (c : IsReturn r line s)
    → MayReturn r c.worker c.call c.answer (returned_numbers c.answer c.tail)
may_return r s line has c =
    let f = suited r c.call c.answer c.tail c.allowed in
    record {
      worker = worker_below r.heading c.name c.worker has c.who;
      pending = c.pending;
      suits = suits_kept r.heading c.call c.answer c.tail c.says f.0;
      small = small_kept c.answer c.tail c.good;
      within = within_kept r c.call c.answer c.tail f.0 f.1;
    }
