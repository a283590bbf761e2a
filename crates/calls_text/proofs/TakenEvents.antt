-- Each event that the rules allow has a line that is accepted as it.
use Rattle.std.proofs.Common.{◌≡◌, ℕ, ◌-◌, ◌<◌, ◌≤◌, List, [], ◌∷◌, length, map}
use Rattle.std.proofs.Common.{Bool, true, false, cond, eqb, nat_lt, nat_le, not, ◌&&◌, ◌||◌, Option}
use Rattle.std.proofs.Common.{Some, None, Ok, refl, sym, ap, ap₂, ◌∙◌, arith, codes}
use Rattle.std.proofs.Common.{decimal, bytes_eq, slice_get, length-append, eq-eqb, le-leb, get_or}
use Rattle.std.specs.Char.{is_ascii_digit}
use Rattle.std.specs.Prelude.{is_none, unwrap_or, option_map}
use Rattle.std.specs.Option.{option_map_or}
use Rattle.std.specs.List.{AllByRecursion, join_with_byte, list_all, list_any}
use Rattle.std.proofs.lemmas.Bool.{and_from, lt-leb, lt-ltb, leb-false, eqb-true}
use Rattle.std.proofs.lemmas.Bool.{false_from_ne_true}
use Rattle.std.proofs.lemmas.Slice.Eq.{bytes_eq-Decides}
use Rattle.ec_text.specs.Words.{words_of, is_number_form}
use Rattle.ec_text.proofs.shared.NumberLemmas.{number_again, number_is_form, number_is_other}
use Rattle.ec_heading.specs.HeadingModel.{HeadingModel}
use Rattle.ec_heading.specs.HeadingInvariant.{HasHeaderTree}
use Rattle.ec_heading.specs.Recalled.{with_spaces as spaced_words}
use Rattle.calls_core.specs.declared.history.Op.{Op}
use Rattle.calls_core.specs.declared.history.Op.TheVariants as ops
use Rattle.calls_core.specs.declared.history.Reply.TheVariants as replies
use Rattle.calls_core.specs.declared.history.Action.TheVariants.{Invoke, Respond}
use Rattle.calls_core.specs.declared.history.PendingCall.{PendingCall}
use Rattle.calls_text.specs.declared.verb.OpWord.{OpWord}
use Rattle.calls_text.specs.declared.verb.OpWord.TheVariants as verbs
use Rattle.calls_text.specs.declared.form.ReplyWord.{ReplyWord}
use Rattle.calls_text.specs.declared.form.ReplyWord.TheVariants as answers
use Rattle.calls_text.specs.declared.object.Object.{Object}
use Rattle.calls_text.specs.declared.object.Object.TheVariants as objects
use Rattle.calls_text.specs.Verbs.{verb_word, parse_op_word, tail_of}
use Rattle.calls_text.specs.Forms.{Phrase, Calls, Returns, phrase_in, is_tail, parse_reply_word}
use Rattle.calls_text.specs.Forms.{is_word}
use Rattle.calls_text.specs.Objects.{object_in, as_semaphore, as_database, as_buffer}
use Rattle.calls_text.specs.Lists.{list_number, lists_after}
use Rattle.calls_text.specs.Recordings.{RecordingModel, numbers_of, first_group, cells_of}
use Rattle.calls_text.specs.Reading.{is_no_number, number_or_0, only_number, numbers_in}
use Rattle.calls_text.specs.Reading.{is_bad_tail, call_fault, index_of, with_event, with_call}
use Rattle.calls_text.specs.Reading.{other_word, after_phrase, event_step, is_bad_reply, is_over}
use Rattle.calls_text.specs.Reading.{suit_fault, takes_numbers, gives_list, with_reply}
use Rattle.calls_text.specs.Spelling.{worker_word, event_word, sequencer_word, cell_name}
use Rattle.calls_text.specs.Spelling.{group_word}
use Rattle.calls_text.specs.Rules.{AreSmall, only, IsDeclaredIn, TakesNumbers, MayCall, after_call}
use Rattle.calls_text.specs.Rules.{KeepsLimit, MayReturn, after_return}
use Rattle.calls_text.proofs.TextParts.{IsPart}
use Rattle.calls_text.proofs.FineWords.{IsFine, literal_fine, number_fine, numbers_fine, verb_fine}
use Rattle.calls_text.proofs.FineWords.{numbers_short, IsLineOf, fine_line}
use Rattle.calls_text.proofs.GroupNames.{database_fits, few_cells}
use Rattle.calls_text.proofs.Finding.{worker_found, event_found, sequencer_found, cell_found}
use Rattle.calls_text.proofs.Finding.{semaphore_found, database_found, buffer_found}

-- NUMBERS

number_back : (n : ℕ) → n < 1000000000000000000 → number_or_0 (decimal n) ≡ n
number_back n small = ap (λ (o : Option ℕ). unwrap_or o 0) (number_again n small)

number_good : (n : ℕ) → n < 1000000000000000000 → is_no_number (decimal n) ≡ false
number_good n small = ap is_none (number_again n small)

number_form : (n : ℕ) → n < 1000000000000000000 → is_number_form (decimal n) ≡ true
number_form n small = (number_is_form (decimal n) n (number_again n small)).0

numbers_back : (ns : List ℕ) → AreSmall ns → numbers_in (map decimal ns) ≡ ns
numbers_back [] small = refl
numbers_back (n ∷ ns) small =
    ap₂ (λ (x : ℕ) (xs : List ℕ). x ∷ xs) (number_back n small.0) (numbers_back ns small.1)

numbers_good : (ns : List ℕ) → AreSmall ns → list_any is_no_number (map decimal ns) ≡ false
numbers_good [] small = refl
numbers_good (n ∷ ns) small =
    ap (λ (b : Bool). b || list_any is_no_number (map decimal ns)) (number_good n small.0)
    ∙ numbers_good ns small.1

numbers_form : (ns : List ℕ) → AreSmall ns → list_all is_number_form (map decimal ns) ≡ true
numbers_form [] small = refl
numbers_form (n ∷ ns) small =
    and_from _ _ (number_form n small.0) (numbers_form ns small.1)

only_back : (ns : List ℕ) → AreSmall ns → length ns ≤ 1 → only_number (map decimal ns) ≡ only ns
only_back [] small few = refl
only_back (n ∷ []) small few = number_back n small.0
only_back (n ∷ m ∷ ns) small few = absurd (omega (arith, few))

numbers_long : (ns : List ℕ) → length (map decimal ns) ≡ length ns
numbers_long [] = refl
numbers_long (n ∷ ns) = omega (arith, numbers_long ns)

-- CALLS

-- words by which a call names its object and its numbers
record Names (r : RecordingModel) (v : OpWord) (o : Object) (ns : List ℕ) : Type 0 where
  object : List ℕ
  tail : List (List ℕ)
  fine : IsFine object
  each : AllByRecursion IsFine tail
  short : length (spaced_words tail) ≤ 4864
  named : object_in r.heading v object (other_word v tail) ≡ Some o
  formed : is_tail (tail_of v) tail ≡ true
  good : is_bad_tail (tail_of v) tail o ≡ false
  gives : (w : ℕ) → with_call r w v o tail ≡ after_call r w v o ns

alone : (r : RecordingModel) (v : OpWord) (o : Object) (ns : List ℕ) (w : List ℕ) → IsFine w
    → object_in r.heading v w (other_word v []) ≡ Some o → is_tail (tail_of v) [] ≡ true
    → is_bad_tail (tail_of v) [] o ≡ false
    → ((i : ℕ) → with_call r i v o [] ≡ after_call r i v o ns) → Names r v o ns
alone r v o ns w fine named formed good gives = record {
  object = w;
  tail = [];
  fine = fine;
  each = tt;
  short = omega arith;
  named = named;
  formed = formed;
  good = good;
  gives = gives;
}

one_number : (r : RecordingModel) (v : OpWord) (o : Object) (ns : List ℕ) (w : List ℕ) → IsFine w
    → length ns ≡ 1 → AreSmall ns
    → object_in r.heading v w (other_word v (map decimal ns)) ≡ Some o
    → ((n : ℕ) → n < 1000000000000000000 → is_tail (tail_of v) (decimal n ∷ []) ≡ true)
    → ((n : ℕ) → n < 1000000000000000000 → is_bad_tail (tail_of v) (decimal n ∷ []) o ≡ false)
    → ((n : ℕ) → n < 1000000000000000000 → (i : ℕ)
    → with_call r i v o (decimal n ∷ []) ≡ after_call r i v o (n ∷ []))
    → Names r v o ns
one_number r v o [] w fine one small named formed good gives = absurd (omega (arith, one))
one_number r v o (n ∷ m ∷ ns) w fine one small named formed good gives =
    absurd (omega (arith, one))
one_number r v o (n ∷ []) w fine one small named formed good gives = record {
  object = w;
  tail = decimal n ∷ [];
  fine = fine;
  each = (number_fine n small.0, tt);
  short = omega (arith, numbers_short (n ∷ []) small);
  named = named;
  formed = formed n small.0;
  good = good n small.0;
  gives = gives n small.0;
}

names : (r : RecordingModel) (v : OpWord) (o : Object) (ns : List ℕ) → HasHeaderTree r.heading
    → IsDeclaredIn r.heading o → TakesNumbers v o ns → AreSmall ns → Names r v o ns
names r verbs.Advance (objects.Event e) ns has there takes small =
    let f = event_found r.heading e has there in
    alone r verbs.Advance (objects.Event e) ns (event_word r.heading e) f.1
    (ap (option_map objects.Event) f.0) refl refl (λ i. refl)
names r verbs.Read (objects.Event e) ns has there takes small =
    let f = event_found r.heading e has there in
    alone r verbs.Read (objects.Event e) ns (event_word r.heading e) f.1
    (ap (option_map objects.Event) f.0) refl refl (λ i. refl)
names r verbs.Await (objects.Event e) ns has there takes small =
    let f = event_found r.heading e has there in
    one_number r verbs.Await (objects.Event e) ns (event_word r.heading e) f.1 takes small
    (ap (option_map objects.Event) f.0) number_form number_good
    (λ n low i. ap (λ (k : ℕ). with_event r i (Invoke e (ops.Await k)) r.lists) (number_back n low))
names r verbs.Ticket (objects.Sequencer q) ns has there takes small =
    let f = sequencer_found r.heading q has there in
    alone r verbs.Ticket (objects.Sequencer q) ns (sequencer_word r.heading q) f.1
    (ap (option_map objects.Sequencer) f.0) refl refl (λ i. refl)
names r verbs.Put (objects.Cell x) ns has there takes small =
    let f = cell_found r.heading x has there in
    one_number r verbs.Put (objects.Cell x) ns (cell_name r.heading x) f.1 takes small
    (ap (option_map objects.Cell) f.0) number_form number_good
    (λ n low i. ap (λ (k : ℕ). with_event r i
    (Invoke (index_of r.heading (objects.Cell x)) (ops.Put k)) r.lists) (number_back n low))
names r verbs.Get (objects.Cell x) ns has there takes small =
    let f = cell_found r.heading x has there in
    alone r verbs.Get (objects.Cell x) ns (cell_name r.heading x) f.1
    (ap (option_map objects.Cell) f.0) refl refl (λ i. refl)
names r verbs.P (objects.Semaphore i s) ns has there takes small =
    let f = semaphore_found r.heading i s has there in
    alone r verbs.P (objects.Semaphore i s) ns (group_word r.heading i) f.1
    (ap (option_map as_semaphore) f.0) refl refl (λ i. refl)
names r verbs.V (objects.Semaphore i s) ns has there takes small =
    let f = semaphore_found r.heading i s has there in
    alone r verbs.V (objects.Semaphore i s) ns (group_word r.heading i) f.1
    (ap (option_map as_semaphore) f.0) refl refl (λ i. refl)
names r verbs.PBoth (objects.Pair i one j other common) ns has there takes small =
    let f = semaphore_found r.heading i one has there.0 in
    let g = semaphore_found r.heading j other has there.1 in
    record {
      object = group_word r.heading i;
      tail = group_word r.heading j ∷ [];
      fine = f.1;
      each = (g.1, tt);
      short = omega (arith, g.1.short, length-append (32 ∷ group_word r.heading j) []);
      named = rw (there.2, f.0, g.0) refl;
      formed = refl;
      good = refl;
      gives = λ i. refl;
    }
names r verbs.Write (objects.Database i d) ns has there takes small =
    let f = database_found r.heading i d has there in
    let size = database_fits r.heading i d has there in
    let long : length (map decimal ns) ≡ d.cells = numbers_long ns ∙ takes in
    let many : eqb (length (map decimal ns)) d.cells ≡ true = eq-eqb _ _ long in
    let some : nat_le 1 (length (map decimal ns)) ≡ true =
    le-leb _ _ (omega (arith, long, size.0)) in
    record {
      object = group_word r.heading i;
      tail = map decimal ns;
      fine = f.1;
      each = numbers_fine ns small;
      short = omega (arith, numbers_short ns small, takes, size.1);
      named = ap (option_map as_database) f.0;
      formed = and_from _ _ some (numbers_form ns small);
      good = ap₂ (λ (a : Bool) (b : Bool). a || not b) (numbers_good ns small) many;
      gives = λ w. ap (λ (xs : List ℕ). with_event r w
          (Invoke (index_of r.heading (objects.Database i d)) (ops.Put (list_number r.lists xs)))
          (lists_after r.lists xs)) (numbers_back ns small);
    }
names r verbs.Snapshot (objects.Database i d) ns has there takes small =
    let f = database_found r.heading i d has there in
    alone r verbs.Snapshot (objects.Database i d) ns (group_word r.heading i) f.1
    (ap (option_map as_database) f.0) refl refl (λ i. refl)
names r verbs.Produce (objects.Buffer place b) ns has there takes small =
    let f = buffer_found r.heading place b has there in
    one_number r verbs.Produce (objects.Buffer place b) ns (group_word r.heading place) f.1 takes
    small (ap (option_map as_buffer) f.0) number_form number_good
    (λ n low i. ap (λ (k : ℕ). with_event r i
    (Invoke (index_of r.heading (objects.Buffer place b)) (ops.Produce k)) r.lists)
    (number_back n low))
names r verbs.Consume (objects.Buffer i b) ns has there takes small =
    let f = buffer_found r.heading i b has there in
    alone r verbs.Consume (objects.Buffer i b) ns (group_word r.heading i) f.1
    (ap (option_map as_buffer) f.0) refl refl (λ i. refl)
names r v o ns has there takes small = absurd takes

-- an accepted line
pub record IsTaken (r s : RecordingModel) : Type 0 where
  pub line : List ℕ
  pub part : IsPart line
  pub going : bytes_eq line (codes "end") ≡ false
  pub steps : event_step r line ≡ Ok s

verb_back : (v : OpWord) → parse_op_word (verb_word v) ≡ Some v
verb_back verbs.Advance = refl
verb_back verbs.Read = refl
verb_back verbs.Await = refl
verb_back verbs.Ticket = refl
verb_back verbs.Put = refl
verb_back verbs.Get = refl
verb_back verbs.P = refl
verb_back verbs.V = refl
verb_back verbs.PBoth = refl
verb_back verbs.Write = refl
verb_back verbs.Snapshot = refl
verb_back verbs.Produce = refl
verb_back verbs.Consume = refl

call_read : (w o : List ℕ) (v : OpWord) (ws : List (List ℕ)) → is_tail (tail_of v) ws ≡ true
    → phrase_in (w ∷ codes "calls" ∷ verb_word v ∷ o ∷ ws) ≡ Some (Calls w v o ws)
unfolding phrase_in
call_read w o v ws formed = rw (verb_back v) (rw formed refl)

no_call_fault : (r : RecordingModel) (w : ℕ) (v : OpWord) (o : Object) (ns : List ℕ)
    (ws : List (List ℕ)) → MayCall r w v o ns → is_bad_tail (tail_of v) ws o ≡ false
    → call_fault r w v o ws ≡ None
no_call_fault r w v o ns ws may good =
    rw (good, may.free, may.roles, may.right, may.idle, may.within) refl

-- a line of more than one word is not `end`
not_end : (line w v : List ℕ) (ws : List (List ℕ)) → words_of line ≡ w ∷ v ∷ ws
    → bytes_eq line (codes "end") ≡ false
not_end line w v ws words =
    false_from_ne_true _ (λ same. (
    let one : words_of line ≡ codes "end" ∷ [] =
    ap words_of ((bytes_eq-Decides line (codes "end")).0 same) in
    let two : w ∷ v ∷ ws ≡ codes "end" ∷ [] = sym words ∙ one in
    cc))

line_taken : (r s : RecordingModel) (line w v : List ℕ) (ws : List (List ℕ)) (p : Phrase)
    → IsLineOf line (w ∷ v ∷ ws) → phrase_in (w ∷ v ∷ ws) ≡ Some p
    → after_phrase r (Some p) ≡ Ok s → IsTaken r s
unfolding event_step
line_taken r s line w v ws p is phrase takes = record {
  line = line;
  part = is.part;
  going = not_end line w v ws is.words;
  steps = rw (is.good, is.words, phrase) takes;
}

pub call_taken : (r : RecordingModel) (w : ℕ) (v : OpWord) (o : Object) (ns : List ℕ)
    → HasHeaderTree r.heading → MayCall r w v o ns → IsTaken r (after_call r w v o ns)
call_taken r w v o ns has may =
    let n : Names r v o ns = names r v o ns has may.declared may.takes may.small in
    let who = worker_found r.heading w has may.worker in
    let words : List (List ℕ) = codes "calls" ∷ verb_word v ∷ n.object ∷ n.tail in
    let fine : AllByRecursion IsFine
    (worker_word r.heading w ∷ codes "calls" ∷ verb_word v ∷ n.object ∷ n.tail) = (
      who.1,
      (literal_fine (codes "calls") refl refl refl refl, (verb_fine v, (n.fine, n.each))),
    ) in
    let long : length (spaced_words (codes "calls" ∷ verb_word v ∷ n.object ∷ n.tail)) ≤ 8000 =
    omega (
      arith,
      (verb_fine v).short,
      n.fine.short,
      n.short,
      length-append (32 ∷ verb_word v) (spaced_words (n.object ∷ n.tail)),
      length-append (32 ∷ n.object) (spaced_words n.tail),
      length-append (32 ∷ codes "calls") (spaced_words (verb_word v ∷ n.object ∷ n.tail)),
    ) in
    let none : call_fault r w v o n.tail ≡ None = no_call_fault r w v o ns n.tail may n.good in
    let takes : after_phrase r (Some (Calls (worker_word r.heading w) v n.object n.tail))
    ≡ Ok (after_call r w v o ns) =
    rw (who.0, n.named, none) (ap Ok (n.gives w)) in
    line_taken r (after_call r w v o ns)
    (join_with_byte 32 (worker_word r.heading w ∷ codes "calls" ∷ verb_word v ∷ n.object ∷ n.tail))
    (worker_word r.heading w) (codes "calls") (verb_word v ∷ n.object ∷ n.tail)
    (Calls (worker_word r.heading w) v n.object n.tail)
    (fine_line (worker_word r.heading w) (codes "calls" ∷ verb_word v ∷ n.object ∷ n.tail) fine
    long)
    (call_read (worker_word r.heading w) n.object v n.tail n.formed) takes

-- RETURNS

-- words of the reply in a response
record Says (r : RecordingModel) (c : PendingCall) (a : ReplyWord) (ns : List ℕ) : Type 0 where
  first : List ℕ
  others : List (List ℕ)
  fine : IsFine first
  each : AllByRecursion IsFine others
  short : length (spaced_words (first ∷ others)) ≤ 4864
  said : parse_reply_word (first ∷ others) ≡ Some a
  good : is_bad_reply a (first ∷ others) ≡ false
  fault : suit_fault r.heading c a (first ∷ others) ≡ None
  gives : (w : ℕ) → with_reply r w c a (first ∷ others) ≡ after_return r w c a ns

return_read : (w first : List ℕ) (others : List (List ℕ)) (a : ReplyWord)
    → parse_reply_word (first ∷ others) ≡ Some a
    → phrase_in (w ∷ codes "returns" ∷ first ∷ others) ≡ Some (Returns w a (first ∷ others))
unfolding phrase_in
return_read w first others a said = rw said refl

said_taken : (r : RecordingModel) (w : ℕ) (c : PendingCall) (a : ReplyWord) (ns : List ℕ)
    → HasHeaderTree r.heading → MayReturn r w c a ns → Says r c a ns
    → IsTaken r (after_return r w c a ns)
said_taken r w c a ns has may s =
    let who = worker_found r.heading w has may.worker in
    let fine : AllByRecursion IsFine
    (worker_word r.heading w ∷ codes "returns" ∷ s.first ∷ s.others) =
    (who.1, (literal_fine (codes "returns") refl refl refl refl, (s.fine, s.each))) in
    let long : length (spaced_words (codes "returns" ∷ s.first ∷ s.others)) ≤ 8000 =
    omega (
      arith,
      s.short,
      length-append (32 ∷ codes "returns") (spaced_words (s.first ∷ s.others)),
    ) in
    let takes : after_phrase r (Some (Returns (worker_word r.heading w) a (s.first ∷ s.others)))
    ≡ Ok (after_return r w c a ns) =
    rw (who.0, s.good, may.pending, s.fault) (ap Ok (s.gives w)) in
    line_taken r (after_return r w c a ns)
    (join_with_byte 32 (worker_word r.heading w ∷ codes "returns" ∷ s.first ∷ s.others))
    (worker_word r.heading w) (codes "returns") (s.first ∷ s.others)
    (Returns (worker_word r.heading w) a (s.first ∷ s.others))
    (fine_line (worker_word r.heading w) (codes "returns" ∷ s.first ∷ s.others) fine long)
    (return_read (worker_word r.heading w) s.first s.others a s.said) takes

-- a number among the first words is no word of letters
no_word : (n : ℕ) (ms : List ℕ) (word : List ℕ) → n < 1000000000000000000
    → is_ascii_digit (get_or word 0 0) ≡ false → is_word word (map decimal (n ∷ ms)) ≡ false
no_word n [] word small other = number_is_other n word small other
no_word n (m ∷ ms) word small other = refl

numbers_said : (n : ℕ) (ms : List ℕ) → AreSmall (n ∷ ms)
    → parse_reply_word (map decimal (n ∷ ms)) ≡ Some answers.Numbers
numbers_said n ms small =
    let some : nat_le 1 (length (map decimal (n ∷ ms))) ≡ true = le-leb _ _ (omega arith) in
    let all : (nat_le 1 (length (map decimal (n ∷ ms)))
    && list_all is_number_form (map decimal (n ∷ ms))) ≡ true =
    and_from _ _ some (numbers_form (n ∷ ms) small) in
    ap (λ (b : Bool). cond b (Some answers.Done)
    (cond (is_word (codes "timeout") (map decimal (n ∷ ms))) (Some answers.Timeout)
    (cond (nat_le 1 (length (map decimal (n ∷ ms)))
    && list_all is_number_form (map decimal (n ∷ ms))) (Some answers.Numbers) None)))
    (no_word n ms (codes "done") small.0 refl)
    ∙ ap (λ (b : Bool). cond b (Some answers.Timeout)
    (cond (nat_le 1 (length (map decimal (n ∷ ms)))
    && list_all is_number_form (map decimal (n ∷ ms))) (Some answers.Numbers) None))
    (no_word n ms (codes "timeout") small.0 refl)
    ∙ ap (λ (b : Bool). cond b (Some answers.Numbers) None) all

-- HOW MANY NUMBERS

pub one_given : (h : HeadingModel) (c : PendingCall) (op : Op) (n : ℕ)
    → takes_numbers h c op n ≡ true
    → gives_list h c op ≡ false → n ≡ 1
one_given h c ops.Read n takes list = eqb-true _ _ takes
one_given h c (ops.Await v) n takes list = eqb-true _ _ takes
one_given h c ops.Ticket n takes list = eqb-true _ _ takes
one_given h c ops.Get n takes list =
    let small : c.object < first_group h = leb-false _ _ list in
    let before : nat_lt c.object (first_group h) ≡ true = lt-ltb _ _ small in
    let one : numbers_of h c.object ≡ 1 = rw before refl in
    eqb-true _ _ takes ∙ one
one_given h c ops.Advance n takes list = cc
one_given h c (ops.P i) n takes list = cc
one_given h c (ops.V i) n takes list = cc
one_given h c (ops.PBoth i j) n takes list = cc
one_given h c (ops.Put v) n takes list = cc
one_given h c (ops.Produce v) n takes list = cc
one_given h c ops.Consume n takes list = eqb-true _ _ takes

few_of : (h : HeadingModel) (k : ℕ) → HasHeaderTree h → numbers_of h k ≤ 256
few_of h k has =
    elim (nat_lt k (first_group h)) as (λ b.
    cond b 1 (option_map_or cells_of (slice_get h.groups (k - first_group h)) 0) ≤ 256) [
      | true ↦ omega arith
      | false ↦ few_cells h (k - first_group h) (slice_get h.groups (k - first_group h)) has refl
    ]

few_given : (h : HeadingModel) (c : PendingCall) (op : Op) (n : ℕ) → HasHeaderTree h
    → takes_numbers h c op n ≡ true → n ≤ 256
few_given h c ops.Read n has takes = omega (arith, eqb-true n 1 takes)
few_given h c (ops.Await v) n has takes = omega (arith, eqb-true n 1 takes)
few_given h c ops.Ticket n has takes = omega (arith, eqb-true n 1 takes)
few_given h c ops.Get n has takes =
    omega (arith, eqb-true n (numbers_of h c.object) takes, few_of h c.object has)
few_given h c ops.Advance n has takes = cc
few_given h c (ops.P i) n has takes = cc
few_given h c (ops.V i) n has takes = cc
few_given h c (ops.PBoth i j) n has takes = cc
few_given h c (ops.Put v) n has takes = cc
few_given h c (ops.Produce v) n has takes = cc
few_given h c ops.Consume n has takes = omega (arith, eqb-true n 1 takes)

-- THE LIMIT

not_over : (limit : ℕ) (h : HeadingModel) (c : PendingCall) (op : Op) (ns : List ℕ) → AreSmall ns
    → takes_numbers h c op (length ns) ≡ true → KeepsLimit limit op ns
    → is_over limit op answers.Numbers (map decimal ns) ≡ false
not_over limit h c ops.Ticket [] small takes keeps = absurd (omega (arith, eqb-true 0 1 takes))
not_over limit h c ops.Ticket (n ∷ []) small takes keeps =
    ap (nat_le limit) (number_back n small.0) ∙ lt-leb _ _ keeps.0
not_over limit h c ops.Ticket (n ∷ m ∷ ns) small takes keeps =
    absurd (omega (arith, eqb-true (length (n ∷ m ∷ ns)) 1 takes))
not_over limit h c ops.Advance ns small takes keeps = refl
not_over limit h c ops.Read ns small takes keeps = refl
not_over limit h c (ops.Await v) ns small takes keeps = refl
not_over limit h c (ops.P i) ns small takes keeps = refl
not_over limit h c (ops.V i) ns small takes keeps = refl
not_over limit h c (ops.PBoth i j) ns small takes keeps = refl
not_over limit h c (ops.Put v) ns small takes keeps = refl
not_over limit h c ops.Get ns small takes keeps = refl
not_over limit h c (ops.Produce v) ns small takes keeps = refl
not_over limit h c ops.Consume ns small takes keeps = refl

never_over : (limit : ℕ) (op : Op) (ws : List (List ℕ))
    → (is_over limit op answers.Done ws ≡ false) × (is_over limit op answers.Timeout ws ≡ false)
never_over limit ops.Ticket ws = (refl, refl)
never_over limit ops.Advance ws = (refl, refl)
never_over limit ops.Read ws = (refl, refl)
never_over limit (ops.Await v) ws = (refl, refl)
never_over limit (ops.P i) ws = (refl, refl)
never_over limit (ops.V i) ws = (refl, refl)
never_over limit (ops.PBoth i j) ws = (refl, refl)
never_over limit (ops.Put v) ws = (refl, refl)
never_over limit ops.Get ws = (refl, refl)
never_over limit (ops.Produce v) ws = (refl, refl)
never_over limit ops.Consume ws = (refl, refl)

-- THE REPLIES, ONE BY ONE

reply_given : (r : RecordingModel) (w : ℕ) (b : Bool) (ns : List ℕ) → AreSmall ns
    → (b ≡ false → length ns ≡ 1)
    → with_event r w (Respond (replies.Number (cond b
    (list_number r.lists (numbers_in (map decimal ns))) (only_number (map decimal ns)))))
    (cond b (lists_after r.lists (numbers_in (map decimal ns))) r.lists)
    ≡ with_event r w (Respond (replies.Number (cond b (list_number r.lists ns) (only ns))))
    (cond b (lists_after r.lists ns) r.lists)
reply_given r w true ns small one =
    ap (λ (xs : List ℕ). with_event r w (Respond (replies.Number (list_number r.lists xs)))
    (lists_after r.lists xs)) (numbers_back ns small)
reply_given r w false ns small one =
    ap (λ (k : ℕ). with_event r w (Respond (replies.Number k)) r.lists)
    (only_back ns small (omega (arith, one refl)))

says : (r : RecordingModel) (w : ℕ) (c : PendingCall) (a : ReplyWord) (ns : List ℕ)
    → HasHeaderTree r.heading
    → MayReturn r w c a ns → Says r c a ns
says r w c answers.Done ns has may =
    let over = (never_over r.heading.setup.limit c.op (codes "done" ∷ [])).0 in
    record {
      first = codes "done";
      others = [];
      fine = literal_fine (codes "done") refl refl refl refl;
      each = tt;
      short = omega arith;
      said = refl;
      good = refl;
      fault = rw (may.suits.0, over) refl;
      gives = λ i. refl;
    }
says r w c answers.Timeout ns has may =
    let over = (never_over r.heading.setup.limit c.op (codes "timeout" ∷ [])).1 in
    record {
      first = codes "timeout";
      others = [];
      fine = literal_fine (codes "timeout") refl refl refl refl;
      each = tt;
      short = omega arith;
      said = refl;
      good = refl;
      fault = rw (may.suits.0, over) refl;
      gives = λ i. refl;
    }
says r w c answers.Numbers [] has may = absurd (omega (arith, may.suits.1))
says r w c answers.Numbers (n ∷ ms) has may =
    let few : length (n ∷ ms) ≤ 256 =
    few_given r.heading c c.op (length (n ∷ ms)) has may.suits.0 in
    let long : length (map decimal (n ∷ ms)) ≡ length (n ∷ ms) = numbers_long (n ∷ ms) in
    let suits : takes_numbers r.heading c c.op (length (map decimal (n ∷ ms))) ≡ true =
    ap (takes_numbers r.heading c c.op) long ∙ may.suits.0 in
    let over : is_over r.heading.setup.limit c.op answers.Numbers (map decimal (n ∷ ms)) ≡ false =
    not_over r.heading.setup.limit r.heading c c.op (n ∷ ms) may.small may.suits.0 may.within in
    record {
      first = decimal n;
      others = map decimal ms;
      fine = number_fine n may.small.0;
      each = numbers_fine ms may.small.1;
      short = omega (arith, numbers_short (n ∷ ms) may.small, few);
      said = numbers_said n ms may.small;
      good = numbers_good (n ∷ ms) may.small;
      fault = rw (suits, over) refl;
      gives = λ i. reply_given r i (gives_list r.heading c c.op) (n ∷ ms) may.small
          (one_given r.heading c c.op (length (n ∷ ms)) may.suits.0);
    }

pub return_taken : (r : RecordingModel) (w : ℕ) (c : PendingCall) (a : ReplyWord) (ns : List ℕ)
    → HasHeaderTree r.heading → MayReturn r w c a ns → IsTaken r (after_return r w c a ns)
return_taken r w c a ns has may = said_taken r w c a ns has may (says r w c a ns has may)
