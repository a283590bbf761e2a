-- A line that is read as an event is the text of that event.
use Rattle.std.proofs.Common.{◌≡◌, inl, inr, ℕ, List, [], ◌∷◌, ◌++◌, length, Bool, true, false}
use Rattle.std.proofs.Common.{cond, Option, Some, Ok, refl, sym, ap, ap₂, ◌∙◌, subst, codes}
use Rattle.std.proofs.Common.{append-nil, bytes_eq}
use Rattle.std.specs.List.{list_any, join_with_byte}
use Rattle.ec_text.specs.Words.{words_of}
use Rattle.ec_text.proofs.shared.WordLemmas.{split_join}
use Rattle.ec_heading.specs.Lists.{worker_in}
use Rattle.ec_heading.specs.HeadingInvariant.{HasHeaderTree}
use Rattle.calls_core.specs.declared.history.Action.TheVariants.{Invoke, Respond}
use Rattle.calls_core.specs.declared.history.Event.{Event}
use Rattle.calls_core.specs.declared.history.PendingCall.{PendingCall}
use Rattle.calls_text.specs.declared.verb.OpWord.{OpWord}
use Rattle.calls_text.specs.declared.verb.OpWord.TheVariants as verbs
use Rattle.calls_text.specs.declared.form.ReplyWord.{ReplyWord}
use Rattle.calls_text.specs.declared.form.ReplyWord.TheVariants as answers
use Rattle.calls_text.specs.declared.object.Object.{Object}
use Rattle.calls_text.specs.Verbs.{verb_word, tail_of}
use Rattle.calls_text.specs.Forms.{is_tail}
use Rattle.calls_text.specs.Objects.{object_in}
use Rattle.calls_text.specs.Lists.{is_zeros, lists_after}
use Rattle.calls_text.specs.Recordings.{RecordingModel}
use Rattle.calls_text.specs.Reading.{pending_in, is_bad_tail, index_of, op_of_word, number_in}
use Rattle.calls_text.specs.Reading.{numbers_in, lists_of, is_bad_reply, is_suited, gives_list}
use Rattle.calls_text.specs.Reading.{reply_of_word, lists_with, other_word, event_step}
use Rattle.calls_text.specs.Spelling.{worker_word, call_text}
use Rattle.calls_text.specs.Grammar.{action_text, event_line}
use Rattle.calls_text.proofs.Values.{join_spaced}
use Rattle.calls_text.proofs.ObjectWords.{worker_spelled}
use Rattle.calls_text.proofs.PhraseWords.{SaysAnswer}
use Rattle.calls_text.proofs.CallLines.{IsCallText, call_is}
use Rattle.calls_text.proofs.ReplyLines.{reply_is}
use Rattle.calls_text.proofs.EventParts.{IsCall, IsReturn, good_tail, suited, event_parts}
use Rattle.calls_text.proofs.KeepingRules.{called_numbers, call_same, may_call, returned_numbers}
use Rattle.calls_text.proofs.KeepingRules.{reply_same, may_return}
use Rattle.calls_text.specs.Rules.{GrowsByOne}

-- MORE LISTS

-- the lists, and some after them
abbrev pub Extends : List (List ℕ) → List (List ℕ) → Type 0
Extends old new = (more : List (List ℕ)) × (new ≡ old ++ more)

same_lists : (lists : List (List ℕ)) → Extends lists lists
same_lists lists = ([], sym (append-nil lists))

added : (lists : List (List ℕ)) (l : List ℕ) (b : Bool)
    → Extends lists (cond b lists (lists ++ l ∷ []))
added lists l true = same_lists lists
added lists l false = (l ∷ [], refl)

listed : (lists : List (List ℕ)) (l : List ℕ) (b : Bool)
    → Extends lists (cond b lists (cond (list_any (bytes_eq l) lists) lists (lists ++ l ∷ [])))
listed lists l true = same_lists lists
listed lists l false = added lists l (list_any (bytes_eq l) lists)

lists_extend : (lists : List (List ℕ)) (l : List ℕ) → Extends lists (lists_after lists l)
lists_extend lists l = listed lists l (is_zeros l)

call_extends : (lists : List (List ℕ)) (v : OpWord) (ws : List (List ℕ))
    → Extends lists (lists_of lists v ws)
call_extends lists verbs.Write ws = lists_extend lists (numbers_in ws)
call_extends lists _ ws = same_lists lists

given_extends : (lists : List (List ℕ)) (l : List ℕ) (b : Bool)
    → Extends lists (cond b (lists_after lists l) lists)
given_extends lists l true = lists_extend lists l
given_extends lists l false = same_lists lists

reply_extends : (r : RecordingModel) (o : PendingCall) (a : ReplyWord) (ws : List (List ℕ))
    → Extends r.lists (lists_with r o a ws)
reply_extends r o answers.Numbers ws =
    given_extends r.lists (numbers_in ws) (gives_list r.heading o o.op)
reply_extends r o answers.Done ws = same_lists r.lists
reply_extends r o answers.Timeout ws = same_lists r.lists

-- WHAT A LINE ADDS

-- one event, whose text is the line, whatever lists are added after it
pub record Adds (r : RecordingModel) (line : List ℕ) (s : RecordingModel) : Type 0 where
  pub event : Event
  pub heading : s.heading ≡ r.heading
  pub from : s.from ≡ r.from
  pub events : s.events ≡ r.events ++ event ∷ []
  pub lists : Extends r.lists s.lists
  pub grows : GrowsByOne r s
  pub spelled : (more : List (List ℕ))
      → line ≡ event_line r.heading (s.lists ++ more) r.events event

-- INVOCATIONS

called_line : (r : RecordingModel) (line w o : List ℕ) (v : OpWord) (ws : List (List ℕ)) (i : ℕ)
    (obj : Object) → HasHeaderTree r.heading
    → words_of line ≡ w ∷ codes "calls" ∷ verb_word v ∷ o ∷ ws
    → is_tail (tail_of v) ws ≡ true → worker_in r.heading.words w ≡ Some i
    → object_in r.heading v o (other_word v ws) ≡ Some obj
    → is_bad_tail (tail_of v) ws obj ≡ false → (more : List (List ℕ))
    → line ≡ worker_word r.heading i ++ (codes " calls " ++ call_text r.heading
    (lists_of r.lists v ws
    ++ more) (index_of r.heading obj) (op_of_word v obj (number_in r.lists v ws)))
called_line r line w o v ws i obj has words tail who which good more =
    let text : IsCallText r.heading (lists_of r.lists v ws ++ more) v o ws obj
    (number_in r.lists v ws) =
    call_is r.heading r.lists more v o ws obj has which tail good in
    sym (split_join line) ∙ ap (join_with_byte 32) words
    ∙ ap (λ (x : List ℕ). w ++ 32 ∷ (codes "calls" ++ 32 ∷ (verb_word v ++ 32 ∷ x)))
    (join_spaced o ws)
    ∙ ap₂ (λ (x : List ℕ) (y : List ℕ). x ++ (codes " calls " ++ y))
    (sym (worker_spelled r.heading w i has who)) text

call_adds : (r s : RecordingModel) (line : List ℕ) → HasHeaderTree r.heading → IsCall r line s
    → Adds r line s
call_adds r s line has c =
    subst (Adds r line) c.is (record {
      event = record {
        at = length r.events;
        worker = c.worker;
        action = Invoke (index_of r.heading c.of)
            (op_of_word c.verb c.of (number_in r.lists c.verb c.tail));
      };
      heading = refl;
      from = refl;
      events = refl;
      lists = call_extends r.lists c.verb c.tail;
      grows = inl (
        c.worker,
        c.verb,
        c.of,
        called_numbers c.verb c.tail,
        may_call r s line has c,
        call_same r c.worker c.verb c.of c.tail,
      );
      spelled = called_line r line c.name c.object c.verb c.tail c.worker c.of has c.words c.formed
          c.who c.which (good_tail r c.worker c.verb c.of c.tail c.allowed);
    })

-- RESPONSES

returned_line : (r : RecordingModel) (line w : List ℕ) (a : ReplyWord) (ws : List (List ℕ)) (i : ℕ)
    (o : PendingCall) → HasHeaderTree r.heading → words_of line ≡ w ∷ codes "returns" ∷ ws
    → SaysAnswer a ws → worker_in r.heading.words w ≡ Some i → pending_in r.events i ≡ Some o
    → is_bad_reply a ws ≡ false → is_suited r.heading o a ws ≡ true → (more : List (List ℕ))
    → line ≡ worker_word r.heading i ++ action_text r.heading (lists_with r o a ws ++ more)
    (pending_in r.events i) (Respond (reply_of_word r o a ws))
returned_line r line w a ws i o has words says who pending good suits more =
    sym (split_join line) ∙ ap (join_with_byte 32) words
    ∙ ap (λ (x : List ℕ). w ++ 32 ∷ x) (join_spaced (codes "returns") ws)
    ∙ ap₂ (λ (x : List ℕ) (y : List ℕ). x ++ (codes " returns" ++ y))
    (sym (worker_spelled r.heading w i has who)) (reply_is r o a more ws says good suits)
    ∙ sym (ap (λ (p : Option PendingCall). worker_word r.heading i ++ action_text r.heading
    (lists_with r o a ws ++ more) p (Respond (reply_of_word r o a ws))) pending)

return_adds : (r s : RecordingModel) (line : List ℕ) → HasHeaderTree r.heading → IsReturn r line s
    → Adds r line s
return_adds r s line has c =
    subst (Adds r line) c.is (record {
      event = record {
        at = length r.events;
        worker = c.worker;
        action = Respond (reply_of_word r c.call c.answer c.tail);
      };
      heading = refl;
      from = refl;
      events = refl;
      lists = reply_extends r c.call c.answer c.tail;
      grows = inr (
        c.worker,
        c.call,
        c.answer,
        returned_numbers c.answer c.tail,
        may_return r s line has c,
        reply_same r c.worker c.call c.answer c.tail
            (suited r c.call c.answer c.tail c.allowed).0,
      );
      spelled = returned_line r line c.name c.answer c.tail c.worker c.call has c.words c.says c.who
          c.pending c.good (suited r c.call c.answer c.tail c.allowed).0;
    })

-- ANY EVENT

-- an accepted line adds the event whose text it is
pub line_adds : (r s : RecordingModel) (line : List ℕ) → HasHeaderTree r.heading
    → event_step r line ≡ Ok s → Adds r line s
line_adds r s line has is =
    elim (event_parts r s line is) [
      | inl call ↦ call_adds r s line has call
      | inr return ↦ return_adds r s line has return
    ]
