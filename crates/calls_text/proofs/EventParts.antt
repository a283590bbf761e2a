-- The parts of a line that is accepted as an event: an invocation or a response, and its worker.
use Rattle.std.proofs.Common.{◌≡◌, ◌⊎◌, inl, inr, ℕ, List, [], ◌∷◌, Bool, true, false, cond, Option}
use Rattle.std.proofs.Common.{Some, None, Ok, Err, refl, codes, not}
use Rattle.std.specs.Prelude.{is_some}
use Rattle.ec_text.specs.Words.{words_of}
use Rattle.ec_heading.specs.Heading.{is_no_line}
use Rattle.ec_heading.specs.Lists.{worker_in}
use Rattle.ec_heading.proofs.shared.Declarable.{passed}
use Rattle.calls_core.specs.declared.history.PendingCall.{PendingCall}
use Rattle.calls_text.specs.declared.fault.FaultKind.{FaultKind}
use Rattle.calls_text.specs.declared.fault.FaultKind.TheVariants as kinds
use Rattle.calls_text.specs.declared.verb.OpWord.{OpWord}
use Rattle.calls_text.specs.declared.form.ReplyWord.{ReplyWord}
use Rattle.calls_text.specs.declared.object.Object.{Object}
use Rattle.calls_text.specs.Verbs.{verb_word, tail_of, is_update}
use Rattle.calls_text.specs.Forms.{Phrase, Calls, Returns, phrase_in, is_tail}
use Rattle.calls_text.specs.Objects.{object_in, is_owned, has_right}
use Rattle.calls_text.specs.Recordings.{RecordingModel}
use Rattle.calls_text.specs.Reading.{pending_in, is_bad_tail, call_fault, fault_or, with_call}
use Rattle.calls_text.specs.Reading.{after_invocation, is_bad_reply, is_suited, is_over, suit_fault}
use Rattle.calls_text.specs.Reading.{with_reply, after_reply, after_response, other_word}
use Rattle.calls_text.specs.Reading.{after_phrase, event_step, has_two_roles, is_spent}
use Rattle.calls_text.proofs.PhraseWords.{IsPhrase, SaysAnswer, phrase_back}
use Rattle.calls_text.proofs.CallLines.{not_back}

pub no_fault : {A : Type 0} (o : Option FaultKind) (x y : A) → fault_or o x ≡ Ok y → (o ≡ None)
    × (x ≡ y)
no_fault None x y is = (refl, cc)
no_fault (Some kind) x y is = cc

-- INVOCATIONS

-- the line is an invocation, with which history r becomes s
pub record IsCall (r : RecordingModel) (line : List ℕ) (s : RecordingModel) : Type 0 where
  pub name : List ℕ
  pub object : List ℕ
  pub verb : OpWord
  pub tail : List (List ℕ)
  pub worker : ℕ
  pub of : Object
  pub words : words_of line ≡ name ∷ codes "calls" ∷ verb_word verb ∷ object ∷ tail
  pub formed : is_tail (tail_of verb) tail ≡ true
  pub who : worker_in r.heading.words name ≡ Some worker
  pub which : object_in r.heading verb object (other_word verb tail) ≡ Some of
  pub allowed : call_fault r worker verb of tail ≡ None
  pub is : with_call r worker verb of tail ≡ s

called_parts : (r s : RecordingModel) (line w o : List ℕ) (v : OpWord) (ws : List (List ℕ)) (i : Option ℕ)
    (obj : Option Object) → words_of line ≡ w ∷ codes "calls" ∷ verb_word v ∷ o ∷ ws
    → is_tail (tail_of v) ws ≡ true → worker_in r.heading.words w ≡ i
    → object_in r.heading v o (other_word v ws) ≡ obj → after_invocation r i v obj ws ≡ Ok s
    → IsCall r line s
called_parts r s line w o v ws (Some i) (Some obj) words formed who which is =
    let f = no_fault (call_fault r i v obj ws) (with_call r i v obj ws) s is in
    record {
      name = w;
      object = o;
      verb = v;
      tail = ws;
      worker = i;
      of = obj;
      words = words;
      formed = formed;
      who = who;
      which = which;
      allowed = f.0;
      is = f.1;
    }
called_parts r s line w o v ws (Some i) None words formed who which is = cc
called_parts r s line w o v ws None obj words formed who which is = cc

-- the tests of an invocation after that of its numbers
abbrev later_tests : RecordingModel → ℕ → OpWord → Object → List (Bool × FaultKind)
later_tests r w v o =
    (is_owned r.heading.groups o, kinds.Hidden)
    ∷ (has_two_roles o, kinds.TwoRoles)
    ∷ (not (has_right r.heading.setup w (is_update v) o), kinds.NoRight)
    ∷ (is_some (pending_in r.events w), kinds.Busy)
    ∷ (is_spent r w v o, kinds.AtLimit)
    ∷ []

pub good_tail : (r : RecordingModel) (w : ℕ) (v : OpWord) (o : Object) (ws : List (List ℕ))
    → call_fault r w v o ws ≡ None → is_bad_tail (tail_of v) ws o ≡ false
good_tail r w v o ws none =
    (passed (is_bad_tail (tail_of v) ws o) kinds.BadNumber (later_tests r w v o) none).0

-- RESPONSES

-- the line is a response, with which history r becomes s
pub record IsReturn (r : RecordingModel) (line : List ℕ) (s : RecordingModel) : Type 0 where
  pub name : List ℕ
  pub answer : ReplyWord
  pub tail : List (List ℕ)
  pub worker : ℕ
  pub call : PendingCall
  pub words : words_of line ≡ name ∷ codes "returns" ∷ tail
  pub says : SaysAnswer answer tail
  pub who : worker_in r.heading.words name ≡ Some worker
  pub pending : pending_in r.events worker ≡ Some call
  pub good : is_bad_reply answer tail ≡ false
  pub allowed : suit_fault r.heading call answer tail ≡ None
  pub is : with_reply r worker call answer tail ≡ s

answered_parts : (r s : RecordingModel) (line w : List ℕ) (a : ReplyWord) (ws : List (List ℕ)) (i : ℕ)
    (o : Option PendingCall) → words_of line ≡ w ∷ codes "returns" ∷ ws → SaysAnswer a ws
    → worker_in r.heading.words w ≡ Some i → pending_in r.events i ≡ o
    → is_bad_reply a ws ≡ false → after_reply r i o a ws ≡ Ok s → IsReturn r line s
answered_parts r s line w a ws i None words says who pending good is = cc
answered_parts r s line w a ws i (Some o) words says who pending good is =
    let f = no_fault (suit_fault r.heading o a ws) (with_reply r i o a ws) s is in
    record {
      name = w;
      answer = a;
      tail = ws;
      worker = i;
      call = o;
      words = words;
      says = says;
      who = who;
      pending = pending;
      good = good;
      allowed = f.0;
      is = f.1;
    }

returned_parts : (r s : RecordingModel) (line w : List ℕ) (a : ReplyWord) (ws : List (List ℕ))
    (i : Option ℕ) → words_of line ≡ w ∷ codes "returns" ∷ ws → SaysAnswer a ws
    → worker_in r.heading.words w ≡ i → after_response r i a ws ≡ Ok s → IsReturn r line s
returned_parts r s line w a ws None words says who is = cc
returned_parts r s line w a ws (Some i) words says who is =
    elim (is_bad_reply a ws) as (λ b. is_bad_reply a ws ≡ b
    → cond b (Err kinds.BadNumber) (after_reply r i (pending_in r.events i) a ws) ≡ Ok s
    → IsReturn r line s) [
      | true ↦ λ q bad. cc
      | false ↦ λ q good.
          answered_parts r s line w a ws i (pending_in r.events i) words says who refl q good
    ] refl is

pub suited : (r : RecordingModel) (o : PendingCall) (a : ReplyWord) (ws : List (List ℕ))
    → suit_fault r.heading o a ws ≡ None
    → (is_suited r.heading o a ws ≡ true) × (is_over r.heading.setup.limit o.op a ws ≡ false)
suited r o a ws none =
    let p = passed (not (is_suited r.heading o a ws)) kinds.Unsuited
    ((is_over r.heading.setup.limit o.op a ws, kinds.AtLimit) ∷ []) none in (
      not_back (is_suited r.heading o a ws) p.0,
      (passed (is_over r.heading.setup.limit o.op a ws) kinds.AtLimit [] p.1).0,
    )

-- ANY EVENT

phrase_parts : (r s : RecordingModel) (line : List ℕ) (p : Phrase) → IsPhrase (words_of line) p
    → after_phrase r (Some p) ≡ Ok s → IsCall r line s ⊎ IsReturn r line s
phrase_parts r s line (Calls w v o ws) words is =
    inl (called_parts r s line w o v ws (worker_in r.heading.words w)
    (object_in r.heading v o (other_word v ws)) words.0 words.1 refl refl is)
phrase_parts r s line (Returns w a ws) words is =
    inr (returned_parts r s line w a ws (worker_in r.heading.words w) words.0 words.1 refl is)

words_parts : (r s : RecordingModel) (line : List ℕ) (p : Option Phrase)
    → phrase_in (words_of line) ≡ p → after_phrase r p ≡ Ok s → IsCall r line s ⊎ IsReturn r line s
words_parts r s line None words is = cc
words_parts r s line (Some p) words is =
    phrase_parts r s line p (phrase_back (words_of line) p words) is

pub event_parts : (r s : RecordingModel) (line : List ℕ) → event_step r line ≡ Ok s
    → IsCall r line s ⊎ IsReturn r line s
unfolding event_step
event_parts r s line is =
    elim (is_no_line line) as (λ b.
    cond b (Err kinds.BadLine) (after_phrase r (phrase_in (words_of line))) ≡ Ok s
    → IsCall r line s ⊎ IsReturn r line s) [
      | true ↦ λ bad. cc
      | false ↦ λ good. words_parts r s line (phrase_in (words_of line)) refl good
    ] is
