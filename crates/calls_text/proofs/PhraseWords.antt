-- The words of a phrase are read as that phrase.
use Rattle.std.proofs.Common.{◌≡◌, ◌≤◌, ℕ, List, [], ◌∷◌, length, Bool, true, false, cond, ◌&&◌}
use Rattle.std.proofs.Common.{Option, Some, None, if◌then◌else◌, refl, sym, ap, ◌∙◌, bytes_eq}
use Rattle.std.proofs.Common.{codes, subst, nat_le}
use Rattle.std.specs.List.{list_all}
use Rattle.std.proofs.lemmas.Bool.{and_parts, leb-true}
use Rattle.std.proofs.lemmas.Slice.Eq.{bytes_eq-Decides}
use Rattle.ec_text.specs.Words.{is_number_form}
use Rattle.calls_text.specs.declared.verb.OpWord.{OpWord}
use Rattle.calls_text.specs.declared.verb.OpWord.TheVariants as verbs
use Rattle.calls_text.specs.declared.form.ReplyWord.{ReplyWord}
use Rattle.calls_text.specs.declared.form.ReplyWord.TheVariants as answers
use Rattle.calls_text.specs.Verbs.{verb_word, parse_op_word, tail_of, object_verb_of, group_verb_of}
use Rattle.calls_text.specs.Verbs.{or_else}
use Rattle.calls_text.specs.Forms.{Phrase, Calls, Returns, phrase_in, is_tail, called_in}
use Rattle.calls_text.specs.Forms.{is_word, parse_reply_word, return_in}
use Rattle.calls_text.proofs.Fitting.{mapped as map_back}

same_word : (v w : List ℕ) → bytes_eq v w ≡ true → v ≡ w
same_word v w same = (bytes_eq-Decides v w).0 same

-- THE WORDS OF CALLS

pick : (w : List ℕ) (v m : OpWord) (rest : Option OpWord) → (rest ≡ Some m → w ≡ verb_word m)
    → (if bytes_eq w (verb_word v) then Some v else rest) ≡ Some m → w ≡ verb_word m
pick w v m rest later is =
    elim (bytes_eq w (verb_word v)) as (λ b. bytes_eq w (verb_word v) ≡ b
    → cond b (Some v) rest ≡ Some m → w ≡ verb_word m) [
      | true ↦ λ q here.
          (let same : v ≡ m = cc in same_word w (verb_word v) q ∙ ap verb_word same)
      | false ↦ λ q there. later there
    ] refl is

no_verb : (w : List ℕ) (m : OpWord) → ◌≡◌ {A = Option OpWord} None (Some m) → w ≡ verb_word m
no_verb w m e = cc

object_verb_back : (w : List ℕ) (m : OpWord) → object_verb_of w ≡ Some m → w ≡ verb_word m
object_verb_back w m =
    pick w verbs.Advance m _ (pick w verbs.Read m _ (pick w verbs.Await m _
    (pick w verbs.Ticket m _ (pick w verbs.Put m _ (pick w verbs.Get m _ (no_verb w m))))))

group_verb_back : (w : List ℕ) (m : OpWord) → group_verb_of w ≡ Some m → w ≡ verb_word m
group_verb_back w m =
    pick w verbs.P m _ (pick w verbs.V m _ (pick w verbs.PBoth m _
    (pick w verbs.Write m _ (pick w verbs.Snapshot m _ (pick w verbs.Produce m _
    (pick w verbs.Consume m _ (no_verb w m)))))))

either_verb : (w : List ℕ) (m : OpWord) (a b : Option OpWord) → (a ≡ Some m → w ≡ verb_word m)
    → (b ≡ Some m → w ≡ verb_word m) → or_else a b ≡ Some m → w ≡ verb_word m
either_verb w m None b one other is = other is
either_verb w m (Some v) b one other is = one is

pub verb_back : (w : List ℕ) (m : OpWord) → parse_op_word w ≡ Some m → w ≡ verb_word m
verb_back w m =
    either_verb w m (object_verb_of w) (group_verb_of w) (object_verb_back w m)
    (group_verb_back w m)

-- REPLIES

only_back : (word : List ℕ) (ws : List (List ℕ)) → is_word word ws ≡ true → ws ≡ word ∷ []
only_back word [] is = cc
only_back word (w ∷ []) is = ap (λ (x : List ℕ). x ∷ []) (same_word w word is)
only_back word (w ∷ v ∷ ws) is = cc

abbrev pub SaysAnswer : ReplyWord → List (List ℕ) → Type 0
SaysAnswer answers.Done ws = ws ≡ codes "done" ∷ []
SaysAnswer answers.Timeout ws = ws ≡ codes "timeout" ∷ []
SaysAnswer answers.Numbers ws = (1 ≤ length ws) × (list_all is_number_form ws ≡ true)

numbers_back : (a : ReplyWord) (ws : List (List ℕ)) (b : Bool)
    → (nat_le 1 (length ws) && list_all is_number_form ws) ≡ b
    → cond b (Some answers.Numbers) None ≡ Some a → SaysAnswer a ws
numbers_back a ws true all is =
    let same : answers.Numbers ≡ a = cc in
    let both = and_parts (nat_le 1 (length ws)) (list_all is_number_form ws) all in
    subst (λ (x : ReplyWord). SaysAnswer x ws) same (leb-true _ _ both.0, both.1)
numbers_back a ws false all is = cc

word_back : (word : List ℕ) (says a : ReplyWord) (ws : List (List ℕ)) (rest : Option ReplyWord)
    → (ws ≡ word ∷ [] → SaysAnswer says ws) → (rest ≡ Some a → SaysAnswer a ws)
    → (if is_word word ws then Some says else rest) ≡ Some a → SaysAnswer a ws
word_back word says a ws rest here later is =
    elim (is_word word ws) as (λ b. is_word word ws ≡ b
    → cond b (Some says) rest ≡ Some a → SaysAnswer a ws) [
      | true ↦ λ q there.
          (let same : says ≡ a = cc in
          subst (λ (x : ReplyWord). SaysAnswer x ws) same (here (only_back word ws q)))
      | false ↦ λ q there. later there
    ] refl is

answer_back : (ws : List (List ℕ)) (a : ReplyWord) → parse_reply_word ws ≡ Some a → SaysAnswer a ws
answer_back ws a =
    word_back (codes "done") answers.Done a ws _ (λ is. is)
    (word_back (codes "timeout") answers.Timeout a ws _ (λ is. is)
    (numbers_back a ws (nat_le 1 (length ws) && list_all is_number_form ws) refl))

-- PHRASES

-- these words are those of the phrase
abbrev pub IsPhrase : List (List ℕ) → Phrase → Type 0
IsPhrase ws (Calls w v o ts) =
    (ws ≡ w ∷ codes "calls" ∷ verb_word v ∷ o ∷ ts) × (is_tail (tail_of v) ts ≡ true)
IsPhrase ws (Returns w a ts) = (ws ≡ w ∷ codes "returns" ∷ ts) × SaysAnswer a ts

tailed : (b : Bool) (w u o : List ℕ) (v : OpWord) (ts : List (List ℕ)) (p : Phrase)
    → is_tail (tail_of v) ts ≡ b → u ≡ verb_word v
    → cond b (Some (Calls w v o ts)) None ≡ Some p → IsPhrase (w ∷ codes "calls" ∷ u ∷ o ∷ ts) p
tailed true w u o v ts p tail word is =
    let same : Calls w v o ts ≡ p = cc in
    subst (IsPhrase (w ∷ codes "calls" ∷ u ∷ o ∷ ts)) same
    (ap (λ (x : List ℕ). w ∷ codes "calls" ∷ x ∷ o ∷ ts) word, tail)
tailed false w u o v ts p tail word is = cc

called_back : (w u : List ℕ) (v : Option OpWord) (ws : List (List ℕ)) (p : Phrase)
    → parse_op_word u ≡ v → called_in w v ws ≡ Some p → IsPhrase (w ∷ codes "calls" ∷ u ∷ ws) p
called_back w u None ws p verb is = cc
called_back w u (Some v) [] p verb is = cc
called_back w u (Some v) (o ∷ ts) p verb is =
    tailed (is_tail (tail_of v) ts) w u o v ts p refl (verb_back u v verb) is

returned_back : (w : List ℕ) (ws : List (List ℕ)) (p : Phrase) → return_in w ws ≡ Some p
    → IsPhrase (w ∷ codes "returns" ∷ ws) p
returned_back w ws p is =
    let m = map_back (λ a. Returns w a ws) (parse_reply_word ws) p is in
    subst (IsPhrase (w ∷ codes "returns" ∷ ws)) m.2 (refl, answer_back ws m.0 m.1)

pub phrase_back : (ws : List (List ℕ)) (p : Phrase) → phrase_in ws ≡ Some p → IsPhrase ws p
unfolding phrase_in
phrase_back [] p is = cc
phrase_back (w ∷ []) p is = cc
phrase_back (w ∷ c ∷ []) p is = cc
phrase_back (w ∷ c ∷ u ∷ ws) p is =
    elim (bytes_eq c (codes "calls")) as (λ b. bytes_eq c (codes "calls") ≡ b
    → cond b (called_in w (parse_op_word u) ws)
    (cond (bytes_eq c (codes "returns")) (return_in w (u ∷ ws)) None) ≡ Some p
    → IsPhrase (w ∷ c ∷ u ∷ ws) p) [
      | true ↦ λ q calls.
          subst (λ (x : List ℕ). IsPhrase (w ∷ x ∷ u ∷ ws) p)
          (sym (same_word c (codes "calls") q)) (called_back w u (parse_op_word u) ws p refl calls)
      | false ↦ λ q other.
          elim (bytes_eq c (codes "returns")) as (λ b. bytes_eq c (codes "returns") ≡ b
          → cond b (return_in w (u ∷ ws)) None ≡ Some p → IsPhrase (w ∷ c ∷ u ∷ ws) p) [
            | true ↦ λ r returns.
                subst (λ (x : List ℕ). IsPhrase (w ∷ x ∷ u ∷ ws) p)
                (sym (same_word c (codes "returns") r)) (returned_back w (u ∷ ws) p returns)
            | false ↦ λ r none. cc
          ] refl other
    ] refl is
