-- A line of one of the forms, by its words.
use Rattle.std.proofs.Common.{◌≡◌, ℕ, List, [], ◌∷◌, Bool, true, false, cond, Option, Some, None, refl, sym, ap, ◌∙◌, subst, bytes_eq}
use Rattle.std.proofs.lemmas.Slice.Eq.{bytes_eq-Decides}
use Rattle.ec_script.specs.declared.verb.LineWord.{LineWord}
use Rattle.ec_script.specs.declared.verb.LineWord.TheVariants as verbs
use Rattle.ec_script.specs.Verbs.{raw_verb_of, procedure_verb_of, item_verb_of, or_else, parse_line_word, has_object, tail_of}
use Rattle.ec_script.specs.Forms.{Phrase, is_tail, tailed_in, objected_in, verbed_in, phrase_in, verb_word, behind_verb, object_word, Worded}

-- THE FIRST WORD

-- a word that is tested first, and then the others
pick : (w : List ℕ) (u : LineWord) (o : Option LineWord) (v : LineWord) → (o ≡ Some v → w ≡ verb_word v) → cond (bytes_eq w (verb_word u)) (Some u) o ≡ Some v → w ≡ verb_word v
pick w u o v others is =
    (elim (bytes_eq w (verb_word u)) as (λ b. bytes_eq w (verb_word u) ≡ b → cond b (Some u) o ≡ Some v → w ≡ verb_word v) [
      | true ↦ λ e h. (let same : u ≡ v = cc in (bytes_eq-Decides w (verb_word u)).0 e ∙ ap verb_word same)
      | false ↦ λ e h. others h
    ]) refl is

no_verb : (w : List ℕ) (v : LineWord) (o : Option LineWord) → o ≡ None → o ≡ Some v
    → w ≡ verb_word v
no_verb w v None n e = cc
no_verb w v (Some u) n e = cc

raw_back : (w : List ℕ) (v : LineWord) → raw_verb_of w ≡ Some v → w ≡ verb_word v
raw_back w v =
    pick w verbs.Advance _ v (pick w verbs.Read _ v (pick w verbs.Await _ v (pick w verbs.Ticket _ v (pick w verbs.Put _ v (pick w verbs.Get _ v (pick w verbs.Hand _ v (no_verb w v None refl)))))))

procedure_back : (w : List ℕ) (v : LineWord) → procedure_verb_of w ≡ Some v → w ≡ verb_word v
procedure_back w v =
    pick w verbs.Produce _ v (pick w verbs.Consume _ v (pick w verbs.Write _ v (pick w verbs.Snapshot _ v (pick w verbs.Down _ v (pick w verbs.Up _ v (pick w verbs.DownBoth _ v (no_verb w v None refl)))))))

item_back : (w : List ℕ) (v : LineWord) → item_verb_of w ≡ Some v → w ≡ verb_word v
item_back w v = pick w verbs.Repeat _ v (pick w verbs.End _ v (pick w verbs.Worker _ v (pick w verbs.Schedule _ v (no_verb w v None refl))))

or_back : (w : List ℕ) (v : LineWord) (o p : Option LineWord) → (o ≡ Some v → w ≡ verb_word v) → (p ≡ Some v → w ≡ verb_word v) → or_else o p ≡ Some v → w ≡ verb_word v
or_back w v None p f g is = g is
or_back w v (Some u) p f g is = f is

-- it is the verb's own word
pub verb_back : (w : List ℕ) (v : LineWord) → parse_line_word w ≡ Some v → w ≡ verb_word v
verb_back w v = or_back w v (raw_verb_of w) (or_else (procedure_verb_of w) (item_verb_of w)) (raw_back w v) (or_back w v (procedure_verb_of w) (item_verb_of w) (procedure_back w v) (item_back w v))

pub verb_again : (v : LineWord) → parse_line_word (verb_word v) ≡ Some v
verb_again verbs.Advance = refl
verb_again verbs.Read = refl
verb_again verbs.Await = refl
verb_again verbs.Ticket = refl
verb_again verbs.Put = refl
verb_again verbs.Get = refl
verb_again verbs.Hand = refl
verb_again verbs.Produce = refl
verb_again verbs.Consume = refl
verb_again verbs.Write = refl
verb_again verbs.Snapshot = refl
verb_again verbs.Down = refl
verb_again verbs.Up = refl
verb_again verbs.DownBoth = refl
verb_again verbs.Repeat = refl
verb_again verbs.End = refl
verb_again verbs.Worker = refl
verb_again verbs.Schedule = refl

-- ALL ITS WORDS

abbrev pub made : LineWord → List ℕ → List (List ℕ) → Phrase
made v object ws = record { verb = v; object = object; rest = ws }

tailed_back : (v : LineWord) (object : List ℕ) (ws : List (List ℕ)) (p : Phrase) → tailed_in v object ws ≡ Some p → (made v object ws ≡ p) × (is_tail (tail_of v) ws ≡ true)
tailed_back v object ws p is =
    (elim (is_tail (tail_of v) ws) as (λ b. is_tail (tail_of v) ws ≡ b → cond b (Some (made v object ws)) None ≡ Some p → (made v object ws ≡ p) × (is_tail (tail_of v) ws ≡ true)) [
      | true ↦ λ e h. (cc, e)
      | false ↦ λ e h. cc
    ]) refl is

worded_with : (w object : List ℕ) (v : LineWord) (ws : List (List ℕ)) (p : Phrase) → w ≡ verb_word v → has_object v ≡ true → tailed_in v object ws ≡ Some p → Worded (w ∷ object ∷ ws) p
worded_with w object v ws p is has h =
    let t = tailed_back v object ws p h in
    subst (Worded (w ∷ object ∷ ws)) t.0 (record {
      are = ap (λ (x : List ℕ). x ∷ object ∷ ws) is ∙ ap (λ b. verb_word v ∷ behind_verb b object ws) (sym has);
      none = subst (λ b. object_word b object) (sym has) tt;
      tail = t.1;
    })

worded_without : (w : List ℕ) (v : LineWord) (ws : List (List ℕ)) (p : Phrase) → w ≡ verb_word v → has_object v ≡ false → tailed_in v [] ws ≡ Some p → Worded (w ∷ ws) p
worded_without w v ws p is has h =
    let t = tailed_back v [] ws p h in
    subst (Worded (w ∷ ws)) t.0 (record {
      are = ap (λ (x : List ℕ). x ∷ ws) is ∙ ap (λ b. verb_word v ∷ behind_verb b [] ws) (sym has);
      none = subst (λ b. object_word b []) (sym has) refl;
      tail = t.1;
    })

objected_back : (w : List ℕ) (v : LineWord) (ws : List (List ℕ)) (p : Phrase) → w ≡ verb_word v → has_object v ≡ true → objected_in v ws ≡ Some p → Worded (w ∷ ws) p
objected_back w v [] p is has h = cc
objected_back w v (x ∷ ws) p is has h = worded_with w x v ws p is has h

verbed_back : (w : List ℕ) (o : Option LineWord) (ws : List (List ℕ)) (p : Phrase) → ((v : LineWord) → o ≡ Some v → w ≡ verb_word v) → verbed_in o ws ≡ Some p → Worded (w ∷ ws) p
verbed_back w None ws p is h = cc
verbed_back w (Some v) ws p is h =
    (elim (has_object v) as (λ b. has_object v ≡ b → cond b (objected_in v ws) (tailed_in v [] ws) ≡ Some p → Worded (w ∷ ws) p) [
      | true ↦ λ e g. objected_back w v ws p (is v refl) e g
      | false ↦ λ e g. worded_without w v ws p (is v refl) e g
    ]) refl h

pub worded : (words : List (List ℕ)) (p : Phrase) → phrase_in words ≡ Some p → Worded words p
unfolding phrase_in
worded [] p h = cc
worded (w ∷ ws) p h = verbed_back w (parse_line_word w) ws p (verb_back w) h

-- such words are parsed to it
verbed_again : (v : LineWord) (object : List ℕ) (ws : List (List ℕ)) (b : Bool) → object_word b object → is_tail (tail_of v) ws ≡ true
    → cond b (objected_in v (behind_verb b object ws)) (tailed_in v [] (behind_verb b object ws)) ≡ Some (made v object ws)
verbed_again v object ws true none tail = ap (λ b. cond b (Some (made v object ws)) None) tail
verbed_again v object ws false none tail = ap (λ b. cond b (Some (made v [] ws)) None) tail ∙ ap (λ (o : List ℕ). Some (made v o ws)) (sym none)

pub worded_again : (words : List (List ℕ)) (p : Phrase) → Worded words p → phrase_in words ≡ Some p
unfolding phrase_in
worded_again words p is =
    ap phrase_in is.are
    ∙ ap (λ o. verbed_in o (behind_verb (has_object p.verb) p.object p.rest)) (verb_again p.verb)
    ∙ verbed_again p.verb p.object p.rest (has_object p.verb) is.none is.tail
