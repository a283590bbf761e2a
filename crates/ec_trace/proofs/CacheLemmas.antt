-- A line is cut before its last word; and a prefix that has a worker and an act with one reply has
-- them with each.
use Rattle.std.proofs.Common.{◌≡◌, ℕ, zero, suc, ◌+◌, ◌-◌, ◌<◌, List, [], ◌∷◌, ◌++◌, length, take, drop, Bool, true, false, cond, eqb, Option, None, Some, refl, sym, ap, subst, ◌∙◌, arith, codes, true≢false, inl, inr, ◌⊎◌}
use Rattle.std.specs.Prelude.{bytes_eq, slice_get, slice_set, ◌==◌}
use Rattle.std.specs.List.{onto_first}
use Rattle.std.proofs.lemmas.List.{take-append-drop}
use Rattle.std.proofs.lemmas.Slice.Eq.{bytes_eq-Decides}
use Rattle.ec_core.proofs.shared.Places.{get_set}
use Rattle.ec_core.specs.declared.act.Act.{Act}
use Rattle.ec_core.specs.declared.act.Act.TheVariants as acts
use Rattle.ec_core.specs.declared.act.Reply.{Reply}
use Rattle.ec_core.specs.declared.act.Reply.TheVariants.{Done, Number, Pending}
use Rattle.ec_core.specs.declared.act.Entry.{Entry}
use Rattle.ec_text.specs.Words.{words_of, number_in_word, digits_from, IsWord, EndsInNumber}
use Rattle.ec_text.proofs.shared.WordLemmas.{HasFirst, has_first, words_alone, literal_word}
use Rattle.ec_text.proofs.shared.NumberLemmas.{guarded}
use Rattle.ec_heading.specs.EntryWords.{NameTable, event_in, sequencer_in, cell_in_word}
use Rattle.ec_heading.specs.Lists.{worker_in}
use Rattle.ec_trace.specs.Entries.{◌>>=◌, act_alone, act_on, act_with, parse_reply, entry_by, entry_in, entry_of}
use Rattle.ec_trace.specs.kept.LineCache.{with_reply, with_value, with_both, has_value, with_value_word, HasPrefix, HasNumber, EndsIn, SpellsAs, IsCachedPrefix, IsLineCache}
use Rattle.ec_trace.specs.kept.PackedBytes.{key_bytes}
use Rattle.ec_trace.specs.declared.packed_bytes.PackedBytes.{PackedBytes}
use Rattle.ec_trace.specs.declared.line_cache.CachedPrefix.{CachedPrefix}

onto_front : (b : ℕ) (ws vs : List (List ℕ)) (w : List ℕ) → onto_first b ((w ∷ ws) ++ vs) ≡ onto_first b (w ∷ ws) ++ vs
onto_front b ws vs w = refl

onto_any : (b : ℕ) (xs : List ℕ) (vs : List (List ℕ)) → onto_first b (words_of xs ++ vs) ≡ onto_first b (words_of xs) ++ vs
onto_any b xs vs = let r : HasFirst xs = has_first xs in rw r.is refl

step_split : (t : Bool) (b : ℕ) (xs : List ℕ) (vs : List (List ℕ)) → cond t ([] ∷ (words_of xs ++ vs)) (onto_first b (words_of xs ++ vs)) ≡ cond t ([] ∷ words_of xs) (onto_first b (words_of xs)) ++ vs
step_split true b xs vs = refl
step_split false b xs vs = onto_any b xs vs

-- the words before a space, and those after it
pub words_behind : (xs ys : List ℕ) → words_of (xs ++ 32 ∷ ys) ≡ words_of xs ++ words_of ys
words_behind [] ys = refl
words_behind (b ∷ xs) ys =
    ap (λ (ws : List (List ℕ)). cond (eqb b 32) ([] ∷ ws) (onto_first b ws)) (words_behind xs ys) ∙ step_split (eqb b 32) b xs (words_of ys)

pub bound : {A B : Type 0} (o : Option A) (f : A → Option B) (y : B) → (o >>= f) ≡ Some y → (x : A) × (o ≡ Some x) × (f x ≡ Some y)
bound None f y e = cc
bound (Some x) f y e = (x, refl, e)

replied : (w : ℕ) (a : Act) (o : Option Reply) → (o >>= λ reply. Some (record { worker = w; act = a; reply = reply })) ≡ with_reply w a o
replied w a None = refl
replied w a (Some r) = refl

by_parts : (names : NameTable) (w : List ℕ) (o : Option Act) (equals r : List ℕ) (v : ℕ) (a : Act) → o ≡ Some a → worker_in names w ≡ Some v → bytes_eq equals (codes "=") ≡ true
    → entry_by names w o equals r ≡ with_reply v a (parse_reply r)
unfolding entry_by
by_parts names w o equals r v a what who sign = rw (what, who, sign) (replied v a (parse_reply r))

by_front : (names : NameTable) (w : List ℕ) (o : Option Act) (equals answer : List ℕ) (e : Entry) → entry_by names w o equals answer ≡ Some e
    → (r : List ℕ) → entry_by names w o equals r ≡ with_reply e.worker e.act (parse_reply r)
unfolding entry_by
by_front names w o equals answer e h r =
    let a = bound o _ e h in
    let v = bound (worker_in names w) _ e a.2 in
    let g = guarded (bytes_eq equals (codes "=")) _ e v.2 in
    let q = bound (parse_reply answer) _ e g.1 in
    let is : record { worker = v.0; act = a.0; reply = q.0 } ≡ e = cc in
    by_parts names w o equals r v.0 a.0 a.1 v.1 g.0 ∙ ap (λ (x : Entry). with_reply x.worker x.act (parse_reply r)) is

in_front : (names : NameTable) (ws : List (List ℕ)) (answer : List ℕ) (e : Entry) → entry_in names (ws ++ answer ∷ []) ≡ Some e
    → (r : List ℕ) → entry_in names (ws ++ r ∷ []) ≡ with_reply e.worker e.act (parse_reply r)
unfolding entry_in
in_front names [] answer e h r = cc
in_front names (a ∷ []) answer e h r = cc
in_front names (a ∷ b ∷ []) answer e h r = cc
in_front names (w ∷ verb ∷ equals ∷ []) answer e h r = by_front names w (act_alone verb) equals answer e h r
in_front names (w ∷ verb ∷ object ∷ equals ∷ []) answer e h r = by_front names w (act_on names verb object) equals answer e h r
in_front names (w ∷ verb ∷ object ∷ value ∷ equals ∷ []) answer e h r = by_front names w (act_with names verb object value) equals answer e h r
in_front names (a ∷ b ∷ c ∷ d ∷ f ∷ g ∷ []) answer e h r = cc
in_front names (a ∷ b ∷ c ∷ d ∷ f ∷ g ∷ k ∷ ws) answer e h r = cc

lined : (prefix answer : List ℕ) → IsWord answer → words_of (prefix ++ 32 ∷ answer) ≡ words_of prefix ++ answer ∷ []
lined prefix answer word = words_behind prefix answer ∙ ap (λ (vs : List (List ℕ)). words_of prefix ++ vs) (words_alone answer word)

-- each entry with this prefix, which has no value, has the worker and the act of one such entry
pub tells : (names : NameTable) (line prefix : List ℕ) (e : Entry) → HasPrefix line prefix → entry_of names line ≡ Some e → has_value e.act ≡ false → SpellsAs names prefix e.worker e.act
unfolding entry_of
tells names line prefix e has h unvalued =
    let one : entry_in names (words_of prefix ++ has.0 ∷ []) ≡ Some e = sym (ap (entry_in names) (ap words_of has.1 ∙ lined prefix has.0 has.2)) ∙ h in
    record {
      whole = λ _ r plain. ap (entry_in names) (lined prefix r plain) ∙ in_front names (words_of prefix) has.0 e one r;
      valued = λ valued. absurd (true≢false (sym valued ∙ unvalued));
    }

-- VALUES

pub either : {X : Type 0} (b : Bool) (x y : Option X) (m : X) → cond b x y ≡ Some m → ((b ≡ true) × (x ≡ Some m)) ⊎ (y ≡ Some m)
either true x y m e = inl (refl, e)
either false x y m e = inr e

alone_unvalued : (verb : List ℕ) (a : Act) → act_alone verb ≡ Some a → has_value a ≡ false
unfolding act_alone
alone_unvalued verb a h =
    let g = guarded (bytes_eq verb (codes "go")) (Some acts.Go) a h in
    let is : acts.Go ≡ a = cc in
    sym (ap has_value is)

on_unvalued : (names : NameTable) (verb object : List ℕ) (a : Act) → act_on names verb object ≡ Some a → has_value a ≡ false
unfolding act_on
on_unvalued names verb object a h = elim (either (bytes_eq verb (codes "advance")) _ _ a h) [
  | inl k ↦ (let e = bound (event_in names object) (λ e. Some (acts.Advance e)) a k.1 in let is : acts.Advance e.0 ≡ a = cc in sym (ap has_value is))
  | inr h2 ↦ elim (either (bytes_eq verb (codes "read")) _ _ a h2) [
    | inl k ↦ (let e = bound (event_in names object) (λ e. Some (acts.Read e)) a k.1 in let is : acts.Read e.0 ≡ a = cc in sym (ap has_value is))
    | inr h3 ↦ elim (either (bytes_eq verb (codes "ticket")) _ _ a h3) [
      | inl k ↦ (let q = bound (sequencer_in names object) (λ q. Some (acts.Ticket q)) a k.1 in let is : acts.Ticket q.0 ≡ a = cc in sym (ap has_value is))
      | inr h4 ↦
          let k = guarded (bytes_eq verb (codes "get")) _ a h4 in
          let x = bound (cell_in_word names object) (λ x. Some (acts.Get x)) a k.1 in
          let is : acts.Get x.0 ≡ a = cc in
          sym (ap has_value is)
    ]
  ]
]

abbrev valued_by : Act → Option ℕ → Option Act
valued_by a None = None
valued_by a (Some n) = Some (with_value a n)

await_valued : (e m : ℕ) (o : Option ℕ) → (o >>= λ n. Some (acts.Await e n)) ≡ valued_by (acts.Await e m) o
await_valued e m None = refl
await_valued e m (Some n) = refl

put_valued : (x m : ℕ) (o : Option ℕ) → (o >>= λ n. Some (acts.Put x n)) ≡ valued_by (acts.Put x m) o
put_valued x m None = refl
put_valued x m (Some n) = refl

await_so : (names : NameTable) (verb object v : List ℕ) (e m : ℕ) → bytes_eq verb (codes "await") ≡ true → event_in names object ≡ Some e → act_with names verb object v ≡ valued_by (acts.Await e m) (number_in_word v)
unfolding act_with
await_so names verb object v e m is found = rw (is, found) (await_valued e m (number_in_word v))

put_so : (names : NameTable) (verb object v : List ℕ) (x m : ℕ) → bytes_eq verb (codes "await") ≡ false → bytes_eq verb (codes "put") ≡ true → cell_in_word names object ≡ Some x → act_with names verb object v ≡ valued_by (acts.Put x m) (number_in_word v)
unfolding act_with
put_so names verb object v x m other is found =
    rw (other, is, found) (put_valued x m (number_in_word v))

-- an act with one value gives the act with each; a `hand` has none
with_act : (names : NameTable) (verb object value : List ℕ) (a : Act) → has_value a ≡ true → act_with names verb object value ≡ Some a → (v : List ℕ) → act_with names verb object v ≡ valued_by a (number_in_word v)
unfolding act_with
with_act names verb object value a valued h v = elim (either (bytes_eq verb (codes "await")) _ _ a h) [
  | inl k ↦
      let e = bound (event_in names object) (λ e. number_in_word value >>= λ v. Some (acts.Await e v)) a k.1 in
      let n = bound (number_in_word value) (λ v. Some (acts.Await e.0 v)) a e.2 in
      let is : acts.Await e.0 n.0 ≡ a = cc in
      await_so names verb object v e.0 n.0 k.0 e.1
      ∙ ap (λ (x : Act). valued_by x (number_in_word v)) is
  | inr h2 ↦ elim (either (bytes_eq verb (codes "put")) _ _ a h2) [
    | inl k ↦
        let x = bound (cell_in_word names object) (λ x. number_in_word value >>= λ v. Some (acts.Put x v)) a k.1 in
        let n = bound (number_in_word value) (λ v. Some (acts.Put x.0 v)) a x.2 in
        let is : acts.Put x.0 n.0 ≡ a = cc in
        let other : bytes_eq verb (codes "await") ≡ false = ap (λ (w : List ℕ). bytes_eq w (codes "await")) ((bytes_eq-Decides verb (codes "put")).0 k.0) in
        put_so names verb object v x.0 n.0 other k.0 x.1 ∙ ap (λ (y : Act). valued_by y (number_in_word v)) is
    | inr h3 ↦
        let k = guarded (bytes_eq verb (codes "hand")) _ a h3 in
        let e = bound (event_in names object) (λ e. worker_in names value >>= λ b. Some (acts.Hand e b)) a k.1 in
        let b = bound (worker_in names value) (λ b. Some (acts.Hand e.0 b)) a e.2 in
        let is : acts.Hand e.0 b.0 ≡ a = cc in
        absurd (true≢false (sym valued ∙ sym (ap has_value is)))
  ]
]

-- what an entry has as its worker and its act
record Shows (names : NameTable) (w : List ℕ) (o : Option Act) (e : Entry) : Type 0 where
  act : o ≡ Some e.act
  who : worker_in names w ≡ Some e.worker

shows : (names : NameTable) (w : List ℕ) (o : Option Act) (equals answer : List ℕ) (e : Entry) → entry_by names w o equals answer ≡ Some e → Shows names w o e
unfolding entry_by
shows names w o equals answer e h =
    let a = bound o _ e h in
    let v = bound (worker_in names w) _ e a.2 in
    let g = guarded (bytes_eq equals (codes "=")) _ e v.2 in
    let q = bound (parse_reply answer) _ e g.1 in
    let is : record { worker = v.0; act = a.0; reply = q.0 } ≡ e = cc in
    record {
      act = a.1 ∙ ap (λ (x : Entry). Some x.act) is;
      who = v.1 ∙ ap (λ (x : Entry). Some x.worker) is;
    }

by_both : (names : NameTable) (w r : List ℕ) (v : ℕ) (a : Act) (o : Option ℕ) → worker_in names w ≡ Some v → entry_by names w (valued_by a o) (codes "=") r ≡ with_both v a o (parse_reply r)
unfolding entry_by
by_both names w r v a None who = refl
by_both names w r v a (Some n) who = rw who (replied v (with_value a n) (parse_reply r))

in_opening : (names : NameTable) (ws : List (List ℕ)) (value answer : List ℕ) (e : Entry) → has_value e.act ≡ true → entry_in names (((ws ++ value ∷ []) ++ codes "=" ∷ []) ++ answer ∷ []) ≡ Some e
    → (v r : List ℕ) → entry_in names (((ws ++ v ∷ []) ++ codes "=" ∷ []) ++ r ∷ []) ≡ with_both e.worker e.act (number_in_word v) (parse_reply r)
unfolding entry_in
in_opening names [] value answer e valued h v r = cc
in_opening names (w ∷ []) value answer e valued h v r =
    let s = shows names w (act_alone value) (codes "=") answer e h in
    absurd (true≢false (sym valued ∙ alone_unvalued value e.act s.act))
in_opening names (w ∷ verb ∷ []) value answer e valued h v r =
    let s = shows names w (act_on names verb value) (codes "=") answer e h in
    absurd (true≢false (sym valued ∙ on_unvalued names verb value e.act s.act))
in_opening names (w ∷ verb ∷ object ∷ []) value answer e valued h v r =
    let s = shows names w (act_with names verb object value) (codes "=") answer e h in
    ap (λ (o : Option Act). entry_by names w o (codes "=") r) (with_act names verb object value e.act valued s.act v) ∙ by_both names w r e.worker e.act (number_in_word v) s.who
in_opening names (a ∷ b ∷ c ∷ d ∷ []) value answer e valued h v r = cc
in_opening names (a ∷ b ∷ c ∷ d ∷ f ∷ []) value answer e valued h v r = cc
in_opening names (a ∷ b ∷ c ∷ d ∷ f ∷ g ∷ []) value answer e valued h v r = cc
in_opening names (a ∷ b ∷ c ∷ d ∷ f ∷ g ∷ k ∷ ws) value answer e valued h v r = cc

lined_value : (opening value answer : List ℕ) → IsWord value → IsWord answer → words_of (with_value_word opening value ++ 32 ∷ answer) ≡ ((words_of opening ++ value ∷ []) ++ codes "=" ∷ []) ++ answer ∷ []
lined_value opening value answer v r =
    lined (with_value_word opening value) answer r ∙ ap (λ (ws : List (List ℕ)). ws ++ answer ∷ []) (lined (opening ++ 32 ∷ value) (codes "=") (literal_word (codes "=") refl)
    ∙ ap (λ (ws : List (List ℕ)). ws ++ codes "=" ∷ []) (lined opening value v))

-- each entry with this opening has the worker and, values apart, the act of one such entry
pub opens : (names : NameTable) (line prefix opening : List ℕ) (n : ℕ) (e : Entry) → HasPrefix line prefix → HasNumber prefix opening n → entry_of names line ≡ Some e → has_value e.act ≡ true → SpellsAs names opening e.worker e.act
unfolding entry_of
opens names line prefix opening n e has spelled h valued =
    let value = spelled.0 in
    let cut = spelled.1 in
    let is : line ≡ with_value_word opening value ++ 32 ∷ has.0 = has.1 ∙ ap (λ (f : List ℕ). f ++ 32 ∷ has.0) cut.0 in
    let one : entry_in names (((words_of opening ++ value ∷ []) ++ codes "=" ∷ []) ++ has.0 ∷ []) ≡ Some e = sym (ap (entry_in names) (ap words_of is ∙ lined_value opening value has.0 cut.1 has.2)) ∙ h in
    record {
      whole = λ unvalued. absurd (true≢false (sym valued ∙ unvalued));
      valued = λ _ v r p q. ap (entry_in names) (lined_value opening v r p q) ∙ in_opening names (words_of opening) value has.0 e valued one v r;
    }

-- a cached opening, and the value and the reply after it
pub opened : (names : NameTable) (line prefix opening : List ℕ) (w : ℕ) (a : Act) (n : ℕ) (r : Reply) → EndsIn line prefix r → HasNumber prefix opening n → SpellsAs names opening w a → has_value a ≡ true
    → entry_of names line ≡ Some (record { worker = w; act = with_value a n; reply = r })
opened names line prefix opening w a n r ends has tell valued =
    let cut = has.1 in
    let is : line ≡ with_value_word opening has.0 ++ 32 ∷ ends.0 = ends.1 ∙ ap (λ (f : List ℕ). f ++ 32 ∷ ends.0) cut.0 in
    ap (entry_of names) is ∙ tell.valued valued has.0 ends.0 cut.1 ends.2 ∙ ap (λ (o : Option ℕ). with_both w a o (parse_reply ends.0)) has.2 ∙ ap (with_reply w (with_value a n)) ends.3

-- what precedes a reply that was found at the end
before : (line prefix tail : List ℕ) → bytes_eq (drop (length line - length tail) line) tail ≡ true → prefix ≡ take (length line - length tail) line → line ≡ prefix ++ tail
before line prefix tail same is =
    sym (take-append-drop (length line - length tail) line) ∙ ap (λ (r : List ℕ). take (length line - length tail) line ++ r) ((bytes_eq-Decides _ _).0 same) ∙ ap (λ (r : List ℕ). r ++ tail) (sym is)

pub ends_done : (line prefix : List ℕ) → bytes_eq (drop (length line - length (codes " done")) line) (codes " done") ≡ true → prefix ≡ take (length line - length (codes " done")) line → EndsIn line prefix Done
unfolding parse_reply
ends_done line prefix same is = (codes "done", before line prefix (codes " done") same is, literal_word (codes "done") refl, refl)

pub ends_pending : (line prefix : List ℕ) → bytes_eq (drop (length line - length (codes " pending")) line) (codes " pending") ≡ true → prefix ≡ take (length line - length (codes " pending")) line → EndsIn line prefix Pending
unfolding parse_reply
ends_pending line prefix same is = (codes "pending", before line prefix (codes " pending") same is, literal_word (codes "pending") refl, refl)

-- a word that encodes a number encodes no other reply
spells_number : (word : List ℕ) (n : ℕ) (done pending : Bool) → bytes_eq word (codes "done") ≡ done → bytes_eq word (codes "pending") ≡ pending → number_in_word word ≡ Some n → parse_reply word ≡ Some (Number n)
unfolding parse_reply digits_from
spells_number word n true pending is other h =
    let e : number_in_word (codes "done") ≡ Some n = sym (ap number_in_word ((bytes_eq-Decides word (codes "done")).0 is)) ∙ h in
    cc
spells_number word n false true other is h =
    let e : number_in_word (codes "pending") ≡ Some n = sym (ap number_in_word ((bytes_eq-Decides word (codes "pending")).0 is)) ∙ h in
    cc
spells_number word n false false one two h = rw (one, two, h) refl

pub ends_number : (line : List ℕ) (i n : ℕ) → EndsInNumber line i n → EndsIn line (take i line) (Number n)
ends_number line i n ends = (drop (i + 1) line, ends.0.0, ends.0.1, spells_number (drop (i + 1) line) n _ _ refl refl ends.1)

pub ruleset ends = (ends_done, ends_pending, ends_number)

-- a cached prefix without a value, and the reply after it
pub entry_of_cached : (names : NameTable) (line prefix : List ℕ) (w : ℕ) (a : Act) (r : Reply) → EndsIn line prefix r → SpellsAs names prefix w a → has_value a ≡ false → entry_of names line ≡ Some (record { worker = w; act = a; reply = r })
entry_of_cached names line prefix w a r ends tell plain = ap (entry_of names) ends.1 ∙ tell.whole plain ends.0 ends.2 ∙ ap (with_reply w a) ends.3

pub value_so : (prefix head : List ℕ) (i n : ℕ) → bytes_eq (drop (length prefix - length (codes " =")) prefix) (codes " =") ≡ true → head ≡ take (length prefix - length (codes " =")) prefix → EndsInNumber head i n → HasNumber prefix (take i head) n
value_so prefix head i n same is ends = (
  drop (i + 1) head,
  (before prefix head (codes " =") same is ∙ ap (λ (h : List ℕ). h ++ codes " =") ends.0.0, ends.0.1),
  ends.1,
)

kept_at : (names : NameTable) (b : Bool) (o : Option CachedPrefix) (f g : CachedPrefix) → cond b (Some f) o ≡ Some g → IsCachedPrefix names f → (o ≡ Some g → IsCachedPrefix names g) → IsCachedPrefix names g
kept_at names true o f g h new old = (let is : f ≡ g = cc in subst (λ (x : CachedPrefix). IsCachedPrefix names x) is new)
kept_at names false o f g h new old = old h

-- a prefix replaces another
pub kept : (names : NameTable) (fronts : List CachedPrefix) (place : ℕ) (f : CachedPrefix) → place < length fronts → IsLineCache names fronts → IsCachedPrefix names f → IsLineCache names (slice_set fronts place f)
kept names fronts place f within all new i g at = kept_at names (place == i) (slice_get fronts i) f g (sym (get_set fronts place i f within) ∙ at) new (all i g)

-- a prefix, by its key
pub told_of : (names : NameTable) (prefix : List ℕ) (k : PackedBytes) (w : ℕ) (a : Act) → key_bytes k ≡ prefix → SpellsAs names prefix w a → SpellsAs names (key_bytes k) w a
told_of names prefix k w a is new = rw is new

-- a prefix that was found by its key
pub found : (names : NameTable) (prefix : List ℕ) (k : PackedBytes) (w : ℕ) (a : Act) → key_bytes k ≡ prefix → SpellsAs names (key_bytes k) w a → SpellsAs names prefix w a
found names prefix k w a is kept = subst (λ (xs : List ℕ). SpellsAs names xs w a) is kept

-- one more prefix is added after the others
behind : (names : NameTable) (fronts : List CachedPrefix) (f g : CachedPrefix) (i : ℕ) → slice_get (fronts ++ f ∷ []) i ≡ Some g → IsLineCache names fronts → IsCachedPrefix names f → IsCachedPrefix names g
behind names [] f g zero at all new = (let is : f ≡ g = cc in subst (λ (x : CachedPrefix). IsCachedPrefix names x) is new)
behind names [] f g (suc i) at all new = cc
behind names (h ∷ fronts) f g zero at all new = all zero g at
behind names (h ∷ fronts) f g (suc i) at all new = behind names fronts f g i at (λ j x. all (suc j) x) new

pub kept_behind : (names : NameTable) (fronts : List CachedPrefix) (f : CachedPrefix) → IsLineCache names fronts → IsCachedPrefix names f → IsLineCache names (fronts ++ f ∷ [])
kept_behind names fronts f all new i g at = behind names fronts f g i at all new
