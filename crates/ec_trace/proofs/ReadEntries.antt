-- Entries are read from their encodings, and from nothing else.
use Rattle.std.proofs.Common.{◌≡◌, ℕ, ◌-◌, ◌<◌, List, [], ◌∷◌, ◌++◌, Bool, true, false, cond, eqb, Option, None, Some, refl, sym, ap, subst, ◌∙◌, arith, codes, decimal, inl, inr, ◌⊎◌, get_or}
use Rattle.std.specs.Prelude.{bytes_eq}
use Rattle.std.specs.Option.{option_and_then}
use Rattle.std.specs.Int.{IsInRange}
use Rattle.std.specs.List.{AllByRecursion, join_with_byte}
use Rattle.std.proofs.lemmas.Bool.{false_from_ne_true}
use Rattle.std.proofs.lemmas.List.Elements.{All-from_recursion}
use Rattle.std.proofs.lemmas.Slice.Eq.{bytes_eq-Decides}
use Rattle.std.proofs.lemmas.Str.Parse.{not_in_digits}
use Rattle.std.proofs.lemmas.Fmt.{digits_decimal, decimal_nonempty}
use Rattle.ec_core.specs.declared.act.Act.{Act}
use Rattle.ec_core.specs.declared.act.Act.TheVariants as acts
use Rattle.ec_core.specs.declared.act.Reply.{Reply}
use Rattle.ec_core.specs.declared.act.Reply.TheVariants.{Done, Number, Pending}
use Rattle.ec_core.specs.declared.act.Entry.{Entry}
use Rattle.ec_count.specs.Names.{find_name}
use Rattle.ec_heading.proofs.shared.SpelledWords.{AreWords}
use Rattle.ec_count.specs.declared.target.Target.{Target}
use Rattle.ec_count.specs.declared.target.Target.TheVariants.{Worker, Event, Sequencer}
use Rattle.ec_text.specs.Words.{words_of, number_in_word, IsWord}
use Rattle.ec_text.proofs.shared.WordLemmas.{HasFirst, has_first, words_join, split_join, literal_word}
use Rattle.ec_text.proofs.shared.NumberLemmas.{own, number_again, number_takes, guarded}
use Rattle.ec_heading.specs.declared.version.Version.{Version}
use Rattle.ec_heading.specs.Spelling.{target_name, cell_word, act_words, reply_word, entry_words, entry_line}
use Rattle.ec_heading.specs.Lists.{target_worker, worker_in}
use Rattle.ec_heading.specs.EntryWords.{NameTable, target_event, target_sequencer, event_in, sequencer_in, cell_in_word}
use Rattle.ec_trace.specs.Entries.{◌>>=◌, act_alone, act_on, act_with, parse_reply, entry_by, entry_in, entry_of}
use Rattle.ec_trace.specs.Step.{limit_in}
use Rattle.ec_heading.proofs.shared.ReadNames.{AreApart, HasName, is_celled, HasBlock, has_block, block_by, IsNamedBy, named_by, word_lacks, word_back, bracketed}
use Rattle.ec_trace.proofs.ReadCells.{decimal_lacks, cell_again, cell_spelled}
use Rattle.ec_trace.proofs.CacheLemmas.{either, bound as bind_back}

pub too_many : (names : NameTable) (a b c d e f more : List ℕ) → entry_in names (a ∷ b ∷ c ∷ d ∷ e ∷ f ∷ words_of more) ≡ None
unfolding entry_in
too_many names a b c d e f more = let r : HasFirst more = has_first more in rw r.is refl

pub third_word : (v : Version) (a b more : List ℕ) → limit_in v (a ∷ b ∷ words_of more) ≡ None
third_word v a b more = let r : HasFirst more = has_first more in rw r.is refl

-- WHAT HAS AN ENCODING

abbrev pub ActIsNamed : NameTable → Act → Type 0
ActIsNamed names (acts.Advance e) = HasName names (Event e)
ActIsNamed names (acts.Read e) = HasName names (Event e)
ActIsNamed names (acts.Await e v) = HasName names (Event e) × (v < 1000000000000000000)
ActIsNamed names acts.Go = Unit {0}
ActIsNamed names (acts.Ticket q) = HasName names (Sequencer q)
ActIsNamed names (acts.Put x v) = (is_celled x names ≡ true) × (x < 1000000000000000000) × (v < 1000000000000000000)
ActIsNamed names (acts.Get x) = (is_celled x names ≡ true) × (x < 1000000000000000000)
ActIsNamed names (acts.Hand e b) = HasName names (Event e) × HasName names (Worker b)

abbrev pub ReplyIsShort : Reply → Type 0
ReplyIsShort Done = Unit {0}
ReplyIsShort Pending = Unit {0}
ReplyIsShort (Number n) = n < 1000000000000000000

-- what the entry names is declared, and its numbers have at most 18 digits
pub record IsSpellable (names : NameTable) (e : Entry) : Type 0 where
  pub worker : HasName names (Worker e.worker)
  pub act : ActIsNamed names e.act
  pub reply : ReplyIsShort e.reply

-- WORDS

plain : (word : List ℕ) → AllByRecursion (λ b. eqb b 32 ≡ false) word → IsWord word
plain word all = All-from_recursion (λ b. eqb b 32 ≡ false) word all

name_word : (names : NameTable) (t : Target) (word : List ℕ) → IsNamedBy names t word → IsWord word
name_word names t word by = plain word (word_lacks 32 word refl by.plain)

pub number_word : (n : ℕ) → n < 1000000000000000000 → IsWord (decimal n)
number_word n small = plain (decimal n) (decimal_lacks 32 n small (λ r. omega arith))

all_append : (P : ℕ → Type 0) (xs ys : List ℕ) → AllByRecursion P xs → AllByRecursion P ys → AllByRecursion P (xs ++ ys)
all_append P [] ys p q = q
all_append P (x ∷ xs) ys p q = (p.0, all_append P xs ys p.1 q)

cell_is_word : (names : NameTable) (x : ℕ) → AreWords names → HasBlock names x → x < 1000000000000000000 → IsWord (cell_word names x)
cell_is_word names x are b small =
    subst IsWord (sym b.word) (plain (bracketed b.block (x - b.first))
    (all_append (λ c. eqb c 32 ≡ false) (b.block ++ 91 ∷ [] ++ decimal (x - b.first)) (93 ∷ [])
    (all_append (λ c. eqb c 32 ≡ false) (b.block ++ 91 ∷ []) (decimal (x - b.first))
    (all_append (λ c. eqb c 32 ≡ false) b.block (91 ∷ []) (word_lacks 32 b.block refl (block_by names x are b).plain) (refl, tt))
    (decimal_lacks 32 (x - b.first) (omega arith) (λ r. omega arith))) (refl, tt)))

reply_is_word : (r : Reply) → ReplyIsShort r → IsWord (reply_word r)
reply_is_word Done f = literal_word (codes "done") refl
reply_is_word Pending f = literal_word (codes "pending") refl
reply_is_word (Number n) f = number_word n f

-- ENCODINGS ARE READ

-- a number is no word of letters
not_letters : (n c : ℕ) (word : List ℕ) → n < 1000000000000000000 → ¬ (IsInRange 48 57 c) → get_or word 0 0 ≡ c → bytes_eq (decimal n) word ≡ false
not_letters n c word small out first =
    false_from_ne_true _ (λ same. not_in_digits own (decimal n) c (digits_decimal own n (omega arith)) out 0 (decimal_nonempty n (omega arith)) (ap (λ (x : List ℕ). get_or x 0 0) ((bytes_eq-Decides (decimal n) word).0 same) ∙ first))

reply_again : (r : Reply) → ReplyIsShort r → parse_reply (reply_word r) ≡ Some r
unfolding parse_reply
reply_again Done f = refl
reply_again Pending f = refl
reply_again (Number n) f =
    let done : bytes_eq (decimal n) (codes "done") ≡ false = not_letters n 100 (codes "done") f (λ r. omega arith) refl in
    let pending : bytes_eq (decimal n) (codes "pending") ≡ false = not_letters n 112 (codes "pending") f (λ r. omega arith) refl in
    rw (done, pending, number_again n f) refl

event_again : (names : NameTable) (word : List ℕ) (e : ℕ) → find_name word names ≡ Some (Event e) → event_in names word ≡ Some e
event_again names word e found = ap (option_and_then target_event) found

sequencer_again : (names : NameTable) (word : List ℕ) (q : ℕ) → find_name word names ≡ Some (Sequencer q) → sequencer_in names word ≡ Some q
sequencer_again names word q found = ap (option_and_then target_sequencer) found

worker_again : (names : NameTable) (word : List ℕ) (w : ℕ) → find_name word names ≡ Some (Worker w) → worker_in names word ≡ Some w
worker_again names word w found = ap (option_and_then target_worker) found

by_again : (names : NameTable) (word answer : List ℕ) (o : Option Act) (w : ℕ) (a : Act) (r : Reply) → worker_in names word ≡ Some w → o ≡ Some a → parse_reply answer ≡ Some r
    → entry_by names word o (codes "=") answer ≡ Some (record { worker = w; act = a; reply = r })
unfolding entry_by
by_again names word answer o w a r who what returned = rw (what, who, returned) refl

equals_word : IsWord (codes "=")
equals_word = literal_word (codes "=") refl

advance_again : (names : NameTable) (word : List ℕ) (e : ℕ) → event_in names word ≡ Some e → act_on names (codes "advance") word ≡ Some (acts.Advance e)
unfolding act_on
advance_again names word e is = rw is refl

read_again : (names : NameTable) (word : List ℕ) (e : ℕ) → event_in names word ≡ Some e → act_on names (codes "read") word ≡ Some (acts.Read e)
unfolding act_on
read_again names word e is = rw is refl

ticket_again : (names : NameTable) (word : List ℕ) (q : ℕ) → sequencer_in names word ≡ Some q → act_on names (codes "ticket") word ≡ Some (acts.Ticket q)
unfolding act_on
ticket_again names word q is = rw is refl

get_again : (names : NameTable) (word : List ℕ) (x : ℕ) → cell_in_word names word ≡ Some x → act_on names (codes "get") word ≡ Some (acts.Get x)
unfolding act_on
get_again names word x is = rw is refl

await_again : (names : NameTable) (word : List ℕ) (e v : ℕ) → event_in names word ≡ Some e → v < 1000000000000000000 → act_with names (codes "await") word (decimal v) ≡ Some (acts.Await e v)
unfolding act_with
await_again names word e v is small = rw (is, number_again v small) refl

put_again : (names : NameTable) (word : List ℕ) (x v : ℕ) → cell_in_word names word ≡ Some x → v < 1000000000000000000 → act_with names (codes "put") word (decimal v) ≡ Some (acts.Put x v)
unfolding act_with
put_again names word x v is small = rw (is, number_again v small) refl

hand_again : (names : NameTable) (word to : List ℕ) (e b : ℕ) → event_in names word ≡ Some e → worker_in names to ≡ Some b → act_with names (codes "hand") word to ≡ Some (acts.Hand e b)
unfolding act_with
hand_again names word to e b is who = rw (is, who) refl

go_again : act_alone (codes "go") ≡ Some acts.Go
unfolding act_alone
go_again = refl

four_words : (a b c d : List ℕ) → IsWord a → IsWord b → IsWord c → IsWord d → words_of (join_with_byte 32 (a ∷ b ∷ c ∷ d ∷ [])) ≡ a ∷ b ∷ c ∷ d ∷ []
four_words a b c d p q r s = words_join a (b ∷ c ∷ d ∷ []) (p, (q, (r, (s, tt))))

five_words : (a b c d e : List ℕ) → IsWord a → IsWord b → IsWord c → IsWord d → IsWord e → words_of (join_with_byte 32 (a ∷ b ∷ c ∷ d ∷ e ∷ [])) ≡ a ∷ b ∷ c ∷ d ∷ e ∷ []
five_words a b c d e p q r s t = words_join a (b ∷ c ∷ d ∷ e ∷ []) (p, (q, (r, (s, (t, tt)))))

six_words : (a b c d e f : List ℕ) → IsWord a → IsWord b → IsWord c → IsWord d → IsWord e → IsWord f → words_of (join_with_byte 32 (a ∷ b ∷ c ∷ d ∷ e ∷ f ∷ [])) ≡ a ∷ b ∷ c ∷ d ∷ e ∷ f ∷ []
six_words a b c d e f p q r s t u = words_join a (b ∷ c ∷ d ∷ e ∷ f ∷ []) (p, (q, (r, (s, (t, (u, tt))))))

line_again : (names : NameTable) (w : ℕ) (a : Act) (r : Reply) → AreWords names → HasName names (Worker w) → ActIsNamed names a → ReplyIsShort r
    → entry_in names (words_of (join_with_byte 32 (target_name names (Worker w) ∷ act_words names a ++ codes "=" ∷ reply_word r ∷ []))) ≡ Some (record { worker = w; act = a; reply = r })
unfolding entry_in
line_again names w (acts.Advance e) r are who what returned =
    let m = named_by names (Worker w) are who in
    let n = named_by names (Event e) are what in
    ap (entry_in names) (five_words _ _ _ _ _ (name_word names (Worker w) _ m) (literal_word (codes "advance") refl) (name_word names (Event e) _ n) equals_word (reply_is_word r returned))
    ∙ by_again names _ _ _ w (acts.Advance e) r (worker_again names _ w m.found) (advance_again names _ e (event_again names _ e n.found)) (reply_again r returned)
line_again names w (acts.Read e) r are who what returned =
    let m = named_by names (Worker w) are who in
    let n = named_by names (Event e) are what in
    ap (entry_in names) (five_words _ _ _ _ _ (name_word names (Worker w) _ m) (literal_word (codes "read") refl) (name_word names (Event e) _ n) equals_word (reply_is_word r returned))
    ∙ by_again names _ _ _ w (acts.Read e) r (worker_again names _ w m.found) (read_again names _ e (event_again names _ e n.found)) (reply_again r returned)
line_again names w (acts.Await e v) r are who what returned =
    let m = named_by names (Worker w) are who in
    let n = named_by names (Event e) are what.0 in
    ap (entry_in names) (six_words _ _ _ _ _ _ (name_word names (Worker w) _ m) (literal_word (codes "await") refl) (name_word names (Event e) _ n) (number_word v what.1) equals_word (reply_is_word r returned))
    ∙ by_again names _ _ _ w (acts.Await e v) r (worker_again names _ w m.found) (await_again names _ e v (event_again names _ e n.found) what.1) (reply_again r returned)
line_again names w acts.Go r are who what returned =
    let m = named_by names (Worker w) are who in
    ap (entry_in names) (four_words _ _ _ _ (name_word names (Worker w) _ m) (literal_word (codes "go") refl) equals_word (reply_is_word r returned))
    ∙ by_again names _ _ _ w acts.Go r (worker_again names _ w m.found) go_again (reply_again r returned)
line_again names w (acts.Ticket q) r are who what returned =
    let m = named_by names (Worker w) are who in
    let n = named_by names (Sequencer q) are what in
    ap (entry_in names) (five_words _ _ _ _ _ (name_word names (Worker w) _ m) (literal_word (codes "ticket") refl) (name_word names (Sequencer q) _ n) equals_word (reply_is_word r returned))
    ∙ by_again names _ _ _ w (acts.Ticket q) r (worker_again names _ w m.found) (ticket_again names _ q (sequencer_again names _ q n.found)) (reply_again r returned)
line_again names w (acts.Put x v) r are who what returned =
    let m = named_by names (Worker w) are who in
    let b = has_block names x what.0 in
    ap (entry_in names) (six_words _ _ _ _ _ _ (name_word names (Worker w) _ m) (literal_word (codes "put") refl) (cell_is_word names x are b what.1) (number_word v what.2) equals_word (reply_is_word r returned))
    ∙ by_again names _ _ _ w (acts.Put x v) r (worker_again names _ w m.found) (put_again names _ x v (cell_again names x are b what.1) what.2) (reply_again r returned)
line_again names w (acts.Get x) r are who what returned =
    let m = named_by names (Worker w) are who in
    let b = has_block names x what.0 in
    ap (entry_in names) (five_words _ _ _ _ _ (name_word names (Worker w) _ m) (literal_word (codes "get") refl) (cell_is_word names x are b what.1) equals_word (reply_is_word r returned))
    ∙ by_again names _ _ _ w (acts.Get x) r (worker_again names _ w m.found) (get_again names _ x (cell_again names x are b what.1)) (reply_again r returned)
line_again names w (acts.Hand e b) r are who what returned =
    let m = named_by names (Worker w) are who in
    let n = named_by names (Event e) are what.0 in
    let k = named_by names (Worker b) are what.1 in
    ap (entry_in names) (six_words _ _ _ _ _ _ (name_word names (Worker w) _ m) (literal_word (codes "hand") refl) (name_word names (Event e) _ n) (name_word names (Worker b) _ k) equals_word (reply_is_word r returned))
    ∙ by_again names _ _ _ w (acts.Hand e b) r (worker_again names _ w m.found) (hand_again names _ _ e b (event_again names _ e n.found) (worker_again names _ b k.found)) (reply_again r returned)

-- the encoding of an entry is read
pub entry_again : (names : NameTable) (e : Entry) → AreWords names → IsSpellable names e → entry_of names (entry_line names e) ≡ Some e
unfolding entry_of entry_line
entry_again names e are may = line_again names e.worker e.act e.reply are may.worker may.act may.reply

-- WHAT IS READ IS AN ENCODING

same_word : (v w : List ℕ) → bytes_eq v w ≡ true → v ≡ w
same_word v w h = (bytes_eq-Decides v w).0 h

pub event_found : (o : Option Target) (e : ℕ) → option_and_then target_event o ≡ Some e → o ≡ Some (Event e)
event_found None e h = cc
event_found (Some (Event d)) e h = cc
event_found (Some _) e h = cc

pub sequencer_found : (o : Option Target) (q : ℕ) → option_and_then target_sequencer o ≡ Some q → o ≡ Some (Sequencer q)
sequencer_found None q h = cc
sequencer_found (Some (Sequencer p)) q h = cc
sequencer_found (Some _) q h = cc

pub worker_found : (o : Option Target) (w : ℕ) → option_and_then target_worker o ≡ Some w → o ≡ Some (Worker w)
worker_found None w h = cc
worker_found (Some (Worker v)) w h = cc
worker_found (Some _) w h = cc

event_spelled : (names : NameTable) (word : List ℕ) (e : ℕ) → AreApart names → event_in names word ≡ Some e → target_name names (Event e) ≡ word
event_spelled names word e apart h = word_back names word (Event e) apart refl (event_found (find_name word names) e h)

worker_spelled : (names : NameTable) (word : List ℕ) (w : ℕ) → AreApart names → worker_in names word ≡ Some w → target_name names (Worker w) ≡ word
worker_spelled names word w apart h = word_back names word (Worker w) apart refl (worker_found (find_name word names) w h)

sequencer_spelled : (names : NameTable) (word : List ℕ) (q : ℕ) → AreApart names → sequencer_in names word ≡ Some q → target_name names (Sequencer q) ≡ word
sequencer_spelled names word q apart h = word_back names word (Sequencer q) apart refl (sequencer_found (find_name word names) q h)

reply_back : (word : List ℕ) (r : Reply) → parse_reply word ≡ Some r → reply_word r ≡ word
unfolding parse_reply
reply_back word r h = elim (either (bytes_eq word (codes "done")) _ _ r h) [
  | inl done ↦ (let is : Done ≡ r = cc in ap reply_word (sym is) ∙ sym (same_word word (codes "done") done.0))
  | inr h' ↦ elim (either (bytes_eq word (codes "pending")) _ _ r h') [
    | inl pending ↦ (let is : Pending ≡ r = cc in ap reply_word (sym is) ∙ sym (same_word word (codes "pending") pending.0))
    | inr h'' ↦
        let n = bind_back (number_in_word word) (λ n. Some (Number n)) r h'' in
        let is : Number n.0 ≡ r = cc in
        ap reply_word (sym is) ∙ sym (number_takes word n.0 n.1).0
  ]
]

alone_back : (names : NameTable) (verb : List ℕ) (a : Act) → act_alone verb ≡ Some a → act_words names a ≡ verb ∷ []
unfolding act_alone
alone_back names verb a h =
    let g = guarded (bytes_eq verb (codes "go")) (Some acts.Go) a h in
    let is : acts.Go ≡ a = cc in
    ap (act_words names) (sym is) ∙ ap (λ (v : List ℕ). v ∷ []) (sym (same_word verb (codes "go") g.0))

pair_is : (v v' o o' : List ℕ) → v ≡ v' → o ≡ o' → v ∷ o ∷ [] ≡ v' ∷ o' ∷ []
pair_is v v' o o' p q = cc

triple_is : (v v' o o' n n' : List ℕ) → v ≡ v' → o ≡ o' → n ≡ n' → v ∷ o ∷ n ∷ [] ≡ v' ∷ o' ∷ n' ∷ []
triple_is v v' o o' n n' p q r = cc

on_back : (names : NameTable) (verb object : List ℕ) (a : Act) → AreApart names → act_on names verb object ≡ Some a → act_words names a ≡ verb ∷ object ∷ []
unfolding act_on
on_back names verb object a apart h = elim (either (bytes_eq verb (codes "advance")) _ _ a h) [
  | inl k ↦
      let e = bind_back (event_in names object) (λ e. Some (acts.Advance e)) a k.1 in
      let is : acts.Advance e.0 ≡ a = cc in
      ap (act_words names) (sym is) ∙ pair_is _ _ _ _ (sym (same_word verb (codes "advance") k.0)) (event_spelled names object e.0 apart e.1)
  | inr h2 ↦ elim (either (bytes_eq verb (codes "read")) _ _ a h2) [
    | inl k ↦
        let e = bind_back (event_in names object) (λ e. Some (acts.Read e)) a k.1 in
        let is : acts.Read e.0 ≡ a = cc in
        ap (act_words names) (sym is) ∙ pair_is _ _ _ _ (sym (same_word verb (codes "read") k.0)) (event_spelled names object e.0 apart e.1)
    | inr h3 ↦ elim (either (bytes_eq verb (codes "ticket")) _ _ a h3) [
      | inl k ↦
          let q = bind_back (sequencer_in names object) (λ q. Some (acts.Ticket q)) a k.1 in
          let is : acts.Ticket q.0 ≡ a = cc in
          ap (act_words names) (sym is) ∙ pair_is _ _ _ _ (sym (same_word verb (codes "ticket") k.0)) (sequencer_spelled names object q.0 apart q.1)
      | inr h4 ↦
          let k = guarded (bytes_eq verb (codes "get")) _ a h4 in
          let x = bind_back (cell_in_word names object) (λ x. Some (acts.Get x)) a k.1 in
          let is : acts.Get x.0 ≡ a = cc in
          ap (act_words names) (sym is) ∙ pair_is _ _ _ _ (sym (same_word verb (codes "get") k.0)) (cell_spelled names object x.0 apart x.1)
    ]
  ]
]

with_back : (names : NameTable) (verb object value : List ℕ) (a : Act) → AreApart names → act_with names verb object value ≡ Some a → act_words names a ≡ verb ∷ object ∷ value ∷ []
unfolding act_with
with_back names verb object value a apart h = elim (either (bytes_eq verb (codes "await")) _ _ a h) [
  | inl k ↦
      let e = bind_back (event_in names object) (λ e. number_in_word value >>= λ v. Some (acts.Await e v)) a k.1 in
      let v = bind_back (number_in_word value) (λ v. Some (acts.Await e.0 v)) a e.2 in
      let is : acts.Await e.0 v.0 ≡ a = cc in
      ap (act_words names) (sym is) ∙ triple_is _ _ _ _ _ _ (sym (same_word verb (codes "await") k.0)) (event_spelled names object e.0 apart e.1) (sym (number_takes value v.0 v.1).0)
  | inr h2 ↦ elim (either (bytes_eq verb (codes "put")) _ _ a h2) [
    | inl k ↦
        let x = bind_back (cell_in_word names object) (λ x. number_in_word value >>= λ v. Some (acts.Put x v)) a k.1 in
        let v = bind_back (number_in_word value) (λ v. Some (acts.Put x.0 v)) a x.2 in
        let is : acts.Put x.0 v.0 ≡ a = cc in
        ap (act_words names) (sym is) ∙ triple_is _ _ _ _ _ _ (sym (same_word verb (codes "put") k.0)) (cell_spelled names object x.0 apart x.1) (sym (number_takes value v.0 v.1).0)
    | inr h3 ↦
        let k = guarded (bytes_eq verb (codes "hand")) _ a h3 in
        let e = bind_back (event_in names object) (λ e. worker_in names value >>= λ b. Some (acts.Hand e b)) a k.1 in
        let b = bind_back (worker_in names value) (λ b. Some (acts.Hand e.0 b)) a e.2 in
        let is : acts.Hand e.0 b.0 ≡ a = cc in
        ap (act_words names) (sym is) ∙ triple_is _ _ _ _ _ _ (sym (same_word verb (codes "hand") k.0)) (event_spelled names object e.0 apart e.1) (worker_spelled names value b.0 apart b.1)
  ]
]

-- the parts of an entry that was read
record IsBy (names : NameTable) (word : List ℕ) (o : Option Act) (equals answer : List ℕ) (e : Entry) : Type 0 where
  who : word ≡ target_name names (Worker e.worker)
  what : o ≡ Some e.act
  sign : equals ≡ codes "="
  returned : answer ≡ reply_word e.reply

by_back : (names : NameTable) (word : List ℕ) (o : Option Act) (equals answer : List ℕ) (e : Entry) → AreApart names → entry_by names word o equals answer ≡ Some e → IsBy names word o equals answer e
unfolding entry_by
by_back names word o equals answer e apart h =
    let a = bind_back o _ e h in
    let w = bind_back (worker_in names word) _ e a.2 in
    let g = guarded (bytes_eq equals (codes "=")) _ e w.2 in
    let r = bind_back (parse_reply answer) _ e g.1 in
    let is : record { worker = w.0; act = a.0; reply = r.0 } ≡ e = cc in
    let found : find_name word names ≡ Some (Worker w.0) = worker_found (find_name word names) w.0 w.1 in
    record {
      who = sym (word_back names word (Worker w.0) apart refl found) ∙ ap (λ (x : Entry). target_name names (Worker x.worker)) is;
      what = a.1 ∙ ap (λ (x : Entry). Some x.act) is;
      sign = same_word equals (codes "=") g.0;
      returned = sym (reply_back answer r.0 r.1) ∙ ap (λ (x : Entry). reply_word x.reply) is;
    }

ends_as : (names : NameTable) (word equals answer : List ℕ) (ws : List (List ℕ)) (e : Entry) → word ≡ target_name names (Worker e.worker) → act_words names e.act ≡ ws → equals ≡ codes "=" → answer ≡ reply_word e.reply
    → word ∷ (ws ++ equals ∷ answer ∷ []) ≡ entry_words names e
ends_as names word equals answer ws e p q r s = cc

words_back : (names : NameTable) (ws : List (List ℕ)) (e : Entry) → AreApart names → entry_in names ws ≡ Some e → ws ≡ entry_words names e
unfolding entry_in
words_back names [] e apart h = cc
words_back names (w ∷ []) e apart h = cc
words_back names (w ∷ v ∷ []) e apart h = cc
words_back names (w ∷ v ∷ q ∷ []) e apart h = cc
words_back names (w ∷ verb ∷ equals ∷ r ∷ []) e apart h =
    let b = by_back names w (act_alone verb) equals r e apart h in
    ends_as names w equals r (verb ∷ []) e b.who (alone_back names verb e.act b.what) b.sign b.returned
words_back names (w ∷ verb ∷ object ∷ equals ∷ r ∷ []) e apart h =
    let b = by_back names w (act_on names verb object) equals r e apart h in
    ends_as names w equals r (verb ∷ object ∷ []) e b.who (on_back names verb object e.act apart b.what) b.sign b.returned
words_back names (w ∷ verb ∷ object ∷ value ∷ equals ∷ r ∷ []) e apart h =
    let b = by_back names w (act_with names verb object value) equals r e apart h in
    ends_as names w equals r (verb ∷ object ∷ value ∷ []) e b.who (with_back names verb object value e.act apart b.what) b.sign b.returned
words_back names (a ∷ b ∷ c ∷ d ∷ f ∷ g ∷ k ∷ ws) e apart h = cc

-- what is read is the encoding
pub entry_spelled : (names : NameTable) (line : List ℕ) (e : Entry) → AreApart names → entry_of names line ≡ Some e → line ≡ entry_line names e
unfolding entry_of entry_line
entry_spelled names line e apart h = sym (split_join line) ∙ ap (join_with_byte 32) (words_back names (words_of line) e apart h)
