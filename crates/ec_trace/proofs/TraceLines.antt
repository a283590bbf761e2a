-- The lines of a trace: none has an LF, and none is too long.
use Rattle.std.proofs.Common.{◌≡◌, ◌≢◌, ℕ, ◌-◌, ◌*◌, ◌<◌, ◌≤◌, ◌^◌, List, [], ◌∷◌, ◌++◌, length, cond, Bool, true, false, eqb, ltb, leb, zero, suc, Result, Ok, Err, map, refl, sym, ap, subst, ◌∙◌, arith, get_or, codes, decimal, length-append, ne_eqb, Option, Some, None, if◌then◌else◌}
use Rattle.std.specs.Prelude.{not}
use Rattle.std.specs.List.{AllByRecursion, list_all, join_with_byte}
use Rattle.std.proofs.lemmas.Bool.{true≢false, and_parts, not-true, eqb-false, ltb-false, leb-true, or_parts}
use Rattle.std.proofs.lemmas.List.Elements.{recursion_from_All, All-from_recursion}
use Rattle.std.proofs.lemmas.Fmt.{length-decimal-le}
use Rattle.ec_core.specs.declared.act.Act.{Act}
use Rattle.ec_core.specs.declared.act.Act.TheVariants as acts
use Rattle.ec_core.specs.declared.act.Reply.{Reply}
use Rattle.ec_core.specs.declared.act.Reply.TheVariants.{Done, Number, Pending}
use Rattle.ec_core.specs.declared.act.Entry.{Entry}
use Rattle.ec_heading.proofs.shared.SpelledWords.{IsPlainWord, AreWords}
use Rattle.ec_count.specs.Reserved.{is_name, is_name_byte, is_reserved}
use Rattle.ec_count.specs.declared.target.Target.TheVariants.{Worker, Event, Sequencer}
use Rattle.ec_text.specs.Words.{words_of}
use Rattle.ec_heading.specs.HeadingModel.{HeadingModel}
use Rattle.ec_heading.specs.HeaderTree.{Declaration, HeaderTree, IsHeaderTree, IsDeclarable, AreDeclarable, with_declaration}
use Rattle.ec_heading.specs.declared.decl_kind.DeclKind.{DeclKind}
use Rattle.ec_heading.specs.declared.heading.HeadFault.TheVariants as faults
use Rattle.ec_heading.specs.DeclKinds.{sort_word, has_name, has_number, opener, second_opener, is_called}
use Rattle.ec_heading.specs.Spelling.{target_name, cell_word, act_words, reply_word, entry_words, entry_line, limit_line, declaration_line, declaration_words, list_words, name_words, number_words, second_words}
use Rattle.ec_heading.specs.EntryWords.{NameTable}
use Rattle.ec_heading.specs.Heading.{head_step, is_no_line, words_step}
use Rattle.ec_heading.specs.HeadingLaws.{LinesLead, outline_lines}
use Rattle.ec_trace.specs.FirstFault.{IsLine}
use Rattle.ec_heading.proofs.shared.Each.{each_append}
use Rattle.ec_heading.proofs.shared.DeclKindFacts.{is_literal, literal, literal_lacks as letters_lack, is_stop, other_stop, sort_literal, opener_literal, number_small, name_called, called}
use Rattle.ec_heading.proofs.shared.ReadNames.{HasBlock, has_block, block_by, named_by, word_lacks}
use Rattle.ec_trace.proofs.ReadCells.{decimal_lacks}
use Rattle.ec_trace.proofs.ReadEntries.{ActIsNamed, ReplyIsShort, IsSpellable}

-- NO LF

abbrev pub Lacks : List ℕ → Type 0
Lacks word = AllByRecursion (λ b. eqb b 10 ≡ false) word

pub literal_lacks : (word : List ℕ) → list_all (λ b. not (eqb b 10)) word ≡ true → Lacks word
literal_lacks [] is = tt
literal_lacks (b ∷ word) is = (let p = and_parts (not (eqb b 10)) (list_all (λ c. not (eqb c 10)) word) is in (not-true _ p.0, literal_lacks word p.1))

pub lacks_append : (xs ys : List ℕ) → Lacks xs → Lacks ys → Lacks (xs ++ ys)
lacks_append [] ys p q = q
lacks_append (x ∷ xs) ys p q = (p.0, lacks_append xs ys p.1 q)

lacks_join : (words : List (List ℕ)) → AllByRecursion Lacks words → Lacks (join_with_byte 32 words)
lacks_join [] h = tt
lacks_join (w ∷ []) h = h.0
lacks_join (w ∷ v ∷ words) h = lacks_append w (32 ∷ join_with_byte 32 (v ∷ words)) h.0 (refl, lacks_join (v ∷ words) h.1)

bytes_clean : (word : List ℕ) → AllByRecursion (λ b. is_name_byte b ≡ true) word → Lacks word
bytes_clean [] h = tt
bytes_clean (b ∷ word) h = (ne_eqb b 10 (λ e. true≢false (sym h.0 ∙ ap is_name_byte e)), bytes_clean word h.1)

name_clean : (word : List ℕ) → is_name word ≡ true → Lacks word
name_clean word is = bytes_clean word (name_called word is).bytes

number_clean : (n : ℕ) → n < 1000000000000000000 → Lacks (decimal n)
number_clean n small = decimal_lacks 10 n small (λ r. omega arith)

pub line_is : (line : List ℕ) → Lacks line → length line ≤ 8192 → IsLine line
line_is line clean short = record { no_lf = All-from_recursion (λ b. b ≢ 10) line (apart line clean); short = short }
  where
    apart : (w : List ℕ) → Lacks w → AllByRecursion (λ b. b ≢ 10) w
    apart [] h = tt
    apart (b ∷ w) h = (eqb-false b 10 h.0, apart w h.1)

-- HEADERS

workers_clean : (workers : List (List ℕ)) → AllByRecursion (λ w. is_name w ≡ true) workers → AllByRecursion Lacks workers
workers_clean [] h = tt
workers_clean (w ∷ ws) h = (name_clean w h.0, workers_clean ws h.1)

one_clean : (workers : List (List ℕ)) (i : ℕ) → AllByRecursion Lacks workers → Lacks (get_or workers i [])
one_clean [] i h = tt
one_clean (w ∷ ws) zero h = h.0
one_clean (w ∷ ws) (suc i) h = one_clean ws i h.1

list_clean : (workers : List (List ℕ)) (ids : List ℕ) → AllByRecursion Lacks workers → AllByRecursion Lacks (list_words workers ids)
list_clean workers [] h = tt
list_clean workers (i ∷ ids) h = (one_clean workers i h, list_clean workers ids h)

text_clean : (w : List ℕ) → is_literal w ≡ true → Lacks w
text_clean w h = letters_lack 10 w refl (literal w h).letters

name_words_clean : (s : DeclKind) (name : List ℕ) → is_called s name ≡ true → AllByRecursion Lacks (name_words s name)
name_words_clean s name h =
    elim (has_name s) as (λ b. AllByRecursion Lacks (if b then name ∷ [] else [])) [
      | true ↦ (bytes_clean name (called s name h).bytes, tt)
      | false ↦ tt
    ]

number_words_clean : (s : DeclKind) (n : ℕ) → n < 1000000000000000000 → AllByRecursion Lacks (number_words s n)
number_words_clean s n small = elim (has_number s) as (λ b. AllByRecursion Lacks (if b then decimal n ∷ [] else [])) [ true ↦ (number_clean n small, tt) | false ↦ tt ]

second_clean : (o : Option (List ℕ)) (workers : List (List ℕ)) (ids : List ℕ) → is_stop o ≡ true → AllByRecursion Lacks workers → AllByRecursion Lacks (second_words workers o ids)
second_clean None workers ids good h = tt
second_clean (Some stop) workers [] good h = tt
second_clean (Some stop) workers (i ∷ ids) good h = (text_clean stop (and_parts (is_literal stop) (is_reserved stop) good).0, list_clean workers (i ∷ ids) h)

small_number : (h : HeadingModel) (d : Declaration) → IsDeclarable h d
    → d.number < 1000000000000000000
small_number h d may = omega (arith, number_small d.sort d.number may.range)

declaration_clean : (workers : List (List ℕ)) (h : HeadingModel) (d : Declaration) → AllByRecursion Lacks workers → IsDeclarable h d → Lacks (declaration_line workers d)
declaration_clean workers h d all may =
    lacks_join (declaration_words workers d)
    (each_append Lacks (sort_word d.sort ∷ name_words d.sort d.name ++ number_words d.sort d.number ++ opener d.sort ∷ list_words workers d.first) (second_words workers (second_opener d.sort) d.second)
    (each_append Lacks (sort_word d.sort ∷ name_words d.sort d.name ++ number_words d.sort d.number) (opener d.sort ∷ list_words workers d.first)
    (each_append Lacks (sort_word d.sort ∷ name_words d.sort d.name) (number_words d.sort d.number)
    (text_clean (sort_word d.sort) (sort_literal d.sort), name_words_clean d.sort d.name may.word) (number_words_clean d.sort d.number (small_number h d may)))
    (text_clean (opener d.sort) (opener_literal d.sort), list_clean workers d.first all))
    (second_clean (second_opener d.sort) workers d.second (other_stop d.sort) all))

declarations_clean : (workers : List (List ℕ)) (h : HeadingModel) (ds : List Declaration) → AllByRecursion Lacks workers → AreDeclarable h ds → AllByRecursion Lacks (map (declaration_line workers) ds)
declarations_clean workers h [] all may = tt
declarations_clean workers h (d ∷ ds) all may = (declaration_clean workers h d all may.0, declarations_clean workers (with_declaration h d) ds all may.1)

outline_clean : (o : HeaderTree) → IsHeaderTree o → AllByRecursion Lacks (outline_lines o)
outline_clean o is =
    let all : AllByRecursion Lacks o.workers = workers_clean o.workers (recursion_from_All (λ w. is_name w ≡ true) o.workers is.workers.each) in
    (lacks_join (codes "workers" ∷ o.workers) (literal_lacks (codes "workers") refl, all), declarations_clean o.workers _ o.declarations all is.declarations)

-- a line that is added to a header is short
passed : {X E : Type 0} (b : Bool) (f : E) (r : Result X E) (x : X) → cond b (Err f) r ≡ Ok x → b ≡ false
passed true f r x e = cc
passed false f r x e = refl

head_short : (h next : HeadingModel) (line : List ℕ) → head_step h line ≡ Ok next
    → length line ≤ 8192
unfolding head_step
head_short h next line e =
    let p = or_parts (ltb 8192 (length line)) _ (passed (is_no_line line) faults.BadLine (words_step h (words_of line)) next e) in
    ltb-false _ _ p.0

lead_short : (h end : HeadingModel) (lines : List (List ℕ)) → LinesLead h lines end → AllByRecursion (λ l. length l ≤ 8192) lines
lead_short h end [] leads = tt
lead_short h end (line ∷ lines) leads = (head_short h leads.0 line leads.1, lead_short leads.0 end lines leads.2)

lines_are : (lines : List (List ℕ)) → AllByRecursion Lacks lines → AllByRecursion (λ l. length l ≤ 8192) lines → AllByRecursion IsLine lines
lines_are [] p q = tt
lines_are (l ∷ lines) p q = (line_is l p.0 q.0, lines_are lines p.1 q.1)

-- the lines of the workers and of the declarations
pub heading_lines_are : (o : HeaderTree) (h end : HeadingModel) → IsHeaderTree o → LinesLead h (outline_lines o) end → AllByRecursion IsLine (outline_lines o)
heading_lines_are o h end is leads = lines_are (outline_lines o) (outline_clean o is) (lead_short h end (outline_lines o) leads)

pub limit_line_is : (n : ℕ) → n < 2 ^ 48 → IsLine (limit_line n)
limit_line_is n low =
    line_is (limit_line n) (lacks_append (codes "limit ") (decimal n) (literal_lacks (codes "limit ") refl) (number_clean n (omega arith)))
    (omega (arith, length-append (codes "limit ") (decimal n), length-decimal-le 18 n (omega arith) (omega arith) (omega arith)))

-- ENTRIES

-- a word without an LF, of at most 64 bytes
pub record IsFine (word : List ℕ) : Type 0 where
  pub clean : Lacks word
  pub short : length word ≤ 64

literal_fine : (word : List ℕ) → list_all (λ b. not (eqb b 10)) word ≡ true → leb (length word) 64 ≡ true → IsFine word
literal_fine word clean short = record { clean = literal_lacks word clean; short = leb-true _ _ short }

word_fine : (word : List ℕ) → IsPlainWord word → IsFine word
word_fine word is = record { clean = word_lacks 10 word refl is; short = omega (arith, is.short) }

number_fine : (n : ℕ) → n < 1000000000000000000 → IsFine (decimal n)
number_fine n small = record { clean = number_clean n small; short = omega (arith, length-decimal-le 18 n (omega arith) (omega arith) (omega arith)) }

cell_fine : (names : NameTable) (x : ℕ) → AreWords names → HasBlock names x → x < 1000000000000000000 → IsFine (cell_word names x)
cell_fine names x are b small =
    let name : IsPlainWord b.block = (block_by names x are b).plain in
    let low : x - b.first < 1000000000000000000 = omega arith in
    subst IsFine (sym b.word) (record {
      clean =
          lacks_append (b.block ++ 91 ∷ [] ++ decimal (x - b.first)) (93 ∷ [])
          (lacks_append (b.block ++ 91 ∷ []) (decimal (x - b.first)) (lacks_append b.block (91 ∷ []) (word_lacks 10 b.block refl name) (refl, tt)) (number_clean (x - b.first) low))
          (refl, tt);
      short = omega (
        arith,
        name.short,
        length-decimal-le 18 (x - b.first) (omega arith) (omega arith) (omega arith),
        length-append (b.block ++ 91 ∷ [] ++ decimal (x - b.first)) (93 ∷ []),
        length-append (b.block ++ 91 ∷ []) (decimal (x - b.first)),
        length-append b.block (91 ∷ []),
      );
    })

reply_fine : (r : Reply) → ReplyIsShort r → IsFine (reply_word r)
reply_fine Done h = literal_fine (codes "done") refl refl
reply_fine Pending h = literal_fine (codes "pending") refl refl
reply_fine (Number n) h = number_fine n h

-- at most three words of an act
record AreFine (words : List (List ℕ)) : Type 0 where
  each : AllByRecursion IsFine words
  few : length words ≤ 3

act_fine : (names : NameTable) (a : Act) → AreWords names → ActIsNamed names a → AreFine (act_words names a)
act_fine names (acts.Advance e) are h = record { each = (literal_fine (codes "advance") refl refl, (word_fine _ (named_by names (Event e) are h).plain, tt)); few = omega arith }
act_fine names (acts.Read e) are h = record { each = (literal_fine (codes "read") refl refl, (word_fine _ (named_by names (Event e) are h).plain, tt)); few = omega arith }
act_fine names (acts.Await e v) are h = record { each = (literal_fine (codes "await") refl refl, (word_fine _ (named_by names (Event e) are h.0).plain, (number_fine v h.1, tt))); few = omega arith }
act_fine names acts.Go are h = record { each = (literal_fine (codes "go") refl refl, tt); few = omega arith }
act_fine names (acts.Ticket q) are h = record { each = (literal_fine (codes "ticket") refl refl, (word_fine _ (named_by names (Sequencer q) are h).plain, tt)); few = omega arith }
act_fine names (acts.Put x v) are h = record { each = (literal_fine (codes "put") refl refl, (cell_fine names x are (has_block names x h.0) h.1, (number_fine v h.2, tt))); few = omega arith }
act_fine names (acts.Get x) are h = record { each = (literal_fine (codes "get") refl refl, (cell_fine names x are (has_block names x h.0) h.1, tt)); few = omega arith }
act_fine names (acts.Hand e b) are h = record {
  each = (literal_fine (codes "hand") refl refl, (word_fine _ (named_by names (Event e) are h.0).plain, (word_fine _ (named_by names (Worker b) are h.1).plain, tt)));
  few = omega arith;
}

fine_clean : (words : List (List ℕ)) → AllByRecursion IsFine words → AllByRecursion Lacks words
fine_clean [] h = tt
fine_clean (w ∷ ws) h = (h.0.clean, fine_clean ws h.1)

fine_short : (words : List (List ℕ)) → AllByRecursion IsFine words → length (join_with_byte 32 words) ≤ 65 * length words
fine_short [] h = omega arith
fine_short (w ∷ []) h = omega (arith, h.0.short)
fine_short (w ∷ v ∷ words) h = omega (arith, h.0.short, fine_short (v ∷ words) h.1, length-append w (32 ∷ join_with_byte 32 (v ∷ words)))

pub entry_line_is : (names : NameTable) (e : Entry) → AreWords names → IsSpellable names e → IsLine (entry_line names e)
unfolding entry_line
entry_line_is names e are may =
    let act = act_fine names e.act are may.act in
    let fine : AllByRecursion IsFine (entry_words names e) =
    each_append IsFine (target_name names (Worker e.worker) ∷ act_words names e.act) (codes "=" ∷ reply_word e.reply ∷ [])
    (word_fine _ (named_by names (Worker e.worker) are may.worker).plain, act.each) (literal_fine (codes "=") refl refl, (reply_fine e.reply may.reply, tt)) in
    line_is (join_with_byte 32 (entry_words names e)) (lacks_join (entry_words names e) (fine_clean (entry_words names e) fine))
    (omega (arith, fine_short (entry_words names e) fine, act.few, length-append (target_name names (Worker e.worker) ∷ act_words names e.act) (codes "=" ∷ reply_word e.reply ∷ [])))
