-- A line is read as the entry that it encodes, and as none if it encodes none.
use Rattle.std.proofs.Common.{◌≡◌, ◌≢◌, inl, inr, ℕ, ◌+◌, ◌<◌, ◌≤◌, List, [], ◌∷◌, length, cond, true, false, nat_lt, Option, Some, None, Result, Ok, Err, refl, sym, ap, subst, ◌∙◌, arith, codes, reverse}
use Rattle.std.specs.Prelude.{bytes_eq, nat_le}
use Rattle.std.proofs.lemmas.Bool.{true≢false, false_from_ne_true, ltb-true, leb-true, lt-leb, le-ltb, or_from}
use Rattle.std.proofs.lemmas.Slice.Eq.{bytes_eq-Decides}
use Rattle.ec_core.specs.Acceptance.{names_unknown_object, is_too_large, answer_of}
use Rattle.ec_core.specs.Values.{TellsAtMost}
use Rattle.ec_core.specs.declared.act.TheConstants.{VALUE_MAX}
use Rattle.ec_core.specs.declared.act.Act.{Act}
use Rattle.ec_core.specs.declared.act.Act.TheVariants as acts
use Rattle.ec_core.specs.declared.act.Reply.{Reply}
use Rattle.ec_core.specs.declared.act.Reply.TheVariants.{Done, Number, Pending}
use Rattle.ec_core.specs.declared.act.Refusal.{Refusal}
use Rattle.ec_core.specs.declared.act.Entry.{Entry}
use Rattle.ec_count.specs.Names.{find_name}
use Rattle.ec_count.specs.declared.target.Target.TheVariants.{Worker, Event, Sequencer, Cells}
use Rattle.ec_text.specs.Words.{words_of, number_in_word}
use Rattle.ec_text.proofs.shared.NumberLemmas.{number_takes, guarded}
use Rattle.ec_heading.specs.HeadingModel.{HeadingModel}
use Rattle.ec_heading.specs.Lists.{worker_in}
use Rattle.ec_heading.specs.HeaderTree.{heading_of_tree}
use Rattle.ec_heading.specs.HeadingInvariant.{HasHeaderTree}
use Rattle.ec_heading.specs.EntryWords.{event_in, sequencer_in, cell_in_word}
use Rattle.ec_heading.specs.Versions.{can_spell}
use Rattle.ec_heading.proofs.shared.AddedObjects.{is_below}
use Rattle.ec_heading.proofs.shared.ReadHeadings.{IsSound, sound}
use Rattle.ec_heading.proofs.shared.ReadNames.{found_all}
use Rattle.ec_trace.specs.declared.fault.LineFault.{LineFault}
use Rattle.ec_trace.specs.declared.fault.LineFault.TheVariants.{Bad, Refused, WrongReply}
use Rattle.ec_trace.specs.Stages.{Running, Ended}
use Rattle.ec_trace.specs.Entries.{◌>>=◌, act_alone, act_on, act_with, parse_reply, entry_by, entry_in, entry_of}
use Rattle.ec_trace.specs.EntryLines.{MayBeWritten, SpellsEntry, SpellsNoEntry, SpellsInVersion, SpellsNoneInVersion, IsEntryFault, EntriesAreSpelled, OtherLinesSpellNone, FaultsOfEntries}
use Rattle.ec_trace.specs.TraceModel.{TraceModel}
use Rattle.ec_trace.specs.Step.{step, entry_step, after_entry, after_answer, map_running, same_reply}
use Rattle.ec_trace.proofs.LinesToTrees.{lines_lead}
use Rattle.ec_trace.proofs.ReadCells.{IsCell, cell_is}
use Rattle.ec_trace.proofs.ReadEntries.{IsSpellable, event_found, sequencer_found, worker_found, entry_again, entry_spelled}
use Rattle.ec_trace.proofs.CacheLemmas.{either, bound as bind_back}
use Rattle.ec_trace.proofs.ReadRuns.{with_entry, act_named, reply_short, same_self, same_is, not_end}

-- WHAT MAY BE WRITTEN HAS AN ENCODING

spellable : (h : HeadingModel) (e : Entry) → IsSound h → MayBeWritten h.setup e
    → IsSpellable h.words e
spellable h e is may = record { worker = is.workers e.worker may.worker; act = act_named h e.act is may.object may.value; reply = reply_short e.reply may.reply }

-- WHAT IS READ MAY BE WRITTEN

event_below : (h : HeadingModel) (word : List ℕ) (e : ℕ) → IsSound h → event_in h.words word ≡ Some e → e < length h.setup.events
event_below h word e is found = ltb-true _ _ (found_all (λ t. is_below h t ≡ true) h.words word (Event e) is.below (event_found (find_name word h.words) e found))

sequencer_below : (h : HeadingModel) (word : List ℕ) (q : ℕ) → IsSound h → sequencer_in h.words word ≡ Some q → q < length h.setup.takers
sequencer_below h word q is found = ltb-true _ _ (found_all (λ t. is_below h t ≡ true) h.words word (Sequencer q) is.below (sequencer_found (find_name word h.words) q found))

worker_below : (h : HeadingModel) (word : List ℕ) (w : ℕ) → IsSound h → worker_in h.words word ≡ Some w → w < h.setup.workers
worker_below h word w is found = ltb-true _ _ (found_all (λ t. is_below h t ≡ true) h.words word (Worker w) is.below (worker_found (find_name word h.words) w found))

cell_below : (h : HeadingModel) (word : List ℕ) (x : ℕ) → IsSound h → cell_in_word h.words word ≡ Some x → x < length h.setup.cells
cell_below h word x is found =
    let c : IsCell h.words word x = cell_is h.words word x found in
    let there : c.first + c.count ≤ length h.setup.cells = leb-true _ _ (found_all (λ t. is_below h t ≡ true) h.words c.block (Cells c.first c.count) is.below c.found) in
    omega (arith, c.inside, c.is)

-- the object of an act is declared, and its value is small
record IsNamed (h : HeadingModel) (a : Act) : Type 0 where
  object : names_unknown_object h.setup a ≡ false
  value : is_too_large a ≡ false

small_value : (word : List ℕ) (v : ℕ) → number_in_word word ≡ Some v → nat_lt VALUE_MAX v ≡ false
small_value word v is = (let t = number_takes word v is in le-ltb _ _ (omega (arith, t.1)))

alone_named : (h : HeadingModel) (verb : List ℕ) (a : Act) → act_alone verb ≡ Some a → IsNamed h a
unfolding act_alone
alone_named h verb a is =
    let g = guarded (bytes_eq verb (codes "go")) (Some acts.Go) a is in
    let same : acts.Go ≡ a = cc in
    subst (IsNamed h) same (record { object = refl; value = refl })

on_named : (h : HeadingModel) (verb object : List ℕ) (a : Act) → IsSound h → act_on h.words verb object ≡ Some a → IsNamed h a
unfolding act_on
on_named h verb object a s is = elim (either (bytes_eq verb (codes "advance")) _ _ a is) [
  | inl k ↦
      let e = bind_back (event_in h.words object) (λ e. Some (acts.Advance e)) a k.1 in
      let same : acts.Advance e.0 ≡ a = cc in
      subst (IsNamed h) same (record { object = lt-leb _ _ (event_below h object e.0 s e.1); value = refl })
  | inr h2 ↦ elim (either (bytes_eq verb (codes "read")) _ _ a h2) [
    | inl k ↦
        let e = bind_back (event_in h.words object) (λ e. Some (acts.Read e)) a k.1 in
        let same : acts.Read e.0 ≡ a = cc in
        subst (IsNamed h) same (record { object = lt-leb _ _ (event_below h object e.0 s e.1); value = refl })
    | inr h3 ↦ elim (either (bytes_eq verb (codes "ticket")) _ _ a h3) [
      | inl k ↦
          let q = bind_back (sequencer_in h.words object) (λ q. Some (acts.Ticket q)) a k.1 in
          let same : acts.Ticket q.0 ≡ a = cc in
          subst (IsNamed h) same (record { object = lt-leb _ _ (sequencer_below h object q.0 s q.1); value = refl })
      | inr h4 ↦
          let k = guarded (bytes_eq verb (codes "get")) _ a h4 in
          let x = bind_back (cell_in_word h.words object) (λ x. Some (acts.Get x)) a k.1 in
          let same : acts.Get x.0 ≡ a = cc in
          subst (IsNamed h) same (record { object = lt-leb _ _ (cell_below h object x.0 s x.1); value = refl })
    ]
  ]
]

with_named : (h : HeadingModel) (verb object value : List ℕ) (a : Act) → IsSound h → act_with h.words verb object value ≡ Some a → IsNamed h a
unfolding act_with
with_named h verb object value a s is = elim (either (bytes_eq verb (codes "await")) _ _ a is) [
  | inl k ↦
      let e = bind_back (event_in h.words object) (λ e. number_in_word value >>= λ v. Some (acts.Await e v)) a k.1 in
      let v = bind_back (number_in_word value) (λ v. Some (acts.Await e.0 v)) a e.2 in
      let same : acts.Await e.0 v.0 ≡ a = cc in
      subst (IsNamed h) same (record { object = lt-leb _ _ (event_below h object e.0 s e.1); value = small_value value v.0 v.1 })
  | inr h2 ↦ elim (either (bytes_eq verb (codes "put")) _ _ a h2) [
    | inl k ↦
        let x = bind_back (cell_in_word h.words object) (λ x. number_in_word value >>= λ v. Some (acts.Put x v)) a k.1 in
        let v = bind_back (number_in_word value) (λ v. Some (acts.Put x.0 v)) a x.2 in
        let same : acts.Put x.0 v.0 ≡ a = cc in
        subst (IsNamed h) same (record { object = lt-leb _ _ (cell_below h object x.0 s x.1); value = small_value value v.0 v.1 })
    | inr h3 ↦
        let k = guarded (bytes_eq verb (codes "hand")) _ a h3 in
        let e = bind_back (event_in h.words object) (λ e. worker_in h.words value >>= λ b. Some (acts.Hand e b)) a k.1 in
        let b = bind_back (worker_in h.words value) (λ b. Some (acts.Hand e.0 b)) a e.2 in
        let same : acts.Hand e.0 b.0 ≡ a = cc in
        let known = or_from (nat_le (length h.setup.events) e.0) (nat_le h.setup.workers b.0) (lt-leb _ _ (event_below h object e.0 s e.1)) (lt-leb _ _ (worker_below h value b.0 s b.1)) in
        subst (IsNamed h) same (record { object = known; value = refl })
  ]
]

reply_small : (word : List ℕ) (r : Reply) → parse_reply word ≡ Some r → TellsAtMost VALUE_MAX r
unfolding parse_reply
reply_small word r is = elim (either (bytes_eq word (codes "done")) _ _ r is) [
  | inl done ↦ (let same : Done ≡ r = cc in subst (TellsAtMost VALUE_MAX) same tt)
  | inr more ↦ elim (either (bytes_eq word (codes "pending")) _ _ r more) [
    | inl pending ↦ (let same : Pending ≡ r = cc in subst (TellsAtMost VALUE_MAX) same tt)
    | inr number ↦
        let n = bind_back (number_in_word word) (λ n. Some (Number n)) r number in
        let same : Number n.0 ≡ r = cc in
        let t = number_takes word n.0 n.1 in
        let small : n.0 ≤ VALUE_MAX = omega (arith, t.1) in
        subst (TellsAtMost VALUE_MAX) same small
  ]
]

by_written : (h : HeadingModel) (word : List ℕ) (o : Option Act) (equals answer : List ℕ) (e : Entry) → IsSound h → ((a : Act) → o ≡ Some a → IsNamed h a) → entry_by h.words word o equals answer ≡ Some e → MayBeWritten h.setup e
unfolding entry_by
by_written h word o equals answer e s named is =
    let a = bind_back o _ e is in
    let w = bind_back (worker_in h.words word) _ e a.2 in
    let g = guarded (bytes_eq equals (codes "=")) _ e w.2 in
    let r = bind_back (parse_reply answer) _ e g.1 in
    let same : record { worker = w.0; act = a.0; reply = r.0 } ≡ e = cc in
    let n : IsNamed h a.0 = named a.0 a.1 in
    subst (MayBeWritten h.setup) same (record { worker = worker_below h word w.0 s w.1; object = n.object; value = n.value; reply = reply_small answer r.0 r.1 })

words_written : (h : HeadingModel) (ws : List (List ℕ)) (e : Entry) → IsSound h → entry_in h.words ws ≡ Some e → MayBeWritten h.setup e
unfolding entry_in
words_written h [] e s is = cc
words_written h (w ∷ []) e s is = cc
words_written h (w ∷ v ∷ []) e s is = cc
words_written h (w ∷ v ∷ q ∷ []) e s is = cc
words_written h (w ∷ verb ∷ equals ∷ r ∷ []) e s is = by_written h w (act_alone verb) equals r e s (alone_named h verb) is
words_written h (w ∷ verb ∷ object ∷ equals ∷ r ∷ []) e s is = by_written h w (act_on h.words verb object) equals r e s (λ a k. on_named h verb object a s k) is
words_written h (w ∷ verb ∷ object ∷ value ∷ equals ∷ r ∷ []) e s is = by_written h w (act_with h.words verb object value) equals r e s (λ a k. with_named h verb object value a s k) is
words_written h (a ∷ b ∷ c ∷ d ∷ f ∷ g ∷ k ∷ ws) e s is = cc

line_written : (h : HeadingModel) (line : List ℕ) (e : Entry) → IsSound h → entry_of h.words line ≡ Some e → MayBeWritten h.setup e
unfolding entry_of
line_written h line e s is = words_written h (words_of line) e s is

-- BOTH DIRECTIONS

read_spells : (h : HeadingModel) (line : List ℕ) (e : Entry) → IsSound h → entry_of h.words line ≡ Some e → SpellsEntry h line e
read_spells h line e s is = (line_written h line e s is, entry_spelled h.words line e s.apart is)

spelled_reads : (h : HeadingModel) (line : List ℕ) (e : Entry) → IsSound h → SpellsEntry h line e → entry_of h.words line ≡ Some e
spelled_reads h line e s is = ap (entry_of h.words) is.1 ∙ entry_again h.words e s.words (spellable h e s is.0)

pub entries_spelled : EntriesAreSpelled
entries_spelled o line e is = (read_spells (heading_of_tree o) line e (sound o is), spelled_reads (heading_of_tree o) line e (sound o is))

none_spelled : (h : HeadingModel) (line : List ℕ) → IsSound h → entry_of h.words line ≡ None → SpellsNoEntry h line
none_spelled h line s none e is = (let k : None ≡ Some e = sym none ∙ spelled_reads h line e s is in cc)

none_read : (h : HeadingModel) (line : List ℕ) → IsSound h → SpellsNoEntry h line → entry_of h.words line ≡ None
none_read h line s none = (elim (entry_of h.words line) as (λ o. entry_of h.words line ≡ o → o ≡ None) [
  | None ↦ λ q. refl
  | Some e ↦ λ q. absurd (none e (read_spells h line e s q))
]) refl

pub others_spell_none : OtherLinesSpellNone
others_spell_none o line is = (none_spelled (heading_of_tree o) line (sound o is), none_read (heading_of_tree o) line (sound o is))

-- THE FAULT OF A LINE

same_fault : {S : Type 0} (f g : LineFault) (r : Result S LineFault) → r ≡ Err f → r ≡ Err g → f ≡ g
same_fault f g r is too = cc

-- an entry that was read and that the version allows, and its reply or refusal
answered_fault : (t : TraceModel) (line : List ℕ) (e : Entry) (r : Result Reply Refusal) (fault : LineFault) → SpellsInVersion t.heading line e → answer_of t.heading.setup (reverse t.entries) e.worker e.act ≡ r
    → after_answer t e r ≡ Err fault → IsEntryFault t line fault
answered_fault t line e (Err refusal) fault spells answer is = subst (IsEntryFault t line) (same_fault (Refused refusal) fault (after_answer t e (Err refusal)) refl is) (e, spells, answer)
answered_fault t line e (Ok right) fault spells answer is =
    elim (same_reply right e.reply) as (λ b. same_reply right e.reply ≡ b → cond b (Ok (with_entry t e)) (Err (WrongReply right)) ≡ Err fault → IsEntryFault t line fault) [
      | true ↦ λ q g. cc
      | false ↦ λ q g.
          (let other : right ≢ e.reply = λ same. true≢false (sym (same_self right) ∙ ap (same_reply right) same ∙ q) in
          let is : WrongReply right ≡ fault = cc in
          subst (IsEntryFault t line) is (e, spells, answer, other))
    ] refl is

not_the_end : (line : List ℕ) → bytes_eq line (codes "end") ≡ false → line ≢ codes "end"
not_the_end line other same = true≢false (sym ((bytes_eq-Decides line (codes "end")).1 same) ∙ other)

-- a line that encodes an entry which the version doesn't allow encodes no other
no_other : (h : HeadingModel) (line : List ℕ) (e : Entry) → IsSound h → entry_of h.words line ≡ Some e → can_spell h.version e.act ≡ false → SpellsNoneInVersion h line
no_other h line e s read off f spells =
    let k : Some f ≡ Some e = sym (spelled_reads h line f s spells.0) ∙ read in
    let same : f ≡ e = cc in
    true≢false (sym (subst (λ (x : Entry). can_spell h.version x.act ≡ true) same spells.1) ∙ off)

entered_fault : (t : TraceModel) (line : List ℕ) (o : Option Entry) (fault : LineFault) → IsSound t.heading → bytes_eq line (codes "end") ≡ false → entry_of t.heading.words line ≡ o → after_entry t o ≡ Err fault → IsEntryFault t line fault
entered_fault t line None fault s other read is =
    subst (IsEntryFault t line) (same_fault Bad fault (after_entry t None) refl is) (not_the_end line other, λ e spells. none_spelled t.heading line s read e spells.0)
entered_fault t line (Some e) fault s other read is =
    elim (can_spell t.heading.version e.act) as (λ b. can_spell t.heading.version e.act ≡ b → cond b (after_answer t e (answer_of t.heading.setup (reverse t.entries) e.worker e.act)) (Err Bad) ≡ Err fault → IsEntryFault t line fault) [
      | true ↦ λ q g. answered_fault t line e (answer_of t.heading.setup (reverse t.entries) e.worker e.act) fault (read_spells t.heading line e s read, q) refl g
      | false ↦ λ q g. subst (IsEntryFault t line) (same_fault Bad fault (after_entry t None) refl g) (not_the_end line other, no_other t.heading line e s read q)
    ] refl is

ran_fault : (r : Result TraceModel LineFault) (fault : LineFault) → map_running r ≡ Err fault → r ≡ Err fault
ran_fault (Ok t) fault is = cc
ran_fault (Err f) fault is = ap Err (same_fault f fault (map_running (Err f)) refl is)

fault_told : (t : TraceModel) (line : List ℕ) (fault : LineFault) → IsSound t.heading → step (Running t) line ≡ Err fault → IsEntryFault t line fault
unfolding step entry_step
fault_told t line fault s is =
    elim (bytes_eq line (codes "end")) as (λ b. bytes_eq line (codes "end") ≡ b → cond b (Ok (Ended t)) (map_running (entry_step t line)) ≡ Err fault → IsEntryFault t line fault) [
      | true ↦ λ q g. cc
      | false ↦ λ q g. entered_fault t line (entry_of t.heading.words line) fault s q refl (ran_fault (entry_step t line) fault g)
    ] refl is

-- the step at an entry that was read and that the version allows
at_entry : (t : TraceModel) (line : List ℕ) (e : Entry) → IsSound t.heading → SpellsInVersion t.heading line e → step (Running t) line ≡ map_running (after_answer t e (answer_of t.heading.setup (reverse t.entries) e.worker e.act))
unfolding step entry_step
at_entry t line e s spells =
    let read : entry_of t.heading.words line ≡ Some e = spelled_reads t.heading line e s spells.0 in
    rw (not_end t.heading.words line e read, read) (rw spells.1 refl)

off_reply : (right r : Reply) → right ≢ r → same_reply right r ≡ false
off_reply right r off = false_from_ne_true _ (λ same. off (same_is right r same))

-- if the line encodes no entry that the version allows, an entry that was read is not allowed by it
bad_entry : (t : TraceModel) (line : List ℕ) (o : Option Entry) → IsSound t.heading → SpellsNoneInVersion t.heading line → entry_of t.heading.words line ≡ o → after_entry t o ≡ Err Bad
bad_entry t line None s none read = refl
bad_entry t line (Some e) s none read =
    let off : can_spell t.heading.version e.act ≡ false = false_from_ne_true _ (λ can. none e (read_spells t.heading line e s read, can)) in
    rw off refl

fault_is : (t : TraceModel) (line : List ℕ) (fault : LineFault) → IsSound t.heading → IsEntryFault t line fault → step (Running t) line ≡ Err fault
unfolding step entry_step
fault_is t line Bad s (other, none) =
    let off : bytes_eq line (codes "end") ≡ false = false_from_ne_true _ (λ same. other ((bytes_eq-Decides line (codes "end")).0 same)) in
    rw off (ap map_running (bad_entry t line (entry_of t.heading.words line) s none refl))
fault_is t line (Refused r) s (e, spells, answer) = at_entry t line e s spells ∙ ap (λ a. map_running (after_answer t e a)) answer
fault_is t line (WrongReply right) s (e, spells, answer, other) =
    at_entry t line e s spells ∙ ap (λ a. map_running (after_answer t e a)) answer ∙ rw (off_reply right e.reply other) refl

pub faults_of_entries : FaultsOfEntries
faults_of_entries before t line fault leads =
    let has : HasHeaderTree t.heading = lines_lead before t leads in
    let s : IsSound t.heading = subst IsSound has.declares (sound has.outline has.is) in
    (fault_told t line fault s, fault_is t line fault s)
