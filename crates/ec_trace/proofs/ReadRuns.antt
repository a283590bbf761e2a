-- The lines of entries, read one after another.
use Rattle.std.proofs.Common.{◌≡◌, ℕ, ◌<◌, ◌≤◌, List, [], ◌∷◌, ◌++◌, length, cond, Bool, true, false, Option, Some, None, Result, Ok, Err, map, refl, sym, ap, subst, ◌∙◌, arith, codes, append-nil, reverse}
use Rattle.std.specs.Prelude.{bytes_eq, nat_le}
use Rattle.std.specs.List.{AllByRecursion}
use Rattle.std.proofs.lemmas.Bool.{true≢false, eqb-true, eq-eqb, false_from_ne_true, leb-false, ltb-false, or_parts}
use Rattle.std.proofs.lemmas.List.{reverse-append}
use Rattle.std.proofs.lemmas.Slice.Eq.{bytes_eq-Decides}
use Rattle.std.proofs.Math.Seq.{append_snoc}
use Rattle.ec_count.specs.Tables.{Tables}
use Rattle.ec_core.specs.Acceptance.{answer_of, IsAccepted, names_unknown_object, is_too_large}
use Rattle.ec_core.specs.declared.act.TheConstants.{VALUE_MAX}
use Rattle.ec_core.specs.Values.{TellsAtMost}
use Rattle.ec_core.specs.declared.act.Act.{Act}
use Rattle.ec_core.specs.declared.act.Act.TheVariants as acts
use Rattle.ec_core.specs.declared.act.Reply.{Reply}
use Rattle.ec_core.specs.declared.act.Reply.TheVariants.{Done, Number, Pending}
use Rattle.ec_core.specs.declared.act.Refusal.{Refusal}
use Rattle.ec_core.specs.declared.act.Entry.{Entry}
use Rattle.ec_core.proofs.shared.Answering.{allowed}
use Rattle.ec_core.proofs.shared.Bounds.{told_small}
use Rattle.ec_heading.specs.HeadingModel.{HeadingModel}
use Rattle.ec_trace.specs.declared.fault.LineFault.{LineFault}
use Rattle.ec_trace.specs.declared.fault.LineFault.TheVariants.{Bad, WrongReply}
use Rattle.ec_trace.specs.Stages.{Stage, Running, Ended}
use Rattle.ec_trace.specs.TraceModel.{TraceModel}
use Rattle.ec_heading.specs.Spelling.{entry_line}
use Rattle.ec_heading.specs.EntryWords.{NameTable}
use Rattle.ec_heading.specs.Versions.{can_spell}
use Rattle.ec_trace.specs.Entries.{entry_in, entry_of}
use Rattle.ec_trace.specs.Step.{step, entry_step, after_entry, after_answer, map_running, same_reply}
use Rattle.ec_trace.specs.FirstFault.{Leads, IsLine}
use Rattle.ec_trace.proofs.TraceLines.{entry_line_is}
use Rattle.ec_heading.proofs.shared.ReadHeadings.{IsSound, is_declared}
use Rattle.ec_trace.proofs.ReadEntries.{ActIsNamed, ReplyIsShort, IsSpellable, entry_again, entry_spelled}
use Rattle.ec_core.proofs.shared.Moments.{accepted_before as accepted_end}

-- REVERSED HISTORIES THAT GROW

reversed : (pre : List Entry) (e : Entry) → reverse (pre ++ e ∷ []) ≡ e ∷ reverse pre
reversed pre e = reverse-append pre (e ∷ [])

accepted_front : (t : Tables) (pre es : List Entry) (e : Entry) → IsAccepted t (reverse (pre ++ e ∷ es)) → IsAccepted t (e ∷ reverse pre)
accepted_front t pre es e h =
    let shape : reverse (pre ++ e ∷ es) ≡ reverse es ++ (e ∷ reverse pre) =
    ap reverse (sym (append_snoc pre e es)) ∙ reverse-append (pre ++ e ∷ []) es ∙ ap (λ (r : List Entry). reverse es ++ r) (reversed pre e) in
    accepted_end t (reverse es) (e ∷ reverse pre) (subst (IsAccepted t) shape h)

-- AN ACCEPTED ENTRY HAS AN ENCODING

pub act_named : (h : HeadingModel) (a : Act) → IsSound h → names_unknown_object h.setup a ≡ false → is_too_large a ≡ false → ActIsNamed h.words a
act_named h (acts.Advance e) is known small = is.events e (leb-false _ _ known)
act_named h (acts.Read e) is known small = is.events e (leb-false _ _ known)
act_named h (acts.Await e v) is known small = (is.events e (leb-false _ _ known), (let l : v ≤ VALUE_MAX = ltb-false _ _ small in omega arith))
act_named h acts.Go is known small = tt
act_named h (acts.Ticket q) is known small = is.sequencers q (leb-false _ _ known)
act_named h (acts.Put x v) is known small =
    (is.cells x (leb-false _ _ known), (let l : x < length h.setup.cells = leb-false _ _ known in omega (arith, is.bounds.cells)), (let l : v ≤ VALUE_MAX = ltb-false _ _ small in omega arith))
act_named h (acts.Get x) is known small = (is.cells x (leb-false _ _ known), (let l : x < length h.setup.cells = leb-false _ _ known in omega (arith, is.bounds.cells)))
act_named h (acts.Hand e b) is known small =
    let k = or_parts (nat_le (length h.setup.events) e) (nat_le h.setup.workers b) known in
    (is.events e (leb-false _ _ k.0), is.workers b (leb-false _ _ k.1))

pub reply_short : (r : Reply) → TellsAtMost VALUE_MAX r → ReplyIsShort r
reply_short Done h = tt
reply_short Pending h = tt
reply_short (Number n) h = omega arith

pub may_be_spelled : (h : HeadingModel) (past : List Entry) (e : Entry) → IsSound h → IsAccepted h.setup (e ∷ past) → IsSpellable h.words e
may_be_spelled h past e is acc =
    let k = allowed h.setup past e.worker e.act e.reply acc.0 in
    record {
      worker = is.workers e.worker (leb-false _ _ k.0.declared);
      act = act_named h e.act is k.0.known k.0.small;
      reply = reply_short e.reply (told_small h.setup past e.worker e.act e.reply (is_declared h is) acc.1 acc.0);
    }

-- THE STEP OF AN ENTRY

pub same_self : (r : Reply) → same_reply r r ≡ true
same_self Done = refl
same_self Pending = refl
same_self (Number n) = eq-eqb n n refl

pub same_is : (q r : Reply) → same_reply q r ≡ true → q ≡ r
same_is Done Done h = refl
same_is Pending Pending h = refl
same_is (Number m) (Number n) h = ap Number (eqb-true m n h)
same_is _ _ h = absurd (true≢false (sym h))

no_end : (names : NameTable) → entry_of names (codes "end") ≡ None
unfolding entry_of entry_in
no_end names = refl

pub not_end : (names : NameTable) (line : List ℕ) (e : Entry) → entry_of names line ≡ Some e → bytes_eq line (codes "end") ≡ false
not_end names line e h =
    false_from_ne_true _ (λ same.
    let k : None ≡ Some e = sym (no_end names) ∙ ap (entry_of names) (sym ((bytes_eq-Decides line (codes "end")).0 same)) ∙ h in
    cc)

abbrev pub with_entry : TraceModel → Entry → TraceModel
with_entry t e = record { heading = t.heading; entries = t.entries ++ e ∷ [] }

entered_so : (t : TraceModel) (line : List ℕ) (e : Entry) → entry_of t.heading.words line ≡ Some e → can_spell t.heading.version e.act ≡ true
    → answer_of t.heading.setup (reverse t.entries) e.worker e.act ≡ Ok e.reply → entry_step t line ≡ Ok (with_entry t e)
unfolding entry_step
entered_so t line e is can right = rw is (rw can (rw right (rw (same_self e.reply) refl)))

steps_so : (t : TraceModel) (line : List ℕ) (e : Entry) → entry_of t.heading.words line ≡ Some e → can_spell t.heading.version e.act ≡ true
    → answer_of t.heading.setup (reverse t.entries) e.worker e.act ≡ Ok e.reply → step (Running t) line ≡ Ok (Running (with_entry t e))
unfolding step
steps_so t line e is can right = rw (not_end t.heading.words line e is) (ap map_running (entered_so t line e is can right))

-- the version allows each of the entries
abbrev pub EachInVersion : HeadingModel → List Entry → Type 0
EachInVersion h es = AllByRecursion (λ (e : Entry). can_spell h.version e.act ≡ true) es

-- the entries of an accepted history are read in order
pub entries_lead : (h : HeadingModel) (pre es : List Entry) → IsSound h → EachInVersion h es → IsAccepted h.setup (reverse (pre ++ es))
    → Leads (Running (record { heading = h; entries = pre })) (map (entry_line h.words) es) (Running (record { heading = h; entries = pre ++ es }))
entries_lead h pre [] is can acc = ap (λ (xs : List Entry). Running (record { heading = h; entries = xs })) (sym (append-nil pre))
entries_lead h pre (e ∷ es) is can acc =
    let now = accepted_front h.setup pre es e acc in
    let more : pre ++ e ∷ es ≡ (pre ++ e ∷ []) ++ es = sym (append_snoc pre e es) in (
      Running (record { heading = h; entries = pre ++ e ∷ [] }),
      steps_so (record { heading = h; entries = pre }) (entry_line h.words e) e (entry_again h.words e is.words (may_be_spelled h (reverse pre) e is now)) can.0 now.0,
      subst (λ (xs : List Entry). Leads (Running (record { heading = h; entries = pre ++ e ∷ [] })) (map (entry_line h.words) es) (Running (record { heading = h; entries = xs }))) (sym more)
          (entries_lead h (pre ++ e ∷ []) es is can.1 (subst (λ (xs : List Entry). IsAccepted h.setup (reverse xs)) more acc)),
    )

pub entries_are_lines : (h : HeadingModel) (pre es : List Entry) → IsSound h → IsAccepted h.setup (reverse (pre ++ es)) → AllByRecursion IsLine (map (entry_line h.words) es)
entries_are_lines h pre [] is acc = tt
entries_are_lines h pre (e ∷ es) is acc = (
  entry_line_is h.words e is.words (may_be_spelled h (reverse pre) e is (accepted_front h.setup pre es e acc)),
  entries_are_lines h (pre ++ e ∷ []) es is (subst (λ (xs : List Entry). IsAccepted h.setup (reverse xs)) (sym (append_snoc pre e es)) acc),
)

pub end_leads : (t : TraceModel) → Leads (Running t) (codes "end" ∷ []) (Ended t)
unfolding step
end_leads t = (Ended t, refl, refl)

-- LINES AFTER `run`

-- nothing follows the last line
after_end : (t u : TraceModel) (lines : List (List ℕ)) → Leads (Ended t) lines (Ended u) → (lines ≡ []) × (t ≡ u)
unfolding step
after_end t u [] h = (refl, cc)
after_end t u (line ∷ lines) h = (let k : Err Bad ≡ Ok h.0 = h.1 in cc)

pub answered_back : (t u : TraceModel) (e : Entry) (r : Result Reply Refusal) → after_answer t e r ≡ Ok u → (r ≡ Ok e.reply) × (u ≡ with_entry t e)
answered_back t u e (Err f) h = cc
answered_back t u e (Ok right) h =
    elim (same_reply right e.reply) as (λ b. same_reply right e.reply ≡ b → cond b (Ok (with_entry t e)) (Err (WrongReply right)) ≡ Ok u → (◌≡◌ {A = Result Reply Refusal} (Ok right) (Ok e.reply)) × (u ≡ with_entry t e)) [
      | true ↦ λ q g. (ap Ok (same_is right e.reply q), cc)
      | false ↦ λ q g. (cc)
    ] refl h

if_can : (b : Bool) (r : Result TraceModel LineFault) (u : TraceModel) → cond b r (Err Bad) ≡ Ok u → (r ≡ Ok u) × (b ≡ true)
if_can true r u h = (h, refl)
if_can false r u h = cc

pub entered_back : (t u : TraceModel) (o : Option Entry) → after_entry t o ≡ Ok u
    → (e : Entry) × (o ≡ Some e) × (after_answer t e (answer_of t.heading.setup (reverse t.entries) e.worker e.act) ≡ Ok u) × (can_spell t.heading.version e.act ≡ true)
entered_back t u None h = cc
entered_back t u (Some e) h =
    let k = if_can (can_spell t.heading.version e.act) (after_answer t e (answer_of t.heading.setup (reverse t.entries) e.worker e.act)) u h in
    (e, refl, k.0, k.1)

pub ran_back : (r : Result TraceModel LineFault) (s : Stage) → map_running r ≡ Ok s → (u : TraceModel) × (r ≡ Ok u) × (s ≡ Running u)
ran_back (Ok u) s h = (u, refl, cc)
ran_back (Err f) s h = cc

-- the line is the encoding of an entry that the version allows and that is accepted next
record IsNext (t : TraceModel) (line : List ℕ) (s : Stage) : Type 0 where
  entry : Entry
  spelled : line ≡ entry_line t.heading.words entry
  can : can_spell t.heading.version entry.act ≡ true
  right : answer_of t.heading.setup (reverse t.entries) entry.worker entry.act ≡ Ok entry.reply
  stage : s ≡ Running (with_entry t entry)

next_entry : (t : TraceModel) (line : List ℕ) (s : Stage) → IsSound t.heading → map_running (entry_step t line) ≡ Ok s → IsNext t line s
unfolding entry_step
next_entry t line s is h =
    let r = ran_back (entry_step t line) s h in
    let o = entered_back t r.0 (entry_of t.heading.words line) r.1 in
    let a = answered_back t r.0 o.0 (answer_of t.heading.setup (reverse t.entries) o.0.worker o.0.act) o.2 in
    record {
      entry = o.0;
      spelled = entry_spelled t.heading.words line o.0 is.apart o.1;
      can = o.3;
      right = a.0;
      stage = r.2 ∙ ap Running a.1;
    }

-- these lines are those of entries that the version allows and that are accepted, and `end`
pub record IsRunOf (h : HeadingModel) (pre : List Entry) (lines : List (List ℕ)) (t : TraceModel) : Type 0 where
  pub entries : List Entry
  pub lines_are : lines ≡ map (entry_line h.words) entries ++ codes "end" ∷ []
  pub ends : t ≡ record { heading = h; entries = pre ++ entries }
  pub accepted : IsAccepted h.setup (reverse (pre ++ entries))
  pub can : EachInVersion h entries

run_ends : (h : HeadingModel) (pre : List Entry) (line : List ℕ) (lines : List (List ℕ)) (t : TraceModel) → IsAccepted h.setup (reverse pre) → line ≡ codes "end" → (lines ≡ []) × (record { heading = h; entries = pre } ≡ t) → IsRunOf h pre (line ∷ lines) t
run_ends h pre line lines t acc is rest = record {
  entries = [];
  lines_are = cc (is, rest.0);
  ends = sym rest.1 ∙ ap (λ (xs : List Entry). record { heading = h; entries = xs }) (sym (append-nil pre));
  accepted = subst (λ (xs : List Entry). IsAccepted h.setup (reverse xs)) (sym (append-nil pre)) acc;
  can = tt;
}

run_along : (h : HeadingModel) (pre : List Entry) (e : Entry) (line : List ℕ) (lines : List (List ℕ)) (t : TraceModel) → line ≡ entry_line h.words e → can_spell h.version e.act ≡ true
    → IsRunOf h (pre ++ e ∷ []) lines t → IsRunOf h pre (line ∷ lines) t
run_along h pre e line lines t is can r = record {
  entries = e ∷ r.entries;
  lines_are = cc (is, r.lines_are);
  ends = r.ends ∙ ap (λ (xs : List Entry). record { heading = h; entries = xs }) (append_snoc pre e r.entries);
  accepted = subst (λ (xs : List Entry). IsAccepted h.setup (reverse xs)) (append_snoc pre e r.entries) r.accepted;
  can = (can, r.can);
}

stage_is : {X : Type 0} (x y : X) → ◌≡◌ {A = Result X LineFault} (Ok x) (Ok y) → y ≡ x
stage_is x y e = cc

pub run_back : (h : HeadingModel) (pre : List Entry) (lines : List (List ℕ)) (t : TraceModel) → IsSound h → IsAccepted h.setup (reverse pre)
    → Leads (Running (record { heading = h; entries = pre })) lines (Ended t) → IsRunOf h pre lines t
unfolding step
run_back h pre [] t is acc leads = cc
run_back h pre (line ∷ lines) t is acc (next, taken, leads) =
    let now : TraceModel = record { heading = h; entries = pre } in
    elim (bytes_eq line (codes "end")) as (λ b. bytes_eq line (codes "end") ≡ b → cond b (Ok (Ended now)) (map_running (entry_step now line)) ≡ Ok next → IsRunOf h pre (line ∷ lines) t) [
      | true ↦ λ q g. run_ends h pre line lines t acc ((bytes_eq-Decides line (codes "end")).0 q) (after_end now t lines (subst (λ (s : Stage). Leads s lines (Ended t)) (stage_is (Ended now) next g) leads))
      | false ↦ λ q g.
          (let n = next_entry now line next is g in
          run_along h pre n.entry line lines t n.spelled n.can
          (run_back h (pre ++ n.entry ∷ []) lines t is (subst (IsAccepted h.setup) (sym (reversed pre n.entry)) (n.right, acc)) (subst (λ (s : Stage). Leads s lines (Ended t)) n.stage leads)))
    ] refl taken
