-- The lines of a history's events, entry by entry.
use Rattle.std.proofs.Common.{◌≡◌, ℕ, ◌+◌, ◌-◌, ◌<◌, ◌*◌, Bool, true, false, cond, List, [], ◌∷◌}
use Rattle.std.proofs.Common.{◌++◌, length, take, get_or, map, codes, decimal, Option}
use Rattle.std.proofs.Common.{refl, sym, ap, ◌∙◌, arith, append_assoc, append-nil}
use Rattle.std.specs.List.{flat_map, join_with_byte}
use Rattle.std.specs.Option.{option_map_or}
use Rattle.std.proofs.lemmas.List.{map-append, take_more}
use Rattle.std.proofs.lemmas.Option.{slice_get-get_or}
use Rattle.std.proofs.lemmas.List.Concat.{flat_map-append}
use Rattle.ec_count.specs.declared.target.Target.TheVariants.{Worker, Event, Sequencer}
use Rattle.ec_core.specs.declared.act.Act.{Act}
use Rattle.ec_core.specs.declared.act.Act.TheVariants as acts
use Rattle.ec_core.specs.declared.act.Reply.{Reply}
use Rattle.ec_core.specs.declared.act.Reply.TheVariants as replies
use Rattle.ec_core.specs.declared.act.Entry.{Entry}
use Rattle.ec_core.specs.Calls.{is_pending}
use Rattle.ec_heading.specs.HeadingModel.{HeadingModel}
use Rattle.ec_heading.specs.HeaderTree.{HeaderTree, heading_of_tree}
use Rattle.ec_heading.specs.Spelling.{NameTable, target_name, cell_word, act_words, reply_word}
use Rattle.ec_heading.specs.Spelling.{lines_text, heading_lines}
use Rattle.ec_trace.proofs.shared.LineParts.{text_of-append}
use Rattle.calls_core.specs.declared.history.Action.TheVariants.{Invoke, Respond}
use Rattle.calls_kernel.specs.Outside.{is_call, is_of_call, outside_object, outside_op, outside_reply}
use Rattle.calls_kernel.specs.Outside.{invocation_at, response_at, events_from, events_of}
use Rattle.calls_kernel.specs.Made.{act_on}
use Rattle.calls_extract.specs.Lines.{event_line, calls_text}
use Rattle.calls_extract.specs.kept.Entries.{call_text, return_text, entry_text, text_at}

-- THE ACT OF A CALL

past_first : (m q : ℕ) → (m + q) - m ≡ q
past_first m q = omega arith

past_second : (m n x : ℕ) → ((m + n) + x) - m - n ≡ x
past_second m n x = omega arith

-- the object and the operation of a call give the act that begins it
act_found : (h : HeadingModel) (act : Act) → is_call act ≡ true
    → act_on h.setup (outside_object h.setup act) (outside_op act) ≡ act
act_found h (acts.Advance e) c = refl
act_found h (acts.Read e) c = refl
act_found h (acts.Await e v) c = refl
act_found h (acts.Ticket q) c = ap acts.Ticket (past_first (length h.setup.events) q)
act_found h (acts.Put x v) c =
    ap (λ y. acts.Put y v) (past_second (length h.setup.events) (length h.setup.takers) x)
act_found h (acts.Get x) c =
    ap acts.Get (past_second (length h.setup.events) (length h.setup.takers) x)
act_found h acts.Go c = cc
act_found h (acts.Hand e b) c = cc

-- THE LINES OF AN ENTRY

-- a first word, a second one and words after it
joined : (w v : List ℕ) (u : List ℕ) (us : List (List ℕ))
    → join_with_byte 32 (w ∷ v ∷ u ∷ us) ≡ (w ++ (32 ∷ v)) ++ 32 ∷ join_with_byte 32 (u ∷ us)
joined w v u us = sym (append_assoc w (32 ∷ v) (32 ∷ join_with_byte 32 (u ∷ us)))

-- an act has at least one word
call_joined : (names : NameTable) (w : List ℕ) (act : Act)
    → join_with_byte 32 (w ∷ codes "calls" ∷ act_words names act)
    ≡ (w ++ codes " calls") ++ 32 ∷ join_with_byte 32 (act_words names act)
call_joined names w (acts.Advance e) =
    joined w (codes "calls") (codes "advance") (target_name names (Event e) ∷ [])
call_joined names w (acts.Read e) =
    joined w (codes "calls") (codes "read") (target_name names (Event e) ∷ [])
call_joined names w (acts.Await e v) =
    joined w (codes "calls") (codes "await") (target_name names (Event e) ∷ decimal v ∷ [])
call_joined names w (acts.Ticket q) =
    joined w (codes "calls") (codes "ticket") (target_name names (Sequencer q) ∷ [])
call_joined names w (acts.Put x v) =
    joined w (codes "calls") (codes "put") (cell_word names x ∷ decimal v ∷ [])
call_joined names w (acts.Get x) =
    joined w (codes "calls") (codes "get") (cell_word names x ∷ [])
call_joined names w acts.Go = joined w (codes "calls") (codes "go") []
call_joined names w (acts.Hand e b) =
    joined w (codes "calls") (codes "hand")
    (target_name names (Event e) ∷ target_name names (Worker b) ∷ [])

call_lines : (h : HeadingModel) (at w : ℕ) (act : Act) (b : Bool) → is_call act ≡ b
    → lines_text (map (event_line h) (cond b (record {
      at = at;
      worker = w;
      action = Invoke (outside_object h.setup act) (outside_op act);
    } ∷ []) []))
    ≡ cond b (((target_name h.words (Worker w) ++ codes " calls")
    ++ 32 ∷ join_with_byte 32 (act_words h.words act)) ++ 10 ∷ []) []
call_lines h at w act false c = refl
call_lines h at w act true c =
    ap (λ (a : Act). lines_text (join_with_byte 32
    (target_name h.words (Worker w) ∷ codes "calls" ∷ act_words h.words a) ∷ []))
    (act_found h act c)
    ∙ append-nil (join_with_byte 32
    (target_name h.words (Worker w) ∷ codes "calls" ∷ act_words h.words act) ++ 10 ∷ [])
    ∙ ap (λ (l : List ℕ). l ++ 10 ∷ []) (call_joined h.words (target_name h.words (Worker w)) act)

return_lines : (h : HeadingModel) (at w : ℕ) (reply : Reply) (b : Bool)
    → lines_text (map (event_line h) (cond (is_pending reply) [] (cond b (record {
      at = at;
      worker = w;
      action = Respond (outside_reply reply);
    } ∷ []) [])))
    ≡ cond (is_pending reply) [] (cond b (((target_name h.words (Worker w) ++ codes " returns ")
    ++ reply_word reply) ++ 10 ∷ []) [])
return_lines h at w replies.Done false = refl
return_lines h at w replies.Pending b = refl
return_lines h at w (replies.Number n) false = refl
return_lines h at w replies.Done true =
    append-nil (join_with_byte 32
    (target_name h.words (Worker w) ∷ codes "returns" ∷ codes "done" ∷ []) ++ 10 ∷ [])
    ∙ ap (λ (l : List ℕ). l ++ 10 ∷ [])
    (sym (append_assoc (target_name h.words (Worker w)) (codes " returns ") (codes "done")))
return_lines h at w (replies.Number n) true =
    append-nil (join_with_byte 32
    (target_name h.words (Worker w) ∷ codes "returns" ∷ decimal n ∷ []) ++ 10 ∷ [])
    ∙ ap (λ (l : List ℕ). l ++ 10 ∷ [])
    (sym (append_assoc (target_name h.words (Worker w)) (codes " returns ") (decimal n)))

entry_lines : (h : HeadingModel) (i : ℕ) (x : Entry)
    → lines_text (map (event_line h) (invocation_at h.setup i x ++ response_at i x))
    ≡ entry_text h.words x
unfolding entry_text
entry_lines h i x =
    let call : lines_text (map (event_line h) (invocation_at h.setup i x)) ≡ call_text h.words x =
    call_lines h (2 * i) x.worker x.act (is_call x.act) refl in
    let response : lines_text (map (event_line h) (response_at i x)) ≡ return_text h.words x =
    return_lines h (2 * i + 1) x.worker x.reply (is_of_call x.act) in
    ap lines_text (map-append (event_line h) (invocation_at h.setup i x) (response_at i x))
    ∙ text_of-append (map (event_line h) (invocation_at h.setup i x))
    (map (event_line h) (response_at i x))
    ∙ ap (λ (l : List ℕ). l ++ lines_text (map (event_line h) (response_at i x))) call
    ∙ ap (λ (l : List ℕ). call_text h.words x ++ l) response

events_lines : (h : HeadingModel) (i : ℕ) (es : List Entry)
    → lines_text (map (event_line h) (events_from h.setup i es)) ≡ flat_map (entry_text h.words) es
events_lines h i [] = refl
events_lines h i (x ∷ es) =
    let one = invocation_at h.setup i x ++ response_at i x in
    let others = events_from h.setup (i + 1) es in
    ap lines_text (map-append (event_line h) one others)
    ∙ text_of-append (map (event_line h) one) (map (event_line h) others)
    ∙ ap (λ (l : List ℕ). l ++ lines_text (map (event_line h) others)) (entry_lines h i x)
    ∙ ap (λ (l : List ℕ). entry_text h.words x ++ l) (events_lines h (i + 1) es)

-- ALL LINES

pub one_more_entry : (names : NameTable) (es : List Entry) (i : ℕ) (all : List ℕ) → i < length es
    → all ++ flat_map (entry_text names) (take (i + 1) es)
    ≡ (all ++ flat_map (entry_text names) (take i es)) ++ text_at names es i
one_more_entry names [] i all lt = absurd (omega arith)
one_more_entry names (d ∷ ds) i all lt =
    let es = d ∷ ds in
    let e = get_or es i d in
    let f = entry_text names in
    ap (λ (xs : List Entry). all ++ flat_map f xs) (take_more es i d lt)
    ∙ ap (λ (r : List ℕ). all ++ r) (flat_map-append f (take i es) (e ∷ []))
    ∙ ap (λ (r : List ℕ). all ++ (flat_map f (take i es) ++ r)) (append-nil (f e))
    ∙ sym (append_assoc all (flat_map f (take i es)) (f e))
    ∙ ap (λ (o : Option Entry). (all ++ flat_map f (take i es)) ++ option_map_or f o [])
    (sym (slice_get-get_or es i d lt))

regroup : (a run es e : List (List ℕ))
    → (lines_text (a ++ run) ++ lines_text es)
    ++ lines_text e ≡ lines_text ((a ++ (run ++ es)) ++ e)
regroup a run es e =
    ap (λ (r : List ℕ). r ++ lines_text e) (sym (text_of-append (a ++ run) es))
    ∙ sym (text_of-append ((a ++ run) ++ es) e)
    ∙ ap (λ (r : List (List ℕ)). lines_text (r ++ e)) (append_assoc a run es)

pub calls_found : (o : HeaderTree) (entries : List Entry)
    → ((codes "evc-calls 1\n" ++ lines_text (heading_lines o ++ codes "run" ∷ []))
    ++ flat_map (entry_text (heading_of_tree o).words) entries) ++ codes "end\n"
    ≡ calls_text o entries
unfolding calls_text
calls_found o entries =
    let h = heading_of_tree o in
    let prefix = codes "evc-calls 1\n" ++ lines_text (heading_lines o ++ codes "run" ∷ []) in
    ap (λ (r : List ℕ). (prefix ++ r) ++ codes "end\n") (sym (events_lines h 0 entries))
    ∙ regroup (codes "evc-calls 1" ∷ heading_lines o) (codes "run" ∷ [])
    (map (event_line h) (events_of h.setup entries)) (codes "end" ∷ [])
