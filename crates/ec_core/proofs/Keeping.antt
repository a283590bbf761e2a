-- How entries are packed, and the words of their numbers stored.
use Rattle.std.proofs.Common.{◌≡◌, ℕ, zero, suc, ◌+◌, ◌-◌, ◌*◌, ◌/◌, ◌%◌, ◌^◌, ◌<◌, ◌≤◌, true, false, cond, List, [], ◌∷◌, ◌++◌, append-nil, drop, take, length, length-append, nat_lt, slice_get, Some, refl, ap, sym, ◌∙◌, arith}
use Rattle.std.proofs.lemmas.Bool.{lt-ltb}
use Rattle.std.proofs.lemmas.List.{drop-append-le, drop-drop, length-drop, nil_from_length, take-append-le, take_all}
use Rattle.ec_core.specs.declared.act.Act.{Act}
use Rattle.ec_core.specs.declared.act.Act.TheVariants as acts
use Rattle.ec_core.specs.declared.act.Reply.{Reply}
use Rattle.ec_core.specs.declared.act.Reply.TheVariants as replies
use Rattle.ec_core.specs.declared.act.Entry.{Entry}
use Rattle.ec_core.specs.declared.packed.ActTag.{ActTag}
use Rattle.ec_core.specs.declared.packed.ActTag.TheVariants as verbs
use Rattle.ec_core.specs.declared.packed.ReplyTag.{ReplyTag}
use Rattle.ec_core.specs.declared.packed.ReplyTag.TheVariants as answers
use Rattle.ec_core.specs.declared.packed.PackedEntry.{PackedEntry}
use Rattle.ec_core.specs.kept.Packed.{words_of_option, words_in, word_number, two_word_number, act_tag, value_in, receiver_in, receiver_of, unpack_act, reply_tag, number_in, unpack_reply, value_word_count, number_word_count, word_count, total_word_count, pack_entry, unpack_entry, unpack_entries, AreStarts, IsSegment}

-- WHAT WAS ADDED IS READ

long_again : (n : ℕ) (more : List ℕ) → two_word_number ((n % 2 ^ 32) ∷ (n / 2 ^ 32) ∷ more) ≡ n
long_again n more = omega arith

act_again : (act : Act) (more : List ℕ) → receiver_in act < 16 → unpack_act (act_tag act) (words_of_option (value_in act) ++ more) ≡ act
act_again (acts.Advance e) more h = refl
act_again (acts.Read e) more h = refl
act_again (acts.Await e v) more h =
    elim (nat_lt v (2 ^ 32)) as (λ b. unpack_act (cond b (verbs.Await e) (verbs.AwaitLong e)) (cond b (v ∷ []) ((v % 2 ^ 32) ∷ (v / 2 ^ 32) ∷ []) ++ more) ≡ acts.Await e v) [
      | true ↦ refl
      | false ↦ ap (acts.Await e) (long_again v more)
    ]
act_again acts.Go more h = refl
act_again (acts.Ticket q) more h = refl
act_again (acts.Put x v) more h =
    elim (nat_lt v (2 ^ 32)) as (λ b. unpack_act (cond b (verbs.Put x) (verbs.PutLong x)) (cond b (v ∷ []) ((v % 2 ^ 32) ∷ (v / 2 ^ 32) ∷ []) ++ more) ≡ acts.Put x v) [
      | true ↦ refl
      | false ↦ ap (acts.Put x) (long_again v more)
    ]
act_again (acts.Get x) more h = refl
act_again (acts.Hand e b) more h =
    ap (λ t. acts.Hand e (receiver_of (word_number (cond t (b ∷ []) ((b % 2 ^ 32) ∷ (b / 2 ^ 32) ∷ []) ++ more)))) (lt-ltb b (2 ^ 32) (omega arith))
    ∙ ap (λ t. acts.Hand e (cond t b 0)) (lt-ltb b 16 h)

reply_again : (reply : Reply) (more : List ℕ) → unpack_reply (reply_tag reply) (words_of_option (number_in reply) ++ more) ≡ reply
reply_again replies.Done more = refl
reply_again (replies.Number n) more =
    elim (nat_lt n (2 ^ 32)) as (λ b. unpack_reply (cond b answers.Number answers.LongNumber) (cond b (n ∷ []) ((n % 2 ^ 32) ∷ (n / 2 ^ 32) ∷ []) ++ more) ≡ replies.Number n) [
      | true ↦ refl
      | false ↦ ap replies.Number (long_again n more)
    ]
reply_again replies.Pending more = refl

value_counted : (act : Act) → receiver_in act < 16 → length (words_of_option (value_in act)) ≡ value_word_count (act_tag act)
value_counted (acts.Advance e) h = refl
value_counted (acts.Read e) h = refl
value_counted (acts.Await e v) h =
    elim (nat_lt v (2 ^ 32)) as (λ b. length (cond b (v ∷ []) ((v % 2 ^ 32) ∷ (v / 2 ^ 32) ∷ [])) ≡ value_word_count (cond b (verbs.Await e) (verbs.AwaitLong e))) [ true ↦ refl | false ↦ refl ]
value_counted acts.Go h = refl
value_counted (acts.Ticket q) h = refl
value_counted (acts.Put x v) h =
    elim (nat_lt v (2 ^ 32)) as (λ b. length (cond b (v ∷ []) ((v % 2 ^ 32) ∷ (v / 2 ^ 32) ∷ [])) ≡ value_word_count (cond b (verbs.Put x) (verbs.PutLong x))) [ true ↦ refl | false ↦ refl ]
value_counted (acts.Get x) h = refl
value_counted (acts.Hand e b) h = ap (λ t. length (cond t (b ∷ []) ((b % 2 ^ 32) ∷ (b / 2 ^ 32) ∷ []))) (lt-ltb b (2 ^ 32) (omega arith))

number_counted : (reply : Reply) → length (words_of_option (number_in reply)) ≡ number_word_count (reply_tag reply)
number_counted replies.Done = refl
number_counted (replies.Number n) =
    elim (nat_lt n (2 ^ 32)) as (λ b. length (cond b (n ∷ []) ((n % 2 ^ 32) ∷ (n / 2 ^ 32) ∷ [])) ≡ number_word_count (cond b answers.Number answers.LongNumber)) [ true ↦ refl | false ↦ refl ]
number_counted replies.Pending = refl

pub width_counted : (e : Entry) → receiver_in e.act < 16
    → length (words_in e) ≡ word_count (pack_entry e)
width_counted e h =
    let value : length (words_of_option (value_in e.act)) ≡ value_word_count (act_tag e.act) = value_counted e.act h in
    let number : length (words_of_option (number_in e.reply)) ≡ number_word_count (reply_tag e.reply) = number_counted e.reply in
    let both : length (words_in e) ≡ length (words_of_option (value_in e.act)) + length (words_of_option (number_in e.reply)) = length-append (words_of_option (value_in e.act)) (words_of_option (number_in e.reply)) in
    omega arith

past_front : (prefix more : List ℕ) (n : ℕ) → length prefix ≡ n → drop n (prefix ++ more) ≡ more
past_front [] more zero h = refl
past_front [] more (suc n) h = absurd (omega arith)
past_front (w ∷ prefix) more zero h = absurd (omega arith)
past_front (w ∷ prefix) more (suc n) h = past_front prefix more n (omega arith)

-- an entry that was packed is unpacked from its words
entry_again : (e : Entry) → receiver_in e.act < 16 → unpack_entry (words_in e) (pack_entry e) ≡ e
entry_again e h =
    let vs = words_of_option (value_in e.act) in
    let ns = words_of_option (number_in e.reply) in
    let one : Act → Reply → Entry = λ a r. record { worker = e.worker; act = a; reply = r } in
    let rest : drop (value_word_count (act_tag e.act)) (vs ++ ns) ≡ ns = past_front vs ns (value_word_count (act_tag e.act)) (value_counted e.act h) in
    let reply : unpack_reply (reply_tag e.reply) ns ≡ e.reply = ap (unpack_reply (reply_tag e.reply)) (sym (append-nil ns)) ∙ reply_again e.reply [] in
    ap (λ a. one a (unpack_reply (reply_tag e.reply) (drop (value_word_count (act_tag e.act)) (vs ++ ns)))) (act_again e.act ns h)
    ∙ ap (λ zs. one e.act (unpack_reply (reply_tag e.reply) zs)) rest ∙ ap (one e.act) reply

-- WHAT WAS THERE STAYS

short_still : (ws more : List ℕ) → 1 ≤ length ws → word_number (ws ++ more) ≡ word_number ws
short_still [] more h = absurd (omega arith)
short_still (w ∷ ws) more h = refl

long_still : (ws more : List ℕ) → 2 ≤ length ws → two_word_number (ws ++ more) ≡ two_word_number ws
long_still [] more h = absurd (omega arith)
long_still (w ∷ []) more h = absurd (omega arith)
long_still (w ∷ x ∷ ws) more h = refl

act_still : (ws more : List ℕ) (v : ActTag) → value_word_count v ≤ length ws → unpack_act v (ws ++ more) ≡ unpack_act v ws
act_still ws more (verbs.Advance e) h = refl
act_still ws more (verbs.Read e) h = refl
act_still ws more (verbs.Await e) h = ap (acts.Await e) (short_still ws more h)
act_still ws more (verbs.AwaitLong e) h = ap (acts.Await e) (long_still ws more h)
act_still ws more verbs.Go h = refl
act_still ws more (verbs.Ticket q) h = refl
act_still ws more (verbs.Put x) h = ap (acts.Put x) (short_still ws more h)
act_still ws more (verbs.PutLong x) h = ap (acts.Put x) (long_still ws more h)
act_still ws more (verbs.Get x) h = refl
act_still ws more (verbs.Hand e) h = ap (λ n. acts.Hand e (receiver_of n)) (short_still ws more h)

reply_still : (ws more : List ℕ) (a : ReplyTag) → number_word_count a ≤ length ws → unpack_reply a (ws ++ more) ≡ unpack_reply a ws
reply_still ws more answers.Done h = refl
reply_still ws more answers.Number h = ap replies.Number (short_still ws more h)
reply_still ws more answers.LongNumber h = ap replies.Number (long_still ws more h)
reply_still ws more answers.Pending h = refl

entry_still : (ws more : List ℕ) (s : PackedEntry) → word_count s ≤ length ws → unpack_entry (ws ++ more) s ≡ unpack_entry ws s
entry_still ws more s h =
    let n = value_word_count s.verb in
    let one : Act → Reply → Entry = λ a r. record { worker = s.worker; act = a; reply = r } in
    let act : unpack_act s.verb (ws ++ more) ≡ unpack_act s.verb ws = act_still ws more s.verb (omega arith) in
    let rest : drop n (ws ++ more) ≡ drop n ws ++ more = drop-append-le n ws more (omega arith) in
    let left : length (drop n ws) ≡ length ws - n = length-drop n ws in
    let reply : unpack_reply s.answer (drop n ws ++ more) ≡ unpack_reply s.answer (drop n ws) = reply_still (drop n ws) more s.answer (omega arith) in
    ap (λ a. one a (unpack_reply s.answer (drop n (ws ++ more)))) act ∙ ap (λ zs. one (unpack_act s.verb ws) (unpack_reply s.answer zs)) rest ∙ ap (one (unpack_act s.verb ws)) reply

-- ONE MORE

pub one_more : (ws : List ℕ) (ss : List PackedEntry) (e : Entry) → receiver_in e.act < 16 → length ws ≡ total_word_count ss
    → unpack_entries (ws ++ words_in e) (ss ++ pack_entry e ∷ []) ≡ unpack_entries ws ss ++ e ∷ []
unfolding total_word_count unpack_entries
one_more ws [] e h is =
    ap (λ zs. unpack_entry (zs ++ words_in e) (pack_entry e) ∷ []) (nil_from_length ws is) ∙ ap (λ x. x ∷ []) (entry_again e h)
one_more ws (s ∷ ss) e h is =
    let rest : drop (word_count s) (ws ++ words_in e) ≡ drop (word_count s) ws ++ words_in e = drop-append-le (word_count s) ws (words_in e) (omega arith) in
    let left : length (drop (word_count s) ws) ≡ length ws - word_count s =
    length-drop (word_count s) ws in
    ap (λ x. x ∷ unpack_entries (drop (word_count s) (ws ++ words_in e)) (ss ++ pack_entry e ∷ [])) (entry_still ws (words_in e) s (omega arith))
    ∙ ap (λ zs. unpack_entry ws s ∷ unpack_entries zs (ss ++ pack_entry e ∷ [])) rest
    ∙ ap (λ es. unpack_entry ws s ∷ es) (one_more (drop (word_count s) ws) ss e h (omega arith))

pub widths_more : (ss : List PackedEntry) (s : PackedEntry)
    → total_word_count (ss ++ s ∷ []) ≡ total_word_count ss + word_count s
unfolding total_word_count
widths_more [] s = omega arith
widths_more (t ∷ ss) s = let rest : total_word_count (ss ++ s ∷ []) ≡ total_word_count ss + word_count s = widths_more ss s in omega arith

value_small : (v : ActTag) → value_word_count v ≤ 2
value_small (verbs.Advance e) = omega arith
value_small (verbs.Read e) = omega arith
value_small (verbs.Await e) = omega arith
value_small (verbs.AwaitLong e) = omega arith
value_small verbs.Go = omega arith
value_small (verbs.Ticket q) = omega arith
value_small (verbs.Put x) = omega arith
value_small (verbs.PutLong x) = omega arith
value_small (verbs.Get x) = omega arith
value_small (verbs.Hand e) = omega arith

number_small : (a : ReplyTag) → number_word_count a ≤ 2
number_small answers.Done = omega arith
number_small answers.Number = omega arith
number_small answers.LongNumber = omega arith
number_small answers.Pending = omega arith

pub width_small : (s : PackedEntry) → word_count s ≤ 4
width_small s =
    let value : value_word_count s.verb ≤ 2 = value_small s.verb in
    let number : number_word_count s.answer ≤ 2 = number_small s.answer in
    omega arith

pub widths_small : (ss : List PackedEntry) → total_word_count ss ≤ 4 * length ss
unfolding total_word_count
widths_small [] = omega arith
widths_small (s ∷ ss) =
    let rest : total_word_count ss ≤ 4 * length ss = widths_small ss in
    let first : word_count s ≤ 4 = width_small s in
    omega arith

-- WHERE THE WORDS OF AN ENTRY BEGIN

pub widths_cut : (a b : ℕ) (ss : List PackedEntry) → total_word_count (take (a + b) ss) ≡ total_word_count (take a ss) + total_word_count (take b (drop a ss))
unfolding total_word_count
widths_cut zero b ss = (let on : 0 + b ≡ b = omega arith in ap (λ n. total_word_count (take n ss)) on ∙ omega arith)
widths_cut (suc a) b [] =
    let on : suc a + b ≡ suc (a + b) = omega arith in
    let none : List PackedEntry = [] in
    let nothing : total_word_count (take b none) ≡ 0 =
    ap total_word_count (take_all b none (omega arith)) in
    ap (λ n. total_word_count (take n none)) on ∙ omega arith
widths_cut (suc a) b (s ∷ ss) =
    let on : suc a + b ≡ suc (a + b) = omega arith in
    let rest : total_word_count (take (a + b) ss) ≡ total_word_count (take a ss) + total_word_count (take b (drop a ss)) = widths_cut a b ss in
    ap (λ n. total_word_count (take n (s ∷ ss))) on ∙ omega arith

-- one more of them
pub widths_step : (ss : List PackedEntry) (i : ℕ) (s : PackedEntry) → slice_get ss i ≡ Some s → total_word_count (take (suc i) ss) ≡ total_word_count (take i ss) + word_count s
unfolding total_word_count
widths_step [] i s h = cc
widths_step (t ∷ ss) zero s h = (let same : t ≡ s = cc in ap (λ x. total_word_count (x ∷ [])) same ∙ omega arith)
widths_step (t ∷ ss) (suc i) s h = let rest : total_word_count (take (suc i) ss) ≡ total_word_count (take i ss) + word_count s = widths_step ss i s h in omega arith

pub widths_within : (i : ℕ) (ss : List PackedEntry)
    → total_word_count (take i ss) ≤ total_word_count ss
unfolding total_word_count
widths_within zero ss = omega arith
widths_within (suc i) [] = omega arith
widths_within (suc i) (s ∷ ss) = let rest : total_word_count (take i ss) ≤ total_word_count ss = widths_within i ss in omega arith

pub entry_at : (ws : List ℕ) (ss : List PackedEntry) (i : ℕ) (s : PackedEntry)
    → slice_get ss i ≡ Some s
    → slice_get (unpack_entries ws ss) i
    ≡ Some (unpack_entry (drop (total_word_count (take i ss)) ws) s)
unfolding total_word_count unpack_entries
entry_at ws [] i s h = cc
entry_at ws (t ∷ ss) zero s h = let same : t ≡ s = cc in ap (λ x. Some (unpack_entry ws x)) same
entry_at ws (t ∷ ss) (suc i) s h =
    entry_at (drop (word_count t) ws) ss i s h ∙ ap (λ zs. Some (unpack_entry zs s)) (drop-drop (total_word_count (take i ss)) (word_count t) ws)

pub length_kept : (ws : List ℕ) (ss : List PackedEntry) → length (unpack_entries ws ss) ≡ length ss
unfolding unpack_entries
length_kept ws [] = refl
length_kept ws (s ∷ ss) = ap suc (length_kept (drop (word_count s) ws) ss)

-- STARTS

pub starts_still : (ss : List PackedEntry) (s : PackedEntry) (starts : List ℕ) → AreStarts ss starts → length ss < 16 * length starts → AreStarts (ss ++ s ∷ []) starts
starts_still ss s starts are more =
    let few : 16 * length starts ≤ length ss + 16 = are.few in
    let longer : length (ss ++ s ∷ []) ≡ length ss + 1 = length-append ss (s ∷ []) in
    record {
      each = λ k h. are.each k h ∙ ap total_word_count (sym (take-append-le (16 * k) ss (s ∷ []) (omega arith)));
      many = omega arith;
      few = omega arith;
    }

pub none_begun : (room words_room : ℕ) → 4096 ≤ room → IsSegment [] [] [] room words_room
unfolding total_word_count
none_begun room words_room h =
    record { whole = refl; begun = record { each = λ k less. absurd (omega arith); many = omega arith; few = omega arith }; room = h; spare = omega arith }

-- ONE AFTER ANOTHER

pub first_kept : (ws : List ℕ) (ss : List PackedEntry) (s : PackedEntry) → slice_get ss 0 ≡ Some s → unpack_entries ws ss ≡ unpack_entry ws s ∷ unpack_entries (drop (word_count s) ws) (drop 1 ss)
unfolding unpack_entries
first_kept ws [] s h = cc
first_kept ws (t ∷ ss) s h = (let same : t ≡ s = cc in ap (λ x. unpack_entry ws x ∷ unpack_entries (drop (word_count x) ws) ss) same)

pub none_kept : (ws : List ℕ) (ss : List PackedEntry) → length ss < 1 → unpack_entries ws ss ≡ []
unfolding unpack_entries
none_kept ws [] h = refl
none_kept ws (s ∷ ss) h = absurd (omega arith)
