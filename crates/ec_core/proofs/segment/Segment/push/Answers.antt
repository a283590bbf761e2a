use Rattle.std.proofs.Common.{◌≡◌, ◌+◌, ◌*◌, ◌<◌, ◌≤◌, ◌∙◌, [], ◌∷◌, ◌++◌, append_assoc, length, length-append, vec_capacity, ap, sym, subst, arith}
use Rattle.ec_core.specs.kept.Packed.{words_of_option, words_in, unpack_entries, value_in, pack_entry, word_count, total_word_count, AreStarts, IsSegment}
use Rattle.ec_core.proofs.Keeping.{length_kept, one_more, starts_still, width_counted, width_small, widths_more}
use Rattle.ec_core.proofs.segment.Segment.push.Goals as goal

pub reserve-requires-clause-few : goal.reserve-requires-clause-few
reserve-requires-clause-few c =
    let short : length c.args.self.now < 4096 = c.requires in
    let long : length c.args.self.now ≡ length c.self.inside.stored.items = ap length (sym c.self.view_is) ∙ length_kept c.self.inside.words.items c.self.inside.stored.items in
    let same : length c.deref.result.now ≡ length c.self.inside.stored.items = ap length c.deref.ensures.value in
    omega arith

pub push_reserved-requires : goal.push_reserved-requires
push_reserved-requires c =
    let short : length c.args.self.now < 4096 = c.requires in
    let long : length c.args.self.now ≡ length c.self.inside.stored.items = ap length (sym c.self.view_is) ∙ length_kept c.self.inside.words.items c.self.inside.stored.items in
    let wide : 4096 ≤ vec_capacity c.self.inside.stored = c.self.invariant.room in
    omega arith

-- the words once those of the entry are there
all_words : (c : goal.After-add-2) → c.add-2.new.words.items ≡ c.self.inside.words.items ++ words_in c.args.entry.now
all_words c =
    let ws = c.self.inside.words.items in
    let e = c.args.entry.now in
    c.add-2.ensures.items ∙ ap (λ xs. xs ++ words_of_option c.number_in.result) (c.add.ensures.items ∙ ap (λ xs. xs ++ words_of_option c.value_in.result) c.reserve.ensures.words)
    ∙ append_assoc ws (words_of_option c.value_in.result) (words_of_option c.number_in.result)
    ∙ ap (λ o. ws ++ (words_of_option o ++ words_of_option c.number_in.result)) c.value_in.ensures.value ∙ ap (λ o. ws ++ (words_of_option (value_in e.act) ++ words_of_option o)) c.number_in.ensures

-- the entries without their numbers, once the entry is there
all_stored : (c : goal.After-add-2) → c.push_reserved.new.self.items ≡ c.self.inside.stored.items ++ pack_entry c.args.entry.now ∷ []
all_stored c = c.push_reserved.ensures.items ∙ ap (λ s. c.self.inside.stored.items ++ s ∷ []) c.of.ensures

pub invariant_of-self-2 : goal.invariant_of-self-2
invariant_of-self-2 c =
    let ws = c.self.inside.words.items in
    let ss = c.self.inside.stored.items in
    let e = c.args.entry.now in
    let whole : length ws ≡ total_word_count ss = c.self.invariant.whole in
    let more : length (ws ++ words_in e) ≡ length ws + length (words_in e) = length-append ws (words_in e) in
    let own : length (words_in e) ≡ word_count (pack_entry e) = width_counted e c.value_in.ensures.receiver in
    let sum : total_word_count (ss ++ pack_entry e ∷ []) ≡ total_word_count ss + word_count (pack_entry e) = widths_more ss (pack_entry e) in
    let same : c.deref.result.now ≡ ss = c.deref.ensures.value in
    let starts : AreStarts ss c.reserve.new.starts.items = subst (λ xs. AreStarts xs c.reserve.new.starts.items) same c.reserve.ensures.begun in
    let marked : length ss < 16 * length c.reserve.new.starts.items = subst (λ xs. length xs < 16 * length c.reserve.new.starts.items) same c.in_ok-reserve.ensures.ok in
    let words : length c.reserve.new.words.items ≡ length ws = ap length c.reserve.ensures.words in
    let spare : length c.reserve.new.words.items + 64 * length c.reserve.new.starts.items ≤ vec_capacity c.reserve.new.words + 4 * length ss =
    subst (λ xs. length c.reserve.new.words.items + 64 * length c.reserve.new.starts.items ≤ vec_capacity c.reserve.new.words + 4 * length xs) same c.reserve.ensures.spare in
    let one : length (ss ++ pack_entry e ∷ []) ≡ length ss + 1 =
    length-append ss (pack_entry e ∷ []) in
    let few : word_count (pack_entry e) ≤ 4 = width_small (pack_entry e) in
    let first : vec_capacity c.add.new.words ≡ vec_capacity c.reserve.new.words = c.add.ensures.room in
    let second : vec_capacity c.add-2.new.words ≡ vec_capacity c.add.new.words = c.add-2.ensures.room in
    let place : vec_capacity c.push_reserved.new.self ≡ vec_capacity c.self.inside.stored = c.push_reserved.ensures.capacity in
    let wide : 4096 ≤ vec_capacity c.self.inside.stored = c.self.invariant.room in
    let is : IsSegment (ws ++ words_in e) (ss ++ pack_entry e ∷ []) c.reserve.new.starts.items (vec_capacity c.push_reserved.new.self) (vec_capacity c.add-2.new.words) =
    record { whole = omega arith; begun = starts_still ss (pack_entry e) c.reserve.new.starts.items starts marked; room = omega arith; spare = omega arith } in
    subst (λ xs. IsSegment xs c.push_reserved.new.self.items c.reserve.new.starts.items (vec_capacity c.push_reserved.new.self) (vec_capacity c.add-2.new.words)) (sym (all_words c))
    (subst (λ xs. IsSegment (ws ++ words_in e) xs c.reserve.new.starts.items (vec_capacity c.push_reserved.new.self) (vec_capacity c.add-2.new.words)) (sym (all_stored c)) is)

pub returns-clause-ok : goal.returns-clause-ok
returns-clause-ok c =
    let ws = c.self.inside.words.items in
    let ss = c.self.inside.stored.items in
    let e = c.args.entry.now in
    ap (λ xs. unpack_entries xs c.push_reserved.new.self.items) (all_words c) ∙ ap (unpack_entries (ws ++ words_in e)) (all_stored c)
    ∙ one_more ws ss e c.value_in.ensures.receiver c.self.invariant.whole ∙ ap (λ es. es ++ e ∷ []) c.self.view_is
