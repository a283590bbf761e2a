use Rattle.std.proofs.Common.{◌≡◌, ◌≤◌, ◌∙◌, drop, take, length, slice_get, Some, refl, ap, sym, arith}
use Rattle.std.proofs.lemmas.Option.{slice_get_read, slice_get_past}
use Rattle.ec_core.specs.kept.Packed.{unpack_entry, total_word_count}
use Rattle.ec_core.proofs.Keeping.{entry_at, length_kept, widths_within}
use Rattle.ec_core.proofs.segment.Segment.get.Goals as goal

pub returns-then-i-len-clause-value : goal.returns-then-i-len-clause-value
returns-then-i-len-clause-value c =
    let long : length c.args.self.now ≡ length c.self.inside.stored.items = ap length (sym c.self.view_is) ∙ length_kept c.self.inside.words.items c.self.inside.stored.items in
    sym (slice_get_past c.args.self.now c.args.i (omega arith))

pub of-words-requires : goal.of-words-requires
of-words-requires c =
    let ss = c.self.inside.stored.items in
    let some : total_word_count (take c.args.i ss) ≤ total_word_count ss =
    widths_within c.args.i ss in
    let start : c.word_start-start.result ≡ total_word_count (take c.args.i ss) = c.word_start-start.ensures ∙ ap (λ xs. total_word_count (take c.args.i xs)) c.deref.ensures.value in
    let whole : length c.self.inside.words.items ≡ total_word_count ss = c.self.invariant.whole in
    let same : length c.deref-3.result.now ≡ length c.self.inside.words.items = ap length c.deref-3.ensures.value in
    omega arith

pub returns-clause-value : goal.returns-clause-value
returns-clause-value c =
    let ss = c.self.inside.stored.items in
    let ws = c.self.inside.words.items in
    let s = c.index.result.now in
    let i = c.args.i in
    let at : slice_get ss i ≡ Some s = slice_get_read ss (length ss) i s refl (omega arith) c.index.ensures in
    let start : c.word_start-start.result ≡ total_word_count (take i ss) = c.word_start-start.ensures ∙ ap (λ xs. total_word_count (take i xs)) c.deref.ensures.value in
    let words : c.of-words.result ≡ drop (total_word_count (take i ss)) ws = c.of-words.ensures ∙ ap (λ n. drop n c.deref-3.result.now) start ∙ ap (drop (total_word_count (take i ss))) c.deref-3.ensures.value in
    ap Some (c.entry.ensures.value ∙ ap (λ xs. unpack_entry xs s) words) ∙ sym (entry_at ws ss i s at) ∙ ap (λ es. slice_get es i) c.self.view_is
