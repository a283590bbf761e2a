use Rattle.std.proofs.Common.{◌≡◌, ◌∷◌, ◌∙◌, ◌-◌, drop, length, slice_get, Some, refl, ap, sym, rules, arith}
use Rattle.std.proofs.lemmas.List.{length-drop, take_all}
use Rattle.std.proofs.lemmas.Option.{slice_get_read}
use Rattle.ec_core.specs.kept.Packed.{unpack_entries, word_count}
use Rattle.ec_core.proofs.Keeping.{first_kept, none_kept}
use Rattle.ec_core.proofs.segment.EntryIterIterator.next.Goals as goal

pub returns-in_default-clause-steps : goal.returns-in_default-clause-steps
returns-in_default-clause-steps c =
    let none = sym c.self.view_is ∙ none_kept c.self.inside.words c.self.inside.stored.now c.in_default.len_below in
    (none, none)

pub returns-clause-steps : goal.returns-clause-steps
returns-clause-steps c =
    let ws = c.self.inside.words in
    let ss = c.self.inside.stored.now in
    let s = c.first-item.result in
    let at : slice_get ss 0 ≡ Some s = slice_get_read ss (length ss) 0 s refl c.in-len1-up.len_at_least c.first-item.is in
    sym c.self.view_is ∙ first_kept ws ss s at ∙ ap (λ e. e ∷ unpack_entries (drop (word_count s) ws) (drop 1 ss)) (sym c.entry-entry.ensures.value)
    ∙ ap (λ zs. c.entry-entry.result ∷ unpack_entries zs (drop 1 ss)) (sym c.entry-entry.ensures.rest)
    ∙ ap (λ xs. c.entry-entry.result ∷ unpack_entries c.entry-entry.new.words xs) (sym (take_all (length ss - 1) (drop 1 ss) (omega (arith, length-drop 1 ss))))

pub returns-clause-goes : goal.returns-clause-goes
returns-clause-goes c = let e = returns-clause-steps c in search (rules, e)
